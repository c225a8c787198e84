-- What holds of the scanner's model where a piece begins, or at the text's end: a separation was passed, and block collections that end here have their ends.
use Rattle.std.specs.Prelude.{◌≡◌, ℕ, suc, ◌+◌, ◌≤◌, List, [], ◌++◌, Bool, true, false, ◌⊎◌, not, ◌==◌, length, Option, Some, None}
use Rattle.defs_text.specs.Position.{Position, position_after}
use Rattle.defs_text.specs.Text.{is_empty, has_no_nul}
use Rattle.defs_token.specs.Token.{Token}
use Rattle.defs_token.specs.Account.{is_adjacent, before_past}
use Rattle.defs_token.specs.Separation.{is_separation}
use Rattle.defs_token.specs.Step.{gives_node}
use Rattle.defs_token.specs.Column.{blocks_at}
use Rattle.defs_token.specs.Indentation.{is_indented_by_spaces}
use Rattle.defs_token.specs.Key.{Line, free, taken, is_waiting, begins_free_line, line_past_separation}
use Rattle.defs_token.specs.FlowEntry.{is_renewed}
use Rattle.defs_token.specs.RowAccount.{Site, Account, before_by, site_in}
use Rattle.defs_token.specs.Tokens.{ends_at}
use Rattle.model_scanner.specs.declared.level.FlowLevel.{FlowLevel}
use Rattle.model_scanner.specs.State.{Key, ScannerState}
use Rattle.proof_lexers.specs.Separations.{begins_separation}
use Rattle.proof_scanner.specs.Choices.{outside_key, chosen, MayChoose, IsCarriedOn}
use Rattle.proof_scanner.specs.Completes.{tokens_up_to, SoFar}
use Rattle.proof_scanner.specs.KnownKeys.{KnowsKey}
use Rattle.proof_scanner.specs.StandsInRow.{columns, has_open_level, AreLevels, AreEntries, is_free, IsOpenOutside, AreNumbered}

-- the site at a piece that is not for the document
abbrev pub site_here : (in_flow : Bool) → Position → Site → Site
site_here in_flow p s = site_in in_flow gives_node p s

-- the ends of the block collections that end here
abbrev pub ends_here : (in_flow : Bool) → Position → (before : List ℕ) → List Token
ends_here true p bs = []
ends_here false p bs = ends_at p bs (blocks_at false gives_node p.col bs)

-- What may begin here where no open key is one. A key that is open, and where the text goes on, has taken the line.
abbrev pub IsLineHere : (in_flow allowed : Bool) → (rest : List ℕ) → Option Key → Line → Type 0
IsLineHere true allowed rest k l = l ≡ taken
IsLineHere false allowed rest None l = ((l ≡ free) ⊎ (l ≡ taken)) × (allowed ≡ is_free l)
IsLineHere false allowed rest (Some k) l = is_empty rest ≡ false → (l ≡ taken) × (allowed ≡ false)

-- outside flow an open key is on this line, at most 1024 characters before
abbrev pub IsNear : Option Key → Position → Type 0
IsNear None p = Unit {0}
IsNear (Some k) p = (p.line ≤ k.position.line) × (p.index ≤ k.position.index + 1024)

-- What holds where a piece begins, if these are the flow levels, whatever the open keys and the entries are.
pub record ArrivesAmong (t : ScannerState) (fs : List FlowLevel) (site : Site) (line : Line) : Type 0 where
  pub separation : List ℕ
  pub tokens : List Token
  pub line_here : Line
  pub is_clean : has_no_nul t.rest ≡ true
  pub is_filled : is_separation false separation t.rest ≡ true
  pub is_solid : begins_separation t.rest ≡ false
  pub position_is : t.held.position ≡ position_after site.position separation t.rest
  pub blocks_are : (site_here (not (is_empty fs)) t.held.position site).blocks ≡ columns t.held.indent t.held.indents
  pub awaits_is : (site_here (not (is_empty fs)) t.held.position site).awaits ≡ has_open_level t.held.indents
  pub are_levels : AreLevels t.held.indent t.held.indents
  pub is_indented : is_empty t.rest ≡ false → is_indented_by_spaces site.before site.blocks site.awaits separation ≡ true
  pub is_line : line_past_separation (not (is_empty fs)) (begins_free_line site.before separation) line ≡ Some line_here
  pub no_key : is_waiting line ≡ false
  pub tokens_are : t.held.tokens ≡ tokens ++ ends_here (not (is_empty fs)) t.held.position site.blocks
  pub is_adjacent_here : is_empty fs ≡ false → is_empty t.rest ≡ false → is_adjacent (before_past (before_by site.before) separation) ≡ (t.held.position.index == t.held.adjacent_value_at)
  pub was_adjacent : t.held.adjacent_value_at ≤ t.held.position.index
  pub started : t.held.started ≡ true
  pub going : t.held.ended ≡ false

-- What holds there, with these flow levels and open keys, and the account after the last piece in which no open key is one.
pub record ArrivesWith (text : List ℕ) (t : ScannerState) (fs : List FlowLevel) (ks : List (Option Key)) (base : Account) : Type 0 where
  pub among : ArrivesAmong t fs base.site base.line
  pub open among use *
  pub one_each : length ks ≡ suc (length fs)
  pub are_entries : AreEntries t.held.key_allowed (is_renewed base.site.before separation) fs ks base.entries
  pub line_is : IsLineHere (not (is_empty fs)) t.held.key_allowed t.rest (outside_key base.entries ks) line_here
  pub is_open : IsOpenOutside (outside_key base.entries ks) base.site.position t.held.position t.rest base.site.blocks
  pub is_near : is_empty fs ≡ true → IsNear (outside_key base.entries ks) t.held.position
  pub are_numbered : AreNumbered (length tokens) ks
  pub carries : IsCarriedOn text (separation ++ t.rest) t.rest ks base
  pub completes : (strict c : Bool) (cs : List Bool) → MayChoose strict c (outside_key base.entries ks) t.held.position t.rest →
      SoFar strict text (separation ++ t.rest) (chosen c cs ks base) (tokens_up_to (chosen c cs ks base) ks tokens)

-- The state where a piece begins: that holds with one account.
pub record Arrives (text : List ℕ) (t : ScannerState) : Type 0 where
  pub base : Account
  pub known : ArrivesWith text t t.held.flow t.held.keys base
  pub open known use *
  pub knows : KnowsKey text (separation ++ t.rest) t.held.position (outside_key base.entries t.held.keys)
