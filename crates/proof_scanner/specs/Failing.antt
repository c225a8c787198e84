-- What is wrong at a place of a text, where a row may begin with all pieces before it: there no step goes on.
use Rattle.std.specs.Prelude.{◌≡◌, ℕ, ◌<◌, ◌≤◌, List, ◌∷◌, ◌++◌, Bool, true, false, ◌==◌, ◌&&◌, ◌||◌, ◌⊎◌, nat_le, length, Option, Some}
use Rattle.defs_text.specs.Classes.{is_at_gap, is_document_marker}
use Rattle.defs_text.specs.Position.{Position, position_after}
use Rattle.defs_text.specs.Text.{is_empty}
use Rattle.defs_token.specs.Separation.{is_separation}
use Rattle.defs_text.specs.FlowScalar.{begins_with}
use Rattle.defs_token.specs.Account.{is_adjacent, before_past}
use Rattle.defs_token.specs.Plain.{is_value_indicator}
use Rattle.defs_token.specs.Step.{gives_node, quoted_scalar}
use Rattle.defs_token.specs.Indentation.{least_column, is_indented_by_spaces}
use Rattle.defs_token.specs.Key.{Line, taken, waits, begins_free_line, line_past_separation}
use Rattle.defs_token.specs.FlowEntry.{Entry}
use Rattle.defs_token.specs.FlowEntry as entry
use Rattle.defs_token.specs.RowAccount.{Site, Account, before_by, is_in_flow, site_in}
use Rattle.yaml_tokens.specs.declared.problem.Problem.{Problem}
use Rattle.yaml_tokens.specs.declared.problem.Problem.TheVariants as problem
use Rattle.proof_lexers.specs.Separations.{begins_separation}
use Rattle.proof_scanner.specs.PiecesRead.{comes_plain}
use Rattle.proof_scanner.specs.QuotedLines.{AreNotIndented, IsQuotedFault}
use Rattle.proof_scanner.specs.NoPiece.{NoPiece, IsPlainFault, IsQuoted, IsBlockFault, IsFollowed}

-- ---- a place

-- the site where a piece stands that is not for the document
abbrev pub site_at_place : Account → (here : Position) → Site
site_at_place a here = site_in (is_in_flow a.entries) gives_node here a.site

-- whether outside flow a node or an indicator has taken a line, so that no entry, no `?` and no empty key begins on it
abbrev pub is_taken_line : Option Line → Bool
is_taken_line (Some taken) = true
is_taken_line (Some (waits begin)) = true
is_taken_line _ = false

-- the same at a place, after a separation
abbrev pub is_taken : Account → (separation : List ℕ) → Bool
is_taken a separation = is_taken_line (line_past_separation false (begins_free_line a.site.before separation) a.line)

-- whether a colon is an indicator at a place, before the text after it
abbrev pub is_value_here : Account → (separation more : List ℕ) → Bool
is_value_here a separation more = is_value_indicator (is_in_flow a.entries) (is_adjacent (before_past (before_by a.site.before) separation)) more

-- whether a text is a line for the document: a marker or a directive, in column 0
abbrev pub begins_document_at : Position → List ℕ → Bool
begins_document_at here rest = (here.col == 0) && (begins_with 37 rest || is_document_marker rest)

-- ---- pieces that may not stand at a place

pub data MayNotStand (a : Account) (separation : List ℕ) (here : Position) (rest : List ℕ) : Problem → Position → Type 0 where
  -- in flow a piece lies in the least column or deeper
  shallow : is_in_flow a.entries ≡ true → begins_document_at here rest ≡ false → nat_le (least_column (site_at_place a here).blocks (site_at_place a here).awaits) here.col ≡ false
      → MayNotStand a separation here rest problem.InvalidIndentation here
  -- at most 255 flow collections are open
  too_deep : (bracket : ℕ) (more : List ℕ) → rest ≡ bracket ∷ more → ((bracket ≡ 91) ⊎ (bracket ≡ 123)) → 255 ≤ length a.entries → MayNotStand a separation here rest problem.FlowTooDeep here
  -- no entry of a block sequence begins in flow
  dash_in_flow : (more : List ℕ) → rest ≡ 45 ∷ more → is_at_gap more ≡ true → is_in_flow a.entries ≡ true → MayNotStand a separation here rest problem.BlockEntryInFlow here
  -- outside flow entries and explicit keys do not begin on a line that is taken
  dash_not_free : (more : List ℕ) → rest ≡ 45 ∷ more → is_at_gap more ≡ true → is_in_flow a.entries ≡ false → is_taken a separation ≡ true → MayNotStand a separation here rest problem.BlockEntryNotAllowed here
  -- the key of a single pair begins on the line of its colon
  key_on_earlier_line : (more : List ℕ) (begin : Position) (e : Entry) (es : List Entry) → rest ≡ 58 ∷ more → is_value_here a separation more ≡ true → a.entries ≡ e ∷ es → entry.takes_pair e.kind e.pair ≡ true → e.had ≡ entry.waits begin → begin.line < here.line
      → MayNotStand a separation here rest problem.ColonMisplaced here
  question_not_free : (more : List ℕ) → rest ≡ 63 ∷ more → is_at_gap more ≡ true → is_in_flow a.entries ≡ false → is_taken a separation ≡ true → MayNotStand a separation here rest problem.KeyNotAllowed here
  -- no TAB indents the line of a piece; that of the piece after a quoted scalar, which begins here, neither
  tab_indents : is_indented_by_spaces a.site.before a.site.blocks a.site.awaits separation ≡ false → MayNotStand a separation here rest problem.TabInBlockIndentation here
  tab_after_quoted : (single : Bool) (piece gap content : List ℕ) → rest ≡ piece ++ (gap ++ content) → IsQuoted single piece (gap ++ content) → is_separation false gap content ≡ true → is_empty content ≡ false → begins_separation content ≡ false
      → is_indented_by_spaces quoted_scalar (site_at_place a here).blocks (site_at_place a here).awaits gap ≡ false → MayNotStand a separation here rest problem.TabInBlockIndentation (position_after (position_after here piece (gap ++ content)) gap content)

-- ---- all

-- What is wrong at a place: no piece begins with the text there; the plain or quoted scalar that begins there is none; the block scalar that begins there may not stand before what follows it; or the piece that begins may not stand there, or not before what follows it.
pub data Fails (a : Account) (separation : List ℕ) (here : Position) (rest : List ℕ) (why : Problem) (at : Position) : Type 0 where
  no_piece : NoPiece (is_in_flow a.entries) here rest why at → Fails a separation here rest why at
  no_plain : comes_plain (is_in_flow a.entries) (is_adjacent (before_past (before_by a.site.before) separation)) here.col rest ≡ true
      → IsPlainFault (is_in_flow a.entries) (site_at_place a here).blocks here rest why at → Fails a separation here rest why at
  no_quoted : (single : Bool) → AreNotIndented single (least_column (site_at_place a here).blocks (site_at_place a here).awaits) rest → IsQuotedFault single (least_column (site_at_place a here).blocks (site_at_place a here).awaits) here rest why at → Fails a separation here rest why at
  no_block : is_in_flow a.entries ≡ false → IsBlockFault (site_at_place a here).blocks here rest why at → Fails a separation here rest why at
  followed : IsFollowed (is_in_flow a.entries) here rest why at → Fails a separation here rest why at
  may_not_stand : MayNotStand a separation here rest why at → Fails a separation here rest why at
