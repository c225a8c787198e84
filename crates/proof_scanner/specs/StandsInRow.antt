-- What holds of the scanner's model between two fetches: what it holds is what a row up to there says, for each choice of the open keys.
use Rattle.std.specs.Prelude.{◌≡◌, ℕ, suc, ◌+◌, ◌-◌, ◌<◌, ◌≤◌, List, [], ◌∷◌, ◌++◌, Bool, true, false, ◌||◌, ◌⊎◌, not, length, if◌then◌else◌, Option, Some, None, Ok}
use Rattle.defs_text.specs.Classes.{is_break}
use Rattle.defs_text.specs.Breaks.{is_before_line_feed}
use Rattle.defs_text.specs.Position.{Position, position_after}
use Rattle.defs_text.specs.Text.{is_empty, has_no_nul}
use Rattle.defs_token.specs.Account.{FlowKind, sequence, mapping, before_past}
use Rattle.defs_token.specs.Separation.{is_separation}
use Rattle.defs_token.specs.Column.{is_in_column}
use Rattle.defs_token.specs.Indentation.{last_line, begins_line, is_indented_by_spaces}
use Rattle.defs_token.specs.Key.{Line, free, taken, is_waiting, begins_free_line}
use Rattle.defs_token.specs.FlowEntry.{Had, fresh, filled, settled, Pair, no_pair, single_pair, asked_pair, Entry, is_renewed}
use Rattle.defs_token.specs.Step.{Previous, plain_scalar, block_scalar, directive}
use Rattle.defs_token.specs.RowAccount.{Site, Account, before_by}
use Rattle.defs_text.specs.Classes.{is_one_of}
use Rattle.model_scanner.specs.declared.level.Indent.{Indent}
use Rattle.model_scanner.specs.declared.level.FlowLevel.{FlowLevel}
use Rattle.model_scanner.specs.declared.level.FlowLevel.TheVariants as level
use Rattle.model_scanner.specs.State.{Key, ScannerState}
use Rattle.defs_token.specs.Token.{Token}
use Rattle.defs_token.specs.Row.{IsRead}
use Rattle.model_scanner.specs.Fetch.{fetch}
use Rattle.model_scanner.specs.Run.{start, HasTokens}
use Rattle.proof_lexers.specs.PlainEnds.{begins_white}
use Rattle.proof_scanner.specs.Here.{IsLive, IsNotRight}
use Rattle.proof_scanner.specs.Order.{After}
use Rattle.proof_scanner.specs.Positions.{IsAtEnd}
use Rattle.proof_scanner.specs.Stands.{IsAdjacent}
use Rattle.defs_token.specs.Column.{innermost}
use Rattle.proof_scanner.specs.Choices.{outside_key, chosen, MayChoose, IsCarriedOn}
use Rattle.proof_scanner.specs.Completes.{tokens_up_to, SoFar}
use Rattle.proof_scanner.specs.KnownKeys.{KnowsKey}

-- ---- levels of indentation

-- the columns of the block collections among the levels of indentation
abbrev pub columns : (indent : ℕ) → List Indent → List ℕ
columns i [] = []
columns i (d ∷ ds) = (if d.needs_block_end then (i - 1) ∷ columns d.indent ds else columns d.indent ds)

-- whether the innermost level opens no collection: then the value of an entry is awaited
abbrev pub has_open_level : List Indent → Bool
has_open_level [] = false
has_open_level (d ∷ ds) = not d.needs_block_end

-- block collections alone, each deeper than the one around it; outside all of them the column is 0
abbrev pub AreCollections : (indent : ℕ) → List Indent → Type 0
AreCollections i [] = i ≡ 0
AreCollections i (d ∷ ds) = (d.needs_block_end ≡ true) × (d.indent < i) × AreCollections d.indent ds

-- the same, and on them at most one level that opens none, one column deeper than the innermost collection
abbrev pub IsTopLevel : (needs_block_end : Bool) → (indent outer : ℕ) → List Indent → Type 0
IsTopLevel true i outer ds = outer < i
IsTopLevel false i outer ds = (i ≡ outer + 1) × (is_empty ds ≡ false)

abbrev pub AreLevels : (indent : ℕ) → List Indent → Type 0
AreLevels i [] = i ≡ 0
AreLevels i (d ∷ ds) = IsTopLevel d.needs_block_end i d.indent ds × AreCollections d.indent ds

-- ---- flow levels

abbrev pub kind_of : FlowLevel → FlowKind
kind_of level.Mapping = mapping
kind_of level.Entry = sequence
kind_of level.Keyed = sequence
kind_of level.Pair = sequence

-- no pair has a start of its own
abbrev pub IsNotSingle : Pair → Type 0
IsNotSingle single_pair = ⊥
IsNotSingle _ = Unit {0}

-- the pair of an entry as the scanner holds it; whether an entry of a mapping has had a `?` does not matter
abbrev pub IsPairOf : FlowLevel → Pair → Type 0
IsPairOf level.Mapping p = IsNotSingle p
IsPairOf level.Entry p = p ≡ no_pair
IsPairOf level.Keyed p = p ≡ asked_pair
IsPairOf level.Pair p = p ≡ single_pair

abbrev pub is_fresh : Had → Bool
is_fresh fresh = true
is_fresh _ = false

-- What the innermost entry has had where no open key is one, and whether a key may begin; it may again after a plain scalar that was read over a break.
abbrev pub HasHadHere : (allowed again : Bool) → Option Key → Had → Type 0
HasHadHere allowed again (Some k) h = (h ≡ filled) × (allowed ≡ again)
HasHadHere allowed again None h = ((h ≡ fresh) ⊎ (h ≡ settled)) × (allowed ≡ (is_fresh h || again))

-- the same of an entry around it
abbrev pub HasHad : Option Key → Had → Type 0
HasHad (Some k) h = h ≡ filled
HasHad None h = h ≡ settled

-- a key of a flow entry is never one that must be
abbrev pub IsFreeKey : Option Key → Type 0
IsFreeKey None = Unit {0}
IsFreeKey (Some k) = k.required ≡ false

-- an entry's kind and pair are those of the flow level
pub record IsEntryOf (f : FlowLevel) (k : Option Key) (e : Entry) : Type 0 where
  pub kind_is : e.kind ≡ kind_of f
  pub pair_is : IsPairOf f e.pair
  pub key_is : IsFreeKey k

-- the entries around the innermost one
abbrev pub AreAround : List FlowLevel → List (Option Key) → List Entry → Type 0
AreAround [] ks [] = Unit {0}
AreAround (f ∷ fs) (k ∷ ks) (e ∷ es) = IsEntryOf f k e × HasHad k e.had × AreAround fs ks es
AreAround _ _ _ = ⊥

-- the entries of the open flow collections, the innermost first
abbrev pub AreEntries : (allowed again : Bool) → List FlowLevel → List (Option Key) → List Entry → Type 0
AreEntries allowed again [] ks [] = Unit {0}
AreEntries allowed again (f ∷ fs) (k ∷ ks) (e ∷ es) = IsEntryOf f k e × HasHadHere allowed again k e.had × AreAround fs ks es
AreEntries allowed again _ _ _ = ⊥

-- ---- outside flow

abbrev pub is_free : Line → Bool
is_free free = true
is_free _ = false

-- a key that is open, while it may be one, has taken the line
abbrev pub IsTakenBy : (allowed : Bool) → (here : Position) → (rest : List ℕ) → Option Key → Line → Type 0
IsTakenBy allowed p rest None l = Unit {0}
IsTakenBy allowed p rest (Some k) l = IsLive k p rest → (l ≡ taken) × (allowed ≡ false)

-- What may begin outside flow where no open key is one.
abbrev pub IsLine : (in_flow allowed broken : Bool) → (here : Position) → (rest : List ℕ) → Option Key → Line → Type 0
IsLine true allowed broken p rest k l = l ≡ taken
IsLine false allowed broken p rest k l = ((l ≡ free) ⊎ (l ≡ taken)) × (allowed ≡ (is_free l || broken)) × IsTakenBy allowed p rest k l

-- The open key outside flow, while it may be one: the innermost block collection is not right of it; and it must be one just where it is in that collection's column.
pub record IsOpenHere (k : Key) (p : Position) (collection : List ℕ) : Type 0 where
  pub column_is : IsNotRight (innermost collection) k.position.col
  pub must_be : k.required ≡ is_in_column k.position.col collection

-- The same; and it began before the position after the last piece.
abbrev pub IsOpenOutside : Option Key → (past_piece here : Position) → (rest collection : List ℕ) → Type 0
IsOpenOutside None q p rest bs = Unit {0}
IsOpenOutside (Some k) q p rest bs = After k.position q × (IsLive k p rest → IsOpenHere k p bs)

-- ---- open keys

-- an open key's number is one of the tokens so far
abbrev pub IsNumber : (many : ℕ) → Option Key → Type 0
IsNumber many None = Unit {0}
IsNumber many (Some k) = k.number < many

-- the tokens before an open key, or all of them
abbrev pub before_key : (many : ℕ) → Option Key → ℕ
before_key many None = many
before_key many (Some k) = k.number

-- the numbers of the open keys: each is less than that of the key inside
abbrev pub AreNumbered : (many : ℕ) → List (Option Key) → Type 0
AreNumbered many [] = Unit {0}
AreNumbered many (k ∷ ks) = IsNumber many k × AreNumbered (before_key many k) ks

-- ---- separations

-- whether the line of a text goes on with a comment, or holds no more
abbrev pub is_at_comment_or_end : List ℕ → Bool
is_at_comment_or_end [] = true
is_at_comment_or_end (c ∷ r) = is_break c || is_one_of (35 ∷ []) c

-- No TAB indents what comes next, unless a comment or nothing does.
abbrev pub HasNoTabs : Site → (separation rest : List ℕ) → Type 0
HasNoTabs s separation rest = (is_at_comment_or_end rest ≡ true) ⊎ (is_indented_by_spaces s.before s.blocks s.awaits separation ≡ true)

-- Only blanks stand before a position on its line, as the scanner holds it: in a block collection, and not in a comment.
abbrev pub IsLeading : (leading : Bool) → Site → (separation rest : List ℕ) → Type 0
IsLeading leading s separation rest =
    is_empty s.blocks ≡ false → is_empty rest ≡ false → is_one_of (last_line separation) 35 ≡ false → leading ≡ begins_line s.before separation

-- ---- what the last piece's function has read on over

-- whether the first character of a separation is not parted from the line feed that belongs to it
abbrev pub HasFirst : (separation rest : List ℕ) → Type 0
HasFirst [] rest = ⊥
HasFirst (c ∷ r) rest = is_before_line_feed c (r ++ rest) ≡ is_before_line_feed c r

-- After a plain scalar all blanks and breaks were read; a block scalar ends where a line does; after a directive the break of its line was read.
abbrev pub IsReadOn : Previous → (past_piece : Position) → (separation rest : List ℕ) → Type 0
IsReadOn plain_scalar q separation rest = begins_white rest ≡ false
IsReadOn block_scalar q separation rest = is_empty rest ≡ false → q.col ≡ 0
IsReadOn directive q separation rest = is_empty rest ≡ false → HasFirst separation rest
IsReadOn _ q separation rest = Unit {0}

-- ---- all

-- What holds of a state between two fetches, after the stream's start, with its flow levels and open keys, the account after the last piece in which no open key is one, and the separation that was read after the piece.
pub record StandsWith (text : List ℕ) (t : ScannerState) (fs : List FlowLevel) (ks : List (Option Key)) (base : Account) : Type 0 where
  pub separation : List ℕ
  pub is_clean : has_no_nul t.rest ≡ true
  pub is_filled : is_separation false separation t.rest ≡ true
  pub position_is : t.held.position ≡ position_after base.site.position separation t.rest
  pub blocks_are : base.site.blocks ≡ columns t.held.indent t.held.indents
  pub awaits_is : base.site.awaits ≡ has_open_level t.held.indents
  pub are_levels : AreLevels t.held.indent t.held.indents
  pub has_no_tabs : HasNoTabs base.site separation t.rest
  pub is_leading : IsLeading t.held.leading base.site separation t.rest
  pub read_on : IsReadOn base.site.before base.site.position separation t.rest
  pub one_each : length ks ≡ suc (length fs)
  pub are_entries : AreEntries t.held.key_allowed (is_renewed base.site.before separation) fs ks base.entries
  pub line_is : IsLine (not (is_empty fs)) t.held.key_allowed (begins_free_line base.site.before separation) t.held.position t.rest (outside_key base.entries ks) base.line
  pub is_open : IsOpenOutside (outside_key base.entries ks) base.site.position t.held.position t.rest base.site.blocks
  pub no_key : is_waiting base.line ≡ false
  pub are_numbered : AreNumbered (length t.held.tokens) ks
  pub was_adjacent : is_empty fs ≡ false → IsAdjacent (before_past (before_by base.site.before) separation) t.held.position t.held.adjacent_value_at t.rest
  pub adjacent_before : t.held.adjacent_value_at ≤ t.held.position.index
  pub started : t.held.started ≡ true
  pub going : t.held.ended ≡ false
  pub carries : IsCarriedOn text (separation ++ t.rest) t.rest ks base
  pub knows : KnowsKey text (separation ++ t.rest) t.held.position (outside_key base.entries ks)
  pub completes : (strict c : Bool) (cs : List Bool) → MayChoose strict c (outside_key base.entries ks) t.held.position t.rest →
      SoFar strict text (separation ++ t.rest) (chosen c cs ks base) (tokens_up_to (chosen c cs ks base) ks t.held.tokens)

-- A state between two fetches: that holds with one account.
pub record Stands (text : List ℕ) (t : ScannerState) : Type 0 where
  pub base : Account
  pub known : StandsWith text t t.held.flow t.held.keys base
  pub open known use *

-- a state of a run: before the stream's start, between two fetches, or after the stream's end
pub data Fares (text : List ℕ) (t : ScannerState) : Type 0 where
  begins : t ≡ start text → Fares text t
  goes : Stands text t → Fares text t
  over : t.held.ended ≡ true → IsRead text t.held.tokens → IsAtEnd text t.held → Fares text t

-- what is to be shown of a fetch: it keeps this
abbrev pub FetchKeeps : Type 0
FetchKeeps = (text : List ℕ) (t u : ScannerState) → has_no_nul text ≡ true → Stands text t → fetch t ≡ Ok u → Fares text u

-- what follows: the tokens that the model gives a text are those of its row
abbrev pub TokensAreOfARow : Type 0
TokensAreOfARow = (text : List ℕ) (tokens : List Token) → has_no_nul text ≡ true → HasTokens text tokens → IsRead text tokens
