-- The account of a row: what is so at a position, and what becomes of it by a step. There is none after a step that may not stand.
use Rattle.std.specs.Prelude.{ℕ, List, [], ◌∷◌, ◌++◌, Bool, true, false, ◌&&◌, ◌||◌, not, nat_le, if◌then◌else◌, map, Option, Some, None}
use Rattle.defs_text.specs.Position.{Position, first_position, position_after}
use Rattle.defs_token.specs.Token.{Tok, scalar, plain}
use Rattle.defs_token.specs.Account.{Account as PieceAccount, Level, Before, quoted, collection, other, before_past}
use Rattle.defs_text.specs.Text.{is_empty}
use Rattle.defs_token.specs.Step.{Step, Act, act_of, is_marker, Previous, quoted_scalar, flow_collection, another, previous_by, has_break}
use Rattle.defs_token.specs.Column.{blocks_at, is_in_column}
use Rattle.defs_token.specs.Indentation.{least_column, awaits_at, awaits_past, is_indented_by_spaces}
use Rattle.defs_token.specs.Lines.{further_lines_stand}
use Rattle.defs_token.specs.Following.{may_precede}
use Rattle.defs_token.specs.Key.{Line, free, is_waiting, begins_free_line, line_past_separation, Outside, line_past}
use Rattle.defs_token.specs.FlowEntry.{Entry, is_keyed, begun_by, is_renewed, entries_past}

-- What is so at a position, apart from keys: the position; the columns of the open block collections, the innermost first; whether the value of an entry is awaited; and what the last piece was.
pub record Site : Type 0 where
  pub position : Position
  pub blocks : List ℕ
  pub awaits : Bool
  pub before : Previous

-- The account at a position: its site; what may begin outside flow; and the entries of the open flow collections, the innermost first.
pub record Account : Type 0 where
  pub site : Site
  pub line : Line
  pub entries : List Entry

-- the account where a text begins
abbrev pub first_account : Account
first_account = record { site = record { position = first_position; blocks = []; awaits = false; before = another }; line = free; entries = [] }

-- whether a flow collection is open
abbrev pub is_in_flow : List Entry → Bool
is_in_flow es = not (is_empty es)

-- ---- the site at a piece

-- a site moved to a position, where a piece stands
abbrev pub site_in : (in_flow : Bool) → Act → Position → Site → Site
site_in in_flow act here s = record {
  position = here;
  blocks = blocks_at in_flow act here.col s.blocks;
  awaits = awaits_at in_flow here.col s.blocks s.awaits;
  before = s.before;
}

-- the site at a piece after a separation
abbrev pub site_at : (in_flow : Bool) → Site → (separation piece : List ℕ) → Tok → (next : List ℕ) → Site
site_at in_flow s separation piece t next = site_in in_flow (act_of t) (position_after s.position separation (piece ++ next)) s

-- the site after a piece, with the block collections that are open then
abbrev pub site_past : (in_flow : Bool) → Site → (piece : List ℕ) → Tok → (next : List ℕ) → List ℕ → Site
site_past in_flow s piece t next bs = record {
  position = position_after s.position piece next;
  blocks = bs;
  awaits = awaits_past in_flow t s.blocks s.awaits next;
  before = previous_by t;
}

-- ---- what does not depend on keys

-- the least column of a piece and its further lines: for a plain scalar that of a value
abbrev pub least_for : Tok → Site → ℕ
least_for (scalar plain text) s = least_column s.blocks true
least_for _ s = least_column s.blocks s.awaits

-- In flow a piece lies in the least column or deeper, unless it stands for the document. Sections 7.4, 6.1.
abbrev pub is_deep_enough : (in_flow : Bool) → Tok → Site → Bool
is_deep_enough true t s = is_marker (act_of t) || nat_le (least_for t s) s.position.col
is_deep_enough false t s = true

-- Whether a piece may stand between a separation and the text after it: TABs, its column in flow, its further lines, and what follows. The sites are those before the separation and at the piece.
abbrev pub may_stand : (in_flow : Bool) → (before at : Site) → (separation piece : List ℕ) → Tok → (next : List ℕ) → Bool
may_stand in_flow before at separation piece t next =
    is_indented_by_spaces before.before before.blocks before.awaits separation &&
    is_deep_enough in_flow t at &&
    further_lines_stand (least_for t at) t piece &&
    may_precede in_flow at.blocks t piece next

-- ---- the account after a step

-- a waiting key lies on one line: no piece of it has a break
abbrev pub on_one_line : (piece : List ℕ) → Option Account → Option Account
on_one_line piece None = None
on_one_line piece (Some a) = (if has_break piece && is_waiting a.line then None else Some a)

-- after a piece outside flow
abbrev pub past_outside : Site → (piece : List ℕ) → Tok → (next : List ℕ) → Option Outside → Option Account
past_outside s piece t next None = None
past_outside s piece t next (Some x) = Some (record { site = site_past false s piece t next x.blocks; line = x.line; entries = begun_by t })

-- after a piece in flow
abbrev pub past_inside : Site → (piece : List ℕ) → Tok → (next : List ℕ) → Line → Option (List Entry) → Option Account
past_inside s piece t next l None = None
past_inside s piece t next l (Some es) = Some (record { site = site_past true s piece t next s.blocks; line = l; entries = es })

-- after a piece at a site, by what may begin there
abbrev pub past_piece : Site → (piece : List ℕ) → Tok → (next : List ℕ) → (again key : Bool) → Option Line → List Entry → Option Account
past_piece s piece t next again key None es = None
past_piece s piece t next again key (Some l) [] = past_outside s piece t next (line_past (is_in_column s.position.col s.blocks) s.position s.blocks (act_of t) key l)
past_piece s piece t next again key (Some l) (e ∷ es) = past_inside s piece t next l (entries_past s.position again (act_of t) (begun_by t) key e es)

-- after a step whose piece stands at a site, if it may
abbrev pub past_site : (in_flow : Bool) → (before at : Site) → Step → (next : List ℕ) → Line → List Entry → Option Account
past_site in_flow before at w next l es =
    (if may_stand in_flow before at w.separation w.piece w.shown next then
    on_one_line w.piece (past_piece at w.piece w.shown next (is_renewed before.before w.separation) w.key (line_past_separation in_flow (begins_free_line before.before w.separation) l) es) else None)

-- The account after a step; the text after the step.
abbrev pub account_past : Account → Step → (next : List ℕ) → Option Account
account_past a w next =
    past_site (is_in_flow a.entries) a.site (site_at (is_in_flow a.entries) a.site w.separation w.piece w.shown next) w next a.line a.entries

-- whether no key waits in an entry
abbrev pub have_no_key : List Entry → Bool
have_no_key [] = true
have_no_key (e ∷ es) = not (is_keyed e.had) && have_no_key es

-- whether a text may end here: no key waits
abbrev pub may_end : Account → Bool
may_end a = not (is_waiting a.line) && have_no_key a.entries

-- ---- a piece as the definition of pieces sees it

-- what matters for a colon after the last piece
abbrev pub before_by : Previous → Before
before_by quoted_scalar = quoted
before_by flow_collection = collection
before_by _ = other

-- a flow collection whose single-pair mapping, if it has one, has its own start and end
abbrev pub level_of : Entry → Level
level_of e = record { kind = e.kind; pair = false }

-- the account with which a piece at a site is looked at
abbrev pub seen : Account → (at : Site) → (separation : List ℕ) → PieceAccount
seen a at separation = record {
  position = at.position;
  blocks = map (λ n. Some n) at.blocks;
  levels = map level_of a.entries;
  before = before_past (before_by a.site.before) separation;
}
