-- A key that waits in an entry of a flow collection began on the position's line, or on an earlier one.
use Rattle.proof_row.proofs.Common.{[], account_past, arith, begins_free_line, Bool, Entry, Had, if◌then◌else◌, is_in_flow, is_renewed, Leads, Line, line_past_separation, List, may_stand, None, on_one_line, Option, past_piece, Position, position_after, position_past, Site, site_at, Some, Step, subst, Tok, ℕ, ◌++◌, ◌∷◌, ◌≤◌}
use Rattle.defs_token.specs.Step.{spelled}
use Rattle.defs_token.specs.FlowEntry.{waits}
use Rattle.defs_token.specs.RowAccount.{Account}

-- ---- what is shown

abbrev IsBefore : Had → (line : ℕ) → Type 0
IsBefore (waits begin) n = begin.line ≤ n
IsBefore _ n = Unit {0}

-- each key that waits in an entry began on this line or before
abbrev pub AreBefore : List Entry → (line : ℕ) → Type 0
AreBefore [] n = Unit {0}
AreBefore (e ∷ es) n = IsBefore e.had n × AreBefore es n

abbrev pub KeysBefore : Account → Type 0
KeysBefore a = AreBefore a.entries a.site.position.line

-- ---- lines

pub line_grows : (p : Position) (t next : List ℕ) → p.line ≤ (position_after p t next).line
line_grows p [] next = omega arith
line_grows p (c ∷ t) next = grind (arith, line_grows (position_past p c (t ++ next)) t next)

later : (es : List Entry) (m n : ℕ) → m ≤ n → AreBefore es m → AreBefore es n
later [] m n l b = tt
later (e ∷ es) m n l b = ((grind arith), later es m n l b.1)

-- ---- a step

abbrev Kept : Option Account → Type 0
Kept None = Unit {0}
Kept (Some a) = KeysBefore a

piece_before : (s : Site) (p : List ℕ) (t : Tok) (next : List ℕ) (again key : Bool) (l : Option Line) (es : List Entry) → AreBefore es s.position.line → Kept (past_piece s p t next again key l es)
piece_before s p t next again key a es b = grind (arith, later, line_grows)

one_line_before : (may : Bool) (p : List ℕ) (o : Option Account) → Kept o → Kept (if may then on_one_line p o else None)
one_line_before a p o b = grind arith

-- Steps keep it.
pub keys_before : (o : Option Account) (ws : List Step) (after : List ℕ) (b : Account) → Leads o ws after b → Kept o → KeysBefore b
keys_before None ws after b h k = absurd h
keys_before (Some a) [] after b h k = subst KeysBefore h k
keys_before (Some a) (w ∷ ws) after b h k = let step_before : Kept (account_past a w (spelled ws after)) = let at : Site = site_at (is_in_flow a.entries) a.site w.separation w.piece w.shown (spelled ws after) in
    let l : Option Line = line_past_separation (is_in_flow a.entries) (begins_free_line a.site.before w.separation) a.line in
    let again : Bool = is_renewed a.site.before w.separation in
    one_line_before (may_stand (is_in_flow a.entries) a.site at w.separation w.piece w.shown (spelled ws after)) w.piece (past_piece at w.piece w.shown (spelled ws after) again w.key l a.entries)
    (piece_before at w.piece w.shown (spelled ws after) again w.key l a.entries (later a.entries a.site.position.line at.position.line (line_grows a.site.position w.separation (w.piece ++ (spelled ws after))) k)) in keys_before (account_past a w (spelled ws after)) ws after b h.1 step_before
