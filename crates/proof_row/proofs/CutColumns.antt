-- Columns over a step, as a cut has them: block collections that end, and a key that waits on its line.
use Rattle.std.proofs.lemmas.Bool.Decides.{nat_tests}
use Rattle.proof_row.proofs.Common.{[], Account, Act, act_of, arith, Before, begins_free_line, block_end, blocks_at, Bool, drop, ends_at, ends_separation, false, gives_node, has_break, has_no_break, if◌then◌else◌, is_blank_or_end, is_in_line, is_marker, IsPiece, length, List, nat_lt, not_ended, Option, Position, position_after, position_past, previous_by, put, refl, replicate, subst, suc, Tok, Token, true, zero, ℕ, ◌++◌, ◌+◌, ◌-◌, ◌<◌, ◌∷◌, ◌≡◌, ◌≤◌, ◌⊎◌, both, untrue}
use Rattle.proof_row.proofs.CutPieces.{account_by}
use Rattle.proof_row.proofs.CutSteps.{somes}
use Rattle.proof_row.proofs.Inserted.{past_all, AreEmpty}

-- ---- ends of block collections

-- collections that are the outer ones of others
abbrev AreOuter : (cs bs : List ℕ) → Type 0
AreOuter cs bs = (drop (length bs - length cs) bs ≡ cs) × (length cs ≤ length bs)

one_more : (n : ℕ) (cs bs : List ℕ) (ends : Bool) → AreOuter cs bs → AreOuter (if ends then cs else n ∷ bs) (n ∷ bs)
one_more n cs bs a h = grind arith

-- the collections that go on are the outer ones, or none
ended : (none : Bool) (col : ℕ) (bs : List ℕ) → AreOuter (if none then [] else not_ended col bs) bs
ended true col (n ∷ bs) = one_more n [] bs true (ended true col bs)
ended false col (n ∷ bs) = one_more n (not_ended col bs) bs (nat_lt col n) (ended false col bs)
ended none col bs = (refl, omega arith)

-- Tokens without a piece lead from an account to another.
abbrev pub LeadTo : Account → List Token → Account → Type 0
LeadTo a es b = (us : List Token) (next : List ℕ) (t : Tok) → AreEmpty b us next t → AreEmpty a (es ++ us) next t × (past_all a (es ++ us) ≡ past_all b us)

ends_lead : (many : ℕ) (here p : Position) (b : Before) (bs : List ℕ) → many ≤ length bs → LeadTo (account_by here b (somes bs) []) (replicate many (put p block_end)) (account_by here b (somes (drop many bs)) [])
ends_lead zero here p b bs m us next t e = (e, refl)
ends_lead (suc many) here p b [] m us next t e = absurd (omega (arith, m))
ends_lead (suc many) here p b (n ∷ bs) m us next t e = grind (arith, ends_lead many here p b bs)

-- at a piece outside flow
pub blocks_end : (k : Act) (here p : Position) (b : Before) (bs : List ℕ) → LeadTo (account_by here b (somes bs) []) (ends_at p bs (blocks_at false k here.col bs)) (account_by here b (somes (blocks_at false k here.col bs)) [])
blocks_end k here p b bs =
    let o : AreOuter (blocks_at false k here.col bs) bs = ended (is_marker k) here.col bs in
    subst (λ cs. LeadTo (account_by here b (somes bs) []) (ends_at p bs (blocks_at false k here.col bs)) (account_by here b (somes cs) [])) o.0
    (ends_lead (length bs - length (blocks_at false k here.col bs)) here p b bs (omega arith))

-- ---- collections that no key ends

pub not_ended_twice : (col : ℕ) (bs : List ℕ) → not_ended col (not_ended col bs) ≡ not_ended col bs
not_ended_twice col [] = refl
not_ended_twice col (n ∷ bs) = grind (arith, not_ended_twice col bs)

pub not_ended_further : (col here : ℕ) (bs : List ℕ) → col ≤ here → not_ended col bs ≡ bs → not_ended here bs ≡ bs
not_ended_further col here [] m h = refl
not_ended_further col here (n ∷ bs) m h = let short = (ended false col bs).1 in grind (arith, nat_tests, short)

-- ---- on one line

pub column_grows : (p : Position) (t next : List ℕ) → has_no_break t ≡ true → (position_after p t next).col ≡ p.col + length t
column_grows p [] next h = omega arith
column_grows p (c ∷ t) next h = grind (arith, both, untrue, column_grows (position_past p c (t ++ next)) t next)

pub unbroken : (t : List ℕ) → has_break t ≡ false → has_no_break t ≡ true
unbroken t h = grind arith

-- a text in whose separation no break stands
pub in_line : (f : List ℕ) (c : ℕ) (r : List ℕ) → has_no_break f ≡ true → ends_separation (c ∷ r) ≡ true → is_in_line (f ++ (c ∷ r)) ≡ true
unfolding is_blank_or_end
in_line [] c r h e = grind arith
in_line (x ∷ f) c r h e = grind (arith, both, untrue, in_line f c r)

-- a directive stands in column 0
pub no_directive : (a : Account) (c : ℕ) (r n : List ℕ) (o : Option Tok) (q : Position) (t : Tok) → IsPiece a (c ∷ r) n o q t → (act_of t ≡ gives_node) ⊎ (0 < a.position.col) → (f : List ℕ) → begins_free_line (previous_by t) f ≡ has_break f
no_directive a c r n o q b h k f = grind arith
