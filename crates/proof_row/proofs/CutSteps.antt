-- A step of a row, as a cut has it: the tokens before the one that it shows have no piece, and the account of the cut goes on as that of the row.
use Rattle.proof_row.proofs.Common.{[], Account, account_at_piece, Act, act_of, ap, Before, begun_by, begun_outside, blocks_past, Bool, Entry, false, gives_colon, gives_dash, gives_node, gives_question, is_deeper, is_keyed, is_waiting, IsPiece, Level, levels_past, Line, line_past, List, map, None, opened, Option, Outside, Pair, Position, refl, single_pair, Some, takes_pair, Tok, Token, true, waits, ℕ, ◌&&◌, ◌||◌, ◌∷◌, ◌≡◌, ◌⊎◌, arith}
use Rattle.defs_token.specs.Account.{settled}
use Rattle.defs_token.specs.RowAccount.{Account as RowAccount, before_by as before_by_previous}
use Rattle.proof_row.proofs.CutPieces.{account_by}
use Rattle.proof_row.proofs.Inserted.{past_all, AreEmpty}

-- ---- the account of a cut

-- columns as a cut has them
abbrev pub somes : List ℕ → List (Option ℕ)
somes bs = map (λ n. Some n) bs

-- the block collections of a cut: also the mapping of a key that waits
abbrev pub with_key : List ℕ → Line → List ℕ
with_key bs (waits begin) = opened begin.col bs
with_key bs _ = bs

-- whether a pair has a start of its own
abbrev pub is_single : Pair → Bool
is_single single_pair = true
is_single _ = false

-- the level of an entry in a cut: also the single pair of a key that waits
abbrev pub level_in : Entry → Level
level_in e = record { kind = e.kind; pair = is_single e.pair || (is_keyed e.had && takes_pair e.kind e.pair) }

abbrev pub levels_in : List Entry → List Level
levels_in es = map level_in es

-- the account of a cut, by that of a row
abbrev pub in_cut : RowAccount → Account
in_cut a = account_by a.site.position (before_by_previous a.site.before) (somes (with_key a.site.blocks a.line)) (levels_in a.entries)

-- ---- tokens

-- a piece is of no token of a block collection
pub blocks_alike : (a : Account) (c : ℕ) (r n : List ℕ) (f : Option Tok) (q : Position) (t : Tok) (bs : List (Option ℕ)) → IsPiece a (c ∷ r) n f q t → blocks_past bs t ≡ bs
blocks_alike a c r n f q b bs h = grind arith

pub settled_all : (column : ℕ) (bs : List ℕ) → settled column (somes bs) ≡ somes bs
settled_all column [] = refl
settled_all column (n ∷ bs) = ap (λ z. Some n ∷ z) (settled_all column bs)

-- outside flow
pub levels_outside : (t : Tok) (c : ℕ) (r : List ℕ) → levels_past [] (c ∷ r) t ≡ levels_in (begun_by t)
levels_outside a c r = grind arith

-- ---- outside flow

-- a piece that begins a block collection, or an entry of one
abbrev IsIndicator : Act → Type 0
IsIndicator k = (k ≡ gives_dash) ⊎ ((k ≡ gives_question) ⊎ (k ≡ gives_colon))

-- Why a piece outside flow belongs to its token with the block collections that the cut has then: they are those of the row, or a key waits, or it is an indicator.
abbrev pub Sees : Act → (going_on : List ℕ) → Outside → Type 0
Sees k bs x = (with_key x.blocks x.line ≡ bs) ⊎ (((is_waiting x.line ≡ true) × (k ≡ gives_node)) ⊎ IsIndicator k)

-- What comes of a piece outside flow: the tokens before the one it shows have no piece, and the cut has the block collections of the row.
pub record Begun (d : Account) (us : List Token) (next : List ℕ) (t : Tok) (k : Act) (c : ℕ) (r bs : List ℕ) (x : Outside) : Type 0 where
  pub are_empty : AreEmpty d us next t
  pub blocks_are : account_at_piece (past_all d us) (c ∷ r) ≡ record d { blocks = somes (with_key x.blocks x.line) }
  pub sees : Sees k bs x

abbrev pub BegunBy : Account → List Token → (next : List ℕ) → Tok → Act → ℕ → (r bs : List ℕ) → Option Outside → Type 0
BegunBy d us next t k c r bs None = Unit {0}
BegunBy d us next t k c r bs (Some x) = Begun d us next t k c r bs x

-- every piece outside flow
pub begun : (k : Act) (must key : Bool) (l : Line) (here colon : Position) (b : Before) (next : List ℕ) (t : Tok) (c : ℕ) (r bs : List ℕ) → act_of t ≡ k →
    BegunBy (account_by here b (somes (with_key bs l)) []) (begun_outside (is_deeper here.col bs) here colon k key (Some l)) next t k c r bs (line_past must here bs k key l)
begun k must key l here colon b next t c r bs e = grind (arith, settled_all)
