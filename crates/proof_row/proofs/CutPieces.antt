-- Pieces of a row at the accounts of a cut: other block collections are open there while a key waits, and pairs are open in flow levels.
use Rattle.proof_row.proofs.Common.{Account, act_of, Before, begins_with_key_indicator, begins_with_space_or_break, Bool, ends_entry, eqb-true, false, gives_colon, gives_dash, gives_node, gives_question, if◌then◌else◌, is_adjacent, is_blank, is_blank_or_end, is_break, is_nul, IsPiece, kind_at, length, Level, List, not, Option, past_separation, Position, question, Some, Tok, true, with_blocks, ℕ, ◌&&◌, ◌++◌, ◌==◌, ◌||◌, ◌∷◌, ◌≡◌, ◌⊎◌, arith}
use Rattle.defs_token.specs.Account.{is_in_flow}
use Rattle.proof_row.proofs.Begins.{separations_end_before}

-- a piece that is not empty belongs to its token whatever token follows
pub whatever_follows : (a : Account) (c : ℕ) (r n : List ℕ) (f g : Option Tok) (q : Position) (t : Tok) → IsPiece a (c ∷ r) n f q t → IsPiece a (c ∷ r) n g q t
whatever_follows a c r n f g q b h = grind arith

-- an indicator of a block collection is one whatever block collections are open
pub indicator_with_blocks : (bs : List (Option ℕ)) (a : Account) (c : ℕ) (r n : List ℕ) (f : Option Tok) (q : Position) (t : Tok) → (act_of t ≡ gives_dash) ⊎ ((act_of t ≡ gives_question) ⊎ (act_of t ≡ gives_colon)) →
    IsPiece a (c ∷ r) n f q t → IsPiece (with_blocks bs a) (c ∷ r) n f q t
indicator_with_blocks bs a c r n f q b k h = grind arith

-- ---- in flow

-- an account by its parts
abbrev pub account_by : Position → Before → List (Option ℕ) → List Level → Account
account_by p b bs ls = record { position = p; blocks = bs; levels = ls; before = b }

-- In flow a piece belongs to its token whatever block collections and pairs are open, but that no pair is open at the end of an entry.
pub piece_in_flow : (p : Position) (b : Before) (bs cs : List (Option ℕ)) (l m : Level) (ls ms : List Level) (c : ℕ) (r n : List ℕ) (f g : Option Tok) (q : Position) (t : Tok) →
    length ls ≡ length ms → (ends_entry (Some t) ≡ true → m.pair ≡ false) →
    IsPiece (account_by p b bs (l ∷ ls)) (c ∷ r) n f q t → IsPiece (account_by p b cs (m ∷ ms)) (c ∷ r) n g q t
piece_in_flow p b bs cs l m ls ms c r n f g q a e k h = grind arith

-- ---- no indicator of a key

-- a node or a colon does not begin with one
pub begins_no_key : (a : Account) (c : ℕ) (r n : List ℕ) (f : Option Tok) (q : Position) (t : Tok) → (act_of t ≡ gives_node) ⊎ (act_of t ≡ gives_colon) → IsPiece a (c ∷ r) n f q t →
    begins_with_key_indicator (past_separation false ((c ∷ r) ++ n)) ≡ false
unfolding is_blank_or_end is_blank
begins_no_key a c r n f q t k h = by (is_blank c) (is_break c) (is_nul c) (c == 35) (separations_end_before a (c ∷ r) n f q t (λ e. cc e) h)
  where
    here : (s g : Bool) → (c == 63) ≡ s → begins_with_space_or_break (r ++ n) ≡ g → (s && g) ≡ false
    here true true e i =
        let there : kind_at (is_in_flow a) (is_adjacent a.before) (a.position.col) (c ∷ (r ++ n)) ≡ question = grind (arith, eqb-true) in
        (grind arith)
    here s g e i = grind arith

    by : (b l z o : Bool) → (not (b || l || z) && not o) ≡ true → begins_with_key_indicator (if b || l || o then past_separation o (r ++ n) else c ∷ (r ++ n)) ≡ false
    by a l z o e = grind (arith, here)
