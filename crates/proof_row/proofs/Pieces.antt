-- At one account a text begins with one piece of one token.
use Rattle.proof_row.proofs.Common.{[], alias_name, anchor_name, append-nil, block_scalar, directive_line, has_no_nul, in_double_quotes, in_single_quotes, Kind, List, NoPieceIsInASeparation, nothing, PiecesHaveOneEnd, PiecesSeenAlikeHaveOneEnd, plain_scalar, refl, SeparationsBeforePiecesAreOne, Some, sym, tag_text, TextsUpToTheirEndHaveNoNul, Tok, true, ℕ, ◌++◌, ◌∙◌, ◌∷◌, ◌≡◌, IsNamed, alias, anchor, arith, joined}
use Rattle.std.proofs.lemmas.List.{append_cancel_left}
use Rattle.proof_row.proofs.Separations.{separations}
use Rattle.proof_row.proofs.Names.{names}
use Rattle.proof_row.proofs.Plains.{plains}
use Rattle.proof_row.proofs.Quotes.{single_bodies, double_bodies}
use Rattle.proof_row.proofs.Directives.{directives}
use Rattle.proof_row.proofs.TagEnds.{tags}
use Rattle.proof_row.proofs.Blocks.{blocks}
use Rattle.proof_row.proofs.Begins.{Context, Whole, piece_of, kind_there, separations_end_before}

some : {A : Type 0} → (a b : A) → Some a ≡ Some b → a ≡ b
some a b e = cc

-- two pieces of one text
alike : (p q r x y : List ℕ) → p ≡ r → q ≡ r → p ++ x ≡ q ++ y → (p ≡ q) × (x ≡ y)
alike p q r x y h k e = (h ∙ sym k, append_cancel_left r x y (cc))

abbrev Same : (p q x y : List ℕ) → Tok → Tok → Type 0
Same p q x y t u = (p ≡ q) × (x ≡ y) × (t ≡ u)

same_by : (p q x y : List ℕ) (t u : Tok) → (p ≡ q) × (x ≡ y) → t ≡ u → Same p q x y t u
same_by p q x y t u s e = (s.0, s.1, e)

one_name : (i : ℕ) (token : List ℕ → Tok) (p q x y : List ℕ) (t u : Tok) → (name : List ℕ) × IsNamed i p x name × (t ≡ token name) → (name : List ℕ) × IsNamed i q y name × (u ≡ token name) → p ++ x ≡ q ++ y → Same p q x y t u
one_name i token p q x y t u h k e = let same : (p ≡ q) × (x ≡ y) = names i p q x y (h.0, h.1) (k.0, k.1) e in grind arith

pub one_of : (k : Kind) (a : Context) (p q x y : List ℕ) (t u : Tok) → Whole k a p x t → Whole k a q y u → p ++ x ≡ q ++ y → has_no_nul (p ++ x) ≡ true → Same p q x y t u
one_of nothing a p q x y t u h k e n = absurd h
one_of plain_scalar a p q x y t u h k e n = grind (arith, plains, some, same_by)
one_of directive_line a p q x y t u h k e n = grind (arith, directives, some, same_by)
one_of alias_name a p q x y t u h k e n = one_name 42 alias p q x y t u h k e
one_of anchor_name a p q x y t u h k e n = one_name 38 anchor p q x y t u h k e
one_of tag_text a p q x y t u h k e n = let same : (p ≡ q) × (x ≡ y) = tags a.in_flow p q x y (h.0, h.1, h.2) (k.0, k.1, k.2) e in grind arith
one_of in_single_quotes a p q x y t u h k e n = let same : (h.1.0 ≡ k.1.0) × (x ≡ y) = single_bodies p q x y h.0 k.0 h.1 k.1 e in grind arith
one_of in_double_quotes a p q x y t u h k e n = let same : (h.1.0 ≡ k.1.0) × (x ≡ y) = double_bodies p q x y h.0 k.0 h.1 k.1 e in grind arith
one_of block_scalar a p q x y t u h k e n =
    let same : (p ≡ q) × (x ≡ y) = blocks a.collection p q x y (h.0, h.1, n) (k.0, k.1, rw (← e) n) e in grind arith
one_of k a p q x y t u h i e n = grind (arith, alike, same_by)

-- ---- pieces at accounts that are seen alike

pub pieces_seen_alike : PiecesSeenAlikeHaveOneEnd
pieces_seen_alike a b p q x y f g m n t u like collection i j h k e c = grind (arith, piece_of, kind_there, one_of)

pub pieces : PiecesHaveOneEnd
pieces a p q x y f g m n t u i j h k e c = grind (arith, pieces_seen_alike)

-- ---- separations and pieces

pub separations_before : SeparationsBeforePiecesAreOne
separations_before a b v w p q x y f g m n t u h k i j r s e = grind (arith, separations, separations_end_before)

pub no_piece_at_end : NoPieceIsInASeparation
no_piece_at_end a v w p x f m t h k i r e =
    let same = separations v w [] (p ++ x) (h, refl) (k, separations_end_before a p x f m t i r) (append-nil v ∙ e) in i (empty p (sym same.1))
  where
    empty : (p : List ℕ) → p ++ x ≡ [] → p ≡ []
    empty [] e = refl
    empty (c ∷ p) e = absurd (cc e)

-- the text up to its end
pub clean_up_to_end : TextsUpToTheirEndHaveNoNul
clean_up_to_end [] = refl
clean_up_to_end (c ∷ r) = grind (arith, joined, clean_up_to_end r)
