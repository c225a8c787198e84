-- The text says which piece comes: at like accounts, two steps with which one text begins have the same separation, piece and token.
use Rattle.proof_row.proofs.Common.{[], Act, act_of, blocks_at, Bool, Entry, has_no_nul, Holds, innermost_column, is_empty, is_in_flow, IsSeenAlike, IsWritten, kind_of, level_of, List, map, None, not, Option, refl, seen, shown_position, Site, site_at, Some, Step, true, ℕ, ◌++◌, ◌∷◌, ◌≡◌, ◌≢◌, arith, no_nul_after}
use Rattle.proof_row.proofs.Pieces.{pieces_seen_alike, separations_before}
use Rattle.defs_token.specs.RowAccount.{Account}
use Rattle.proof_row.proofs.Like.{LikeEntries, IsLike}

-- ---- what a piece is seen with

same_levels : (ds es : List Entry) → LikeEntries ds es → not (is_empty (map level_of ds)) ≡ not (is_empty (map level_of es))
same_levels [] [] j = refl
same_levels (d ∷ ds) (e ∷ es) j = refl
same_levels _ _ j = absurd j

abbrev pub At : Account → Step → (next : List ℕ) → Site
At a w next = site_at (is_in_flow a.entries) a.site w.separation w.piece w.shown next

-- the column of the innermost block collection, as a piece at a site sees it
abbrev Innermost : Bool → Act → (col : ℕ) → List ℕ → Option ℕ
Innermost fl k col bs = innermost_column (map (λ n. Some n) (blocks_at fl k col bs))

same_column : (a b : Account) (w v : Step) (x y : List ℕ) → IsLike a b → (At a w x).position.col ≡ (At b v y).position.col → kind_of w.shown ≡ kind_of v.shown →
    Innermost (is_in_flow a.entries) (act_of w.shown) (At a w x).position.col a.site.blocks ≡ Innermost (is_in_flow b.entries) (act_of v.shown) (At b v y).position.col b.site.blocks
same_column a b w v x y i c k = grind arith

-- ---- pieces

pub not_empty : (p : List ℕ) → not (is_empty p) ≡ true → p ≢ []
not_empty a h e = cc

-- At like accounts the text says which piece comes after a separation.
pub same_piece : (a b : Account) (w v : Step) (x y : List ℕ) → IsLike a b → IsWritten a w x → IsWritten b v y → w.separation ≡ v.separation → w.piece ++ x ≡ v.piece ++ y → Holds (has_no_nul (w.piece ++ x)) →
    (w.piece ≡ v.piece) × (w.shown ≡ v.shown) × (x ≡ y)
same_piece a b w v x y i h k f e clean =
    let alike : IsSeenAlike (seen a (At a w x) w.separation) (seen b (At b v y) v.separation) = (
      same_levels a.entries b.entries i.2,
      cc (i.0, f),
      cc (i.0, f, e),
    ) in
    let pieces = pieces_seen_alike (seen a (At a w x) w.separation) (seen b (At b v y) v.separation) w.piece v.piece x y None None
    (shown_position (At a w x) w.piece w.shown x) (shown_position (At b v y) v.piece v.shown y) w.shown v.shown alike (same_column a b w v x y i alike.2)
    (not_empty w.piece h.1.0) (not_empty v.piece k.1.0) h.1.1 k.1.1 e clean in
    (pieces.0, pieces.2, pieces.1)

-- And which step, but for whether a key begins with it.
pub same_written : (a b : Account) (w v : Step) (x y : List ℕ) → IsLike a b → IsWritten a w x → IsWritten b v y →
    w.separation ++ (w.piece ++ x) ≡ v.separation ++ (v.piece ++ y) → Holds (has_no_nul (w.separation ++ (w.piece ++ x))) →
    (w.separation ≡ v.separation) × (w.piece ≡ v.piece) × (w.shown ≡ v.shown) × (x ≡ y)
same_written a b w v x y i h k e clean = grind (arith, separations_before, not_empty, same_piece, no_nul_after)
