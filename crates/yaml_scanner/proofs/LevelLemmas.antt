-- Lemmas about levels of indentation.
use Rattle.yaml_scanner.proofs.Common.{[], arith, ends_open, false, Indent, level, List, refl, top_needs_block_end, true, ℕ, ◌+◌, ◌<◌, ◌^◌, ◌∷◌, ◌≡◌, ◌≤◌}
use Rattle.yaml_scanner.specs.Levels.{AreSmall}

pub small_indent : (i : ℕ) (ds : List Indent) → AreSmall i ds → i ≤ 2 ^ 63 + 1
small_indent i [] h = omega arith
small_indent i (d ∷ ds) h = grind (arith, h.0)

pub small_block : (i : ℕ) (ds : List Indent) → AreSmall i ds → ends_open ds ≡ false → i ≤ 2 ^ 63
small_block i [] h e = h
small_block i (d ∷ ds) h e = grind (arith, e, h.0)

pub small_below : (i col : ℕ) (ds : List Indent) → AreSmall i ds → col < 2 ^ 63 → AreSmall (col + 1) (level i true ∷ ds)
small_below i col ds h c = (omega arith, h)

pub is_block : (ds : List Indent) → top_needs_block_end ds ≡ true → ends_open ds ≡ false
is_block [] e = refl
is_block (d ∷ ds) e = rw e refl

pub small_under : (i : ℕ) (ds : List Indent) → AreSmall i ds → top_needs_block_end ds ≡ true → AreSmall (i + 1) (level i false ∷ ds)
small_under i ds h e = let low = small_block i ds h (is_block ds e) in (omega arith, h)
