-- Lemmas about plain scalars that are being read.
use Rattle.yaml_lexers.proofs.Common.{[], Bool, can_be_plain, Context, ends_run, false, is_blank, is_break, List, refl, slice_index, true, ℕ, ◌||◌, ◌∷◌, ◌≡◌}

or_true : (b c : Bool) → (b || c || true) ≡ true
or_true true c = refl
or_true false true = refl
or_true false false = refl

-- a run ends at a character that no plain scalar has
pub runs_out : (ctx : Context) (c d : ℕ) (a : List ℕ) → c ≡ slice_index a 0 → d ≡ slice_index a 1 → can_be_plain ctx.flow c d ≡ false → ends_run ctx a ≡ true
runs_out ctx c d [] e f h = refl
runs_out ctx c d (x ∷ a) e f h = let g : can_be_plain ctx.flow x (slice_index a 0) ≡ false = rw (e, f) at h in rw g (or_true (is_break x) (is_blank x))
