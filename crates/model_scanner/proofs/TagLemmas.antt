-- Lemmas about the scan of a tag.
use Rattle.model_scanner.proofs.Common.{[], At, Err, false, List, Ok, past, Position, read_tag, refl, slice_index, verbatim_end, ℕ, ◌==◌, ◌∷◌, ◌≡◌}
use Rattle.yaml_tokens.specs.declared.problem.Problem.TheVariants as problem

-- where a verbatim tag is closed, and where it isn't
pub verbatim_fails : (start : Position) (t : List ℕ) (c : ℕ) (a : List ℕ) (p : Position) → c ≡ slice_index a 0 → (c == 62) ≡ false
    → verbatim_end start t a p ≡ Err (At problem.VerbatimTagEnd start)
verbatim_fails start t c [] p e h = refl
verbatim_fails start t c (d ∷ a) p e h = let g : (d == 62) ≡ false = rw e at h in rw g refl

pub verbatim_closes : (start : Position) (t : List ℕ) (a b : List ℕ) (p : Position) → a ≡ 62 ∷ b
    → verbatim_end start t a p ≡ Ok (read_tag b (past p) [] t)
verbatim_closes start t a b p e = rw e refl
