-- Lemmas about quoted scalars that are being read.
use Rattle.yaml_lexers.proofs.Common.{Bool, Context, first, in_line_goes_on, inside, line_inside, List, nothing, Position, quoted_from, ℕ, ◌+◌, ◌<◌, ◌≡◌, ◌≤◌}

-- words may stand where a scalar begins
pub begins_inside : (single : Bool) (ctx : Context) (start : Position) (a : List ℕ) (p : Position) → 0 < p.col → ctx.indent ≤ p.col + 1
    → quoted_from single ctx start a (record { mode = first; position = p; folded = nothing }) ≡ quoted_from single ctx start a (record { mode = inside; position = p; folded = nothing })
begins_inside single ctx start a p right deep = line_inside single ctx start a p nothing (in_line_goes_on ctx start a p right deep)
