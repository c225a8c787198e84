-- What was written by calls in a row, and rows of lines.
use Rattle.std.proofs.Common.{ℕ, List, ◌++◌, ap, ◌∙◌}
use Rattle.std.proofs.lemmas.List.{append_assoc}
use Rattle.std.specs.Prelude.{Option, Some, None}
use Rattle.std.specs.Io.KnownBytes.{Appends}

-- one text, and then another
pub appends_then : (a b c : Option (List ℕ)) (xs ys : List ℕ) → Appends a b xs → Appends b c ys → Appends a c (xs ++ ys)
appends_then None b c xs ys p q = tt
appends_then (Some us) None c xs ys p q = absurd p
appends_then (Some us) (Some vs) None xs ys p q = absurd q
appends_then (Some us) (Some vs) (Some ws) xs ys p q = q ∙ ap (λ x. x ++ ys) p ∙ append_assoc us xs ys
