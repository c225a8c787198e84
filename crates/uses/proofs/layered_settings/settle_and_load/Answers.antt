use Rattle.std.proofs.Common.{◌≡◌, List, [], ◌∷◌, Ok, Err, ap, ◌∙◌}
use Rattle.std.specs.Prelude.{Result, IfOk, IfErr}
use Rattle.uses.proofs.layered_settings.settle_and_load.Goals as goal

came_back : {A B E : Type 0} (r : Result A E) (First Second Third Whole : Type 0) (seen : A → List B) (back tree : B) → (First → Second → Third → Whole) → back ≡ tree
    → IfOk r (λ x. Whole → seen x ≡ back ∷ []) → IfOk r (λ x. First → Second → Third → seen x ≡ tree ∷ [])
came_back (Ok x) First Second Third Whole seen back tree whole e h = λ a b c. h (whole a b c) ∙ ap (λ t. t ∷ []) e
came_back (Err f) First Second Third Whole seen back tree whole e h = tt

refused_so : {A E : Type 0} (r : Result A E) (First Second Third Whole : Type 0) (P : E → Type 0) → (First → Second → Third → Whole) → IfErr r (λ e. Whole → P e)
    → IfErr r (λ e. First → Second → Third → P e)
refused_so (Ok x) First Second Third Whole P whole h = tt
refused_so (Err e) First Second Third Whole P whole h = λ a b c. h (whole a b c)

pub returns-in-Ok-clause-same : goal.returns-in-Ok-clause-same
returns-in-Ok-clause-same c = came_back _ _ _ _ _ _ _ _ c.in-Ok.ensures.writable c.in-Ok.ensures.tree c.round_trip.ensures.same

pub returns-in-Ok-clause-refused : goal.returns-in-Ok-clause-refused
returns-in-Ok-clause-refused c = refused_so _ _ _ _ _ _ c.in-Ok.ensures.writable c.round_trip.ensures.refused
