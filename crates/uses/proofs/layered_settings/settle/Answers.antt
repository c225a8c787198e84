use Rattle.std.proofs.Common.{◌≡◌, Ok, Err, subst}
use Rattle.std.specs.Prelude.{Result, IfOk}
use Rattle.overlay.specs.Overlay.{overlay}
use Rattle.yaml_rust2.specs.Tree.{Tree}
use Rattle.yaml_rust2.specs.View.{view}
use Rattle.yaml_rust2.specs.declared.Yaml.{Yaml}
use Rattle.uses.proofs.layered_settings.settle.Goals as goal

laid_over : {E : Type 0} (r : Result Yaml E) (base under over : Tree) → base ≡ under → IfOk r (λ y. view y ≡ overlay base over) → IfOk r (λ y. view y ≡ overlay under over)
laid_over r base under over e h = subst (λ t. IfOk r (λ y. view y ≡ overlay t over)) e h

-- of three facts, where two give what the first step needs
with_all : {A E : Type 0} (r : Result A E) (First Second Third Base : Type 0) (P : A → Type 0) → (First → Second → Base) → (Base → Third → IfOk r P) → IfOk r (λ x. First → Second → Third → P x)
with_all (Ok x) First Second Third Base P base h = λ a b c. h (base a b) c
with_all (Err e) First Second Third Base P base h = tt

pub returns-clause-tree : goal.returns-clause-tree
returns-clause-tree c = laid_over _ _ _ _ c.in_ok-base.ensures.tree c.overlay-2.ensures.tree

pub returns-clause-writable : goal.returns-clause-writable
returns-clause-writable c = with_all _ _ _ _ _ _ c.in_ok-base.ensures.writable c.overlay-2.ensures.writable
