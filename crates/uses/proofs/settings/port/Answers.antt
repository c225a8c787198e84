use Rattle.std.proofs.Common.{◌≡◌, true, refl, sym, subst, ap, ◌∙◌}
use Rattle.std.specs.Prelude.{codes, Result, Ok, Err, IfErr}
use Rattle.std.specs.Result.{IsErrAnd}
use Rattle.std.specs.Str.{chars}
use Rattle.yaml_rust2.specs.Basic.{IsBasicLayout}
use Rattle.yaml_rust2.specs.Tree.{Tree}
use Rattle.yaml_rust2.specs.View.{view}
use Rattle.uses.proofs.First.{first_is, one_is_there}
use Rattle.uses.specs.Settings.{number_of}
use Rattle.uses.proofs.settings.port.Goals as goal

-- what holds of the fault holds of the error that is handed on
given_up : {A E : Type 0} (P : E → Type 0) (x : Result A E) (f : E) → IsErrAnd x (λ e. e ≡ f) → P f → IfErr x P
given_up P (Ok a) f h p = tt
given_up P (Err e) f h p = subst P (sym h) p

its_key : chars (codes "port") ≡ codes "port"
unfolding chars
its_key = refl

pub returns-in-Some-clause-value : goal.returns-in-Some-clause-value
returns-in-Some-clause-value c = λ tree laid.
    c.number.ensures ∙ ap (λ k. number_of k (view c.in-Some.settings.now)) its_key
    ∙ ap (number_of (codes "port")) (first_is view _ _ _ _ (c.in_ok-documents.ensures.basic tree laid) c.deref.ensures.value c.in-Some.ensures.value)

pub returns-clause-value : goal.returns-clause-value
returns-clause-value c = λ tree laid. absurd (one_is_there view _ _ _ (c.in_ok-documents.ensures.basic tree laid) c.deref.ensures.value c.in-None.ensures.value)

pub returns-in_err-documents-clause-only_in_memory : goal.returns-in_err-documents-clause-only_in_memory
returns-in_err-documents-clause-only_in_memory c =
    given_up (λ fault. (tree : Tree) → IsBasicLayout tree (chars c.args.text.now) → fault.memory ≡ true) c.from_residual.result c.in_err-documents.field-0.0 c.from_residual.ensures.1 (λ tree laid. (c.in_err-documents.ensures {u = tt}).basic tree laid)
