use Rattle.std.proofs.Common.{◌≡◌, ℕ, List, false, sym, ap, ◌∙◌, subst}
use Rattle.std.specs.Prelude.{Bool, Option, Some, Result, Ok, Err, IfErr}
use Rattle.std.specs.Iterator.{AlwaysYields}
use Rattle.std.specs.Result.{IsErrAnd}
use Rattle.yaml_loader.specs.DocumentStream.{given}
use Rattle.yaml_loader.specs.LimitedOneByOne.{LimitedStream, IsStoppedWithin, GivesWithin, Says}
use Rattle.yaml_loader.specs.declared.limits_error.LimitsError.{LimitsError}
use Rattle.yaml_loader.specs.declared.limits.Limits.{Limits}
use Rattle.yaml_rust2.specs.Text.{up_to_nul}
use Rattle.yaml_rust2.specs.Tree.{Tree}
use Rattle.yaml_rust2.specs.declared.Yaml.{Yaml}
use Rattle.uses.proofs.strangers_log.has_other_than_mappings.Goals as goal

-- the documents before the error that is handed on
stopped : {T : Type 0} (limits : Limits) (answer : Result Bool LimitsError) (steps : T → Option ℕ → T → Type 0) (old new : LimitedStream T) (result : Option (Result Yaml LimitsError)) (item : Result Yaml LimitsError)
    (error : LimitsError) (text : List ℕ) → old.limits ≡ limits → IsErrAnd answer (λ e. e ≡ error) → GivesWithin steps old result new → old.stream.over ≡ false → AlwaysYields steps (λ c. c) old.stream.start text
    → result ≡ Some item → item ≡ Err error → IfErr answer (λ e. (documents : List Tree) × IsStoppedWithin limits (up_to_nul text) documents e)
stopped limits (Ok other) steps old new result item error text same handed gives going all is was = tt
stopped limits (Err f) steps old new result item error text same handed gives going all is was =
    subst (λ e. (documents : List Tree) × IsStoppedWithin limits (up_to_nul text) documents e) (sym handed)
    (given new.stream, subst (λ l. IsStoppedWithin l (up_to_nul text) (given new.stream) error) same (subst (λ r. Says old.limits (up_to_nul text) (given old.stream) r (given new.stream)) (is ∙ ap Some was) (gives.says going text all)))

pub returns-in_err-document-clause-stopped : goal.returns-in_err-document-clause-stopped
returns-in_err-document-clause-stopped c =
    stopped c.args.limits c.from_residual.result _ _ _ _ _ _ _ c.documents.invariant.limits c.from_residual.ensures.1 c.next.ensures.steps c.documents.invariant.going c.documents.invariant.text c.in-Some.is c.in_err-document.was
