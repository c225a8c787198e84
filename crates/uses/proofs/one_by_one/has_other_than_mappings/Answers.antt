use Rattle.std.proofs.Common.{◌≡◌, ℕ, List, false, sym, ap, ◌∙◌, subst}
use Rattle.std.specs.Prelude.{Bool, Option, Some, Result, Ok, Err, IfErr}
use Rattle.std.specs.Iterator.{AlwaysYields}
use Rattle.std.specs.Result.{IsErrAnd}
use Rattle.yaml_loader.specs.FirstDocuments.{IsStopped}
use Rattle.yaml_loader.specs.DocumentStream.{Stream, Gives, Says, given}
use Rattle.yaml_rust2.specs.ErrorReport.{ErrorReport}
use Rattle.yaml_rust2.specs.Text.{up_to_nul}
use Rattle.yaml_rust2.specs.Tree.{Tree}
use Rattle.yaml_rust2.specs.declared.Yaml.{Yaml}
use Rattle.uses.proofs.one_by_one.has_other_than_mappings.Goals as goal

-- the documents before the fault that is handed on
stopped : {T : Type 0} (answer : Result Bool ErrorReport) (steps : T → Option ℕ → T → Type 0) (old new : Stream T) (result : Option (Result Yaml ErrorReport)) (item : Result Yaml ErrorReport)
    (fault : ErrorReport) (text : List ℕ) → IsErrAnd answer (λ e. e ≡ fault) → Gives steps old result new → old.over ≡ false → AlwaysYields steps (λ c. c) old.start text
    → result ≡ Some item → item ≡ Err fault → IfErr answer (λ f. (documents : List Tree) × IsStopped false (up_to_nul text) documents f)
stopped (Ok other) steps old new result item fault text handed gives going all is was = tt
stopped (Err f) steps old new result item fault text handed gives going all is was =
    subst (λ e. (documents : List Tree) × IsStopped false (up_to_nul text) documents e) (sym handed)
    (given new, subst (λ r. Says (up_to_nul text) (given new) r) (is ∙ ap Some was) (gives.says going text all))

pub returns-in_err-document-clause-stopped : goal.returns-in_err-document-clause-stopped
returns-in_err-document-clause-stopped c =
    stopped c.from_residual.result _ _ _ _ _ _ _ c.from_residual.ensures.1 c.next.ensures.steps c.documents.invariant.going c.documents.invariant.text c.in-Some.is c.in_err-document.was
