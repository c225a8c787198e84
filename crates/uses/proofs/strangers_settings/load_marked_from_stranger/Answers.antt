use Rattle.std.proofs.Common.{List, false}
use Rattle.std.specs.Prelude.{Result, Ok, Err, IfOk, chars}
use Rattle.yaml_loader.specs.Sizes.{AreNoDeeper, AreWithin}
use Rattle.yaml_loader.specs.declared.limits.Limits.{Limits}
use Rattle.yaml_rust2.specs.Text.{up_to_nul}
use Rattle.yaml_rust2.specs.Meaning.{Means}
use Rattle.yaml_loader.specs.LimitedMarked.{without_positions}
use Rattle.yaml_loader.specs.declared.limits_error.LimitsError.{LimitsError}
use Rattle.yaml_loader.specs.declared.marked_documents.MarkedDocuments.{MarkedDocuments}
use Rattle.yaml_rust2.specs.View.{items_view}
use Rattle.yaml_rust2.specs.Tree.{Tree}
use Rattle.uses.proofs.strangers_settings.load_marked_from_stranger.Goals as goal

-- what holds of the documents without positions
with_positions : (P : List Tree → Type 0) (result : Result MarkedDocuments LimitsError) → IfOk (without_positions result) (λ documents. P (items_view documents.items)) → IfOk result (λ d. P (items_view d.documents.items))
with_positions P (Ok d) h = h
with_positions P (Err e) h = tt

no_deeper : (result : Result MarkedDocuments LimitsError) (limits : Limits) → IfOk (without_positions result) (λ documents. AreWithin limits (items_view documents.items)) → IfOk result (λ d. AreNoDeeper limits.levels (items_view d.documents.items))
no_deeper (Ok d) limits h = h.levels
no_deeper (Err e) limits h = tt

pub returns-clause-reads : goal.returns-clause-reads
returns-clause-reads c = with_positions (Means false (up_to_nul (chars c.args.text.now))) c.load_marked_with_limits.result c.load_marked_with_limits.ensures.loads.reads

pub returns-clause-levels : goal.returns-clause-levels
returns-clause-levels c = no_deeper c.load_marked_with_limits.result _ c.load_marked_with_limits.ensures.loads.documents
