use Rattle.yaml_loader.proofs.Common.{err_from_is_err_and, of_parser, rules}
use Rattle.yaml_loader.proofs.LoadLemmas.{went_well, load_fault, load_given}
use Rattle.yaml_loader.proofs.AnyText.{any_text_leaves, left_gives}
use Rattle.yaml_loader.proofs.loader.YamlLoader.load_from_parser.Goals as goal

pub returns-in_err-outcome-clause-fault : goal.returns-in_err-outcome-clause-fault
returns-in_err-outcome-clause-fault g c =
    let p = err_from_is_err_and c.from_residual.result c.from_residual.ensures.1 in
    let l = c.default-loader.result in
    let h = rw (c.in_err-outcome.was {u = tt}) at c.load-outcome.ensures.loads in
    rw (p.1, p.2) (load_fault l c.default-loader.ensures.empty c.default-loader.ensures.no_fault h)

pub returns-in_err-outcome-clause-reads : goal.returns-in_err-outcome-clause-reads
returns-in_err-outcome-clause-reads g c =
    let p = err_from_is_err_and c.from_residual.result c.from_residual.ensures.1 in
    let t = any_text_leaves c.default-loader.ensures.empty c.default-loader.ensures.no_fault c.note.ensures.scans (rw (c.in_err-outcome.was {u = tt}) at c.load-outcome.ensures.loads) in
    rw (p.1, p.2) (λ start text may. of_parser (t start text may))

pub returns : goal.returns
returns g c =
    let new = c.default-loader in
    let left = c.load-outcome.new.recv in
    let result = c.into_documents.result in
    let loads = rw (c.in_ok-outcome.was {u = tt}) at c.load-outcome.ensures.loads in
    let went = went_well new.result new.ensures.empty new.ensures.no_fault loads in
    let given = load_given left result c.loaded_trees_have_no_alias.ensures went c.into_documents.ensures in
    let leaves = any_text_leaves new.ensures.empty new.ensures.no_fault c.note.ensures.scans loads in
    record {
      documents = given.0;
      no_alias = given.1;
      no_fault = given.2;
      fault = given.3;
      reads = λ start text may. left_gives left result (leaves start text may) c.into_documents.ensures;
      start = search rules;
      came = search rules;
      no_nul = search rules;
    }
