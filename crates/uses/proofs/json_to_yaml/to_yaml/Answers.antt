use Rattle.yaml_rust2.specs.View.{view}
use Rattle.uses.proofs.Converted.{converted, refused_so}
use Rattle.uses.proofs.First.{first_is, one_is_there}
use Rattle.uses.proofs.json_to_yaml.to_yaml.Goals as goal

pub returns-in-Some-clause-same : goal.returns-in-Some-clause-same
returns-in-Some-clause-same c =
    converted _ _ _ _ _ (λ tree is. first_is view _ _ _ _ (c.in-Ok.ensures.json tree is) c.deref.ensures.value c.in-Some.ensures.value) c.dumped.ensures.text c.dumped.ensures.valid c.dumps_are_laid_out.ensures

pub returns-in-Some-clause-refused : goal.returns-in-Some-clause-refused
returns-in-Some-clause-refused c = refused_so _ _ _ c.dumped.ensures.refused

pub returns-clause-same : goal.returns-clause-same
returns-clause-same c = λ tree is writable. absurd (one_is_there view _ _ _ (c.in-Ok.ensures.json tree is) c.deref.ensures.value c.in-None.ensures.value)

pub returns-in-Err-clause-refused : goal.returns-in-Err-clause-refused
returns-in-Err-clause-refused c = λ tree is. c.from.ensures (c.in-Err.ensures.json tree is)
