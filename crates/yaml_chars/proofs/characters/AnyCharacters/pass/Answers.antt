use Rattle.yaml_chars.proofs.Common.{ap, arith, length, refl}
use Rattle.yaml_chars.proofs.CountLemmas.{chars_of_none}
use Rattle.yaml_chars.proofs.characters.AnyCharacters.pass.Goals as goal

pub returns-clause-gives : goal.returns-clause-gives
returns-clause-gives g c = rw (chars_of_none c.args.count) refl

pub returns-clause-goes : goal.returns-clause-goes
returns-clause-goes g c = λ finite. (finite, omega (arith, ap length (chars_of_none c.args.count)))
