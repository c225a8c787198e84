use Rattle.yaml_loader.proofs.DocumentTexts.{given_are_the_first}
use Rattle.yaml_loader.proofs.laws.given_documents_are_the_first.Goals as goal

pub returns : goal.returns
returns c = given_are_the_first
