use Rattle.yaml_loader.proofs.Common.{Chars-spelled}
use Rattle.yaml_loader.proofs.documents.Documents+Chars.new.Goals as goal

pub returns-clause-text : goal.returns-clause-text
returns-clause-text c = Chars-spelled c.new_from_str.result.start c.args.text.now c.utf8.text c.new_from_str.ensures.source
