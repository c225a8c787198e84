use Rattle.yaml_loader.proofs.TextLemmas.{of_memory}
use Rattle.yaml_loader.proofs.marked_receiver.MarkedLoader.of_text.Goals as goal

pub returns : goal.returns
returns c = of_memory c.new.result c.args.text.now c.utf8.text c.new.ensures c.of_source.ensures
