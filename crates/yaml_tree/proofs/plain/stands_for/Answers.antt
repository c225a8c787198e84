use Rattle.yaml_tree.proofs.TableByFirst.{by_bytes}
use Rattle.yaml_tree.proofs.plain.stands_for.Goals as goal

pub returns : goal.returns
returns c = by_bytes c.by_first_byte.result c.args.text.now c.utf8.text c.by_first_byte.ensures
