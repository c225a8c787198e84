use Rattle.yaml_encoding.proofs.Common.{rules, string_chars}
use Rattle.yaml_encoding.proofs.MessageLemmas.{list_pushed}
use Rattle.yaml_encoding.proofs.message.push_list.Goals as goal

pub returns : goal.returns
returns c = list_pushed c.args.bytes.now c.in-Some.others.now (string_chars c.args.text.now) (string_chars c.push_number.new.text) (string_chars c.push_others.new.text) c.in-Some.first.now (search rules) (search rules) (search rules)
