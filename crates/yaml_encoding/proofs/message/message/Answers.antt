use Rattle.yaml_encoding.proofs.Common.{string_chars_nil}
use Rattle.yaml_encoding.proofs.MessageLemmas.{message_whole}
use Rattle.yaml_encoding.proofs.message.message.Goals as goal

pub returns : goal.returns
returns c = message_whole _ _ _ _ _ _ _ _ (string_chars_nil _ c.new-text.ensures.bytes) c.in_ok-push_text.ensures c.in_ok-push_number.ensures c.in_ok-push_text-2.ensures c.in_ok-push_list.ensures c.in_ok-push_text-3.ensures
