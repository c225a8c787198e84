use Rattle.yaml_scanner.proofs.Common.{refl, ◌∙◌}
use Rattle.yaml_scanner.proofs.NodeFollows.{key_does, line_does}
use Rattle.yaml_scanner.proofs.fetcher.Fetcher.fetch_node.Goals as goal

pub returns-in_ok-push_key-in-Ok-Some-Key-clause-does : goal.returns-in_ok-push_key-in-Ok-Some-Key-clause-does
returns-in_ok-push_key-in-Ok-Some-Key-clause-does g c = λ _.
    key_does c.args.self.now c.push_key.new.self c.take_node.new.self c.in-Some.limit c.in-Some.ensures c.requires.started c.requires.going c.in_ok-push_key-in-Ok-Some-Key.ensures.window _ c.in-Ok-Some-Key.key
    (rw (c.in-Ok-Some-Key.field-0-is, c.in-Ok-Some-Key.field-0-0-is) at c.in-Ok-Some-Key.ensures.node)
    (c.in_ok-push_key-in-Ok-Some-Key.ensures.held ∙ rw (c.mark-mark.ensures, c.into_string.ensures) refl)

pub returns-in_ok-push_token-in-Ok-Some-Scalar-clause-does : goal.returns-in_ok-push_token-in-Ok-Some-Scalar-clause-does
returns-in_ok-push_token-in-Ok-Some-Scalar-clause-does g c = λ _.
    line_does c.args.self.now c.push_token.new.self c.take_node.new.self c.in-Some.limit c.in-Some.ensures c.requires.started c.requires.going (c.in_ok-push_token-in-Ok-Some-Scalar.ensures.window ∙ c.unroll_non_block_indents.ensures.runs.window) _ c.in-Ok-Some-Scalar.text
    (rw (c.in-Ok-Some-Scalar.field-0-is, c.in-Ok-Some-Scalar.field-0-0-is) at c.in-Ok-Some-Scalar.ensures.node)
    (c.in_ok-push_token-in-Ok-Some-Scalar.ensures.held ∙ rw (c.mark-mark.ensures, c.into_string-text.ensures, ← c.unroll_non_block_indents.ensures.runs.held) refl)
