use Rattle.yaml_tree.proofs.Common.{ap, arith, digest, encode_utf8_all, string_chars, sym, text_digest, view, ◌∙◌, ◌≡◌}
use Rattle.yaml_tree.proofs.TextOrder.{string_encoded}
use Rattle.yaml_tree.proofs.digest.digest.Goals as goal

pub returns-in-Real-clause-digest : goal.returns-in-Real-clause-digest
returns-in-Real-clause-digest c =
    let bytes = c.as_bytes.ensures.value ∙ c.as_str.ensures.value in
    let same : text_digest (encode_utf8_all (string_chars c.in-Real.text)) ≡ digest (view c.args.key.now) = grind (arith, c.in-Real.is) in
    c.digest_of_bytes.ensures.number ∙ ap text_digest (bytes ∙ sym (string_encoded c.in-Real.text)) ∙ same
