use Rattle.yaml_tree.proofs.Common.{ap, drop_all, min, sym, text_digest, with_digits, ◌-◌, ◌^◌, ◌∙◌}
use Rattle.yaml_tree.proofs.digest.digest_of_bytes.Goals as goal

pub returns-clause-number : goal.returns-clause-number
unfolding text_digest
returns-clause-number c =
    let all = sym (ap (with_digits c.loop-byte.number) (drop_all c.loop-byte.byte-index c.args.bytes.now c.loop-byte-test.false)) ∙ c.loop-byte.invariant in
    c.min.ensures ∙ ap (λ n. min n (2 ^ 64 - 2)) all
