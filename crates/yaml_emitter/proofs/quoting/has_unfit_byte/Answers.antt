use Rattle.yaml_emitter.proofs.Common.{ap, is_unfit_for_plain, length, ltb, run_ends, ◌∙◌}
use Rattle.yaml_emitter.proofs.quoting.has_unfit_byte.Goals as goal

pub returns : goal.returns
returns c = ap (λ n. ltb n (length c.args.bytes.now)) c.run_length.ensures ∙ run_ends is_unfit_for_plain c.args.bytes.now
