use Rattle.yaml_emitter.proofs.Answering.{ap, drop, encode_utf8, length, only_run, prefix_len, run_cut, stands, stands_boundary, sym, ◌++◌, ◌∙◌}
use Rattle.yaml_emitter.proofs.escape.first_escape.Goals as goal

pub split_at-requires : goal.split_at-requires
split_at-requires c =
    rw (c.run_length.ensures, c.as_bytes.ensures.value) (stands_boundary c.args.text.now)

pub returns-in_err-c : goal.returns-in_err-c
returns-in_err-c c =
    let n = c.run_length.ensures ∙ ap (prefix_len stands) c.as_bytes.ensures.value in
    let rest = c.chars-after.ensures.rest ∙ c.split_at.ensures.back ∙ ap (λ k. drop k c.args.text.now) n in
    rw c.from_residual.ensures (only_run c.args.text.now c.utf8.text (ap length (sym rest) ∙ (c.in_err-c.ensures {u = tt}).steps.0.0))

pub returns : goal.returns
returns c =
    let n = c.run_length.ensures ∙ ap (prefix_len stands) c.as_bytes.ensures.value in
    let rest = c.chars-after.ensures.rest ∙ c.split_at.ensures.back ∙ ap (λ k. drop k c.args.text.now) n in
    rw (c.split_at.ensures.front, c.run_length.ensures, c.as_bytes.ensures.value)
    (run_cut c.args.text.now c.in_ok-c.c c.as_str.result.now c.utf8.text
    (sym rest ∙ (c.in_ok-c.ensures {u = tt}).steps.0 ∙ ap (λ x. encode_utf8 c.in_ok-c.c ++ x) (sym c.as_str.ensures)))
