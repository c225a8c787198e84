use Rattle.std.proofs.Common.{sym, ap, ◌∙◌, ◌++◌, arith, length}
use Rattle.std.specs.Prelude.{encode_utf8}
use Rattle.std.proofs.lemmas.Str.{chars_past_char, length-encode, len_utf8_bounds}
use Rattle.std.proofs.lemmas.List.{length-append}
use Rattle.yaml_tokens.proofs.line.first.Goals as goal

pub returns : goal.returns
returns c =
    let whole = sym c.chars-rest.ensures.rest ∙ c.in_ok-c.ensures.steps.0 ∙ ap (λ x. encode_utf8 c.in_ok-c.c ++ x) (sym c.as_str.ensures) in (
      chars_past_char c.args.text.now c.as_str.result.now c.in_ok-c.c c.utf8.text whole,
      omega (arith, ap length whole, length-append (encode_utf8 c.in_ok-c.c) c.as_str.result.now, length-encode c.in_ok-c.c, len_utf8_bounds c.in_ok-c.c),
    )
