use Rattle.yaml_loader.proofs.Common.{ap, bad_value, chars, false, if◌then◌else◌, is_decimal, is_real_text, real, string_chars, sym, true, ◌||◌, ◌∙◌, ◌≡◌}
use Rattle.yaml_loader.proofs.Tags.{real_by_bytes}
use Rattle.yaml_loader.proofs.scalar.real_of.Goals as goal

pub returns-then-is_real : goal.returns-then-is_real
unfolding string_chars
returns-then-is_real c =
    let cs = string_chars c.args.text in
    let e : true ≡ (is_real_text cs || is_decimal cs) = sym c.if-is_real.true ∙ c.is_real.ensures ∙ real_by_bytes c.as_str.result.now c.as_str.utf8 ∙ ap (λ b. is_real_text (chars b) || is_decimal (chars b)) c.as_str.ensures.value in
    ap (λ b. if b then real cs else bad_value) e

pub returns-else-is_real : goal.returns-else-is_real
unfolding string_chars
returns-else-is_real c =
    let cs = string_chars c.args.text in
    let e : false ≡ (is_real_text cs || is_decimal cs) = sym c.if-is_real.false ∙ c.is_real.ensures ∙ real_by_bytes c.as_str.result.now c.as_str.utf8 ∙ ap (λ b. is_real_text (chars b) || is_decimal (chars b)) c.as_str.ensures.value in
    ap (λ b. if b then real cs else bad_value) e
