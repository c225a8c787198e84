use Rattle.std.proofs.Common.{refl}
use Rattle.yamlcheck.proofs.Passing.{passing}
use Rattle.yamlcheck.proofs.run.YamlCheckFileProgram.file.Goals as goal

pub returns-in-Ok-load_with_limits : goal.returns-in-Ok-load_with_limits
returns-in-Ok-load_with_limits g c =
    passing c.args.self c.args.path.now c.args.bytes.items c.as_slice.result.now c.in-Ok.text c.as_str-text.result.now c.limits.result c.load_with_limits.result
    c.in-Ok-load_with_limits.field-0 c.as_slice.ensures.value (c.in-Ok.ensures.strict refl) c.as_str-text.ensures.value c.limits.ensures
    c.load_with_limits.ensures c.in-Ok-load_with_limits.is
