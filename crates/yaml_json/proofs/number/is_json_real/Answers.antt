use Rattle.yaml_json.proofs.Answering.{ap, arith, reads_number, real_is, sym, true, ◌∙◌}
use Rattle.defs_tree.proofs.Parsing.{parsed_text}
use Rattle.yaml_json.proofs.number.is_json_real.Goals as goal

pub returns-then-is_number : goal.returns-then-is_number
returns-then-is_number c =
    let text = c.args.text.now in
    real_is text true c.is_err.result c.parse.result c.utf8.text (sym c.if-is_number.true ∙ c.is_number.ensures ∙ ap reads_number c.as_bytes.ensures.value) c.is_err.ensures.value
    (parsed_text 10 text c.parse.result (omega arith) c.utf8.text c.parse.ensures.value.0)
