use Rattle.std.proofs.Math.Facts.{to_z-of_z}
use Rattle.yaml_loader.proofs.Common.{ap, arith, bad_value, chars, integer, MatchResult-at_err, MatchResult-at_ok, None, option_map, signed_number, Some, subst, sym, unwrap_or, ◌∙◌, ◌≡◌}
use mir.Val.{to_z, of_z}
use mir.Syntax.{w64}
use Rattle.defs_tree.proofs.Parsing.{parsed_text}
use Rattle.yaml_loader.proofs.scalar.integer_of.Goals as goal

pub returns-in-Ok : goal.returns-in-Ok
returns-in-Ok c =
    let t = c.args.text.now in
    let p = parsed_text 10 t c.parse.result (omega arith) c.utf8.text c.parse.ensures.value.0 in
    let q = MatchResult-at_ok (λ z. signed_number 10 (chars t) ≡ Some z) (λ e. signed_number 10 (chars t) ≡ None) c.in-Ok.number c.in-Ok.is p in
    let h = c.in-Ok.ensures.value.0 in
    ap integer (subst (λ z. to_z w64 (of_z w64 z) ≡ z) (sym h.1) (to_z-of_z h.0.1)) ∙ sym (ap (λ o. unwrap_or (option_map integer o) bad_value) q)

pub returns-in-Err : goal.returns-in-Err
returns-in-Err c =
    let t = c.args.text.now in
    let p = parsed_text 10 t c.parse.result (omega arith) c.utf8.text c.parse.ensures.value.0 in
    let q = MatchResult-at_err (λ z. signed_number 10 (chars t) ≡ Some z) (λ e. signed_number 10 (chars t) ≡ None) c.in-Err.field-0 c.in-Err.is p in
    sym (ap (λ o. unwrap_or (option_map integer o) bad_value) q)
