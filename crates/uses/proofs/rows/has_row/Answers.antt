use Rattle.std.proofs.Common.{sym, ap, ◌∙◌}
use Rattle.std.specs.Str.Iter.{chars_rest}
use Rattle.yaml_rust2.specs.Scanned.{scanned}
use Rattle.uses.proofs.rows.has_row.Goals as goal

pub returns-in-Ok : goal.returns-in-Ok
returns-in-Ok c =
    let rest = ap chars_rest (c.take_all.ensures.start ∙ c.new-scanner.ensures.start) ∙ c.chars.ensures.rest in
    let all = c.strings_are_the_text.ensures _ _ (scanned c.take_all.new.scanner) c.utf8.text rest c.take_all.ensures.came c.take_all.ensures.no_nul c.take_all.ensures.scans in
    let tokens = (scanned c.take_all.new.scanner).given in
    (tokens, all.whole c.in-Ok.ensures.ended)

pub returns : goal.returns
returns c = λ tokens is.
    let rest = ap chars_rest (c.take_all.ensures.start ∙ c.new-scanner.ensures.start) ∙ c.chars.ensures.rest in
    let none = c.texts_with_a_fault_have_no_row.ensures _ _ (scanned c.take_all.new.scanner) _ c.utf8.text rest c.take_all.ensures.came c.take_all.ensures.no_nul
    c.in-Err.ensures.rowless (sym c.is_out_of_memory.ensures ∙ c.if-is_out_of_memory.false) in
    none.rowless tokens is
