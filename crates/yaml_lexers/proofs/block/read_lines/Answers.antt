use Rattle.yaml_lexers.proofs.Common.{ap, arith, begun, line, Lines, lines, lines_from, margin, position_of, Reads, Reads-saw, Reads-then, Sees-both, slice_index, sym, true, with_char, ◌∙◌, ◌∷◌, ◌≡◌}
use Rattle.std.proofs.lemmas.Grind.{common_steps}
use Rattle.model_scanner.proofs.BlockLemmas.{begin_lines}
use Rattle.model_scanner.specs.BlockScalar.{begins, ends_indent}
use Rattle.yaml_lexers.specs.ShownBlock.{at}
use Rattle.yaml_lexers.proofs.block.read_lines.Goals as goal

pub lines-preserved : goal.lines-preserved
lines-preserved g c =
    let content : Reads c.lookahead.new.self c.read_line.new.window (λ a b. ends_indent c.args.column c.lookahead.new.self.col a ≡ true →
    lines_from c.args.literal c.args.column a (at margin c.lookahead.new.self c.read_indent.new.block) ≡ lines_from c.args.literal c.args.column b (at margin c.read_line.new.window c.read_line.new.block)) =
    Reads-then {P = λ a b. ((c.ch-c.result ≡ slice_index a 0) × (c.begins.result ≡ begins c.args.column c.lookahead.new.self.col a)) × (a ≡ slice_index a 0 ∷ b)} _ _ _
    (Reads-saw _ _ (Sees-both _ c.ch-c.ensures.sees c.begins.ensures.sees) c.skip.ensures.reads (λ a b s p. (s, p))) c.in_ok-read_line.ensures.ok (λ a b d p q e.
    begin_lines c.args.literal c.args.column a b c.ch-c.result _ _ (p.1 ∙ ap (λ x. x ∷ b) (sym p.0.0)) e (sym p.0.1 ∙ c.if-not-begins.false)
    ∙ ap (λ w. lines_from c.args.literal c.args.column b (record { mode = line; position = position_of w; lines = with_char c.ch-c.result (begun c.args.literal c.ch-c.result (lines c.read_indent.new.block)) })) (sym c.skip.ensures.state)
    ∙ ap (λ (l : Lines). lines_from c.args.literal c.args.column b (record { mode = line; position = position_of c.skip.new.self; lines = l })) (sym c.in_ok-begin.ensures)
    ∙ q c.args.literal c.args.column) in
    grind (arith, common_steps, content)
