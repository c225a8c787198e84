use Rattle.yaml_lexers.proofs.Common.{ap, arith, Folded, nothing, plain, plain_from, plain_starts, Position, position_of, Reads-see, sym, ◌∙◌}
use Rattle.model_scanner.specs.Plain.{first}
use Rattle.yaml_lexers.proofs.WindowLemmas.{has_kept, position_kept}
use Rattle.yaml_lexers.proofs.plain.read_plain.Goals as goal

pub lines-init : goal.lines-init
lines-init g c = record {
  reads = Reads-see _ _ c.lookahead.ensures.reads c.check_start.ensures (λ a b same checked.
      ap (λ x. plain c.args.context x (position_of c.args.window.now)) (sym same)
      ∙ plain_starts c.args.context b (position_of c.lookahead.new.self) (position_of c.args.window.now) (sym checked ∙ c.in_ok-check_start.was) (position_kept _ _ c.lookahead.ensures.position)
      ∙ ap (λ (p : Position). plain_from c.args.context p b (record { mode = first; position = position_of c.lookahead.new.self; folded = nothing })) (sym c.mark-start.ensures)
      ∙ ap (λ (t : Folded). plain_from c.args.context c.mark-start.result b (record { mode = first; position = position_of c.lookahead.new.self; folded = t })) (sym (c.make_room.ensures ∙ c.new-scalar.ensures)));
  has = has_kept _ _ c.lookahead.ensures.reads c.lookahead.ensures.position.at c.requires;
  ahead = omega (arith, c.lookahead.ensures.ahead);
}
