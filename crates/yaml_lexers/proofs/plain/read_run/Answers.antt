use Rattle.yaml_lexers.proofs.Common.{ap, at, can_be_plain, ends_here, false, folded, is_blank_or_breakz, plain_from, Position, position_of, Reads, Reads-see, Reads-then, run_end, slice_index, sym, ◌∙◌, ◌≡◌, ◌≢◌}
use Rattle.model_scanner.specs.Plain.{inside}
use Rattle.yaml_lexers.proofs.PlainLemmas.{runs_out}
use Rattle.yaml_lexers.proofs.WindowLemmas.{has_kept, is_some, position_kept}
use Rattle.yaml_lexers.proofs.plain.read_run.Goals as goal

pub skip-requires-clause-has : goal.skip-requires-clause-has
skip-requires-clause-has g c = has_kept _ _ c.lookahead.ensures.reads c.lookahead.ensures.position.at (c.look_ch-c.ensures.has (is_some _ _ c.is_blank_or_breakz.ensures c.if-is_blank_or_breakz.false))

pub returns-then-not-can_be_plain-clause-ok : goal.returns-then-not-can_be_plain-clause-ok
returns-then-not-can_be_plain-clause-ok g c =
    let word : Reads c.args.window.now c.read_piece.new.window (λ a b. (start : Position) → plain_from c.args.context start a (at inside c.args.window.now c.args.scalar.now) ≡ plain_from c.args.context start b (at inside c.read_piece.new.window c.read_piece.new.scalar)) =
    Reads-then _ _ _ c.run.invariant c.in_ok-read_piece.ensures.ok (λ a b d e f start. e start ∙ f start) in
    let looked : Reads c.read_piece.new.window c.lookahead.new.self (λ a b. (b ≡ a) × (c.look_ch-c.result ≡ slice_index b 0)) =
    Reads-then _ _ _ c.look_ch-c.ensures.reads c.lookahead.ensures.reads (λ a b d e f. (f ∙ e.0, rw f e.1)) in
    let seen : Reads c.read_piece.new.window c.lookahead.new.self (λ a b. (b ≡ a) × (c.look_ch-c.result ≡ slice_index b 0) × (c.peek-next.result ≡ slice_index b 1)) =
    Reads-see _ _ looked c.peek-next.ensures.sees (λ a b e s. (e.0, e.1, s)) in
    let some : c.look_ch-c.result ≢ 0 = is_some _ _ c.is_blank_or_breakz.ensures c.if-is_blank_or_breakz.false in
    let other : is_blank_or_breakz c.look_ch-c.result ≡ false = sym c.is_blank_or_breakz.ensures ∙ c.if-is_blank_or_breakz.false in
    let ends : can_be_plain c.args.context.flow c.look_ch-c.result c.peek-next.result ≡ false = sym c.can_be_plain.ensures ∙ c.if-not-can_be_plain.true in
    let here : position_of c.read_piece.new.window ≡ position_of c.lookahead.new.self = position_kept _ _ c.look_ch-c.ensures.position ∙ position_kept _ _ c.lookahead.ensures.position in
    Reads-then _ _ _ word seen (λ a b d goes look. (
      λ start. goes start
          ∙ ap (λ (p : Position). plain_from c.args.context start b (record { mode = inside; position = p; folded = folded c.read_piece.new.scalar })) here
          ∙ ap (λ x. plain_from c.args.context start x (at inside c.lookahead.new.self c.read_piece.new.scalar)) (sym look.0)
          ∙ run_end c.args.context start d _ _ (runs_out c.args.context _ _ d look.1 look.2 ends),
      λ _. ends_here c.args.context _ _ d _ some look.1 look.2 other ends,
    ))
