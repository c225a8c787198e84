use Rattle.yaml_lexers.proofs.Common.{ap, arith, is_blank, is_shallow, lone_blank, nat_tests, Reads, Reads-saw, Reads-then, slice_index, sym, true, ◌+◌, ◌∙◌, ◌∷◌, ◌≡◌}
use Rattle.yaml_chars.specs.Words.{begins_word}
use Rattle.yaml_lexers.proofs.WindowLemmas.{has_kept}
use Rattle.yaml_lexers.proofs.plain.take_lone_blank.Goals as goal

pub skip-requires-clause-has : goal.skip-requires-clause-has
skip-requires-clause-has g c = has_kept _ _ c.lookahead.ensures.reads c.lookahead.ensures.position.at (c.look_ch-c.ensures.has (c.is_blank.ensures.some c.if-not-is_blank.false))

pub returns-clause-ok : goal.returns-clause-ok
unfolding begins_word
returns-clause-ok g c =
    let step : Reads c.lookahead.new.self c.skip.new.self (λ a b. (c.peek-next.result ≡ slice_index a 1) × (a ≡ slice_index a 0 ∷ b)) =
    Reads-saw _ _ c.peek-next.ensures.sees c.skip.ensures.reads (λ a b s e. (s, e)) in
    let later : Reads c.look_ch-c.new.self c.skip.new.self (λ a b. (c.peek-next.result ≡ slice_index a 1) × (a ≡ slice_index a 0 ∷ b)) =
    Reads-then _ _ _ c.lookahead.ensures.reads step (λ a b d same s. rw same at s) in
    let joined : c.is_joined.result ≡ true = c.if-not-is_joined.false in
    let blank : is_blank c.look_ch-c.result ≡ true = sym c.is_blank.ensures.value ∙ c.if-not-is_blank.false in
    let was = c.look_ch-c.ensures.position in
    let same = c.lookahead.ensures.position in
    let col : c.col-col.result ≡ c.args.window.now.col = omega (arith, was.col, same.col, c.col-col.ensures.value, ap (λ (m : _). m.col) c.mark.ensures) in
    let deep = ap (λ n. is_shallow c.args.context (n + 1)) (sym col) ∙ sym c.is_shallow.ensures ∙ c.if-is_shallow.false in
    Reads-then _ _ _ c.look_ch-c.ensures.reads later (λ a b d look s start.
    rw (c.skip.ensures.state, c.in_ok-push.ensures, same.at, same.line, same.col, was.at, was.line, was.col)
    (lone_blank c.args.context start true c.look_ch-c.result c.peek-next.result a d _ _
    (sym look.0 ∙ s.1 ∙ ap (λ x. x ∷ d) (sym look.1))
    (s.0 ∙ ap (λ xs. slice_index xs 1) s.1)
    blank
    (grind (arith, nat_tests, sym c.stops.ensures.value ∙ c.if-stops.false, c.if-next-eq35.false, c.if-next-eq45.false))
    deep
    (c.is_joined.ensures.gap joined)
    (c.is_joined.ensures.leading joined)
    (c.is_joined.ensures.escaped joined)))
