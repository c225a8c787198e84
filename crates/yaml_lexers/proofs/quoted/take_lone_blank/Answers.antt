use Rattle.yaml_lexers.proofs.Common.{ap, arith, in_line_goes_on, is_blank, no_gap, Reads, Reads-saw, Reads-then, slice_index, sym, true, ◌∙◌, ◌∷◌, ◌≡◌}
use Rattle.model_scanner.proofs.QuotedLemmas.{lone_blank}
use Rattle.yaml_lexers.proofs.WindowLemmas.{has_kept}
use Rattle.yaml_lexers.proofs.quoted.take_lone_blank.Goals as goal

pub skip-requires-clause-has : goal.skip-requires-clause-has
skip-requires-clause-has g c = has_kept _ _ c.lookahead.ensures.reads c.lookahead.ensures.position.at (c.look_ch-c.ensures.has (c.is_blank.ensures.some c.if-not-is_blank.false))

pub returns-clause-ok : goal.returns-clause-ok
returns-clause-ok g c =
    let step : Reads c.lookahead.new.self c.skip.new.self (λ a b. (c.peek-next.result ≡ slice_index a 1) × (a ≡ slice_index a 0 ∷ b)) =
    Reads-saw _ _ c.peek-next.ensures.sees c.skip.ensures.reads (λ a b s e. (s, e)) in
    let later : Reads c.look_ch-c.new.self c.skip.new.self (λ a b. (c.peek-next.result ≡ slice_index a 1) × (a ≡ slice_index a 0 ∷ b)) =
    Reads-then _ _ _ c.lookahead.ensures.reads step (λ a b d same s. rw same at s) in
    let joined : c.is_joined.result ≡ true = c.if-not-is_joined.false in
    let blank : is_blank c.look_ch-c.result ≡ true = sym c.is_blank.ensures.value ∙ c.if-not-is_blank.false in
    let was = c.look_ch-c.ensures.position in
    let same = c.lookahead.ensures.position in
    let col : c.args.window.now.col ≡ c.col-col.result = omega (arith, was.col, same.col, c.col-col.ensures.value, ap (λ (m : _). m.col) c.mark.ensures) in
    Reads-then _ _ _ c.look_ch-c.ensures.reads later (λ a b d look s.
    rw (c.skip.ensures.state, c.in_ok-push.ensures, same.at, same.line, same.col, was.at, was.line, was.col)
    (lone_blank _ _ _ c.look_ch-c.result c.peek-next.result a d _ _
    (sym look.0 ∙ s.1 ∙ ap (λ x. x ∷ d) (sym look.1))
    (s.0 ∙ ap (λ xs. slice_index xs 1) s.1)
    blank
    (no_gap _ (sym c.is_blank_or_breakz.ensures ∙ c.if-is_blank_or_breakz.false))
    (c.is_joined.ensures.gap joined)
    (c.is_joined.ensures.leading joined)
    (c.is_joined.ensures.escaped joined)
    (in_line_goes_on _ _ d _ (omega arith) (omega (arith, col, c.if-col-quote.false)))))
