use Rattle.yaml_parser.proofs.Answering.{ap, arith, common_steps, is_own, refl, string_chars, sym, ◌+◌, ◌∙◌, ◌≡◌}
use Rattle.yaml_parser.proofs.DirectiveLemmas.{has_declared, has_ignored, repeated_handle}
use Rattle.yaml_parser.proofs.names.Names.declare.Goals as goal

pub returns-then-declares_nothing-clause-declares : goal.returns-then-declares_nothing-clause-declares
returns-then-declares_nothing-clause-declares c = λ keep names read h.
    let y = c.declares_nothing.ensures.yes c.if-declares_nothing.true in
    has_ignored (string_chars c.args.handle) (string_chars c.args.prefix) y.0 y.1 h

pub returns-then-is_own-clause-declares : goal.returns-then-is_own-clause-declares
returns-then-is_own-clause-declares c = λ keep names read h. (
  λ more. repeated_handle read (string_chars c.args.handle) (string_chars c.args.prefix) more (c.declares_nothing.ensures.no c.if-declares_nothing.false)
      (sym (h.own.own c.args.handle) ∙ ap (is_own c.args.self.now.earlier) (sym c.in_ok-before.ensures.before) ∙ sym c.is_own.ensures ∙ c.if-is_own.true),
  refl,
  refl,
)

pub returns-clause-declares : goal.returns-clause-declares
returns-clause-declares c = λ keep names read h.
    let next : c.in-Some.number ≡ c.args.self.now.declared + 1 = grind (arith, common_steps) in
    has_declared c.args.handle (record { prefix = c.args.prefix; number = c.in-Some.number }) h refl refl refl next next c.in_ok-before.ensures.kept
    (ap (is_own c.args.self.now.earlier) (sym c.in_ok-before.ensures.before) ∙ sym c.is_own.ensures ∙ c.if-is_own.false)
    (c.declares_nothing.ensures.no c.if-declares_nothing.false)
