use Rattle.std.proofs.lemmas.List.{length-drop}
use Rattle.yaml_chars.proofs.Common.{ap, arith, chars_rest, drop, IsUtf8, length, refl, subst, ◌∙◌}
use Rattle.yaml_chars.proofs.CountLemmas.{chars_few, chars_of_zero}
use Rattle.yaml_chars.proofs.WordsLemmas.{gives_front}
use Rattle.yaml_chars.proofs.characters.TextInMemoryCharacters.pass.Goals as goal

pub returns-clause-gives : goal.returns-clause-gives
returns-clause-gives c =
    gives_front c.args.self.now (record { chars = c.chars-self.result }) c.args.count c.if-count-eq0.false c.requires.within
    (subst IsUtf8 c.as_str.ensures c.as_str.utf8) c.requires.cut
    (c.chars-self.ensures.rest ∙ c.range_from-rest.ensures.value ∙ ap (drop c.args.count) c.as_str.ensures)

pub returns-then-count-eq0-clause-gives : goal.returns-then-count-eq0-clause-gives
returns-then-count-eq0-clause-gives c = rw (chars_of_zero c.args.count (chars_rest c.args.self.now.chars) c.if-count-eq0.true) refl

pub returns-then-count-eq0-clause-goes : goal.returns-then-count-eq0-clause-goes
returns-then-count-eq0-clause-goes c = λ finite. (finite, omega (arith, ap length (chars_of_zero c.args.count (chars_rest c.args.self.now.chars) c.if-count-eq0.true)))

pub returns-clause-goes : goal.returns-clause-goes
returns-clause-goes c = λ finite. (
  finite,
  let few = chars_few c.args.count (chars_rest c.args.self.now.chars) (subst IsUtf8 c.as_str.ensures c.as_str.utf8) c.requires.cut c.requires.within in
      let left = ap length (c.chars-self.ensures.rest ∙ c.range_from-rest.ensures.value ∙ ap (drop c.args.count) c.as_str.ensures) in
      omega (arith, few, left, length-drop c.args.count (chars_rest c.args.self.now.chars), c.requires.within),
)
