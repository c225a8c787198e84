use Rattle.yaml_chars.proofs.Common.{arith, length, ◌≡◌}
use Rattle.yaml_chars.proofs.RunLemmas.{Reads-map}
use Rattle.yaml_chars.proofs.WordsLemmas.{Fills-gives, Reads-gives}
use Rattle.yaml_chars.proofs.window.Window.pass_words.Goals as goal

pub invariant_of-self : goal.invariant_of-self
invariant_of-self g c =
    let count = rw (← c.self.view_is) at c.len.ensures.value in
    let none : length c.self.inside.ring ≡ 0 = omega (arith, count, c.if-len-gt0.false) in
    Fills-gives c.self.invariant none c.pass_words-count.ensures.1

pub returns : goal.returns
returns g c =
    let count = rw (← c.self.view_is) at c.len.ensures.value in
    let none : length c.self.inside.ring ≡ 0 = omega (arith, count, c.if-len-gt0.false) in
    rw (← c.self.view_is) (Reads-map _ _ (Reads-gives c.self.invariant none c.pass_words-count.ensures.1 _ _) (λ a b e. (_, e)))
