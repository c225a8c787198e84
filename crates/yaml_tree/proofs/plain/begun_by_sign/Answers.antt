use Rattle.yaml_tree.proofs.TypingCommon.{integer, rules, typing, ◌≡◌}
use Rattle.yaml_tree.proofs.TableByFirst.{signed}
use Rattle.yaml_tree.proofs.plain.begun_by_sign.Goals as goal

pub returns-in-Some : goal.returns-in-Some
returns-in-Some c =
    let known : integer c.in-Some.number ≡ typing c.args.text.now = rw (← c.in-Some.ensures) at (signed c.args.text.now c.requires.begins) in
    search (rules, known)

pub returns-in-None : goal.returns-in-None
returns-in-None c = rw (c.string_or.ensures, c.is_real.ensures) (rw (← c.in-None.ensures) at (signed c.args.text.now c.requires.begins))
