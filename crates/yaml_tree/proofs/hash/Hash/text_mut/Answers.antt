use Rattle.yaml_tree.proofs.Common.{chars, IsSome, None, place_in, refl, string, subst, sym, view, ℕ, ◌∙◌}
use Rattle.yaml_tree.proofs.Placed.{place_somewhere}
use Rattle.yaml_tree.proofs.hash.Hash.text_mut.Goals as goal

pub unreachable-requires : goal.unreachable-requires
unreachable-requires c =
    let no : IsSome {T = ℕ} None = subst IsSome (sym (c.in_default.ensures {u = tt}).place) (place_somewhere (string (chars c.args.key.now)) c.args.self.now c.requires) in
    cc

pub value_mut_at-requires : goal.value_mut_at-requires
value_mut_at-requires c = (place_in (string (chars c.args.key.now)) c.args.self.now c.in-Some.i (c.in-Some.ensures {u = tt}).place).within

pub returns : goal.returns
returns c =
    let at = place_in (string (chars c.args.key.now)) c.args.self.now c.in-Some.i (c.in-Some.ensures {u = tt}).place in
    ((refl, λ w. at.changed (view w)), c.value_mut_at.ensures.value ∙ at.found)
