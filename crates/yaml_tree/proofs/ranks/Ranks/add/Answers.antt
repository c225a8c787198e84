use Rattle.yaml_tree.proofs.Common.{get_or, None, places, rank_at, refl, Some, sym, view, ◌∙◌, ◌≡◌}
use Rattle.yaml_tree.proofs.Rows.{ranked_place}
use Rattle.yaml_tree.proofs.ranks.Ranks.add.Goals as goal

pub unreachable-requires : goal.unreachable-requires
unreachable-requires c =
    let rank = rank_at c.args.self.now.kept c.in_default.field-0 in
    let place = get_or (places c.args.self.now.kept) rank 0 in
    let no : None ≡ Some place = c.requires.absent ∙ sym (ranked_place c.args.row.now c.requires.indexed.hash (view c.args.key.now) rank place (c.in_default.ensures {u = tt}).found refl) in
    cc
