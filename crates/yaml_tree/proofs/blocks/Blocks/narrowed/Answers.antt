use Rattle.yaml_tree.proofs.BlocksCommon.{arith, edge_past, edges_narrow, edges_rise, filled_digits, joined, length, nat_tests, rank_of, refl, ◌+◌, ◌<◌}
use Rattle.yaml_tree.proofs.blocks.Blocks.narrowed.Goals as goal

pub returns-then-is_past-clause-narrowed : goal.returns-then-is_past-clause-narrowed
returns-then-is_past-clause-narrowed c = edge_past (joined c.args.self.now) c.args.digest (rank_of c.args.self.now c.edge-low.result) c.edge-low.ensures.edge (c.is_past.ensures.past c.if-is_past.true)

pub between-requires-clause-ordered : goal.between-requires-clause-ordered
between-requires-clause-ordered c =
    let bs = c.args.self.now in
    edges_rise (joined bs) c.args.digest (c.args.digest + 1) (rank_of bs c.edge-low.result) (rank_of bs c.edge-high.result) c.requires.rising c.edge-low.ensures.edge c.edge-high.ensures.edge (omega arith)

pub returns-clause-narrowed : goal.returns-clause-narrowed
returns-clause-narrowed c =
    let bs = c.args.self.now in
    edges_narrow (joined bs) c.args.digest (c.args.digest + 1) (rank_of bs c.edge-low.result) (rank_of bs c.edge-high.result) c.between.result c.requires.rising c.edge-low.ensures.edge c.edge-high.ensures.edge refl c.between.ensures

pub returns-then-is_past-clause-compared : goal.returns-then-is_past-clause-compared
returns-then-is_past-clause-compared c =
    let blocks : 0 < length c.self.inside.blocks.items = grind (arith, nat_tests, c.is_empty.ensures, c.if-is_empty.false) in
    let some = rw c.self.view_is at (filled_digits c.self.inside.blocks.items c.self.invariant.filled blocks) in
    (omega arith, omega arith)

pub returns-then-is_last-clause-compared : goal.returns-then-is_last-clause-compared
returns-then-is_last-clause-compared c =
    let blocks : 0 < length c.self.inside.blocks.items = grind (arith, nat_tests, c.is_empty.ensures, c.if-is_empty.false) in
    let some = rw c.self.view_is at (filled_digits c.self.inside.blocks.items c.self.invariant.filled blocks) in
    (omega arith, omega arith)

pub returns-clause-compared : goal.returns-clause-compared
returns-clause-compared c =
    let blocks : 0 < length c.self.inside.blocks.items = grind (arith, nat_tests, c.is_empty.ensures, c.if-is_empty.false) in
    let some = rw c.self.view_is at (filled_digits c.self.inside.blocks.items c.self.invariant.filled blocks) in
    (omega arith, omega arith)
