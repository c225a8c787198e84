use Rattle.yaml_tree.proofs.Common.{[], ap, AreDigests, AreRanked, arith, digests, first_by, length, map, moved_up, OnErr, pairs_view, places, rank_at, Result, subst, Tree, view, ◌++◌, ◌/◌, ◌∙◌, ◌∷◌, ◌≡◌}
use Rattle.yaml_tree.proofs.Flattened.{row_length}
use Rattle.yaml_tree.proofs.Keeping.{is_ready, is_ready_without}
use Rattle.yaml_tree.proofs.Rows.{gap_absent, row_counted}
use Rattle.yaml_tree.proofs.row.seat.Goals as goal

always : {A B P : Type 0} (r : Result A B) → P → OnErr r P
always a p = grind arith

pub move_to_end-requires-clause-all : goal.move_to_end-requires-clause-all
move_to_end-requires-clause-all c = grind (arith, row_length)

pub returns-in-Ok-clause-ready_without : goal.returns-in-Ok-clause-ready_without
returns-in-Ok-clause-ready_without c =
    let o = c.args.ranks.now.kept in
    let rank = rw c.as_slice.ensures.value at (c.in-Ok.ensures {u = tt}).found in
    let count : c.len-count.result / 2 ≡ length (places o) =
    omega (arith, c.len-count.ensures, c.args.row.now.ok.0, row_counted c.args.row.now.items c.requires.indexed.hash) in
    is_ready_without c.args.row.now.items o c.move_to_end.new.self.kept (rank_at o c.in-Ok.spot) c.requires.indexed c.args.key.now c.at-place.result rank c.at-place.ensures
    (c.move_to_end.ensures.places ∙ ap (λ n. map (moved_up c.at-place.result n) (places o)) count) c.move_to_end.ensures.digests c.move_to_end.ensures.order

pub returns-in_err-reserve-in-Err-clause-away : goal.returns-in_err-reserve-in-Err-clause-away
returns-in_err-reserve-in-Err-clause-away c =
    let gap = rw c.as_slice.ensures.value at (c.in-Err.ensures {u = tt}).missing in
    always c.from_residual.result (gap_absent c.args.row.now.items c.requires.indexed.hash (view c.args.key.now) (rank_at c.args.ranks.now.kept c.in-Err.gap.spot) gap).unfound

pub returns-in_err-insert-in-Err-clause-away : goal.returns-in_err-insert-in-Err-clause-away
returns-in_err-insert-in-Err-clause-away c =
    let gap = rw c.as_slice.ensures.value at (c.in-Err.ensures {u = tt}).missing in
    always c.from_residual-in_err-insert-in-Err.result (gap_absent c.args.row.now.items c.requires.indexed.hash (view c.args.key.now) (rank_at c.args.ranks.now.kept c.in-Err.gap.spot) gap).unfound

pub returns-clause-ready : goal.returns-clause-ready
returns-clause-ready c =
    let o = c.args.ranks.now.kept in
    let n = c.insert.new.self.kept in
    let k = view c.args.key.now in
    let gap = rw c.as_slice.ensures.value at (c.in-Err.ensures {u = tt}).missing in
    let same = c.as_slice-in-Err.ensures.value ∙ c.reserve.ensures.items in
    is_ready c.args.row.now.items o n (rank_at o c.in-Err.gap.spot) c.requires.indexed c.args.key.now gap
    (subst (λ xs. (v : Tree) → AreRanked (first_by n) (places n) (pairs_view xs ++ (k, v) ∷ [])) same (c.in_ok-insert-in-Err.ensures {u = tt}).ranked)
    (subst (λ xs. (v : Tree) → AreDigests (digests n) (places n) (pairs_view xs ++ (k, v) ∷ [])) same (c.in_ok-insert-in-Err.ensures {u = tt}).digests)
