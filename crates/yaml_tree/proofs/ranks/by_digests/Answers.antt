use Rattle.yaml_tree.proofs.Common.{ap, arith, digest, digest_at, digest_of_entry, Entry, key_at, key_of_rank, length, length-map, map, pairs_view, place_of_entry, sym, ◌<◌, ◌∙◌, ◌≡◌, ◌≤◌}
use Rattle.yaml_tree.proofs.Indexed.{map-insert}
use Rattle.yaml_tree.proofs.Rows.{ranked_at}
use Rattle.yaml_tree.proofs.Digesting.{digested_key, digests_next, entries_rise, sorted_next}
use Rattle.yaml_tree.proofs.ranks.by_digests.Goals as goal

pub bounds-row-place : goal.bounds-row-place
bounds-row-place c =
    let within : c.loop-rank.rank < length c.args.few.now = omega (arith, c.loop-rank-test.true, c.len-rank-end.ensures.count) in
    omega (arith, (ranked_at c.args.row.now c.requires.hash c.loop-rank.rank c.at-place.result within c.at-place.ensures.place).inside)

pub end_of-offset-requires : goal.end_of-offset-requires
end_of-offset-requires c = record {
  rising = rw c.as_slice.ensures.value (entries_rise c.loop-rank.entries.items (pairs_view c.args.row.now) c.loop-rank.invariant.digested c.loop-rank.invariant.sorted.ascending);
}

pub loop-rank-preserved : goal.loop-rank-preserved
loop-rank-preserved c =
    let i = c.loop-rank.invariant in
    let es = c.loop-rank.entries.items in
    let rs = c.args.few.now in
    let ps = pairs_view c.args.row.now in
    let r = c.loop-rank.rank in
    let at = c.end_of-offset.result in
    let e : Entry = record { digest = c.digest-digest.result; place = c.at-place.result } in
    let within : r < length rs = omega (arith, c.loop-rank-test.true, c.len-rank-end.ensures.count) in
    let key = (ranked_at c.args.row.now c.requires.hash r c.at-place.result within c.at-place.ensures.place).key _ c.index-row-place.is in
    let number : e.digest ≡ digest (key_of_rank rs ps r) = c.digest-digest.ensures.digest ∙ ap digest key in
    let seen = c.as_slice.ensures.value in
    let all = length-map es place_of_entry in
    let inside : at ≤ length (map place_of_entry es) = omega (arith, c.end_of-offset.ensures.within, ap length seen) in
    record {
      sorted = rw ((c.in_ok-insert.ensures {u = tt}).items, map-insert place_of_entry es at e, c.at-place.ensures.place)
          (sorted_next (map place_of_entry es) rs ps r at i.sorted c.requires.hash.ranked within inside
          (λ s h. omega (arith, c.end_of-offset.ensures.before s h, ap (λ xs. digest_at xs s) seen, digested_key es ps i.digested s (omega arith), number))
          (λ s h g. omega (arith, c.end_of-offset.ensures.after s h (omega (arith, ap length seen)), ap (λ xs. digest_at xs s) seen, digested_key es ps i.digested s (omega arith), number)));
      digested = rw ((c.in_ok-insert.ensures {u = tt}).items, map-insert digest_of_entry es at e, map-insert place_of_entry es at e)
          (digests_next (map digest_of_entry es) (map place_of_entry es) ps at e.digest e.place (length-map es digest_of_entry ∙ sym all) inside i.digested
          (number ∙ sym (ap (λ p. digest (key_at ps p)) c.at-place.ensures.place)));
    }

pub returns-clause-indexed : goal.returns-clause-indexed
returns-clause-indexed c = grind arith
