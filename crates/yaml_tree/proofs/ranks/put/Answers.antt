use Rattle.yaml_tree.proofs.Common.{[], ap, arith, digest, digest_of_entry, digests_in, Entry, get_or, joined, length, length-map, pairs_view, place_of_entry, places_in, rank_of, rank_within, rules, sym, view, ◌++◌, ◌/◌, ◌∙◌, ◌∷◌, ◌≡◌}
use Rattle.yaml_tree.proofs.Rows.{row_counted}
use Rattle.yaml_tree.proofs.Indexed.{map-insert}
use Rattle.yaml_tree.proofs.Digesting.{digests_next}
use Rattle.yaml_tree.proofs.Ranking.{key_append_end, key_append_left, ranked_added}
use Rattle.yaml_tree.proofs.ranks.put.Goals as goal

pub returns : goal.returns
returns c =
    let bs = c.args.blocks.now in
    let r = rank_of bs c.args.gap.spot in
    let k = view c.args.key.now in
    let ps = pairs_view c.args.row.now in
    let next : Entry = record { digest = c.args.gap.digest; place = length c.args.row.now / 2 } in
    let put = (c.in_ok-insert.ensures {u = tt}).ok in
    let count : length c.args.row.now / 2 ≡ length (places_in bs) = omega (arith, row_counted c.args.row.now c.requires.hash) in
    let all = length-map (joined bs) place_of_entry in
    let counted : length (digests_in bs) ≡ length (places_in bs) = omega (arith, length-map (joined bs) digest_of_entry) in
    let within = rank_within bs c.args.gap.spot.block c.args.gap.spot.offset c.requires.spot.1 in
    record {
      ranked = λ v. rw (put, map-insert place_of_entry (joined bs) r next, count) (ranked_added (places_in bs) ps r k v c.requires.hash.ranked c.requires.gap);
      digested = λ v. rw (put, map-insert digest_of_entry (joined bs) r next, map-insert place_of_entry (joined bs) r next, count)
          (digests_next (digests_in bs) (places_in bs) (ps ++ (k, v) ∷ []) r c.args.gap.digest (length (places_in bs)) counted (omega arith)
          (λ s g. c.requires.digested s g ∙ sym (ap digest (key_append_left ps ((k, v) ∷ []) (get_or (places_in bs) s 0) (c.requires.hash.ranked.within s (omega arith)))))
          (c.requires.digest ∙ sym (ap digest (key_append_end ps k v (length (places_in bs)) c.requires.hash.ranked.counted))));
      same = search rules;
    }
