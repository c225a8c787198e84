-- What events read as: nested ones at once, and any events one by one.
use Rattle.defs_event.proofs.Common.{[], array, at_work, bad_value, codes, Err, Ev, hash, integer, is_decimal, items_of, List, Loader, Nest, nest, nest_pair, nested_alias, nested_mapping, nested_scalar, nested_sequence, NestPairs, Nests, new_loader, no_nest_pairs, no_nests, None, noted, Ok, opened_mapping, opened_sequence, pairs_of, pos, reading, refused, refused_at, Some, string, Style, Tree, typing, with_events, with_node, without_node, ℕ, ◌++◌, ◌∷◌, ◌≡◌}
use Rattle.defs_event.proofs.Texts.{plain_event, here, there, all_here}

-- ---- nested events

abbrev leaf : List ℕ → Nest
leaf text = nested_scalar text Style.plain 0 None

abbrev anchored : ℕ → List ℕ → Nest
anchored n text = nested_scalar text Style.plain n None

abbrev nests_of : List Nest → Nests
nests_of [] = no_nests
nests_of (n ∷ ns) = nest n (nests_of ns)

abbrev nest_pairs_of : List (Nest × Nest) → NestPairs
nest_pairs_of [] = no_nest_pairs
nest_pairs_of (p ∷ ps) = nest_pair p.0 p.1 (nest_pairs_of ps)

abbrev sequence_of : List Nest → Nest
sequence_of ns = nested_sequence 0 None (nests_of ns)

abbrev mapping_of : List (Nest × Nest) → Nest
mapping_of ps = nested_mapping 0 None (nest_pairs_of ps)

abbrev array_of : List Tree → Tree
array_of ts = array (items_of ts)

abbrev hash_of : List (Tree × Tree) → Tree
hash_of ps = hash (pairs_of ps)

-- ---- events one by one: what an empty loader makes of each list

abbrev loaded : List Ev → Loader
loaded es = with_events new_loader (all_here es)

record Rows : Type 0 where
  no_node : (reading [] ≡ Ok []) × (reading (without_node ∷ []) ≡ Ok (bad_value ∷ []))
  -- Pairs keep their order: `[b: [c, d], a: 2]`
  in_order : reading (with_node (sequence_of (mapping_of ((leaf (codes "b"), sequence_of (leaf (codes "c") ∷ leaf (codes "d") ∷ [])) ∷ (leaf (codes "a"), leaf (codes "2")) ∷ []) ∷ [])) ∷ [])
      ≡ Ok (array_of (hash_of ((string (codes "b"), array_of (string (codes "c") ∷ string (codes "d") ∷ [])) ∷ (string (codes "a"), integer (pos 2)) ∷ []) ∷ []) ∷ [])
  -- Keys are compared as trees: `12: x` LF `+12: y`. A bad value is a key like any other. Of two keys that come twice the first is the one
  -- whose value ends first, the inner one.
  repeated_keys :
      (reading (with_node (mapping_of ((leaf (codes "12"), leaf (codes "x")) ∷ (leaf (codes "+12"), leaf (codes "y")) ∷ [])) ∷ []) ≡ Err (integer (pos 12)))
      × (reading (with_node (mapping_of ((nested_alias 7, leaf (codes "x")) ∷ (nested_alias 8, leaf (codes "y")) ∷ [])) ∷ []) ≡ Err bad_value)
      × (reading (with_node (mapping_of ((leaf (codes "a"), leaf (codes "x"))
      ∷ (leaf (codes "a"), mapping_of ((leaf (codes "b"), leaf (codes "x")) ∷ (leaf (codes "b"), leaf (codes "y")) ∷ [])) ∷ [])) ∷ []) ≡ Err (string (codes "b")))
  -- `&a [*a]`; a number that is finished again; an anchor of an ended document
  aliases :
      (reading (with_node (nested_sequence 1 None (nests_of (nested_alias 1 ∷ []))) ∷ []) ≡ Ok (array_of (bad_value ∷ []) ∷ []))
      × (reading (with_node (sequence_of (anchored 1 (codes "x") ∷ anchored 1 (codes "y") ∷ nested_alias 1 ∷ [])) ∷ [])
      ≡ Ok (array_of (string (codes "x") ∷ string (codes "y") ∷ string (codes "y") ∷ []) ∷ []))
      × (reading (with_node (anchored 1 (codes "x")) ∷ with_node (nested_alias 1) ∷ []) ≡ Ok (string (codes "x") ∷ string (codes "x") ∷ []))
  nothing_changes : loaded (Ev.stream_start ∷ Ev.nothing ∷ Ev.document_start ∷ Ev.stream_end ∷ []) ≡ new_loader
  -- an end of the other kind, a key without value, two roots, two collections, and a collection that is open at the end
  out_of_nesting :
      (loaded (Ev.sequence_start 0 None ∷ Ev.mapping_end ∷ []) ≡ refused [] here)
      × (loaded (Ev.mapping_start 0 None ∷ plain_event (codes "k") ∷ Ev.mapping_end ∷ []) ≡ refused [] here)
      × (loaded (plain_event (codes "a") ∷ plain_event (codes "b") ∷ []) ≡ refused [] here)
      × (loaded (Ev.sequence_start 0 None ∷ Ev.sequence_end ∷ Ev.mapping_start 0 None ∷ []) ≡ refused [] here)
      × (loaded (Ev.sequence_start 0 None ∷ Ev.document_end ∷ []) ≡ refused [] here)
  -- The fault is at the position that was handed in. It stays, whatever comes, and the documents stay.
  refused_for_good :
      with_events new_loader ((Ev.document_end, here) ∷ (Ev.sequence_end, there) ∷ (Ev.document_start, here) ∷ (plain_event (codes "a"), here) ∷ (Ev.document_end, here) ∷ [])
      ≡ refused (bad_value ∷ []) there
  -- The position of a key that comes twice is that of its value; for a collection, that of its end. What comes then is ignored.
  repeated_at_its_end :
      with_events new_loader (all_here (Ev.mapping_start 0 None ∷ plain_event (codes "a") ∷ plain_event (codes "1") ∷ plain_event (codes "a") ∷ Ev.sequence_start 0 None ∷ [])
      ++ (Ev.sequence_end, there) ∷ (Ev.sequence_end, here) ∷ [])
      ≡ noted [] (string (codes "a")) there
  -- A refusal is returned, and a key that comes twice is not.
  returned : (refused_at (refused [] there) ≡ Some there) × (refused_at (noted [] bad_value there) ≡ None)
  -- a reading that is not at its end: a key waits, an anchor is finished
  waiting : loaded (plain_event (codes "d") ∷ Ev.document_end ∷ Ev.sequence_start 1 None ∷ Ev.mapping_start 0 None ∷ Ev.scalar (codes "k") Style.plain 2 None ∷ [])
      ≡ at_work (record {
        documents = string (codes "d") ∷ [];
        opened = opened_mapping 0 [] (Some (string (codes "k"))) ∷ opened_sequence 1 [] ∷ [];
        root = None;
        anchors = (2, string (codes "k")) ∷ [];
      })

rows : Rows
unfolding typing is_decimal
rows = search
