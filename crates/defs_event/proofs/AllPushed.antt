-- With `multi`, a call of `load` pushes all events of a finished run, each once and in order.
use Rattle.defs_event.proofs.Common.{[], Answer, arith, before_stream, between, Ev, event, events_of, false, given, inside, length, List, load, load_from, Nest, nest, nest_events, nest_pair, nest_pairs_events, nested_documents_events, nested_mapping, nested_sequence, nested_stream, NestedDocument, NestPairs, Nests, nests_events, no_nest_pairs, no_nests, Position, push, refl, Standing, true, well, with_node, without_node, ◌∷◌, ◌≡◌}

module _ (F : Type 0) where
  -- Where a call stands so, answers of these events are all pushed and taken, whatever their positions.
  record AllPushed (s : Standing) (es : List Ev) : Type 0 where
    whole : (xs : List (Ev × Position)) → events_of xs ≡ es
        → load_from s true (given F xs) ≡ record { pushed = xs; ending = well; taken = length xs }

  -- The first event is pushed where the call stands, and the others where it stands then.
  pushed_on : {s next : Standing} {e : Ev} {es : List Ev}
      → ((p : Position) (answers : List (Answer F)) → load_from s true (event e p ∷ answers) ≡ push e p (load_from next true answers))
      → AllPushed next es → AllPushed s (e ∷ es)
  pushed_on {s = s} {e = e} {es = es} f h = record { whole = by }
    where
      by : (xs : List (Ev × Position)) → events_of xs ≡ e ∷ es
          → load_from s true (given F xs) ≡ record { pushed = xs; ending = well; taken = length xs }
      by [] same = cc
      by (x ∷ xs) same = grind (arith, f x.1 (given F xs), h.whole xs)

  mutual
    node_pushed : (n : Nest) {r : List Ev} → AllPushed inside r → AllPushed inside (nest_events n r)
    node_pushed (nested_sequence a t ns) h = pushed_on (λ p answers. refl) (nodes_pushed ns (pushed_on (λ p answers. refl) h))
    node_pushed (nested_mapping a t ps) h = pushed_on (λ p answers. refl) (pairs_pushed ps (pushed_on (λ p answers. refl) h))
    node_pushed n h = pushed_on (λ p answers. refl) h

    nodes_pushed : (ns : Nests) {r : List Ev} → AllPushed inside r → AllPushed inside (nests_events ns r)
    nodes_pushed no_nests h = h
    nodes_pushed (nest n ns) h = node_pushed n (nodes_pushed ns h)

    pairs_pushed : (ps : NestPairs) {r : List Ev} → AllPushed inside r → AllPushed inside (nest_pairs_events ps r)
    pairs_pushed no_nest_pairs h = h
    pairs_pushed (nest_pair k v ps) h = node_pushed k (node_pushed v (pairs_pushed ps h))

  documents_pushed : (ds : List NestedDocument) → AllPushed between (nested_documents_events ds (Ev.stream_end ∷ []))
  documents_pushed [] = record { whole = ended }
    where
      ended : (xs : List (Ev × Position)) → events_of xs ≡ Ev.stream_end ∷ []
          → load_from between true (given F xs) ≡ record { pushed = xs; ending = well; taken = length xs }
      ended [] same = cc
      ended (x ∷ []) same = grind arith
      ended (x ∷ y ∷ xs) same = cc
  documents_pushed (without_node ∷ ds) = pushed_on (λ p answers. refl) (pushed_on (λ p answers. refl) (documents_pushed ds))
  documents_pushed (with_node n ∷ ds) =
      pushed_on (λ p answers. refl) (node_pushed n (pushed_on (λ p answers. refl) (documents_pushed ds)))

  pub all_pushed : (ds : List NestedDocument) (es : List (Ev × Position)) → events_of es ≡ nested_stream ds
      → load false true (given F es) ≡ record { pushed = es; ending = well; taken = length es }
  all_pushed ds es h =
      let all : AllPushed before_stream (nested_stream ds) = pushed_on (λ p answers. refl) (documents_pushed ds) in all.whole es h
