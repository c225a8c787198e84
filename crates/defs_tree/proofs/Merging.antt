-- What merges do to a tree.
use Rattle.defs_tree.proofs.Common.{[], AllDistinct, AllLackMergeKeys, AllPairsDistinct, ap, append-nil, append_assoc, AreDistinct, array, Bool, brought, cond, false, has_key, hash, IsDistinct, item, Items, items_of, Lacks, LacksMergeKeys, List, list_of, lookup, merge_key, merged, merged_items, merged_pairs, merged_values, no_items, no_pairs, None, Option, option_or, pair, pair_list_of, Pairs, pairs_of, pairs_of_mappings, refl, Some, subst, sym, Tree, true, ValuesLackMergeKeys, with_new_pair, with_new_pairs, without, ◌++◌, ◌∙◌, ◌∷◌, ◌≡◌, ◌≢◌, arith}
use Rattle.defs_tree.proofs.OrderLaws.{tree_eq_decides}
use Rattle.defs_tree.proofs.OverlayLaws.{Each, EachDistinct, EachDistinct-list, EachDistinct-pairs, each_append, each_lookup, list_of_pairs}
use Rattle.defs_tree.proofs.PairsLaws.{tree_eq-other, AreDistinct-append, AreDistinct-without, Lacks-itself, lookup-without_other}
use Rattle.defs_tree.proofs.TypingLaws.{OfSome}
use Rattle.defs_tree.specs.MergeLaws.{value_among, value_brought}

-- ---- values at keys

lookup_both : (k : Tree) (ps qs : List (Tree × Tree)) → lookup k (ps ++ qs) ≡ option_or (lookup k ps) (lookup k qs)
lookup_both k [] qs = refl
lookup_both k (p ∷ ps) qs = grind (arith, lookup_both k ps qs)

lookup_new_pairs : (k : Tree) (ps qs : List (Tree × Tree)) → lookup k (with_new_pairs ps qs) ≡ option_or (lookup k ps) (lookup k qs)
lookup_new_pairs k ps [] = sym (grind arith)
lookup_new_pairs k ps (q ∷ qs) = grind (arith, lookup_both, lookup_new_pairs k (with_new_pair ps q) qs, tree_eq_decides)

among : (k : Tree) (ts : Items) → lookup k (pairs_of_mappings ts) ≡ value_among k ts
among k no_items = refl
among k (item (hash ps) ts) = lookup_both k (pair_list_of ps) (pairs_of_mappings ts) ∙ ap (option_or (lookup k (pair_list_of ps))) (among k ts)
among k (item t ts) = among k ts

pub merge_finds : (k : Tree) (ps : List (Tree × Tree)) → k ≢ merge_key → lookup k (merged_pairs ps) ≡ option_or (lookup k ps) (value_brought k (lookup merge_key ps))
merge_finds k ps n = grind (arith, lookup_new_pairs, lookup-without_other, among)

-- ---- the order

pub new_pairs_after : (ps qs : List (Tree × Tree)) → (after : List (Tree × Tree)) × (with_new_pairs ps qs ≡ ps ++ after)
new_pairs_after ps [] = ([], sym (append-nil ps))
new_pairs_after ps (q ∷ qs) = by (has_key q.0 ps) (λ rs. new_pairs_after rs qs)
  where
    by : (b : Bool) → ((rs : List (Tree × Tree)) → (after : List (Tree × Tree)) × (with_new_pairs rs qs ≡ rs ++ after))
        → (after : List (Tree × Tree)) × (with_new_pairs (cond b ps (ps ++ q ∷ [])) qs ≡ ps ++ after)
    by true f = f ps
    by false f = let r = f (ps ++ q ∷ []) in (q ∷ r.0, r.1 ∙ append_assoc ps (q ∷ []) r.0)

pub own_first : (ps : List (Tree × Tree)) → (after : List (Tree × Tree)) × (merged_pairs ps ≡ without merge_key ps ++ after)
own_first ps = new_pairs_after (without merge_key ps) (brought (lookup merge_key ps))

-- ---- keys

pub lacks_key : (k : Tree) (ps : List (Tree × Tree)) → has_key k ps ≡ false → Lacks k ps
lacks_key k [] h = tt
lacks_key k (p ∷ ps) h = grind (arith, tree_eq_decides, lacks_key k ps)

new_pair_distinct : (ps : List (Tree × Tree)) (q : Tree × Tree) → AreDistinct ps → AreDistinct (with_new_pair ps q)
new_pair_distinct ps q h = by (has_key q.0 ps) refl
  where
    by : (b : Bool) → has_key q.0 ps ≡ b → AreDistinct (cond b ps (ps ++ q ∷ []))
    by true e = h
    by false e = AreDistinct-append q.0 q.1 ps h (lacks_key q.0 ps e)

new_pairs_distinct : (ps qs : List (Tree × Tree)) → AreDistinct ps → AreDistinct (with_new_pairs ps qs)
new_pairs_distinct ps [] h = h
new_pairs_distinct ps (q ∷ qs) h = new_pairs_distinct (with_new_pair ps q) qs (new_pair_distinct ps q h)

-- the keys of a mapping after its merge
pub merged_pairs_distinct : (ps : List (Tree × Tree)) → AreDistinct ps → AreDistinct (merged_pairs ps)
merged_pairs_distinct ps h = new_pairs_distinct (without merge_key ps) (brought (lookup merge_key ps)) (AreDistinct-without merge_key ps h)

lacks_values : (k : Tree) (ps : Pairs) → Lacks k (pair_list_of ps) → Lacks k (merged_values ps)
lacks_values k no_pairs h = tt
lacks_values k (pair l v ps) h = (h.0, lacks_values k ps h.1)

pub values_distinct : (ps : Pairs) → AreDistinct (pair_list_of ps) → AreDistinct (merged_values ps)
values_distinct no_pairs h = tt
values_distinct (pair k v ps) h = (lacks_values k ps h.0, values_distinct ps h.1)

-- ---- what holds of each key and each value

-- it holds of each item
abbrev pub EachItem : (Tree → Type 0) → Items → Type 0
EachItem V no_items = Unit {0}
EachItem V (item t ts) = V t × EachItem V ts

-- it holds of the parts, where it holds of the whole
abbrev pub Opens : (Tree → Type 0) → (Tree → Type 0) → Type 0
Opens K V = ((ps : Pairs) → V (hash ps) → Each K V (pair_list_of ps)) × ((ts : Items) → V (array ts) → EachItem V ts)

module _ (K V : Tree → Type 0) (opens : Opens K V) where
  each_of_mappings : (ts : Items) → EachItem V ts → Each K V (pairs_of_mappings ts)
  each_of_mappings no_items h = tt
  each_of_mappings (item (hash ps) ts) h = each_append K V (pair_list_of ps) (pairs_of_mappings ts) (opens.0 ps h.0) (each_of_mappings ts h.1)
  each_of_mappings (item t ts) h = each_of_mappings ts h.1

  each_brought : (o : Option Tree) → OfSome V o → Each K V (brought o)
  each_brought o h = grind (arith, each_of_mappings)

  each_without : (k : Tree) (ps : List (Tree × Tree)) → Each K V ps → Each K V (without k ps)
  each_without k [] h = tt
  each_without k (p ∷ ps) h = grind (arith, each_without k ps h.1)

  each_new_pairs : (ps qs : List (Tree × Tree)) → Each K V ps → Each K V qs → Each K V (with_new_pairs ps qs)
  each_new_pairs ps [] h g = h
  each_new_pairs ps (q ∷ qs) h g = each_new_pairs (with_new_pair ps q) qs (grind (arith, each_append)) g.1

  pub each_merged : (ps : List (Tree × Tree)) → Each K V ps → Each K V (merged_pairs ps)
  each_merged ps h = grind (arith, each_new_pairs, each_without, each_brought, each_lookup)

-- ---- distinct keys

distinct_items : (ts : Items) → AllDistinct ts → EachItem IsDistinct ts
distinct_items no_items h = tt
distinct_items (item t ts) h = (h.0, distinct_items ts h.1)

distinct_opens : Opens IsDistinct IsDistinct
distinct_opens = ((λ ps h. EachDistinct-list ps h.1), distinct_items)

whole_distinct : (ps : List (Tree × Tree)) → AreDistinct ps → EachDistinct ps → IsDistinct (hash (pairs_of (merged_pairs ps)))
whole_distinct ps h g = (
  subst AreDistinct (sym (list_of_pairs (merged_pairs ps))) (merged_pairs_distinct ps h),
  EachDistinct-pairs (merged_pairs ps) (each_merged IsDistinct IsDistinct distinct_opens ps g),
)

-- ---- no merge key is left

-- a key that is no merge key
abbrev IsOther : Tree → Type 0
IsOther k = merge_key ≢ k

other_each : (ps : Pairs) → Lacks merge_key (pair_list_of ps) → ValuesLackMergeKeys ps → Each IsOther LacksMergeKeys (pair_list_of ps)
other_each no_pairs h g = tt
other_each (pair k v ps) h g = ((h.0, g.0), other_each ps h.1 g.1)

each_other : (ps : List (Tree × Tree)) → Each IsOther LacksMergeKeys ps → LacksMergeKeys (hash (pairs_of ps))
each_other [] h = (tt, tt)
each_other (p ∷ ps) h = let r = each_other ps h.1 in ((h.0.0, r.0), (h.0.1, r.1))

other_items : (ts : Items) → AllLackMergeKeys ts → EachItem LacksMergeKeys ts
other_items no_items h = tt
other_items (item t ts) h = (h.0, other_items ts h.1)

other_opens : Opens IsOther LacksMergeKeys
other_opens = ((λ ps h. other_each ps h.0 h.1), other_items)

-- the values alone, and the keys of the pairs besides the merge key
abbrev IsAny : Tree → Type 0
IsAny k = Unit {0}

without_other : (ps : List (Tree × Tree)) → Lacks merge_key ps → Each IsAny LacksMergeKeys ps → Each IsOther LacksMergeKeys ps
without_other [] h g = tt
without_other (p ∷ ps) h g = ((h.0, g.0.1), without_other ps h.1 g.1)

any_opens : Opens IsAny LacksMergeKeys
any_opens = ((λ ps h. any_each (pair_list_of ps) (other_opens.0 ps h)), other_items)
  where
    any_each : (ps : List (Tree × Tree)) → Each IsOther LacksMergeKeys ps → Each IsAny LacksMergeKeys ps
    any_each [] h = tt
    any_each (p ∷ ps) h = ((tt, h.0.1), any_each ps h.1)

whole_lacks : (ps : List (Tree × Tree)) → AreDistinct ps → Each IsAny LacksMergeKeys ps → LacksMergeKeys (hash (pairs_of (merged_pairs ps)))
whole_lacks ps h g =
    let own = without_other (without merge_key ps) (Lacks-itself merge_key ps h) (each_without IsAny LacksMergeKeys any_opens merge_key ps g) in
    let new = each_brought IsOther LacksMergeKeys other_opens (lookup merge_key ps) (each_lookup IsAny LacksMergeKeys merge_key ps g) in
    each_other (merged_pairs ps) (each_new_pairs IsOther LacksMergeKeys other_opens (without merge_key ps) (brought (lookup merge_key ps)) own new)

-- ---- merged trees

mutual
  merged_both : (t : Tree) → IsDistinct t → IsDistinct (merged t) × LacksMergeKeys (merged t)
  merged_both (array ts) h = items_both ts h
  merged_both (hash ps) h =
      let r = values_both ps h.1 in
      (whole_distinct (merged_values ps) (values_distinct ps h.0) r.0, whole_lacks (merged_values ps) (values_distinct ps h.0) r.1)
  merged_both t h = (h, tt)

  items_both : (ts : Items) → AllDistinct ts → AllDistinct (items_of (merged_items ts)) × AllLackMergeKeys (items_of (merged_items ts))
  items_both no_items h = (tt, tt)
  items_both (item t ts) h = let a = merged_both t h.0 in let b = items_both ts h.1 in ((a.0, b.0), (a.1, b.1))

  values_both : (ps : Pairs) → AllPairsDistinct ps → EachDistinct (merged_values ps) × Each IsAny LacksMergeKeys (merged_values ps)
  values_both no_pairs h = (tt, tt)
  values_both (pair k v ps) h = let a = merged_both v h.1 in let b = values_both ps h.2 in (((h.0, a.0), b.0), ((tt, a.1), b.1))

pub merged_distinct : (t : Tree) → IsDistinct t → IsDistinct (merged t)
merged_distinct t h = (merged_both t h).0

pub none_is_left : (t : Tree) → IsDistinct t → LacksMergeKeys (merged t)
none_is_left t h = (merged_both t h).1

-- ---- without merge keys

lacks_none : (k : Tree) (ps : List (Tree × Tree)) → Lacks k ps → lookup k ps ≡ None
lacks_none k [] h = refl
lacks_none k (p ∷ ps) h = ap (λ b. cond b (Some p.1) (lookup k ps)) (tree_eq-other k p.0 h.0) ∙ lacks_none k ps h.1

lacks_without : (k : Tree) (ps : List (Tree × Tree)) → Lacks k ps → without k ps ≡ ps
lacks_without k [] h = refl
lacks_without k (p ∷ ps) h = ap (λ b. cond b ps (p ∷ without k ps)) (tree_eq-other k p.0 h.0) ∙ ap (λ qs. p ∷ qs) (lacks_without k ps h.1)

items_of_list : (ts : Items) → items_of (list_of ts) ≡ ts
items_of_list no_items = refl
items_of_list (item t ts) = ap (item t) (items_of_list ts)

pairs_of_list : (ps : Pairs) → pairs_of (pair_list_of ps) ≡ ps
pairs_of_list no_pairs = refl
pairs_of_list (pair k v ps) = ap (pair k v) (pairs_of_list ps)

mutual
  pub merged_same : (t : Tree) → LacksMergeKeys t → merged t ≡ t
  merged_same (array ts) h = ap (λ us. array (items_of us)) (items_same ts h) ∙ ap array (items_of_list ts)
  merged_same (hash ps) h = grind (arith, pairs_of_list, values_same ps h.1, lacks_none, lacks_without)
  merged_same t h = refl

  items_same : (ts : Items) → AllLackMergeKeys ts → merged_items ts ≡ list_of ts
  items_same no_items h = refl
  items_same (item t ts) h = ap (λ u. u ∷ merged_items ts) (merged_same t h.0) ∙ ap (λ us. t ∷ us) (items_same ts h.1)

  values_same : (ps : Pairs) → ValuesLackMergeKeys ps → merged_values ps ≡ pair_list_of ps
  values_same no_pairs h = refl
  values_same (pair k v ps) h = ap (λ u. (k, u) ∷ merged_values ps) (merged_same v h.0) ∙ ap (λ qs. (k, v) ∷ qs) (values_same ps h.1)
