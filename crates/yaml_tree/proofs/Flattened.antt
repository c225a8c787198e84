-- The keys and values of a hash in one row.
use Rattle.yaml_tree.proofs.Common.{[], ap, arith, flat, get_or, get_or-map, items_view, key_at, length, length-map, List, map-set, paired, refl, remove, set, Some, suc, sym, Tree, value_at, view, with_value_at, Yaml, zero, ℕ, ◌*◌, ◌++◌, ◌+◌, ◌<◌, ◌∙◌, ◌∷◌, ◌≡◌}
use Rattle.std.proofs.lemmas.List.{map-append}
use Rattle.yaml_tree.proofs.Indexed.{map-remove}

-- ---- trees in a row

pub paired-flat : (ps : List (Tree × Tree)) → paired (flat ps) ≡ ps
paired-flat [] = refl
paired-flat (p ∷ ps) = ap (λ qs. p ∷ qs) (paired-flat ps)

pub pairs_from : (ts : List Tree) (ps : List (Tree × Tree)) → ts ≡ flat ps → paired ts ≡ ps
pairs_from ts ps e = ap paired e ∙ paired-flat ps

pub length-flat : (ps : List (Tree × Tree)) → length (flat ps) ≡ 2 * length ps
length-flat [] = refl
length-flat (p ∷ ps) = omega (arith, length-flat ps)

pub flat-append : (ps qs : List (Tree × Tree)) → flat (ps ++ qs) ≡ flat ps ++ flat qs
flat-append [] qs = refl
flat-append (p ∷ ps) qs = ap (λ ts. p.0 ∷ p.1 ∷ ts) (flat-append ps qs)

key_in : (ps : List (Tree × Tree)) (i n : ℕ) (d : Tree) → n ≡ 2 * i → i < length ps → get_or (flat ps) n d ≡ key_at ps i
key_in [] i n d e h = absurd (omega arith)
key_in (p ∷ ps) i n d e h = grind (arith, key_in ps)

value_in : (ps : List (Tree × Tree)) (i n : ℕ) (d : Tree) → n ≡ 2 * i + 1 → i < length ps → Some (get_or (flat ps) n d) ≡ value_at i ps
value_in [] i n d e h = absurd (omega arith)
value_in (p ∷ ps) i n d e h = grind (arith, value_in ps)

flat-remove : (ps : List (Tree × Tree)) (i n : ℕ) → n ≡ 2 * i → i < length ps → remove (remove (flat ps) n) n ≡ flat (remove ps i)
flat-remove (p ∷ ps) zero zero e h = refl
flat-remove (p ∷ ps) (suc i) (suc (suc n)) e h = ap (λ ts. p.0 ∷ p.1 ∷ ts) (flat-remove ps i n (omega arith) (omega arith))
flat-remove ps i n e h = absurd (omega arith)

-- ---- nodes in a row

at_place : (ys : List Yaml) (n : ℕ) (x : Yaml) → n < length ys → x ≡ get_or ys n x → view x ≡ get_or (items_view ys) n (view x)
at_place ys n x h e = ap view e ∙ sym (get_or-map view ys n x (view x) h)

-- a row of nodes that stands for pairs
module _ (ys : List Yaml) (us : List (Tree × Tree)) (seen : items_view ys ≡ flat us) where
  pub row_length : length ys ≡ 2 * length us
  row_length = omega (arith, length-map ys view, ap length seen, length-flat us)

  pub key_seen : (i : ℕ) (x : Yaml) → i < length us → x ≡ get_or ys (2 * i) x → view x ≡ key_at us i
  key_seen i x h e = at_place ys (2 * i) x (omega (arith, row_length)) e ∙ rw seen (key_in us i (2 * i) (view x) refl h)

  pub value_seen : (i : ℕ) (x : Yaml) → i < length us → x ≡ get_or ys (2 * i + 1) x → Some (view x) ≡ value_at i us
  value_seen i x h e = ap Some (at_place ys (2 * i + 1) x (omega (arith, row_length)) e) ∙ rw seen (value_in us i (2 * i + 1) (view x) refl h)

  pub taken : (zs : List Yaml) (i : ℕ) → i < length us → zs ≡ remove (remove ys (2 * i)) (2 * i) → items_view zs ≡ flat (remove us i)
  taken zs i h e = rw (e, map-remove view (remove ys (2 * i)) (2 * i), map-remove view ys (2 * i), seen, flat-remove us i (2 * i) refl h)

  pub added : (zs : List Yaml) (k v : Yaml) → zs ≡ ys ++ k ∷ v ∷ [] → items_view zs ≡ flat (us ++ (view k, view v) ∷ [])
  added zs k v e = rw (e, map-append view ys (k ∷ v ∷ []), seen, flat-append us ((view k, view v) ∷ []))

-- another value in a row
set_in : (us : List (Tree × Tree)) (i n : ℕ) (t : Tree) → n ≡ 2 * i + 1 → set (flat us) n t ≡ flat (with_value_at i t us)
set_in [] i n t e = refl
set_in (u ∷ us) i n t e = grind (arith, set_in us)

pub value_set : (ys : List Yaml) (us : List (Tree × Tree)) (i : ℕ) (w : Yaml) → items_view ys ≡ flat us → items_view (set ys (2 * i + 1) w) ≡ flat (with_value_at i (view w) us)
value_set ys us i w e = map-set view ys (2 * i + 1) w ∙ ap (λ ts. set ts (2 * i + 1) (view w)) e ∙ set_in us i (2 * i + 1) (view w) refl
