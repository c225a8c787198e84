-- The order of trees is total, and two trees that tie are one tree.
use Rattle.std.specs.declared.cmp.Ordering.{Ordering}
use Rattle.std.specs.Ordering.{ordering_then, nat_cmp, int_cmp, is_eq}
use Rattle.std.specs.Cmp.{IsTotalOrder, IsEquivalence}
use Rattle.std.specs.Cmp.Lexicographic.{slice_cmp}
use Rattle.std.proofs.lemmas.Cmp.{ranked, int_ranked, int_cmp_total, lists_total, on_total, eq_by_cmp_equiv}
use Rattle.std.proofs.lemmas.Map.Text.{is_eq-slice_cmp}
use Rattle.defs_tree.proofs.Common.{[], alias, ap, arith, array, bad_value, Bool, boolean, bytes_eq-Decides, Decides, Equal, false, hash, integer, item, Items, items_cmp, List, nat_tests, no_items, no_pairs, null, pair, Pairs, pairs_cmp, pos, real, refl, string, subst, suc, sym, Tree, tree_cmp, tree_eq, true, ℕ, ℤ, ◌∙◌, ◌∷◌, ◌≡◌}

-- ---- a tree as a list of numbers, whose order is the tree's

abbrev text_code : List ℕ → List ℤ → List ℤ
text_code [] r = pos 0 ∷ r
text_code (n ∷ ns) r = pos (suc n) ∷ text_code ns r

abbrev bit : Bool → ℕ
bit false = 0
bit true = 1

abbrev mutual
  tree_code : Tree → List ℤ → List ℤ
  tree_code (real s) r = pos 0 ∷ text_code s r
  tree_code (integer z) r = pos 1 ∷ z ∷ r
  tree_code (string s) r = pos 2 ∷ text_code s r
  tree_code (boolean b) r = pos 3 ∷ pos (bit b) ∷ r
  tree_code (array ts) r = pos 4 ∷ items_code ts r
  tree_code (hash ps) r = pos 5 ∷ pairs_code ps r
  tree_code (alias n) r = pos 6 ∷ pos n ∷ r
  tree_code null r = pos 7 ∷ r
  tree_code bad_value r = pos 8 ∷ r

  items_code : Items → List ℤ → List ℤ
  items_code no_items r = pos 0 ∷ r
  items_code (item t ts) r = pos 1 ∷ tree_code t (items_code ts r)

  pairs_code : Pairs → List ℤ → List ℤ
  pairs_code no_pairs r = pos 0 ∷ r
  pairs_code (pair k v ps) r = pos 1 ∷ tree_code k (tree_code v (pairs_code ps r))

abbrev cmp : List ℤ → List ℤ → Ordering
cmp = slice_cmp int_cmp

int_cmp-pos : (m n : ℕ) → int_cmp (pos m) (pos n) ≡ nat_cmp m n
int_cmp-pos m n = grind (arith, nat_tests)

text_same : (s t : List ℕ) (q r : List ℤ) → cmp (text_code s q) (text_code t r) ≡ ordering_then (slice_cmp nat_cmp s t) (cmp q r)
text_same [] [] q r = refl
text_same [] (n ∷ ns) q r = grind (arith, int_cmp-pos)
text_same (m ∷ ms) [] q r = grind (arith, int_cmp-pos)
text_same (m ∷ ms) (n ∷ ns) q r = grind (arith, int_cmp-pos, text_same ms ns q r, nat_tests)

mutual
  tree_same : (t u : Tree) (q r : List ℤ) → cmp (tree_code t q) (tree_code u r) ≡ ordering_then (tree_cmp t u) (cmp q r)
  tree_same (real s) (real t) q r = text_same s t q r
  tree_same (integer x) (integer y) q r = refl
  tree_same (string s) (string t) q r = text_same s t q r
  tree_same (boolean b) (boolean c) q r = grind arith
  tree_same (array ts) (array us) q r = items_same ts us q r
  tree_same (hash ps) (hash ss) q r = pairs_same ps ss q r
  tree_same (alias m) (alias n) q r = ap (λ o. ordering_then o (cmp q r)) (int_cmp-pos m n)
  tree_same null null q r = refl
  tree_same bad_value bad_value q r = refl
  tree_same t u q r = refl

  items_same : (ts us : Items) (q r : List ℤ) → cmp (items_code ts q) (items_code us r) ≡ ordering_then (items_cmp ts us) (cmp q r)
  items_same no_items no_items q r = refl
  items_same (item t ts) (item u us) q r =
      grind (arith, tree_same t u (items_code ts q) (items_code us r), items_same ts us q r)
  items_same ts us q r = refl

  pairs_same : (ps ss : Pairs) (q r : List ℤ) → cmp (pairs_code ps q) (pairs_code ss r) ≡ ordering_then (pairs_cmp ps ss) (cmp q r)
  pairs_same no_pairs no_pairs q r = refl
  pairs_same (pair k v ps) (pair l w ss) q r =
      grind (
        arith,
        tree_same k l (tree_code v (pairs_code ps q)) (tree_code w (pairs_code ss r)),
        tree_same v w (pairs_code ps q) (pairs_code ss r),
        pairs_same ps ss q r,
      )
  pairs_same ps ss q r = refl

by_code : (t u : Tree) → cmp (tree_code t []) (tree_code u []) ≡ tree_cmp t u
by_code t u = tree_same t u [] [] ∙ (grind arith)

pub tree_cmp_total : IsTotalOrder tree_cmp
tree_cmp_total = subst IsTotalOrder (λ i t u. by_code t u i) (on_total (λ t. tree_code t []) (lists_total int_cmp_total))

pub tree_eq_equiv : IsEquivalence tree_eq
tree_eq_equiv = eq_by_cmp_equiv tree_cmp_total

-- ---- ties

text_tied : (s t : List ℕ) → slice_cmp nat_cmp s t ≡ Equal → s ≡ t
text_tied s t e = (bytes_eq-Decides s t).0 (sym (is_eq-slice_cmp s t) ∙ ap is_eq e)

mutual
  pub tree_tied : (t u : Tree) → tree_cmp t u ≡ Equal → t ≡ u
  tree_tied (real s) (real t) e = ap real (text_tied s t e)
  tree_tied (integer x) (integer y) e = ap integer (int_ranked x y Equal (sym e))
  tree_tied (string s) (string t) e = ap string (text_tied s t e)
  tree_tied (boolean b) (boolean c) e = ap boolean (grind arith)
  tree_tied (array ts) (array us) e = ap array (items_tied ts us e)
  tree_tied (hash ps) (hash qs) e = ap hash (pairs_tied ps qs e)
  tree_tied (alias m) (alias n) e = ap alias (ranked m n Equal (sym e))
  tree_tied null null e = refl
  tree_tied bad_value bad_value e = refl
  tree_tied t u e = cc

  items_tied : (ts us : Items) → items_cmp ts us ≡ Equal → ts ≡ us
  items_tied no_items no_items e = refl
  items_tied (item t ts) (item u us) e = grind (arith, tree_tied t u, items_tied ts us)
  items_tied ts us e = cc

  pairs_tied : (ps qs : Pairs) → pairs_cmp ps qs ≡ Equal → ps ≡ qs
  pairs_tied no_pairs no_pairs e = refl
  pairs_tied (pair k v ps) (pair l w qs) e = grind (arith, tree_tied k l, tree_tied v w, pairs_tied ps qs)
  pairs_tied ps qs e = cc

-- the test holds of the same tree alone
pub tree_eq_decides : (t u : Tree) → Decides (tree_eq t u) (t ≡ u)
tree_eq_decides t u = grind (arith, tree_tied, tree_cmp_total)
