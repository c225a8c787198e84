-- The steps of a drop, on rows of nodes.
use Rattle.yaml_tree.proofs.Common.{[], ap, append_assoc, arith, array, array_tree, items_of, items_view, items_with_last, length, List, parts, sym, Tree, view, weight, with_last, Yaml, ◌++◌, ◌<◌, ◌∙◌, ◌∷◌, ◌≡◌, ◌≢◌}
use Rattle.yaml_tree.proofs.ItemsLemmas.{items_view_push}
use Rattle.yaml_tree.proofs.WeightLemmas.{alone, item_gone, item_descent, parts_nodes, items_with_last-of}

pub two_items : (ys zs ws : List Yaml) (a y : Yaml) → ys ≡ zs ++ a ∷ [] → zs ≡ ws ++ y ∷ []
    → items_view ys ≡ items_view ws ++ view y ∷ view a ∷ []
two_items ys zs ws a y p q =
    items_view_push zs ys a p ∙ ap (λ xs. xs ++ view a ∷ []) (items_view_push ws zs y q) ∙ append_assoc (items_view ws) (view y ∷ []) (view a ∷ [])

-- one item alone
pub row_alone : (ys zs : List Yaml) (x : Yaml) → ys ≡ zs ++ x ∷ [] → length zs ≡ 0 → weight (view x) < weight (array_tree (items_view ys))
row_alone ys [] x p n = rw p (alone (view x))
row_alone ys (z ∷ zs) x p n = absurd (omega arith)

-- the item before the last is gone
pub row_gone : (ys zs ws ps : List Yaml) (a y : Yaml) → ys ≡ zs ++ a ∷ [] → zs ≡ ws ++ y ∷ [] → ps ≡ ws ++ a ∷ []
    → weight (array_tree (items_view ps)) < weight (array_tree (items_view ys))
row_gone ys zs ws ps a y p q r = rw (two_items ys zs ws a y p q, items_view_push ws ps a r) (item_gone (items_view ws) (view y) (view a))

-- the row goes around the last part of the item before its last
pub row_next : (ys zs ws is : List Yaml) (a y : Yaml) (r : Tree) → ys ≡ zs ++ a ∷ [] → zs ≡ ws ++ y ∷ [] → items_view is ≡ parts (view y) → parts (view y) ≢ []
    → r ≡ with_last (λ t. array (items_of (items_view ws ++ t ∷ view a ∷ []))) (array_tree (items_view is)) → weight r < weight (array_tree (items_view ys))
row_next ys zs ws is a y r p q e big f =
    rw (f, e, two_items ys zs ws a y p q) (item_descent (items_view ws) (parts (view y)) (view y) (view a) big (parts_nodes (view y)))

pub descended : (f : Tree → Tree) (is js ks : List Yaml) (x r : Yaml) → is ≡ js ++ x ∷ [] → ks ≡ js ++ r ∷ [] → view r ≡ f (view x)
    → array_tree (items_view ks) ≡ with_last f (array_tree (items_view is))
descended f is js ks x r p q e =
    ap array_tree (items_view_push js ks r q ∙ ap (λ t. items_view js ++ t ∷ []) e)
    ∙ ap array (items_with_last-of f (items_view js) (view x))
    ∙ ap (λ ts. array (items_with_last f (items_of ts))) (sym (items_view_push js is x p))

-- a row that is not empty stands for some parts
pub some_parts : (ys : List Yaml) (ts : List Tree) → items_view ys ≡ ts → 0 < length ys → (items_view ys ≡ ts) × (ts ≢ [])
some_parts [] ts e h = absurd (omega arith)
some_parts (y ∷ ys) [] e h = (e, λ f. absurd (omega (arith, ap length e)))
some_parts (y ∷ ys) (t ∷ ts) e h = (e, λ f. absurd (omega (arith, ap length f)))
