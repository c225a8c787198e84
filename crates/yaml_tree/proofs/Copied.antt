-- The levels of a copy, from the outermost to the one that is filled.
use Rattle.yaml_tree.proofs.Common.{[], ap, append_assoc, arith, IsFilled, items_nodes, items_of, items_view, Leads, left, lefts, List, nodes, parts, refl, source_tree, subst, sym, Tree, view, Yaml, ◌++◌, ◌+◌, ◌<◌, ◌∙◌, ◌∷◌, ◌≡◌}
use Rattle.yaml_tree.specs.declared.copy.Level.{Level}
use Rattle.yaml_tree.proofs.ItemsLemmas.{items_view_push}
use Rattle.yaml_tree.proofs.WeightLemmas.{parts_nodes}

-- ---- rows

pub parts_are_fewer : (ts : List Tree) (t : Tree) → ts ≡ parts t → items_nodes (items_of ts) < nodes t
parts_are_fewer ts t e = omega (arith, parts_nodes t, ap (λ us. items_nodes (items_of us)) e)

-- ---- levels

pub leads_push : (t v : Tree) (ls : List Level) (l : Level) → Leads t ls (source_tree l.source) → IsFilled l (v ∷ []) → Leads t (ls ++ l ∷ []) v
leads_push t v [] l e f = (sym e, (v, (f, refl)))
leads_push t v (k ∷ ks) l h f = (h.0, (h.1.0, (h.1.1.0, leads_push h.1.0 v ks l h.1.1.1 f)))

pub leads_pop : (t u : Tree) (ls : List Level) (l : Level) → Leads t (ls ++ l ∷ []) u → Leads t ls (source_tree l.source) × IsFilled l (u ∷ [])
leads_pop t u [] l h = (sym h.0, subst (λ v. IsFilled l (v ∷ [])) h.1.1.1 h.1.1.0)
leads_pop t u (k ∷ ks) l h =
    let r = leads_pop h.1.0 u ks l h.1.1.1 in
    ((h.0, (h.1.0, (h.1.1.0, r.0))), r.1)

pub lefts_push : (ls : List Level) (l : Level) → lefts (ls ++ l ∷ []) ≡ lefts ls + left l
lefts_push [] l = omega arith
lefts_push (k ∷ ks) l = omega (arith, lefts_push ks l)

-- a part that was awaited is there
pub filled_more : (o : Level) (zs : List Yaml) (y : Yaml) (u : Tree) → IsFilled o (u ∷ []) → view y ≡ u → zs ≡ o.copied.items ++ y ∷ []
    → items_view zs ++ items_view o.rest.now ≡ parts (source_tree o.source)
filled_more o zs y u f e p =
    ap (λ ts. ts ++ items_view o.rest.now) (items_view_push o.copied.items zs y p ∙ ap (λ t. items_view o.copied.items ++ t ∷ []) e)
    ∙ append_assoc (items_view o.copied.items) (u ∷ []) (items_view o.rest.now) ∙ f
