-- The finished anchors of a map, as clauses see them: what an alias means.
use Rattle.yaml_loader.proofs.Common.{[], aliased, Anchors, anchors_of, ap, arith, bad_value, Bool, cond, Err, false, finished, IfErr, if◌then◌else◌, is_at, IsRefusedBy, List, lookup, nat_cmp, nat_eq, nat_tests, Ok, on_ok_weaker, OnOk, Opened, Option, option_map, reads, ReadsTo, refl, Refusal, Result, Some, Step, subst, suc, sym, Tree, true, Unfinished, unwrap_or, view, with_node, with_tree, Yaml, zero, ℕ, ◌<◌, ◌∙◌, ◌∷◌, ◌≡◌}
use Rattle.yaml_loader.specs.declared.reading.Refusal.TheVariants as refusal
use Rattle.yaml_loader.proofs.Beside.{may_finish_same, node_beside, reading, Same, StepsBeside, tree_beside}

-- ---- what stands under a number in a map, by a list that is searched from its front

at_number : (n k : ℕ) → is_at (nat_cmp n) k ≡ nat_eq n k
at_number n k = grind (arith, nat_tests)

module _ {A B : Type 0} (f : A → B) (other : B) where
  -- the first that is found, or what is found without it
  first_or : (a b : Bool) (x : A) (o : Option A) (rest : B) → a ≡ b → rest ≡ unwrap_or (option_map f o) other
      → (if b then f x else rest) ≡ unwrap_or (option_map f (cond a (Some x) o)) other
  first_or true b x o rest h found = ap (λ c. if c then f x else rest) (sym h)
  first_or false b x o rest h found = ap (λ c. if c then f x else rest) (sym h) ∙ found

  module _ (get : ℕ → List (ℕ × A) → B) (none : (n : ℕ) → get n [] ≡ other)
      (first : (n : ℕ) (e : ℕ × A) (es : List (ℕ × A)) → get n (e ∷ es) ≡ (if nat_eq n e.0 then f e.1 else get n es)) where
    pub found_at : (es : List (ℕ × A)) (n : ℕ) → get n es ≡ unwrap_or (option_map f (lookup (is_at (nat_cmp n)) es)) other
    found_at [] n = none n
    found_at (e ∷ es) n = first n e es ∙ first_or _ _ e.1 (lookup (is_at (nat_cmp n)) es) _ (at_number n e.0) (found_at es n)

    -- one more is put into the map
    pub put_at : (es fs : List (ℕ × A)) (a : ℕ) (x : A) → ((q : ℕ) → lookup (is_at (nat_cmp q)) fs ≡ cond (is_at (nat_cmp a) q) (Some x) (lookup (is_at (nat_cmp q)) es))
        → (n : ℕ) → get n fs ≡ (if nat_eq n a then f x else get n es)
    put_at es fs a x puts n =
        let same : is_at (nat_cmp a) n ≡ nat_eq n a = grind (arith, nat_tests) in
        let before = first_or _ _ x (lookup (is_at (nat_cmp n)) es) _ same (found_at es n) in
        found_at fs n ∙ ap (λ o. unwrap_or (option_map f o) other) (puts n) ∙ sym before

-- ---- what an alias means

pub aliased_is : (es : List (ℕ × Yaml)) (n : ℕ) → aliased n (anchors_of es) ≡ unwrap_or (option_map view (lookup (is_at (nat_cmp n)) es)) bad_value
aliased_is es n = found_at view bad_value (λ n es. aliased n (anchors_of es)) (λ n. refl) (λ n e es. refl) es n

-- a map into which a finished node is put
pub finished_in : (es fs : List (ℕ × Yaml)) (a : ℕ) (copy : Yaml) (t : Tree) → 0 < a → view copy ≡ t
    → ((q : ℕ) → lookup (is_at (nat_cmp q)) fs ≡ cond (is_at (nat_cmp a) q) (Some copy) (lookup (is_at (nat_cmp q)) es))
    → (n : ℕ) → aliased n (finished a t (anchors_of es)) ≡ aliased n (anchors_of fs)
finished_in es fs zero copy t some same puts n = absurd (omega arith)
finished_in es fs (suc a) copy t some same puts n =
    ap (λ u. if nat_eq n (suc a) then u else aliased n (anchors_of es)) (sym same)
    ∙ sym (put_at view bad_value (λ n es. aliased n (anchors_of es)) (λ n. refl) (λ n e es. refl) es fs (suc a) copy puts n)

-- ---- steps beside each other

-- What is known of the one step is known of the other.
as_beside : {docs : List Tree} {s q : Step} (r : Result (Unit {0}) Refusal) (v : Unfinished) → StepsBeside Same [] docs false s q
    → OnOk r (ReadsTo q v) → IfErr r (λ x. IsRefusedBy x q v.opened) → OnOk r (ReadsTo s v) × IfErr r (λ x. IsRefusedBy x s v.opened)
as_beside (Ok x) v (reading h k) ok err =
    let documents = ap (λ u. u.documents) h.is ∙ ok.documents in
    let opened = ap (λ u. u.opened) h.is ∙ ok.opened in
    (record { documents = documents; opened = opened; root = ap (λ u. u.root) h.is ∙ ok.root; aliases = λ n. h.anchors n ∙ ok.aliases n }, tt)
as_beside (Err refusal.OutOfMemory) v b ok err = (tt, tt)
as_beside (Err refusal.OutOfNesting) v (reading h k) ok err = cc
as_beside (Err refusal.RepeatedKey) v (reading h k) ok err = cc
as_beside r v b ok err = (ok, err)

-- a tree is inserted over anchors in which each alias means the same
pub inserted_over : (r : Result (Unit {0}) Refusal) (t : Tree) (u : Unfinished) (os : List Opened) (a b : Anchors) (v : Unfinished) → ((n : ℕ) → aliased n a ≡ aliased n b)
    → OnOk r (with_tree t (record u { anchors = b }) os ≡ reads v) → IfErr r (λ x. IsRefusedBy x (with_tree t (record u { anchors = b }) os) v.opened)
    → OnOk r (ReadsTo (with_tree t (record u { anchors = a }) os) v) × IfErr r (λ x. IsRefusedBy x (with_tree t (record u { anchors = a }) os) v.opened)
inserted_over r t u os a b v same ok err =
    let read : with_tree t (record u { anchors = b }) os ≡ reads v → ReadsTo (with_tree t (record u { anchors = b }) os) v =
    λ e. subst (λ s. ReadsTo s v) (sym e) (record { documents = refl; opened = refl; root = refl; aliases = λ n. refl }) in
    as_beside r v (tree_beside Same [] u.documents false u.root t u.opened u.opened os a b same (may_finish_same os)) (on_ok_weaker r read ok) err

-- The end of a collection: its node goes to those around it. What a step says of these doesn't hang on those that stood as open.
pub ended : (a : ℕ) (t : Tree) (u : Unfinished) (outer : List Opened) (v : Unfinished) {s : Step} (r : Result (Unit {0}) Refusal) → with_node a t u outer ≡ s
    → OnOk r (ReadsTo (with_node a t (record u { opened = outer }) outer) v) → IfErr r (λ x. IsRefusedBy x (with_node a t (record u { opened = outer }) outer) v.opened)
    → OnOk r (ReadsTo s v) × IfErr r (λ x. IsRefusedBy x s v.opened)
ended a t u outer v r is ok err =
    let same = node_beside Same [] u.documents false u.root a t u.opened outer outer u.anchors u.anchors (λ n. refl) (λ t. refl) (may_finish_same outer) in
    subst (λ s. OnOk r (ReadsTo s v) × IfErr r (λ x. IsRefusedBy x s v.opened)) is (as_beside r v same ok err)
