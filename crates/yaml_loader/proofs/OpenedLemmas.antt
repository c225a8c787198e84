-- The open collections as a list, the innermost first.
use Rattle.yaml_loader.proofs.Common.{[], all_opened, ap, arith, Err, false, IfErr, Inserts, is_some, IsNoInsert, IsRefusedBy, last_of, length, List, None, Ok, OnOk, Open, Opened, opened_of, Option, option_map, reads, refl, Refusal, repeated_key, repeats, Result, slice_index_or, slice_set, Some, suc, sym, Tree, true≢false, Unfinished, view, with_start, with_tree, Yaml, zero, ℕ, ◌++◌, ◌-◌, ◌<◌, ◌∙◌, ◌∷◌, ◌≡◌}
use Rattle.yaml_loader.specs.declared.reading.Refusal.TheVariants as refusal

-- one put at the end is the innermost
pub all_opened_push : (os : List Open) (o : Open) (outer : List Opened) → all_opened (os ++ o ∷ []) outer ≡ opened_of o ∷ all_opened os outer
all_opened_push [] o outer = refl
all_opened_push (x ∷ os) o outer = all_opened_push os o (opened_of x ∷ outer)

-- the innermost, the last of the list, and those around it, also where another stands in its place
pub record HasInnermost (os : List Open) (last : ℕ) (outer : List Opened) : Type 0 where
  pub around : List Opened
  pub before : (d : Open) → all_opened os outer ≡ opened_of (slice_index_or os last d) ∷ around
  pub after : (o : Open) → all_opened (slice_set os last o) outer ≡ opened_of o ∷ around

pub innermost : (os : List Open) (last : ℕ) (outer : List Opened) → length os ≡ suc last → HasInnermost os last outer
innermost (x ∷ []) zero outer h = record { around = outer; before = λ d. refl; after = λ o. refl }
innermost (x ∷ y ∷ os) (suc last) outer h =
    let rest = innermost (y ∷ os) last (opened_of x ∷ outer) (omega arith) in
    record { around = rest.around; before = λ d. rest.before d; after = λ o. rest.after o }
innermost os last outer h = absurd (omega arith)

pub last_is : (os : List Open) (n : ℕ) (old : Open) → n ≡ length os → 0 < n → old ≡ slice_index_or os (n - 1) old
    → (i : HasInnermost os (n - 1) []) × (all_opened os [] ≡ opened_of old ∷ i.around)
last_is os n old len some at =
    let i = innermost os (n - 1) [] (omega arith) in
    (i, i.before old ∙ ap (λ o. opened_of o ∷ i.around) (sym at))

-- a tree that goes into the innermost collection, seen from the last of the list
pub inserted_at : (r : Result (Unit {0}) Refusal) (t : Tree) (u : Unfinished) (os : List Open) (n : ℕ) (old new : Open) → n ≡ length os → 0 < n → old ≡ slice_index_or os (n - 1) old
    → OnOk r (Inserts (opened_of old) t (opened_of new)) → IfErr r (λ x. IsNoInsert x (opened_of old) t (opened_of new))
    → OnOk r (with_tree t u (all_opened os []) ≡ reads (record u { opened = all_opened (slice_set os (n - 1) new) [] }))
    × IfErr r (λ x. IsRefusedBy x (with_tree t u (all_opened os [])) (all_opened (slice_set os (n - 1) new) []))
inserted_at (Ok x) t u os n old new len some at ok err =
    let i = last_is os n old len some at in
    (ap (with_tree t u) i.1 ∙ ok u i.0.around ∙ ap (λ x. reads (record u { opened = x })) (sym (i.0.after new)), tt)
inserted_at (Err refusal.OutOfMemory) t u os n old new len some at ok err = (tt, tt)
inserted_at (Err refusal.OutOfNesting) t u os n old new len some at ok err = absurd err
inserted_at (Err refusal.RepeatedKey) t u os n old new len some at ok err =
    let i = last_is os n old len some at in
    (tt, ap (with_tree t u) i.1 ∙ err u i.0.around ∙ ap (λ x. repeats (repeated_key x)) (sym (i.0.after new)))

-- a collection begins where one is open, or no root is complete
pub start_reads : (c : Opened) (u : Unfinished) (os : List Opened) (root : Option Tree) → (os ≡ [] → root ≡ None) → with_start c u os root ≡ reads (record u { opened = c ∷ os })
start_reads c u [] None h = refl
start_reads c u [] (Some r) h = let e : Some r ≡ None = h refl in cc
start_reads c u (o ∷ os) root h = refl

pub some_open : (os : List Open) → 0 < length os → (o : Opened) × (outer : List Opened) × (all_opened os [] ≡ o ∷ outer)
some_open [] h = absurd (omega arith)
some_open (o ∷ os) h = let i = innermost (o ∷ os) (length os) [] refl in (opened_of (slice_index_or (o ∷ os) (length os) o), i.around, i.before o)

-- the end of a collection: what stood before it, and what the innermost was
pub popped_as : (os rest : List Open) (o : Open) (x : Opened) → os ≡ rest ++ o ∷ [] → opened_of o ≡ x → all_opened os [] ≡ x ∷ all_opened rest []
popped_as os rest o x e same = ap (λ x. all_opened x []) e ∙ all_opened_push rest o [] ∙ ap (λ y. y ∷ all_opened rest []) same

pub no_root : (o : Option Yaml) → is_some o ≡ false → option_map view o ≡ None
no_root None h = refl
no_root (Some y) h = absurd (true≢false h)

-- ---- the last pair of a list

pub last_of_push : (ps : List (Tree × Tree)) (p : Tree × Tree) → last_of (ps ++ p ∷ []) ≡ Some p
last_of_push [] p = refl
last_of_push (q ∷ []) p = refl
last_of_push (q ∷ r ∷ ps) p = last_of_push (r ∷ ps) p
