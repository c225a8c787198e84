-- Open collections, of which the last is the innermost.
use Rattle.std.proofs.lemmas.Grind.{take-set_at}
use Rattle.yaml_json.proofs.ReadCommon.{[], ap, AreOpen, arith, Bool, false, HasValue, IsIn, IsValue, length, length-append, length-set, List, nat_tests, Puts, PutsLast, refl, same_from_push, set, slice_index_or, slice_set, subst, suc, sym, take, take_all, take_more, Tree, tree_in, true, ℕ, ◌++◌, ◌+◌, ◌-◌, ◌<◌, ◌==◌, ◌∙◌, ◌∷◌, ◌≡◌}
use Rattle.yaml_json.specs.declared.open.Open.{Open}
use Rattle.yaml_json.specs.declared.open.Open.TheVariants as open_as

-- the innermost, at its own place
pub record HasInnermost (os : List Open) (o : Open) (n : ℕ) (text rest : List ℕ) : Type 0 where
  pub left : ℕ
  pub count : length os + suc left ≡ n
  pub at : List ℕ
  pub outer : AreOpen os n text at
  pub innermost : IsIn o left at rest

innermost : (os : List Open) (o : Open) (n : ℕ) (text rest : List ℕ) → AreOpen (os ++ o ∷ []) n text rest → HasInnermost os o n text rest
innermost [] o n text rest (m, e, inner, h, last) = record { left = m; count = omega (arith, e); at = text; outer = refl; innermost = subst (IsIn o m text) last h }
innermost (p ∷ os) o n text rest (m, e, inner, h, more) =
    let i = innermost os o m inner rest more in
    record { left = i.left; count = omega (arith, e, i.count); at = i.at; outer = (m, e, inner, h, i.outer); innermost = i.innermost }

put_inside : (os : List Open) (o : Open) (n m : ℕ) (text at rest : List ℕ) → length os + suc m ≡ n → AreOpen os n text at → IsIn o m at rest → AreOpen (os ++ o ∷ []) n text rest
put_inside [] o n m text at rest count here h = (m, omega (arith, count), rest, subst (λ x. IsIn o m x rest) (sym here) h, refl)
put_inside (p ∷ os) o n m text at rest count (k, e, inner, i, more) h = (k, e, inner, i, put_inside os o k m inner at rest (omega (arith, count, e)) more h)

-- ---- a collection begins

pub opened_in : {now : List Open} (os : List Open) (o : Open) (text at rest : List ℕ) → length os < 255 → now ≡ os ++ o ∷ []
    → AreOpen os 255 text at → IsIn o (254 - length os) at rest → AreOpen now 255 text rest
opened_in os o text at rest room is outer inside = rw is (put_inside os o 255 (254 - length os) text at rest (omega arith) outer inside)

-- a value without parts stands in any collection
pub has_scalar : {os : List Open} {tree : Tree} {text at rest : List ℕ} → AreOpen os 255 text at → IsValue tree 0 at rest
    → HasValue os tree text rest
has_scalar {at = at} o v = record {
  at = at;
  opened = o;
  value = record { value = v.value; is = v.is; tree_is = v.tree_is; shallow = omega arith; spelled = v.spelled };
}

-- ---- a collection takes a value

puts_on : (before after : Open) (tree : Tree) (r0 r1 : List ℕ) → Puts before tree false after r0 r1 → (n : ℕ) (text at : List ℕ) → IsIn before n text at → IsValue tree n at r0 → IsIn after n text r1
puts_on (open_as.Array ts) (open_as.Array us) tree r0 r1 p n text at o v = p n text at o v
puts_on (open_as.Object ps k) (open_as.Object qs l) tree r0 r1 p n text at o v = p n text at o v
puts_on _ _ tree r0 r1 p n text at o v = absurd p

puts_end : (before after : Open) (tree : Tree) (r0 r1 : List ℕ) → Puts before tree true after r0 r1 → (n : ℕ) (text at : List ℕ) → IsIn before n text at → IsValue tree n at r0 → IsValue (tree_in after) (suc n) text r1
puts_end (open_as.Array ts) (open_as.Array us) tree r0 r1 p n text at o v = p n text at o v
puts_end (open_as.Object ps k) (open_as.Object qs l) tree r0 r1 p n text at o v = p n text at o v
puts_end _ _ tree r0 r1 p n text at o v = absurd p

-- it stays open
pub open_on : {old now : List Open} {tree : Tree} {b : Bool} {text r0 r1 : List ℕ} → b ≡ false → PutsLast old now tree b r0 r1
    → HasValue old tree text r0 → AreOpen now 255 text r1
open_on {old} {text = text} {r0} {r1} e q h =
    let p = rw e at q in
    let i = innermost p.outer p.before 255 text h.at (rw p.was at h.opened) in
    let room : 255 - length old ≡ i.left = omega (arith, ap length p.was, length-append p.outer (p.before ∷ []), i.count) in
    rw p.is (put_inside p.outer p.after 255 i.left text i.at r1 i.count i.outer
    (puts_on p.before p.after _ r0 r1 p.puts i.left i.at h.at i.innermost (rw room at h.value)))

-- it ends, and is a value of the one around it
pub ended_on : {old now rest : List Open} (collection : Open) {tree tree_of_it : Tree} {b : Bool} {text r0 r1 : List ℕ} → b ≡ true
    → now ≡ rest ++ collection ∷ [] → tree_of_it ≡ tree_in collection → PutsLast old now tree b r0 r1 → HasValue old tree text r0
    → HasValue rest tree_of_it text r1
ended_on {old} {rest = rest} collection {text = text} {r0} {r1} e is shown q h =
    let p = rw e at q in
    let i = innermost p.outer p.before 255 text h.at (rw p.was at h.opened) in
    let room : 255 - length old ≡ i.left = omega (arith, ap length p.was, length-append p.outer (p.before ∷ []), i.count) in
    let same = same_from_push p.outer rest p.after collection (sym p.is ∙ is) in
    let left : 255 - length rest ≡ suc i.left = omega (arith, i.count, ap length same.0) in
    record {
      at = i.at;
      opened = subst (λ x. AreOpen x 255 text i.at) same.0 i.outer;
      value = rw (left, shown, ← same.1) (puts_end p.before p.after _ r0 r1 p.puts i.left i.at h.at i.innermost (rw room at h.value));
    }

-- nothing is open
pub outermost : (os : List Open) (tree : Tree) (text rest : List ℕ) → length os ≡ 0 → HasValue os tree text rest → IsValue tree 255 text rest
outermost [] tree text rest e h = subst (λ x. IsValue tree 255 x rest) (sym h.opened) h.value
outermost (o ∷ os) tree text rest e h = absurd (omega arith)

pub none_left : (n : ℕ) (b : Bool) → b ≡ (n == 0) → b ≡ true → n ≡ 0
none_left n b e h = grind (arith, nat_tests)

pub last_put : (os : List Open) (n : ℕ) (old new : Open) (tree : Tree) (b : Bool) (r0 r1 : List ℕ) → n ≡ length os → 0 < n → old ≡ slice_index_or os (n - 1) old → Puts old tree b new r0 r1 → PutsLast os (slice_set os (n - 1) new) tree b r0 r1
last_put os n old new tree b r0 r1 len some is p =
    let up : n ≡ n - 1 + 1 = omega arith in
    let low : n - 1 < length os = omega arith in
    record {
      outer = take (n - 1) os;
      before = old;
      after = new;
      was = sym (take_all n os (omega arith)) ∙ ap (λ k. take k os) up ∙ take_more os (n - 1) old low ∙ ap (λ x. take (n - 1) os ++ x ∷ [])
          (sym is);
      is = sym (take_all n (set os (n - 1) new) (omega (arith, length-set os (n - 1) new))) ∙ take-set_at os (n - 1) n new up low;
      puts = p;
    }
