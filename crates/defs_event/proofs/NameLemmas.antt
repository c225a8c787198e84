-- Names over lists of events, part by part.
use Rattle.defs_event.proofs.Common.{[], ap, Bool, both, Ev, List, named, Names, names_after, names_after_all, None, Option, Raw, refl, resolved_event, Some, sym, ◌++◌, ◌∙◌, ◌∷◌, ◌≡◌}

-- The events of both parts, the second one's with the names after the first.
pub record NamedParts (keep_tags : Bool) (s : Names) (xs ys : List Raw) (es : List Ev) : Type 0 where
  pub before : List Ev
  pub after : List Ev
  pub of_before : named keep_tags s xs ≡ Some before
  pub of_after : named keep_tags (names_after_all keep_tags s xs) ys ≡ Some after
  pub whole : es ≡ before ++ after

-- the first event and the rest
pub record NamedFirst (o : Option Ev) (os : Option (List Ev)) (es : List Ev) : Type 0 where
  pub event : Ev
  pub more : List Ev
  pub is_first : o ≡ Some event
  pub are_more : os ≡ Some more
  pub whole : es ≡ event ∷ more

pub both_some : (o : Option Ev) (os : Option (List Ev)) (es : List Ev) → both o os ≡ Some es → NamedFirst o os es
both_some None os es h = cc
both_some (Some v) None es h = cc
both_some (Some v) (Some vs) es h = record { event = v; more = vs; is_first = refl; are_more = refl; whole = cc }

both_of : (o : Option Ev) (os : Option (List Ev)) (v : Ev) (vs : List Ev) → o ≡ Some v → os ≡ Some vs → both o os ≡ Some (v ∷ vs)
both_of o os v vs h k = ap (λ z. both z os) h ∙ ap (λ z. both (Some v) z) k

pub named_append : (keep_tags : Bool) (s : Names) (xs ys : List Raw) (es : List Ev) → named keep_tags s (xs ++ ys) ≡ Some es → NamedParts keep_tags s xs ys es
named_append keep_tags s [] ys es h = record { before = []; after = es; of_before = refl; of_after = h; whole = refl }
named_append keep_tags s (x ∷ xs) ys es h =
    let s' = names_after keep_tags s x in
    let f = both_some (resolved_event s x) (named keep_tags s' (xs ++ ys)) es h in
    let p = named_append keep_tags s' xs ys f.more f.are_more in
    record {
      before = f.event ∷ p.before;
      after = p.after;
      of_before = both_of (resolved_event s x) (named keep_tags s' xs) f.event p.before f.is_first p.of_before;
      of_after = p.of_after;
      whole = f.whole ∙ ap (λ vs. f.event ∷ vs) p.whole;
    }

-- and the other way round
pub append_named : (keep_tags : Bool) (s : Names) (xs ys : List Raw) (es fs : List Ev) → named keep_tags s xs ≡ Some es
    → named keep_tags (names_after_all keep_tags s xs) ys ≡ Some fs → named keep_tags s (xs ++ ys) ≡ Some (es ++ fs)
append_named keep_tags s [] ys es fs h k = let none : [] ≡ es = cc in rw (← none) k
append_named keep_tags s (x ∷ xs) ys es fs h k =
    let s' = names_after keep_tags s x in
    let f = both_some (resolved_event s x) (named keep_tags s' xs) es h in
    both_of (resolved_event s x) (named keep_tags s' (xs ++ ys)) f.event (f.more ++ fs) f.is_first (append_named keep_tags s' xs ys f.more fs f.are_more k)
    ∙ ap (λ (vs : List Ev). Some (vs ++ fs)) (sym f.whole)

pub after_append : (keep_tags : Bool) (s : Names) (xs ys : List Raw) → names_after_all keep_tags s (xs ++ ys) ≡ names_after_all keep_tags (names_after_all keep_tags s xs) ys
after_append keep_tags s [] ys = refl
after_append keep_tags s (x ∷ xs) ys = after_append keep_tags (names_after keep_tags s x) xs ys
