-- Names where the setting of `keep_tags` changes.
use Rattle.yaml_parser.proofs.Common.{[], after_append, ap, append_named, AreAll, arith, Bool, both, both_some, Ev, length, List, named, named_since, Names, names_after, names_after_all, names_since, None, Option, Raw, refl, resolved_event, Some, sym, ◌++◌, ◌+◌, ◌∙◌, ◌∷◌, ◌≡◌, ◌≤◌}

both_none : (o : Option Ev) → both o None ≡ None
both_none o = grind arith

-- ---- more events, with the setting that there is

named_stops : (keep : Bool) (s : Names) (es fs : List Raw) → named keep (names_after_all keep s es) fs ≡ None → named keep s (es ++ fs) ≡ None
named_stops keep s [] fs h = h
named_stops keep s (e ∷ es) fs h = ap (both (resolved_event s e)) (named_stops keep (names_after keep s e) es fs h) ∙ both_none (resolved_event s e)

pub since_length : (ks : List Bool) (k : Bool) (s : Names) (es : List Raw) (vs : List Ev) → named_since ks k s es ≡ Some vs → length es ≡ length vs
since_length [] k s [] vs h = let x : vs ≡ [] = cc in sym (ap length x)
since_length [] k s (e ∷ es) vs h =
    let f = both_some (resolved_event s e) (named k (names_after k s e) es) vs h in
    omega (arith, since_length [] k (names_after k s e) es f.more f.are_more, ap length f.whole)
since_length (c ∷ ks) k s [] vs h = let x : vs ≡ [] = cc in sym (ap length x)
since_length (c ∷ ks) k s (e ∷ es) vs h =
    let f = both_some (resolved_event s e) (named_since ks k (names_after c s e) es) vs h in
    omega (arith, since_length ks k (names_after c s e) es f.more f.are_more, ap length f.whole)

pub since_append : (ks : List Bool) (k : Bool) (s : Names) (es fs : List Raw) (vs ws : List Ev) → length ks ≤ length es → named_since ks k s es ≡ Some vs → named k (names_since ks k s es) fs ≡ Some ws
    → named_since ks k s (es ++ fs) ≡ Some (vs ++ ws)
since_append [] k s es fs vs ws few h n = append_named k s es fs vs ws h n
since_append (x ∷ ks) k s [] fs vs ws few h n = absurd (omega (arith, few))
since_append (x ∷ ks) k s (e ∷ es) fs vs ws few h n =
    let f = both_some (resolved_event s e) (named_since ks k (names_after x s e) es) vs h in
    ap (λ o. both o (named_since ks k (names_after x s e) (es ++ fs))) f.is_first
    ∙ ap (both (Some f.event)) (since_append ks k (names_after x s e) es fs f.more ws (omega (arith, few)) f.are_more n)
    ∙ ap (λ (us : List Ev). Some (us ++ ws)) (sym f.whole)

pub since_stops : (ks : List Bool) (k : Bool) (s : Names) (es fs : List Raw) → length ks ≤ length es → named k (names_since ks k s es) fs ≡ None → named_since ks k s (es ++ fs) ≡ None
since_stops [] k s es fs few h = named_stops k s es fs h
since_stops (x ∷ ks) k s [] fs few h = absurd (omega (arith, few))
since_stops (x ∷ ks) k s (e ∷ es) fs few h = ap (both (resolved_event s e)) (since_stops ks k (names_after x s e) es fs (omega (arith, few)) h) ∙ both_none (resolved_event s e)

pub since_after : (ks : List Bool) (k : Bool) (s : Names) (es : List Raw) (e : Raw) → length ks ≤ length es → names_since ks k s (es ++ e ∷ []) ≡ names_after k (names_since ks k s es) e
since_after [] k s es e few = after_append k s es (e ∷ [])
since_after (x ∷ ks) k s [] e few = absurd (omega (arith, few))
since_after (x ∷ ks) k s (y ∷ es) e few = since_after ks k (names_after x s y) es e (omega (arith, few))

-- ---- another setting from now on

pub since_other : (ks : List Bool) (j k : Bool) (s : Names) (es : List Raw) → length es ≤ length ks → (named_since ks j s es ≡ named_since ks k s es) × (names_since ks j s es ≡ names_since ks k s es)
since_other (x ∷ ks) j k s (e ∷ es) few = let i = since_other ks j k (names_after x s e) es (omega (arith, few)) in (ap (both (resolved_event s e)) i.0, i.1)
since_other [] j k s (e ∷ es) few = absurd (omega (arith, few))
since_other _ j k s es few = (refl, refl)

-- The setting with which the last event was read is noted.
pub since_noted : (ks : List Bool) (k : Bool) (s : Names) (es : List Raw) → length es ≤ length ks + 1 → (named_since (ks ++ k ∷ []) k s es ≡ named_since ks k s es) × (names_since (ks ++ k ∷ []) k s es ≡ names_since ks k s es)
since_noted (x ∷ ks) k s (e ∷ es) few = let i = since_noted ks k (names_after x s e) es (omega (arith, few)) in (ap (both (resolved_event s e)) i.0, i.1)
since_noted [] k s (e ∷ es) few = (refl, refl)
since_noted _ k s es few = (refl, refl)

-- ---- the same setting all the time

pub since_same : (ks : List Bool) (k : Bool) (s : Names) (es : List Raw) → AreAll k ks → named_since ks k s es ≡ named k s es
since_same (x ∷ ks) k s (e ∷ es) a = ap (λ b. both (resolved_event s e) (named_since ks k (names_after b s e) es)) a.0 ∙ ap (both (resolved_event s e)) (since_same ks k (names_after k s e) es a.1)
since_same _ k s es a = refl

pub names_same : (ks : List Bool) (k : Bool) (s : Names) (es : List Raw) → AreAll k ks → names_since ks k s es ≡ names_after_all k s es
names_same (x ∷ ks) k s (e ∷ es) a = ap (λ b. names_since ks k (names_after b s e) es) a.0 ∙ names_same ks k (names_after k s e) es a.1
names_same _ k s es a = refl

pub all_more : (k : Bool) (ks : List Bool) → AreAll k ks → AreAll k (ks ++ k ∷ [])
all_more k [] a = (refl, tt)
all_more k (x ∷ ks) a = (a.0, all_more k ks a.1)
