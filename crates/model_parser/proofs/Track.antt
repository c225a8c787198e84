-- The steps of a parser by a table: whatever the table, it stays on track.
use Rattle.model_parser.proofs.Common.{[], ap, append_assoc, arith, before, Begins, Bool, by_leaving, by_taking, Derives, false, goes, GoesOn, inl, inr, IsOnTrack, leaves, List, MayBegin, NeverGoesOn, None, Option, Part, reading, refl, refused, Row, row_of, saying, says, Some, step, subst, suc, sym, Table, takes, true, Turned, Work, work_weight, ℕ, ◌++◌, ◌∙◌, ◌∷◌, ◌≡◌, ◌⊎◌}
use Rattle.model_parser.specs.Track.{IsNext}
use Rattle.model_parser.proofs.Steps.{Sound, step_sound}
use Rattle.model_parser.proofs.Completions.{rest_by, said_by, Completes, all_complete}

-- ---- what is asked of a table

-- The row is that of each token which ends a goal, and comes to the same work.
abbrev pub HaveIt : {G T E H : Type 0} → Table G T E H → (T → Bool) → G → T → List (Part G E) → Type 0
HaveIt {G = G} {T = T} {E = E} {H = H} a ends g t ps =
    (u : T) → ends u ≡ true → (row_of (a.cases g) u ≡ Some (leaves ps)) × ((h : H) (w : List (Work G E H)) → before a h u ps w ≡ before a h t ps w)

-- A row that leaves its token: each token that ends a goal has it too, or it comes to a row that takes the token.
abbrev pub LeavingRow : {G T E H : Type 0} → Table G T E H → (G → ℕ) → (ends : T → Bool) → G → T → Row G E → Type 0
LeavingRow a m ends g t (takes ps) = Unit {0}
LeavingRow {G = G} {T = T} {E = E} {H = H} a m ends g t (leaves ps) =
    HaveIt a ends g t ps
    ⊎ ((h : H) (w : List (Work G E H)) (es : List E) → step a (suc (work_weight m (before a h t ps w))) (before a h t ps w) t ≡ refused es → ⊥)

-- The first of these tokens passes a test.
abbrev pub begins_so : {T : Type 0} → (T → Bool) → List T → Bool
begins_so f [] = false
begins_so f (t ∷ ts) = f t

-- A goal that refuses tokens is read to its end by tokens that begin with one that ends a goal.
abbrev pub EndsGoal : {G T E H : Type 0} {a : Table G T E H} → Completes a → (ends : T → Bool) → G → H → Type 0
EndsGoal c ends g h = begins_so ends (c g h).0 ≡ true

-- ---- steps

may_end : {T : Type 0} (ends : T → Bool) (t : T) (ts us : List T) (too : Bool) → too ≡ true → begins_so ends ts ≡ true → MayBegin ends too (Some t) (ts ++ us)
may_end ends t ts us too p e = grind arith

pub starts : {G T E H : Type 0} (a : Table G T E H) (ends : T → Bool) (w : List (Work G E H)) → IsOnTrack a ends w w [] None []
starts a ends w = record { too = true; sound = λ ts es b d. d; exact = λ ts es n d. (es, refl, d); safe = λ f. absurd (cc f) }

module _ {G T E H : Type 0} {a : Table G T E H} {ends : T → Bool} {start : List (Work G E H)} where
  -- The next token is looked at.
  pub look : {w : List (Work G E H)} {taken : List T} {given : List E} → IsOnTrack a ends start w taken None given → (t : T) → IsOnTrack a ends start w taken (Some t) given
  look x t = record { too = true; sound = λ ts es b d. x.sound ts es tt d; exact = λ ts es n d. x.exact ts es tt d; safe = λ f. absurd (cc f) }

  -- An event is given.
  pub give : {w : List (Work G E H)} {e : E} {taken : List T} {next : Option T} {given : List E}
      → IsOnTrack a ends start (saying e ∷ w) taken next given → IsOnTrack a ends start w taken next (given ++ e ∷ [])
  give {w} {e} {taken} {next} {given} x = record {
    too = x.too;
    sound = λ ts es b d. subst (λ l. Derives a start (taken ++ ts) l) (sym (append_assoc given (e ∷ []) es)) (x.sound ts (e ∷ es) b (says d));
    exact = λ ts es n d. let y = x.exact ts es n d in let z = said_by y.2 in (z.0, y.1 ∙ ap (λ l. given ++ l) z.1 ∙ sym (append_assoc given (e ∷ []) z.0), z.2);
    safe = λ f. let y = x.safe f in grind arith;
  }

  module _ {g : G} {h : H} {w : List (Work G E H)} {taken : List T} {t : T} {given : List E} (x : IsOnTrack a ends start (reading g h ∷ w) taken (Some t) given) where
    -- A row takes the next token.
    pub take : (ps : List (Part G E)) → row_of (a.cases g) t ≡ Some (takes ps) → IsOnTrack a ends start (before a h t ps w) (taken ++ t ∷ []) None given
    take ps r = record {
      too = true;
      sound = λ ts es b d.
          subst (λ l. Derives a start l (given ++ es)) (sym (append_assoc taken (t ∷ []) ts)) (x.sound (t ∷ ts) es (grind arith) (by_taking ps r d));
      exact = λ ts es n d. let y = x.exact (t ∷ ts) es refl (subst (λ l. Derives a start l es) (append_assoc taken (t ∷ []) ts) d) in (y.0, y.1, rest_by y.2 (Some (takes ps)) r);
      safe = λ f. absurd (cc f);
    }

    -- A row leaves it.
    as_first : {u : T} {ts : List T} {es : List E} (ps : List (Part G E)) → row_of (a.cases g) t ≡ Some (leaves ps) → u ≡ t
        → Derives a (before a h t ps w) (u ∷ ts) es → Derives a (reading g h ∷ w) (u ∷ ts) es
    as_first {u} {ts} {es} ps r e d = by_leaving ps (ap (λ v. row_of (a.cases g) v) e ∙ r) (subst (λ v. Derives a (before a h v ps w) (u ∷ ts) es) (sym e) d)

    left_sound : (ps : List (Part G E)) (ts : List T) {es : List E} (too : Bool) → row_of (a.cases g) t ≡ Some (leaves ps) → (too ≡ true → HaveIt a ends g t ps)
        → MayBegin ends too (Some t) ts → Derives a (before a h t ps w) ts es → Derives a (reading g h ∷ w) ts es
    left_sound ps [] too r l b d = absurd b
    left_sound ps (u ∷ ts) true r l (inl e) d = as_first ps r e d
    left_sound ps (u ∷ ts) {es} true r l (inr e) d = let k = l refl u e in by_leaving ps k.0 (subst (λ v. Derives a v (u ∷ ts) es) (sym (k.1 h w)) d)
    left_sound ps (u ∷ ts) false r l e d = as_first ps r e d

    left_exact : (ps : List (Part G E)) → row_of (a.cases g) t ≡ Some (leaves ps) → (ts : List T) (es : List E) → IsNext (Some t) ts
        → Derives a start (taken ++ ts) es → (fs : List E) × (es ≡ given ++ fs) × Derives a (before a h t ps w) ts fs
    left_exact ps r [] es n d = absurd n
    left_exact ps r (u ∷ ts) es n d =
        let y = x.exact (u ∷ ts) es n d in
        let z : Derives a (reading g h ∷ w) (t ∷ ts) y.0 = subst (λ v. Derives a (reading g h ∷ w) (v ∷ ts) y.0) n y.2 in
        (y.0, y.1, subst (λ v. Derives a (before a h t ps w) (v ∷ ts) y.0) (sym n) (rest_by z (Some (leaves ps)) r))

    -- work whose turn does not refuse the token goes on with it
    not_refused : (v : List (Work G E H)) (o : Turned G E H) → Completes a → Sound a v t o → ((es : List E) → o ≡ refused es → ⊥) → GoesOn a v (Some t)
    not_refused v (goes es u) c s n = let k = all_complete a c u in (k.0, es ++ k.1, s k.0 k.1 k.2)
    not_refused v (refused es) c s n = absurd (n es refl)

    pub leave : (m : G → ℕ) → Completes a → (ps : List (Part G E)) → row_of (a.cases g) t ≡ Some (leaves ps) → LeavingRow a m ends g t (leaves ps)
        → IsOnTrack a ends start (before a h t ps w) taken (Some t) given
    leave m c ps r (inl l) = record {
      too = x.too;
      sound = λ ts es b d. x.sound ts es b (left_sound ps ts x.too r (λ e. l) b d);
      exact = λ ts es n d. left_exact ps r ts es n d;
      safe = λ f. let y = x.safe f in (y.0, y.1, rest_by y.2 (Some (leaves ps)) r);
    }
    leave m c ps r (inr l) =
        let v = before a h t ps w in
        let n = suc (work_weight m v) in
        record {
          too = false;
          sound = λ ts es b d. x.sound ts es (grind arith) (left_sound ps ts false r (λ e. cc e) b d);
          exact = λ ts es k d. left_exact ps r ts es k d;
          safe = λ f. not_refused v (step a n v t) c (step_sound a n v t) (λ es p. l h w es p);
        }

    -- No row is for the next token: no stream begins so, but one begins with the tokens before and with the events that were given.
    pub refuse : (c : Completes a) → EndsGoal c ends g h → row_of (a.cases g) t ≡ None → Begins a start taken given × NeverGoesOn a start taken t
    refuse c e r = (begun x.too refl, λ ts es d. let y = x.exact (t ∷ ts) es refl d in rest_by y.2 None r)
      where
        begun : (b : Bool) → x.too ≡ b → Begins a start taken given
        begun true p =
            let k = all_complete a c (reading g h ∷ w) in
            let b : MayBegin ends x.too (Some t) k.0 = may_end ends t (c g h).0 (all_complete a c w).0 x.too p e in
            (k.0, k.1, x.sound k.0 k.1 b k.2)
        begun false p = let y = x.safe p in absurd (rest_by y.2 None r)
