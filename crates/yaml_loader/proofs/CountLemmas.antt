-- The steps of a count.
use Rattle.yaml_loader.proofs.LimitedCommon.{[], ap, AreAbove, arith, Counted, Counts, encode_utf8_all, encodes-chars, Excess, Extent, FitsIn, IfErr, IsExcess, IsUtf8-string_bytes, length, List, Made, max, Ok, OnOk, Opened, opened_size, refl, Result, single_node, String, string_bytes, string_chars, subst, sym, with_end, with_kept, with_node, with_part, with_start, ℕ, ◌+◌, ◌<◌, ◌^◌, ◌∙◌, ◌∷◌, ◌≡◌, ◌≤◌}
use Rattle.yaml_loader.specs.declared.count.Count.{Count}

pub content_size : {A : Type 0} (s : String A) → length (encode_utf8_all (string_chars s)) ≡ length (string_bytes s)
unfolding string_chars
content_size s = ap length (encodes-chars (string_bytes s) (IsUtf8-string_bytes s))

-- ---- open collections

pub above_more : (os : List Opened) (k l : ℕ) → k ≤ l → AreAbove k os → AreAbove l os
above_more [] k l h a = tt
above_more (c ∷ outer) k l h a = let here = a.0 in (omega arith, above_more outer k l h a.1)

pub part_above : (x : Extent) (os : List Opened) (l : ℕ) → AreAbove l os → length os + x.levels ≤ l → AreAbove l (with_part x os)
part_above x [] l a h = tt
part_above x (c ∷ outer) l a h = let here = a.0 in (omega arith, a.1)

part_size : (x : Extent) (os : List Opened) → opened_size (with_part x os) ≤ opened_size os + x.size
part_size x [] = omega arith
part_size x (c ∷ outer) = omega arith

fits_in : (x : Extent) (os : List Opened) → opened_size os + x.size < 2 ^ 64 → length os + x.levels < 2 ^ 64 → FitsIn x os
fits_in x [] p q = tt
fits_in x (c ∷ outer) p q = (omega arith, omega arith)

-- ---- the steps

-- A node, or the start of one, is counted.
module _ (old mid new : Count) (size levels : ℕ) (step : List Opened → List Opened) (deep : length old.opened + levels ≤ old.limits.levels) (e : mid ≡ record old { size = old.size + size })
    (large : old.size + size ≤ old.limits.size) (rest : new ≡ record mid { opened = new.opened }) where
  counted : ((m : Made) → Counts old m → mid.opened ≡ m.opened → new.opened ≡ step m.opened) → ((os : List Opened) → opened_size (step os) ≤ opened_size os + size)
      → ((os : List Opened) (l : ℕ) → AreAbove l os → length os + levels ≤ l → AreAbove l (step os))
      → Counted old (λ m. record { size = m.size + size; levels = max m.levels (length m.opened + levels); opened = step m.opened; anchors = m.anchors }) (Ok tt) new
  counted put small above =
      let is : new ≡ record old { size = old.size + size; opened = new.opened } = rest ∙ ap (λ (c : Count). record c { opened = new.opened }) e in
      subst (λ c. Counted old (λ m. record { size = m.size + size; levels = max m.levels (length m.opened + levels); opened = step m.opened; anchors = m.anchors }) (Ok tt) c) (sym is) (record {
        ok = λ m h.
            let many : length m.opened ≡ length old.opened = ap length (sym h.opened) in
            let part = small m.opened in
            let most = max m.levels (length m.opened + levels) in
            record {
              size = ap (λ n. n + size) h.size;
              opened = put m h (ap (λ c. c.opened) e ∙ h.opened);
              anchors = h.anchors;
              within = record { size = omega arith; levels = omega arith };
              fits = omega arith;
              above = above m.opened most (above_more m.opened m.levels most (omega arith) h.above) (omega arith);
              size_fits = h.size_fits;
              levels_fit = h.levels_fit;
            };
        err = λ m h. tt;
        limits = refl;
      })

-- a node where it stands
pub node_counted : (old mid new : Count) (x : Extent) → length old.opened + x.levels ≤ old.limits.levels → length old.opened + x.levels < 2 ^ 64
    → mid ≡ record old { size = old.size + x.size } → old.size + x.size ≤ old.limits.size → old.size + x.size < 2 ^ 64
    → (FitsIn x mid.opened → new.opened ≡ with_part x mid.opened) → new ≡ record mid { opened = new.opened } → Counted old (with_node x) (Ok tt) new
node_counted old mid new x deep deep_fits e large large_fits put rest =
    counted old mid new x.size x.levels (with_part x) deep e large rest
    (λ m h opened.
    let many : length m.opened ≡ length old.opened = ap length (sym h.opened) in
    put (subst (FitsIn x) (sym opened) (fits_in x m.opened (omega arith) (omega arith))) ∙ ap (with_part x) opened)
    (part_size x) (part_above x)

-- a collection begins
pub start_counted : (old mid new : Count) (a : ℕ) → length old.opened + 1 ≤ old.limits.levels
    → mid ≡ record old { size = old.size + 1 } → old.size + 1 ≤ old.limits.size
    → new.opened ≡ record { anchor = a; extent = single_node } ∷ mid.opened → new ≡ record mid { opened = new.opened } → Counted old (with_start a) (Ok tt) new
start_counted old mid new a deep e large pushed rest =
    let start : List Opened → List Opened = λ os. record { anchor = a; extent = single_node } ∷ os in
    counted old mid new 1 1 start deep e large rest (λ m h opened. pushed ∙ ap start opened) (λ os. omega arith) (λ os l above fits. (omega arith, above))

-- a collection ends, and is kept
pub end_counted : (old mid new : Count) (c : Opened) (outer : List Opened) (result : Result (Unit {0}) Excess) → old.opened ≡ c ∷ outer
    → (FitsIn c.extent outer → mid.opened ≡ with_part c.extent outer) → mid ≡ record old { opened = mid.opened }
    → Counted mid (with_kept c.anchor c.extent) result new → Counted old (λ m. with_end m.opened m) result new
end_counted old mid new c outer result was put rest kept = record {
  ok = λ m h. subst (λ os. OnOk result (Counts new (with_end os m))) (sym (is m h)) (kept.ok (ended m) (counted m h));
  err = λ m h. subst (λ os. IfErr result (λ x. IsExcess x old.limits (with_end os m))) (sym (is m h))
      (subst (λ l. IfErr result (λ x. IsExcess x l (with_kept c.anchor c.extent (ended m)))) limits (kept.err (ended m) (counted m h)));
  limits = kept.limits ∙ limits;
}
  where
    limits : mid.limits ≡ old.limits
    limits = ap (λ c. c.limits) rest

    -- before the collection is kept
    ended : Made → Made
    ended m = record { size = m.size; levels = m.levels; opened = with_part c.extent outer; anchors = m.anchors }

    is : (m : Made) → Counts old m → m.opened ≡ c ∷ outer
    is m h = sym h.opened ∙ was

    counted : (m : Made) → Counts old m → Counts mid (ended m)
    counted m h =
        let fits : opened_size (c ∷ outer) ≤ m.size = subst (λ os. opened_size os ≤ m.size) (is m h) h.fits in
        let above : AreAbove m.levels (c ∷ outer) = subst (AreAbove m.levels) (is m h) h.above in
        let deep = above.0 in
        let part = part_size c.extent outer in
        subst (λ d. Counts d (ended m)) (sym rest) (record {
          size = h.size;
          opened = put (fits_in c.extent outer (omega arith) (omega arith));
          anchors = h.anchors;
          within = record { size = h.within.size; levels = h.within.levels };
          fits = omega arith;
          above = part_above c.extent outer m.levels above.1 (omega arith);
          size_fits = h.size_fits;
          levels_fit = h.levels_fit;
        })
