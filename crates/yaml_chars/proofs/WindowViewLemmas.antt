-- Lemmas about a window.
use Rattle.std.proofs.lemmas.List.{drop-drop, drop_at, ext_get_or, nil_from_length, take-take, take_at}
use Rattle.yaml_chars.proofs.Common.{[], ap, append-nil, append_assoc, arith, bare, cases_lt, common_steps, drop, drop-append-le, drop_all, elements, Err, Fills, get_or-append-add, get_or-append_right, get_or-drop, get_or_append_left, HasNoNul, inl, inr, length, length-append, length-drop, List, Ok, OnOk, Possible, Pulled, Pulls, Reads, refl, Result, Sees, slice_index, subst, sym, take, take-append-drop, take-length, WindowView, ℕ, ◌++◌, ◌+◌, ◌-◌, ◌∙◌, ◌∷◌, ◌≡◌, ◌≢◌, ◌≤◌}
use Rattle.yaml_chars.specs.Words.{Gives}

-- a text that begins with two lists begins with the first
begins-back : (xs ys w : List ℕ) → take (length (xs ++ ys)) w ≡ xs ++ ys → take (length xs) w ≡ xs
begins-back xs ys w h =
    sym (take-take (length xs) (length (xs ++ ys)) w (omega (arith, length-append xs ys))) ∙ ap (take (length xs)) h ∙ take_at xs ys _ refl

no_nul_append : (xs ys : List ℕ) → HasNoNul xs → HasNoNul ys → HasNoNul (xs ++ ys)
no_nul_append xs ys f g k l =
    let right = get_or-append_right xs ys (length xs) k 0 refl in
    grind (arith, length-append xs ys, get_or_append_left xs ys 0 k, right, f k, g (k - length xs))

-- the window reaches the end of what was taken
pub reaches : {T : Type 0} {s : Pulled T} {ring : List ℕ} {at line col : ℕ} → Fills s ring at line col → length s.taken ≤ at + length ring
reaches fills = grind (arith, fills.ended, fills.going)

pub Reads-map : {T : Type 0} {P Q : List ℕ → List ℕ → Type 0} (old new : WindowView T) → Reads old new P
    → ((a b : List ℕ) → P a b → Q a b) → Reads old new Q
Reads-map old new run gives = grind arith

pub OnOk-map : {A E P Q : Type 0} (r : Result A E) → OnOk r P → (P → Q) → OnOk r Q
OnOk-map (Ok v) h gives = gives h
OnOk-map (Err e) h gives = tt

-- how much is in the window says nothing of the text
pub Reads-ahead : {T : Type 0} {P : List ℕ → List ℕ → Type 0} (old new : WindowView T) (h : ℕ) → Reads old new P
    → Reads (record old { ahead = h }) new P
Reads-ahead old new h r = record {
  start = r.start;
  at = r.at;
  left = r.left;
  back = λ w p. let q = r.back w p in record { begins = q.begins; ends = q.ends };
  reads = r.reads;
}

-- ---- characters come

-- a source as a window sees it, at a position, with so much in the window
abbrev pub view : {T : Type 0} → Pulled T → (at line col ahead : ℕ) → WindowView T
view s at line col ahead = record (bare s at line col) { ahead = ahead }

-- characters came from a source, and of these and what the window held a part was read
module _ {T : Type 0} {s new : Pulled T} {held part : List ℕ} {at line col : ℕ} (fills : Fills s held at line col)
    (gives : Gives s new part) (reach : at + length held ≡ length s.taken) (gone ring : List ℕ) (split : held ++ part ≡ gone ++ ring) where
  len : length new.taken ≡ length s.taken + length part
  len = ap length gives.taken ∙ length-append s.taken part

  sizes : length held + length part ≡ length gone + length ring
  sizes = sym (length-append held part) ∙ ap length split ∙ length-append gone ring

  rest : drop at new.taken ≡ gone ++ ring
  rest =
      let here : held ≡ drop at s.taken =
      ext_get_or 0 held (drop at s.taken) (omega (arith, length-drop at s.taken))
      (λ k h. fills.window k h ∙ sym (get_or-drop at s.taken k 0)) in
      ap (drop at) gives.taken ∙ drop-append-le at s.taken part (omega arith) ∙ ap (λ x. x ++ part) (sym here) ∙ split

  pub Fills-given : (to row place : ℕ) → to ≡ at + length gone → HasNoNul part → row + place ≤ to + 1 → place ≤ to
      → Fills new ring to row place
  Fills-given to row place end some lines cols = record {
    window = λ k l.
        let there : at + (length gone + k) ≡ to + k = omega arith in
        sym (get_or-append-add gone ring k 0) ∙ ap (λ x. slice_index x (length gone + k)) (sym rest)
        ∙ get_or-drop at new.taken (length gone + k) 0 ∙ ap (slice_index new.taken) there;
    going = λ d. omega (arith, len, sizes);
    ended = λ d. omega (arith, len, sizes);
    within = omega (arith, len, sizes);
    no_nul = rw gives.taken (no_nul_append s.taken part fills.no_nul some);
    room = omega (arith, len, fills.room, gives.left);
    lines = lines;
    cols = cols;
  }

  -- what was left is what was read and what is left, which begins with what the window holds
  pub Reads-given : (to row place h k : ℕ) → to ≡ at + length gone
      → Reads (view s at line col h) (view new to row place k) (λ a b. (a ≡ gone ++ b) × (z : List ℕ) × (b ≡ ring ++ z))
  Reads-given to row place h k end = record {
    start = gives.start;
    at = omega arith;
    left = omega (arith, len, sizes, gives.left);
    back = λ w p. record {
      begins = begins-back s.taken part w (rw gives.taken at p.begins);
      ends = λ d. p.ends (gives.done ∙ d) ∙ gives.taken ∙ ap (λ x. s.taken ++ x) (gives.none d) ∙ append-nil s.taken;
    };
    reads = λ w p.
        let z = drop (length new.taken) w in
        let whole : w ≡ new.taken ++ z = sym (take-append-drop (length new.taken) w) ∙ ap (λ x. x ++ z) p.begins in
        let a : drop at w ≡ gone ++ (ring ++ z) =
        ap (drop at) whole ∙ drop-append-le at new.taken z (omega (arith, len)) ∙ ap (λ x. x ++ z) rest ∙ append_assoc gone ring z in
        let b : drop to w ≡ ring ++ z =
        ap (λ k. drop k w) end ∙ sym (drop-drop (length gone) at w) ∙ ap (drop (length gone)) a ∙ drop_at gone (ring ++ z) _ refl in
        (a ∙ ap (λ x. gone ++ x) (sym b), z, b);
  }

module _ {T : Type 0} {s next : Pulled T} {ring : List ℕ} {at line col c : ℕ} (fills : Fills s ring at line col)
    (pulls : Pulls s c next) where
  char_gives : c ≢ 0 → Gives s next (c ∷ [])
  char_gives some =
      let more = pulls.char some in
      record { start = pulls.start; taken = more.1; done = more.2 ∙ sym more.0; none = λ d. cc; left = omega (arith, more.3) }

  char_some : c ≢ 0 → HasNoNul (c ∷ [])
  char_some some k l = let first : 0 ≡ k = omega arith in subst (λ j. slice_index (c ∷ []) j ≢ 0) first some

  char_reach : c ≢ 0 → at + length ring ≡ length s.taken
  char_reach some = let more = pulls.char some in fills.going more.0

  -- one more position of the window
  pub Fills-more : Fills next (ring ++ c ∷ []) at line col
  Fills-more = elim (cases_lt 0 c) [
    | inl some ↦
        let c_some : c ≢ 0 = λ e. absurd (omega arith) in
        Fills-given fills (char_gives c_some) (char_reach c_some) [] _ refl at line col (omega arith)
        (char_some c_some) fills.lines fills.cols
    | inr none ↦
        let lens : length (ring ++ c ∷ []) ≡ length ring + 1 = simp length-append in
        let same = pulls.ends (omega arith) in
        let past = reaches fills in
        record {
          window = λ k in_range. rw same.0 (grind (arith, elements, common_steps, fills.window k));
          going = λ h. cc;
          ended = λ h. rw same.0 (omega arith);
          within = rw same.0 fills.within;
          no_nul = rw same.0 fills.no_nul;
          room = rw same.0 (omega (arith, fills.room, same.2));
          lines = fills.lines;
          cols = fills.cols;
        }
  ]

  -- the text that is left stays, and begins with what came, where nothing was in the window
  pub Reads-more : (h k : ℕ) → Reads (view s at line col h) (view next at line col k)
      (λ a b. (b ≡ a) × (length ring ≡ 0 → slice_index b 0 ≡ c))
  Reads-more h k = elim (cases_lt 0 c) [
    | inl some ↦
        let c_some : c ≢ 0 = λ e. absurd (omega arith) in
        Reads-map _ _ (Reads-given fills (char_gives c_some) (char_reach c_some) [] _ refl at line col h k (omega arith)) (λ a b e.
        (sym e.0, λ none. ap (λ x. slice_index x 0) (e.2 ∙ ap (λ x. (x ++ c ∷ []) ++ e.1) (nil_from_length ring none))))
    | inr none ↦
        let same = pulls.ends (omega arith) in
        record {
          start = pulls.start;
          at = omega arith;
          left = rw same.0 (omega (arith, same.2));
          back = λ w p. record { begins = rw same.0 at p.begins; ends = λ d. p.ends same.1 ∙ same.0 };
          reads = λ w p. (
            refl,
            λ empty.
                let gone : drop at s.taken ≡ [] = drop_all at s.taken (omega (arith, reaches fills)) in
                let zero_is : 0 ≡ c = omega arith in
                ap (λ x. slice_index (drop at x) 0) (p.ends same.1 ∙ same.0) ∙ ap (λ x. slice_index x 0) gone ∙ zero_is,
          );
        }
  ]

  -- a character that came where nothing was in the window was taken at once
  module _ (some : c ≢ 0) (none : length ring ≡ 0) where
    taken_split : ring ++ c ∷ [] ≡ (c ∷ []) ++ []
    taken_split = ap (λ r. r ++ c ∷ []) (nil_from_length ring none)

    pub Fills-taken : Fills next [] (at + 1) line (col + 1)
    Fills-taken =
        Fills-given fills (char_gives some) (char_reach some) (c ∷ []) [] taken_split (at + 1) line (col + 1) (omega arith)
        (char_some some) (omega (arith, fills.lines)) (omega (arith, fills.cols))

    pub Reads-taken : (h k : ℕ) → Reads (view s at line col h) (view next (at + 1) line (col + 1) k) (λ a b. a ≡ c ∷ b)
    Reads-taken h k = Reads-map _ _ (Reads-given fills (char_gives some) (char_reach some) (c ∷ []) [] taken_split (at + 1) line
        (col + 1) h k (omega arith)) (λ a b e. e.0)

-- ---- windows one after the other

-- what was taken may be the whole text
pub Possible-taken : {T : Type 0} (s : WindowView T) → Possible s s.taken
Possible-taken s = record { begins = take-length s.taken; ends = λ h. refl }

-- one after the other
pub Reads-then : {T : Type 0} {P Q R : List ℕ → List ℕ → Type 0} (old mid new : WindowView T)
    → Reads old mid P → Reads mid new Q → ((a b c : List ℕ) → P a b → Q b c → R a c) → Reads old new R
Reads-then old mid new first second both = grind arith

-- with what is seen after it
pub Reads-see : {T : Type 0} {P R : List ℕ → List ℕ → Type 0} {Q : List ℕ → Type 0} (old new : WindowView T)
    → Reads old new P → Sees new Q → ((a b : List ℕ) → P a b → Q b → R a b) → Reads old new R
Reads-see old new run sight both = grind arith

pub Sees-both : {T : Type 0} {P Q : List ℕ → Type 0} (s : WindowView T) → Sees s P → Sees s Q → Sees s (λ a. P a × Q a)
Sees-both s p q = record { sees = λ w h. (p.sees w h, q.sees w h) }

-- with what was seen before it
pub Reads-saw : {T : Type 0} {P R : List ℕ → List ℕ → Type 0} {Q : List ℕ → Type 0} (old new : WindowView T)
    → Sees old Q → Reads old new P → ((a b : List ℕ) → Q a → P a b → R a b) → Reads old new R
Reads-saw old new sight run both = grind arith
