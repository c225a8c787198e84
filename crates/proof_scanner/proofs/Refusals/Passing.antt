-- Faults on the way to the next token, from a state between two fetches.
use Rattle.proof_scanner.proofs.Common.{take, [], and_parts, ap, append-nil, append_assoc, arith, begins_white, Bool, chained, drop_stale, either, eqb-true, false, Fault, fetch, fetch_here, fetch_next, follows_plain, Held, Holds, in_flow, is_empty, is_far, is_indented_by_spaces, is_one_of, is_renewed, is_separation, IsReadOn, Key, List, map, may_not_stand, not, on_held, or_right, outside_key, Position, position_after, position_append, Previous, refl, refused, Result, ScannerState, skip_to_next_token, Some, stale, Stands, still, sym, top_key, tried, true, unroll_indent, went, ℕ, ◌++◌, ◌+◌, ◌<◌, ◌==◌, ◌∙◌, ◌∷◌, ◌≡◌, nat_tests, cases_Bool, inl, inr, TabInBlockIndentation, At, begins_line, begins_separation, between, fills_blank, Gap, has_tab_within, is_before_indent, is_blanks, IsTabRefusal, last_line, least_column, length, not-true, same_blank, same_break, separations_are_passed, skip, suc, ◌&&◌, ◌||◌, ◌≤◌, EndsAs, reads, refuses, tab_left}
use Rattle.proof_scanner.proofs.Refusals.Common.{always, tab_among, Exact, index_after, is_in, last_more, least_is, no_entries, not_before_after, separation_append, skip_stays, is_break, stuck_at, Faults, mapped, Told, fault, goes}
use Rattle.proof_scanner.proofs.Sound.Skips.{line_more, IsLeast, IsAt, IsIn, IsPassed, skip_tells}
use Rattle.proof_scanner.specs.Failing as defs
use Rattle.defs_text.specs.Classes as classes
use Rattle.std.proofs.Math.Seq.{take-append_seam}

-- ---- a TAB within columns

-- among more columns, and in a longer line
within_more : (n m : ℕ) (l r : List ℕ) → n ≤ m → has_tab_within n l ≡ true → has_tab_within m (l ++ r) ≡ true
within_more (suc n) (suc m) (c ∷ l) r less h = grind (arith, within_more n m l r)
within_more a m l r less h = grind arith

-- ---- the way to the next token

module _ (before : Previous) (least : ℕ) where
  -- a line begins in a separation, and a TAB stands in it before the least column
  abbrev IsTabbed : List ℕ → Type 0
  IsTabbed g = (begins_line before g ≡ true) × (has_tab_within least (last_line g) ≡ true)

  -- What was passed before the fault.
  record TabbedAt (g a : List ℕ) (s : Held) (f : Fault) : Type 0 where
    passed : List ℕ
    rest : List ℕ
    place : Position
    cut : a ≡ passed ++ rest
    is_fault : f ≡ At TabInBlockIndentation place
    index_is : place.index ≡ s.position.index + length passed
    tabbed : IsTabbed (g ++ passed)

  one_more : (g a : List ℕ) (c : ℕ) (s u : Held) (r : Result ScannerState Fault) → u.position.index ≡ suc s.position.index → Faults (TabbedAt (g ++ c ∷ []) a u) r → Faults (TabbedAt g (c ∷ a) s) r
  one_more g a c s u r next (fault x) = fault (record {
    passed = c ∷ x.passed;
    rest = x.rest;
    place = x.place;
    cut = ap (λ y. c ∷ y) x.cut;
    is_fault = x.is_fault;
    index_is = let i = x.index_is in omega (arith, i, next);
    tabbed = rw (sym (append_assoc g (c ∷ []) x.passed)) x.tabbed;
  })
  one_more g a c s u r next goes = goes

  -- a TAB left of the innermost level
  tab_here : (g : List ℕ) (c : ℕ) (s : Held) → is_break c ≡ false → ((c == 9) && is_before_indent s) ≡ true → IsLeast before least s → IsAt before least g s → IsTabbed (g ++ c ∷ [])
  unfolding is_before_indent
  tab_here g c s e f l h = grind (arith, nat_tests, line_more, last_more, tab_among, same_break)

  -- a blank more in its line
  blank_after : (g : List ℕ) (c : ℕ) → is_break c ≡ false → IsTabbed g → IsTabbed (g ++ c ∷ [])
  blank_after g c e h = grind (arith, line_more, last_more, within_more, same_break)

  tabs_tell : (a : List ℕ) (m : Gap) (g : List ℕ) (s : Held) → IsLeast before least s → IsPassed before least IsTabbed m g s a → Faults (TabbedAt g a s) (skip m a s)
  tabs_tell = skip_tells before least (λ g a s r. Faults (TabbedAt g a s) r) IsTabbed (record {
    ended = λ g s. goes;
    further = one_more;
    arrives = λ g a c s at. goes;
    tab = tab_here;
    blank = blank_after;
    fails = λ g a c s h. fault (record { passed = []; rest = c ∷ a; place = s.position; cut = refl; is_fault = refl; index_is = omega arith; tabbed = rw (append-nil g) h });
  })

-- ---- what is said of it

-- After a separation that was read from a position, the way to the next token is refused: what was passed on it, and a TAB that indents the line.
pub record TabStands (bs : List ℕ) (awaits : Bool) (before : Previous) (begin : Position) (separation text : List ℕ) (p : Position) (f : Fault) : Type 0 where
  pub passed : List ℕ
  pub rest : List ℕ
  pub is_some : is_empty text ≡ false
  pub cut : text ≡ passed ++ rest
  pub whole : separation ++ text ≡ (separation ++ passed) ++ rest
  pub is_passed : is_separation false passed rest ≡ true
  pub is_filled : is_separation false (separation ++ passed) rest ≡ true
  pub goes_on : is_empty rest ≡ false
  pub is_solid : begins_separation rest ≡ false
  pub is_fault : f ≡ At TabInBlockIndentation (position_after begin (separation ++ passed) rest)
  pub is_later : p.line ≤ (position_after begin (separation ++ passed) rest).line
  pub is_indented_by_tab : is_indented_by_spaces before bs awaits (separation ++ passed) ≡ false

blanks_fill : (bs rest : List ℕ) → is_blanks bs ≡ true → is_separation false bs rest ≡ true
blanks_fill [] rest h = refl
blanks_fill (c ∷ bs) rest h = grind (arith, fills_blank, same_blank, blanks_fill bs rest)

tabbed_is : (before : Previous) (bs : List ℕ) (awaits : Bool) (g : List ℕ) → begins_line before g ≡ true → has_tab_within (least_column bs awaits) (last_line g) ≡ true → is_indented_by_spaces before bs awaits g ≡ false
tabbed_is before bs awaits g b h =
    let more : has_tab_within (least_column bs (awaits || follows_plain before g)) (last_line g ++ []) ≡ true = within_more (least_column bs awaits) (least_column bs (awaits || follows_plain before g)) (last_line g) [] (grind arith) h in
    rw (b, rw append-nil at more) refl

-- Where the way to the next token is refused, after a separation that was read so.
pub skip_refused : (before : Previous) (bs : List ℕ) (awaits : Bool) (begin : Position) (separation : List ℕ) (t : ScannerState) → is_separation false separation t.rest ≡ true → t.held.position ≡ position_after begin separation t.rest → IsLeast before (least_column bs awaits) t.held →
    (begins_separation t.rest ≡ true → IsIn before (least_column bs awaits) between separation t.held t.rest) → Faults (TabStands bs awaits before begin separation t.rest t.held.position) (skip_to_next_token t)
unfolding skip_to_next_token classes.is_blank
skip_refused before bs awaits begin separation t filled here l known = elim (cases_Bool (begins_separation t.rest)) [
  | inl h ↦ told h (skip between t.rest t.held) (separations_are_passed t.held t.rest) (tabs_tell before least t.rest between separation t.held l (known h))
  | inr h ↦ rw (skip_stays t.rest t.held h) goes
]
  where
    least : ℕ
    least = least_column bs awaits

    Own : Fault → Type 0
    Own f = TabStands bs awaits before begin separation t.rest t.held.position f

    told : begins_separation t.rest ≡ true → (x : Result ScannerState Fault) → EndsAs (Exact t) (IsTabRefusal t.held t.rest) x → Faults (TabbedAt before least separation t.rest t.held) x → Faults Own x
    told begins x p goes = goes
    told begins x (reads u passed e) (fault d) = absurd (cc e)
    told begins x (refuses g (tab_left first blanks rest cut fills left are token) e) (fault {f = f} d) =
        -- two beginnings of a text that are equally long are the same
        let same_length : (a b r s : List ℕ) → a ++ r ≡ b ++ s → length a ≡ length b → a ≡ b = λ a b r s e n. sym (take-append_seam a r) ∙ (ap (λ k. take k (a ++ r)) n ∙ (ap (λ x. take (length b) x) e ∙ take-append_seam b s)) in
        let q : Position = position_after t.held.position (first ++ 9 ∷ blanks) rest in
        let same_fault : f ≡ At TabInBlockIndentation q = cc e in
        let place : d.place ≡ q = cc (d.is_fault, same_fault) in
        let index : d.place.index ≡ q.index = ap (λ y. y.index) place in
        let whole : t.rest ≡ (first ++ 9 ∷ blanks) ++ rest = cut ∙ sym (append_assoc first (9 ∷ blanks) rest) in
        let passed_is : d.passed ≡ first ++ 9 ∷ blanks = same_length d.passed (first ++ 9 ∷ blanks) d.rest rest (sym d.cut ∙ whole) (omega (arith, index, d.index_is, index_after t.held.position (first ++ 9 ∷ blanks) rest)) in
        let fill : is_separation false (first ++ 9 ∷ blanks) rest ≡ true = separation_append false first (9 ∷ blanks) rest fills (blanks_fill (9 ∷ blanks) rest are) in
        let there : q ≡ position_after begin (separation ++ (first ++ 9 ∷ blanks)) rest = ap (λ p. position_after p (first ++ 9 ∷ blanks) rest) (here ∙ ap (position_after begin separation) whole) ∙ sym (position_append begin separation (first ++ 9 ∷ blanks) rest) in
        fault (record {
          passed = first ++ 9 ∷ blanks;
          rest = rest;
          is_some = grind arith;
          cut = whole;
          whole = ap (λ r. separation ++ r) whole ∙ sym (append_assoc separation (first ++ 9 ∷ blanks) rest);
          is_passed = fill;
          is_filled = separation_append false separation (first ++ 9 ∷ blanks) rest (rw (← whole) filled) fill;
          goes_on = grind arith;
          is_solid = grind (arith, not-true);
          is_fault = same_fault ∙ ap (λ p. At TabInBlockIndentation p) there;
          is_later = rw (← there) ((not_before_after t.held.position (first ++ 9 ∷ blanks) rest).0);
          is_indented_by_tab = tabbed_is before bs awaits (separation ++ (first ++ 9 ∷ blanks))
              (rw (sym passed_is) d.tabbed.0) (rw (sym passed_is) d.tabbed.1);
        })

-- ---- keys that are near

-- outside flow the open key is near
abbrev pub HasNear : Held → Type 0
HasNear s = is_empty s.flow ≡ true → (k : Key) → top_key s.keys ≡ Some k → is_far k.position s.position ≡ false

next_near : (t : ScannerState) → Holds (λ u. HasNear u.held) (fetch_next t)
unfolding fetch_next stale drop_stale
next_near t =
    let anything : (A : Type 0) (r : Result A Fault) → Holds (λ x. Unit {0}) r = λ A r. always r (λ x. tt) in
    chained (anything _ (skip_to_next_token t)) (λ u a. chained (anything _ _) (λ v b. chained (anything _ (fetch_here (on_held (λ s. unroll_indent (s.position.col + 1) s) v))) (λ w c. tried w (stale w.held) (grind (arith, nat_tests, eqb-true, either, in_flow, went, not, refused, top_key, map, still, is_far)) (λ h n. n))))

-- after a fetch
pub fetch_near : (t : ScannerState) → t.held.started ≡ true → Holds (λ u. HasNear u.held) (fetch t)
unfolding fetch
fetch_near t started = either t.held.started (λ _. next_near t) (λ n. absurd (cc (n, started)))

-- ---- TABs

module _ (text : List ℕ) (t : ScannerState) (s : Stands text t) (near : HasNear t.held) where
  -- a TAB indents the line of what comes next
  tab_stuck : {f : Fault} → TabStands s.base.site.blocks s.base.site.awaits s.base.site.before s.base.site.position s.separation t.rest t.held.position f → Told text f
  unfolding is_far
  tab_stuck d = rw d.is_fault (λ _. record {
    is_stuck = (stuck_at text _ t s.base [] (s.separation ++ d.passed) d.rest TabInBlockIndentation here here refl (λ c may. rw (← d.whole) (s.completes true c [] may).0) (rw (← d.whole) s.carries) s.are_entries is_near d.is_some d.is_filled d.goes_on d.is_solid d.is_later
        (λ c may. record { fails = may_not_stand (defs.tab_indents d.is_indented_by_tab); is_first = no_plain })).2;
    stands = λ k. absurd (cc k);
  })
    where
      here : Position
      here = position_after s.base.site.position (s.separation ++ d.passed) d.rest

      is_near : is_empty t.held.flow ≡ true → (x : Key) → outside_key s.base.entries t.held.keys ≡ Some x → x.position.line < t.held.position.line → ⊥
      is_near out x e late =
          let none : s.base.entries ≡ [] = no_entries t.held.key_allowed (is_renewed s.base.site.before s.separation) t.held.flow t.held.keys s.base.entries out s.are_entries in
          absurd (grind (arith, (near out x (ap (λ es. outside_key es t.held.keys) (sym none) ∙ e)), late))

      -- after a plain scalar all blanks and breaks were passed, so a comment stands here
      no_plain : follows_plain s.base.site.before (s.separation ++ d.passed) ≡ false
      no_plain =
          let by : (b : Previous) → s.base.site.before ≡ b → IsReadOn b s.base.site.position s.separation t.rest → follows_plain b (s.separation ++ d.passed) ≡ false = λ b i white. grind (arith, nat_tests, comment, eqb-true) in
          by s.base.site.before refl s.read_on
        where
          hash : (f p : List ℕ) → is_one_of (f ++ 35 ∷ p) 35 ≡ true
          hash [] p = refl
          hash (c ∷ f) p = or_right (35 == c) _ (hash f p)

          comment : (passed : List ℕ) → t.rest ≡ passed ++ d.rest → is_separation false passed d.rest ≡ true → begins_white t.rest ≡ false → is_indented_by_spaces s.base.site.before s.base.site.blocks s.base.site.awaits (s.separation ++ passed) ≡ false → is_one_of (s.separation ++ passed) 35 ≡ true
          comment passed h e f g = grind (arith, nat_tests, eqb-true, append-nil, and_parts, hash)

  pub passing_told : Faults (Told text) (skip_to_next_token t)
  passing_told =
      mapped (λ f d. tab_stuck d) (skip_refused s.base.site.before s.base.site.blocks s.base.site.awaits s.base.site.position s.separation t s.is_filled s.position_is (least_is s.base.site.blocks s.base.site.awaits t.held s.blocks_are s.awaits_is s.are_levels) (λ h. is_in text t s h))
