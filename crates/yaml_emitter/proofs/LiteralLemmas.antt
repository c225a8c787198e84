-- The tests of literal blocks.
use Rattle.yaml_emitter.proofs.Common.{[], and_parts, ap, append-nil, append_assoc, arith, begins_as_marker, begins_blank, begins_well, begins_with, begins_with_mark, below, Bool, bytes_eq-Decides, chars, chars-append, codes, drop, drop-append_seam, drop-cons, encode_ascii, encode_utf8, ends_with, false, first_full_line_is_indented, get_or, has_clear_lines, if◌then◌else◌, is_break, is_line_feed, is_literal_character, is_literal_text, is_low, is_root_literal, is_some, is_unprintable, IsCharBoundary, IsCharBoundary-after_ascii, IsCharBoundary-before_ascii, IsCharBoundary-from_take, IsFirstCut, IsUnbroken, IsUtf8, IsUtf8-drop, IsUtf8-from_ascii, IsUtf8-take, last_line, length, length-drop, lines_of, List, list_all, list_all-append, list_all-more, list_any, MatchOption, nat_eq, nat_lt, nat_tests, new_line, NonePass, not, onto_first_line, Option, or-false, prefix_len, prefix_len-le-length, prefix_len_stops, refl, subst, suc, sym, take, take-append-drop, take-append_seam, take-length, true, ℕ, ◌&&◌, ◌++◌, ◌<◌, ◌==◌, ◌||◌, ◌∙◌, ◌∷◌, ◌≡◌, ◌≢◌}
use Rattle.yaml_chars.specs.Class as class
use Rattle.yaml_emitter.proofs.ByteLemmas.{all_pass, all_tested, cut_before, low_at, low_chars}
use Rattle.yaml_emitter.proofs.EndLemmas.{begins_otherwise, low_front}
use Rattle.yaml_emitter.proofs.WordLemmas.{empty_text}
use Rattle.std.specs.Borrow.{Bor}

onto_first : (c : ℕ) (ls : List (List ℕ)) → first_full_line_is_indented (onto_first_line c ls) ≡ (c == 32)
onto_first c a = grind arith

well : (t : List ℕ) → begins_well t ≡ (not (list_all is_line_feed t) && not (first_full_line_is_indented (lines_of t)))
well [] = refl
well (c ∷ cs) = grind (arith, onto_first, well cs)

pub literal : (t : List ℕ) → is_literal_text t ≡ (has_clear_lines t && not (ends_with nat_eq t (codes "\n\n")))
unfolding is_literal_text
literal t = grind (arith, codes, well)

pub root_literal : (t : List ℕ) → is_root_literal t ≡ (is_literal_text t && (not (begins_with (codes "\t") t) && not (list_any begins_as_marker (lines_of t))))
unfolding is_root_literal
root_literal t = grind arith

pub last_line_is : (level : ℕ) (bs : List ℕ) (r : Bool) → IsUtf8 bs → (length bs == 0) ≡ r
    → (if r then [] else new_line level ++ chars bs) ≡ last_line level (chars bs)
last_line_is level bs r u e = rw (sym e ∙ empty_text bs u) (grind arith)

-- ---- marks

pub after_mark : (w line rest : List ℕ) → is_low w ≡ true → length w ≡ 3 → line ≡ w ++ rest
    → begins_blank (chars rest) ≡ begins_with_mark w (chars line)
after_mark w line rest h n e = rw (low_front w line rest h e, ← n, take-append_seam, drop-append_seam, (bytes_eq-Decides w w).1 refl) refl

pub no_mark : (w line : List ℕ) → is_low w ≡ true → length w ≡ 3 → IsUtf8 line → ((rest : List ℕ) → line ≢ w ++ rest) → false ≡ begins_with_mark w (chars line)
no_mark w line h n u lacks = rw (← n, ← begins_otherwise w line h u lacks) refl

pub marks : (line : List ℕ) → begins_as_marker line ≡ (begins_with_mark (codes "---") line || begins_with_mark (codes "...") line)
marks line = grind arith

-- ---- lines

pub line_first : (l r : List ℕ) → IsUnbroken l → lines_of (l ++ 10 ∷ r) ≡ l ∷ lines_of r
line_first [] r n = refl
line_first (c ∷ l) r n = grind (arith, n.0, line_first l r n.1)

pub one_line : (c : ℕ) (l : List ℕ) → IsUnbroken (c ∷ l) → lines_of (c ∷ l) ≡ (c ∷ l) ∷ []
one_line c [] n = rw n.0 refl
one_line c (d ∷ l) n = rw (n.0, one_line d l n.1) refl

pub line_last : (level : ℕ) (l : List ℕ) → IsUnbroken l → below level (lines_of l) ≡ last_line level l
line_last level [] n = refl
line_last level (c ∷ l) n = ap (below level) (one_line c l n) ∙ ap (λ x. new_line level ++ x) (append-nil (c ∷ l))

none_pass : (p : ℕ → Bool) (xs : List ℕ) → list_all (λ b. not (p b)) xs ≡ true → NonePass p xs
none_pass p [] h = tt
none_pass p (x ∷ xs) h = let parts = and_parts (not (p x)) _ h in (grind arith, none_pass p xs parts.1)

abbrev pub runs_on : ℕ → Bool
runs_on b = not (is_break b)

-- the run before the first line feed
unbroken_front : (s : List ℕ) → IsUtf8 (take (prefix_len runs_on s) s) → IsUnbroken (chars (take (prefix_len runs_on s) s))
unbroken_front s u = none_pass is_break _ (all_tested runs_on (λ c h. grind (arith, nat_tests)) _ u (all_pass runs_on s))

pub unbroken : (s : List ℕ) → IsUtf8 s → prefix_len runs_on s ≡ length s → IsUnbroken (chars s)
unbroken s u e =
    let same : take (prefix_len runs_on s) s ≡ s = ap (λ k. take k s) e ∙ take-length s in
    subst (λ x. IsUnbroken (chars x)) same (unbroken_front s (subst IsUtf8 (sym same) u))

module _ (s : List ℕ) (u : IsUtf8 s) (some : prefix_len runs_on s ≢ length s) where
  within : prefix_len runs_on s < length s
  within = omega (arith, some, prefix_len-le-length runs_on s)

  at_break : get_or s (prefix_len runs_on s) 0 ≡ 10
  at_break = let stops = prefix_len_stops runs_on s 0 within in grind (arith, nat_tests, stops)

  pub break_boundary : IsCharBoundary s (prefix_len runs_on s)
  break_boundary = IsCharBoundary-before_ascii s _ within (omega (arith, at_break))

  break_cut : drop (prefix_len runs_on s) s ≡ 10 ∷ drop (suc (prefix_len runs_on s)) s
  break_cut = drop-cons s (prefix_len runs_on s) 0 within ∙ ap (λ x. x ∷ drop (suc (prefix_len runs_on s)) s) at_break

  pub break_passed : IsCharBoundary (drop (prefix_len runs_on s) s) 1
  break_passed =
      let long = length-drop (prefix_len runs_on s) s in
      IsCharBoundary-after_ascii _ 0 (IsUtf8-drop s _ u break_boundary) (omega (arith, long, within))
      (omega (arith, ap (λ x. get_or x 0 0) break_cut))

  pub first_cut : IsFirstCut s (take (prefix_len runs_on s) s) (drop 1 (drop (prefix_len runs_on s) s))
  first_cut =
      let rest = drop (prefix_len runs_on s) s in
      let split : rest ≡ encode_utf8 10 ++ drop 1 rest = rw (encode_ascii 10 (omega arith))
      (break_cut ∙ ap (λ x. 10 ∷ x) (sym (ap (drop 1) break_cut))) in
      let cut = cut_before s (prefix_len runs_on s) 10 (drop 1 rest) u break_boundary split in
      record {
        none_before = unbroken_front s (IsUtf8-take s _ u break_boundary);
        whole = cut.whole;
        shorter = cut.shorter;
        utf8 = cut.utf8;
      }

-- what holds of the lines of a text, the first one apart
pub first_line : (p : List ℕ → Bool) {s front back : List ℕ} → IsFirstCut s front back
    → list_any p (lines_of (chars s)) ≡ (p (chars front) || list_any p (lines_of (chars back)))
first_line p {front = front} {back} m = rw (m.whole, line_first (chars front) (chars back) m.none_before) refl

pub only_line : (s : List ℕ) → IsUnbroken (chars s) → list_any begins_as_marker (lines_of (chars s)) ≡ begins_as_marker (chars s)
only_line s n = by (chars s) n
  where
    by : (t : List ℕ) → IsUnbroken t → list_any begins_as_marker (lines_of t) ≡ begins_as_marker t
    by [] n = refl
    by (c ∷ t) n = ap (list_any begins_as_marker) (one_line c t n) ∙ or-false (begins_as_marker (c ∷ t))

-- the lines below a level, the first one apart
pub first_below : (level : ℕ) {s front back : List ℕ} → IsFirstCut s front back
    → below level (lines_of (chars s)) ≡ (new_line level ++ chars front) ++ below level (lines_of (chars back))
first_below level {front = front} {back} m =
    rw (m.whole, line_first (chars front) (chars back) m.none_before) (sym (append_assoc (new_line level) (chars front) _))

pub literal_character : (c : ℕ) → class.is_literal_character c ≡ is_literal_character c
unfolding class.is_literal_character is_literal_character
literal_character c = refl

-- ---- the printable characters of ASCII that a text begins with

abbrev printable : ℕ → Bool
printable c = not (is_unprintable c)

front_low : (bs : List ℕ) → is_low (take (prefix_len printable bs) bs) ≡ true
front_low bs =
    list_all-more printable (λ c. nat_lt c 128) (λ c h. grind (arith, nat_tests)) (take (prefix_len printable bs) bs)
    (all_pass printable bs)

front_utf8 : (bs : List ℕ) → IsUtf8 (take (prefix_len printable bs) bs)
front_utf8 bs = IsUtf8-from_ascii _ (low_at _ (front_low bs))

pub printable_boundary : (bs : List ℕ) → IsUtf8 bs → IsCharBoundary bs (prefix_len printable bs)
printable_boundary bs u = IsCharBoundary-from_take bs _ u (prefix_len-le-length printable bs) (front_utf8 bs)

-- what stands after them decides
pub rest_printable : (bs : List ℕ) → list_all is_literal_character (chars (drop (prefix_len printable bs) bs)) ≡ list_all is_literal_character (chars bs)
unfolding is_literal_character
rest_printable bs =
    let n = prefix_len printable bs in
    let front = take n bs in
    let split : chars bs ≡ chars front ++ chars (drop n bs) = ap chars (sym (take-append-drop n bs)) ∙ chars-append front (drop n bs) (front_utf8 bs) in
    let passes : list_all is_literal_character (chars front) ≡ true = ap (list_all is_literal_character) (low_chars front (front_low bs))
    ∙ list_all-more printable is_literal_character (λ c h. grind (arith, nat_tests)) front (all_pass printable bs) in
    rw (split, list_all-append is_literal_character (chars front) (chars (drop n bs)), passes) refl

-- ---- a line feed

after_feed : (a b : List ℕ) → list_any is_line_feed (a ++ 10 ∷ b) ≡ true
after_feed [] b = refl
after_feed (c ∷ a) b = grind (arith, after_feed a b)

no_feed : (t : List ℕ) → IsUnbroken t → list_any is_line_feed t ≡ false
no_feed [] n = refl
no_feed (c ∷ t) n = (λ i. n.0 i || no_feed t n.1 i)

pub feed_by : (s : List ℕ) (r : Option (Bor (List ℕ) × Bor (List ℕ))) → MatchOption r (IsUnbroken (chars s)) (λ x. IsFirstCut s x.0.now x.1.now) → is_some r ≡ list_any is_line_feed (chars s)
feed_by s a m = grind (arith, after_feed, chars, no_feed)
