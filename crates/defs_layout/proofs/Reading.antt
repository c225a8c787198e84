-- A JSON number read from left to right: a minus, the whole part, a fraction, an exponent. For code that reads so.
use Rattle.defs_layout.proofs.Common.{[], after_all, after_one, any-after, any_number, ap, are_digits, arith, at_least-after, at_least_one, begins_in, Bool, empty-followed_by, exponent_read, false, followed_by, followed_by-and, followed_by-or, if◌then◌else◌, in_order, is_ascii_digit, is_empty, is_exponent, is_exponent_mark, is_frac, is_json_number, is_minus, is_whole, List, nat_tests, not, optional, optional-then, optional_one-after, reads_exponent, refl, Rejects, true, ℕ, ◌&&◌, ◌==◌, ◌||◌, ◌∙◌, ◌∷◌, ◌≡◌}

-- what follows the whole part
abbrev pub reads_end : List ℕ → Bool
reads_end [] = true
reads_end (c ∷ cs) = if c == 46 then begins_in is_ascii_digit cs && reads_exponent (after_all is_ascii_digit cs) else reads_exponent (c ∷ cs)

-- what follows the minus
abbrev pub reads_unsigned : List ℕ → Bool
reads_unsigned [] = false
reads_unsigned (c ∷ cs) = if c == 48 then reads_end cs else is_ascii_digit c && reads_end (after_all is_ascii_digit cs)

-- the whole number
abbrev pub reads_number : List ℕ → Bool
reads_number t = reads_unsigned (after_one is_minus t)

-- ---- classes

point_no_mark : (c : ℕ) → (c == 46) ≡ true → is_exponent_mark c ≡ false
point_no_mark c h = grind (arith, nat_tests)

exponent_rejects_digit : Rejects is_ascii_digit reads_exponent
exponent_rejects_digit c cs h = grind (arith, nat_tests)

end_rejects_digit : Rejects is_ascii_digit reads_end
end_rejects_digit c cs h = grind (arith, nat_tests)

-- ---- a fraction and an exponent

digits_are : (t : List ℕ) → are_digits t ≡ at_least_one is_ascii_digit t
digits_are a = grind arith

digits_read : (t : List ℕ) → followed_by are_digits reads_exponent t ≡ (begins_in is_ascii_digit t && reads_exponent (after_all is_ascii_digit t))
digits_read [] = refl
digits_read (c ∷ cs) =
    (λ i. followed_by (λ b. digits_are b i) reads_exponent (c ∷ cs))
    ∙ grind (arith, at_least-after is_ascii_digit reads_exponent exponent_rejects_digit c cs)

frac_read : (c : ℕ) (cs : List ℕ) → followed_by is_frac reads_exponent (c ∷ cs) ≡ ((c == 46) && (begins_in is_ascii_digit cs && reads_exponent (after_all is_ascii_digit cs)))
frac_read c cs = followed_by-and (c == 46) are_digits reads_exponent cs ∙ ap (λ b. (c == 46) && b) (digits_read cs)

abbrev end_part : List ℕ → Bool
end_part t = in_order (optional is_frac ∷ optional is_exponent ∷ []) t

end_read : (t : List ℕ) → end_part t ≡ reads_end t
end_read t = (λ i. followed_by (optional is_frac) (λ b. exponent_read b i) t) ∙ optional-then is_frac reads_exponent t
    ∙ grind (arith, frac_read, point_no_mark)

-- ---- the whole part

whole_parts : (c : ℕ) (b : List ℕ) → is_whole (c ∷ b) ≡ ((is_ascii_digit c && is_empty b) || ((not (c == 48) && is_ascii_digit c) && any_number is_ascii_digit b))
whole_parts c a = grind arith

-- where digits are passed over, nothing is lost
passed : (g : List ℕ → Bool) → Rejects is_ascii_digit g → (t : List ℕ) → (g t || g (after_all is_ascii_digit t)) ≡ g (after_all is_ascii_digit t)
passed g r [] = grind arith
passed g r (c ∷ cs) = grind arith

whole_read : (g : List ℕ → Bool) → Rejects is_ascii_digit g → (c : ℕ) (cs : List ℕ)
    → followed_by is_whole g (c ∷ cs) ≡ (if c == 48 then g cs else is_ascii_digit c && g (after_all is_ascii_digit cs))
whole_read g r c cs =
    let some = is_ascii_digit c in
    let more = not (c == 48) && is_ascii_digit c in
    (λ i. followed_by (λ b. whole_parts c b i) g cs)
    ∙ grind (
      arith,
      followed_by-or (λ b. some && is_empty b) (λ b. more && any_number is_ascii_digit b) g cs,
      followed_by-and some is_empty g cs,
      followed_by-and more (any_number is_ascii_digit) g cs,
      empty-followed_by g cs,
      any-after is_ascii_digit g r cs,
      passed g r cs,
      nat_tests,
    )

unsigned_read : (t : List ℕ) → followed_by is_whole end_part t ≡ reads_unsigned t
unsigned_read t = (λ i. followed_by is_whole (λ b. end_read b i) t) ∙ grind (arith, whole_read, end_rejects_digit)

unsigned_rejects_minus : Rejects is_minus (λ t. followed_by is_whole end_part t)
unsigned_rejects_minus c cs h = unsigned_read (c ∷ cs) ∙ grind (arith, nat_tests)

-- a number is what is read from left to right
pub is_json_number-read : (t : List ℕ) → is_json_number t ≡ reads_number t
unfolding is_json_number
is_json_number-read t = optional_one-after is_minus (λ b. followed_by is_whole end_part b) unsigned_rejects_minus t ∙ unsigned_read (after_one is_minus t)
