-- A URI's characters are read as what they mean.
use Rattle.std.specs.Char.{is_digit}
use Rattle.proof_lexers.proofs.Common.{[], after_class, ap, append-nil, append_assoc, arith, At, at_octet, at_trail, Bool, cases_Bool, decoded, decoded_after, digit_value, drop, eqb-true, Err, escaped_character, false, Fault, further, high, if◌then◌else◌, inl, inr, is_alphanumeric, is_between, is_character_code, is_flow, is_hex, is_tag, is_trail, is_uri, is_uri_mark, Lead, lead, lead_of, leading, List, nat_le, nat_lt, nat_tests, no_character, None, Octet, octet_at, octet_from, Ok, Option, past, Position, put_code, Read, refl, Result, Some, subst, suc, sym, trail, trail_by, trails, trails_from, true, uri_character, uri_from, UriFault, UrisAreRead, UriState, zero, ℕ, ◌&&◌, ◌*◌, ◌++◌, ◌+◌, ◌==◌, ◌∙◌, ◌∷◌, ◌≡◌, TagLeadingOctet, TagOctet, same_digit, same_code, same_uri, same_tag, both, none_further}
use Rattle.defs_text.specs.Classes as classes
use Rattle.model_scanner.specs.Uri.{plain}
use Rattle.model_scanner.proofs.UriLemmas.{low_turn}

-- ---- octets

-- where a first octet leads
abbrev lead_to : Position → Position → List ℕ → Option Lead → Result UriState Fault
lead_to start p t None = Err (At TagLeadingOctet start)
lead_to start p t (Some l) = at_trail start l.further l.bits l.least p t

same_between : (least most n : ℕ) → (nat_le least n && nat_lt n (suc most)) ≡ is_between least most n
same_between least most n = both _ _ (λ h. grind (arith, nat_tests)) (λ h. grind (arith, nat_tests))

same_trail : (n : ℕ) → (nat_le 128 n && nat_lt n 192) ≡ is_trail n
unfolding is_trail
same_trail n = same_between 0x80 0xBF n

same_lead : (start p : Position) (n : ℕ) (t : List ℕ) → at_octet start lead n p t ≡ lead_to start p t (lead_of n)
unfolding lead_of
same_lead start p n t = grind (arith, both, nat_tests, same_between)

-- ---- what an escape means

after_some : (n : ℕ) (r : List ℕ) → decoded_after n r ≡ decoded_after 0 (drop n r)
after_some (suc n) (c ∷ r) = after_some n r
after_some n r = refl

-- a code that is completed, and what the text after it means
abbrev completed : (least : ℕ) → Result ℕ UriFault → Result (List ℕ) UriFault → Result (List ℕ) UriFault
completed least (Err f) others = Err f
completed least (Ok code) others = (if nat_le least code && is_character_code code then put_code code others else Err no_character)

-- ---- the scan

module _ (test class : ℕ → Bool) (start : Position) (same : (c : ℕ) → class c ≡ test c) (percents : test 37 ≡ true) (digits : (c : ℕ) → is_digit c 16 ≡ true → test c ≡ true) where
  abbrev scan : List ℕ → Position → List ℕ → Result (Read (List ℕ)) Fault
  scan a p t = uri_from test start a (record { mode = plain; position = p; text = t })

  abbrev answer : List ℕ → Position → List ℕ → Result (List ℕ) UriFault → Result (Read (List ℕ)) Fault
  answer a p t d = after_class class start p a t d

  -- one character of the class more
  more : (c : ℕ) (a : List ℕ) (p : Position) (t : List ℕ) (d : Result (List ℕ) UriFault) → class c ≡ true → answer a (past p) t d ≡ answer (c ∷ a) p t d
  more c a p t b e = grind arith

  with_code : (c : ℕ) (a : List ℕ) (p : Position) (t : List ℕ) (d : Result (List ℕ) UriFault) → answer a p (t ++ c ∷ []) d ≡ answer a p t (put_code c d)
  with_code c a p t d = grind (arith, append_assoc)

  -- After a percent sign two digits are an octet, or the text is refused.
  data Octets (o : Octet) (a : List ℕ) (p : Position) (t : List ℕ) : Type 0 where
    octet : (x y n : ℕ) (b : List ℕ) → a ≡ x ∷ y ∷ b → class x ≡ true → class y ≡ true → octet_at (37 ∷ leading class a) ≡ Some n
        → uri_from test start a (record { mode = high o; position = p; text = t }) ≡ octet_from test start o n b (past (past p)) t → Octets o a p t
    no_octets : octet_at (37 ∷ leading class a) ≡ None → uri_from test start a (record { mode = high o; position = p; text = t }) ≡ Err (At TagOctet start) → Octets o a p t

  of_class : (c : ℕ) → is_digit c 16 ≡ true → class c ≡ true
  of_class c h = same c ∙ digits c h

  second_octet : (o : Octet) (x : ℕ) (r : List ℕ) (p : Position) (t : List ℕ) → is_digit x 16 ≡ true → class x ≡ true → is_hex x ≡ true → Octets o (x ∷ r) p t
  unfolding octet_at
  second_octet o x [] p t e f g = no_octets (rw f refl) (rw g refl)
  second_octet o x (y ∷ b) p t e f g = elim (cases_Bool (is_digit y 16)) [
    | inl h ↦
        let of_y = of_class y h in
        let hex : is_hex y ≡ true = same_digit y ∙ h in
        octet x y (digit_value x * 16 + digit_value y) b refl f of_y (rw (f, of_y, e, h) refl) (rw g (low_turn test start o (digit_value x) y (y ∷ b) b (past p) t hex refl))
    | inr h ↦
        let no_hex : is_hex y ≡ false = same_digit y ∙ h in
        no_octets (rw f (grind arith)) (rw (g, no_hex) refl)
  ]

  octets_at : (o : Octet) (a : List ℕ) (p : Position) (t : List ℕ) → Octets o a p t
  unfolding octet_at
  octets_at o [] p t = no_octets refl refl
  octets_at o (x ∷ r) p t = elim (cases_Bool (is_digit x 16)) [
    | inl e ↦ second_octet o x r p t e (of_class x e) (same_digit x ∙ e)
    | inr e ↦ let no_hex : is_hex x ≡ false = same_digit x ∙ e in no_octets (grind arith) (rw no_hex refl)
  ]

  abbrev Plain : List ℕ → Type 0
  Plain a = (p : Position) (t : List ℕ) → scan a p t ≡ answer a p t (decoded (leading class a))

  -- three characters of the class more
  three_more : (x y : ℕ) (b : List ℕ) (p : Position) (t : List ℕ) (d : Result (List ℕ) UriFault) → class x ≡ true → class y ≡ true → answer b (past (past (past p))) t d ≡ answer (37 ∷ x ∷ y ∷ b) p t d
  three_more x y b p t d e f = more y b (past (past p)) t d f ∙ more x (y ∷ b) (past p) t d e ∙ more 37 (x ∷ y ∷ b) p t d (same 37 ∙ percents)

  abbrev Trails : ℕ → Type 0
  Trails left = (code least : ℕ) (a : List ℕ) (p : Position) (t : List ℕ) → ((n : ℕ) → Plain (drop n a))
      → trails_from test start left code least a p t ≡ answer a p t (completed least (trails left code (leading class a)) (decoded_after 0 (drop (3 * left) (leading class a))))

  -- an octet more of a code
  next_octet : (left code least x y n : ℕ) (b : List ℕ) (p : Position) (t : List ℕ) → Trails left → ((k : ℕ) → Plain (drop k b)) → class x ≡ true → class y ≡ true → octet_at (37 ∷ x ∷ y ∷ leading class b) ≡ Some n
      → octet_from test start (trail left code least) n b (past (past (past p))) t
      ≡ answer (37 ∷ x ∷ y ∷ b) p t (completed least (trail_by (octet_at (37 ∷ x ∷ y ∷ leading class b)) code (λ k. trails left k (leading class b))) (decoded_after 0 (drop (3 * left) (leading class b))))
  next_octet left code least x y n b p t others plains e f oc = grind (arith, same_trail, past, three_more)

  leads : class 37 ≡ true
  leads = same 37 ∙ percents

  after_percent : (left code least : ℕ) (a : List ℕ) (p : Position) (t : List ℕ) → Trails left → ((k : ℕ) → Plain (drop k (37 ∷ a))) → Octets (trail left code least) a (past p) t
      → trails_from test start (suc left) code least (37 ∷ a) p t ≡ answer (37 ∷ a) p t (completed least (trails (suc left) code (37 ∷ leading class a)) (decoded_after 0 (drop (3 * suc left) (37 ∷ leading class a))))
  after_percent left code least a p t others plains (octet x y n b cut e f oc is) =
      let here = rw cut at is in
      let known = rw (cut, e, f) at oc in
      let three_off : drop (3 * suc left) (37 ∷ x ∷ y ∷ (leading class b)) ≡ drop (3 * left) (leading class b) = let e : 3 * suc left ≡ suc (suc (suc (3 * left))) = omega arith in rw e refl in
      rw (cut, e, f, three_off) (here ∙ next_octet left code least x y n b p t others (λ k. subst (λ (l : List ℕ). Plain (drop (suc (suc k)) l)) cut (plains (suc (suc (suc k))))) e f known)
  after_percent left code least a p t others plains (no_octets oc is) = is ∙ rw oc refl

  trailing : (left : ℕ) → Trails left
  unfolding octet_at
  trailing zero code least a p t plains = grind (arith, same_code, with_code, class, plains 0)
  trailing (suc left) code least [] p t plains = refl
  trailing (suc left) code least (c ∷ a) p t plains = elim (cases_Bool (c == 37)) [
    | inl e ↦
        let is_percent : c ≡ 37 = eqb-true c 37 e in
        rw (is_percent, leads) (after_percent left code least a p t (trailing left) (subst (λ (d : ℕ). (k : ℕ) → Plain (drop k (d ∷ a))) is_percent plains) (octets_at (trail left code least) a (past p) t))
    | inr e ↦ rw e (grind (arith, e))
  ]

  -- ---- the whole text

  -- after the first octet of a character
  led : (x y n : ℕ) (b : List ℕ) (p : Position) (t : List ℕ) → ((k : ℕ) → Plain (drop k b)) → class x ≡ true → class y ≡ true → octet_at (37 ∷ x ∷ y ∷ leading class b) ≡ Some n
      → octet_from test start lead n b (past (past (past p))) t ≡ answer (37 ∷ x ∷ y ∷ b) p t (decoded (37 ∷ x ∷ y ∷ leading class b))
  unfolding uri_character escaped_character
  led x y n b p t plains e f oc = rw (oc, same_lead start (past (past (past p))) n t) (grind (arith, trailing, three_more, after_some))

  at_percent : (a : List ℕ) (p : Position) (t : List ℕ) → ((k : ℕ) → Plain (drop k a)) → Octets lead a (past p) t → scan (37 ∷ a) p t ≡ answer (37 ∷ a) p t (decoded (37 ∷ leading class a))
  unfolding uri_character escaped_character
  at_percent a p t plains (octet x y n b cut e f oc is) =
      let here = rw cut at is in
      let known = rw (cut, e, f) at oc in
      let span : leading class (x ∷ y ∷ b) ≡ x ∷ y ∷ leading class b = rw (e, f) refl in
      rw (percents, cut) (here ∙ led x y n b p t (λ k. subst (λ (l : List ℕ). Plain (drop (suc (suc k)) l)) cut (plains (suc (suc k)))) e f known ∙ ap (λ l. answer (37 ∷ x ∷ y ∷ b) p t (decoded (37 ∷ l))) (sym span))
  at_percent a p t plains (no_octets oc is) = rw percents (is ∙ rw oc refl)

  -- where no character of the class stands
  nothing_read : (a : List ℕ) (p : Position) (t : List ℕ) → ◌≡◌ {A = Result (Read (List ℕ)) Fault} (Ok (record { rest = a; position = p; value = t })) (Ok (record { rest = a; position = further 0 p; value = t ++ [] }))
  nothing_read a p t = rw (none_further p, append-nil) refl

  first_by : (c : ℕ) (a : List ℕ) → ((k : ℕ) → Plain (drop k a)) → (in_class is_escape : Bool) → class c ≡ in_class → (c == 37) ≡ is_escape → (p : Position) (t : List ℕ) → scan (c ∷ a) p t ≡ answer (c ∷ a) p t (decoded (leading class (c ∷ a)))
  unfolding uri_character
  first_by c a plains true true e f p t =
      let is_percent : c ≡ 37 = eqb-true c 37 f in
      rw (is_percent, leads) (at_percent a p t plains (octets_at lead a (past p) t))
  first_by c a plains true false e f p t = grind (arith, plains 0 (past p) (t ++ c ∷ []), with_code, more)
  first_by c a plains false is_escape e f p t =
      let tested : test c ≡ false = sym (same c) ∙ e in
      rw (tested, e, e) (nothing_read (c ∷ a) p t)

  all_read : (n : ℕ) (a : List ℕ) (p : Position) (t : List ℕ) → scan (drop n a) p t ≡ answer (drop n a) p t (decoded (leading class (drop n a)))
  all_read (suc n) (c ∷ a) p t = all_read n a p t
  all_read zero (c ∷ a) p t = first_by c a (λ n. all_read n a) (class c) (c == 37) refl refl p t
  all_read n a p t = nothing_read [] p t

pub uris_are_read : UrisAreRead
unfolding is_uri is_alphanumeric is_uri_mark is_flow is_tag
uris_are_read start text p before = (
  all_read is_uri classes.is_uri start same_uri refl (λ c h. grind (arith, nat_tests)) 0 text p before,
  all_read is_tag classes.is_tag start same_tag refl (λ c h. grind (arith, nat_tests)) 0 text p before,
)
