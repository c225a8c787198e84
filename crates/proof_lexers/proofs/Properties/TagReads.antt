-- Each tag is read as it is written: a text begins with one tag at most, and is refused only where it begins with none.
use Rattle.proof_lexers.proofs.Common.{[], after, all_of, and_parts, ap, append_assoc, at_start, Bool, cases_Bool, codes, decoded, eqb-true, Err, false, inl, inr, is_empty, is_nul, is_same, IsTagRefusal, leading, leading_none, List, local_goes_on, local_octets, may_follow, no_suffix, None, Ok, Problem, reads, refl, refuses, Result, Some, sym, suffix_goes_on, suffix_octets, tag_of_class, TagsAreRead, true, UriFault, verbatim_goes_on, verbatim_octets, whole_tag, written_tag, ℕ, ◌++◌, ◌==◌, ◌∙◌, ◌∷◌, ◌≡◌, arith, is_blank_or_end, is_decimal_digit, is_letter, all_leading, before_end, begins_in, leading_all, span_cut}
use Rattle.proof_lexers.specs.TagEnds.{unclosed}
use Rattle.defs_text.specs.Classes as classes
use Rattle.defs_text.specs.Tags as defs
use Rattle.proof_lexers.proofs.Directives.Lines.{same_text}
use Rattle.proof_row.proofs.TagEnds.{alpha_goes_on, goes_on, tag_goes_on, tags}
use Rattle.proof_lexers.proofs.Properties.Tags.{close_is_no_uri, decoded_word, tags_end}

-- what may follow a tag is of no class of characters that a tag goes on with
follower : (class : ℕ → Bool) → ((c : ℕ) → class c ≡ true → goes_on c ≡ true) → (flow : Bool) (rest : List ℕ) → may_follow flow rest ≡ true
    → begins_in class rest ≡ false
follower class f flow [] h = refl
follower class f flow (c ∷ r) h = grind (arith, f c)

-- a tag whose suffix is written so
of_class : (class : ℕ → Bool) (h t : List ℕ) (g : defs.Tag) → tag_of_class class h t ≡ Some g → (all_of class t ≡ true) × (decoded t ≡ Ok g.suffix) × (g.handle ≡ h)
of_class class h t g e = grind arith

tags_after : (a b : List ℕ) → all_of classes.is_tag (a ++ b) ≡ true → all_of classes.is_tag b ≡ true
tags_after [] b h = h
tags_after (c ∷ a) b h = tags_after a b (and_parts (classes.is_tag c) (all_of classes.is_tag (a ++ b)) h).1

module _ (flow : Bool) (rest : List ℕ) (follows : may_follow flow rest ≡ true) where
  ends_at : (k : ℕ) → goes_on k ≡ true → begins_in (λ c. c == k) rest ≡ false
  ends_at k h = follower (λ c. c == k) (λ c e. rw (eqb-true c k e) h) flow rest follows

  -- A text that begins with a verbatim tag; or with one that has a name or none, and a suffix after a second mark or no other mark.
  data Begins (a : List ℕ) : Type 0 where
    verbatim_tag : (b cs : List ℕ) → a ≡ 60 ∷ b → decoded (leading classes.is_uri b) ≡ Ok cs → after classes.is_uri b ≡ 62 ∷ rest → Begins a
    named_tag : (b cs : List ℕ) → begins_in (λ c. c == 60) a ≡ false → after classes.is_alpha a ≡ 33 ∷ b
        → is_empty (leading classes.is_tag b) ≡ false → decoded (leading classes.is_tag b) ≡ Ok cs → after classes.is_tag b ≡ rest
        → Begins a
    local_tag : (b cs : List ℕ) → begins_in (λ c. c == 60) a ≡ false → after classes.is_alpha a ≡ b → begins_in (λ c. c == 33) b ≡ false
        → decoded (leading classes.is_tag b) ≡ Ok cs → after classes.is_tag b ≡ rest → Begins a

  verbatim_begins : (b : List ℕ) (g : defs.Tag) → defs.verbatim b ≡ Some g → Begins (60 ∷ (b ++ rest))
  verbatim_begins b g h = elim (cases_Bool (is_same (after classes.is_uri b) (codes ">"))) [
    | inl e ↦
        let k = of_class classes.is_uri [] (leading classes.is_uri b) g (rw e at h) in
        let z = leading_all classes.is_uri (leading classes.is_uri b) (62 ∷ rest) k.0 close_is_no_uri in
        let cut : b ++ rest ≡ leading classes.is_uri b ++ 62 ∷ rest =
        ap (λ x. x ++ rest) (span_cut classes.is_uri b ∙ ap (λ x. leading classes.is_uri b ++ x) (same_text (after classes.is_uri b) (codes ">") e)) ∙ append_assoc (leading classes.is_uri b) (62 ∷ []) rest in
        verbatim_tag (b ++ rest) g.suffix refl (rw (cut, z.0) k.1) (rw cut z.1)
    | inr e ↦ let no : None ≡ Some g = rw e at h in cc
  ]

  named_begins : (a m : List ℕ) (g : defs.Tag) → begins_in (λ c. c == 60) (a ++ rest) ≡ false
      → after classes.is_alpha (a ++ rest) ≡ m ++ rest → defs.begins_with_mark m ≡ true
      → defs.named (leading classes.is_alpha a) m ≡ Some g → Begins (a ++ rest)
  named_begins a (x ∷ d ∷ s) g e f mark h =
      let k = of_class classes.is_tag (codes "!" ++ leading classes.is_alpha a ++ codes "!") (d ∷ s) g h in
      let z = leading_all classes.is_tag (d ∷ s) rest k.0 (follower classes.is_tag tag_goes_on flow rest follows) in
      let second : x ≡ 33 = eqb-true x 33 mark in
      named_tag (d ∷ (s ++ rest)) g.suffix e (rw second at f) (rw z.0 refl) (rw z.0 k.1) z.1
  named_begins a _ g e f mark h = cc

  local_begins : (a m : List ℕ) (g : defs.Tag) → begins_in (λ c. c == 60) (a ++ rest) ≡ false
      → after classes.is_alpha (a ++ rest) ≡ m ++ rest → a ≡ leading classes.is_alpha a ++ m → defs.begins_with_mark m ≡ false
      → (all_of classes.is_tag a ≡ true) × (decoded a ≡ Ok g.suffix) × (g.handle ≡ codes "!") → Begins (a ++ rest)
  unfolding is_blank_or_end classes.is_blank classes.is_break is_nul classes.is_flow
  local_begins a m g e f cut mark k =
      by (decoded m) refl (leading_all classes.is_tag m rest (tags_after (leading classes.is_alpha a) m (rw (← cut) k.0)) (follower classes.is_tag tag_goes_on flow rest follows))
    where
      by : (d : Result (List ℕ) UriFault) → decoded m ≡ d
          → (leading classes.is_tag (m ++ rest) ≡ m) × (after classes.is_tag (m ++ rest) ≡ rest) → Begins (a ++ rest)
      by (Ok cs) i z = local_tag (m ++ rest) cs e f (let no = ends_at 33 refl in grind (arith, no)) (rw z.0 i) z.1
      by (Err j) i z = absurd (cc (k.1, cut, decoded_word (leading classes.is_alpha a) m (all_leading classes.is_alpha a), i))

  tag_begins : (a : List ℕ) (g : defs.Tag) → written_tag (33 ∷ a) ≡ Some g → Begins (a ++ rest)
  unfolding is_blank_or_end classes.is_blank classes.is_break is_nul classes.is_flow
  tag_begins [] g h =
      let z = leading_none classes.is_tag rest (follower classes.is_tag tag_goes_on flow rest follows) in
      local_tag rest [] (ends_at 60 refl) (leading_none classes.is_alpha rest (follower classes.is_alpha alpha_goes_on flow rest follows)).1 (ends_at 33 refl) (ap decoded z.0) z.1
  tag_begins (c ∷ a) g h = elim (cases_Bool (c == 60)) [
    | inl e ↦ rw (eqb-true c 60 e) (verbatim_begins a g (rw e at h))
    | inr e ↦ let z = before_end classes.is_alpha (c ∷ a) rest (follower classes.is_alpha alpha_goes_on flow rest follows) in elim (cases_Bool (defs.begins_with_mark (after classes.is_alpha (c ∷ a)))) [
      | inl f ↦ named_begins (c ∷ a) (after classes.is_alpha (c ∷ a)) g e z.1 f (rw (e, f) at h)
      | inr f ↦ local_begins (c ∷ a) (after classes.is_alpha (c ∷ a)) g e z.1 (span_cut classes.is_alpha (c ∷ a)) f (of_class classes.is_tag (codes "!") (c ∷ a) g (rw (e, f) at h))
    ]
  ]

  -- it has no reason to be refused
  unrefused : (a : List ℕ) (why : Problem) → IsTagRefusal flow a why → Begins a → ⊥
  unfolding classes.is_alpha is_decimal_digit is_letter
  unrefused a _ (verbatim_octets r f cut e) z = grind arith
  unrefused a _ (unclosed r u cut e f) z = grind arith
  unrefused a _ (verbatim_goes_on r u more cut e f g) z = grind (arith, follows)
  unrefused a _ (suffix_octets name r f cut all e) z = let y = leading_all classes.is_alpha name (33 ∷ r) all refl in grind (arith, y)
  unrefused a _ (no_suffix name r cut all e) z = let y = leading_all classes.is_alpha name (33 ∷ r) all refl in grind (arith, y)
  unrefused a _ (suffix_goes_on name r s cut all e f g) z = let y = leading_all classes.is_alpha name (33 ∷ r) all refl in grind (arith, y, follows)
  unrefused a _ (local_octets f b m e) z = grind arith
  unrefused a _ (local_goes_on s b m e g) z = grind (arith, follows)

pub tags_are_read : TagsAreRead
tags_are_read flow piece rest handle suffix p h follows = elim (tags_end flow (piece ++ rest) p) [
  | reads r (whole_tag q y i s cut is k) e ↦
      let g : defs.Tag = record { handle = handle; suffix = suffix } in
      let other : defs.Tag = record { handle = i; suffix = s } in
      let same = tags flow (33 ∷ piece) (33 ∷ q) rest y (g, h, follows) (other, is, k) (ap (λ x. 33 ∷ x) cut) in
      let tag_is : g ≡ other = cc (sym h ∙ ap written_tag same.0 ∙ is) in
      cc (e, same.0, same.1, ap (λ (t : defs.Tag). t.handle) tag_is, ap (λ (t : defs.Tag). t.suffix) tag_is)
  | refuses f (at_start why reason) e ↦ absurd (unrefused flow rest follows (piece ++ rest) why reason (tag_begins flow rest follows piece _ h))
]
