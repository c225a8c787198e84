-- Tags are read as what is written, and no other text is.
use Rattle.proof_lexers.proofs.Common.{[], after, after_class, after_name, all_of, and_parts, and_then, ap, append_assoc, arith, at_start, begins_with, Bool, cases_Bool, codes, decoded, drop, ends_tag, EndsAs, eqb-true, Err, false, Fault, further, if◌then◌else◌, inl, inr, is_alpha, is_empty, IsTagFault, IsTagRead, IsTagRefusal, leading, length, length-append, List, local, local_goes_on, local_octets, may_follow, named, nat_tests, no_suffix, Ok, past, Position, Read, read_tag, reads, refl, refuses, Result, shorthand, slice_index, Some, some_suffix, suc, suffix_goes_on, suffix_octets, sym, tag_end, tag_of_class, TagsEndAsTheirTextSays, take_while, true, uri_character, UriFault, verbatim, verbatim_end, verbatim_goes_on, verbatim_octets, whole_tag, written_tag, ℕ, ◌++◌, ◌==◌, ◌∙◌, ◌∷◌, ◌≡◌, TagEnd, is_decimal_digit, is_letter, same_gap, same_flow, same_alpha, same_place, begins_in, ends_after, taken}
use Rattle.defs_text.specs.Classes as classes
use Rattle.defs_text.specs.Tags as defs
use Rattle.model_scanner.specs.Tag.{Tag, tag}
use Rattle.proof_lexers.specs.TagEnds.{unclosed}
pub use Rattle.proof_lexers.proofs.Classes.{span_cut, all_leading, leading_all}
use Rattle.proof_lexers.proofs.Properties.Uris.{uris_are_read}
use Rattle.proof_lexers.proofs.Plain.Turns.{end_is_a_gap}

pub word : (a : List ℕ) (p : Position) (t : List ℕ) → take_while is_alpha a p t ≡ record { rest = after classes.is_alpha a; position = further (length (leading classes.is_alpha a)) p; value = t ++ leading classes.is_alpha a }
word a p t = taken classes.is_alpha is_alpha same_alpha a p t

-- a scan ends as its text says
abbrev Ends : (flow : Bool) → Position → List ℕ → Result (Read Tag) Fault → Type 0
Ends flow start text x = EndsAs (IsTagRead flow start text) (IsTagFault flow start text) x

-- ---- what may stand after a tag

pub same_end : (flow : Bool) (r : List ℕ) → ends_tag flow (slice_index r 0) ≡ may_follow flow r
unfolding ends_tag
same_end flow a = grind (arith, end_is_a_gap, same_gap, same_flow)

module _ (flow : Bool) (start : Position) (text : List ℕ) where
  -- a tag that stands there
  ended : (piece rest handle suffix : List ℕ) (p : Position) → text ≡ piece ++ rest → written_tag (33 ∷ piece) ≡ Some (record { handle = handle; suffix = suffix }) → p ≡ further (length (33 ∷ piece)) start
      → (may_follow flow rest ≡ false → IsTagRefusal flow text TagEnd) → Ends flow start text (tag_end flow start (read_tag rest p handle suffix))
  ended piece rest handle suffix p cut is position goes = elim (cases_Bool (may_follow flow rest)) [
    | inl e ↦ reads _ (whole_tag piece rest handle suffix cut is e) (rw (same_end flow rest, e, position) refl)
    | inr e ↦ refuses _ (at_start _ (goes e)) (rw (same_end flow rest, e) refl)
  ]

-- ---- a verbatim tag

pub close_is_no_uri : classes.is_uri 62 ≡ false
unfolding classes.is_uri is_decimal_digit is_letter
close_is_no_uri = refl

module _ (flow : Bool) (start : Position) (b : List ℕ) where
  abbrev written : List ℕ
  written = leading classes.is_uri b

  closing : (cs : List ℕ) (r : List ℕ) → decoded written ≡ Ok cs → after classes.is_uri b ≡ r
      → Ends flow start (60 ∷ b) (and_then (verbatim_end start cs r (further (length written) (past (past start)))) (λ t. tag_end flow start t))
  closing cs [] is e = refuses _ (at_start _ (unclosed b cs refl is (ap (begins_with 62) e))) refl
  closing cs (c ∷ r) is e = let verbatim_written : written_tag (33 ∷ 60 ∷ (written ++ 62 ∷ [])) ≡ Some (record { handle = []; suffix = cs }) = let z = leading_all classes.is_uri written (62 ∷ []) (all_leading classes.is_uri b) close_is_no_uri in rw (z.1, z.0, (all_leading classes.is_uri b), is) refl in elim (cases_Bool (c == 62)) [
    | inl f ↦
        let same : c ≡ 62 = eqb-true c 62 f in
        let cut : b ≡ (written ++ 62 ∷ []) ++ r = span_cut classes.is_uri b ∙ ap (λ k. written ++ k) (e ∙ ap (λ d. d ∷ r) same) ∙ sym (append_assoc written (62 ∷ []) r) in
        rw f (ended flow start (60 ∷ b) (60 ∷ (written ++ 62 ∷ [])) r [] cs _ (ap (λ k. 60 ∷ k) cut) verbatim_written (let long = length-append written (62 ∷ []) in same_place start (length (33 ∷ 60 ∷ (written ++ 62 ∷ []))) (omega (arith, long)) (omega (arith, long)))
        (verbatim_goes_on b cs r refl is (e ∙ ap (λ d. d ∷ r) same)))
    | inr f ↦ refuses _ (at_start _ (unclosed b cs refl is (ap (begins_with 62) e ∙ f))) (rw f refl)
  ]

  verbatim_by : (d : Result (List ℕ) UriFault) → decoded written ≡ d
      → Ends flow start (60 ∷ b) (and_then (and_then (after_class classes.is_uri start (past (past start)) b [] d) (λ (r : Read (List ℕ)). verbatim_end start r.value r.rest r.position)) (λ t. tag_end flow start t))
  verbatim_by (Err f) e = refuses _ (at_start _ (verbatim_octets b f refl e)) refl
  verbatim_by (Ok cs) e = closing cs (after classes.is_uri b) e refl

-- ---- a shorthand

pub decoded_some : (c : ℕ) (r cs : List ℕ) → decoded (c ∷ r) ≡ Ok cs → is_empty cs ≡ false
decoded_some c r cs h = grind arith

pub alpha_starts : (c : ℕ) → classes.is_alpha c ≡ true → ((c == 60) ≡ false) × ((c == 37) ≡ false) × (classes.is_tag c ≡ true)
unfolding classes.is_alpha is_decimal_digit is_letter classes.is_tag classes.is_uri classes.is_flow
alpha_starts c h = (grind (arith, nat_tests), grind (arith, nat_tests), grind (arith, nat_tests))

tag_starts : (c : ℕ) → classes.is_tag c ≡ true → ((c == 60) ≡ false) × ((c == 33) ≡ false)
unfolding is_decimal_digit is_letter classes.is_tag classes.is_uri classes.is_flow
tag_starts c h = (grind (arith, nat_tests), grind (arith, nat_tests))

-- a text that begins with a word or a mark is no verbatim tag
is_shorthand : (name r : List ℕ) → all_of classes.is_alpha name ≡ true → (begins_in (λ c. c == 60) r) ≡ false → defs.after_mark (name ++ r) ≡ defs.shorthand (name ++ r)
is_shorthand [] r h e = grind arith
is_shorthand (c ∷ name) r h e = let q = and_parts (classes.is_alpha c) (all_of classes.is_alpha name) h in rw ((alpha_starts c q.0).0) refl

-- one that is not empty
shorthand_by : (name r : List ℕ) → is_empty (name ++ r) ≡ false
    → defs.shorthand (name ++ r) ≡ (if defs.begins_with_mark (after classes.is_alpha (name ++ r)) then defs.named (leading classes.is_alpha (name ++ r)) (after classes.is_alpha (name ++ r)) else tag_of_class classes.is_tag (codes "!") (name ++ r))
shorthand_by a r h = grind arith

some_text : (name r : List ℕ) (c : ℕ) → is_empty (name ++ c ∷ r) ≡ false
some_text [] r c = refl
some_text (d ∷ name) r c = refl

-- characters of a word are read as they stand
pub decoded_word : (name r : List ℕ) → all_of classes.is_alpha name ≡ true → decoded (name ++ r) ≡ and_then (decoded r) (λ cs. Ok (name ++ cs))
unfolding uri_character
decoded_word [] r h = grind arith
decoded_word (c ∷ name) r h =
    let q = and_parts (classes.is_alpha c) (all_of classes.is_alpha name) h in
    rw ((alpha_starts c q.0).1, decoded_word name r q.1) (grind arith)

all_tag : (name r : List ℕ) → all_of classes.is_alpha name ≡ true → all_of classes.is_tag r ≡ true → all_of classes.is_tag (name ++ r) ≡ true
all_tag [] r h e = e
all_tag (c ∷ name) r h e = let q = and_parts (classes.is_alpha c) (all_of classes.is_alpha name) h in rw ((alpha_starts c q.0).2) (all_tag name r q.1 e)

no_mark : (r : List ℕ) → all_of classes.is_tag r ≡ true → (defs.begins_with_mark r ≡ false) × (begins_in (λ c. c == 60) r ≡ false)
no_mark [] h = (refl, refl)
no_mark (c ∷ r) h = let q = and_parts (classes.is_tag c) (all_of classes.is_tag r) h in ((tag_starts c q.0).1, (tag_starts c q.0).0)

empty_is : (a : List ℕ) → is_empty a ≡ true → a ≡ []
empty_is a h = grind arith

pub same_empty : (name l cs : List ℕ) → decoded l ≡ Ok cs → is_empty (name ++ cs) ≡ is_empty (name ++ l)
same_empty [] l cs e = grind (arith, decoded_some)
same_empty (d ∷ name) l cs e = refl

marked : (a : List ℕ) → (slice_index a 0 == 33) ≡ true → a ≡ 33 ∷ drop 1 a
marked a h = grind (arith, eqb-true)

unmarked : (a : List ℕ) → (slice_index a 0 == 33) ≡ false → defs.begins_with_mark a ≡ false
unmarked a h = grind arith

begins_less : (a : List ℕ) → begins_in classes.is_alpha a ≡ false → begins_in classes.is_alpha (leading classes.is_tag a) ≡ false
begins_less a h = grind arith

module _ (flow : Bool) (start : Position) (text : List ℕ) where
  abbrev name : List ℕ
  name = leading classes.is_alpha text

  abbrev after_word : List ℕ
  after_word = after classes.is_alpha text

  all : all_of classes.is_alpha name ≡ true
  all = all_leading classes.is_alpha text

  -- after a name and a second mark
  suffix_by : (s : List ℕ) (d : Result (List ℕ) UriFault) → text ≡ name ++ 33 ∷ s → decoded (leading classes.is_tag s) ≡ d
      → Ends flow start text (and_then (and_then (after_class classes.is_tag start (past (further (length name) (past start))) s [] d) (λ r. some_suffix start name r)) (λ t. tag_end flow start t))
  unfolding classes.is_alpha is_decimal_digit is_letter
  suffix_by s (Err f) cut e = refuses _ (at_start _ (suffix_octets name s f cut all e)) refl
  suffix_by s (Ok cs) cut e =
      let l = leading classes.is_tag s in
      let same : is_empty cs ≡ is_empty l = same_empty [] l cs e in
      let tags = all_leading classes.is_tag s in
      elim (cases_Bool (is_empty cs)) [
        | inl f ↦ rw f (refuses _ (at_start _ (no_suffix name s cut all (empty_is l (sym same ∙ f)))) refl)
        | inr f ↦ rw f (ended flow start text (name ++ 33 ∷ l) (after classes.is_tag s) ((33 ∷ name) ++ 33 ∷ []) cs _
            (cut ∙ ap (λ r. name ++ 33 ∷ r) (span_cut classes.is_tag s) ∙ sym (append_assoc name (33 ∷ l) (after classes.is_tag s))) (grind (arith, all, leading_all, refl, is_shorthand, shorthand_by, some_text))
            (let long = length-append name (33 ∷ l) in same_place start (suc (length (name ++ 33 ∷ l))) (omega (arith, long)) (omega (arith, long))) (λ g. suffix_goes_on name s cs cut all (sym same ∙ f) e g))
      ]

  -- after a word and no mark
  local_by : (d : Result (List ℕ) UriFault) → begins_with 60 text ≡ false → defs.begins_with_mark after_word ≡ false → decoded (leading classes.is_tag after_word) ≡ d
      → Ends flow start text (and_then (and_then (after_class classes.is_tag start (further (length name) (past start)) after_word name d) (λ r. Ok (local r))) (λ t. tag_end flow start t))
  local_by (Err f) not_verbatim free e = refuses _ (at_start _ (local_octets f not_verbatim free e)) refl
  local_by (Ok cs) not_verbatim free e =
      let l = leading classes.is_tag after_word in
      let rest = after classes.is_tag after_word in
      let same : is_empty (name ++ cs) ≡ is_empty (name ++ l) = same_empty name l cs e in
      let here : text ≡ (name ++ l) ++ rest = span_cut classes.is_alpha text ∙ ap (λ r. name ++ r) (span_cut classes.is_tag after_word) ∙ sym (append_assoc name l rest) in
      let tags = all_leading classes.is_tag after_word in
      let begins = begins_less after_word (ends_after classes.is_alpha text) in
      let long = length-append name l in
      let place : further (length l) (further (length name) (past start)) ≡ further (suc (length (name ++ l))) start = same_place start (suc (length (name ++ l))) (omega (arith, long)) (omega (arith, long)) in
      elim (cases_Bool (is_empty (name ++ cs))) [
        | inl f ↦ rw f (ended flow start text (name ++ l) rest [] (33 ∷ []) _ here (rw (empty_is (name ++ l) (sym same ∙ f)) refl) place (local_goes_on cs not_verbatim free e))
        | inr f ↦
            let some = sym same ∙ f in
            rw f (ended flow start text (name ++ l) rest (33 ∷ []) (name ++ cs) _ here (grind (arith, all, leading_all, no_mark, is_shorthand, shorthand_by, all_tag, decoded_word)) place (local_goes_on cs not_verbatim free e))
      ]

  from_word : begins_with 60 text ≡ false → Ends flow start text (and_then (after_name start name after_word (further (length name) (past start))) (λ t. tag_end flow start t))
  unfolding named
  from_word not_verbatim = elim (cases_Bool (slice_index after_word 0 == 33)) [
    | inl f ↦ rw (f, (uris_are_read start (drop 1 after_word) (past (further (length name) (past start))) []).1) (suffix_by (drop 1 after_word) _ (span_cut classes.is_alpha text ∙ ap (λ r. name ++ r) (marked after_word f)) refl)
    | inr f ↦ rw (f, (uris_are_read start after_word (further (length name) (past start)) name).1) (local_by _ not_verbatim (unmarked after_word f) refl)
  ]

shorthands : (flow : Bool) (start : Position) (a : List ℕ) → (slice_index a 0 == 60) ≡ false → Ends flow start a (tag flow (33 ∷ a) start)
unfolding tag shorthand
shorthands flow start a e = rw (e, word a (past start) []) (from_word flow start a (grind arith))

pub tags_end : TagsEndAsTheirTextSays
unfolding tag verbatim
tags_end flow [] p = shorthands flow p [] refl
tags_end flow (c ∷ b) p = elim (cases_Bool (c == 60)) [
  | inl e ↦ rw (eqb-true c 60 e, (uris_are_read p b (past (past p)) []).0) (verbatim_by flow p b (decoded (leading classes.is_uri b)) refl)
  | inr e ↦ shorthands flow p (c ∷ b) e
]
