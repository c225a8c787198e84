-- Plain scalars with a tag: what the bytes of text, handle and suffix say.
use Rattle.yaml_loader.proofs.Common.{[], and_from, and_parts, ap, arith, as_boolean, as_null, bad_value, Bool, by_name, bytes_eq, bytes_eq-Decides, chars, chars-encodes, codes, core_prefix, encode_ascii, encodes-chars, false, false_from_ne_true, false_words, false≢true, if◌then◌else◌, inl, inr, is_among, is_decimal, is_real_text, IsUtf8, IsUtf8-string_bytes, List, list_all, nat_lt, nat_tests, not, null, or_cases, real_text-cases, refl, same_from_decides, special_words, string, string_bytes, string_chars, sym, tag_of, tagged_tree, true, true_words, typing, ℕ, ◌++◌, ◌<◌, ◌||◌, ◌∙◌, ◌∷◌, ◌≡◌, ◌⊎◌}
use Rattle.defs_tree.proofs.RealTexts.{is_real_character, decimal-characters}
use Rattle.defs_tree.proofs.GrammarLaws.{list_all-more}
use Rattle.yaml_parser.specs.declared.event.Tag.{Tag as Code}
use Rattle.std.specs.Bool.{Decides}
use lib.Utf8.{scalar, scalars, encodes}

-- ---- texts as bytes and as characters, against words that are both

-- a word whose bytes are its characters
pub record IsWord (w : List ℕ) : Type 0 where
  pub are_scalars : scalars w ≡ true
  pub are_bytes : encodes w ≡ w

abbrev pub is_ascii : List ℕ → Bool
is_ascii t = list_all (λ c. nat_lt c 128) t

ascii_scalar : (c : ℕ) → nat_lt c 128 ≡ true → scalar c ≡ true
ascii_scalar c h = grind (arith, nat_tests)

ascii_small : (c : ℕ) → nat_lt c 128 ≡ true → c < 128
ascii_small c h = grind (arith, nat_tests)

pub ascii_word : (w : List ℕ) → is_ascii w ≡ true → IsWord w
ascii_word [] h = record { are_scalars = refl; are_bytes = refl }
ascii_word (c ∷ cs) h =
    let p = and_parts (nat_lt c 128) (is_ascii cs) h in
    let rest = ascii_word cs p.1 in
    record {
      are_scalars = and_from (scalar c) (scalars cs) (ascii_scalar c p.0) rest.are_scalars;
      are_bytes = λ i. encode_ascii c (ascii_small c p.0) i ++ rest.are_bytes i;
    }

pub chars_of_word : (w bs : List ℕ) → IsWord w → bs ≡ w → chars bs ≡ w
chars_of_word w bs word e = ap chars (e ∙ sym word.are_bytes) ∙ chars-encodes w word.are_scalars

pub bytes_of_word : (w bs : List ℕ) → IsWord w → IsUtf8 bs → chars bs ≡ w → bs ≡ w
bytes_of_word w bs word text e = sym (encodes-chars bs text) ∙ ap encodes e ∙ word.are_bytes

pub word_chars : (w bs : List ℕ) → IsWord w → IsUtf8 bs → bytes_eq w (chars bs) ≡ bytes_eq w bs
word_chars w bs word text = same_from_decides {P = w ≡ bs} (bytes_eq w (chars bs)) (bytes_eq w bs) both (bytes_eq-Decides w bs)
  where
    both : Decides (bytes_eq w (chars bs)) (w ≡ bs)
    both = let d = bytes_eq-Decides w (chars bs) in (λ e. sym (bytes_of_word w bs word text (sym (d.0 e))), λ e. d.1 (sym (chars_of_word w bs word (sym e))))

pub chars_word : (w bs : List ℕ) → IsWord w → IsUtf8 bs → bytes_eq (chars bs) w ≡ bytes_eq bs w
chars_word w bs word text = same_from_decides {P = bs ≡ w} (bytes_eq (chars bs) w) (bytes_eq bs w) both (bytes_eq-Decides bs w)
  where
    both : Decides (bytes_eq (chars bs) w) (bs ≡ w)
    both = let d = bytes_eq-Decides (chars bs) w in (λ e. bytes_of_word w bs word text (d.0 e), λ e. d.1 (chars_of_word w bs word e))

-- each is such a word
abbrev pub AreWords : List (List ℕ) → Type 0
AreWords [] = Unit {0}
AreWords (w ∷ ws) = IsWord w × AreWords ws

pub ascii_words : (ws : List (List ℕ)) → list_all is_ascii ws ≡ true → AreWords ws
ascii_words [] h = tt
ascii_words (w ∷ ws) h = let p = and_parts (is_ascii w) (list_all is_ascii ws) h in (ascii_word w p.0, ascii_words ws p.1)

pub among_chars : (ws : List (List ℕ)) (bs : List ℕ) → AreWords ws → IsUtf8 bs → is_among ws (chars bs) ≡ is_among ws bs
among_chars [] bs words text = refl
among_chars (w ∷ ws) bs words text = λ i. word_chars w bs words.0 text i || among_chars ws bs words.1 text i

-- the text is none of these
abbrev pub IsNoneOf : List (List ℕ) → List ℕ → Type 0
IsNoneOf [] t = Unit {0}
IsNoneOf (w ∷ ws) t = (t ≡ w → ⊥) × IsNoneOf ws t

pub not_among : (ws : List (List ℕ)) (t : List ℕ) → IsNoneOf ws t → is_among ws t ≡ false
not_among [] t h = refl
not_among (w ∷ ws) t h = λ i. false_from_ne_true (bytes_eq w t) (λ e. h.0 (sym ((bytes_eq-Decides w t).0 e))) i || not_among ws t h.1 i

-- the text is another than the word
pub word_other : (w t : List ℕ) → (t ≡ w → ⊥) → bytes_eq t w ≡ false
word_other w t other = false_from_ne_true (bytes_eq t w) (λ e. other ((bytes_eq-Decides t w).0 e))

-- ---- plain scalars with a tag

pub boolean-chars : (bs : List ℕ) → IsUtf8 bs → as_boolean (chars bs) ≡ as_boolean bs
boolean-chars bs text =
    let same : (ws : List (List ℕ)) → list_all is_ascii ws ≡ true → is_among ws (chars bs) ≡ is_among ws bs = λ ws h. among_chars ws bs (ascii_words ws h) text in
    rw (same true_words refl, same false_words refl) refl

pub no_boolean : (t : List ℕ) → IsNoneOf true_words t → IsNoneOf false_words t → bad_value ≡ as_boolean t
no_boolean t neither nor = sym (rw (not_among true_words t neither, not_among false_words t nor) refl)

abbrev null_texts : List (List ℕ)
null_texts = codes "~" ∷ codes "null" ∷ []

pub null-chars : (bs : List ℕ) → IsUtf8 bs → as_null (chars bs) ≡ as_null bs
null-chars bs text = rw (among_chars null_texts bs (ascii_words null_texts refl) text) refl

pub no_null : (t : List ℕ) → IsNoneOf null_texts t → bad_value ≡ as_null t
no_null t neither = sym (rw (not_among null_texts t neither) refl)

-- the suffix by its bytes
pub name-chars : (bs text : List ℕ) → IsUtf8 bs → by_name (chars bs) text ≡ by_name bs text
name-chars bs text utf8 =
    let same : (w : List ℕ) → is_ascii w ≡ true → bytes_eq (chars bs) w ≡ bytes_eq bs w = λ w h. chars_word w bs (ascii_word w h) utf8 in
    rw (same (codes "bool") refl, same (codes "int") refl, same (codes "float") refl, same (codes "null") refl) refl

pub other_name : (t text : List ℕ) → IsNoneOf (codes "bool" ∷ codes "int" ∷ codes "float" ∷ codes "null" ∷ []) t → string text ≡ by_name t text
other_name t text other =
    sym (rw (word_other _ t other.0, word_other _ t other.1.0, word_other _ t other.1.1.0, word_other _ t other.1.1.1.0) refl)

-- the code's test whether a handle is not that of the core schema
core_test : (tag : Code) (handle : List ℕ) (other : Bool) → handle ≡ string_bytes tag.handle → other ≡ not (bytes_eq handle core_prefix)
    → bytes_eq (string_chars tag.handle) core_prefix ≡ not other
unfolding string_chars
core_test tag handle other e is =
    chars_word core_prefix (string_bytes tag.handle) (ascii_word core_prefix refl) (IsUtf8-string_bytes tag.handle)
    ∙ by (bytes_eq (string_bytes tag.handle) core_prefix) other (is ∙ ap (λ h. not (bytes_eq h core_prefix)) e)
  where
    by : (b d : Bool) → d ≡ not b → b ≡ not d
    by b d e = grind arith

-- a handle that is not that of the core schema
pub other_tag : (tag : Code) (handle text : List ℕ) (other : Bool) → handle ≡ string_bytes tag.handle → other ≡ not (bytes_eq handle core_prefix)
    → other ≡ true → string text ≡ tagged_tree (tag_of tag) text
other_tag tag handle text other e is so =
    let b = core_test tag handle other e is ∙ ap not so in
    sym (λ i. if b i then by_name (string_chars tag.suffix) text else string text)

-- the handle of the core schema, and this suffix
pub core_tag : (tag : Code) {handle suffix word : List ℕ} {other : Bool} (text : List ℕ) → handle ≡ string_bytes tag.handle → other ≡ not (bytes_eq handle core_prefix)
    → other ≡ false → suffix ≡ string_bytes tag.suffix → suffix ≡ word → tagged_tree (tag_of tag) text ≡ by_name word text
unfolding string_chars
core_tag tag {handle} {other = other} text e is so s w =
    let b = core_test tag handle other e is ∙ ap not so in
    (λ i. if b i then by_name (string_chars tag.suffix) text else string text)
    ∙ name-chars (string_bytes tag.suffix) text (IsUtf8-string_bytes tag.suffix) ∙ ap (λ n. by_name n text) (sym s ∙ w)

-- ---- the tag `float`, by the bytes of the text

decimal_word : (t : List ℕ) → is_decimal t ≡ true → IsWord t
decimal_word t h =
    let low : (c : ℕ) → is_real_character c ≡ true → nat_lt c 128 ≡ true = λ c h. grind (arith, nat_tests) in
    ascii_word t (list_all-more is_real_character (λ c. nat_lt c 128) low t (decimal-characters t h))

same_test : (a b : Bool) → (a ≡ true → b ≡ true) → (b ≡ true → a ≡ true) → a ≡ b
same_test a b f g = grind (arith, nat_tests)

decimal-chars : (bs : List ℕ) → IsUtf8 bs → is_decimal (chars bs) ≡ is_decimal bs
decimal-chars bs utf8 =
    same_test (is_decimal (chars bs)) (is_decimal bs)
    (λ h. ap is_decimal (bytes_of_word (chars bs) bs (decimal_word (chars bs) h) utf8 refl) ∙ h)
    (λ h. ap is_decimal (chars_of_word bs bs (decimal_word bs h) refl) ∙ h)

among_all : (test : List ℕ → Bool) (ws : List (List ℕ)) (t : List ℕ) → list_all test ws ≡ true → is_among ws t ≡ true → test t ≡ true
among_all test [] t h e = absurd (false≢true e)
among_all test (w ∷ ws) t h e = by (λ f. among_all test ws t (and_parts (test w) (list_all test ws) h).1 f) (or_cases (bytes_eq w t) (is_among ws t) e)
  where
    by : (is_among ws t ≡ true → test t ≡ true) → (bytes_eq w t ≡ true) ⊎ (is_among ws t ≡ true) → test t ≡ true
    by rest (inl f) = ap test (sym ((bytes_eq-Decides w t).0 f)) ∙ (and_parts (test w) (list_all test ws) h).0
    by rest (inr f) = rest f

specials_are_real : list_all is_real_text special_words ≡ true
unfolding typing
specials_are_real = refl

real_or_decimal : (t : List ℕ) → (is_real_text t || is_decimal t) ≡ (is_among special_words t || is_decimal t)
real_or_decimal t =
    by (is_real_text t) (is_among special_words t) (is_decimal t) (real_text-cases t) (among_all is_real_text special_words t specials_are_real)
  where
    by : (a s d : Bool) → (a ≡ true → (s ≡ true) ⊎ (d ≡ true)) → (s ≡ true → a ≡ true) → (a || d) ≡ (s || d)
    by a s d f g = grind (arith, nat_tests)

-- by the bytes of the text
pub real_by_bytes : (bs : List ℕ) → IsUtf8 bs → (is_among special_words bs || is_decimal bs) ≡ (is_real_text (chars bs) || is_decimal (chars bs))
real_by_bytes bs utf8 =
    sym (real_or_decimal (chars bs) ∙ (λ i. among_chars special_words bs (ascii_words special_words refl) utf8 i || decimal-chars bs utf8 i))
