-- Lemmas about characters of a line that are known to come.
use Rattle.std.specs.Str.{chars}
use Rattle.std.specs.Iterator.{size}
use Rattle.std.specs.Prelude.{if◌then◌else◌}
use Rattle.yaml_chars.specs.Words.{Gives}
use Rattle.std.proofs.lemmas.List.{get_or_past, length-take, nil_from_length}
use Rattle.yaml_chars.proofs.WindowViewLemmas.{Fills-given, reaches, Reads-given, Reads-map, view}
use Rattle.yaml_chars.specs.InMemory.{text_rest}
use Rattle.yaml_chars.specs.declared.characters.TextInMemory.{TextInMemory}
use Rattle.yaml_chars.proofs.Common.{[], and_parts, ap, append-nil, append_assoc, are_words, AreAscii, AreWordsBetween, AreWordsUpTo, arith, begins_byte, begins_word, Bool, byte_from_char, cases_lt, char_from_byte, chars_past_char, chars_steps, Count, drop, encode_ascii, encodes-chars, EndsAtAscii, false, Fills, GivesWords, Goes, halts, halts_line, HasNoNul, inl, inr, is_blank, is_break, is_flow, is_in_words, is_word_byte, IsAscii, IsCharBoundary, IsCharBoundary-after_ascii, IsCharBoundary-before_ascii, IsCharBoundary-end, IsCharBoundary-start, IsFinite, IsUtf8, IsUtf8-past_char, IsUtf8-take, IsWordBetween, IterStands, LanesGo, len_utf8_bounds, length, length-append, length-encode, length-take-le, Line, List, nat_lt, nat_tests, Option, Plain, Position, Pulled, Quoted, Reads, refl, Run, slice_get, slice_index, slice_range, Some, stops, stops_beyond, stops_byte, subst, suc, sym, take, take-append-drop, TakesWords, true, Yields, zero, ℕ, ◌&&◌, ◌++◌, ◌+◌, ◌-◌, ◌<◌, ◌||◌, ◌∙◌, ◌∷◌, ◌≡◌, ◌≢◌, ◌≤◌, ◌⊎◌, get_or-append-add, get_or-take}
use lib.Utf8.{encode, encodes}

-- ---- bytes

pub ordinary_in_line : (b : ℕ) → 32 ≤ b → stops_byte Line b ≡ false
unfolding stops_byte stops is_break
ordinary_in_line b h = grind (arith, nat_tests)

pub ordinary_in_quotes : (quote b : ℕ) → 32 < b → b ≢ quote → b ≢ 92 → quote < 128 → stops_byte (Quoted quote) b ≡ false
unfolding stops_byte stops is_break is_blank
ordinary_in_quotes quote b h q e low = grind (arith, nat_tests)

pub ascii_in_quotes : (quote b : ℕ) → 32 < b → b ≢ quote → b ≢ 92 → b < 128 → stops_byte (Quoted quote) b ≡ false
unfolding stops_byte stops is_break is_blank
ascii_in_quotes quote b h q e low = grind (arith, nat_tests)

pub ordinary_in_plain : (flow : Bool) (b : ℕ) → 32 < b → b ≢ 58 → (flow && is_flow b) ≡ false → stops_byte (Plain flow) b ≡ false
unfolding stops_byte stops is_break is_blank
ordinary_in_plain flow b h e f = grind (arith, nat_tests)

pub begins_in_line : (b : ℕ) → stops_byte Line b ≡ false → begins_byte Line b ≡ true
unfolding begins_byte begins_word stops_byte
begins_in_line b h = grind arith

pub begins_in_quotes : (quote b : ℕ) → stops_byte (Quoted quote) b ≡ false → begins_byte (Quoted quote) b ≡ true
unfolding begins_byte begins_word stops_byte
begins_in_quotes quote b h = grind arith

pub begins_in_plain : (flow : Bool) (b : ℕ) → stops_byte (Plain true) b ≡ false → b ≢ 35 → b ≢ 45 → begins_byte (Plain flow) b ≡ true
unfolding begins_byte begins_word stops_byte
begins_in_plain flow b h e f = grind (arith, nat_tests)

pub flow_low : (b : ℕ) → is_flow b ≡ true → b < 128
unfolding is_flow
flow_low b h = grind (arith, nat_tests)

pub begins_goes : (run : Run) (b : ℕ) → begins_word run b ≡ true → stops run b ≡ false
unfolding begins_word stops is_break is_blank is_flow
begins_goes a b h = grind arith

-- what a word begins with does not end it
byte_begins_goes : (run : Run) (b : ℕ) → begins_byte run b ≡ true → stops_byte run b ≡ false
unfolding begins_byte stops_byte
byte_begins_goes run b h = grind (arith, begins_goes run b)

-- ---- a text in memory gives its characters

abbrev Steps : TextInMemory → Option ℕ → TextInMemory → Type 0
Steps s r t = chars_steps s.chars r t.chars

step : (c : ℕ) (s t : TextInMemory) → IsUtf8 (text_rest s) → text_rest s ≡ encode c ++ text_rest t → Steps s (Some c) t
step c s t u e = (e, (λ l. refl), sym (ap (λ x. slice_get x 0) (chars_past_char (text_rest s) (text_rest t) c u e)))

encode_some : (c : ℕ) (rest : List ℕ) → 0 < length (encode c ++ rest)
encode_some c rest = omega (arith, length-append (encode c) rest, length-encode c, (len_utf8_bounds c).0)

gives_chars : (cs post : List ℕ) (s t : TextInMemory) → 0 < length (encodes cs) → IsUtf8 (text_rest s) → text_rest s ≡ encodes cs ++ post
    → text_rest t ≡ post
    → Yields Steps s cs t
gives_chars [] post s t some u e rest = absurd (omega (arith, some))
gives_chars (c ∷ []) post s t some u e rest =
    (t, step c s t u (e ∙ append_assoc (encode c) [] post ∙ ap (λ x. encode c ++ x) (sym rest)), refl)
gives_chars (c ∷ d ∷ cs) post s t some u e rest =
    let f = e ∙ append_assoc (encode c) (encodes (d ∷ cs)) post in
    let next : TextInMemory = record {
      chars = record {
        rest =
            record { ref_ptr = s.chars.rest.ref_ptr; now = encodes (d ∷ cs) ++ post };
      };
    } in (
      next,
      step c s next u f,
      gives_chars (d ∷ cs) post next t (encode_some d (encodes cs))
          (IsUtf8-past_char (text_rest s) _ c u f) refl rest,
    )

-- the characters of the first bytes
pub gives_front : (s t : TextInMemory) (n : ℕ) → n ≢ 0 → n ≤ length (text_rest s) → IsUtf8 (text_rest s) → IsCharBoundary (text_rest s) n
    → text_rest t ≡ drop n (text_rest s) → Yields Steps s (chars (take n (text_rest s))) t
gives_front s t n some within u cut rest =
    let same = encodes-chars _ (IsUtf8-take _ n u cut) in
    gives_chars _ (drop n (text_rest s)) s t (omega (arith, some, ap length same, length-take-le n (text_rest s) within)) u
    (sym (ap (λ x. x ++ drop n (text_rest s)) same ∙ take-append-drop n (text_rest s))) rest

goes_in_words : (run : Run) (c d : ℕ) → stops_byte run c ≡ false → is_word_byte run c d ≡ true
goes_in_words run c d h = rw h refl

blank_in_words : (run : Run) (c d : ℕ) → c ≡ 32 → begins_byte run d ≡ true → is_word_byte run c d ≡ true
unfolding is_blank
blank_in_words run c d e h = grind arith

-- ---- words

pub ascii_of : (bs : List ℕ) (n : ℕ) → AreAscii bs 0 n → IsAscii (take n bs)
ascii_of bs n low i = elim (cases_lt i n) [
  | inl h ↦ rw (get_or-take n bs i 0 h) (low i (omega arith) h)
  | inr h ↦ rw (get_or_past (take n bs) i 0 (omega (arith, length-take n bs))) (omega arith)
]

-- a byte of words goes on, or is a blank
word_byte_low : (run : Run) (b d : ℕ) → stops_beyond run ≡ true → is_word_byte run b d ≡ true → b < 128
unfolding stops_byte is_blank
word_byte_low run b d beyond h = grind arith

-- where words end, the text may be cut
pub boundary_of : (run : Run) (bs : List ℕ) (n : ℕ) → IsUtf8 bs → AreWordsUpTo run bs n → EndsAtAscii run bs n → IsCharBoundary bs n
boundary_of run bs zero u words ends = IsCharBoundary-start bs u
boundary_of run bs (suc m) u words ends = elim (cases_lt (suc m) (length bs)) [
  | inr outside ↦ let same : length bs ≡ suc m = omega (arith, words.within) in rw (← same) (IsCharBoundary-end bs)
  | inl inside ↦
      let next : m + 1 ≡ suc m = omega arith in
      let low = goes_in_words run (slice_index bs m) 0 (words.last m next) in
      let after = IsCharBoundary-after_ascii bs m u (omega arith) in
      grind (arith, word_byte_low run (slice_index bs m) 0, low, rw next at after, IsCharBoundary-before_ascii bs (suc m) inside, ends)
]

-- ---- the characters of the bytes of words

-- all of them, and those after the first ones
words_taken : (run : Run) (bs : List ℕ) (n : ℕ) → AreWordsUpTo run bs n → AreWordsUpTo run (take n bs) (length (take n bs))
words_taken run bs n words = rw (length-take-le n bs words.within) record {
  within = omega (arith, length-take-le n bs words.within);
  inner = λ k h. rw (get_or-take n bs k 0 (omega arith), get_or-take n bs (k + 1) 0 h) (words.inner k h);
  last = λ k h. rw (get_or-take n bs k 0 (omega arith)) (words.last k h);
}

words_after : (run : Run) (xs ys : List ℕ) → AreWordsUpTo run (xs ++ ys) (length (xs ++ ys)) → AreWordsUpTo run ys (length ys)
words_after run xs ys words =
    let size = length-append xs ys in
    let next = λ (k : ℕ). let same : length xs + (k + 1) ≡ length xs + k + 1 = omega arith in same in
    record {
      within = omega arith;
      inner = λ k h. rw (← get_or-append-add xs ys k 0, ← get_or-append-add xs ys (k + 1) 0, next k)
          (words.inner (length xs + k) (omega (arith, size)));
      last = λ k h. rw (← get_or-append-add xs ys k 0) (words.last (length xs + k) (omega (arith, size)));
    }

-- a character outside ASCII begins with a byte outside it
lead_high : (c : ℕ) (rest : List ℕ) → 128 ≤ c → 128 ≤ slice_index (encode c ++ rest) 0
lead_high c rest high = grind (arith, char_from_byte (encode c ++ rest) rest c refl, encode_some c rest)

begins_of_high : (run : Run) (c : ℕ) → 128 ≤ c → stops_beyond run ≡ false → begins_word run c ≡ true
unfolding begins_word stops is_break is_blank is_flow
begins_of_high a c b h = grind arith

-- a blank that goes on in bytes goes on in characters
blank_of_bytes : (run : Run) (cs : List ℕ) → begins_byte run (slice_index (encodes cs) 0) ≡ true → begins_word run (slice_index cs 0) ≡ true
unfolding begins_byte
blank_of_bytes run [] h = h
blank_of_bytes run (d ∷ ds) h = elim (cases_lt d 128) [
  | inl low ↦ let same : slice_index (encode d ++ encodes ds) 0 ≡ d = byte_from_char _ (encodes ds) d refl low in grind (arith, nat_tests)
  | inr high ↦ grind (arith, nat_tests, lead_high d (encodes ds) high, begins_of_high run d high)
]

in_words_of : (run : Run) (c : ℕ) (cs : List ℕ)
    → is_word_byte run (slice_index (encode c ++ encodes cs) 0) (slice_index (encode c ++ encodes cs) 1) ≡ true
    → is_in_words run c (slice_index cs 0) ≡ true
unfolding stops_byte
in_words_of run c cs h = elim (cases_lt c 128) [
  | inl low ↦
      let g = rw (ap (λ x. x ++ encodes cs) (encode_ascii c low)) at h in
      let same : nat_lt c 128 ≡ true = grind (arith, nat_tests) in
      grind (arith, g, blank_of_bytes run cs)
  | inr high ↦ grind (arith, lead_high c (encodes cs) high, word_byte_low, begins_of_high run c high, begins_goes run c)
]

chars_of_bytes : (run : Run) (cs : List ℕ) → AreWordsUpTo run (encodes cs) (length (encodes cs)) → are_words run cs ≡ true
chars_of_bytes run [] words = refl
chars_of_bytes run (c ∷ cs) words =
    rw (in_words_of run c cs first, chars_of_bytes run cs (words_after run (encode c) (encodes cs) words)) refl
  where
    first : is_word_byte run (slice_index (encode c ++ encodes cs) 0) (slice_index (encode c ++ encodes cs) 1) ≡ true
    first = elim (cases_lt 1 (length (encode c ++ encodes cs)))
        [ inl more ↦ words.inner 0 more | inr one ↦ goes_in_words run _ _ (words.last 0 (omega (arith, encode_some c (encodes cs)))) ]

-- the characters of the first bytes are words
pub words_of : (run : Run) (bs : List ℕ) (n : ℕ) → IsUtf8 bs → AreWordsUpTo run bs n → EndsAtAscii run bs n → are_words run (chars (take n bs)) ≡ true
words_of run bs n u words ends =
    chars_of_bytes run (chars (take n bs)) (rw (encodes-chars _ (IsUtf8-take bs n u (boundary_of run bs n u words ends)))
    (words_taken run bs n words))

-- ---- words are found

pub words_more : (run : Run) (bs : List ℕ) (n to : ℕ) → AreWordsUpTo run bs n → n + 1 < length bs → slice_index bs n ≡ 32
    → begins_byte run (slice_index bs (n + 1)) ≡ true → IsWordBetween run bs (n + 2) to → AreWordsUpTo run bs to
words_more run bs n to words h blank begins w = record {
  within = w.within;
  inner = λ k a. grind (arith, words.inner k, words.last k, w.inner k, goes_in_words, blank_in_words, byte_begins_goes);
  last = λ k a. grind (arith, w.inner k, w.after, byte_begins_goes);
}

-- a lone blank and the byte after it are ASCII too
pub ascii_word : (bs : List ℕ) (n to : ℕ) → AreAscii bs 0 n → slice_index bs n ≡ 32 → slice_index bs (n + 1) < 128 → AreAscii bs (n + 2) to → AreAscii bs 0 to
ascii_word bs n to low blank next more = grind arith

-- ---- sixteen bytes at a time

pub goes_plain : (c d : ℕ) → halts 58 58 (c, d) ≡ false → Goes (Plain false) c d
unfolding begins_byte begins_word stops_byte stops is_break is_blank is_flow
goes_plain c d h = record { word = λ apart. grind (arith, nat_tests); blank = λ e. grind (arith, nat_tests) }

pub goes_quoted : (quote c d : ℕ) → quote < 40 → halts quote 92 (c, d) ≡ false → Goes (Quoted quote) c d
unfolding begins_byte begins_word stops_byte stops is_break is_blank
goes_quoted quote c d small h = record { word = λ apart. grind (arith, nat_tests); blank = λ e. grind (arith, nat_tests) }

pub goes_line : (c d : ℕ) → halts_line c ≡ false → Goes Line c d
goes_line c d h = let goes = ordinary_in_line c (grind (arith, nat_tests)) in
    record { word = λ apart. goes; blank = λ e. goes_in_words Line c d goes }

-- a character before a blank is of a word
before_blank : (run : Run) (c : ℕ) → is_word_byte run c 32 ≡ true → stops_byte run c ≡ false
unfolding begins_byte begins_word stops_byte stops is_break is_blank
before_blank a c h = grind (arith, nat_tests)

-- where the last lane is no blank, they are words; where it is one, those before it are
pub lanes_words : (run : Run) (bs : List ℕ) (at n to : ℕ) → at + 16 < length bs → n ≤ 16 → LanesGo run bs at n
    → ((to ≡ n) × (0 < n → slice_index bs (at + n - 1) ≢ 32)) ⊎ ((to + 1 ≡ n) × (slice_index bs (at + n - 1) ≡ 32))
    → AreWordsBetween run bs at (at + to)
lanes_words run bs at n to room few go end = record {
  after = omega arith;
  within = omega (arith, room, few, short);
  inner = λ j a b. in_words j a (omega (arith, b, short));
  last = λ j a b.
      let g = goes j a (omega (arith, b, short)) in
      grind (arith, end, g.word, in_words j a, before_blank run (slice_index bs j));
}
  where
    short : to ≤ n
    short = elim end [ inl e ↦ omega (arith, e.0) | inr e ↦ omega (arith, e.0) ]

    goes : (j : ℕ) → at ≤ j → j < at + n → Goes run (slice_index bs j) (slice_index bs (j + 1))
    goes j a b =
        let here : at + (j - at) ≡ j = omega arith in
        let next : at + 1 + (j - at) ≡ j + 1 = omega arith in
        rw (here, next) at (go (j - at) (omega arith))

    in_words : (j : ℕ) → at ≤ j → j < at + n → is_word_byte run (slice_index bs j) (slice_index bs (j + 1)) ≡ true
    in_words j a b = let g = goes j a b in grind (arith, g.word, g.blank, goes_in_words)

pub words_further : (run : Run) (bs : List ℕ) (n to : ℕ) → AreWordsUpTo run bs n → AreWordsBetween run bs n to → AreWordsUpTo run bs to
words_further run bs n to words more = grind arith

-- ---- whether a byte outside ASCII was met

pub or_parts : (x y : Bool) → (x || y) ≡ false → (x ≡ false) × (y ≡ false)
or_parts a y h = grind arith

pub blocks_ascii : (x y : Bool) (bs : List ℕ) (at n : ℕ) → (x ≡ false → AreAscii bs 0 at)
    → (y ≡ false → (k : ℕ) → k < 16 → slice_index bs (at + k) < 128) → n ≤ 16 → (x || y) ≡ false → AreAscii bs 0 (at + n)
blocks_ascii x y bs at n before here few h k a b =
    let parts = or_parts x y h in
    let same : at ≤ k → at + (k - at) ≡ k = λ l. omega arith in
    grind (arith, before parts.0 k, here parts.1 (k - at))

-- ---- the front of a slice

pub front_range : (n : ℕ) (xs : List ℕ) → slice_range xs 0 n ≡ take n xs
front_range n xs = let same : n - 0 ≡ n = omega arith in ap (λ m. take m xs) same

pub front : {slice text known : List ℕ} (n : ℕ) → slice ≡ slice_range text 0 n → text ≡ known → slice ≡ take n known
front {text = text} n e same = e ∙ front_range n text ∙ ap (take n) same

-- words of a text that is known
module _ (run : Run) {bytes text known : List ℕ} {n : ℕ} (same : bytes ≡ text) (is : text ≡ known) (u : IsUtf8 text)
    (words : AreWordsUpTo run bytes n) (ends : EndsAtAscii run bytes n) where
  pub words_cut : IsCharBoundary text n
  words_cut = boundary_of run text n u (rw same at words) (rw same at ends)

  pub words_cut_known : IsCharBoundary known n
  words_cut_known = rw is at words_cut

  pub words_known : are_words run (chars (take n known)) ≡ true
  words_known = rw is at (words_of run text n u (rw same at words) (rw same at ends))

-- ---- a source gives them

yields_append : {S A : Type 0} (steps : S → Option A → S → Type 0) (xs ys : List A) (s t u : S) → Yields steps s xs t → Yields steps t ys u → Yields steps s (xs ++ ys) u
yields_append steps [] ys s t u e y = subst (λ x. Yields steps x ys u) (sym e) y
yields_append steps (x ∷ xs) ys s t u e y = (e.0, e.1, yields_append steps xs ys e.0 t u e.2 y)

-- the source stands after characters that came, and has given them
module _ {T : Type 0} {can : T → Type 0} {steps : T → Option ℕ → T → Type 0} {left : T → Count} {start : T} {taken : List ℕ} {done : Bool}
    {iter : T} (stands : IterStands can steps left start taken done iter) (going : done ≡ false) (part : List ℕ) {all : List ℕ}
    (whole : all ≡ taken ++ part) (next : T) where
  pub Stands-on : Yields steps iter part next → can next × IsFinite (left next) → IterStands can steps left start all done next
  Stands-on step ready =
      let more = rw (← whole) at (yields_append steps taken part start iter next (stands.here going) step) in
      record { here = λ _. more; ready = λ _. ready; came = record { going = λ _. (next, more); ended = λ h. cc } }

  pub Gives-on : (IsFinite (left iter) → IsFinite (left next) × (size (left next) + length part ≤ size (left iter)))
      → Gives (record { start = start; taken = taken; done = done; left = if done then 0 else size (left iter) })
      (record { start = start; taken = all; done = done; left = if done then 0 else size (left next) }) part
  Gives-on goes = let ready = stands.ready going in let fewer = goes ready.1 in
      record { start = refl; taken = whole; done = refl; none = λ d. cc; left = rw going fewer.1 }

-- no character of words is a NUL
words_some : (run : Run) (c d : ℕ) → is_in_words run c d ≡ true → c ≢ 0
unfolding stops is_break is_blank
words_some a c d h e = grind arith

words_no_nul : (run : Run) (cs : List ℕ) → are_words run cs ≡ true → HasNoNul cs
words_no_nul run [] h k l = absurd (omega (arith, l))
words_no_nul run (c ∷ cs) h zero l = words_some run c _ (and_parts (is_in_words run c (slice_index cs 0)) _ h).0
words_no_nul run (c ∷ cs) h (suc k) l = words_no_nul run cs (and_parts (is_in_words run c (slice_index cs 0)) _ h).1 k (omega (arith, l))

module _ {T : Type 0} {run : Run} {s : Pulled T} {ring : List ℕ} {at line col : ℕ} {new : Pulled T} {n : ℕ} {before after : List ℕ}
    (fills : Fills s ring at line col) (none : length ring ≡ 0) (given : GivesWords run s new n before after) where
  reach : at + length ring ≡ length s.taken
  reach = omega (arith, reaches fills, fills.within)

  split : ring ++ given.part ≡ given.part ++ []
  split = rw (nil_from_length ring none) (sym (append-nil given.part))

  pub Fills-gives : Fills new ring (at + n) line (col + n)
  Fills-gives = rw (nil_from_length ring none) (Fills-given fills given.gives reach given.part [] split (at + n) line (col + n)
      (omega (arith, given.count))
      (words_no_nul run given.part given.words) (omega (arith, fills.lines)) (omega (arith, fills.cols)))

  pub Reads-gives : (h k : ℕ) → Reads (view s at line col h) (view new (at + n) line (col + n) k) (λ a b.
      TakesWords run a b (record { index = at; line = line; col = col }) (record { index = at + n; line = line; col = col + n }) before after)
  Reads-gives h k = Reads-map _ _ (Reads-given fills given.gives reach given.part [] split (at + n) line (col + n) h k
      (omega (arith, given.count))) (λ a b e. record {
        part = given.part;
        split = e.0;
        words = given.words;
        position = λ i. record { index = at + sym given.count i; line = line; col = col + sym given.count i };
        text = given.text;
      })

-- ---- words in two parts

-- a character that no blank may follow may stand before any
last_in_words : (run : Run) (c d : ℕ) → is_in_words run c 0 ≡ true → is_in_words run c d ≡ true
unfolding begins_word stops is_break is_blank is_flow
last_in_words a c d h = grind arith

words_append : (run : Run) (xs ys : List ℕ) → are_words run xs ≡ true → are_words run ys ≡ true → are_words run (xs ++ ys) ≡ true
words_append run [] ys f g = g
words_append run (x ∷ []) ys f g = grind (arith, last_in_words)
words_append run (x ∷ y ∷ xs) ys f g = grind (arith, words_append run (y ∷ xs) ys)

pub takes_then : (run : Run) (a b d : List ℕ) (p q r : Position) (t u v : List ℕ) → TakesWords run a b p q t u → TakesWords run b d q r u v → TakesWords run a d p r t v
takes_then run a b d p q r t u v x y =
    grind (arith, words_append, length-append x.part y.part, append_assoc x.part y.part d, append_assoc t x.part y.part)

pub takes_one : (run : Run) (c : ℕ) (a b : List ℕ) (p q : Position) (t u : List ℕ) → stops run c ≡ false → a ≡ c ∷ b
    → q.index ≡ p.index + 1 → q.line ≡ p.line
    → q.col ≡ p.col + 1 → u ≡ t ++ c ∷ [] → TakesWords run a b p q t u
takes_one run c a b p q t u goes split index line col text = grind arith
