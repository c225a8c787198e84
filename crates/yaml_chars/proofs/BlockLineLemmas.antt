-- Lemmas about keys, values and other scalars of one line that are known to come.
use Rattle.std.proofs.lemmas.List.{take_more}
use Rattle.yaml_chars.proofs.Common.{[], ap, append_assoc, ap₂, AreSimpleUpTo, arith, begin, Bool, chars, chars-IsAscii, drop, drop_more, Ends, EndsKey, EndsLine, false, Fills, get_or-append-add, get_or-drop, get_or-take, get_or_append_left, GivesPart, halts_simple, HasNoNul, indented, inl, inr, is_alphanumeric, is_simple, IsCharBoundary, IsCharBoundary-after_ascii, IsSimpleText, IsTextUpTo, IsUtf8, length, length-append, length-drop, length-take-le, List, nat_lt, nat_tests, opens_simple, Pulled, Reads, refl, slice_index, subst, suc, sym, take, TakesKey, TakesLine, true, zero, ℕ, ◌&&◌, ◌++◌, ◌+◌, ◌-◌, ◌<◌, ◌==◌, ◌||◌, ◌∙◌, ◌∷◌, ◌≡◌, ◌≢◌, ◌≤◌}
use Rattle.yaml_chars.specs.declared.block_line.LineKind.{LineKind}
use Rattle.yaml_chars.specs.declared.block_line.LineKind.TheVariants.{Key, Value, Node}
use Rattle.yaml_chars.proofs.WindowViewLemmas.{Fills-given, Reads-given, Reads-map, view}
use Rattle.yaml_chars.proofs.WordsLemmas.{ascii_of}

-- ---- simple bytes

halts_is_simple : (c : ℕ) → halts_simple c ≡ false → is_simple c ≡ true
unfolding is_simple
halts_is_simple c h = grind (arith, nat_tests)

-- an ASCII character but NUL
abbrev pub IsPlain : ℕ → Type 0
IsPlain c = (c < 128) × (c ≢ 0)

plain_simple : (c : ℕ) → is_simple c ≡ true → IsPlain c
unfolding is_simple
plain_simple c h = (grind (arith, nat_tests), λ e. grind (arith, nat_tests))

plain_blank : (c : ℕ) → ((c == 32) || (c == 10)) ≡ true → IsPlain c
plain_blank c h = (grind (arith, nat_tests), λ e. grind (arith, nat_tests))

plain_visible : (c : ℕ) → (nat_lt 32 c && nat_lt c 127) ≡ true → IsPlain c
plain_visible c h = (grind (arith, nat_tests), λ e. grind (arith, nat_tests))

pub simple_further : (bs : List ℕ) (at n : ℕ) → AreSimpleUpTo bs at → at + 16 < length bs → n ≤ 16
    → ((k : ℕ) → k < n → halts_simple (slice_index bs (at + k)) ≡ false) → AreSimpleUpTo bs (at + n)
simple_further bs at n so room few go = record {
  within = omega (arith, room, few);
  inner = λ k h. let same : at ≤ k → at + (k - at) ≡ k = λ l. omega arith in grind (arith, so.inner k, go (k - at), halts_is_simple);
}

-- what a text may begin with is simple
opens_is_simple : (c : ℕ) → opens_simple c ≡ true → is_simple c ≡ true
unfolding is_simple opens_simple is_alphanumeric
opens_is_simple c h = grind (arith, nat_tests)

pub space_is_simple : (c : ℕ) → c ≡ 32 → is_simple c ≡ true
unfolding is_simple
space_is_simple c e = grind (arith, nat_tests)

-- ---- what is held, and the bytes after it

after_at : (held bs : List ℕ) (n k : ℕ) → k < n → slice_index (held ++ take n bs) (length held + k) ≡ slice_index bs k
after_at held bs n k h = get_or-append-add held (take n bs) k 0 ∙ get_or-take n bs k 0 h

whole_length : (held bs : List ℕ) (n : ℕ) → n ≤ length bs → length (held ++ take n bs) ≡ length held + n
whole_length held bs n h = length-append held (take n bs) ∙ ap (λ m. length held + m) (length-take-le n bs h)

-- a text begins with what is held from a place on, and goes on with the first bytes
pub text_ends : (held bs : List ℕ) (from n : ℕ) → AreSimpleUpTo bs n → from ≤ length held → from < length held + n
    → opens_simple (slice_index (held ++ take n bs) from) ≡ true
    → ((k : ℕ) → from + 1 ≤ k → k < length held → is_simple (slice_index held k) ≡ true)
    → ((k : ℕ) → k + 1 ≡ length held + n → slice_index (held ++ take n bs) k ≢ 32) → IsTextUpTo held from bs n
text_ends held bs from n so begun some first after last = record {
  within = so.within;
  begun = begun;
  bytes = so.inner;
  simple = record {
    some = omega (arith, size);
    first = let here : from + 0 ≡ from = omega arith in rw (get_or-drop from (held ++ take n bs) 0 0, here) first;
    inner = λ k h. rw (get_or-drop from (held ++ take n bs) k 0) (simple (from + k) (omega arith) (omega (arith, size)));
    last = λ k h. rw (get_or-drop from (held ++ take n bs) k 0) (last (from + k) (omega (arith, size, some)));
  };
}
  where
    size : length (drop from (held ++ take n bs)) ≡ length held + n - from
    size = length-drop from (held ++ take n bs) ∙ ap (λ m. m - from) (whole_length held bs n so.within)

    simple : (k : ℕ) → from ≤ k → k < length held + n → is_simple (slice_index (held ++ take n bs) k) ≡ true
    simple k a b =
        let same : length held ≤ k → length held + (k - length held) ≡ k = λ l. omega arith in
        let beyond = after_at held bs n (k - length held) in
        grind (arith, opens_is_simple, get_or_append_left held (take n bs) 0 k, beyond, so.inner (k - length held), after k)

-- ---- the bytes of a part

-- a text's bytes, a mark, spaces, and a character after them
pub record Bytes (mark from : ℕ) (held bs : List ℕ) (n spaces : ℕ) : Type 0 where
  pub text : IsTextUpTo held from bs n
  pub within : n + 1 + spaces < length bs
  pub marked : slice_index bs n ≡ mark
  pub plain : IsPlain mark
  pub blank : (k : ℕ) → k < spaces → slice_index bs (n + 1 + k) ≡ 32
  pub next : IsPlain (slice_index bs (n + 1 + spaces))

key_bytes : (held bs : List ℕ) (n spaces : ℕ) → EndsKey held bs n × (spaces ≡ 0) → Bytes 58 0 held bs n spaces
key_bytes held bs n spaces e = let key = e.0 in record {
  text = key.text;
  within = omega (arith, key.within);
  marked = key.colon;
  plain = (omega arith, λ z. absurd (omega arith));
  blank = λ k l. absurd (omega arith);
  next = let same : n + 1 ≡ n + 1 + spaces = omega arith in subst (λ i. IsPlain (slice_index bs i)) same (plain_blank _ key.next);
}

line_bytes : (from limit : ℕ) (held bs : List ℕ) (n spaces : ℕ) → EndsLine from limit held bs n spaces → Bytes 10 from held bs n spaces
line_bytes from limit held bs n spaces e = record {
  text = e.text;
  within = e.within;
  marked = e.lf;
  plain = (omega arith, λ z. absurd (omega arith));
  blank = e.blank;
  next = plain_visible _ e.next;
}

pub part_bytes : (part : LineKind) (held bs : List ℕ) (n spaces : ℕ) → Ends part held bs n spaces
    → (mark : ℕ) × Bytes mark (begin part) held bs n spaces
part_bytes Key held bs n spaces e = (58, key_bytes held bs n spaces e)
part_bytes (Value limit) held bs n spaces e = (10, line_bytes 1 limit held bs n spaces e.1)
part_bytes (Node limit) held bs n spaces (inl e) = (58, key_bytes held bs n spaces e)
part_bytes (Node limit) held bs n spaces (inr e) = (10, line_bytes 0 limit held bs n spaces e)

-- a node with no line feed after its text is a key
pub node_key : (limit : ℕ) (held bs : List ℕ) (n spaces : ℕ) → Ends (Node limit) held bs n spaces → (slice_index bs n == 10) ≡ false → EndsKey held bs n × (spaces ≡ 0)
node_key limit held bs n a b d = grind arith

-- and one with a line feed there is none
pub node_line : (limit : ℕ) (held bs : List ℕ) (n spaces : ℕ) → Ends (Node limit) held bs n spaces → (slice_index bs n == 10) ≡ true → EndsLine 0 limit held bs n spaces
node_line limit held bs n a b d = grind arith

-- spaces before a text
indented_after : (bs b : List ℕ) (i spaces : ℕ) → i + spaces ≤ length bs → ((k : ℕ) → k < spaces → slice_index bs (i + k) ≡ 32)
    → take (i + spaces) bs ++ b ≡ take i bs ++ indented spaces b
indented_after bs b i zero within blank = let same : i + 0 ≡ i = omega arith in ap (λ m. take m bs ++ b) same
indented_after bs b i (suc spaces) within blank =
    let same : i + suc spaces ≡ i + 1 + spaces = omega arith in
    let none : i ≡ i + 0 = omega arith in
    let first : slice_index bs i ≡ 32 = ap (slice_index bs) none ∙ blank 0 (omega arith) in
    let later = λ (k : ℕ) (h : k < spaces).
    let next : i + 1 + k ≡ i + suc k = omega arith in ap (slice_index bs) next ∙ blank (suc k) (omega (arith, h)) in
    ap (λ m. take m bs ++ b) same ∙ indented_after bs b (i + 1) spaces (omega (arith, within)) later
    ∙ ap (λ x. x ++ indented spaces b) (take_more bs i 0 (omega (arith, within)) ∙ ap (λ x. take i bs ++ x ∷ []) first)
    ∙ append_assoc (take i bs) (32 ∷ []) (indented spaces b)

indented_append : (n : ℕ) (a b : List ℕ) → indented n a ++ b ≡ indented n (a ++ b)
indented_append zero a b = refl
indented_append (suc n) a b = ap (λ x. 32 ∷ x) (indented_append n a b)

module _ {mark from : ℕ} {held bs : List ℕ} {n spaces : ℕ} (bytes : Bytes mark from held bs n spaces) where
  plain_at : (k : ℕ) → k < n + 1 + spaces + 1 → IsPlain (slice_index bs k)
  plain_at k h =
      let same : n < k → n + 1 + (k - (n + 1)) ≡ k = λ l. omega arith in
      let text = bytes.text.bytes k in
      let blank = bytes.blank (k - (n + 1)) in
      (grind (arith, plain_simple, text, blank), λ e. grind (arith, plain_simple, text, blank))

  pub part_cut : IsUtf8 bs → IsCharBoundary bs (n + 1 + spaces + 1)
  part_cut u = IsCharBoundary-after_ascii bs (n + 1 + spaces) u bytes.within bytes.next.0

  pub chars_front : (m : ℕ) → m ≤ n + 1 + spaces + 1 → chars (take m bs) ≡ take m bs
  chars_front m h = chars-IsAscii _ (ascii_of bs m (λ k a l. let plain = plain_at k (omega arith) in plain.0))

  no_nul_front : HasNoNul (take (n + 1 + spaces + 1) bs)
  no_nul_front k l =
      let low : k < n + 1 + spaces + 1 = omega (arith, length-take-le (n + 1 + spaces + 1) bs (omega (arith, bytes.within)), l) in
      let plain = plain_at k low in rw (get_or-take (n + 1 + spaces + 1) bs k 0 low) plain.1

  whole_front : take (n + 1 + spaces + 1) bs ≡ take n bs ++ mark ∷ indented spaces (slice_index bs (n + 1 + spaces) ∷ [])
  whole_front =
      take_more bs (n + 1 + spaces) 0 bytes.within ∙ indented_after bs (slice_index bs (n + 1 + spaces) ∷ []) (n + 1) spaces
      (omega (arith, bytes.within)) bytes.blank
      ∙ ap (λ x. x ++ indented spaces (slice_index bs (n + 1 + spaces) ∷ []))
      (take_more bs n 0 (omega (arith, bytes.within)) ∙ ap (λ x. take n bs ++ x ∷ []) bytes.marked)
      ∙ append_assoc (take n bs) (mark ∷ []) _

-- ---- a part is taken into a window

module _ {T : Type 0} {part : LineKind} {held : List ℕ} {s new : Pulled T} {n : ℕ} {broken : Bool} {spaces c : ℕ} {text : List ℕ}
    {at line col : ℕ} (fills : Fills s held at line col) (given : GivesPart part held s new n broken spaces c text) where
  module _ (before : List ℕ) (stands : held ++ take n given.known ≡ before ++ text) {mark from : ℕ}
      (bytes : Bytes mark from held given.known n spaces) where
    -- what is read, up to the character after it
    abbrev gone : List ℕ
    gone = before ++ (text ++ mark ∷ indented spaces [])

    split : held ++ take (n + 1 + spaces + 1) given.known ≡ gone ++ c ∷ []
    split =
        ap (λ x. held ++ x) (whole_front bytes) ∙ sym (append_assoc held (take n given.known) _)
        ∙ ap₂ (λ x y. x ++ mark ∷ indented spaces (y ∷ [])) stands (sym given.next) ∙ simp (append_assoc, indented_append)

    sizes : length held + (n + 1 + spaces) ≡ length gone
    sizes =
        omega (
          arith,
          ap length split,
          length-append held (take (n + 1 + spaces + 1) given.known),
          length-append gone (c ∷ []),
          length-take-le (n + 1 + spaces + 1) given.known (omega (arith, bytes.within)),
        )

    lengths : length before + length text ≡ length held + n
    lengths = sym (length-append before text) ∙ ap length (sym stands) ∙ whole_length held given.known n (omega (arith, bytes.within))

    Fills-part : (to row place : ℕ) → to ≡ at + (length held + n + 1 + spaces) → row + place ≤ to + 1 → place ≤ to
        → Fills new (c ∷ []) to row place
    Fills-part to row place end lines cols =
        Fills-given fills given.gives (fills.going given.going) gone (c ∷ []) split to row place (omega (arith, end, sizes))
        (no_nul_front bytes) lines cols

    Reads-part : (to row place h k : ℕ) → to ≡ at + (length held + n + 1 + spaces)
        → Reads (view s at line col h) (view new to row place k) (λ a b.
        (a ≡ before ++ (text ++ mark ∷ indented spaces b)) × (slice_index b 0 ≡ slice_index given.known (n + 1 + spaces)))
    Reads-part to row place h k end = Reads-map _ _
        (Reads-given fills given.gives (fills.going given.going) gone (c ∷ []) split to row place h k (omega (arith, end, sizes))) (λ a b e.
        (e.0 ∙ simp (append_assoc, indented_append), ap (λ x. slice_index x 0) e.2 ∙ given.next))

  -- a key
  module _ (stands : held ++ take n given.known ≡ text) (ends : EndsKey held given.known n × (spaces ≡ 0)) where
    bytes_key : Bytes 58 0 held given.known n spaces
    bytes_key = key_bytes held given.known n spaces ends

    pub Fills-key : Fills new (c ∷ []) (at + (length held + n + 1)) line (col + (length held + n + 1))
    Fills-key = Fills-part [] stands bytes_key _ line _ (omega (arith, ends.1)) (omega (arith, fills.lines)) (omega (arith, fills.cols))

    pub takes_key : (h k : ℕ) → TakesKey (view s at line col h)
        (view new (at + (length held + n + 1)) line (col + (length held + n + 1)) k) text
    takes_key h k =
        let key = ends.0 in
        let up_to = key.text in
        let long = lengths [] stands bytes_key in
        let none : n + 1 + spaces ≡ n + 1 = omega (arith, ends.1) in
        record {
          reads = Reads-map _ _ (Reads-part [] stands bytes_key _ line _ h k (omega (arith, ends.1))) (λ a b e. (
            e.0 ∙ ap (λ m. text ++ 58 ∷ indented m b) ends.1,
            subst (λ x. ((x == 32) || (x == 10)) ≡ true) (sym (e.1 ∙ ap (slice_index given.known) none)) key.next,
          ));
          simple = subst IsSimpleText stands up_to.simple;
          short = omega (arith, long, key.short);
          at = omega (arith, long);
          line = refl;
          col = omega (arith, long);
        }

  -- a text, a line feed and the next line's spaces
  module _ (before : List ℕ) {limit : ℕ} (stands : held ++ take n given.known ≡ before ++ text)
      (ends : EndsLine (begin part) limit held given.known n spaces) where
    bytes_line : Bytes 10 (begin part) held given.known n spaces
    bytes_line = line_bytes (begin part) limit held given.known n spaces ends

    simple_line : IsSimpleText text
    simple_line = let up_to = ends.text in subst IsSimpleText (sym given.joined) up_to.simple

    pub Fills-line : Fills new (c ∷ []) (at + (length held + n + 1 + spaces)) (line + 1) spaces
    Fills-line = Fills-part before stands bytes_line _ (line + 1) spaces refl
        (omega (arith, fills.lines, lengths before stands bytes_line, simple_line.some)) (omega arith)

    pub takes_line : (h k : ℕ) → TakesLine before limit (view s at line col h)
        (view new (at + (length held + n + 1 + spaces)) (line + 1) spaces k) text
    takes_line h k = record {
      spaces = spaces;
      low = ends.low;
      reads = Reads-map _ _ (Reads-part before stands bytes_line _ (line + 1) spaces h k refl) (λ a b e.
          (e.0, subst (λ x. (nat_lt 32 x && nat_lt x 127) ≡ true) (sym e.1) ends.next));
      simple = simple_line;
      at = omega (arith, lengths before stands bytes_line);
      line = refl;
      col = refl;
    }

-- what is held and the bytes after it are a space and the value
pub value_stands : (limit : ℕ) {T : Type 0} {held : List ℕ} {s new : Pulled T} {n : ℕ} {broken : Bool} {spaces c : ℕ} {text : List ℕ} (given : GivesPart (Value limit) held s new n broken spaces c text)
    → held ++ take n given.known ≡ (32 ∷ []) ++ text
value_stands limit {held = held} {n = n} given =
    let ends = given.ends.1 in
    let up_to = ends.text in
    let whole = held ++ take n given.known in
    drop_more whole 0 0 (omega (arith, whole_length held given.known n up_to.within, up_to.begun))
    ∙ ap₂ (λ x y. x ∷ y) (get_or_append_left held (take n given.known) 0 0 (omega (arith, up_to.begun)) ∙ given.ends.0) (sym given.joined)
