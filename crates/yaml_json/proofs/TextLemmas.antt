-- How a text begins: a character, a word, white space or a run; and what a whole text is.
use Rattle.yaml_json.proofs.ReadCommon.{[], all_pass, all_tested, and_from, and_parts, ap, are_pieces, arith, Blank, blank_character, Bool, chars, chars-append, chars-nil, chars_past_char, drop, drop-append_seam, encode_ascii, encode_utf8_all, encodes-chars, get_or, is_ascii, is_unescaped, IsAsciiFirst, IsCharBoundary, IsCharBoundary-after_ascii, IsFirst, IsGap, IsInside, IsJson, IsJsonText, IsRun, IsUtf8, IsUtf8-from_ascii, IsUtf8-take, IsValue, IsWholeValue, itself, Json, length, length-append, levels, List, list_all, low_at, low_front, nat_tests, nil_from_length, prefix_len, refl, run_boundary, scalars-chars, Skips, spell, spell_gap, stands, sym, TabsBeginLines, take, take-append-drop, take-append_seam, Tree, tree_of, true, ℕ, ◌++◌, ◌<◌, ◌==◌, ◌∙◌, ◌∷◌, ◌≡◌, ◌≤◌}
use lib.Utf8.{scalar, scalars}
use Rattle.std.proofs.lemmas.Str.{IsCharBoundary-from_take, IsUtf8-drop}

-- ---- the first character

-- by its byte
pub first_byte : (bs rest : List ℕ) (b : ℕ) → IsUtf8 bs → bs ≡ b ∷ rest → b < 128 → chars bs ≡ b ∷ chars rest
first_byte bs rest b u e low = chars_past_char bs rest b u (e ∙ ap (λ x. x ++ rest) (sym (encode_ascii b low)))

pub first_is : (bs : List ℕ) (b : ℕ) → IsUtf8 bs → 1 ≤ length bs → get_or bs 0 0 ≡ b → b < 128 → IsFirst b (chars bs)
first_is [] b u some e low = absurd (omega arith)
first_is (x ∷ bs) b u some e low = record { rest = chars bs; is = first_byte (x ∷ bs) bs b u (ap (λ y. y ∷ bs) e) low }

-- of a text whose first character is one of ASCII: its first byte, and what follows
record Begun (bs : List ℕ) (c : ℕ) (rest : List ℕ) : Type 0 where
  back : List ℕ
  whole : bs ≡ c ∷ back
  back_is : chars back ≡ rest

begun : (bs : List ℕ) → IsUtf8 bs → (a : IsAsciiFirst (chars bs)) → Begun bs a.first a.rest
begun bs u a =
    let back = encode_utf8_all a.rest in
    let whole : bs ≡ a.first ∷ back = sym (encodes-chars bs u) ∙ ap encode_utf8_all a.is ∙ ap (λ x. x ++ back)
    (encode_ascii a.first a.ascii) in
    record { back = back; whole = whole; back_is = cc (first_byte bs back a.first u whole a.ascii) }

pub cut_first : (bs : List ℕ) → IsUtf8 bs → IsAsciiFirst (chars bs) → IsCharBoundary bs 1
cut_first bs u a =
    let b = begun bs u a in
    IsCharBoundary-after_ascii bs 0 u (omega (arith, ap length b.whole)) (omega (arith, ap (λ x. get_or x 0 0) b.whole, a.ascii))

pub skipped : (bs back : List ℕ) → IsUtf8 bs → IsAsciiFirst (chars bs) → back ≡ drop 1 bs → (c : ℕ) (rest : List ℕ) → chars bs ≡ c ∷ rest → chars back ≡ rest
skipped bs back u a e c rest is = let b = begun bs u a in cc (ap (drop 1) b.whole)

pub nothing_left : (bs : List ℕ) (b : Bool) → b ≡ (length bs == 0) → b ≡ true → chars bs ≡ []
nothing_left bs b e h = let none : length bs ≡ 0 = grind (arith, nat_tests) in ap chars (nil_from_length bs none) ∙ chars-nil

pub took : (c : ℕ) (old new : List ℕ) → (0 < c → c < 128 → IsFirst c old) → 0 < c → c < 128 → Skips old new → old ≡ c ∷ new
took c old new first some low skips = let f = first some low in f.is ∙ ap (λ x. c ∷ x) (sym (skips c f.rest f.is))

-- ---- characters of ASCII at the front of a text

pub utf8_behind : (front back : List ℕ) → list_all is_ascii front ≡ true → IsUtf8 (front ++ back) → IsUtf8 back
utf8_behind front back h u =
    let own = IsUtf8-from_ascii front (low_at front h) in
    let within : length front ≤ length (front ++ back) = omega (arith, length-append front back) in
    let cut = IsCharBoundary-from_take (front ++ back) (length front) u within (rw take-append_seam own) in
    rw drop-append_seam at (IsUtf8-drop (front ++ back) (length front) u cut)

-- the characters behind a word that a text begins with
pub behind_word : (bs word back : List ℕ) (n : ℕ) → list_all is_ascii word ≡ true → bs ≡ word ++ drop n bs → back ≡ drop n bs
    → word ++ chars back ≡ chars bs
behind_word bs word back n low whole e = rw e (sym (low_front word bs (drop n bs) low whole))

pub word_is : (v : Json) {text rest : List ℕ} → IsJson v → levels v ≡ 0 → spell v rest ≡ text → IsValue (tree_of v) 0 text rest
word_is v h n e = record { value = v; is = h; tree_is = refl; shallow = omega arith; spelled = e }

-- ---- white space

-- a blank that is taken
pub blank_taken : (b later : Bool) (blank : Blank) (old new : List ℕ)
    → ((g : List Blank) → TabsBeginLines later g → TabsBeginLines b (blank ∷ g))
    → old ≡ blank_character blank ∷ new → ((end : List ℕ) → IsGap later new end → IsGap b old end) × (length new < length old)
blank_taken b later blank old new tabs e = (
  λ end g. record { gap = blank ∷ g.gap; tabs = tabs g.gap g.tabs; spelled = ap (λ x. blank_character blank ∷ x) g.spelled ∙ sym e },
  omega (arith, ap length e),
)

-- ---- a whole text

pub json_text : (tree : Tree) (text at : List ℕ) → IsGap true text at → IsWholeValue tree at → IsJsonText tree text
json_text tree text at g w = (
  record { before = g.gap; value = w.value.value; after = w.gap.gap },
  record { before = g.tabs; value = w.value.is; after = w.gap.tabs; depth = w.value.shallow },
  ap (λ x. spell_gap g.gap (spell w.value.value x)) w.gap.spelled ∙ ap (spell_gap g.gap) w.value.spelled ∙ g.spelled,
  w.value.tree_is,
)

-- ---- a run

unescaped_one : (c : ℕ) → scalar c ≡ true → stands c ≡ true → is_unescaped c ≡ true
unfolding is_unescaped
unescaped_one c s h = grind (arith, nat_tests)

unescaped_all : (cs : List ℕ) → scalars cs ≡ true → list_all stands cs ≡ true → list_all is_unescaped cs ≡ true
unescaped_all [] s h = refl
unescaped_all (c ∷ cs) s h =
    let p = and_parts (scalar c) (scalars cs) s in
    let q = and_parts (stands c) (list_all stands cs) h in
    and_from (is_unescaped c) (list_all is_unescaped cs) (unescaped_one c p.0 q.0) (unescaped_all cs p.1 q.1)

pub cut_run : (bs : List ℕ) → IsCharBoundary bs (prefix_len stands bs)
cut_run bs = run_boundary stands (λ c h. grind (arith, nat_tests)) bs

-- characters that stand as they are, before the pieces of a string
pub unescaped_before : (cs more rest end : List ℕ) → list_all is_unescaped cs ≡ true → IsInside more rest end → IsInside (cs ++ more) (cs ++ rest) end
unescaped_before [] more rest end h i = i
unescaped_before (c ∷ cs) more rest end h i =
    let parts = and_parts (is_unescaped c) (list_all is_unescaped cs) h in
    let r = unescaped_before cs more rest end parts.1 i in
    record { pieces = itself c ∷ r.pieces; are = and_from _ (are_pieces r.pieces) parts.0 r.are; value_is = cc; spelled = cc }

pub run_is : (bs : List ℕ) → IsUtf8 bs → IsRun (chars (take (prefix_len stands bs) bs)) (chars bs) (chars (drop (prefix_len stands bs) bs))
run_is bs u =
    let n = prefix_len stands bs in
    let utf8 = IsUtf8-take bs n u (cut_run bs) in
    let whole : chars bs ≡ chars (take n bs) ++ chars (drop n bs) = ap chars (sym (take-append-drop n bs)) ∙ chars-append (take n bs)
    (drop n bs) utf8 in
    let all = all_tested stands (λ c h. grind (arith, nat_tests)) (take n bs) utf8 (all_pass stands bs) in
    let plain = unescaped_all (chars (take n bs)) (scalars-chars (take n bs) utf8) all in
    record {
      nearer = omega (arith, ap length whole, length-append (chars (take n bs)) (chars (drop n bs)));
      goes_on = λ more end i. rw whole (unescaped_before (chars (take n bs)) more (chars (drop n bs)) end plain i);
    }
