-- Bodies of flow scalars on one line, and their values: strings of JSON texts, and texts in quotes as layouts write them.
use Rattle.proof_loads.proofs.Common.{[], and_parts, ap, append_assoc, are_pieces, arith, body_value, Bool, character_of, content, digit_value, double, double_quoted_element, double_quoted_value, doubled, Element, elements, eqb-true, escape, escaped_code, false, flat_map, four_digits, further_lines_stand, has_document_marker, has_no_break, hexadecimal_digit, if◌then◌else◌, is_blank, is_break, is_character_code, is_digit, is_hex_digit, is_line_character, is_nul, is_piece, is_surrogate, is_unescaped, IsLineText, itself, letter_of, List, list_all, ltb-true, nat_lt, nat_tests, not, not-true, numeric_escape, or_parts, Option, Piece, plain_element, quote_of, quoted_lines_fit, Quotes, refl, short, Short, single, single_quoted_element, single_quoted_value, Some, spell_pieces, spell_string, Spelled, style_of, sym, Tok, true, unescaped, unicode, value_by, without_last, written_character, written_escapes, ℕ, ◌%◌, ◌*◌, ◌++◌, ◌+◌, ◌/◌, ◌<◌, ◌==◌, ◌||◌, ◌∙◌, ◌∷◌, ◌≡◌}
use Rattle.proof_loads.proofs.Tests.{by_test}
use Rattle.defs_text.specs.FlowScalar.{blank, lines_of, last_line, text_of}
use Rattle.proof_loads.proofs.Nul.{HasNone, quoted_none}

-- A body without a break: its elements are on one line, and have this text.
pub record IsOneLine (at : ℕ → List ℕ → Option Spelled) (body text : List ℕ) : Type 0 where
  pub all : List Element
  pub are : elements at 0 body ≡ Some all
  pub in_line : lines_of all ≡ last_line all
  pub text_is : text_of all ≡ text
  pub no_break : has_no_break body ≡ true

pub nothing : {at : ℕ → List ℕ → Option Spelled} → IsOneLine at [] []
nothing = record { all = []; are = refl; in_line = refl; text_is = refl; no_break = refl }

-- a character that is content, before a body
content_goes : {at : ℕ → List ℕ → Option Spelled} {whole body text : List ℕ} (x : ℕ) (z : IsOneLine at body text) → elements at 0 whole ≡ Some (content x ∷ z.all) → has_no_break whole ≡ true → IsOneLine at whole (x ∷ text)
content_goes x z are no_break = record { all = content x ∷ z.all; are = are; in_line = rw (z.in_line) refl; text_is = rw (z.text_is) refl; no_break = no_break }

-- a character that stands for itself, before a body
pub plain_step : (at : ℕ → List ℕ → Option Spelled) (c : ℕ) (body text : List ℕ) → at c body ≡ plain_element c body → is_break c ≡ false → IsOneLine at body text → IsOneLine at (c ∷ body) (c ∷ text)
unfolding plain_element
plain_step at c body text e no_break z = by_test (is_blank c)
    (λ h. record { all = blank c ∷ z.all; are = rw (e, no_break, h, z.are) refl; in_line = rw (z.in_line) refl; text_is = rw (z.text_is) refl; no_break = rw no_break (z.no_break) })
    (λ h. content_goes c z (rw (e, no_break, h, z.are) refl) (rw no_break (z.no_break)))

no_marker : (body : List ℕ) → has_no_break body ≡ true → has_document_marker body ≡ false
no_marker [] h = refl
no_marker (c ∷ r) h = let q = and_parts (not (is_break c)) (has_no_break r) h in rw (not-true (is_break c) q.0) (no_marker r q.1)

-- the body between a piece's quotes
pub between : (quote : ℕ) (r : List ℕ) → without_last (r ++ quote ∷ []) ≡ r
between quote [] = refl
between quote (c ∷ []) = refl
between quote (c ∷ d ∷ r) = ap (λ x. c ∷ x) (between quote (d ∷ r))

pub quote_no_break : (quote : ℕ) (w : List ℕ) → is_break quote ≡ false → has_no_break w ≡ true → has_no_break (quote ∷ (w ++ quote ∷ [])) ≡ true
quote_no_break quote [] q h = rw q refl
quote_no_break quote (c ∷ w) q h = grind (arith, quote_no_break quote w)

module _ (at : ℕ → List ℕ → Option Spelled) (body text : List ℕ) (z : IsOneLine at body text) where
  pub value_is : value_by at body ≡ Some text
  value_is = rw (no_marker body z.no_break, z.are, z.in_line, z.text_is) refl

  pub lines_fit : (column quote : ℕ) → quoted_lines_fit column at (quote ∷ (body ++ quote ∷ [])) ≡ true
  lines_fit column quote = rw (between quote body, z.are, z.in_line) refl

-- the text of pieces, as a body
abbrev pub body_of : List Piece → List ℕ
body_of ps = spell_pieces ps []

spelt : (ps : List Piece) (r : List ℕ) → spell_pieces ps r ≡ body_of ps ++ r
spelt [] r = refl
spelt (p ∷ ps) r = grind (arith, spelt ps r)

digit_break : (c : ℕ) → is_digit c 16 ≡ true → is_break c ≡ false
unfolding is_break
digit_break c h = grind (arith, nat_tests)

pub record Code (a b c d v : ℕ) : Type 0 where
  pub first : is_digit a 16 ≡ true
  pub second : is_digit b 16 ≡ true
  pub third : is_digit c 16 ≡ true
  pub fourth : is_digit d 16 ≡ true
  pub valid : is_character_code v ≡ true
  pub value : (((0 * 16 + digit_value a) * 16 + digit_value b) * 16 + digit_value c) * 16 + digit_value d ≡ v

code : (a b c d : ℕ) → is_piece (unicode a b c d) ≡ true → Code a b c d (four_digits a b c d)
unfolding is_character_code
code a b c d h = grind (arith, nat_tests, and_parts, is_hex_digit, not, is_surrogate, four_digits, ltb-true, digit_value)

abbrev pub element_of : Quotes → ℕ → List ℕ → Option Spelled
element_of single = single_quoted_element
element_of double = double_quoted_element

-- a text and a body that it is the value of, on one line
abbrev pub IsBody : (quotes : Quotes) → (body text : List ℕ) → Type 0
IsBody quotes = IsOneLine (element_of quotes)

-- a character before a body
abbrev pub Goes : Quotes → List ℕ → ℕ → Type 0
Goes quotes w c = (body text : List ℕ) → IsBody quotes body text → IsBody quotes (w ++ body) (c ∷ text)

itself_goes : (c : ℕ) → nat_lt c 32 ≡ false → (c == 34) ≡ false → (c == 92) ≡ false → Goes double (c ∷ []) c
unfolding double_quoted_element is_nul is_break
itself_goes c high quote backslash body text z =
    plain_step double_quoted_element c body text (grind (arith, nat_tests)) (grind (arith, nat_tests)) z

-- an escape of one letter
named_goes : (l x : ℕ) → is_break l ≡ false → ((body : List ℕ) → escape (l ∷ body) ≡ Some (record { element = content x; further = 1 })) → Goes double (92 ∷ l ∷ []) x
unfolding double_quoted_element is_nul is_break
named_goes l x no_break is body text z = content_goes x z (rw (is body, z.are) refl) (rw no_break (z.no_break))

short_goes : (s : Short) → Goes double (92 ∷ letter_of s ∷ []) (character_of s)
unfolding is_break escape
short_goes s = grind (arith, nat_tests, named_goes, character_of, is_break, content)

-- four hexadecimal digits
unicode_goes : (a b c d v : ℕ) → Code a b c d v → Goes double (92 ∷ 117 ∷ a ∷ b ∷ c ∷ d ∷ []) v
unfolding double_quoted_element is_nul is_break escape numeric_escape
unicode_goes a b c d v u body text z =
    content_goes v z (rw (u.first, u.second, u.third, u.fourth, u.value, u.valid, z.are) refl) (rw (digit_break a u.first, digit_break b u.second, digit_break c u.third, digit_break d u.fourth) (z.no_break))

pub string_is : (ps : List Piece) → are_pieces ps ≡ true → IsBody double (body_of ps) (unescaped ps)
unfolding is_unescaped
string_is [] h = nothing
string_is (itself c ∷ ps) h =
    let q = and_parts (is_piece (itself c)) (are_pieces ps) h in
    itself_goes c (grind (arith, nat_tests)) (grind (arith, nat_tests)) (grind (arith, nat_tests)) (body_of ps) (unescaped ps) (string_is ps q.1)
string_is (short s ∷ ps) h = short_goes s (body_of ps) (unescaped ps) (string_is ps h)
string_is (unicode a b c d ∷ ps) h = let q = and_parts (is_piece (unicode a b c d)) (are_pieces ps) h in unicode_goes a b c d _ (code a b c d q.0) (body_of ps) (unescaped ps) (string_is ps q.1)

-- ---- between quotes

abbrev pub in_quotes : Quotes → List ℕ → List ℕ
in_quotes quotes body = quote_of quotes ∷ (body ++ quote_of quotes ∷ [])

-- what a piece says that is a body between its quotes
pub record IsQuotedPiece (quotes : Quotes) (body text : List ℕ) : Type 0 where
  pub value : body_value quotes body ≡ Some text
  pub no_break : has_no_break (in_quotes quotes body) ≡ true
  pub further : (column : ℕ) → further_lines_stand column (Tok.scalar (style_of quotes) text) (in_quotes quotes body) ≡ true
  pub none : HasNone (in_quotes quotes body)

pub quoted_piece : (quotes : Quotes) (body text : List ℕ) → IsBody quotes body text → IsQuotedPiece quotes body text
unfolding single_quoted_value double_quoted_value is_break
quoted_piece quotes body text z =
    let value : body_value quotes body ≡ Some text = grind (arith, value_is (element_of quotes) body text z) in
    let fits = lines_fit (element_of quotes) body text z in
    record { value = value; no_break = quote_no_break (quote_of quotes) body (grind arith) z.no_break; further = λ column. grind (arith, fits); none = quoted_none quotes body text value }

-- a string of a JSON text
abbrev pub quoted : List Piece → List ℕ
quoted ps = in_quotes double (body_of ps)

pub quoted_is : (ps : List Piece) (r : List ℕ) → spell_string ps r ≡ quoted ps ++ r
quoted_is ps r = ap (λ x. 34 ∷ x) (spelt ps (34 ∷ r) ∙ sym (append_assoc (body_of ps) (34 ∷ []) r))

-- ---- in double quotes

hex_digit : (n : ℕ) → n < 16 → (is_digit (hexadecimal_digit n) 16 ≡ true) × (digit_value (hexadecimal_digit n) ≡ n)
hex_digit n h = (grind (arith, nat_tests), grind (arith, nat_tests))

coded : (c : ℕ) → c < 128 → Goes double (escaped_code c) c
unfolding is_character_code
coded c low =
    let high = hex_digit (c / 16) (omega (arith, low)) in
    let small = hex_digit (c % 16) (omega arith) in
    unicode_goes 48 48 (hexadecimal_digit (c / 16)) (hexadecimal_digit (c % 16)) c (record { first = refl; second = refl; third = high.0; fourth = small.0; valid = grind (arith, nat_tests); value = rw (high.1, small.1) (omega arith) })

named : (l x c : ℕ) → (c == x) ≡ true → is_break l ≡ false → ((body : List ℕ) → escape (l ∷ body) ≡ Some (record { element = content x; further = 1 })) → Goes double (92 ∷ l ∷ []) c
named l x c e no_break is = rw (eqb-true c x e) (named_goes l x no_break is)

if_goes : (quotes : Quotes) (b : Bool) (x y : List ℕ) (c : ℕ) → (b ≡ true → Goes quotes x c) → (b ≡ false → Goes quotes y c) → Goes quotes (if b then x else y) c
if_goes quotes b x y c f g = by_test b (λ e. rw e (f e)) (λ e. rw e (g e))

character_goes : (c : ℕ) → Goes double (written_character c) c
unfolding written_character is_break escape is_nul
character_goes c =
    if_goes double (c == 34) _ _ c (λ e. named 34 34 c e refl (λ body. refl)) (λ quote.
    if_goes double (c == 92) _ _ c (λ e. named 92 92 c e refl (λ body. refl)) (λ backslash.
    if_goes double (c == 8) _ _ c (λ e. named 98 8 c e refl (λ body. refl)) (λ e8.
    if_goes double (c == 9) _ _ c (λ e. named 116 9 c e refl (λ body. refl)) (λ e9.
    if_goes double (c == 10) _ _ c (λ e. named 110 10 c e refl (λ body. refl)) (λ e10.
    if_goes double (c == 12) _ _ c (λ e. named 102 12 c e refl (λ body. refl)) (λ e12.
    if_goes double (c == 13) _ _ c (λ e. named 114 13 c e refl (λ body. refl)) (λ e13.
    if_goes double (nat_lt c 32 || (c == 127)) _ _ c (λ e. coded c (grind (arith, nat_tests)))
    (λ high. itself_goes c (or_parts (nat_lt c 32) (c == 127) high).0 quote backslash))))))))

pub double_is : (w : List ℕ) → IsBody double (written_escapes w) w
double_is [] = nothing
double_is (c ∷ w) = character_goes c (written_escapes w) w (double_is w)

-- ---- in single quotes

plain_goes : (c : ℕ) → is_line_character c ≡ true → (c == 39) ≡ false → Goes single (c ∷ []) c
unfolding single_quoted_element is_nul is_break is_line_character
plain_goes c h quote body text z = plain_step single_quoted_element c body text (grind (arith, nat_tests)) (grind (arith, nat_tests)) z

doubled_goes : (c : ℕ) → is_line_character c ≡ true → Goes single (doubled c) c
unfolding single_quoted_element is_nul is_break
doubled_goes c h =
    if_goes single (c == 39) _ _ c (λ e. rw (eqb-true c 39 e) (λ body text z. content_goes 39 z (rw (z.are) refl) z.no_break)) (plain_goes c h)

pub single_is : (w : List ℕ) → IsLineText w → IsBody single (flat_map doubled w) w
single_is [] h = nothing
single_is (c ∷ w) h = let q = and_parts (is_line_character c) (list_all is_line_character w) h in doubled_goes c q.0 (flat_map doubled w) w (single_is w q.1)
