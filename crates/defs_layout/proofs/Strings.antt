-- The text of a string is a string of JSON, and its value is the string.
use Rattle.defs_layout.proofs.Common.{[], and_from, and_parts, ap, append_assoc, are_characters, are_pieces, arith, backspace, character_of, double_quoted, escaped_code, false, form_feed, hexadecimal_digit, if◌then◌else◌, is_character, is_piece, is_unescaped, itself, letter_of, List, nat_lt, nat_tests, new_line, or_parts, Piece, quotation_mark, refl, return, reverse_solidus, Short, short, spell_piece, spell_pieces, spell_string, sym, tabulator, true, unescaped, unicode, value_of, written_character, written_escapes, ℕ, ◌%◌, ◌++◌, ◌/◌, ◌<◌, ◌==◌, ◌||◌, ◌∙◌, ◌∷◌, ◌≡◌}
use Rattle.defs_layout.specs.Marks.{backslash}

-- how a character is written
piece_of : ℕ → Piece
piece_of c =
    if c == 34 then short quotation_mark
    else (if c == 92 then short reverse_solidus
    else (if c == 8 then short backspace
    else (if c == 9 then short tabulator
    else (if c == 10 then short new_line
    else (if c == 12 then short form_feed
    else (if c == 13 then short return
    else (if nat_lt c 32 || (c == 127) then unicode 48 48 (hexadecimal_digit (c / 16)) (hexadecimal_digit (c % 16))
    else itself c)))))))

-- its text, its value, and that it is one
record IsWritten (p : Piece) (text : List ℕ) (c : ℕ) : Type 0 where
  spelt : (r : List ℕ) → spell_piece p r ≡ text ++ r
  value : value_of p ≡ c
  fits : is_piece p ≡ true

-- ---- the digits of a code

control : (c : ℕ) → c < 256 → IsWritten (unicode 48 48 (hexadecimal_digit (c / 16)) (hexadecimal_digit (c % 16))) (escaped_code c) c
control c h = grind (arith, nat_tests)

itself_written : (c : ℕ) → (c == 34) ≡ false → (c == 92) ≡ false → nat_lt c 32 ≡ false → is_character c ≡ true → IsWritten (itself c) (c ∷ []) c
unfolding is_unescaped
itself_written c a b low high = record { spelt = λ r. refl; value = refl; fits = grind (arith, nat_tests) }

-- ---- each character

-- one choice in both tables
chosen : (c d : ℕ) (p q : Piece) (text other : List ℕ) → IsWritten p text d → ((c == d) ≡ false → IsWritten q other c) → IsWritten (if c == d then p else q) (if c == d then text else other) c
chosen c d p q text other is later = grind arith

short_written : (s : Short) → IsWritten (short s) (backslash ∷ letter_of s ∷ []) (character_of s)
short_written s = record { spelt = λ r. refl; value = refl; fits = refl }

written : (c : ℕ) → is_character c ≡ true → IsWritten (piece_of c) (written_character c) c
unfolding piece_of written_character
written c h =
    chosen c 34 _ _ _ _ (short_written quotation_mark)
    λ a. chosen c 92 _ _ _ _ (short_written reverse_solidus)
    λ b. chosen c 8 _ _ _ _ (short_written backspace)
    λ _. chosen c 9 _ _ _ _ (short_written tabulator)
    λ _. chosen c 10 _ _ _ _ (short_written new_line)
    λ _. chosen c 12 _ _ _ _ (short_written form_feed)
    λ _. chosen c 13 _ _ _ _ (short_written return)
    λ _. grind (arith, nat_tests, control, itself_written, or_parts)

-- ---- a text

pub pieces_of : List ℕ → List Piece
pieces_of [] = []
pieces_of (c ∷ s) = piece_of c ∷ pieces_of s

pub record AreWritten (s : List ℕ) : Type 0 where
  pub spelt : (r : List ℕ) → spell_pieces (pieces_of s) r ≡ written_escapes s ++ r
  pub value : unescaped (pieces_of s) ≡ s
  pub fit : are_pieces (pieces_of s) ≡ true

pub all_written : (s : List ℕ) → are_characters s ≡ true → AreWritten s
unfolding pieces_of
all_written [] h = record { spelt = λ r. refl; value = refl; fit = refl }
all_written (c ∷ s) h =
    let parts = and_parts (is_character c) (are_characters s) h in
    let one = written c parts.0 in
    let rest = all_written s parts.1 in
    record {
      spelt = λ r. one.spelt (spell_pieces (pieces_of s) r) ∙ ap (λ t. written_character c ++ t) (rest.spelt r) ∙ sym (append_assoc (written_character c) (written_escapes s) r);
      value = (λ i. one.value i ∷ rest.value i);
      fit = and_from _ _ one.fits rest.fit;
    }

-- between quotation marks
pub string_spelt : (s r : List ℕ) → are_characters s ≡ true → spell_string (pieces_of s) r ≡ double_quoted s ++ r
string_spelt s r h =
    ap (λ t. 34 ∷ t) ((all_written s h).spelt (34 ∷ r) ∙ sym (append_assoc (written_escapes s) (34 ∷ []) r))
