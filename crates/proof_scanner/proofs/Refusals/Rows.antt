-- Sound texts where a condition was once said to fail: it does not.
use Rattle.proof_scanner.proofs.Common.{codes, false, first_account, first_position, is_alpha, is_blank, is_blank_or_end, is_break, is_decimal_digit, is_flow, is_letter, is_nul, is_tag, is_uri, is_value_here, IsNoHeader, IsTagRefusal, IsVersionBefore, List, literal, Position, Problem, refl, tags_are_read, uri_character, ℕ, ◌∷◌, ◌≡◌, arith, eqb-true, nat_tests, BlockScalarHeader}
use Rattle.proof_scanner.specs.NoPiece as none
use Rattle.proof_scanner.proofs.Refusals.TextsRefused.{refusal_fails}

-- no reason refuses the text after a `!` where a tag stands
tag_stands : (why : Problem) → IsTagRefusal false (codes "ab c") why → ⊥
unfolding is_blank_or_end is_blank is_break is_nul is_alpha is_decimal_digit is_letter is_uri is_tag is_flow uri_character
tag_stands why r =
    let reads = tags_are_read false (codes "ab") (codes " c") (codes "!") (codes "ab") first_position refl refl in
    let fails = refusal_fails false (codes "ab c") why first_position r in
    cc (reads, fails)

-- nor does an escape that stands after the tag
tag_before_percent : (why : Problem) → IsTagRefusal false (codes "a b: 100%") why → ⊥
unfolding is_blank_or_end is_blank is_break is_nul is_alpha is_decimal_digit is_letter is_uri is_tag is_flow uri_character
tag_before_percent why r =
    let reads = tags_are_read false (codes "a") (codes " b: 100%") (codes "!") (codes "a") first_position refl refl in
    let fails = refusal_fails false (codes "a b: 100%") why first_position r in
    cc (reads, fails)

-- outside flow a colon before a letter is none that would begin a value
colon_in_plain : is_value_here first_account (codes " ") (codes "b") ≡ false
unfolding is_blank_or_end is_blank is_break is_nul
colon_in_plain = refl

-- `%YAML 1.1x#` goes on with a letter after its version, so its comment is not what refuses it
no_comment : (rest : List ℕ) → IsVersionBefore (codes "YAML 1.1x#") (35 ∷ rest) → ⊥
unfolding is_blank is_alpha is_decimal_digit is_letter
no_comment rest v = grind (arith, nat_tests, eqb-true)

-- a header's other text stands after its sign and digit: `|2#` has none
header_comment : (at : Position) → IsNoHeader literal first_position (codes "2#") BlockScalarHeader at → ⊥
header_comment at (none.by_text zero more begins) = cc begins
