-- Quoted scalars as texts: what the laws say of some.
use Rattle.proof_loads.proofs.Common.{[], are_marks, begins_with_marker, codes, double, double_quoted_element, double_quoted_value, escape, HasToks, is_blank, is_break, is_character_code, is_nul, numeric_escape, plain_element, refl, single, single_quoted_element, single_quoted_value, Style, Tok, ◌∷◌, Problem}
use Rattle.proof_lexers.specs.QuotedEnds.{IsBadEscape, unknown, no_digit, no_character}
use Rattle.proof_loads.proofs.QuotedTokens.Tokens.{quoted_texts_have_their_tokens}

-- a doubled quote, and a line feed after the scalar
doubled : HasToks (codes "'it''s'\n") (Tok.stream_start ∷ Tok.scalar Style.single_quoted (codes "it's") ∷ Tok.stream_end ∷ [])
unfolding is_blank is_break is_nul are_marks plain_element single_quoted_element begins_with_marker single_quoted_value
doubled = quoted_texts_have_their_tokens _ _ (record { quotes = single; body = codes "it''s"; breaks = 1 }, codes "it's", refl, refl, refl)

-- lines: a folded break, an empty line, an escaped break, and escapes
lines : HasToks (codes "\"a\n b \n\n c \\\n  d\\x41\\t\"") (Tok.stream_start ∷ Tok.scalar Style.double_quoted (codes "a b\nc dA\t") ∷ Tok.stream_end ∷ [])
unfolding is_blank is_break is_nul are_marks plain_element double_quoted_element is_character_code numeric_escape escape begins_with_marker double_quoted_value
lines = quoted_texts_have_their_tokens _ _ (record { quotes = double; body = codes "a\n b \n\n c \\\n  d\\x41\\t"; breaks = 0 }, codes "a b\nc dA\t", refl, refl, refl)

-- a letter that escapes nothing, a code with too few digits, and half a pair of UTF-16
no_letter : IsBadEscape (codes "q\"") Problem.UnknownEscape
unfolding is_break
no_letter = unknown 113 (codes "\"") refl refl refl

few_digits : IsBadEscape (codes "x4\"") Problem.HexadecimalDigit
few_digits = no_digit 120 2 (codes "4\"") refl refl refl

half : IsBadEscape (codes "uD800") Problem.EscapedCode
unfolding is_character_code
half = no_character 117 4 0xD800 (codes "D800") refl refl refl refl
