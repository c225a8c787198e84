-- Strings, escape by escape.
use Rattle.yaml_json.proofs.ReadCommon.{[], and_from, ap, append-nil, append_assoc, are_pieces, arith, chars, chars-append, encode_utf8, four_digits, is_piece, is_surrogate, IsCode, IsEscape, IsInside, IsPart, IsRun, IsScalar, IsShort, IsStringEnd, IsUtf8-string_bytes, IsValue, length, letter_of, List, nat_tests, not, quotation_mark, refl, Short, short, String, string_bytes, string_chars, TakesDigit, Tree, true, unicode, ℕ, ◌*◌, ◌++◌, ◌+◌, ◌<◌, ◌∙◌, ◌∷◌, ◌≡◌}
use Rattle.defs_layout.specs.Json as json
use Rattle.yaml_chars.proofs.TextLemmas.{string_chars_push}

pub no_pieces : (text : List ℕ) → IsInside [] text text
no_pieces text = record { pieces = []; are = refl; value_is = refl; spelled = refl }

-- ---- escapes

pub letter_ascii : (s : Short) → (0 < letter_of s) × (letter_of s < 128)
letter_ascii quotation_mark = (omega arith, omega arith)
letter_ascii s = (omega arith, omega arith)

pub short_ascii : (letter c : ℕ) → IsShort letter c → (0 < letter) × (letter < 128)
short_ascii letter c s = let l = letter_ascii s.short in (omega (arith, s.letter_is, l.0), omega (arith, s.letter_is, l.1))

pub short_read : {letter c : ℕ} {text rest : List ℕ} → IsShort letter c → text ≡ letter ∷ rest → IsEscape c text rest
short_read s e = record {
  goes_on = λ more end i. record { pieces = short s.short ∷ i.pieces; are = i.are; value_is = cc; spelled = cc };
  nearer = omega (arith, ap length e);
}

no_surrogate : (c : ℕ) → IsScalar c → not (is_surrogate c) ≡ true
no_surrogate c h = grind (arith, nat_tests)

pub code_read : {character v w x y : ℕ} {t1 t2 t3 t4 rest : List ℕ} → TakesDigit v t1 t2 → TakesDigit w t2 t3 → TakesDigit x t3 t4
    → TakesDigit y t4 rest → IsScalar (v * 4096 + w * 256 + x * 16 + y) → character ≡ v * 4096 + w * 256 + x * 16 + y
    → IsCode character t1 rest
code_read {v = v} {w} {x} {y} a b c d scalar is =
    let code : four_digits a.digit b.digit c.digit d.digit ≡ v * 4096 + w * 256 + x * 16 + y = omega arith in
    let piece : is_piece (unicode a.digit b.digit c.digit d.digit) ≡ true =
    and_from _ _ (and_from _ _ (and_from _ _ (and_from _ _ a.is b.is) c.is) d.is)
    (ap (λ z. not (is_surrogate z)) code ∙ no_surrogate (v * 4096 + w * 256 + x * 16 + y) scalar) in
    record {
      goes_on = λ more end i. record {
        pieces = unicode a.digit b.digit c.digit d.digit ∷ i.pieces;
        are = and_from _ (are_pieces i.pieces) piece i.are;
        value_is = cc;
        spelled = cc;
      };
      nearer = omega (arith, ap length a.first, ap length b.first, ap length c.first, ap length d.first);
    }

-- ---- part of a string

-- what stands behind its start so far
pub record Goes (start now text rest : List ℕ) : Type 0 where
  pub goes_on : (more end : List ℕ) → IsInside more rest end → IsPart start (now ++ more) text end

pub gone_on : {start now text r0 r1 r2 : List ℕ} {c : ℕ} {run later : List ℕ} → Goes start now text (92 ∷ r0) → IsEscape c r0 r1
    → IsRun run r1 r2 → later ≡ (now ++ c ∷ []) ++ run → Goes start later text r2
gone_on {c = c} {run} g e r is = record {
  goes_on = λ more end i.
      rw (is, append_assoc, append_assoc) (g.goes_on (c ∷ (run ++ more)) end (e.goes_on (run ++ more) end (r.goes_on more end i)));
}

pub ended : {start now text rest : List ℕ} → Goes start now text (34 ∷ rest) → IsPart start now text (34 ∷ rest)
ended {rest = rest} g = rw append-nil at (g.goes_on [] (34 ∷ rest) (no_pieces (34 ∷ rest)))

-- what a string holds after a character and a run
pub pushed : {A : Type 0} (s t u : String A) (c : ℕ) (run : List ℕ) → IsScalar c → string_bytes t ≡ string_bytes s ++ encode_utf8 c → string_bytes u ≡ string_bytes t ++ run → string_chars u ≡ (string_chars s ++ c ∷ []) ++ chars run
unfolding string_chars
pushed s t u c run scalar e f = ap chars f ∙ chars-append (string_bytes t) run (IsUtf8-string_bytes t) ∙ ap (λ x. x ++ chars run) (string_chars_push s t c scalar e)

-- ---- whole strings

pub plain_string : {run value text rest : List ℕ} → IsRun run text (34 ∷ rest) → value ≡ run → IsStringEnd value text rest
plain_string {rest = rest} r is = rw is (rw append-nil at (r.goes_on [] (34 ∷ rest) (no_pieces (34 ∷ rest))))

pub escaped_string : {run start value text mid rest : List ℕ} → IsRun run text mid → start ≡ run → IsPart start value mid (34 ∷ rest)
    → IsStringEnd value text rest
escaped_string r e p = rw (p.value_is, e) (r.goes_on _ _ p.inside)

pub string_value : {value text behind rest : List ℕ} → text ≡ 34 ∷ behind → IsStringEnd value behind rest
    → IsValue (Tree.string value) 0 text rest
string_value e s = record { value = json.string s.pieces; is = s.are; tree_is = cc; shallow = omega arith; spelled = cc }
