-- What a plain text stands for: the code's way of reading it.
use Rattle.std.specs.Result.{result_ok}
use Rattle.std.specs.Str.Pattern.{LacksTextAt, FindsTextPrefix, StripsPrefix}
use Rattle.yaml_tree.proofs.TypingCommon.{[], after_prefix, ap, arith, Bool, boolean, bytes_eq-Decides, codes, Err, false, false_words, if◌then◌else◌, integer, is_among, is_decimal, is_decimal-read, List, list_all, nat_tests, None, null, null_words, Ok, Option, option_and_then, option_map, ParsesSigned, reads_decimal, real, refl, Result, signed_number, Some, special_words, string, sym, Tree, true, true_words, typing, unwrap_or, where_true, ℕ, ℤ, ◌++◌, ◌==◌, ◌∙◌, ◌∷◌, ◌≡◌}
use mir.Syntax.{w64}
use Rattle.defs_tree.proofs.Parsing as parsing

-- the decimal grammar is read from left to right
pub decimal_read : (t : List ℕ) → is_decimal t ≡ reads_decimal t
decimal_read t = is_decimal-read t

-- what std reads as an integer of 64 bits is a signed number
pub parsed_signed : {E : Type 0} (base : ℕ) (t : List ℕ) (r : Result ℤ E) → ParsesSigned w64 base t r → result_ok r ≡ signed_number base t
parsed_signed {E} base t (Ok z) h = sym (parsing.parsed_signed {E = E} base t (Ok z) h)
parsed_signed {E} base t (Err e) h = sym (parsing.parsed_signed {E = E} base t (Err e) h)

-- ---- what stands after a beginning

pub after_it : (p t : List ℕ) → after_prefix p (p ++ t) ≡ Some t
after_it [] t = refl
after_it (x ∷ p) t = grind (arith, nat_tests, after_it p t)

pub lacks_after : (p t : List ℕ) → LacksTextAt p t 0 → after_prefix p t ≡ None
lacks_after [] t h = absurd (h t refl)
lacks_after (x ∷ p) [] h = refl
lacks_after (x ∷ p) (c ∷ cs) h =
    let later : c ≡ x → after_prefix p cs ≡ None = λ e. lacks_after p cs (λ rest f. h rest (λ i. e i ∷ f i)) in
    grind (arith, nat_tests, later)

pub strips_after : (p t x : List ℕ) → StripsPrefix (FindsTextPrefix p) t x → after_prefix p t ≡ Some x
strips_after p t x h = ap (after_prefix p) (h.1.1 ∙ ap (λ u. p ++ u) (sym h.2)) ∙ after_it p x

-- ---- the table

-- a signed number after a beginning
abbrev pub after : ℕ → List ℕ → List ℕ → Option ℤ
after base p t = option_and_then (signed_number base) (after_prefix p t)

pub not_after : (base p : ℕ) (ps : List ℕ) (c : ℕ) (cs : List ℕ) → (p == c) ≡ false → after base (p ∷ ps) (c ∷ cs) ≡ None
not_after base p ps c cs e = ap (λ b. option_and_then (signed_number base) (if b then after_prefix ps cs else None)) e

-- the table of a text, by what its rows find in order
abbrev pub table : List ℕ → Option ℤ → Option ℤ → Option ℤ → Bool → Bool → Bool → Option ℤ → Bool → Bool → Tree
table t hexadecimal octal plus empty positive negative signed special decimal =
    unwrap_or (option_map integer hexadecimal) (unwrap_or (option_map integer octal) (unwrap_or (option_map integer plus)
    (unwrap_or (where_true empty null) (unwrap_or (where_true positive (boolean true)) (unwrap_or (where_true negative (boolean false))
    (unwrap_or (option_map integer signed) (unwrap_or (where_true special (real t)) (unwrap_or (where_true decimal (real t)) (string t)))))))))

pub by_table : (t : List ℕ) {x o p s : Option ℤ} {n y f w d : Bool} → after 16 (codes "0x") t ≡ x → after 8 (codes "0o") t ≡ o
    → after 10 (codes "+") t ≡ p
    → is_among null_words t ≡ n → is_among true_words t ≡ y → is_among false_words t ≡ f
    → signed_number 10 t ≡ s → is_among special_words t ≡ w → is_decimal t ≡ d → typing t ≡ table t x o p n y f s w d
unfolding typing
by_table t x o p n y f s w d = λ i. table t (x i) (o i) (p i) (n i) (y i) (f i) (s i) (w i) (d i)

-- a text without a mark that all these words bear is none of them
pub not_among : (p : List ℕ → Bool) (ws : List (List ℕ)) → list_all p ws ≡ true → (t : List ℕ) → p t ≡ false → is_among ws t ≡ false
not_among p [] h t e = refl
not_among p (w ∷ ws) h t e = let same = (bytes_eq-Decides w t).0 in grind (arith, same, not_among p ws)
