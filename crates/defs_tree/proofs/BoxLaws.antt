-- No line of a box holds a line feed.
use Rattle.std.specs.Fmt.{signed_decimal as decimal_digits}
use Rattle.defs_tree.proofs.Common.{[], AllDigits, AllFitI64, AllHaveText, AllPairsFitI64, AllPairsHaveText, and_from, and_parts, ap, arith, array, Bool, boolean, boolean_spelling, codes, decimal, decimal_is_IsNumeral, double_quoted, eqb-true, false, false_from_ne_true, fits_i64, FitsI64, hash, HasText, if◌then◌else◌, integer, is_quoted, is_unbroken, is_unfit_for_plain, item, Items, List, list_all, list_any, ltb-true, negsuc, no_items, no_pairs, not, not_from_false, or_parts, pair, Pairs, pos, real, refl, spelling, string, string_spelling, suc, sym, Tree, true, true≢false, written_character, written_escapes, ℕ, ℤ, ◌++◌, ◌+◌, ◌<◌, ◌==◌, ◌^◌, ◌∙◌, ◌∷◌, ◌≡◌}
use Rattle.defs_tree.specs.Box.{indented, placed, if_none, string_box, pair_box, box, item_boxes, pair_boxes}
use Rattle.defs_tree.proofs.GrammarLaws.{list_all-more}
use Rattle.defs_tree.proofs.LinesLaws.{lines_of_unbroken}
use Rattle.defs_tree.proofs.RealTexts.{is_real_character, real_text-characters}
use Rattle.defs_tree.proofs.Unquoted.{unquoted}

-- ---- characters

no_break : (p : ℕ → Bool) → p 10 ≡ false → (c : ℕ) → p c ≡ true → not (c == 10) ≡ true
no_break p h c e = not_from_false (c == 10) (false_from_ne_true (c == 10) (λ t. true≢false (sym e ∙ ap p (eqb-true c 10 t) ∙ h)))

unbroken-append : (a b : List ℕ) → is_unbroken a ≡ true → is_unbroken b ≡ true → is_unbroken (a ++ b) ≡ true
unbroken-append [] b h e = e
unbroken-append (c ∷ a) b h e = grind (arith, and_parts, unbroken-append a b)

written_character-unbroken : (c : ℕ) → is_unbroken (written_character c) ≡ true
unfolding written_character
written_character-unbroken c = grind arith

written_escapes-unbroken : (s : List ℕ) → is_unbroken (written_escapes s) ≡ true
written_escapes-unbroken [] = refl
written_escapes-unbroken (c ∷ cs) = unbroken-append (written_character c) (written_escapes cs) (written_character-unbroken c) (written_escapes-unbroken cs)

fit-unbroken : (s : List ℕ) → list_any is_unfit_for_plain s ≡ false → is_unbroken s ≡ true
unfolding is_unfit_for_plain
fit-unbroken [] h = refl
fit-unbroken (c ∷ cs) h = grind (arith, or_parts, no_break, fit-unbroken cs)

string_spelling-unbroken : (s : List ℕ) → is_unbroken (string_spelling s) ≡ true
string_spelling-unbroken s = by (is_quoted s) refl
  where
    by : (b : Bool) → is_quoted s ≡ b → is_unbroken (if b then double_quoted s else s) ≡ true
    by true e = unbroken-append (written_escapes s) (34 ∷ []) (written_escapes-unbroken s) refl
    by false e = fit-unbroken s ((unquoted s e).fit)

digits-unbroken : (ds : List ℕ) → AllDigits 10 ds → is_unbroken ds ≡ true
digits-unbroken [] h = refl
digits-unbroken (d ∷ ds) h = grind (arith, digits-unbroken ds h.1)

integer-unbroken : (z : ℤ) → fits_i64 z ≡ true → is_unbroken (decimal_digits z) ≡ true
integer-unbroken (pos n) h = let small : n < 2 ^ 63 = ltb-true n (2 ^ 63) h in digits-unbroken (decimal n) (decimal_is_IsNumeral n (omega arith)).0.1
integer-unbroken (negsuc n) h = let small : n < 2 ^ 63 = ltb-true n (2 ^ 63) h in digits-unbroken (decimal (suc n)) (decimal_is_IsNumeral (suc n) (omega arith)).0.1

boolean-unbroken : (b : Bool) → is_unbroken (boolean_spelling b) ≡ true
boolean-unbroken a = grind arith

pub spelling-unbroken : (t : Tree) → FitsI64 t → HasText t → is_unbroken (spelling t) ≡ true
spelling-unbroken (real s) f h = list_all-more is_real_character (λ c. not (c == 10)) (no_break is_real_character refl) s (real_text-characters s h)
spelling-unbroken (integer z) f h = integer-unbroken z f
spelling-unbroken (string s) f h = string_spelling-unbroken s
spelling-unbroken (boolean b) f h = boolean-unbroken b
spelling-unbroken t f h = refl

-- ---- lines

abbrev AreUnbroken : List (List ℕ) → Type 0
AreUnbroken ls = list_all is_unbroken ls ≡ true

both : (l : List ℕ) (ls : List (List ℕ)) → is_unbroken l ≡ true → AreUnbroken ls → AreUnbroken (l ∷ ls)
both l ls h e = and_from (is_unbroken l) (list_all is_unbroken ls) h e

all-append : (ls ms : List (List ℕ)) → AreUnbroken ls → AreUnbroken ms → AreUnbroken (ls ++ ms)
all-append [] ms h e = e
all-append (l ∷ ls) ms h e = let p = and_parts (is_unbroken l) (list_all is_unbroken ls) h in both l (ls ++ ms) p.0 (all-append ls ms p.1 e)

indented-unbroken : (ls : List (List ℕ)) → AreUnbroken ls → AreUnbroken (indented ls)
indented-unbroken [] h = refl
indented-unbroken (l ∷ ls) h = let p = and_parts (is_unbroken l) (list_all is_unbroken ls) h in both (32 ∷ 32 ∷ l) (indented ls) p.0 (indented-unbroken ls p.1)

placed-unbroken : (lower : Bool) (mark : List ℕ) (t : Tree) (ls : List (List ℕ)) → is_unbroken mark ≡ true → AreUnbroken ls → AreUnbroken (placed lower mark t ls)
placed-unbroken lower mark t ls m h = grind (arith, both, indented-unbroken, and_parts, unbroken-append)

if_none-unbroken : (text : List ℕ) (ls : List (List ℕ)) → is_unbroken text ≡ true → AreUnbroken ls → AreUnbroken (if_none text ls)
if_none-unbroken text a m h = grind arith

string_box-unbroken : (multiline at_root : Bool) (s : List ℕ) → AreUnbroken (string_box multiline at_root s)
string_box-unbroken multiline at_root s = grind (arith, both, lines_of_unbroken, string_spelling-unbroken)

pair_box-unbroken : (compact : Bool) (k : Tree) (key : List (List ℕ)) (v : Tree) (value : List (List ℕ)) → is_unbroken (spelling k) ≡ true → AreUnbroken key → AreUnbroken value
    → AreUnbroken (pair_box compact k key v value)
pair_box-unbroken compact k key v value s e h = grind (arith, placed-unbroken, unbroken-append, all-append)

mutual
  pub box_unbroken : (c m r : Bool) (t : Tree) → FitsI64 t → HasText t → AreUnbroken (box c m r t)
  box_unbroken c m r (string s) f h = string_box-unbroken m r s
  box_unbroken c m r (array ts) f h = if_none-unbroken (codes "[]") (item_boxes c m ts) refl (items-unbroken c m ts f h)
  box_unbroken c m r (hash ps) f h = if_none-unbroken (codes "{}") (pair_boxes c m ps) refl (pairs-unbroken c m ps f h)
  box_unbroken c m r (real s) f h = both s [] (spelling-unbroken (real s) f h) refl
  box_unbroken c m r (integer z) f h = both (decimal_digits z) [] (spelling-unbroken (integer z) f h) refl
  box_unbroken c m r (boolean b) f h = both (boolean_spelling b) [] (boolean-unbroken b) refl
  box_unbroken c m r t f h = refl

  items-unbroken : (c m : Bool) (ts : Items) → AllFitI64 ts → AllHaveText ts → AreUnbroken (item_boxes c m ts)
  items-unbroken c m no_items f h = refl
  items-unbroken c m (item t ts) f h =
      all-append (placed (not c) (codes "-") t (box c m false t)) (item_boxes c m ts)
      (placed-unbroken (not c) (codes "-") t (box c m false t) refl (box_unbroken c m false t f.0 h.0)) (items-unbroken c m ts f.1 h.1)

  pairs-unbroken : (c m : Bool) (ps : Pairs) → AllPairsFitI64 ps → AllPairsHaveText ps → AreUnbroken (pair_boxes c m ps)
  pairs-unbroken c m no_pairs f h = refl
  pairs-unbroken c m (pair k v ps) f h =
      all-append (pair_box c k (box c m false k) v (box c m false v)) (pair_boxes c m ps)
      (pair_box-unbroken c k (box c m false k) v (box c m false v) (spelling-unbroken k f.0 h.1) (box_unbroken c m false k f.0 h.1) (box_unbroken c m false v f.1 h.2))
      (pairs-unbroken c m ps f.2 h.3)
