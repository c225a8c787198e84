-- A page is cut at the first of its lines `---`, whether that one ends in LF or in CR LF.
use Rattle.std.proofs.Common.{◌≡◌, ℕ, ◌<◌, ◌≤◌, List, [], ◌++◌, length, drop, refl, sym, ap, ◌∙◌, arith}
use Rattle.std.specs.Prelude.{codes, encode_utf8_all}
use Rattle.std.specs.Str.{chars, IsUtf8}
use Rattle.std.proofs.Math.Utf8.{encode}
use Rattle.std.proofs.lemmas.Str.{encodes-chars}
use Rattle.uses.proofs.Split.{cut_at, in_bytes, not_cut, none_before, front_is_utf8, no_longer}
use Rattle.uses.specs.FrontMatter.{Ending, lf, cr_lf, opening, closing, Opens, IsCutAs, IsUncut}

-- a line `---` is its own UTF-8
bytes : (e : Ending) → encode_utf8_all (closing e) ≡ closing e
unfolding encode
bytes lf = refl
bytes cr_lf = refl

-- a text, by its bytes, that is cut at a line `---`, before which there is none that ends alike
pub record IsFirst (e : Ending) (text front rest : List ℕ) : Type 0 where
  pub parts : text ≡ front ++ (closing e ++ rest)
  pub none : (n : ℕ) → n < length front → (ys : List ℕ) → drop n text ≡ closing e ++ ys → ⊥

-- no line `---` that ends so is in a text, by its bytes
abbrev pub IsNowhere : Ending → List ℕ → Type 0
IsNowhere e text = (before after : List ℕ) → text ≡ before ++ (closing e ++ after) → ⊥

utf8_front : (e : Ending) (text front rest : List ℕ) → IsUtf8 text → IsFirst e text front rest → IsUtf8 front
utf8_front lf text front rest u f = front_is_utf8 text front (codes "---\n" ++ rest) 10 u (omega arith) f.parts
utf8_front cr_lf text front rest u f = front_is_utf8 text front (codes "---\r\n" ++ rest) 10 u (omega arith) f.parts

whole : (e : Ending) (text front rest : List ℕ) → IsUtf8 text → IsFirst e text front rest → chars text ≡ chars front ++ (closing e ++ chars rest)
whole lf text front rest u f = cut_at text front rest (codes "---\n") 10 u (codes "\n---\n", (refl, bytes lf)) (bytes lf) (omega arith) f.parts
whole cr_lf text front rest u f = cut_at text front rest (codes "---\r\n") 10 u (codes "\n---\r\n", (refl, bytes cr_lf)) (bytes cr_lf) (omega arith) f.parts

first_of_its_kind : (e : Ending) (text front rest before after : List ℕ) → IsUtf8 text → IsFirst e text front rest
    → chars text ≡ before ++ (closing e ++ after) → length (chars front) ≤ length before
first_of_its_kind e text front rest before after u f it =
    none_before text front (closing e ++ chars rest) before after (closing e) (length front) u (bytes e) (utf8_front e text front rest u f) (whole e text front rest u f) refl f.none it

-- the one with fewer bytes before it has no more characters before it
no_later : (e d : Ending) (text front rest front' rest' : List ℕ) → IsUtf8 text → IsFirst e text front rest → IsFirst d text front' rest'
    → length front ≤ length front' → length (chars front) ≤ length (chars front')
no_later e d text front rest front' rest' u f g le =
    no_longer (chars front) (chars front') (closing e ++ chars rest) (closing d ++ chars rest') (sym (whole e text front rest u f) ∙ whole d text front' rest' u g)
    (omega (arith, ap length (encodes-chars front (utf8_front e text front rest u f)), ap length (encodes-chars front' (utf8_front d text front' rest' u g)), le))

-- what is known of the other ending: its first line stands no earlier, or it has none
pub data IsLater (e : Ending) (text front : List ℕ) : Type 0 where
  later : (front' rest' : List ℕ) → IsFirst e text front' rest' → length front ≤ length front' → IsLater e text front
  nowhere : IsNowhere e text → IsLater e text front

others_come_later : (e d : Ending) (text front rest before after : List ℕ) → IsUtf8 text → IsFirst e text front rest → IsLater d text front
    → chars text ≡ before ++ (closing d ++ after) → length (chars front) ≤ length before
others_come_later e d text front rest before after u f (later front' rest' g le) it =
    let near : length (chars front) ≤ length (chars front') = no_later e d text front rest front' rest' u f g le in
    let far : length (chars front') ≤ length before = first_of_its_kind d text front' rest' before after u g it in
    omega (arith, near, far)
others_come_later e d text front rest before after u f (nowhere none) it = absurd (not_cut text before after (closing d) u (bytes d) none it)

-- the other ending
abbrev pub other : Ending → Ending
other lf = cr_lf
other cr_lf = lf

comes_first : (e : Ending) (text front rest : List ℕ) → IsUtf8 text → IsFirst e text front rest → IsLater (other e) text front
    → (before after : List ℕ) (d : Ending) → chars text ≡ before ++ (closing d ++ after) → length (chars front) ≤ length before
comes_first lf text front rest u f l before after lf it = first_of_its_kind lf text front rest before after u f it
comes_first lf text front rest u f l before after cr_lf it = others_come_later lf cr_lf text front rest before after u f l it
comes_first cr_lf text front rest u f l before after cr_lf it = first_of_its_kind cr_lf text front rest before after u f it
comes_first cr_lf text front rest u f l before after lf it = others_come_later cr_lf lf text front rest before after u f l it

-- The page is cut at the line `---` that comes first.
pub is_cut : (e : Ending) (text front rest : List ℕ) → IsUtf8 text → IsFirst e text front rest → IsLater (other e) text front → IsCutAs (chars text) (chars front) (chars rest)
is_cut e text front rest u f l = record { ending = e; whole = whole e text front rest u f; first = comes_first e text front rest u f l }

-- A page without such a line among its bytes has none among its characters.
pub is_uncut : (text : List ℕ) → IsUtf8 text → IsNowhere lf text → IsNowhere cr_lf text → IsUncut (chars text)
is_uncut text u one two before after lf it = not_cut text before after (closing lf) u (bytes lf) one it
is_uncut text u one two before after cr_lf it = not_cut text before after (closing cr_lf) u (bytes cr_lf) two it

opening_bytes : (e : Ending) → encode_utf8_all (opening e) ≡ opening e
unfolding encode
opening_bytes lf = refl
opening_bytes cr_lf = refl

-- A page whose bytes begin with a line `---` begins with one.
pub opens : (e : Ending) (text rest : List ℕ) → IsUtf8 text → text ≡ opening e ++ rest → Opens (chars text)
unfolding chars
opens lf text rest u it = record { ending = lf; rest = chars rest; whole = cut_at text [] rest (codes "--\n") 45 u (opening lf, (refl, opening_bytes lf)) (opening_bytes lf) (omega arith) it }
opens cr_lf text rest u it = record { ending = cr_lf; rest = chars rest; whole = cut_at text [] rest (codes "--\r\n") 45 u (opening cr_lf, (refl, opening_bytes cr_lf)) (opening_bytes cr_lf) (omega arith) it }

begins : (e : Ending) (text rest : List ℕ) → IsUtf8 text → chars text ≡ opening e ++ rest → text ≡ opening e ++ encode_utf8_all rest
begins e text rest u it = in_bytes text [] rest (opening e) u (opening_bytes e) it

opens_by : (e : Ending) (text rest : List ℕ) → IsUtf8 text → ((ys : List ℕ) → text ≡ opening lf ++ ys → ⊥) → ((ys : List ℕ) → text ≡ opening cr_lf ++ ys → ⊥) → chars text ≡ opening e ++ rest → ⊥
opens_by lf text rest u one two it = one (encode_utf8_all rest) (begins lf text rest u it)
opens_by cr_lf text rest u one two it = two (encode_utf8_all rest) (begins cr_lf text rest u it)

-- A page whose bytes begin with none does not.
pub opens_not : (text : List ℕ) → IsUtf8 text → ((ys : List ℕ) → text ≡ opening lf ++ ys → ⊥) → ((ys : List ℕ) → text ≡ opening cr_lf ++ ys → ⊥) → Opens (chars text) → ⊥
opens_not text u one two o = opens_by o.ending text o.rest u one two o.whole
