-- A text that is cut at another, by characters.
use Rattle.std.proofs.Common.{◌≡◌, ℕ, ◌<◌, ◌≤◌, List, [], ◌∷◌, ◌++◌, length, get_or, take, drop, refl, sym, ap, subst, ◌∙◌, arith, length-append}
use Rattle.std.specs.Prelude.{encode_utf8_all}
use Rattle.std.specs.Str.{chars, IsUtf8}
use Rattle.std.proofs.lemmas.List.{take_at, drop_at}
use Rattle.std.proofs.lemmas.Str.{chars-append, chars_from_encodes, encodes-chars, encodes-append, length-le-encodes, IsUtf8-take, IsCharBoundary-before_ascii}

seam : (front rest : List ℕ) (c : ℕ) → get_or (front ++ c ∷ rest) (length front) 0 ≡ c
seam [] rest c = refl
seam (b ∷ front) rest c = seam front rest c

pub front_is_utf8 : (text front rest : List ℕ) (c : ℕ) → IsUtf8 text → c < 128 → text ≡ front ++ c ∷ rest → IsUtf8 front
front_is_utf8 text front rest c u low e =
    let at : get_or text (length front) 0 ≡ c = ap (λ l. get_or l (length front) 0) e ∙ seam front rest c in
    let inside : length front < length text = omega (arith, ap length e, length-append front (c ∷ rest)) in
    subst IsUtf8 (ap (take (length front)) e ∙ take_at front (c ∷ rest) (length front) refl)
    (IsUtf8-take text (length front) u (IsCharBoundary-before_ascii text (length front) inside (omega (arith, at, low))))

-- the mark is its own UTF-8, and begins with a character of ASCII
pub cut_at : (text front rest more : List ℕ) (c : ℕ) → IsUtf8 text → IsUtf8 (c ∷ more) → encode_utf8_all (c ∷ more) ≡ c ∷ more → c < 128 → text ≡ front ++ ((c ∷ more) ++ rest)
    → chars text ≡ chars front ++ ((c ∷ more) ++ chars rest)
cut_at text front rest more c u mark same low e =
    ap chars e ∙ chars-append front ((c ∷ more) ++ rest) (front_is_utf8 text front (more ++ rest) c u low e)
    ∙ ap (λ t. chars front ++ t) (chars-append (c ∷ more) rest mark ∙ ap (λ t. t ++ chars rest) (sym (chars_from_encodes (c ∷ more) (c ∷ more) mark same)))

-- where the mark stands among a text's characters, it stands among its bytes
pub in_bytes : (text front rest mark : List ℕ) → IsUtf8 text → encode_utf8_all mark ≡ mark → chars text ≡ front ++ (mark ++ rest)
    → text ≡ encode_utf8_all front ++ (mark ++ encode_utf8_all rest)
in_bytes text front rest mark u same e =
    sym (encodes-chars text u) ∙ ap encode_utf8_all e ∙ encodes-append front (mark ++ rest)
    ∙ ap (λ t. encode_utf8_all front ++ t) (encodes-append mark rest ∙ ap (λ t. t ++ encode_utf8_all rest) same)

-- A text without the mark among its bytes has none among its characters.
pub not_cut : (text front rest mark : List ℕ) → IsUtf8 text → encode_utf8_all mark ≡ mark → ((xs ys : List ℕ) → text ≡ xs ++ (mark ++ ys) → ⊥)
    → chars text ≡ front ++ (mark ++ rest) → ⊥
not_cut text front rest mark u same none e = none (encode_utf8_all front) (encode_utf8_all rest) (in_bytes text front rest mark u same e)

head_is : {c d : ℕ} {xs ys : List ℕ} → c ∷ xs ≡ d ∷ ys → c ≡ d
head_is e = cc

tail_is : {c d : ℕ} {xs ys : List ℕ} → c ∷ xs ≡ d ∷ ys → xs ≡ ys
tail_is e = cc

-- of two beginnings of a text, the one with fewer bytes has no more characters
pub no_longer : (front before rest more : List ℕ) → front ++ rest ≡ before ++ more → length (encode_utf8_all front) ≤ length (encode_utf8_all before) → length front ≤ length before
no_longer [] before rest more e le = omega arith
no_longer (c ∷ front) [] rest more e le = omega (arith, length-le-encodes (c ∷ front), le)
no_longer (c ∷ front) (d ∷ before) rest more e le =
    let first : encode_utf8_all (c ∷ []) ≡ encode_utf8_all (d ∷ []) = ap (λ x. encode_utf8_all (x ∷ [])) (head_is e) in
    let left = ap length (encodes-append (c ∷ []) front) ∙ length-append (encode_utf8_all (c ∷ [])) (encode_utf8_all front) in
    let right = ap length (encodes-append (d ∷ []) before) ∙ length-append (encode_utf8_all (d ∷ [])) (encode_utf8_all before) in
    let shorter : length (encode_utf8_all front) ≤ length (encode_utf8_all before) = omega (arith, left, right, ap length first, le) in
    let rest_le = no_longer front before rest more (tail_is e) shorter in
    omega (arith, rest_le)

-- The first mark among a text's bytes is the first among its characters.
pub none_before : (text front rest before after mark : List ℕ) (i : ℕ) → IsUtf8 text → encode_utf8_all mark ≡ mark → IsUtf8 front → chars text ≡ chars front ++ rest → length front ≡ i
    → ((n : ℕ) → n < i → (ys : List ℕ) → drop n text ≡ mark ++ ys → ⊥)
    → chars text ≡ before ++ (mark ++ after) → length (chars front) ≤ length before
none_before text front rest before after mark i u same uf cut at none e =
    let there : drop (length (encode_utf8_all before)) text ≡ mark ++ encode_utf8_all after =
    ap (drop (length (encode_utf8_all before))) (in_bytes text before after mark u same e) ∙ drop_at (encode_utf8_all before) (mark ++ encode_utf8_all after) _ refl in
    let far : length (encode_utf8_all before) < i → ⊥ = λ lt. none (length (encode_utf8_all before)) lt (encode_utf8_all after) there in
    let le : length (encode_utf8_all (chars front)) ≤ length (encode_utf8_all before) = omega (arith, ap length (encodes-chars front uf), at, far) in
    no_longer (chars front) before rest (mark ++ after) (sym cut ∙ e) le
