-- The parts of an excerpt, put together.
use Rattle.std.proofs.Common.{ℕ, zero, suc, ◌+◌, ◌-◌, ◌*◌, ◌≡◌, ◌<◌, ◌≤◌, refl, sym, ap, ◌∙◌, List, [], ◌∷◌, ◌++◌, Bool, true, false, take, drop, map, length, nat_le, arith, encode_utf8_all, codes, if◌then◌else◌}
use Rattle.std.proofs.lemmas.List.{length-drop}
use Rattle.std.proofs.lemmas.Str.{encodes-append}
use Rattle.std.proofs.lemmas.Bool.Decides.{nat_tests}
use Rattle.std.proofs.Math.Seq.{drop-append_seam, take-append_seam}
use Rattle.yaml_tokens.specs.Excerpt.{blank, shown_line, shown, excerpt_of_line}

-- a mark is of ASCII characters, which are their own bytes
mark_bytes : (b : Bool) → encode_utf8_all (if b then codes "..." else []) ≡ (if b then codes "..." else [])
unfolding lib.Utf8.encode
mark_bytes true = refl
mark_bytes false = refl

below_mark_bytes : (b : Bool) → encode_utf8_all (map blank (if b then codes "..." else [])) ≡ map blank (if b then codes "..." else [])
unfolding lib.Utf8.encode
below_mark_bytes true = refl
below_mark_bytes false = refl

pub parts : (b : Bool) (before after m below : List ℕ) → m ≡ (if b then codes "..." else []) → below ≡ map blank (if b then codes "..." else []) →
    m ++ (encode_utf8_all (shown_line 80 (before ++ after)) ++ (codes "\n" ++ (below ++ (encode_utf8_all (map blank before) ++ codes "^")))) ≡ encode_utf8_all (shown (if b then codes "..." else []) before after)
unfolding lib.Utf8.encode
parts b before after m below e f =
    let mark : List ℕ = (if b then codes "..." else []) in
    let line = shown_line 80 (before ++ after) in
    let blanks = map blank before in
    sym (
    encodes-append mark (line ++ (10 ∷ (map blank mark ++ (blanks ++ codes "^"))))
    ∙ ap (λ x. encode_utf8_all mark ++ x) (encodes-append line (10 ∷ (map blank mark ++ (blanks ++ codes "^")))
    ∙ ap (λ x. encode_utf8_all line ++ (10 ∷ x)) (encodes-append (map blank mark) (blanks ++ codes "^") ∙ ap (λ x. encode_utf8_all (map blank mark) ++ x) (encodes-append blanks (codes "^"))))
    ∙ ap (λ x. x ++ (encode_utf8_all line ++ (10 ∷ (encode_utf8_all (map blank mark) ++ (encode_utf8_all blanks ++ codes "^"))))) (mark_bytes b ∙ sym e)
    ∙ ap (λ x. m ++ (encode_utf8_all line ++ (10 ∷ (x ++ (encode_utf8_all blanks ++ codes "^"))))) (below_mark_bytes b ∙ sym f)
    )

-- a line is cut within what stands before the fault
drop_within : (k : ℕ) (b a : List ℕ) → k ≤ length b → drop k (b ++ a) ≡ drop k b ++ a
drop_within zero b a h = refl
drop_within (suc k) [] a h = absurd (omega (arith, h))
drop_within (suc k) (c ∷ b) a h = drop_within k b a (omega (arith, h))

-- what is kept of a line: the end of what stands before the fault, and the rest
kept_is : (line before after : List ℕ) (column : ℕ) → line ≡ before ++ after → column ≡ length before → 60 < column → drop (column - 40) line ≡ drop (length before - 40) before ++ after
kept_is line before after column e n far =
    ap (λ k. drop (k - 40) line) n ∙ ap (drop (length before - 40)) e ∙ drop_within (length before - 40) before after (omega arith)

forty : (before : List ℕ) (column : ℕ) → column ≡ length before → 60 < column → length (drop (length before - 40) before) ≡ 40
forty before column n far = length-drop (length before - 40) before ∙ omega (arith, n, far)

is_far : (before : List ℕ) (column : ℕ) → column ≡ length before → 60 < column → nat_le (length before) 60 ≡ false
is_far before column n far = grind (arith, nat_tests, n, far)

pub cut_line : (line before after kept : List ℕ) (column : ℕ) → line ≡ before ++ after → column ≡ length before → 60 < column → kept ≡ drop (column - 40) line
    → shown (codes "...") (take 40 kept) (drop 40 kept) ≡ excerpt_of_line before after
cut_line line before after kept column e n far k =
    let end = drop (length before - 40) before in
    let whole : kept ≡ end ++ after = k ∙ kept_is line before after column e n far in
    let size = forty before column n far in
    ap (λ x. shown (codes "...") (take 40 x) (drop 40 x)) whole
    ∙ ap (λ x. shown (codes "...") x (drop 40 (end ++ after))) (ap (λ s. take s (end ++ after)) (sym size) ∙ take-append_seam end after)
    ∙ ap (λ x. shown (codes "...") end x) (ap (λ s. drop s (end ++ after)) (sym size) ∙ drop-append_seam end after)
    ∙ sym (ap (λ b. if b then shown [] before after else shown (codes "...") end after) (is_far before column n far))
