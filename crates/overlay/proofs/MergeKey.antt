-- A merge key, by its text.
use Rattle.overlay.proofs.Common.{ap, bytes_eq, codes, merge_key, String, string, string_bytes, sym, tree_eq, ◌∙◌, ◌≡◌}
use Rattle.std.specs.Str.{chars, encode_utf8_all}
use Rattle.std.proofs.lemmas.Bool.Decides.{same_from_decides}
use Rattle.std.proofs.lemmas.Slice.Eq.{bytes_eq-Decides}
use Rattle.std.proofs.lemmas.Str.{encodes-chars, IsUtf8-string_bytes}
use Rattle.defs_text.specs.Text.{string_chars}
use Rattle.defs_tree.proofs.OrderLaws.{tree_eq_decides}

-- a string that is made of the text
pub key_made : {A : Type 0} (s : String A) → string_bytes s ≡ codes "<<" → string (string_chars s) ≡ merge_key
unfolding string_chars chars
key_made s e = ap (λ bs. string (chars bs)) e

-- a string that is compared with it
pub is_the_key : {A : Type 0} (own : String A) → bytes_eq (string_bytes own) (codes "<<") ≡ tree_eq merge_key (string (string_chars own))
unfolding string_chars chars lib.Utf8.encode
is_the_key own =
    let d = bytes_eq-Decides (string_bytes own) (codes "<<") in
    let back : merge_key ≡ string (chars (string_bytes own)) → string_bytes own ≡ codes "<<" =
    λ e. let same : codes "<<" ≡ chars (string_bytes own) = cc in sym (encodes-chars (string_bytes own) (IsUtf8-string_bytes own)) ∙ ap encode_utf8_all (sym same) in
    same_from_decides _ _ (λ e. ap (λ b. string (chars b)) (sym (d.0 e)), λ e. d.1 (back e)) (tree_eq_decides merge_key (string (chars (string_bytes own))))
