-- The text that tells a key which came twice.
use Rattle.std.specs.Fmt.{debug_escape}
use Rattle.yaml_loader.proofs.Common.{[], all_opened, ap, codes, encode_utf8_all, encodes-chars, integer, IsUtf8-string_bytes, length, List, None, Open, Opened, opened_of, pos, refl, repeated_key, shown_key, slice_index_or, Some, String, string, string_bytes, string_chars, sym, TellsKey, ◌-◌, ◌<◌, ◌∙◌, ◌∷◌, ◌≡◌}
use Rattle.yaml_loader.proofs.OpenedLemmas.{last_is}

pub bytes_again : {A : Type 0} (s : String A) → encode_utf8_all (string_chars s) ≡ string_bytes s
unfolding string_chars
bytes_again s = encodes-chars (string_bytes s) (IsUtf8-string_bytes s)

-- the key that came twice, in the last collection of the list
pub repeated_at : (os : List Open) (last : Open) (o : Opened) → opened_of last ≡ o → 0 < length os → last ≡ slice_index_or os (length os - 1) last
    → (around : List Opened) × (repeated_key (o ∷ around) ≡ repeated_key (all_opened os []))
repeated_at os last o is some at =
    let i = last_is os (length os) last refl some at in
    (i.0.around, sym (ap repeated_key i.1 ∙ ap (λ o. repeated_key (o ∷ i.0.around)) is))

-- ---- rows: how keys are shown

escaped_key : shown_key (string (codes "a\"\\\n")) ≡ Some (codes "String(\"a\\\"\\\\\\n\")")
unfolding debug_escape lib.Utf8.encode
escaped_key = refl

empty_key : shown_key (string []) ≡ Some (codes "String(\"\")")
unfolding debug_escape lib.Utf8.encode
empty_key = refl

-- nothing is said of a string past ASCII, nor of any other tree
wide_key : shown_key (string (233 ∷ [])) ≡ None
unfolding debug_escape lib.Utf8.encode
wide_key = refl

number_key : shown_key (integer (pos 1)) ≡ None
number_key = refl

told_key : TellsKey (string (codes "a")) (codes "String(\"a\"): duplicated key in mapping")
unfolding debug_escape lib.Utf8.encode
told_key = record { shown = codes "String(\"a\")"; is_shown = refl; whole = refl }
