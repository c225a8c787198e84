-- The words of other crates and of specs/ that the proofs here use, passed on from one place. Declares nothing.
pub use Rattle.std.proofs.Common.{[], add-one, add-zero, ap, append-nil, append_assoc, arith, Bool, cond, drop, false, get_or, if◌then◌else◌, inl, inr, length, length-drop, List, None, Option, pred, refl, rules, Some, subst, suc, sym, take, true, zero, ℕ, ◌%◌, ◌*◌, ◌++◌, ◌+◌, ◌-◌, ◌/◌, ◌<◌, ◌==◌, ◌^◌, ◌∙◌, ◌∷◌, ◌≡◌, ◌≤◌, ◌⊎◌}
pub use Rattle.std.proofs.Math.Seq.{drop-cons, take-length}
pub use Rattle.std.proofs.lemmas.Bool.Decides.{nat_tests}
pub use Rattle.std.proofs.lemmas.List.{drop-drop, drop_all, length-append, take-append-drop}
pub use Rattle.std.proofs.lemmas.Str.{chars-append, chars-encodes, chars-IsAscii, drop_past_char, encode_ascii, is_utf8-from_IsUtf8, IsUtf8-from_ascii, IsUtf8-string_bytes, len_utf8_bounds, length-encode}
pub use Rattle.std.specs.Prelude.{codes, decimal, Err, Ok, Result, String, string_bytes}
pub use Rattle.std.specs.Str.{is_utf8, IsUtf8}
pub use Rattle.std.specs.Str.Lossy.{valid_len_up_to}
pub use Rattle.std.specs.declared.alloc.Global.{Global}
pub use Rattle.defs_text.specs.Text.{is_empty}
unfoldable pub use Rattle.defs_text.specs.Text.{string_chars}
pub use Rattle.yaml_chars.proofs.TextLemmas.{is_nil_chars, string_chars_nil}
pub use Rattle.yaml_encoding.specs.Decoding.{Answer, any_trail, big, break, character, Encoding, go_on, ignored, is_between, IsCalled, IsDecodedByCalls, led, listed, little, malformation, malformed, means, message, message_or, Outcome, pair_by, Part, part_by, part_of, parts, parts_from, put_before, Range, reading, replaced, Sequence, sequence_by, sequence_from, Start, Steps, stopped, strict, text, utf_16_big, utf_16_little, utf_16_sequence, utf_8, utf_8_sequence}
unfoldable pub use Rattle.yaml_encoding.specs.Decoding.{chosen, is_lead, is_trail, start_of, unmarked}
pub use Rattle.yaml_encoding.specs.Encodings.{encoding_of}
pub use Rattle.yaml_encoding.specs.Front.{bounds, front, Leads, sequence_of}
pub use Rattle.yaml_encoding.specs.Messages.{after}
pub use Rattle.yaml_encoding.specs.Outcomes.{IsRead, OutcomeIs, StopIs}
pub use Rattle.yaml_encoding.specs.Steps.{answer_of, curried, IsStep, Stepped, steps_by}
pub use Rattle.yaml_encoding.specs.Trails.{Trails}
pub use Rattle.yaml_encoding.specs.declared.stop.Stop.{Stop}
pub use Rattle.yaml_encoding.specs.declared.stop.Stop.TheVariants.{Message, OutOfMemory}
