-- Texts as their iterators give them, and as they are read.
use Rattle.yaml_chars.proofs.SpelledLemmas.{Begins-spelled, Chars-spelled}
use Rattle.std.specs.Str.{chars}
use Rattle.std.specs.Str.Iter.{chars_steps}
use Rattle.proof_loads.proofs.Common.{CharactersAreTheText, clean_up_to_end, has_no_nul, JsonTextsMeanTheirTree, MayBe, Option, StringsAreTheText, TextsWithAFaultHaveNoRow, true, ℕ, ◌≡◌}
use Rattle.proof_loads.proofs.JsonTokens.Texts.{json_text_has_its_tokens}
use Rattle.proof_layouts.proofs.Json.Reading as json
use Rattle.proof_loads.proofs.JsonNul.{json_texts_have_no_nul}
use Rattle.proof_loads.proofs.RowTexts.{means}

pub characters_are_the_text : {S : Type 0} (steps : S → Option ℕ → S → Type 0) → CharactersAreTheText steps
characters_are_the_text steps start all s always came no_nul =
    Begins-spelled steps {P = λ a. has_no_nul a ≡ true → MayBe s a} all start always
    (record { taken = s.taken; done = s.done; came = came; no_nul = no_nul; holds = λ a begins ends none. record { no_nul = none; begins = begins; ends = ends } }) (clean_up_to_end all)

pub json_texts_are_read : JsonTextsMeanTheirTree
json_texts_are_read keep_tags w is = means (json_texts_have_no_nul w is) (json_text_has_its_tokens w is) (json.tokens_read_as_their_tree keep_tags w is)

pub strings_are_the_text : StringsAreTheText
strings_are_the_text start bytes s utf8 rest came no_nul scans =
    scans.scans _ (characters_are_the_text chars_steps start (chars bytes) s (Chars-spelled start bytes utf8 rest) came no_nul)

pub faults_leave_no_row : TextsWithAFaultHaveNoRow
faults_leave_no_row start bytes s f utf8 rest came no_nul leaves memory =
    leaves memory _ (characters_are_the_text chars_steps start (chars bytes) s (Chars-spelled start bytes utf8 rest) came no_nul)
