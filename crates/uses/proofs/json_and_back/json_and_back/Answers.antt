use Rattle.std.proofs.Common.{◌≡◌, ◌≤◌, ℕ, List, sym, ap, subst, ◌∙◌, true≢false}
use Rattle.std.specs.Prelude.{None, chars, string_bytes, String}
use Rattle.yaml_json.specs.HasJson.{HasJson, nesting}
use Rattle.yaml_json.specs.JsonText.{json_text}
use Rattle.yaml_json.specs.Laws.{JsonTextsAreJson}
use Rattle.yaml_rust2.specs.Json.{IsJsonText}
use Rattle.yaml_rust2.specs.Text.{string_chars}
use Rattle.yaml_rust2.specs.Tree.{Tree}
use Rattle.uses.proofs.json_and_back.json_and_back.Goals as goal

json_is : {A : Type 0} (t : Tree) (text : String A) (bytes : List ℕ) → bytes ≡ string_bytes text → string_chars text ≡ json_text None 0 t → JsonTextsAreJson
    → HasJson t → nesting t ≤ 255 → IsJsonText t (chars bytes)
unfolding string_chars
json_is t text bytes e same law has low = subst (IsJsonText t) (sym (ap chars e ∙ same)) (law None t has low)

pub returns-in-Ok-clause-same : goal.returns-in-Ok-clause-same
returns-in-Ok-clause-same c = λ low.
    c.in-Ok.ensures.json _ (json_is _ c.in_ok-text.text _ c.as_str.ensures.value c.in_ok-text.ensures.text c.json_texts_are_json.ensures c.in_ok-text.ensures.has_json low)

pub returns-clause-refused : goal.returns-clause-refused
returns-clause-refused c = λ has low.
    let memory = c.in-Err.ensures.json _ (json_is _ c.in_ok-text.text _ c.as_str.ensures.value c.in_ok-text.ensures.text c.json_texts_are_json.ensures has low) in
    absurd (true≢false (sym memory ∙ sym c.is_out_of_memory.ensures ∙ c.if-is_out_of_memory.false))
