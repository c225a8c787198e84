use Rattle.std.proofs.Common.{rules, ◌≡◌, [], ℕ, List, ◌++◌, ap, sym, ◌∙◌, Bool}
use Rattle.std.proofs.lemmas.Str.{chars-nil}
use Rattle.std.specs.Prelude.{chars, string_bytes, String}
use Rattle.yaml_rust2.specs.DumpText.{dump_text}
use Rattle.yaml_rust2.specs.Emitter.{writer_of}
use Rattle.yaml_rust2.specs.Text.{string_chars}
use Rattle.yaml_rust2.specs.Tree.{Tree}
use Rattle.uses.proofs.round_trip.dumped.Goals as goal

holds_nothing : {A : Type 0} (s : String A) → string_bytes s ≡ [] → string_chars s ≡ []
unfolding string_chars
holds_nothing s e = ap chars e ∙ chars-nil

after_nothing : (before after : List ℕ) (c d m n : Bool) (t : Tree) → after ≡ before ++ dump_text d n t → before ≡ [] → d ≡ c → n ≡ m → after ≡ dump_text c m t
after_nothing before after c d m n t w e p q = w ∙ ap (λ b. b ++ dump_text d n t) e ∙ ap (λ x. dump_text x n t) p ∙ ap (λ x. dump_text c x t) q

held_at : {A : Type 0} (x y : String A) (all : List ℕ) → string_chars y ≡ all → x ≡ y → string_chars x ≡ all
held_at x y all t e = ap string_chars e ∙ t

pub returns-in-Ok-clause-text : goal.returns-in-Ok-clause-text
returns-in-Ok-clause-text c =
    let same = c.in-Ok.ensures.same_writer ∙ c.multiline_strings.ensures.same_writer ∙ c.compact.ensures.same_writer ∙ c.new-emitter.ensures.same_writer in
    let text = after_nothing _ _ _ _ _ _ _ c.in-Ok.ensures.written
    (ap string_chars (c.multiline_strings.ensures.writer ∙ c.compact.ensures.writer ∙ c.new-emitter.ensures.writer) ∙ holds_nothing _ c.new-text.ensures.bytes)
    (c.multiline_strings.ensures.compact ∙ c.compact.ensures.compact)
    c.multiline_strings.ensures.multiline in
    held_at _ (writer_of c.dump.new.self) _ text (search (rules, sym same))
