use Rattle.yaml_parser.proofs.Answering.{reads, ap, Some, alias_taken, alias_text, alias_unknown, faulted_as, if_some_at, looked, refl, string_chars, sym, taken_with, Tok, tok_of, wrote, ◌∙◌, ◌≡◌, ◌⊎◌}
use Rattle.yaml_parser.proofs.reader.Reader.alias.Goals as goal

pub returns-in-Err-clause-answers : goal.returns-in-Err-clause-answers
returns-in-Err-clause-answers g c = λ position. reads (λ names given h. let l = looked _ _ c.requires in faulted_as _ given c.halt.ensures (faulted_as _ given (ap Some c.in-Err.ensures.none.0) (alias_unknown l.1 (if_some_at (λ t. t.0 ≡ c.mark-mark.result) c.mark-mark.ensures l.1) (taken_with c.take_name-name.ensures.skips l.1) refl (alias_text l.2 (if_some_at (λ t. (tok_of t.1 ≡ Tok.alias (string_chars c.take_name-name.result)) ⊎ (tok_of t.1 ≡ Tok.anchor (string_chars c.take_name-name.result))) c.take_name-name.ensures.name l.1)) (sym (h.code.anchors c.take_name-name.result) ∙ c.in-Err.ensures.none.1) h)))

pub returns-clause-answers : goal.returns-clause-answers
returns-clause-answers g c = λ position. reads (λ names given h. let l = looked _ _ c.requires in wrote _ given c.write.ensures (alias_taken _ l.1 (if_some_at (λ t. t.0 ≡ c.mark-mark.result) c.mark-mark.ensures l.1) (taken_with c.take_name-name.ensures.skips l.1) refl refl (alias_text l.2 (if_some_at (λ t. (tok_of t.1 ≡ Tok.alias (string_chars c.take_name-name.result)) ⊎ (tok_of t.1 ≡ Tok.anchor (string_chars c.take_name-name.result))) c.take_name-name.ensures.name l.1)) (sym (h.code.anchors c.take_name-name.result) ∙ c.in-Ok.ensures.some) h))
