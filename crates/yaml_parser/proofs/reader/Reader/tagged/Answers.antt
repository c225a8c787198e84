use Rattle.yaml_parser.proofs.Answering.{reads, anchor_text, is_error, ap, faulted_as, Goal, goes_by, if_some_at, is_some, looked, node_tag, not_as, option_map, refl, resolve_fails, Some, stay, stays, string_chars, tag_alone, tag_anchor, tag_unknown, taken_with, Tok, tok_of, ◌∙◌, ◌≡◌, ◌⊎◌}
use Rattle.defs_event.specs.Properties as written
use Rattle.yaml_parser.proofs.reader.Reader.tagged.Goals as goal

pub returns-in-Err-clause-answers : goal.returns-in-Err-clause-answers
returns-in-Err-clause-answers g c = reads (λ names given h. let l = looked _ _ c.requires in faulted_as _ given c.halt.ensures (resolve_fails _ given c.mark-mark.result names (record { handle = string_chars c.take_tag-handle.result.0; suffix = string_chars c.take_tag-handle.result.1 }) _ (c.in-Err.ensures names h.code) (λ no. tag_unknown l.1 (if_some_at (λ t. t.0 ≡ c.mark-mark.result) c.mark-mark.ensures l.1) (taken_with c.take_tag-handle.ensures.skips l.1) refl (if_some_at (λ t. tok_of t.1 ≡ written.tag_token (record { handle = string_chars c.take_tag-handle.result.0; suffix = string_chars c.take_tag-handle.result.1 })) c.take_tag-handle.ensures.texts l.1) no h)))

pub returns-in_err-next-clause-answers : goal.returns-in_err-next-clause-answers
returns-in_err-next-clause-answers g c = reads (λ names given h. let l = looked _ _ c.requires in let known = c.in-Ok.ensures names h.code in (c.in_err-next.ensures.stops (Goal.after_tag c.args.context (record { handle = string_chars c.take_tag-handle.result.0; suffix = string_chars c.take_tag-handle.result.1 })) refl _ (is_error _ _ c.from_residual.ensures.1)).so names given (goes_by l.1 (taken_with c.take_tag-handle.ensures.skips l.1) refl refl (if_some_at (λ t. tok_of t.1 ≡ written.tag_token (record { handle = string_chars c.take_tag-handle.result.0; suffix = string_chars c.take_tag-handle.result.1 })) c.take_tag-handle.ensures.texts l.1) (node_tag _ _ _) refl (ap is_some known) refl refl tt h))

pub returns-in-Anchor-clause-answers : goal.returns-in-Anchor-clause-answers
returns-in-Anchor-clause-answers g c = reads (λ names given h. let l = looked _ _ c.requires in let known = c.in-Ok.ensures names h.code in let k = looked _ _ c.in_ok-next.ensures.peeked in c.content_after.ensures.answers.so (Some (written.tagged_anchored (record { handle = string_chars c.take_tag-handle.result.0; suffix = string_chars c.take_tag-handle.result.1 }) (string_chars c.take_name-name.result))) names given (record { both = refl; anchor = refl; tag = ap (option_map Some) known }) (goes_by k.1 (taken_with c.take_name-name.ensures.skips k.1) refl refl (anchor_text (k.2 ∙ c.in-Anchor.is) (if_some_at (λ t. (tok_of t.1 ≡ Tok.alias (string_chars c.take_name-name.result)) ⊎ (tok_of t.1 ≡ Tok.anchor (string_chars c.take_name-name.result))) c.take_name-name.ensures.name k.1)) (tag_anchor _ _ _ _) refl (ap is_some (ap (option_map Some) known)) refl refl tt (c.in_ok-next.ensures.at (Goal.after_tag c.args.context (record { handle = string_chars c.take_tag-handle.result.0; suffix = string_chars c.take_tag-handle.result.1 })) refl names given (goes_by l.1 (taken_with c.take_tag-handle.ensures.skips l.1) refl refl (if_some_at (λ t. tok_of t.1 ≡ written.tag_token (record { handle = string_chars c.take_tag-handle.result.0; suffix = string_chars c.take_tag-handle.result.1 })) c.take_tag-handle.ensures.texts l.1) (node_tag _ _ _) refl (ap is_some known) refl refl tt h))))

pub returns-in_default-clause-answers : goal.returns-in_default-clause-answers
returns-in_default-clause-answers g c = reads (λ names given h. let l = looked _ _ c.requires in let known = c.in-Ok.ensures names h.code in c.content.ensures.answers.so (Some (written.tagged (record { handle = string_chars c.take_tag-handle.result.0; suffix = string_chars c.take_tag-handle.result.1 }))) names given (record { both = refl; anchor = refl; tag = ap (option_map Some) known }) (stays c.in_ok-next.ensures.peeked stay (λ t e. tag_alone _ _ _ t (not_as c.in_default.not-Anchor e)) refl (ap is_some (ap (option_map Some) known)) (λ o. tt) refl (c.in_ok-next.ensures.at (Goal.after_tag c.args.context (record { handle = string_chars c.take_tag-handle.result.0; suffix = string_chars c.take_tag-handle.result.1 })) refl names given (goes_by l.1 (taken_with c.take_tag-handle.ensures.skips l.1) refl refl (if_some_at (λ t. tok_of t.1 ≡ written.tag_token (record { handle = string_chars c.take_tag-handle.result.0; suffix = string_chars c.take_tag-handle.result.1 })) c.take_tag-handle.ensures.texts l.1) (node_tag _ _ _) refl (ap is_some known) refl refl tt h))))
