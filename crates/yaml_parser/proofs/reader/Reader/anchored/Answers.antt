use Rattle.yaml_parser.proofs.Answering.{reads, anchor_alone, anchor_before, anchor_tag, anchor_text, is_error, ap, faulted_as, Goal, goes_by, if_some_at, looked, node_anchor, not_as, option_map, refl, resolve_fails, Some, stay, stays, string_chars, tag_unknown_after, taken_with, Tok, tok_of, ◌≡◌, ◌⊎◌, is_some}
use Rattle.defs_event.specs.Properties as written
use Rattle.yaml_parser.proofs.reader.Reader.anchored.Goals as goal

pub returns-in_err-next-clause-answers : goal.returns-in_err-next-clause-answers
returns-in_err-next-clause-answers g c = reads (λ names given h. let l = looked _ _ c.requires in (c.in_err-next.ensures.stops (Goal.after_anchor c.args.context (string_chars c.take_name-name.result)) refl _ (is_error _ _ c.from_residual.ensures.1)).so names given (goes_by l.1 (taken_with c.take_name-name.ensures.skips l.1) refl refl (anchor_text l.2 (if_some_at (λ t. (tok_of t.1 ≡ Tok.alias (string_chars c.take_name-name.result)) ⊎ (tok_of t.1 ≡ Tok.anchor (string_chars c.take_name-name.result))) c.take_name-name.ensures.name l.1)) (node_anchor _ _ _) refl tt refl refl tt h))

pub returns-in-Err-clause-answers : goal.returns-in-Err-clause-answers
returns-in-Err-clause-answers g c = reads (λ names given h. let l = looked _ _ c.requires in let k = looked _ _ c.in_ok-next.ensures.peeked in let a = (c.in_ok-next.ensures.at (Goal.after_anchor c.args.context (string_chars c.take_name-name.result)) refl names given (goes_by l.1 (taken_with c.take_name-name.ensures.skips l.1) refl refl (anchor_text l.2 (if_some_at (λ t. (tok_of t.1 ≡ Tok.alias (string_chars c.take_name-name.result)) ⊎ (tok_of t.1 ≡ Tok.anchor (string_chars c.take_name-name.result))) c.take_name-name.ensures.name l.1)) (node_anchor _ _ _) refl tt refl refl tt h)) in faulted_as _ given c.halt.ensures (resolve_fails _ given c.mark-mark.result names (record { handle = string_chars c.take_tag-handle.result.0; suffix = string_chars c.take_tag-handle.result.1 }) _ (c.in-Err.ensures names a.code) (λ no. tag_unknown_after k.1 (anchor_before c.peek.new.self.tokens (taken_with c.take_name-name.ensures.skips l.1) c.in_ok-next.ensures.taken l.2 (if_some_at (λ t. t.0 ≡ c.mark-mark.result) c.mark-mark.ensures l.1)) (taken_with c.take_tag-handle.ensures.skips k.1) refl (if_some_at (λ t. tok_of t.1 ≡ written.tag_token (record { handle = string_chars c.take_tag-handle.result.0; suffix = string_chars c.take_tag-handle.result.1 })) c.take_tag-handle.ensures.texts k.1) no a)))

pub returns-in-Ok-clause-answers : goal.returns-in-Ok-clause-answers
returns-in-Ok-clause-answers g c = reads (λ names given h. let l = looked _ _ c.requires in let k = looked _ _ c.in_ok-next.ensures.peeked in let a = (c.in_ok-next.ensures.at (Goal.after_anchor c.args.context (string_chars c.take_name-name.result)) refl names given (goes_by l.1 (taken_with c.take_name-name.ensures.skips l.1) refl refl (anchor_text l.2 (if_some_at (λ t. (tok_of t.1 ≡ Tok.alias (string_chars c.take_name-name.result)) ⊎ (tok_of t.1 ≡ Tok.anchor (string_chars c.take_name-name.result))) c.take_name-name.ensures.name l.1)) (node_anchor _ _ _) refl tt refl refl tt h)) in let known = c.in-Ok.ensures names a.code in c.content_after.ensures.answers.so (Some (written.anchored_tagged (string_chars c.take_name-name.result) (record { handle = string_chars c.take_tag-handle.result.0; suffix = string_chars c.take_tag-handle.result.1 }))) names given (record { both = refl; anchor = refl; tag = ap (option_map Some) known }) (goes_by k.1 (taken_with c.take_tag-handle.ensures.skips k.1) refl refl (if_some_at (λ t. tok_of t.1 ≡ written.tag_token (record { handle = string_chars c.take_tag-handle.result.0; suffix = string_chars c.take_tag-handle.result.1 })) c.take_tag-handle.ensures.texts k.1) (anchor_tag _ _ _ _) refl (ap is_some (ap (option_map Some) known)) refl refl tt a))

pub returns-in_default-clause-answers : goal.returns-in_default-clause-answers
returns-in_default-clause-answers g c = reads (λ names given h. let l = looked _ _ c.requires in c.content.ensures.answers.so (Some (written.anchored (string_chars c.take_name-name.result))) names given (record { both = refl; anchor = refl; tag = refl }) (stays c.in_ok-next.ensures.peeked stay (λ t e. anchor_alone _ _ _ t (not_as c.in_default.not-Tag e)) refl refl (λ o. tt) refl (c.in_ok-next.ensures.at (Goal.after_anchor c.args.context (string_chars c.take_name-name.result)) refl names given (goes_by l.1 (taken_with c.take_name-name.ensures.skips l.1) refl refl (anchor_text l.2 (if_some_at (λ t. (tok_of t.1 ≡ Tok.alias (string_chars c.take_name-name.result)) ⊎ (tok_of t.1 ≡ Tok.anchor (string_chars c.take_name-name.result))) c.take_name-name.ensures.name l.1)) (node_anchor _ _ _) refl tt refl refl tt h))))
