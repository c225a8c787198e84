use Rattle.yaml_parser.proofs.Answering.{Err, faulted_as, if_some_at, looked, Ok, refl, string_chars, tag_directive_taken, taken_with, Tok, tok_of, ◌≡◌}
use Rattle.model_parser.specs.declared.kind.Kind.TheVariants as kind
use Rattle.yaml_parser.proofs.reader.Reader.tag_directive.Goals as goal

pub returns-in-Err-clause-directs : goal.returns-in-Err-clause-directs
returns-in-Err-clause-directs g c = λ versioned names given d.
    let l = looked kind.TagDirective c.args.self.now.tokens.peeked c.requires in
    faulted_as _ given c.halt.ensures (
    tag_directive_taken (record c.args.self.now { tokens = c.take_tag_directive-handle.new.self; names = c.declare.new.self }) c.mark-mark.result (Err c.in-Err.fault) (if_some_at (λ t. t.0 ≡ c.mark-mark.result) c.mark-mark.ensures l.1) l.1 (taken_with c.take_tag_directive-handle.ensures.skips l.1) refl c.declare.ensures.keep
    (if_some_at (λ t. tok_of t.1 ≡ Tok.tag_directive (string_chars c.take_tag_directive-handle.result.0) (string_chars c.take_tag_directive-handle.result.1)) c.take_tag_directive-handle.ensures.texts l.1) c.in-Err.ensures.declares d)

pub returns-in-Ok-clause-directs : goal.returns-in-Ok-clause-directs
returns-in-Ok-clause-directs g c = λ versioned names given d.
    let l = looked kind.TagDirective c.args.self.now.tokens.peeked c.requires in
    tag_directive_taken (record c.args.self.now { tokens = c.take_tag_directive-handle.new.self; names = c.declare.new.self }) c.mark-mark.result (Ok tt) (if_some_at (λ t. t.0 ≡ c.mark-mark.result) c.mark-mark.ensures l.1) l.1 (taken_with c.take_tag_directive-handle.ensures.skips l.1) refl c.declare.ensures.keep
    (if_some_at (λ t. tok_of t.1 ≡ Tok.tag_directive (string_chars c.take_tag_directive-handle.result.0) (string_chars c.take_tag_directive-handle.result.1)) c.take_tag_directive-handle.ensures.texts l.1) c.in-Ok.ensures.declares d
