use Rattle.std.proofs.Common.{◌≡◌, ℕ, List, Bool, sym, ap, subst, ◌∙◌}
use Rattle.std.specs.Prelude.{chars, string_bytes, String}
use Rattle.yaml_rust2.specs.DumpText.{dump_text}
use Rattle.yaml_rust2.specs.Basic.{IsBasicLayout}
use Rattle.yaml_rust2.specs.Text.{string_chars}
use Rattle.yaml_rust2.specs.Tree.{Tree}
use Rattle.yaml_rust2.specs.View.{view}
use Rattle.uses.proofs.round_trip.round_trip.Goals as goal

laid_out_as : {A : Type 0} (t : Tree) (text : String A) (bytes : List ℕ) (c m : Bool) → bytes ≡ string_bytes text → string_chars text ≡ dump_text c m t
    → IsBasicLayout t (dump_text c m t) → IsBasicLayout t (chars bytes)
unfolding string_chars
laid_out_as t text bytes c m e same laid = subst (IsBasicLayout t) (sym (ap chars e ∙ same)) laid

pub returns-in-Ok-clause-same : goal.returns-in-Ok-clause-same
returns-in-Ok-clause-same c = λ writable.
    let valid = c.in_ok-text.ensures.valid in
    let laid = c.dumps_are_laid_out.ensures c.args.compact c.args.multiline (view c.args.tree.now) valid.0 valid.1 writable in
    c.in-Ok.ensures.basic _ (laid_out_as _ c.in_ok-text.text _ _ _ c.as_str.ensures.value c.in_ok-text.ensures.text laid)

pub returns-clause-refused : goal.returns-clause-refused
returns-clause-refused c = λ writable.
    let valid = c.in_ok-text.ensures.valid in
    let laid = c.dumps_are_laid_out.ensures c.args.compact c.args.multiline (view c.args.tree.now) valid.0 valid.1 writable in
    c.from.ensures (c.in-Err.ensures.basic _ (laid_out_as _ c.in_ok-text.text _ _ _ c.as_str.ensures.value c.in_ok-text.ensures.text laid))
