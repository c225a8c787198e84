-- What a formatter has taken after calls in a row.
use Rattle.std.specs.declared.fmt.Formatter.{Formatter}
use Rattle.yaml_emitter.proofs.Common.{[], ap, concat, encode_utf8_all, encodes-append, FoldsTo, has_written_append, has_written_of_eq, HasWritten, List, subst, sym, writes_in_calls_nil, Wrote, ℕ, ◌∷◌}
use Rattle.yaml_emitter.specs.FmtText.{TakesPlain}

took_parts : {W : Type 0} (takes : W → List ℕ → W → Type 0) (f : Formatter W) (parts : List (List ℕ)) (g : Formatter W)
    → FoldsTo (TakesPlain takes) f parts g → TakesPlain takes f (concat parts) g
took_parts takes f [] g e plain = subst (HasWritten takes f []) e (record { wrote = writes_in_calls_nil takes _; plain = plain })
took_parts takes f (part ∷ parts) g p plain =
    let first = p.1 plain in
    has_written_of_eq takes _ _ _ _ (sym (encodes-append part (concat parts))) (has_written_append takes _ _ _ _ _ first (took_parts takes p.0 parts g p.2 first.plain))

pub took_all : {W : Type 0} {takes : W → List ℕ → W → Type 0} (f : Formatter W) (text : List ℕ) (g : Formatter W)
    → Wrote (TakesPlain takes) f text g → TakesPlain takes f text g
took_all {takes = takes} f text g p plain = has_written_of_eq takes _ _ _ _ (ap encode_utf8_all p.whole) (took_parts takes f p.parts g p.calls plain)
