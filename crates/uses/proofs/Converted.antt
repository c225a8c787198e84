-- What the text of a value is to the JSON text that it was read from.
use Rattle.std.proofs.Common.{◌≡◌, ℕ, Bool, List, Ok, Err, sym, subst, ◌∙◌}
use Rattle.std.specs.Prelude.{Result, IfOk, IfErr, OnOk, String}
use Rattle.yaml_rust2.specs.DumpIsLaidOut.{DumpsAreLaidOut}
use Rattle.yaml_rust2.specs.DumpText.{dump_text}
use Rattle.yaml_rust2.specs.Json.{IsJsonText}
use Rattle.yaml_rust2.specs.Basic.{IsBasicLayout}
use Rattle.yaml_rust2.specs.Text.{string_chars}
use Rattle.yaml_rust2.specs.Tree.{Tree}
use Rattle.yaml_rust2.specs.ValidTree.{IsValid}
use Rattle.yaml_rust2.specs.Writable.{IsWritable}

pub converted : {A E : Type 0} (r : Result (String A) E) (json : List ℕ) (c m : Bool) (u : Tree) → ((t : Tree) → IsJsonText t json → u ≡ t)
    → IfOk r (λ text. string_chars text ≡ dump_text c m u) → OnOk r (IsValid u) → DumpsAreLaidOut
    → IfOk r (λ yaml. (t : Tree) → IsJsonText t json → IsWritable t → IsBasicLayout t (string_chars yaml))
converted (Ok s) json c m u is text valid law = λ t j w.
    let e = is t j in
    subst (λ x. IsBasicLayout x (string_chars s)) e (subst (IsBasicLayout u) (sym text) (law c m u valid.0 valid.1 (subst IsWritable (sym e) w)))
converted (Err e) json c m u is text valid law = tt

pub refused_so : {A E : Type 0} (r : Result A E) (P : E → Type 0) (J : Tree → Type 0) → IfErr r P → IfErr r (λ e. (t : Tree) → J t → P e)
refused_so (Ok x) P J p = tt
refused_so (Err e) P J p = λ t j. p
