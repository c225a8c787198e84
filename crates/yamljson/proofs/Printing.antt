-- A file is printed if its documents are.
use Rattle.std.proofs.Common.{◌≡◌, ℕ, ◌+◌, ◌<◌, List, length, get_or, take, string_bytes, Global, sym, subst}
use Rattle.std.specs.Prelude.{Result, Ok, Vec, String, chars}
use Rattle.std.proofs.lemmas.List.{take_more}
use Rattle.std.proofs.lemmas.List.Elements.{All-push}
use Rattle.defs_text.specs.Text.{up_to_nul}
use Rattle.defs_layout.specs.HasJson.{HasJson}
use Rattle.yaml_tree.specs.View.{view}
use Rattle.yaml_tree.specs.declared.yaml.Yaml.{Yaml}
use Rattle.yaml_loader.specs.Limited.{Answers}
use Rattle.yaml_loader.specs.declared.limits_error.LimitsError.{LimitsError}
use Rattle.yaml_loader.specs.declared.limits.Limits.{Limits}
use Rattle.yaml_programs.specs.declared.bounds.Bounds.{Bounds}
use Rattle.yamljson.specs.Printed.{IsText, IsLoaded, HaveJson, IsPrinted, limits_of}
use Rattle.yamljson.specs.declared.run.YamlJson.{YamlJson}

pub printing : (p : YamlJson) (path bytes : List ℕ) (s : String Global) (utf8 : List ℕ) (documents : Vec Yaml Global) (items : List Yaml)
    → IsText bytes s → utf8 ≡ string_bytes s → IsLoaded p.bounds utf8 documents → items ≡ documents.items → HaveJson items → IsPrinted p path bytes
printing p path bytes s utf8 documents items decoded spelled loaded same written =
    (s, decoded, documents, subst (λ u. IsLoaded p.bounds u documents) spelled loaded, subst HaveJson same written)

pub loading : (b : Bounds) (utf8 : List ℕ) (l : Limits) (r : Result (Vec Yaml Global) LimitsError) (documents : Vec Yaml Global)
    → l ≡ limits_of b (length utf8) → Answers l (up_to_nul (chars utf8)) r → r ≡ Ok documents → IsLoaded b utf8 documents
loading b utf8 l r documents limits answers loaded =
    subst (λ x. Answers (limits_of b (length utf8)) (up_to_nul (chars utf8)) x) loaded (subst (λ m. Answers m (up_to_nul (chars utf8)) r) limits answers)

pub written_more : (documents : List Yaml) (i : ℕ) (d : Yaml) → i < length documents → HasJson (view (get_or documents i d))
    → HaveJson (take i documents) → HaveJson (take (i + 1) documents)
written_more documents i d below written before =
    subst HaveJson (sym (take_more documents i d below)) (All-push (λ y. HasJson (view y)) (take i documents) (get_or documents i d) before written)
