-- Laws of the exact model and quoted scalars: each is the contract of the function of `src/laws.rt` that its comment names.
use Rattle.std.specs.Prelude.{◌≡◌, ℕ, List, ◌∷◌, ◌++◌, Bool, true, Some}
use Rattle.std.specs.List.{list_all}
use Rattle.defs_text.specs.Position.{Position}
use Rattle.model_scanner.specs.declared.context.Context.{Context}
use Rattle.model_scanner.specs.Quoted.{quote_of, quoted}
use Rattle.proof_lexers.specs.QuotedScan.{value_of, ends_before, is_some, IsRead}
use Rattle.proof_lexers.specs.Ends.{EndsAs}
use Rattle.proof_lexers.specs.QuotedEnds.{IsQuotedRead, IsQuotedRefusal}

-- `quoted_bodies_are_read`; `rest` is what stands after the closing quote
abbrev pub QuotedBodiesAreRead : Type 0
QuotedBodiesAreRead =
    (single : Bool) (ctx : Context) (body rest value : List ℕ) (p : Position) → value_of single body ≡ Some value → ends_before single rest ≡ true
    → IsRead ctx p value rest (quoted single ctx (quote_of single ∷ (body ++ quote_of single ∷ rest)) p)

-- `quoted_scans_end_as_their_text_says`; `text` is what stands after the opening quote
abbrev pub QuotedScansEndAsTheirTextSays : Type 0
QuotedScansEndAsTheirTextSays =
    (single : Bool) (ctx : Context) (text : List ℕ) (p : Position) → list_all is_some text ≡ true → EndsAs (IsQuotedRead single text) (IsQuotedRefusal single ctx p text) (quoted single ctx (quote_of single ∷ text) p)
