-- Laws of texts that are one quoted scalar: each is the contract of the function of `src/quoted.rt` that its comment names.
use Rattle.std.specs.Prelude.{ℕ, Bool, List, [], ◌∷◌}
use Rattle.defs_tree.specs.Tree.{Tree}
use Rattle.defs_layout.specs.QuotedText.{IsQuoted}
use Rattle.defs_event.specs.Meaning.{Means}
use Rattle.proof_loads.specs.Spelled.{IsWithoutNul}

-- `quoted_texts_mean_their_string`
abbrev pub QuotedTextsMeanTheirString : Type 0
QuotedTextsMeanTheirString = (keep_tags : Bool) (text value : List ℕ) → IsQuoted value text → Means keep_tags text (Tree.string value ∷ [])

-- `quoted_texts_are_without_nul`
abbrev pub QuotedTextsAreWithoutNul : Type 0
QuotedTextsAreWithoutNul = (text value : List ℕ) → IsQuoted value text → IsWithoutNul text
