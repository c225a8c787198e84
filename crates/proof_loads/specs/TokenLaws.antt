-- Laws of the scanner's model and whole texts, and of quoted scalars: each is the contract of the function of `src/laws.rt` that its comment names.
use Rattle.std.specs.Prelude.{◌≡◌, ℕ, List, [], ◌∷◌}
use Rattle.defs_token.specs.Token.{Tok, Token}
use Rattle.defs_token.specs.Toks.{toks}
use Rattle.yaml_tokens.specs.declared.problem.Fault.{Fault}
use Rattle.defs_tree.specs.Tree.{Tree}
use Rattle.defs_layout.specs.Json.{JsonText, IsWellFormed, spell_text}
use Rattle.defs_layout.specs.Layout.{Layout, IsLayout, spell, trees_of}
use Rattle.defs_layout.specs.InTurn.{AreLaidOutInTurn}
use Rattle.defs_layout.specs.JsonTokens.{json_text_tokens}
use Rattle.defs_layout.specs.LayoutTokens.{layout_tokens}
use Rattle.defs_layout.specs.QuotedText.{HasQuotedTokens}
use Rattle.model_scanner.specs.Run.{HasTokens, IsRefused}
use Rattle.model_scanner.specs.TextTokens.{HasToks}

-- ---- any text

-- `texts_have_one_list_of_tokens`
abbrev pub TextsHaveOneListOfTokens : Type 0
TextsHaveOneListOfTokens = (a : List ℕ) (ts us : List Token) → HasTokens a ts → HasTokens a us → ts ≡ us

-- `texts_with_tokens_are_not_refused`
abbrev pub TextsWithTokensAreNotRefused : Type 0
TextsWithTokensAreNotRefused = (a : List ℕ) (ts : List Token) (f : Fault) → HasTokens a ts → IsRefused a f → ⊥

-- ---- JSON texts

-- `json_texts_have_their_tokens`
abbrev pub JsonTextsHaveTheirTokens : Type 0
JsonTextsHaveTheirTokens = (w : JsonText) → IsWellFormed w → HasToks (spell_text w) (json_text_tokens w)

-- `json_texts_have_no_other_tokens`
abbrev pub JsonTextsHaveNoOtherTokens : Type 0
JsonTextsHaveNoOtherTokens = (w : JsonText) → IsWellFormed w → (ts : List Token) → HasTokens (spell_text w) ts → toks ts ≡ json_text_tokens w

-- `json_texts_are_not_refused`
abbrev pub JsonTextsAreNotRefused : Type 0
JsonTextsAreNotRefused = (w : JsonText) → IsWellFormed w → (f : Fault) → IsRefused (spell_text w) f → ⊥

-- ---- texts laid out in lines

-- `layouts_have_their_tokens`
abbrev pub LayoutsHaveTheirTokens : Type 0
LayoutsHaveTheirTokens = (w : Layout) → IsLayout w → HasToks (spell w []) (layout_tokens w)

-- `layouts_have_no_other_tokens`
abbrev pub LayoutsHaveNoOtherTokens : Type 0
LayoutsHaveNoOtherTokens = (w : Layout) → IsLayout w → (ts : List Token) → HasTokens (spell w []) ts → toks ts ≡ layout_tokens w

-- `layouts_are_not_refused`
abbrev pub LayoutsAreNotRefused : Type 0
LayoutsAreNotRefused = (w : Layout) → IsLayout w → (f : Fault) → IsRefused (spell w []) f → ⊥

-- `layouts_in_turn_have_their_tokens`: together they are one layout, and have its tokens
abbrev pub LayoutsInTurnHaveTheirTokens : Type 0
LayoutsInTurnHaveTheirTokens =
    (t : Tree) (ts : List Tree) (text : List ℕ) → AreLaidOutInTurn (t ∷ ts) text
    → (w : Layout) × IsLayout w × (spell w [] ≡ text) × (trees_of w.documents ≡ t ∷ ts) × HasToks text (layout_tokens w)

-- `layouts_in_turn_are_not_refused`
abbrev pub LayoutsInTurnAreNotRefused : Type 0
LayoutsInTurnAreNotRefused = (ts : List Tree) (text : List ℕ) → AreLaidOutInTurn ts text → (f : Fault) → IsRefused text f → ⊥

-- ---- texts of one quoted scalar

-- `quoted_texts_have_their_tokens`
abbrev pub QuotedTextsHaveTheirTokens : Type 0
QuotedTextsHaveTheirTokens = (text : List ℕ) (tokens : List Tok) → HasQuotedTokens text tokens → HasToks text tokens
