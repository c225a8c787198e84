-- Laws of whole texts: each is the contract of the function of `src/laws.rt` that its comment names.
use Rattle.std.specs.Prelude.{◌≡◌, ℕ, ◌⊎◌, List, ◌++◌, true}
use Rattle.defs_token.specs.Token.{Token}
use Rattle.defs_token.specs.Cut.{IsCut, IsCutOfBeginning}
use Rattle.model_scanner.specs.State.{ScannerState}
use Rattle.yaml_tokens.specs.declared.problem.Fault.{Fault}
use Rattle.model_scanner.specs.Run.{start, Reaches, HasTokens, IsRefused}
use Rattle.defs_text.specs.Text.{has_no_nul}
use Rattle.proof_scanner.specs.Faults.{IsThere, is_shown}
use Rattle.proof_scanner.specs.Positions.{IsWhere}

-- `tokens_are_a_cut`
abbrev pub TokensAreACut : Type 0
TokensAreACut = (text : List ℕ) (tokens : List Token) → has_no_nul text ≡ true → HasTokens text tokens → IsCut tokens text

-- `first_tokens_are_a_cut`: of any run's tokens the first are a cut of the whole text, where the stream's end is among them, or else of a beginning of it
abbrev pub FirstTokensAreACut : Type 0
FirstTokensAreACut =
    (text : List ℕ) (given more : List Token) (last : ScannerState) → has_no_nul text ≡ true → Reaches (start text) last → last.held.tokens ≡ given ++ more → IsCut given text ⊎ IsCutOfBeginning given text

-- `shown_faults_stand_in_the_text`
abbrev pub ShownFaultsStandInTheText : Type 0
ShownFaultsStandInTheText = (text : List ℕ) (f : Fault) → has_no_nul text ≡ true → IsRefused text f → is_shown f ≡ true → IsThere text f

-- `positions_are_in_the_text`
abbrev pub PositionsAreInTheText : Type 0
PositionsAreInTheText = (text : List ℕ) (last : ScannerState) → has_no_nul text ≡ true → Reaches (start text) last → IsWhere text last
