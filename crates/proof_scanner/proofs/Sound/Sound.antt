-- Each fetch keeps what holds between two fetches; so the tokens that the scanner's model gives a text are those of the text's row.
use Rattle.proof_scanner.proofs.Common.{TokensAreOfARow}
use Rattle.proof_scanner.proofs.Sound.Fetches.{fetch_keeps}
use Rattle.proof_scanner.proofs.Sound.Runs.{read_as_a_row}

-- The tokens that the model gives a text without NUL are those of its row, positions included.
pub tokens_are_of_a_row : TokensAreOfARow
tokens_are_of_a_row = read_as_a_row fetch_keeps
