-- Each lexing function reads a piece of the cut, and a separation after it.
use Rattle.proof_scanner.proofs.Common.{PiecesAreRead}
use Rattle.proof_scanner.proofs.Cut.Pieces.Plains.{plain_is_read}
use Rattle.proof_scanner.proofs.Cut.Pieces.Quoted.{quoted_is_read}
use Rattle.proof_scanner.proofs.Cut.Pieces.Blocks.{block_is_read}
use Rattle.proof_scanner.proofs.Cut.Pieces.Names.{name_is_read}
use Rattle.proof_scanner.proofs.Cut.Pieces.Tags.{tag_is_read}
use Rattle.proof_scanner.proofs.Cut.Pieces.Directives.{directive_is_read}

pub pieces_are_read : PiecesAreRead
pieces_are_read = record { plain = plain_is_read; quoted = quoted_is_read; block = block_is_read; name = name_is_read; tag = tag_is_read; directive = directive_is_read }
