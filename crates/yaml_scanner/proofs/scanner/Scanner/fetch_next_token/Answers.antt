use Rattle.yaml_scanner.proofs.Common.{true}
use Rattle.yaml_scanner.proofs.scanner.Scanner.fetch_next_token.Goals as goal

pub keep-requires : goal.keep-requires
keep-requires g c = record { follows = λ mark. c.in-Err.ensures.err mark true (λ late. absurd cc) }
