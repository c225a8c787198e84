use Rattle.yaml_scanner.proofs.Common.{false, refl}
use Rattle.yaml_scanner.proofs.fetcher.Fetcher.fill_more.Goals as goal

-- no token was ready
pub returns-in-Err-clause-err : goal.returns-in-Err-clause-err
returns-in-Err-clause-err g c = λ mark. c.in-Err.ensures.err mark false (λ _. c.tokens-test.ensures.waits refl)
