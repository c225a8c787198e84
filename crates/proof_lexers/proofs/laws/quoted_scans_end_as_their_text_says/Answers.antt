use Rattle.proof_lexers.proofs.Quoted.ScanEnds.{scans_end}
use Rattle.proof_lexers.proofs.laws.quoted_scans_end_as_their_text_says.Goals as goal

pub returns : goal.returns
returns c = scans_end
