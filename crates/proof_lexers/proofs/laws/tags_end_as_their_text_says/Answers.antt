use Rattle.proof_lexers.proofs.Properties.Tags.{tags_end}
use Rattle.proof_lexers.proofs.laws.tags_end_as_their_text_says.Goals as goal

pub returns : goal.returns
returns c = tags_end
