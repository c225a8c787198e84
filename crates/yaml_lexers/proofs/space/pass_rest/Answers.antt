use Rattle.yaml_lexers.proofs.Common.{Reads-map}
use Rattle.yaml_lexers.proofs.WordsLemmas.{comment_words}
use Rattle.yaml_lexers.proofs.space.pass_rest.Goals as goal

pub comment-init : goal.comment-init
comment-init g c = Reads-map _ _ c.pass_words.ensures (λ a b passed. comment_words a b _ _ passed)
