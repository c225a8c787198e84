use Rattle.overlay.proofs.Common.{ap, bytes_eq, codes, merge_key, sym, tree_eq, view, ◌∙◌}
use Rattle.overlay.proofs.MergeKey.{is_the_key}
use Rattle.overlay.proofs.find.is_merge_key.Goals as goal

pub returns-in-String : goal.returns-in-String
returns-in-String c =
    c.eq.ensures ∙ ap (λ b. bytes_eq b (codes "<<")) c.as_str.ensures.value ∙ is_the_key c.in-String.text ∙ ap (λ y. tree_eq merge_key (view y)) (sym c.in-String.is)
