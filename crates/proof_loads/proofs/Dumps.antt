-- The texts that are written for trees mean these trees.
use Rattle.proof_loads.proofs.Common.{[], dump_is_laid_out, DumpsMeanTheirTree, Means, one_meaning, subst, sym, trees_of, true, ◌∷◌, ◌≡◌}
use Rattle.defs_tree.specs.DumpText.{dump_text}
use Rattle.defs_layout.specs.DumpIsInjective.{DumpIsInjective}
use Rattle.proof_loads.proofs.LayoutTexts.{layouts_are_read}

pub dumps_are_read : DumpsMeanTheirTree
dumps_are_read keep_tags compact multiline t is =
    let laid = dump_is_laid_out compact multiline t is.0 is.1 is.2 in
    let text = subst (λ s. Means keep_tags s (trees_of laid.0.documents)) laid.3 (layouts_are_read keep_tags laid.0 laid.1) in
    subst (λ ts. Means keep_tags (dump_text compact multiline t) ts) laid.4 text

pub dump_is_injective : DumpIsInjective
dump_is_injective compact multiline t u is_t is_u same =
    let read_t = dumps_are_read true compact multiline t is_t in
    let read_u = subst (λ s. Means true s (u ∷ [])) (sym same) (dumps_are_read true compact multiline u is_u) in
    let one : t ∷ [] ≡ u ∷ [] = one_meaning true (dump_text compact multiline t) (t ∷ []) (u ∷ []) read_t read_u in
    cc
