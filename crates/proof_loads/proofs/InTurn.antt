-- Layouts one after another mean their trees, and have no NUL.
use Rattle.proof_loads.proofs.Common.{[], ap, dumps_are_laid_out_in_turn, IsWithoutNul, Means, refl, stream_by, subst, sym, tokens_read_as_their_trees, up_to_nul, ◌∙◌, ◌∷◌}
use Rattle.defs_layout.specs.DumpsInTurn.{dump_texts}
use Rattle.proof_loads.proofs.HasRows.Steps.{nothing_has_its_tokens}
use Rattle.proof_loads.proofs.TokensInTurn.{layouts_in_turn_have_their_tokens}
use Rattle.proof_loads.specs.InTurn.{LayoutsInTurnMeanTheirTrees, LayoutsInTurnAreWithoutNul, DumpsInTurnMeanTheirTrees}
use Rattle.proof_loads.proofs.LayoutNul.{layouts_have_no_nul}
use Rattle.proof_loads.proofs.RowTexts.{means}

pub layouts_in_turn_have_no_nul : LayoutsInTurnAreWithoutNul
layouts_in_turn_have_no_nul [] text none = ap up_to_nul none ∙ sym none
layouts_in_turn_have_no_nul (t ∷ ts) text laid = let z = layouts_in_turn_have_their_tokens t ts text laid in subst IsWithoutNul z.2 (layouts_have_no_nul z.0 z.1)

pub layouts_in_turn_are_read : LayoutsInTurnMeanTheirTrees
layouts_in_turn_are_read keep_tags [] text none =
    subst (λ a. Means keep_tags a []) (sym none) (means refl nothing_has_its_tokens (record { documents = []; stream = stream_by refl refl; trees_are = refl }))
layouts_in_turn_are_read keep_tags (t ∷ ts) text laid =
    let z = layouts_in_turn_have_their_tokens t ts text laid in
    subst (λ trees. Means keep_tags text trees) z.3 (means (layouts_in_turn_have_no_nul (t ∷ ts) text laid) z.4 (tokens_read_as_their_trees keep_tags z.0 z.1))

pub dumps_in_turn_are_read : DumpsInTurnMeanTheirTrees
dumps_in_turn_are_read keep_tags compact multiline ts can = layouts_in_turn_are_read keep_tags ts (dump_texts compact multiline ts) (dumps_are_laid_out_in_turn compact multiline ts can)
