-- Layouts in turn are one layout: so they have its tokens.
use Rattle.proof_loads.proofs.Common.{[], HasToks, IsRefused, layout_tokens, LayoutsInTurnAreNotRefused, LayoutsInTurnHaveTheirTokens, subst, ◌∷◌}
use Rattle.defs_layout.proofs.InTurn.{layouts_in_turn}
use Rattle.proof_loads.proofs.HasRows.Steps.{none_is_refused, nothing_has_its_tokens}
use Rattle.proof_loads.proofs.LayoutTokens.Texts.{layouts_have_their_tokens}

pub layouts_in_turn_have_their_tokens : LayoutsInTurnHaveTheirTokens
layouts_in_turn_have_their_tokens t ts text laid =
    let z = layouts_in_turn t ts text laid in (z.0, z.1, z.2, z.3, subst (λ a. HasToks a (layout_tokens z.0)) z.2 (layouts_have_their_tokens z.0 z.1))

pub layouts_in_turn_are_not_refused : LayoutsInTurnAreNotRefused
layouts_in_turn_are_not_refused [] text none f refusal = none_is_refused [] _ nothing_has_its_tokens f (subst (λ a. IsRefused a f) none refusal)
layouts_in_turn_are_not_refused (t ∷ ts) text laid f refusal = let z = layouts_in_turn_have_their_tokens t ts text laid in none_is_refused text (layout_tokens z.0) z.4 f refusal
