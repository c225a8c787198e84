-- Layouts mean their trees.
use Rattle.proof_loads.proofs.Common.{LayoutsMeanTheirTrees, tokens_read_as_their_trees}
use Rattle.proof_loads.proofs.LayoutTokens.Texts.{layouts_have_their_tokens}
use Rattle.proof_loads.proofs.LayoutNul.{layouts_have_no_nul}
use Rattle.proof_loads.proofs.RowTexts.{means}

pub layouts_are_read : LayoutsMeanTheirTrees
layouts_are_read keep_tags w is = means (layouts_have_no_nul w is) (layouts_have_their_tokens w is) (tokens_read_as_their_trees keep_tags w is)
