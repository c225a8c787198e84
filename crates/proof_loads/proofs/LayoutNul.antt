-- No text that is laid out in lines has a NUL.
use Rattle.proof_loads.proofs.Common.{LayoutsAreWithoutNul}
use Rattle.proof_loads.proofs.HasRows.Values.{layout_reads}
use Rattle.proof_loads.proofs.Nul.{whole}

pub layouts_have_no_nul : LayoutsAreWithoutNul
layouts_have_no_nul w is = whole _ (layout_reads w is).none
