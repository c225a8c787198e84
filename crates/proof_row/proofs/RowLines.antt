-- Like lines stay like over a separation.
use Rattle.proof_row.proofs.Common.{Bool, Line, line_past_separation, ◌≡◌, arith}
use Rattle.proof_row.proofs.Like.{LikeLine, Stepped}

pub separation_step : (fl broken : Bool) (l m : Line) → LikeLine l m → Stepped LikeLine (l ≡ m) (line_past_separation fl broken l) (line_past_separation fl broken m)
separation_step fl a l m i = grind arith
