-- Lemmas about a window.
use Rattle.yaml_lexers.proofs.Common.{ap, arith, Bool, false, HasChar, is_blank, is_blank_or_breakz, is_break, length, length-take, List, position_of, Possible-taken, Reads, SamePosition, WindowView, ℕ, ◌≡◌, ◌≢◌}

-- a character that stands at the front stays there
pub has_kept : {T : Type 0} {P : List ℕ → List ℕ → Type 0} (old new : WindowView T) → Reads old new P → new.at ≡ old.at → HasChar old → HasChar new
has_kept old new reads same has =
    let p = reads.back new.taken (Possible-taken new) in
    let e = length-take (length old.taken) new.taken in
    omega (arith, e, ap length p.begins)

pub position_kept : {T : Type 0} (old new : WindowView T) → SamePosition old new → position_of old ≡ position_of new
position_kept old new same = let i : new.at ≡ old.at = same.at in let l : new.line ≡ old.line = same.line in let c : new.col ≡ old.col = same.col in cc

-- what is no blank and no break, and does not stand for the end, is a character
pub is_some : (c : ℕ) (ends : Bool) → ends ≡ is_blank_or_breakz c → ends ≡ false → c ≢ 0
unfolding is_blank is_break
is_some c ends e h z = let i = rw (e, z) at h in cc
