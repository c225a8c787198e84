-- What the code of quoted scalars holds, as the model's states.
use Rattle.std.specs.Prelude.{◌≡◌, ◌≢◌, ◌≤◌, ◌<◌, ℕ, Result, Err, OnOk, IfOk, IfErr, slice_index}
use Rattle.yaml_chars.specs.WindowView.{WindowView, Reads, Sees, HasChar, position_of}
use Rattle.yaml_tokens.specs.declared.problem.Fault.{Fault}
use Rattle.yaml_tokens.specs.declared.problem.Fault.TheVariants.{OutOfMemory}
use Rattle.yaml_lexers.specs.declared.folding.Folding.{Folding}
use Rattle.yaml_lexers.specs.declared.quoted.Quote.{Quote}
use Rattle.yaml_lexers.specs.Shown.{folded}
use Rattle.model_scanner.specs.Folding.{Folded}
use Rattle.model_scanner.specs.Quoted.{Mode, QuotedState, quoted_from}

-- what was read of a quoted scalar in front of a window's next characters
abbrev pub at_folded : {T : Type 0} → Mode → WindowView T → Folded → QuotedState
at_folded mode w t = record { mode = mode; position = position_of w; folded = t }

abbrev pub at : {T : Type 0} → Mode → WindowView T → Folding → QuotedState
at mode w p = at_folded mode w (folded p)

-- What is left at one position of a scalar is read as what is left at a later one.
abbrev pub GoesOn : {T : Type 0} → Quote → (from : Mode) → WindowView T → Folding → (to : Mode) → WindowView T → Folding → Type 0
GoesOn q from old before to new so_far =
    Reads old new (λ a b. quoted_from q.single q.context q.start a (at from old before) ≡ quoted_from q.single q.context q.start b (at to new so_far))

-- what is left at a position of a scalar is refused with this fault, unless memory was refused
abbrev pub IsRefused : {T : Type 0} → Quote → (from : Mode) → WindowView T → Folding → WindowView T → Fault → Type 0
IsRefused q from old before new fault =
    Reads old new (λ a b. fault ≢ OutOfMemory → quoted_from q.single q.context q.start a (at from old before) ≡ Err fault)

-- the scalar is read on to the mode of the answer, by a character or more, or it is refused
abbrev pub ReadsOn : {T A : Type 0} → Quote → (from : Mode) → WindowView T → Folding → Result A Fault → (A → Mode) → WindowView T → Folding → Type 0
ReadsOn q from old before result to new so_far = record {
  ok : IfOk result (λ x. GoesOn q from old before (to x) new so_far);
  err : IfErr result (λ e. IsRefused q from old before new e);
  less : OnOk result (new.left < old.left);
}

-- c stands at the front of a window that holds so many positions
abbrev pub Shows : {T : Type 0} → WindowView T → (positions c : ℕ) → Type 0
Shows w positions c = record {
  here : Sees w (λ a. c ≡ slice_index a 0);
  has : HasChar w;
  ahead : positions ≤ w.ahead;
}
