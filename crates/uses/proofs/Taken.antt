-- A load that ended well pushed all events of its text.
use Rattle.std.proofs.Common.{◌≡◌, ℕ, List, Ok, Err, false, refl, subst}
use Rattle.std.specs.Prelude.{Bool, Result, IfOk}
use Rattle.yaml_rust2.specs.Event.{Ev}
use Rattle.yaml_rust2.specs.ErrorReport.{ErrorReport}
use Rattle.yaml_rust2.specs.Loads.{Receives}
use Rattle.yaml_rust2.specs.Position.{Position}
use Rattle.yaml_rust2.specs.PlacedEvents.{HasEvents}
use Rattle.yaml_rust2.specs.TextEvents.{AnswersText, whole, faulted, refused}

not_ok : (f : ErrorReport) (result : Result (Unit {0}) ErrorReport) → result ≡ Err f → result ≡ Ok tt → ⊥
not_ok f result is ok = cc

pub all_taken : {R : Type 0} {takes : R → Ev → Position → Result (Unit {0}) ErrorReport → R → Type 0} {r s : R} {result : Result (Unit {0}) ErrorReport} {keep_tags : Bool} {text : List ℕ}
    → AnswersText takes keep_tags text r result s → result ≡ Ok tt → keep_tags ≡ false → (es : List (Ev × Position)) × HasEvents false text es × Receives takes r es s
all_taken {text = text} (whole es has received) ok keep = (es, subst (λ k. HasEvents k text es) keep has, received)
all_taken (faulted es why after received) ok keep = absurd (not_ok _ _ refl ok)
all_taken (refused es last p begins received takes) ok keep = absurd (not_ok _ _ refl ok)

pub where_ok : {A E : Type 0} {P : Type 0} (result : Result A E) → P → IfOk result (λ x. P)
where_ok (Ok x) p = p
where_ok (Err e) p = tt
