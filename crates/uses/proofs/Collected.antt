-- What the receiver holds after the events that it took.
use Rattle.std.proofs.Common.{◌≡◌, List, [], ◌∷◌, ◌++◌, sym, ap, ◌∙◌, append_assoc, append-nil}
use Rattle.std.specs.Prelude.{Result, OnOk}
use Rattle.yaml_rust2.specs.Event.{Ev}
use Rattle.yaml_rust2.specs.ErrorReport.{ErrorReport}
use Rattle.yaml_rust2.specs.Loads.{Receives, no_event, one_event}
use Rattle.yaml_rust2.specs.Position.{Position}
use Rattle.uses.specs.Anchors.{listed, number_of, anchors_in}
use Rattle.uses.specs.declared.anchors.Anchors.{Anchors}

-- what a call of the receiver does
abbrev pub notes : Anchors → Ev → Position → Result (Unit {0}) ErrorReport → Anchors → Type 0
notes before e p result after = OnOk result (after.numbers.items ≡ before.numbers.items ++ listed (number_of e))

one_more : (es : List (Ev × Position)) (e : Ev) (p : Position) → anchors_in (es ++ (e, p) ∷ []) ≡ anchors_in es ++ listed (number_of e)
one_more [] e p = append-nil (listed (number_of e))
one_more (f ∷ es) e p = ap (λ t. listed (number_of f.0) ++ t) (one_more es e p) ∙ sym (append_assoc (listed (number_of f.0)) (anchors_in es) (listed (number_of e)))

pub all_noted : {r s : Anchors} {es : List (Ev × Position)} → Receives notes r es s → s.numbers.items ≡ r.numbers.items ++ anchors_in es
all_noted {r = r} no_event = sym (append-nil r.numbers.items)
all_noted {r = r} (one_event {es = es} e p before last) =
    last ∙ ap (λ t. t ++ listed (number_of e)) (all_noted before) ∙ append_assoc r.numbers.items (anchors_in es) (listed (number_of e))
    ∙ ap (λ t. r.numbers.items ++ t) (sym (one_more es e p))
