-- Equality of faults: of position, text, and whether memory was refused.
use Rattle.std.specs.Prelude.{Bool, nat_eq}
use Rattle.std.specs.Ordering.{on, eq_of_both}
use Rattle.std.specs.Bool.{beq}
use Rattle.std.specs.Cmp.{IsEquivalence, bool_eq_equiv}
use Rattle.std.proofs.lemmas.Cmp.{on_equiv, and_equiv, nat_list_eq_equiv, nat_eq_equiv}
use lib.Pointwise.{pointwise}
use Rattle.defs_text.specs.Position.{Position}
use Rattle.yaml_tokens.specs.ErrorReport.{ErrorReport}

abbrev pub position_eq : Position → Position → Bool
position_eq = eq_of_both (on (λ (p : Position). p.index) nat_eq) (eq_of_both (on (λ (p : Position). p.line) nat_eq) (on (λ (p : Position). p.col) nat_eq))

abbrev pub fault_eq : ErrorReport → ErrorReport → Bool
fault_eq = eq_of_both (on (λ (f : ErrorReport). f.position) position_eq) (eq_of_both (on (λ (f : ErrorReport). f.memory) beq) (on (λ (f : ErrorReport). f.text) (pointwise nat_eq)))

pub position_eq_equiv : IsEquivalence position_eq
position_eq_equiv = and_equiv (on_equiv (λ (p : Position). p.index) nat_eq_equiv) (and_equiv (on_equiv (λ (p : Position). p.line) nat_eq_equiv) (on_equiv (λ (p : Position). p.col) nat_eq_equiv))

pub fault_eq_equiv : IsEquivalence fault_eq
fault_eq_equiv = and_equiv (on_equiv (λ (f : ErrorReport). f.position) position_eq_equiv) (and_equiv (on_equiv (λ (f : ErrorReport). f.memory) bool_eq_equiv) (on_equiv (λ (f : ErrorReport). f.text) nat_list_eq_equiv))
