-- Characters to tokens, and faults.
pub use Rattle.yaml_rust2.specs.ErrorReport.{ErrorReport, printed}
pub use Rattle.yaml_rust2.specs.FaultLaws.{fault_eq, fault_eq_equiv}
pub use Rattle.yaml_rust2.specs.Next.{GivesNext}
pub use Rattle.yaml_rust2.specs.Problem.{fault_of, text_of_problem}
pub use Rattle.yaml_rust2.specs.Scanned.{HandsBoth, HandsNothing, HandsOut, LeavesNoRow, Refuses, Scan, Scans, scanned}
pub use Rattle.yaml_rust2.specs.Token.{Tok}
pub use Rattle.yaml_rust2.specs.TokensShown.{keeps_text, shown, style_of, tok_of}
