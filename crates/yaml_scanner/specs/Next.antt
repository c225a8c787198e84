-- What the scanner gives as an iterator of tokens.
use Rattle.std.specs.Prelude.{◌≡◌, true, false, Option, None, IfSome, IfNone}
use Rattle.yaml_tokens.specs.ErrorReport.{ErrorReport}
use Rattle.yaml_tokens.specs.declared.token.Token as code
use Rattle.yaml_tokens.specs.Shown.{shown}
use Rattle.yaml_scanner.specs.Scanned.{Scan, scanned, HandsOut, Refuses, Scans}

-- no token is given: a fault that is kept stays, and nothing else changes; nor does anything after the end; else a fault is met, and is kept
pub record GivesNone {T : Type 0} (before after : Scan T) : Type 0 where
  pub again : IfSome (scanned before).fault (λ f. after ≡ before)
  pub over : (scanned before).fault ≡ None → (scanned before).ended ≡ true → after ≡ before
  pub met : (scanned before).fault ≡ None → (scanned before).ended ≡ false → (f : ErrorReport) × Refuses (scanned before) f (scanned after)

-- a token more, or none
pub record GivesNext {T : Type 0} (before : Scan T) (r : Option code.Token) (after : Scan T) : Type 0 where
  pub token : IfSome r (λ t. HandsOut (scanned before) (shown t) (scanned after))
  pub none : IfNone r (GivesNone before after)
  pub start : after.start ≡ before.start
  pub scans : Scans (scanned after)
