-- From a look, and what is shown of it, to what a peek ensures.
use Rattle.std.proofs.Common.{IsSome, IfErr}
use Rattle.std.specs.Borrow.{Bor}
use Rattle.yaml_parser.proofs.Common.{Err, ErrorReport, Event, IfOk, Looks, MeetsFault, Ok, Parsed, Peeks, placed, Position, Result, ShowsLooked, ShowsNext, subst}

pub waits_where_ok : (old new : Parsed) (looked : Result (Unit {0}) ErrorReport) → Looks old looked new → IfOk looked (λ _. IsSome new.ahead)
waits_where_ok old new (Ok u) looks = looks.some
waits_where_ok old new (Err f) looks = tt

pub peeks : (old new : Parsed) (looked : Result (Unit {0}) ErrorReport) (shown : Result (Bor (Event × Position)) ErrorReport) → Looks old looked new → ShowsLooked looked new shown → Peeks old shown new
peeks old new looked (Ok e) looks shows = (subst (λ l. Looks old l new) shows.0 looks, shows.1)
peeks old new looked (Err f) looks shows = subst (λ l. Looks old l new) shows looks

pub shows_next : (old new : Parsed) (shown : Result (Bor (Event × Position)) ErrorReport) → Peeks old shown new → IfOk shown (λ e. ShowsNext old (placed e.now))
shows_next old new (Ok e) p = (new, p.0, p.1)
shows_next old new (Err f) p = tt

pub meets_fault : (old new : Parsed) (shown : Result (Bor (Event × Position)) ErrorReport) → Peeks old shown new → IfErr shown (λ f. MeetsFault old f)
meets_fault old new (Ok e) p = tt
meets_fault old new (Err f) p = (new, p)
