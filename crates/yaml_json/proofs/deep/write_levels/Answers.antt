use Rattle.yaml_json.proofs.Answering.{arith, finished, left_after, left_stopped, opened, opened_smaller, opening_stopped, part_next, place, refl, resumed, resumed_smaller, root_next, stands_in, stopped_first, writes_err, writes_ok}
use Rattle.yaml_json.proofs.deep.write_levels.Goals as goal

pub returns-in_err-margin-clause-text : goal.returns-in_err-margin-clause-text
returns-in_err-margin-clause-text g c =
    writes_err c.from_residual.ensures.0 (opening_stopped (root_next _ c.requires.parts)
    (rw c.of-level.ensures.tree at c.in_err-margin.ensures.stopped))

pub levels-init : goal.levels-init
levels-init g c =
    let is = c.of-level.ensures.tree in
    record {
      stands = rw is (stands_in (root_next _ c.requires.parts) c.of-level.ensures.given c.in_ok-margin.ensures.margin
          (rw is at c.in_ok-margin.ensures.wrote));
      within = omega arith;
    }

pub returns-in_err-stop-clause-text : goal.returns-in_err-stop-clause-text
returns-in_err-stop-clause-text g c =
    writes_err c.from_residual-in_err-stop.ensures.0
    (left_stopped c.levels.invariant.stands.left (stopped_first _ c.in_err-stop.ensures.stopped))

pub bounds-places-waiting : goal.bounds-places-waiting
bounds-places-waiting g c =
    place c.levels.invariant c.in-Some.stop.passed (rw c.in-Some.is at c.in_ok-stop.ensures.stop)
    (omega (arith, c.requires.room, c.levels.auto.places))

pub returns-in_err-margin-in-Some-clause-text : goal.returns-in_err-margin-in-Some-clause-text
returns-in_err-margin-in-Some-clause-text g c =
    writes_err c.from_residual-in_err-margin-in-Some.ensures.0
    (opening_stopped (part_next c.levels.invariant.stands (rw c.in-Some.is at c.in_ok-stop.ensures.stop))
    (rw c.of-level-in-Some.ensures.tree at c.in_err-margin-in-Some.ensures.stopped))

pub levels-smaller-in-Some : goal.levels-smaller-in-Some
levels-smaller-in-Some g c =
    opened_smaller c.levels.invariant c.in-Some.stop.passed (rw c.in-Some.is at c.in_ok-stop.ensures.stop)
    (omega (arith, c.requires.room, c.levels.auto.places)) c.of-level-in-Some.result c.of-level-in-Some.ensures.tree

pub levels-preserved-in-Some : goal.levels-preserved-in-Some
levels-preserved-in-Some g c =
    opened c.levels.invariant c.in-Some.stop.passed (rw c.in-Some.is at c.in_ok-stop.ensures.stop)
    (omega (arith, c.requires.room, c.levels.auto.places)) c.of-level-in-Some.result c.of-level-in-Some.ensures.tree
    c.of-level-in-Some.ensures.given c.in_ok-margin-in-Some.ensures.margin c.in_ok-margin-in-Some.ensures.wrote

pub returns-in_err-margin-in-None-clause-text : goal.returns-in_err-margin-in-None-clause-text
returns-in_err-margin-in-None-clause-text g c =
    writes_err c.from_residual-in_err-margin-in-None.ensures.0
    (left_stopped (left_after c.levels.invariant.stands.left (rw c.in-None.is at c.in_ok-stop.ensures.end).wrote)
    (stopped_first _ c.in_err-margin-in-None.ensures.stopped))

pub returns-then-waiting-eq0-clause-text : goal.returns-then-waiting-eq0-clause-text
returns-then-waiting-eq0-clause-text g c =
    let end = rw c.in-None.is at c.in_ok-stop.ensures.end in
    writes_ok refl (finished c.levels.invariant c.if-waiting-eq0.true end c.in_ok-margin-in-None.ensures.wrote).0

pub levels-smaller : goal.levels-smaller
levels-smaller g c = resumed_smaller c.levels.invariant c.index-places-waiting.result c.if-waiting-eq0.false c.index-places-waiting.is

pub levels-preserved : goal.levels-preserved
levels-preserved g c =
    resumed c.levels.invariant c.index-places-waiting.result c.if-waiting-eq0.false c.index-places-waiting.is
    (rw c.in-None.is at c.in_ok-stop.ensures.end) c.in_ok-margin-in-None.ensures.margin c.in_ok-margin-in-None.ensures.wrote
