use Rattle.yaml_json.proofs.place.position_in.Given as goal

abbrev pub invariant-characters : goal.invariant-characters
invariant-characters g l = Unit {0}

abbrev pub decreases-characters : goal.decreases-characters
decreases-characters g l = l.window.left
