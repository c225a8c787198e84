use Rattle.yaml_chars.proofs.Common.{◌-◌, ◌<◌}
use Rattle.yaml_chars.proofs.text_builder.TextBuilder.make_more_room.Given as goal

abbrev pub invariant-room : goal.invariant-room
invariant-room l = 0 < l.room

abbrev pub decreases-room : goal.decreases-room
decreases-room l = l.wanted - l.room
