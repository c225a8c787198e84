-- What clauses see of an emitter: the writer and its name, and the settings.
use Rattle.std.specs.Prelude.{ℕ, Bool}
use Rattle.yaml_emitter.specs.declared.emitter.YamlEmitter.{YamlEmitter}

-- what the writer holds
abbrev pub writer_of : {W : Type 0} → YamlEmitter W → W
writer_of e = e.writer.now

-- whether arrays and hashes start after their marks
abbrev pub compact_of : {W : Type 0} → YamlEmitter W → Bool
compact_of e = e.settings.compact

-- whether strings of several lines are written as literal blocks
abbrev pub multiline_of : {W : Type 0} → YamlEmitter W → Bool
multiline_of e = e.settings.multiline

-- the name by which the caller's writer is known
abbrev pub writer_name : {W : Type 0} → YamlEmitter W → ℕ
writer_name e = e.writer.ghost_name
