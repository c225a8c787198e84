-- What the code holds of what the arguments ask for.
use Rattle.std.specs.Prelude.{◌≡◌, List, ◌++◌, map, option_map}
use Rattle.std.specs.Borrow.{Bor}
use Rattle.yaml_programs.specs.Arguments.{Text, Row, Setting, Stopped, helps, tells_version, refuses, Word, file, sets, awaits, stops_at, Asked, reads, stops, asked_behind}
use Rattle.yaml_programs.specs.declared.option.ProgramOption.{ProgramOption}
use Rattle.yaml_programs.specs.declared.words.Stop.{Stop}
use Rattle.yaml_programs.specs.declared.words.Stop.TheVariants as stop
use Rattle.yaml_programs.specs.declared.words.Setting as given
use Rattle.yaml_programs.specs.declared.words.Word as read
use Rattle.yaml_programs.specs.declared.words.Word.TheVariants as word
use Rattle.yaml_programs.specs.declared.words.Words.{Words}

-- a reason to stop, but for refused memory, which comes at any word
abbrev pub StopsAs : {A : Type 0} → (Stopped → A) → A → Stop → Type 0
StopsAs because a stop.Help = a ≡ because helps
StopsAs because a stop.Version = a ≡ because tells_version
StopsAs because a (stop.Refused w r) = a ≡ because (refuses w.now r)
StopsAs because a stop.OutOfMemory = Unit {0}

-- a word
abbrev pub IsWord : Word → read.Word → Type 0
IsWord w word.File = w ≡ file
IsWord w (word.Sets s) = w ≡ sets s.name.now s.value.now
IsWord w (word.Awaits name) = w ≡ awaits name.now
IsWord w (word.Stops s) = StopsAs stops_at w s

abbrev pub row : ProgramOption → Row
row o = (o.name.now, o.takes.now)

abbrev pub setting_view : given.Setting → Setting
setting_view s = (s.name.now, s.value.now)

abbrev pub text_view : Bor Text → Text
text_view t = t.now

-- what words ask for, behind those that were taken
abbrev pub behind : List Setting → List Text → Asked → Asked
behind settings files (reads more others) = reads (settings ++ more) (files ++ others)
behind settings files (stops why) = stops why

-- what the words ask for that are still to come
abbrev pub left : Words → List Row → List Text → Asked
left w options words =
    behind (map setting_view w.settings.items) (map text_view w.files.items)
    (asked_behind options (option_map text_view w.awaits) words)

-- why a reading stops
abbrev pub StopsAt : Asked → Stop → Type 0
StopsAt a s = StopsAs stops a s
