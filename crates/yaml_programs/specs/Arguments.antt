-- What the arguments of a program ask for, where these are its options. A text is its bytes.
use Rattle.std.specs.Prelude.{ℕ, ◌+◌, take, drop, ◌==◌, ◌||◌, not, Bool, if◌then◌else◌, List, [], ◌∷◌, ◌++◌, Option, Some, None, codes, find, length, slice_index}
use Rattle.std.specs.List.{before_first, after_first, position}
use Rattle.std.specs.Str.{bytes_eq}
use Rattle.yaml_programs.specs.declared.failure.Refusal.{Refusal}
use Rattle.yaml_programs.specs.declared.failure.Refusal.TheVariants.{NoSuchOption, TakesNone, TakesOne}

abbrev pub Text : Type 0
Text = List ℕ

-- an option that stands in the arguments, with what it takes
abbrev pub Setting : Type 0
Setting = Text × Text

-- why no file is read
pub data Stopped : Type 0 where
  helps : Stopped
  tells_version : Stopped
  refuses : (word : Text) → Refusal → Stopped

-- an option of a program: its name, and what the help calls the word that it takes, or nothing
abbrev pub Row : Type 0
Row = Text × Text

-- what a word is that no option takes
pub data Word : Type 0 where
  file : Word
  -- an option that takes nothing, or has what it takes behind a `=`
  sets : (name value : Text) → Word
  -- an option that takes the next word
  awaits : (name : Text) → Word
  stops_at : Stopped → Word

-- what words ask for
pub data Asked : Type 0 where
  reads : (settings : List Setting) → (files : List Text) → Asked
  stops : Stopped → Asked

-- the option of this name
abbrev pub option_named : List Row → Text → Option Row
option_named options name = find (λ o. bytes_eq o.0 name) options

abbrev pub takes_nothing : Row → Bool
takes_nothing o = length o.1 == 0

-- an option without a `=`
abbrev pub bare_word : Text → Option Row → Word
bare_word word None = stops_at (refuses word NoSuchOption)
bare_word word (Some o) = if takes_nothing o then sets o.0 [] else awaits o.0

-- an option with a `=`
abbrev pub valued_word : (word value : Text) → Option Row → Word
valued_word word value None = stops_at (refuses word NoSuchOption)
valued_word word value (Some o) = if takes_nothing o then stops_at (refuses word TakesNone) else sets o.0 value

abbrev pub is_equals_sign : ℕ → Bool
is_equals_sign b = b == 61

-- a word with its first `=` at this place, if it has one
abbrev pub word_with_sign : List Row → Text → Option ℕ → Word
word_with_sign options word None = bare_word word (option_named options word)
word_with_sign options word (Some i) = valued_word word (drop (i + 1) word) (option_named options (take i word))

-- a word that begins with `-` and asks for no help
abbrev pub option_word : List Row → Text → Word
option_word options word = word_with_sign options word (position is_equals_sign word)

abbrev pub dashed_word : List Row → Text → Word
dashed_word options word =
    if bytes_eq word (codes "-h") || bytes_eq word (codes "--help") then stops_at helps
    else (if bytes_eq word (codes "--version") then stops_at tells_version else option_word options word)

-- a word that begins with `-` is an option, but for `-` alone
abbrev pub word_of : List Row → Text → Word
word_of options word =
    if bytes_eq word (codes "-") || not (slice_index word 0 == 45) then file else dashed_word options word

abbrev pub with_setting : Setting → Asked → Asked
with_setting s (reads settings files) = reads (s ∷ settings) files
with_setting s (stops why) = stops why

abbrev pub with_file : Text → Asked → Asked
with_file f (reads settings files) = reads settings (f ∷ files)
with_file f (stops why) = stops why

-- what this word and those behind it ask for
abbrev pub at_word : Text → Word → (behind : Option Text → Asked) → Asked
at_word word file behind = with_file word (behind None)
at_word word (sets name value) behind = with_setting (name, value) (behind None)
at_word word (awaits name) behind = behind (Some name)
at_word word (stops_at why) behind = stops why

-- what these words ask for, where an option before them may take the first
abbrev pub asked_behind : List Row → (awaiting : Option Text) → List Text → Asked
asked_behind options None [] = reads [] []
asked_behind options (Some name) [] = stops (refuses name TakesOne)
asked_behind options None (w ∷ ws) = at_word w (word_of options w) (λ awaiting. asked_behind options awaiting ws)
asked_behind options (Some name) (w ∷ ws) = with_setting (name, w) (asked_behind options None ws)

-- without files, the standard input is the one
abbrev pub or_standard_input : List Text → List Text
or_standard_input [] = codes "-" ∷ []
or_standard_input (f ∷ fs) = f ∷ fs

abbrev pub with_files : List Text → Asked → Asked
with_files more (reads settings files) = reads settings (or_standard_input (files ++ more))
with_files more (stops why) = stops why

abbrev pub ends_options : Text → Bool
ends_options word = bytes_eq word (codes "--")

-- what all the words ask for: behind the first `--` each is a file
abbrev pub asked : List Row → List Text → Asked
asked options words =
    with_files (after_first ends_options words) (asked_behind options None (before_first ends_options words))
