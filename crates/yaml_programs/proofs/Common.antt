-- The words of other crates and of specs/ that the proofs here use, passed on from one place. Declares nothing.
pub use Rattle.std.proofs.Common.{[], ap, arith, Bool, cond, drop, false, get_or, length, List, map, None, not, Option, option_map, refl, Some, string_bytes, subst, sym, take, true, ℕ, ◌++◌, ◌+◌, ◌-◌, ◌<◌, ◌∙◌, ◌∷◌, ◌≡◌, ◌≤◌}
pub use Rattle.std.proofs.lemmas.List.{append_assoc, at_drop_more, drop-map, drop_all, length-drop, map-append, take-map, take_all, take_more}
pub use Rattle.std.specs.List.{after_first, All, before_first, position, position_or_len}
pub use Rattle.std.specs.Prelude.{codes, Err, IfOk, IsOk, MatchResult, nat_lt, Ok, Result}
pub use Rattle.yaml_programs.specs.Arguments.{Asked, asked, asked_behind, awaits, ends_options, helps, is_equals_sign, option_named, option_word, reads, refuses, Row, sets, Setting, stops, stops_at, takes_nothing, Text, with_file, with_files, with_setting}
pub use Rattle.yaml_programs.specs.Done.{IsDoneWith, IsSetTo}
pub use Rattle.yaml_programs.specs.Reading.{behind, left, row, setting_view, StopsAt, text_view}
pub use Rattle.yaml_programs.specs.declared.failure.Refusal.TheVariants.{NoSuchOption, TakesNone, TakesOne}
