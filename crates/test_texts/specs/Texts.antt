-- Texts to trees and back.
pub use Rattle.yaml_rust2.specs.CharactersRead.{BeginsText, HasNoNul}
pub use Rattle.yaml_rust2.specs.DocumentsLoaded.{AreLoaded, IsLoadFault}
pub use Rattle.yaml_rust2.specs.Emitter.{compact_of, multiline_of, writer_name, writer_of}
pub use Rattle.yaml_rust2.specs.FmtText.{TakesPlain, TakesText, inner_of}
pub use Rattle.yaml_rust2.specs.Gives.{Gives}
pub use Rattle.yaml_rust2.specs.Loading.{Takes, kept_fault, loader_of}
pub use Rattle.yaml_rust2.specs.Source.{CameFrom}
pub use Rattle.yaml_rust2.specs.Strings.{HasBegun, HasGrown, HasStayed, stopped_at_string, wrote_to_string}
pub use Rattle.yaml_rust2.specs.Text.{string_chars, up_to_nul}
pub use Rattle.yaml_rust2.specs.Meant.{LoadsOnly, OfBasic, OfGiven, OfJson, OfLayout, OfMeaning, OfQuoted}
pub use Rattle.yaml_rust2.specs.TextLoads.{Answers, LoadsText, OfTexts}
pub use Rattle.yaml_rust2.specs.Unfinished.{documents_of, new_loader}
pub use Rattle.yaml_rust2.specs.Writing.{Stopped, WritesUnless, Wrote}
