-- Tokens to events.
pub use Rattle.yaml_rust2.specs.Apart.{StandsApart}
pub use Rattle.yaml_rust2.specs.Blames.{problem_of}
pub use Rattle.yaml_rust2.specs.Derived.{ForetellsRaw, IsDerived, IsStreamSince}
pub use Rattle.yaml_rust2.specs.Event.{Ev}
pub use Rattle.yaml_rust2.specs.Halts.{IsHalted}
pub use Rattle.yaml_rust2.specs.Loads.{Loads}
pub use Rattle.yaml_rust2.specs.Parsed.{Parse, parsed, stays_steady}
pub use Rattle.yaml_rust2.specs.Place.{next_after, open_after}
pub use Rattle.yaml_rust2.specs.Pulls.{Looks, MeetsFault, PeekLeaves, Pulls, ShowsNext, answer_of}
pub use Rattle.yaml_rust2.specs.Settings.{AreAll, names_since}
pub use Rattle.yaml_rust2.specs.Shown.{all_placed, ev_of, placed, tag_of}
