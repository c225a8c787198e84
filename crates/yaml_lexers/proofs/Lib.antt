pub mod WindowLemmas
mod BlockLemmas
mod EscapeLemmas
mod PlainLemmas
mod QuotedLemmas
mod SpaceLemmas
mod UriLemmas
mod WordsLemmas
mod Common
