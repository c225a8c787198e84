-- Statements about the table of the token grammar, each the contract of the function with its name in `laws`.
use Rattle.std.specs.Prelude.{◌≡◌, List, [], ◌∷◌, ◌++◌, Option, Some, None}
use Rattle.defs_token.specs.Token.{Tok}
use Rattle.defs_event.specs.Raw.{Raw}
use Rattle.defs_event.specs.Stream.{whole_stream}
use Rattle.defs_event.specs.Table.{Part, takes, leaves, row_of, Work, reading, saying, before}
use Rattle.defs_event.specs.Grammar.{Held, Goal, cases, grammar}
use Rattle.model_parser.specs.Reader.{read_stream}
use Rattle.model_parser.specs.Outcome.{Begins, NeverGoesOn, IsRight}
use Rattle.model_parser.specs.Track.{OnTrack}

-- `outcomes_are_right`
abbrev pub OutcomesAreRight : Type 0
OutcomesAreRight = (tokens : List Tok) → IsRight grammar whole_stream tokens (read_stream tokens)

-- `parsers_stay_on_track`: at the start; where the next token is looked at; where an event is given; where a row takes the token, and
-- where a row leaves it. A token that no row is for is refused by right: with it no stream goes on, and some stream begins with the
-- tokens before and with the events that were given.
abbrev pub ParsersStayOnTrack : Type 0
ParsersStayOnTrack =
    OnTrack whole_stream [] None []
    × ((w : List (Work Goal Raw Held)) (taken : List Tok) (t : Tok) (given : List Raw) → OnTrack w taken None given → OnTrack w taken (Some t) given)
    × ((e : Raw) (w : List (Work Goal Raw Held)) (taken : List Tok) (next : Option Tok) (given : List Raw) → OnTrack (saying e ∷ w) taken next given → OnTrack w taken next (given ++ e ∷ []))
    × ((g : Goal) (h : Held) (w : List (Work Goal Raw Held)) (taken : List Tok) (t : Tok) (given : List Raw) (ps : List (Part Goal Raw))
    → row_of (cases g) t ≡ Some (takes ps) → OnTrack (reading g h ∷ w) taken (Some t) given → OnTrack (before grammar h t ps w) (taken ++ t ∷ []) None given)
    × ((g : Goal) (h : Held) (w : List (Work Goal Raw Held)) (taken : List Tok) (t : Tok) (given : List Raw) (ps : List (Part Goal Raw))
    → row_of (cases g) t ≡ Some (leaves ps) → OnTrack (reading g h ∷ w) taken (Some t) given → OnTrack (before grammar h t ps w) taken (Some t) given)
    × ((g : Goal) (h : Held) (w : List (Work Goal Raw Held)) (taken : List Tok) (t : Tok) (given : List Raw)
    → row_of (cases g) t ≡ None → OnTrack (reading g h ∷ w) taken (Some t) given → Begins grammar whole_stream taken given × NeverGoesOn grammar whole_stream taken t)
