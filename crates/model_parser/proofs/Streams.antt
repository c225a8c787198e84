-- By the table of the token grammar, what the machine says of tokens is right, and a parser stays on track.
use Rattle.model_parser.proofs.Common.{Bool, ends_goal, Ev, grammar, inl, IsRight, IsStream, leaves, List, named, no_names, Raw, read_stream, reads, refl, Some, StreamSays, subst, Tok, weight, whole_stream, ◌≡◌}
use Rattle.model_parser.specs.Laws.{ParsersStayOnTrack}
use Rattle.model_parser.proofs.Runs.{run_is_right}
use Rattle.model_parser.proofs.Track.{starts, look, give, take, leave, refuse}
use Rattle.model_parser.proofs.Falls.{grammar_completes}
use Rattle.model_parser.proofs.Mended.{leaving, ended, mended}

pub stream_outcome : (tokens : List Tok) → IsRight grammar whole_stream tokens (read_stream tokens)
stream_outcome tokens = run_is_right mended whole_stream tokens (inl refl)

-- What the machine reads is a stream.
pub says_by : {tokens : List Tok} {raws : List Raw} → read_stream tokens ≡ reads raws → StreamSays tokens raws
says_by {tokens} h = subst (IsRight grammar whole_stream tokens) h (stream_outcome tokens)

pub stream_by : {keep_tags : Bool} {tokens : List Tok} {raws : List Raw} {events : List Ev} → read_stream tokens ≡ reads raws
    → named keep_tags no_names raws ≡ Some events → IsStream keep_tags tokens events
stream_by {raws = raws} h e = record { raws = raws; says = says_by h; has_events = e }

pub all_stay : ParsersStayOnTrack
all_stay = (
  starts grammar ends_goal whole_stream,
  (λ w taken t given x. look x t),
  (λ e w taken next given x. give x),
  (λ g h w taken t given ps r x. take x ps r),
  (λ g h w taken t given ps r x. leave x weight grammar_completes ps r (leaving g t (leaves ps) r)),
  (λ g h w taken t given r x. refuse x grammar_completes (ended g h t r) r),
)
