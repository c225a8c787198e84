-- How what is awaited may go on: by some tokens, and then on the shortest way to the end.
use Rattle.model_parser.proofs.Common.{[], append_assoc, arith, Awaits, Derives, Goal, goes, grammar, Held, kind_of, List, may_begin, None, Option, Raw, refused, Some, State, step, subst, Tok, true, Turned, work_of, Works, ◌++◌, ◌∷◌, ◌≡◌}
use Rattle.model_parser.proofs.Completions.{all_complete}
use Rattle.model_parser.proofs.Falls.{grammar_completes}
use Rattle.model_parser.proofs.Steps.{Sound, step_sound}
use Rattle.defs_event.specs.Grammar as table

-- ---- the shortest way to the end

abbrev pub end_tokens : Works → List Tok
end_tokens w = (all_complete grammar grammar_completes w).0

abbrev pub end_events : Works → List Raw
end_events w = (all_complete grammar grammar_completes w).1

pub ends_so : (w : Works) → Derives grammar w (end_tokens w) (end_events w)
ends_so w = (all_complete grammar grammar_completes w).2

-- ---- by some tokens

abbrev with_events : List Raw → Option (List Raw × Works) → Option (List Raw × Works)
with_events es None = None
with_events es (Some x) = Some (es ++ x.0, x.1)

abbrev on_turn : Turned table.Goal Raw Held → (Works → Option (List Raw × Works)) → Option (List Raw × Works)
on_turn (goes es v) again = with_events es (again v)
on_turn (refused es) again = None

-- what is said while these tokens are read, and what is left then
abbrev pub past_tokens : Works → List Tok → Option (List Raw × Works)
past_tokens w [] = Some ([], w)
past_tokens w (t ∷ ts) = on_turn (step grammar 12 w t) (λ v. past_tokens v ts)

abbrev Past : Works → List Tok → Option (List Raw × Works) → Type 0
Past w ts None = Unit {0}
Past w ts (Some x) = (us : List Tok) (fs : List Raw) → Derives grammar x.1 us fs → Derives grammar w (ts ++ us) (x.0 ++ fs)

turned : (w : Works) (t : Tok) (ts : List Tok) (o : Turned table.Goal Raw Held) → Sound grammar w t o → ((v : Works) → Past v ts (past_tokens v ts)) → Past w (t ∷ ts) (on_turn o (λ v. past_tokens v ts))
turned w t ts o s i = grind (arith, append_assoc)

past_so : (w : Works) (ts : List Tok) → Past w ts (past_tokens w ts)
past_so w [] = λ us fs d. d
past_so w (t ∷ ts) = turned w t ts (step grammar 12 w t) (step_sound grammar 12 w t) (λ v. past_so v ts)

-- So what is awaited goes on.
pub goes_so : (g : Goal) (ss : List State) (t : Tok) (ts : List Tok) {x : List Raw × Works} → past_tokens (work_of g ss) (t ∷ ts) ≡ Some x → may_begin g ss (kind_of t) ≡ true
    → Awaits g ss (t ∷ (ts ++ end_tokens x.1)) (x.0 ++ end_events x.1)
goes_so g ss t ts {x} h m = (subst (Past (work_of g ss) (t ∷ ts)) h (past_so (work_of g ss) (t ∷ ts)) (end_tokens x.1) (end_events x.1) (ends_so x.1), m)
