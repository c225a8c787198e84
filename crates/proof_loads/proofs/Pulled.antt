-- Runs of `load` with `multi` over answers, whatever they are. The calls of a parser from its start on: what it answered and has given.
use Rattle.proof_loads.proofs.Common.{[], Answer, ap, append-nil, append_assoc, arith, before_stream, between, Bool, Ending, ErrorReport, Ev, event, Explains, false, fault, faulted, given, GivesEvent, has_end, IfSome, inl, inr, IsAtStart, KeepsSettings, length, length-append, List, load_from, Loaded, no_call, no_document, None, one_call, Option, Parsed, Position, PullsAll, read_so, refl, Some, Standing, subst, sym, true, unfinished, well, ◌++◌, ◌||◌, ◌∙◌, ◌∷◌, ◌≡◌, ◌⊎◌, IsSound, or_right, drop, or_false}
use Rattle.proof_loads.proofs.Tests.{by_test}
use Rattle.std.proofs.Math.Bool.{or_assoc}

-- The call has come to its end.
abbrev pub IsOver : {F : Type 0} → Ending F → Type 0
IsOver unfinished = ⊥
IsOver _ = Unit {0}

-- After its end a call takes nothing.
over_is_over : (F : Type 0) (s : Standing) (xs ys : List (Answer F)) → IsOver (load_from s true xs).ending → load_from s true (xs ++ ys) ≡ load_from s true xs
over_is_over F s [] ys h = absurd h
over_is_over F s (a ∷ xs) ys h = grind (arith, over_is_over F between xs ys, over_is_over F Standing.inside xs ys)

-- Of these events some are pushed, and then some are left.
pub record Pushes {F : Type 0} (l : Loaded F) (es : List (Ev × Position)) : Type 0 where
  pub left : List (Ev × Position)
  pub whole : es ≡ l.pushed ++ left

first_pushed : (F : Type 0) (s : Standing) (es : List (Ev × Position))
    → es ≡ (load_from s true (given F es)).pushed ++ drop (length (load_from s true (given F es)).pushed) es
first_pushed F s [] = refl
first_pushed F s (e ∷ es) = grind (arith, first_pushed F between es, first_pushed F Standing.inside es)

pub pushes : (F : Type 0) (s : Standing) (es : List (Ev × Position)) → Pushes (load_from s true (given F es)) es
pushes F s es = record { left = drop (length (load_from s true (given F es)).pushed) es; whole = first_pushed F s es }

-- A call that took all answers up to a fault, or more, has not met an event in no document.
pub fault_is_reached : (F : Type 0) (s : Standing) (es : List (Ev × Position)) (f : F) (rest : List (Answer F)) (p : Position) → (load_from s true (given F es ++ fault f ∷ rest)).ending ≡ no_document p
    → (load_from s true (given F es ++ fault f ∷ rest)).taken ≡ length (given F es ++ fault f ∷ rest) → ⊥
fault_is_reached F s [] f rest p h n = cc
fault_is_reached F s (e ∷ es) f rest p h n =
    grind (arith, length-append, fault_is_reached F between es f rest p, fault_is_reached F Standing.inside es f rest p)

-- A call that has ended well took the stream's end.
pub end_is_reached : (F : Type 0) (s : Standing) (es : List (Ev × Position)) → (load_from s true (given F es)).ending ≡ well → has_end es ≡ true
end_is_reached F s [] h = cc
end_is_reached F s (e ∷ es) h = grind (arith, or_right, end_is_reached F between es, end_is_reached F Standing.inside es)

-- ---- against a whole stream

abbrev pub run : {F : Type 0} → List (Answer F) → Loaded F
run answers = load_from before_stream true answers

abbrev pub PushesAll : {F : Type 0} → Loaded F → List (Ev × Position) → Type 0
PushesAll l es = (l.pushed ≡ es) × (l.ending ≡ well)

-- a call that has ended within the stream
pub ended_within : (F : Type 0) (es : List (Ev × Position)) (answers more : List (Answer F)) → PushesAll (run (given F es)) es → given F es ≡ answers ++ more → IsOver (run answers).ending
    → PushesAll (run answers) es
ended_within F es answers more all e over = grind (arith, over_is_over)

-- a call over all of the stream
pub ended_after : (F : Type 0) (es : List (Ev × Position)) (answers rest : List (Answer F)) → PushesAll (run (given F es)) es → answers ≡ given F es ++ rest → PushesAll (run answers) es
ended_after F es answers rest h e = grind (arith, run, given, load_from, before_stream, over_is_over)

pub given_append : (F : Type 0) (es fs : List (Ev × Position)) → given F (es ++ fs) ≡ given F es ++ given F fs
given_append F [] fs = refl
given_append F (e ∷ es) fs = ap (λ bs. event e.0 e.1 ∷ bs) (given_append F es fs)

-- Before a fault all events are pushed.
pub faulted_pushes : (F : Type 0) (s : Standing) (es : List (Ev × Position)) (f g : F) (rest : List (Answer F)) → (load_from s true (given F es ++ fault g ∷ rest)).ending ≡ faulted f
    → (load_from s true (given F es ++ fault g ∷ rest)).pushed ≡ es
faulted_pushes F s [] f g rest h = refl
faulted_pushes F s (e ∷ es) f g rest h = grind (arith, faulted_pushes F between es f g rest, faulted_pushes F Standing.inside es f g rest)

pub settings_stay : {p q : Parsed} {answers : List (Answer ErrorReport)} → PullsAll p answers q → KeepsSettings p q
settings_stay no_call = record { keep_tags = refl; steady = refl }
settings_stay (one_call (event e p) calls gives) = let k = settings_stay calls in record { keep_tags = cc; steady = cc }
settings_stay (one_call (fault f) calls gives) = let k = settings_stay calls in record { keep_tags = cc; steady = cc }

pub read_given : (es : List (Ev × Position)) (ended : Bool) (ahead : Option (Ev × Position)) → ahead ≡ None → read_so es ended ahead ≡ es
read_given es ended ahead h = grind arith

pub has_end_append : (es fs : List (Ev × Position)) → has_end (es ++ fs) ≡ has_end es || has_end fs
has_end_append [] fs = refl
has_end_append (e ∷ es) fs = grind (arith, or_assoc, has_end_append es fs)

-- The events that were given are all that was answered, but for the stream's end again after that end.
pub record Noted (answers : List (Answer ErrorReport)) (p : Parsed) : Type 0 where
  pub rest : List (Answer ErrorReport)
  pub answers_are : answers ≡ given ErrorReport p.given ++ rest
  pub ended : p.ended ≡ has_end p.given
  pub none : p.ended ≡ false → rest ≡ []

pub given_alone : (answers : List (Answer ErrorReport)) (p : Parsed) → Noted answers p → p.ended ≡ false → answers ≡ given ErrorReport p.given
given_alone answers p n going = cc (n.none going, append-nil (given ErrorReport p.given))

note : (q p : Parsed) (answers : List (Answer ErrorReport)) (e : Ev) (pl : Position) → Noted answers q → GivesEvent q (e, pl) p → Noted (answers ++ event e pl ∷ []) p
note q p answers e pl n gives = by_test q.ended
    (λ h.
    let same : p.given ≡ q.given = (rw h at gives.given) ∙ append-nil q.given in
    let end : p.ended ≡ true = rw h at gives.ended in
    record {
      rest = n.rest ++ event e pl ∷ [];
      answers_are = cc (append_assoc (given ErrorReport q.given) n.rest (event e pl ∷ []));
      ended = cc;
      none = λ no. cc;
    })
    (λ h.
    let more : p.given ≡ q.given ++ (e, pl) ∷ [] = rw h at gives.given in
    let alone = given_alone answers q n h in
    record {
      rest = [];
      answers_are = cc (given_append ErrorReport q.given ((e, pl) ∷ []), append-nil (given ErrorReport p.given));
      ended = gives.ended ∙ rw (n.ended, more, has_end_append) (grind (arith, or_false));
      none = λ no. refl;
    })

-- What is known after the answers: no fault came, and if any event did, all that were read are given; or a fault is kept, which has its
-- reason, and the events given are all that came before the first fault.
pub data Answered (answers : List (Answer ErrorReport)) (p : Parsed) : Type 0 where
  events : Noted answers p → p.fault ≡ None → (answers ≡ []) ⊎ ((p.ahead ≡ None) × IsSound p) → Answered answers p
  faults : (f first : ErrorReport) (rest : List (Answer ErrorReport)) → answers ≡ given ErrorReport p.given ++ fault first ∷ rest → p.fault ≡ Some f → p.ahead ≡ None → Explains f p → Answered answers p

pub answered : {p q : Parsed} {answers : List (Answer ErrorReport)} → IsAtStart p → PullsAll p answers q → Answered answers q
answered start no_call = events (record { rest = []; answers_are = ap (λ es. given ErrorReport es ++ []) (sym start.given); ended = start.ended ∙ ap has_end (sym start.given); none = λ no. refl }) start.fault (inl refl)
answered start (one_call {q = q} {r = r} {answers = answers} (event e pl) calls gives) = elim (answered start calls) [
  | events n clear s ↦ events (note q r answers e pl n gives) gives.sound.fault (inr (gives.ahead, gives.sound))
  | faults f first rest are kept ahead why ↦ let clear = gives.clear in cc
]
answered start (one_call {q = q} {r = r} {answers = answers} (fault g) calls gives) = elim (answered start calls) [
  | events n clear s ↦ faults g g [] (cc (given_alone answers q n gives.ended.0, gives.given)) gives.fault gives.ahead.1 (gives.why clear)
  | faults f first rest are kept ahead why ↦
      let again = subst (λ x. IfSome x (λ k. (g ≡ k) × (r ≡ q))) kept gives.again in
      subst (Answered (answers ++ fault g ∷ [])) (sym again.1) (faults f first (rest ++ fault g ∷ []) (cc (append_assoc (given ErrorReport q.given) (fault first ∷ rest) (fault g ∷ []))) kept ahead why)
]
