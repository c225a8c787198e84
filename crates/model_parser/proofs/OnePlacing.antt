-- Of the same tokens, read so far, the same events are said, at the same positions.
use Rattle.model_parser.proofs.Common.{[], AgreeAt, and_parts, ap, arith, before, Bool, Ev, events_of, Extent, false, grammar, HasPlacedTo, Held, List, map, named, Names, names_after, no_names, None, Option, placed_before, placed_by, PlacedWork, Places, Position, position_at, positions_of, Raw, raws_of, reading, refl, resolved_event, saying, Some, StreamPlacesTo, subst, to_last, Token, true, Work, ◌&&◌, ◌++◌, ◌∷◌, ◌≡◌, ◌≢◌}
use Rattle.defs_event.specs.Grammar.{Goal}
use Rattle.defs_event.proofs.NameLemmas.{both_some}
use Rattle.defs_event.specs.Stream as placed

-- ---- events that are due at a place

-- whether each event has one, but for the end of a single pair
abbrev is_due : Raw × Option Position → Bool
is_due (Raw.pair_end, o) = true
is_due (e, Some p) = true
is_due (e, None) = false

abbrev are_due : PlacedWork → Bool
are_due [] = true
are_due (reading g h ∷ w) = are_due w
are_due (saying x ∷ w) = is_due x && are_due w

due_before : (t : Token) (p : Position) (v : List (Work Goal Raw Held)) (w : PlacedWork) → are_due w ≡ true → are_due (placed_by (position_at t (Some p)) v ++ w) ≡ true
due_before t p [] w d = d
due_before t p (x ∷ v) w d = let i = due_before t p v w d in grind arith

-- ---- one list

-- The same events, at the same positions but for ends of single pairs.
abbrev pub AreSame : List (Raw × Position) → List (Raw × Position) → Type 0
AreSame [] [] = Unit {0}
AreSame (e ∷ es) (f ∷ fs) = (e.0 ≡ f.0) × (e.0 ≢ Raw.pair_end → e.1 ≡ f.1) × AreSame es fs
AreSame es fs = ⊥

-- Where the last token was taken, none is the last that is to be taken.
none_is_last : (b : Option Position) (w : PlacedWork) (es : List (Raw × Position)) → Places to_last b w [] es → ⊥
none_is_last b [] es d = elim d [ ]
none_is_last b (reading g h ∷ w) es d = elim d [ ]
none_is_last b (saying x ∷ w) _ (placed.says {es = es} o d) = none_is_last b w es d

pub one_placing : {x : Extent} {p : Position} {w : PlacedWork} {ts : List Token} {es fs : List (Raw × Position)} → are_due w ≡ true → Places x (Some p) w ts es → Places x (Some p) w ts fs → AreSame es fs
one_placing due placed.nothing_left placed.nothing_left = tt
one_placing due placed.wants_token placed.wants_token = tt
one_placing due (placed.takes_last ps q) (placed.takes_last qs r) = tt
one_placing due (placed.takes_last ps q) (placed.by_taking qs r d) = absurd (none_is_last _ _ _ d)
one_placing due (placed.takes_last ps q) (placed.by_leaving qs r d) = cc
one_placing due (placed.by_taking ps q d) (placed.takes_last qs r) = absurd (none_is_last _ _ _ d)
one_placing due (placed.by_leaving ps q d) (placed.takes_last qs r) = cc
one_placing due (placed.by_taking ps q d) (placed.by_leaving qs r c) = cc
one_placing due (placed.by_leaving ps q d) (placed.by_taking qs r c) = cc
one_placing due (placed.says {e = e} {o = o} {m = m} {w = w} a d) (placed.says {m = n} b c) =
    let both = and_parts (is_due (e, o)) (are_due w) due in
    (refl, λ other. (grind arith), one_placing both.1 d c)
one_placing {x} {p} due (placed.by_taking {h = h} {w = w} {t = t} {ts = ts} {es = es} ps q d) (placed.by_taking {es = fs} qs r c) =
    let same : qs ≡ ps = cc (q, r) in
    one_placing (due_before t p (before grammar h t.tok ps []) w due) d (subst (λ l. Places x (Some t.position) (placed_before t (Some p) h l w) ts fs) same c)
one_placing {x} {p} due (placed.by_leaving {h = h} {w = w} {t = t} {ts = ts} {es = es} ps q d) (placed.by_leaving {es = fs} qs r c) =
    let same : qs ≡ ps = cc (q, r) in
    one_placing (due_before t p (before grammar h t.tok ps []) w due) d (subst (λ l. Places x (Some p) (placed_before t (Some p) h l w) (t ∷ ts) fs) same c)

-- ---- of a stream

pub one_stream : {x : Extent} {ts : List Token} {es fs : List (Raw × Position)} → StreamPlacesTo x ts es → StreamPlacesTo x ts fs → AreSame es fs
one_stream placed.wants_token placed.wants_token = tt
one_stream (placed.takes_last ps q) (placed.takes_last qs r) = tt
one_stream (placed.takes_last ps q) (placed.by_taking qs r d) = absurd (none_is_last _ _ _ d)
one_stream (placed.takes_last ps q) (placed.by_leaving qs r d) = cc
one_stream (placed.by_taking ps q d) (placed.takes_last qs r) = absurd (none_is_last _ _ _ d)
one_stream (placed.by_taking ps q d) (placed.by_leaving qs r c) = cc
one_stream {x} (placed.by_taking {h = h} {t = t} {ts = ts} {es = es} ps q d) (placed.by_taking {es = fs} qs r c) =
    let same : qs ≡ ps = cc (q, r) in
    one_placing (grind arith) d (subst (λ l. Places x (Some t.position) (placed_before t None h l []) ts fs) same c)
one_stream (placed.by_leaving {t = t} ps q d) c = absurd (grind arith)

pub some_is : {A : Type 0} {x y : A} → Some x ≡ Some y → x ≡ y
some_is h = cc

pub same_events : (keep : Bool) (s : Names) (rs us : List (Raw × Position)) (es fs : List (Ev × Position)) → AreSame rs us
    → named keep s (raws_of rs) ≡ Some (events_of es) → map (λ e. e.1) rs ≡ positions_of es → named keep s (raws_of us) ≡ Some (events_of fs) → map (λ e. e.1) us ≡ positions_of fs → AgreeAt es fs
same_events keep s [] [] [] [] a n p m q = tt
same_events keep s (r ∷ rs) (u ∷ us) (e ∷ es) (f ∷ fs) a n p m q =
    let x = both_some (resolved_event s r.0) (named keep (names_after keep s r.0) (raws_of rs)) (e.0 ∷ events_of es) n in
    let y = both_some (resolved_event s u.0) (named keep (names_after keep s u.0) (raws_of us)) (f.0 ∷ events_of fs) m in (
      cc (x.whole, x.is_first, y.whole, y.is_first, a.0),
      λ no_end. let one : r.1 ≡ u.1 = a.1 (λ is. no_end (cc (x.whole, x.is_first, ap (resolved_event s) is))) in cc (one, p, q),
      same_events keep (names_after keep s r.0) rs us es fs a.2 (cc (x.whole, x.are_more)) (cc p) (cc (y.whole, y.are_more, a.0)) (cc q),
    )
same_events keep s rs us es fs a n p m q = grind arith

-- Tokens that are read so far have one list of events.
pub one_list_so_far : (x : Extent) (keep_tags : Bool) (tokens : List Token) (es fs : List (Ev × Position)) → HasPlacedTo x keep_tags tokens es → HasPlacedTo x keep_tags tokens fs → AgreeAt es fs
one_list_so_far x keep_tags tokens es fs h k =
    same_events keep_tags no_names h.raws k.raws es fs (one_stream h.says k.says) h.has_events h.has_positions k.has_events k.has_positions
