-- What is known of a parser, from call to call.
use Rattle.std.specs.Bool.{beq}
use Rattle.yaml_parser.proofs.Common.{IsSome, ◌≤◌, ◌+◌, [], Advances, all_placed, and_parts, ap, append-nil, AreAll, arith, Bool, both_ways, Continues, Err, ErrorReport, Ev, ev_of, Event, EventReader, events_left, Explains, false, fault_kept, fault_seen, GivesEvent, GivesFault, has_end, Holds, IfSome, if◌then◌else◌, inl, inr, is_fresh, is_some, is_stream_end, IsHeld, IsSound, Keeping, length, List, map-append, nil_from_length, None, not, not-true, Notes, Ok, Option, option_map, or_cases, Parsed, placed, read, Position, read_so, Reader, refl, Result, scanned, Some, stays_steady, Fault, subst, sym, true, up_to_end, Waits, work, ◌&&◌, ◌++◌, ◌<◌, ◌||◌, ◌∙◌, ◌∷◌, ◌≡◌, ◌≢◌, Faulted}
use Rattle.yaml_parser.proofs.Holding.{KnowsSteady, closed, keeps, set_stands, held_sound, held_explained, has_end_snoc}
use Rattle.yaml_parser.proofs.DirectiveLemmas.{none_if, some_map}
use Rattle.yaml_parser.proofs.Since.{all_more}
use Rattle.yaml_parser.specs.declared.parser.Parser.TheInside.{Inside}
use Rattle.yaml_chars.specs.declared.ghost_list.GhostList.{GhostList}

-- ---- what clauses see

-- as the parser's view is made of its fields
abbrev pub seen : {T : Type 0} → Inside T → Parsed
seen p = record {
  scanner = scanned p.pull.reader.tokens.scanner;
  given = up_to_end (all_placed p.given.items);
  ahead = option_map placed p.current;
  fault = fault_kept p.pull;
  started = p.started;
  ended = has_end (up_to_end (all_placed p.given.items));
  keep_tags = p.pull.reader.names.keeping.tags;
  steady = p.pull.reader.names.keeping.steady;
  settings = p.pull.reader.names.keeping.settings.items;
  left = events_left p.pull.reader p.current;
}

-- what is known of the fields
abbrev pub Known : {T : Type 0} → Inside T → Type 0
Known p = Holds p.pull (up_to_end (all_placed p.given.items)) (option_map placed p.current) p.started

read_next : (given : List (Ev × Position)) (b : Bool) (e : Ev × Position) → read_so given b (Some e) ≡ given ++ (if b then [] else e ∷ [])
read_next given b e = grind (arith, append-nil)

no_fault : {T : Type 0} (p : Inside T) → p.pull.kept ≡ None → (seen p).fault ≡ None
no_fault p h = ap (option_map (λ x. fault_seen x.0 x.1 (scanned p.pull.reader.tokens.scanner).fault)) h

sound : {T : Type 0} (p : Inside T) → Known p → p.pull.kept ≡ None → IsSound (seen p)
sound p h none = held_sound p.pull.reader (seen p) (subst (IsHeld p.pull.reader (read (seen p))) none h.held) h.steady (no_fault p none)

-- ---- at the beginning

pub fresh_holds : {T : Type 0} (pull : EventReader T) (given : List (Ev × Position)) → IsHeld pull.reader [] None → pull.kept ≡ None → pull.reader.names.keeping.settings.items ≡ [] → given ≡ [] → Holds pull given None false
fresh_holds {T} pull given x kept none h = record {
  steady = λ b. subst (AreAll pull.reader.names.keeping.tags) (sym none) tt;
  held = subst (λ es. IsHeld pull.reader (read_so es (has_end es) None) pull.kept) (sym h) (subst (IsHeld pull.reader []) (sym kept) x);
  first = λ b. h;
  clear = λ b. let no : false ≡ true = b in cc;
  over = λ b. let no : false ≡ true = sym (ap has_end h) ∙ b in cc;
}

-- ---- a look

-- One waits already.
pub waits_still : {T : Type 0} (p : Inside T) → Known p → is_some p.current ≡ true → Waits (seen p) (seen p)
waits_still {T} p h some =
    let there = some_map placed p.current some in
    let clear = h.clear there in
    let ks = (seen p).settings in
    let over : (seen p).ended ≡ true → IfSome (seen p).ahead (λ e. e.0 ≡ Ev.stream_end) = λ b. (h.over b).1 in
    let left : IfSome (seen p).ahead (λ e. e.0 ≢ Ev.stream_end → (seen p).left ≤ (seen p).left) = if_any (seen p).ahead (λ e n. omega arith) in
    let noted : ks ≡ (if is_some (seen p).ahead || (seen p).ended then ks else ks ++ (seen p).keep_tags ∷ []) = rw there in
    assumption (there, over, left, noted, no_fault p clear, sound p h clear)
  where
    if_any : {A : Type 0} {P : A → Type 0} (o : Option A) → ((x : A) → P x) → IfSome o P
    if_any None f = tt
    if_any (Some x) f = f x

-- ---- where nothing waited

reads_given : (given : List (Ev × Position)) (current : Option (Event × Position)) (ended : Bool) → is_some current ≡ false → read_so given ended (option_map placed current) ≡ given
reads_given given current ended n = grind arith

-- whether the end was read is whether it was given
end_known : {T : Type 0} (p : Inside T) → is_some p.current ≡ false → has_end (read (seen p)) ≡ (seen p).ended
end_known p none = ap has_end (reads_given (seen p).given p.current (seen p).ended none)

fault_open : {T : Type 0} (p : Reader T) (es : List (Ev × Position)) (o : Option (Option Fault × Position)) {f : ErrorReport} → option_map (λ k. fault_seen k.0 k.1 (scanned p.tokens.scanner).fault) o ≡ Some f → IsHeld p es o → has_end es ≡ false
fault_open {T} p es None h x = cc
fault_open {T} p es (Some k) h x = x

none_before : {A B : Type 0} (f : A → B) (o : Option A) → option_map f o ≡ None → o ≡ None
none_before f o h = grind arith

-- A fault is met.
pub fault_met : {T : Type 0} (p : Inside T) (new : EventReader T) (f : ErrorReport) → Known p → is_some p.current ≡ false → Continues p.pull (read (seen p)) (Err f) new → fault_kept new ≡ Some f
    → IfSome (fault_kept p.pull) (λ g. (◌≡◌ {A = Result (Event × Position) ErrorReport} (Err f) (Err g)) × (new ≡ p.pull)) → Known (record p { pull = new }) × GivesFault (seen p) f (seen (record p { pull = new }))
fault_met {T} p new f h none x kept again =
    let keeping = x.0 in
    let going : (seen p).ended ≡ false = sym (end_known p none) ∙ fault_open new.reader (read (seen p)) new.kept kept x.1 in
    let ahead : (seen p).ahead ≡ None = ap (option_map placed) (none_if p.current none) in
    let shut : IsSome (seen p).ahead → new.kept ≡ None = λ b. absurd (both_ways (is_some (seen p).ahead) (ap is_some ahead) b) in
    let over : (seen p).ended ≡ true → (new.kept ≡ None) × IfSome (seen p).ahead (λ e. e.0 ≡ Ev.stream_end) = λ b. absurd (both_ways (seen p).ended going b) in (
      assumption (shut, over, subst KnowsSteady (sym keeping) h.steady),
      assumption (kept, going, ahead, ap (λ k. k.tags) keeping, ap (λ k. k.steady) keeping, ap (λ k. k.settings.items) keeping, again_seen (fault_kept p.pull) again, why),
    )
  where
    why : (seen p).fault ≡ None → Explains f (seen (record p { pull = new }))
    why b =
        let none = none_before (λ k. fault_seen k.0 k.1 (scanned p.pull.reader.tokens.scanner).fault) p.pull.kept b in
        held_explained new.reader (seen (record p { pull = new })) new.kept f kept (x.2 none) (subst KnowsSteady (sym x.0) h.steady)

    again_seen : (o : Option ErrorReport) → IfSome o (λ g. (◌≡◌ {A = Result (Event × Position) ErrorReport} (Err f) (Err g)) × (new ≡ p.pull)) → IfSome o (λ g. (f ≡ g) × (seen (record p { pull = new }) ≡ seen p))
    again_seen None a = tt
    again_seen (Some g) a = (cc a.0, ap (λ r. seen (record p { pull = r })) a.1)

-- An event is read.
record Next {T : Type 0} (p : Inside T) (new : EventReader T) (e : Event × Position) : Type 0 where
  pub held : IsHeld new.reader (read_so (seen p).given (seen p).ended (Some (placed e))) new.kept
  pub over : (seen p).ended ≡ true → ev_of e.0 ≡ Ev.stream_end
  pub less : ev_of e.0 ≢ Ev.stream_end → work new.reader < work p.pull.reader
  pub before : p.pull.kept ≡ None
  pub after : new.kept ≡ None
  pub tags : new.reader.names.keeping.tags ≡ (seen p).keep_tags
  pub steady : new.reader.names.keeping.steady ≡ (seen p).steady
  pub known : KnowsSteady new.reader.names.keeping
  pub settings : new.reader.names.keeping.settings.items ≡ (if (seen p).ended then (seen p).settings else (seen p).settings ++ (seen p).keep_tags ∷ [])

more_known : (old new : Keeping) → Notes old new → KnowsSteady old → KnowsSteady new
more_known old new n known b = subst (AreAll new.tags) (sym n.settings) (subst (λ k. AreAll k (old.settings.items ++ old.tags ∷ [])) (sym n.tags) (all_more old.tags old.settings.items (known (sym n.steady ∙ b))))

next_held : {T : Type 0} (p : Inside T) (new : EventReader T) (e : Event × Position) → Known p → is_some p.current ≡ false → Continues p.pull (read (seen p)) (Ok e) new → Next p new e
next_held {T} p new e h none (k, l, inl a) =
    let over : (seen p).ended ≡ true = sym (end_known p none) ∙ a.0 in
    let same = reads_given (seen p).given p.current (seen p).ended none ∙ ap (λ b. read_so (seen p).given b (Some (placed e))) (sym over) in
    let held = subst (λ xs. IsHeld p.pull.reader xs p.pull.kept) same h.held in
    let less : ev_of e.0 ≢ Ev.stream_end → work p.pull.reader < work p.pull.reader = λ n. absurd (n a.2) in
    let noted = ap (λ c. if c then (seen p).settings else (seen p).settings ++ (seen p).keep_tags ∷ []) (sym over) in
    subst (λ q. Next p q e) (sym a.1) (assumption (held, less, a.2, noted))
next_held {T} p new e h none (k, l, inr b) =
    let going : (seen p).ended ≡ false = sym (end_known p none) ∙ b.0 in
    let same : read (seen p) ++ placed e ∷ [] ≡ read_so (seen p).given (seen p).ended (Some (placed e)) = ap (λ xs. xs ++ placed e ∷ []) (reads_given (seen p).given p.current (seen p).ended none) ∙ ap (λ c. read_so (seen p).given c (Some (placed e))) (sym going) in
    let held = subst (λ o. IsHeld new.reader (read_so (seen p).given (seen p).ended (Some (placed e))) o) (sym l) (subst (λ xs. IsHeld new.reader xs None) same b.3) in
    let over : (seen p).ended ≡ true → ev_of e.0 ≡ Ev.stream_end = λ c. absurd (both_ways (seen p).ended going c) in
    let noted = b.2.settings ∙ ap (λ c. if c then (seen p).settings else (seen p).settings ++ (seen p).keep_tags ∷ []) (sym going) in
    assumption (held, over, b.1, b.2, noted, more_known p.pull.reader.names.keeping new.reader.names.keeping b.2 h.steady)

-- An event is read, and waits.
pub next_read : {T : Type 0} (p : Inside T) (new : EventReader T) (e : Event × Position) → Known p → is_some p.current ≡ false → Continues p.pull (read (seen p)) (Ok e) new
    → Known (record p { pull = new; current = Some e }) × Waits (seen p) (seen (record p { pull = new; current = Some e }))
next_read {T} p new e h none x =
    let n = next_held p new e h none x in
    let ahead : is_some (seen p).ahead ≡ false = ap (λ o. is_some (option_map placed o)) (none_if p.current none) in
    let ks = (seen p).settings in
    let waited : IsSome (seen p).ahead → seen (record p { pull = new; current = Some e }) ≡ seen p = λ b. absurd (both_ways (is_some (seen p).ahead) ahead b) in
    let left : ev_of e.0 ≢ Ev.stream_end → events_left new.reader (Some e) ≤ (seen p).left = λ k. let less = n.less k in omega arith in
    let noted = n.settings ∙ ap (λ b. if b || (seen p).ended then ks else ks ++ (seen p).keep_tags ∷ []) (sym ahead) in
    let known : Known (record p { pull = new; current = Some e }) = record { held = n.held; steady = n.known; first = h.first; clear = λ b. n.after; over = λ b. (n.after, n.over b) } in
    (known, assumption (waited, left, noted, no_fault p n.before, sound (record p { pull = new; current = Some e }) known n.after))

-- ---- an event is given

-- One more is given, unless the end was.
all_noted : (es : List (Ev × Position)) (e : Ev × Position) → up_to_end (es ++ e ∷ []) ≡ up_to_end es ++ (if has_end (up_to_end es) then [] else e ∷ [])
all_noted [] e = grind arith
all_noted (x ∷ es) e = let i = all_noted es e in grind (arith, append-nil)

-- after it, with these events given
abbrev pub after : {T : Type 0} → Inside T → GhostList (Event × Position) → Inside T
after p given = record p { current = None; given = given; started = true }

pub event_given : {T : Type 0} (p : Inside T) (e : Event × Position) (given : GhostList (Event × Position)) → Known p → p.current ≡ Some e → given.items ≡ p.given.items ++ e ∷ []
    → Known (after p given) × GivesEvent (seen p) (placed e) (seen (after p given))
event_given {T} p e given k here noted =
    let h : Known (record p { current = Some e }) = subst (λ o. Known (record p { current = o })) here k in
    let clear = h.clear refl in
    let more : (seen (after p given)).given ≡ (seen p).given ++ (if (seen p).ended then [] else placed e ∷ []) = ap (λ xs. up_to_end (all_placed xs)) noted ∙ ap up_to_end (map-append placed p.given.items (e ∷ [])) ∙ all_noted (all_placed p.given.items) (placed e) in
    let known : Known (after p given) = record {
      held = subst (λ es. IsHeld p.pull.reader es p.pull.kept) (read_next (seen p).given (seen p).ended (placed e) ∙ sym more ∙ sym (reads_given (seen (after p given)).given None (seen (after p given)).ended refl)) h.held;
      steady = h.steady;
      first = λ b. let no : true ≡ false = b in cc;
      clear = λ b. let no : false ≡ true = b in cc;
      over = λ b. (clear, tt);
    } in
    let end : (seen (after p given)).ended ≡ (seen p).ended || is_stream_end (ev_of e.0) = ap has_end more ∙ ends_alike (seen p).given in
    let over : (seen p).ended ≡ true → ev_of e.0 ≡ Ev.stream_end = λ b. (h.over b).1 in
    let left : ev_of e.0 ≢ Ev.stream_end → work p.pull.reader + 0 < work p.pull.reader + 1 = λ n. omega arith in
    let gives : GivesEvent (seen (record p { current = Some e })) (placed e) (seen (after p given)) = assumption (more, end, over, left, no_fault p clear, sound (after p given) known clear) in
    (known, subst (λ o. GivesEvent (seen (record p { current = o })) (placed e) (seen (after p given))) (sym here) gives)
  where
    ends_alike : (es : List (Ev × Position)) → has_end (es ++ (if has_end es then [] else placed e ∷ [])) ≡ has_end es || is_stream_end (ev_of e.0)
    ends_alike es = grind (arith, append-nil, has_end_snoc)

pub none_waits : (current : Option (Event × Position)) → is_some (option_map placed current) ≡ false → is_some current ≡ false
none_waits current h = grind arith

-- An event is read, and given at once.
abbrev pub at_once : {T : Type 0} → Inside T → EventReader T → GhostList (Event × Position) → Inside T
at_once p new given = record p { pull = new; given = given; started = true }

pub given_at_once : {T : Type 0} (p : Inside T) (new : EventReader T) (e : Event × Position) (given : GhostList (Event × Position)) → Known p → is_some p.current ≡ false → Continues p.pull (read (seen p)) (Ok e) new
    → given.items ≡ p.given.items ++ e ∷ [] → Known (at_once p new given) × GivesEvent (seen p) (placed e) (seen (at_once p new given))
given_at_once {T} p new e given h none x noted =
    let no = none_if p.current none in
    let q = record p { pull = new; current = Some e } in
    let read = next_read p new e h none x in
    let gives = event_given q e given read.0 refl noted in
    let waited : IfSome (seen p).ahead (λ y. placed e ≡ y) = subst (λ o. IfSome (option_map placed o) (λ y. placed e ≡ y)) (sym no) tt in
    let left : ev_of e.0 ≢ Ev.stream_end → work new.reader + 0 < (seen p).left = λ k. let w = read.1.left k in omega arith in
    let at : GivesEvent (seen p) (placed e) (seen (after q given)) = assumption (waited, left, gives.1, read.1) in
    subst (λ o. Known (record (after q given) { current = o }) × GivesEvent (seen p) (placed e) (seen (record (after q given) { current = o }))) (sym no) (gives.0, at)

-- ---- inside a document

none_kept : {T : Type 0} (p : Inside T) {v : Parsed} → seen p ≡ v → v.fault ≡ None → p.pull.kept ≡ None
none_kept {T} p view h = none_before (λ k. fault_seen k.0 k.1 (scanned p.pull.reader.tokens.scanner).fault) p.pull.kept (ap (λ u. u.fault) view ∙ h)

-- Before the stream's end something is awaited.
pub not_closed : {T : Type 0} (p : Inside T) {v : Parsed} → seen p ≡ v → Known p → v.ahead ≡ None → v.fault ≡ None → v.ended ≡ false → p.pull.reader.stack ≢ []
not_closed {T} p {v} view h ahead fault going =
    λ s.
    let none = none_waits p.current (ap is_some (ap (λ u. u.ahead) view ∙ ahead)) in
    let end = closed p.pull.reader (read (seen p)) s (subst (IsHeld p.pull.reader (read (seen p))) (none_kept p view fault) h.held) in
    let no : true ≡ false = sym end ∙ end_known p none ∙ ap (λ u. u.ended) view ∙ going in
    cc

-- An event is read, and given at once.
pub advanced : {T : Type 0} (p : Inside T) (new : EventReader T) (e : Event × Position) (given : GhostList (Event × Position)) {v : Parsed} → seen p ≡ v → Known p → v.ahead ≡ None → v.fault ≡ None
    → ((es : List (Ev × Position)) → IsHeld p.pull.reader es None → Advances p.pull es (Ok e) new) → new.kept ≡ p.pull.kept → given.items ≡ p.given.items ++ e ∷ []
    → Known (at_once p new given) × GivesEvent v (placed e) (seen (at_once p new given))
advanced {T} p new e given {v} view h ahead fault reads same noted =
    let c = none_kept p view fault in
    let x = reads (read (seen p)) (subst (IsHeld p.pull.reader (read (seen p))) c h.held) in
    let none = none_waits p.current (ap is_some (ap (λ u. u.ahead) view ∙ ahead)) in
    let y = given_at_once p new e given h none (c, same ∙ c, inr x) noted in
    (y.0, subst (λ u. GivesEvent u (placed e) (seen (at_once p new given))) view y.1)

-- A fault is met, and kept at once.
pub stopped : {T : Type 0} (p : Inside T) (mid new : EventReader T) (s : Option Fault) (f : ErrorReport) {v : Parsed} → seen p ≡ v → Known p → v.ahead ≡ None → v.fault ≡ None
    → ((es : List (Ev × Position)) → IsHeld p.pull.reader es None → Advances p.pull es (Err s) mid) → fault_kept new ≡ Some f → IfSome new.kept (λ k. k.0 ≡ s) → new.reader ≡ mid.reader
    → Known (record p { pull = new }) × GivesFault v f (seen (record p { pull = new }))
stopped {T} p mid new s f {v} view h ahead fault reads kept stop reader =
    let es = read (seen p) in
    let none = none_waits p.current (ap is_some (ap (λ u. u.ahead) view ∙ ahead)) in
    let c = none_kept p view fault in
    let a = reads es (subst (IsHeld p.pull.reader es) c h.held) in
    let y = keeps new es s kept stop (a.1, subst (λ r. Faulted r es s) (sym reader) a.2) in
    let before : fault_kept p.pull ≡ None = no_fault p c in
    let x : Continues p.pull es (Err f) new = (ap (λ r. r.names.keeping) reader ∙ a.0, y.0, λ b. y.1) in
    let again = subst (λ o. IfSome o (λ g. (◌≡◌ {A = Result (Event × Position) ErrorReport} (Err f) (Err g)) × (new ≡ p.pull))) (sym before) tt in
    let z = fault_met p new f h none x kept again in
    (z.0, subst (λ u. GivesFault u f (seen (record p { pull = new }))) view z.1)

-- ---- a setting

held_set : {T : Type 0} (p : Reader T) (k : Keeping) (es : List (Ev × Position)) (o : Option (Option Fault × Position)) → k.settings ≡ p.names.keeping.settings → IsHeld p es o → IsHeld (record p { names = record (p.names) { keeping = k } }) es o
held_set {T} p k es None same x = set_stands p k es same x
held_set {T} p k es (Some z) same x = x

-- A setting that counts from the start on was made where nothing was read, or is what it was.
pub settings_hold : {T : Type 0} (p : Inside T) (k : Keeping) → Known p → k.steady ≡ stays_steady (seen p) k.tags → k.settings ≡ p.pull.reader.names.keeping.settings
    → Known (record p { pull = record (p.pull) { reader = record (p.pull.reader) { names = record (p.pull.reader.names) { keeping = k } } } })
settings_hold {T} p k h steady same =
    let kept : k.steady ≡ true → AreAll k.tags k.settings.items = λ b. subst (AreAll k.tags) (ap (λ x. x.items) (sym same)) (still b) in
    assumption (held_set p.pull.reader k (read (seen p)) p.pull.kept same h.held, kept)
  where
    no_settings : (es : List (Ev × Position)) → IsHeld p.pull.reader es None → es ≡ [] → (seen p).settings ≡ []
    no_settings es x e = nil_from_length (seen p).settings (x.each ∙ ap length e)

    nothing_read : is_fresh (seen p) ≡ true → (seen p).settings ≡ []
    nothing_read b =
        let two = and_parts (not p.started) (not (is_some (seen p).ahead) && not (is_some (seen p).fault)) b in
        let three = and_parts (not (is_some (seen p).ahead)) (not (is_some (seen p).fault)) two.1 in
        let none = none_waits p.current (not-true (is_some (seen p).ahead) three.0) in
        let empty = reads_given (seen p).given p.current (seen p).ended none ∙ h.first (not-true p.started two.0) in
        no_settings (read (seen p)) (subst (IsHeld p.pull.reader (read (seen p))) (none_before (λ x. fault_seen x.0 x.1 (scanned p.pull.reader.tokens.scanner).fault) p.pull.kept (none_if (fault_kept p.pull) (not-true (is_some (seen p).fault) three.1))) h.held) empty

    still : k.steady ≡ true → AreAll k.tags (seen p).settings
    still s =
        let one = and_parts (seen p).steady (is_fresh (seen p) || beq k.tags (seen p).keep_tags) (sym steady ∙ s) in
        elim (or_cases (is_fresh (seen p)) (beq k.tags (seen p).keep_tags) one.1) [
          | inl a ↦ subst (AreAll k.tags) (sym (nothing_read a)) tt
          | inr b ↦ subst (λ t. AreAll t (seen p).settings) (sym (grind arith)) (h.steady one.0)
        ]

-- ---- an event stands where a document must start

pub misplaced_holds : {T : Type 0} (p : Inside T) (new : EventReader T) {f : ErrorReport} → Known p → (seen p).ahead ≡ None → (seen p).ended ≡ false → fault_kept new ≡ Some f → new.reader ≡ p.pull.reader → Known (record p { pull = new })
misplaced_holds {T} p new {f} h none going kept reader =
    let ended : has_end (read (seen p)) ≡ false = ap has_end (reads_given (seen p).given p.current (seen p).ended (none_waits p.current (ap is_some none))) ∙ going in
    let clear : IsSome (seen p).ahead → new.kept ≡ None = λ b. absurd (both_ways (is_some (seen p).ahead) (ap is_some none) b) in
    let over : (seen p).ended ≡ true → (new.kept ≡ None) × IfSome (seen p).ahead (λ e. e.0 ≡ Ev.stream_end) = λ b. absurd (both_ways (seen p).ended going b) in
    assumption (held_kept new.kept kept ended, subst (λ r. KnowsSteady r.names.keeping) (sym reader) h.steady, clear, over)
  where
    held_kept : (o : Option (Option Fault × Position)) → option_map (λ k. fault_seen k.0 k.1 (scanned new.reader.tokens.scanner).fault) o ≡ Some f → has_end (read (seen p)) ≡ false → IsHeld new.reader (read (seen p)) o
    held_kept None e b = cc
    held_kept (Some k) e b = b
