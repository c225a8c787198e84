-- What a part of a node begins: an opening bracket the first entry of a collection, other pieces nothing.
use Rattle.proof_scanner.proofs.Common.{[], if◌then◌else◌, Account, act_of, ap, append_assoc, AreNumbered, arith, begun_by, Bool, Colon, colon_of, depth_past, ends_at, entries_by, entries_past, Entry, entry_by, false, filled, first_entry, flow_mapping_start, FlowLevel, gives_node, Had, had_by, HasHadHere, insert, is_keyed, is_waiting, IsLineHere, IsLive, Key, key_tokens, length, level_of, Line, line_by, line_past, List, map, MayChoose, None, Option, pair_position, pop, Position, position_after, put, put_key, refl, shown_position, Site, site_here, Some, spelled, Step, suc, taken, takes_pair, Tok, Token, tokens_at, tokens_of_step, tokens_up_to, true, with_had, with_keys, with_line, ℕ, ◌&&◌, ◌++◌, ◌∷◌, ◌≡◌, ◌≤◌, kind_of, length-append, length-take}
use Rattle.proof_scanner.specs.StandsInRow.{before_key}
use Rattle.std.proofs.lemmas.List.{length-drop}
use Rattle.std.proofs.lemmas.List.Edits.{insert-append_left, insert_end}
use Rattle.proof_scanner.proofs.Sound.Arrivals.{with_entries}
use Rattle.proof_scanner.proofs.Sound.OutOfFlow.{Outer}

-- the entries after it, by the flow level that it begins, if any
abbrev pub with_begun : Option FlowLevel → List Entry → List Entry
with_begun None es = es
with_begun (Some level) es = first_entry (kind_of level) ∷ es

-- the open keys after it: none is open in an entry that has just begun
abbrev pub with_no_key : Option FlowLevel → List (Option Key) → List (Option Key)
with_no_key None ks = ks
with_no_key (Some level) ks = None ∷ ks

-- the choices for the entries around what it begins
abbrev pub choices_around : Option FlowLevel → List Bool → List Bool
choices_around None cs = cs
choices_around (Some level) cs = pop cs

-- how many flow collections are open inside a key after it
abbrev pub depth_begun : Option FlowLevel → ℕ → ℕ
depth_begun level n = depth_past gives_node (with_begun level []) n

-- keys around what it begins wait for a colon after as many closing brackets
pub keys_around_begun : (level : Option FlowLevel) (p : Position) (ws : List Step) (last bs : List ℕ) (l : Line) (es : List Entry) (ks : List (Option Key)) (ts : List Token) →
    with_keys 0 p ws last bs l (with_begun level es) (with_no_key level ks) ts ≡ with_keys (depth_begun level 0) p ws last bs l es ks ts
keys_around_begun a p ws last bs l es ks ts = grind arith

-- the flow levels after it
abbrev pub levels_by : Option FlowLevel → List FlowLevel → List FlowLevel
levels_by None fs = fs
levels_by (Some level) fs = level ∷ fs

pub begun_numbered : (level : Option FlowLevel) (many : ℕ) (ks : List (Option Key)) → AreNumbered many ks → AreNumbered many (with_no_key level ks)
begun_numbered level many ks h = grind arith

-- ---- a part of a node: from each choice after it there is a choice before it, and a bit for its step

-- the open key after a node's start: the new one, where one may begin
abbrev pub saved : (allowed : Bool) → (new : Key) → Option Key → Option Key
saved allowed new k = (if allowed then Some new else k)

-- the choice before it: a key that may begin here was none before
abbrev pub choice_before : (allowed after : Bool) → Bool
choice_before allowed c = (if allowed then false else c)

-- the bit of the step
abbrev pub bit_of : (allowed after : Bool) → Bool
bit_of allowed c = (if allowed then c else false)

-- the entry after a node that is no key
abbrev pub entry_past_node : (allowed : Bool) → Entry → Entry
entry_past_node allowed e = record { kind = e.kind; pair = e.pair; had = (if allowed then filled else e.had) }

-- in flow; the node may be a collection, which begins with an entry of its own
pub node_in_entry : (again allowed c : Bool) (k : Option Key) (new : Key) (e : Entry) (here : Position) (begun es : List Entry) → HasHadHere allowed again k e.had → new.position ≡ here →
    entries_past here again gives_node begun (bit_of allowed c) (entry_by (choice_before allowed c) k e) es ≡ Some (begun ++ (entry_by c (saved allowed new k) (entry_past_node allowed e) ∷ es))
node_in_entry again allowed c k new e here begun es h q = grind arith

-- ---- tokens that go in before others, and tokens after all of them

longer : (ts : List Token) (n : ℕ) (t : Token) → length (insert ts n t) ≡ suc (length ts)
longer ts n t = grind (arith, length-append, length-take, length-drop)

key_first : (b : Bool) (start : Token) (n : ℕ) (here : Position) (ts us : List Token) → n ≤ length ts → put_key b start n here (ts ++ us) ≡ put_key b start n here ts ++ us
key_first b start n here ts us h = grind (arith, longer, insert-append_left)

pub key_longer : (b : Bool) (start : Token) (n : ℕ) (here : Position) (ts : List Token) → length ts ≤ length (put_key b start n here ts)
key_longer b start n here ts = grind (arith, longer)

-- each open key's number is among so many
abbrev pub AreAmong : (many : ℕ) → List (Option Key) → Type 0
AreAmong many [] = Unit {0}
AreAmong many (None ∷ ks) = AreAmong many ks
AreAmong many (Some k ∷ ks) = (k.number ≤ many) × AreAmong many ks

pub fewer : (m n : ℕ) (ks : List (Option Key)) → m ≤ n → AreAmong m ks → AreAmong n ks
fewer m n [] h a = tt
fewer m n (k ∷ ks) h a = grind (arith, fewer m n ks)

pub among : (many : ℕ) (ks : List (Option Key)) → AreNumbered many ks → AreAmong many ks
among many [] a = tt
among many (k ∷ ks) a = grind (arith, fewer, among (before_key many k) ks)

pub had_first : (c : Colon) (single : Bool) (d : Had) (k : Option Key) (ts us : List Token) → AreAmong (length ts) (k ∷ []) → with_had c single d k (ts ++ us) ≡ with_had c single d k ts ++ us
had_first c a d b ts us h = grind (arith, key_first)

pub had_longer : (c : Colon) (single : Bool) (d : Had) (k : Option Key) (ts : List Token) → length ts ≤ length (with_had c single d k ts)
had_longer c a d b ts = grind (arith, key_longer)

pub first_among : (many : ℕ) (k : Option Key) (ks : List (Option Key)) → AreAmong many (k ∷ ks) → AreAmong many (k ∷ []) × AreAmong many ks
first_among many a ks b = grind arith

-- Keys that go in among the first tokens do not move those after them.
pub keys_first : (d : ℕ) (p : Position) (ws : List Step) (last : List ℕ) (bs : List ℕ) (l : Line) (es : List Entry) (ks : List (Option Key)) (ts us : List Token) → AreAmong (length ts) ks →
    with_keys d p ws last bs l es ks (ts ++ us) ≡ with_keys d p ws last bs l es ks ts ++ us
keys_first d p ws last bs l es [] ts us a = refl
keys_first d p ws last bs l [] (k ∷ ks) ts us a = grind (arith, key_first, first_among)
keys_first d p ws last bs l (e ∷ es) (k ∷ ks) ts us a = grind (arith, first_among, had_first, fewer, had_longer, keys_first (suc d) p ws last bs l es ks)

-- Own tokens of a step stand after those so far: the key of the innermost entry goes in before, and so do those around it.
pub keys_own : (d : ℕ) (p : Position) (ws : List Step) (last bs : List ℕ) (l : Line) (e : Entry) (es : List Entry) (k : Option Key) (ks : List (Option Key)) (ts own : List Token) → AreAmong (length ts) (k ∷ ks) →
    with_keys d p ws last bs l (e ∷ es) (k ∷ ks) ts ++ own ≡ with_keys (suc d) p ws last bs l es ks (with_had (colon_of d p ws last) (takes_pair e.kind e.pair) e.had k ts ++ own)
keys_own d p ws last bs l e es k ks ts own a = grind (arith, keys_first, first_among, fewer, had_longer)

-- ---- an entry in which no key waits

pub had_as_it_was : (k : Option Key) (h : Had) → had_by false k h ≡ h
had_as_it_was a h = grind arith

-- what waits in entries is not seen
pub same_levels : (cs : List Bool) (ks : List (Option Key)) (es : List Entry) → map level_of (entries_by cs ks es) ≡ map level_of es
same_levels cs ks [] = refl
same_levels cs ks (e ∷ es) = ap (λ x. level_of e ∷ x) (same_levels (pop cs) (pop ks) es)

-- ---- colons after a step

-- the position after a step's piece
abbrev pub past_step : Position → Step → List Step → (last : List ℕ) → Position
past_step p w ws last = position_after (position_after p w.separation (w.piece ++ spelled ws last)) w.piece (spelled ws last)

-- Keys that wait have the colons that they have after a step, if each colon is the same from there on. Before it and after it so many more flow collections may be open inside each key.
pub keys_along : (from to : ℕ → ℕ) → ((n : ℕ) → from (suc n) ≡ suc (from n)) → ((n : ℕ) → to (suc n) ≡ suc (to n)) → (d : ℕ) (p q : Position) (w : Step) (ws : List Step) (last : List ℕ) →
    ((n : ℕ) → colon_of (from n) p (w ∷ ws) last ≡ colon_of (to n) q ws last) → (bs : List ℕ) (l : Line) (es : List Entry) (ks : List (Option Key)) (ts : List Token) →
    with_keys (from d) p (w ∷ ws) last bs l es ks ts ≡ with_keys (to d) q ws last bs l es ks ts
keys_along from to up rise d p q w ws last h bs l es [] ts = refl
keys_along from to up rise d p q w ws last h bs l [] (k ∷ ks) ts = ap (λ c. with_line c bs l k ts) (h d)
keys_along from to up rise d p q w ws last h bs l (x ∷ es) (k ∷ ks) ts = grind (arith, keys_along from to up rise (suc d) p q w ws last h bs l es ks)

-- so it is after a part of a node
pub keys_past : (kind : Option FlowLevel) (d : ℕ) (p : Position) (w : Step) (ws : List Step) (last : List ℕ) → act_of w.shown ≡ gives_node → begun_by w.shown ≡ with_begun kind [] →
    (bs : List ℕ) (l : Line) (es : List Entry) (ks : List (Option Key)) (ts : List Token) → with_keys d p (w ∷ ws) last bs l es ks ts ≡ with_keys (depth_begun kind d) (past_step p w ws last) ws last bs l es ks ts
keys_past kind d p w ws last e f bs l es ks ts = keys_along (λ n. n) (depth_begun kind) (λ n. refl) (λ n. (grind arith)) d p (past_step p w ws last) w ws last (λ n. (rw (e, f) refl)) bs l es ks ts

-- ---- a key that begins with the last token

-- a key goes in before the tokens of its node
pub key_between : (begins : Bool) (p : Position) (start : Tok) (here : Position) (ts us : List Token) → put_key begins (put p start) (length ts) here (ts ++ us) ≡ ts ++ (key_tokens begins p start here ++ us)
key_between a p start here ts us = grind (arith, insert-append_left, insert_end, append_assoc)

-- ---- a part of a node in flow, be it an opening bracket or no collection: its tokens, and where a key that begins with it goes in

-- The tokens after it are those before, and its own.
pub node_tokens : (level : Option FlowLevel) (s : Site) (separation piece next : List ℕ) (tok : Tok) (allowed c : Bool) (k : Option Key) (new : Key) (e : Entry) (es : List Entry) (ks : List (Option Key)) (here : Position) (ts us : List Token) (l : Line) (ws : List Step) (last : List ℕ) →
    act_of tok ≡ gives_node → begun_by tok ≡ with_begun level [] → is_keyed e.had ≡ false → new.number ≡ length ts → AreAmong (length ts) (k ∷ ks) → spelled ws last ≡ next → here ≡ position_after s.position separation (piece ++ next) →
    shown_position (site_here true here s) piece tok next ≡ here → new.position ≡ here → us ≡ ts ++ (put here tok ∷ []) →
    (let w : Step = record { separation = separation; piece = piece; shown = tok; key = bit_of allowed c } in
    let at : Site = site_here true (position_after s.position separation (piece ++ spelled ws last)) s in
    let x : Entry = entry_by (choice_before allowed c) k e in
    tokens_up_to (with_entries s l (x ∷ es)) (k ∷ ks) ts (w ∷ ws) last ++ tokens_at s at w ws last l (x ∷ es) ≡
    with_keys 0 (past_step s.position w ws last) ws last s.blocks l (with_begun level (entry_by c (saved allowed new k) (entry_past_node allowed e) ∷ es)) (with_no_key level (saved allowed new k ∷ ks)) us)
node_tokens level s separation piece next tok allowed c k new e es ks here ts us l ws last act begins idle number are_among h is_here shown place u =
    let w : Step = record { separation = separation; piece = piece; shown = tok; key = bit_of allowed c } in
    let at : Site = site_here true (position_after s.position separation (piece ++ spelled ws last)) s in
    let x : Entry = entry_by (choice_before allowed c) k e in
    let p : Position = past_step s.position w ws last in
    let depth : ℕ = depth_begun level 0 in
    let colon : Colon = colon_of depth p ws last in
    let single : Bool = takes_pair e.kind e.pair in
    let step : tokens_at s at w ws last l (x ∷ es) ≡ (if w.key then key_tokens single (pair_position colon.past colon.next) flow_mapping_start here else []) ++ (put here tok ∷ []) = grind arith in
    let past = keys_past level 0 s.position w ws last act begins s.blocks l (x ∷ es) (k ∷ ks) ts in
    let own = keys_own depth p ws last s.blocks l x es k ks ts (tokens_at s at w ws last l (x ∷ es)) are_among in
    let around = keys_around_begun level p ws last s.blocks l (entry_by c (saved allowed new k) (entry_past_node allowed e) ∷ es) (saved allowed new k ∷ ks) us in
    grind (arith, step, key_between, had_first, had_as_it_was, past, own, around)

-- ---- a part of a node outside flow, be it an opening bracket or no collection: what may begin after it, and its tokens, where a key that begins with it goes in

-- no block collection ends where a key may still come to its colon
abbrev pub AreSame : Option Key → Position → (rest : List ℕ) → (before here : List ℕ) → Type 0
AreSame None p rest bs cs = Unit {0}
AreSame (Some k) p rest bs cs = IsLive k p rest → bs ≡ cs

-- ---- what may begin after it

-- of a row, and of a cut
pub line_after_node : (strict must allowed c : Bool) (k : Option Key) (new : Key) (l : Line) (here p : Position) (bs rest : List ℕ) → IsLineHere false allowed (0 ∷ []) k l → new.position ≡ here → new.required ≡ must → MayChoose strict c (saved allowed new k) p rest →
    line_past (strict && must) here bs gives_node (bit_of allowed c) (line_by (choice_before allowed c) k l) ≡ Some (record { line = line_by c (saved allowed new k) taken; blocks = bs })
line_after_node strict must allowed c k new l here p bs rest h e q may = grind arith

-- ---- the tokens after it

-- The tokens after it are those before, with the ends that stand here, and its own.
pub node_outer_tokens : (level : Option FlowLevel) (s : Site) (separation piece next : List ℕ) (tok : Tok) (strict allowed c : Bool) (k : Option Key) (new : Key) (l m : Line) (here p : Position) (rest : List ℕ) (ts us : List Token) (ws : List Step) (last : List ℕ) →
    act_of tok ≡ gives_node → begun_by tok ≡ with_begun level [] →
    IsLineHere false allowed (0 ∷ []) k m → MayChoose strict c (saved allowed new k) p rest → is_waiting l ≡ false → AreAmong (length ts) (k ∷ []) → spelled ws last ≡ next → here ≡ position_after s.position separation (piece ++ next) →
    (let b : Site = site_here false here s in
    let w : Step = record { separation = separation; piece = piece; shown = tok; key = bit_of allowed c } in
    let before : Account = Outer s (line_by (choice_before allowed c) k l) in
    us ≡ ts ++ ends_at here s.blocks b.blocks → shown_position b piece tok next ≡ here → new.position ≡ here → new.number ≡ length us → AreSame k p rest s.blocks b.blocks →
    tokens_up_to before (k ∷ []) ts (w ∷ ws) last ++ tokens_of_step before w ws last ≡
    with_keys 0 (position_after here piece next) ws last b.blocks (line_by c (saved allowed new k) taken) (begun_by tok) (with_no_key level (saved allowed new k ∷ [])) (us ++ (put here tok ∷ [])))
node_outer_tokens level s separation piece next tok strict allowed c k new l m here p rest ts us ws last act begins a may idle b e at u shown place number same = grind (arith, append_assoc, keys_past, key_between, key_first, keys_around_begun, taken)
