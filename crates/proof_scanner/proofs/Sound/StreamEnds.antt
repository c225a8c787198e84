-- Where a text ends: no open key is one, and the stream's end and those of the block collections stand where the row has them.
use Rattle.proof_scanner.proofs.Sound.Rolled.{all_close}
use Rattle.std.proofs.lemmas.List.{append-nil}
use Rattle.proof_scanner.proofs.Common.{KeyExpected, if◌then◌else◌, [], Account, AreAround, AreCollections, AreEntries, AreLevels, Arrives, At, Bool, Completes, Entry, FlowLevel, Held, Holds, Indent, IsRead, Key, Line, List, MayChoose, Option, Position, ScannerState, Site, Step, Token, ap, append_assoc, arith, block_end, blocks, checked, chosen, cleared, columns, ended_at, ends_at, ends_here, ends_with_stream, entries_by, false, fetch_stream_end, has_required, have_no_key, in_flow, is_empty, is_renewed, is_waiting, length, nat_lt, next_line, not, not-true, not_ended, outside_key, pop, position_after, put, refl, replicate, site_here, stream_position, suc, sym, tokens_at_end, tokens_up_to, tried, true, unroll_indent, unrolled, went, with_keys, ℕ, ◌++◌, ◌∙◌, ◌∷◌, ◌≡◌, ◌≤◌, IsNotRight, innermost, end_level, SoFar, tokens_from, IsCutUpTo, subst, Some}
use Rattle.proof_scanner.proofs.Cut.Documents.{unroll_keeps, unrolled_in_flow}
use Rattle.proof_scanner.proofs.Sound.Completed.{completed_at_end}

-- ---- no key waits

around_no_key : (fs : List FlowLevel) (ks : List (Option Key)) (es : List Entry) → AreAround fs ks es → have_no_key es ≡ true
around_no_key (f ∷ fs) (k ∷ ks) (e ∷ es) a = grind (arith, around_no_key fs ks es)
around_no_key fs ks es a = grind arith

pub entries_no_key : (allowed again : Bool) (fs : List FlowLevel) (ks : List (Option Key)) (es : List Entry) → AreEntries allowed again fs ks es → have_no_key es ≡ true
entries_no_key allowed again a ks es b = grind (arith, around_no_key)

none_inside : (ks : List (Option Key)) (es : List Entry) → entries_by [] ks es ≡ es
none_inside ks [] = refl
none_inside ks (e ∷ es) = ap (λ x. x ∷ entries_by [] (pop ks) es) (grind arith) ∙ ap (λ xs. e ∷ xs) (none_inside (pop ks) es)

-- with no choice for a key, the account is the one in which no open key is one
pub none_chosen : (ks : List (Option Key)) (a : Account) → chosen false [] ks a ≡ a
none_chosen ks a = grind (arith, none_inside)

-- where no key waits, the tokens are those that the scanner holds
pub none_put : (d : ℕ) (p : Position) (ws : List Step) (last bs : List ℕ) (l : Line) (es : List Entry) (ks : List (Option Key)) (ts : List Token) → is_waiting l ≡ false → have_no_key es ≡ true → with_keys d p ws last bs l es ks ts ≡ ts
none_put d p ws last bs l es [] ts h n = refl
none_put d p ws last bs l [] (k ∷ ks) ts h n = grind arith
none_put d p ws last bs l (e ∷ es) (k ∷ ks) ts h n = grind (arith, none_put (suc d) p ws last bs l es ks ts h)

-- rows are completed alike by tokens that are alike
pub completes_alike : (strict : Bool) (text after : List ℕ) (a : Account) (T U : List Step → List ℕ → List Token) → ((ws : List Step) (last : List ℕ) → T ws last ≡ U ws last) → SoFar strict text after a T → SoFar strict text after a U
completes_alike true text after a T U same h = (h.0, λ ws last e. h.1 ws last e ∙ ap (λ x. x ++ tokens_from (Some a) ws last) (same ws last))
completes_alike false text after a T U same h = (h.0, λ ws last e. subst (λ ts. IsCutUpTo text after a ts) (same ws last) (h.1 ws last e))

-- where no open key is one, the tokens are those that the scanner holds
pub none_completes : (strict : Bool) (text after : List ℕ) (a : Account) (ks : List (Option Key)) (ts : List Token) → is_waiting a.line ≡ false → have_no_key a.entries ≡ true →
    SoFar strict text after (chosen false [] ks a) (tokens_up_to (chosen false [] ks a) ks ts) → SoFar strict text after a (λ ws last. ts)
none_completes strict text after a ks ts no_key none h = grind (arith, completes_alike, none_put, none_chosen)

-- ---- the ends of block collections

-- that many ends
abbrev pub ends_of : ℕ → Position → List Token
ends_of n p = replicate n (put p block_end)

-- all levels end at the stream's end, each collection with its token
pub all_levels : (p : Position) (i : ℕ) (ds : List Indent) (ts : List Token) → AreLevels i ds → unrolled 0 p i ds ts ≡ record { indent = 0; indents = []; tokens = ts ++ ends_of (length (columns i ds)) p }
unfolding unrolled
all_levels p i [] ts a = rw (a, append-nil) refl
all_levels p i (d ∷ ds) ts a = grind (arith, append_assoc, all_levels p d.indent ds (end_level d.needs_block_end p ts) (all_close d.indent ds a.1).0)

-- whether no collection is deeper than a column
abbrev pub NoneDeeper : (column : ℕ) → List ℕ → Type 0
NoneDeeper col [] = Unit {0}
NoneDeeper col (n ∷ ns) = (n ≤ col) × NoneDeeper col ns

none_ends : (end : Position) (bs : List ℕ) → NoneDeeper end.col bs → ends_with_stream end bs ≡ ends_of (length bs) (stream_position end)
none_ends end [] h = refl
none_ends end (n ∷ ns) h = grind (arith, put, none_ends end ns h.1)

-- ---- the ends that stand at the text's end, and those after it

-- what is not deeper ends with the stream
below : (m i : ℕ) (ds : List Indent) → AreCollections i ds → i ≤ suc m → NoneDeeper m (columns i ds)
below m i [] a h = tt
below m i (d ∷ ds) a h = rw a.0 (omega (arith, h), below m d.indent ds a.2 (omega (arith, h, a.1)))

-- collections that go on are not right of a column
pub first_stays : (col : ℕ) (bs : List ℕ) → IsNotRight (innermost (not_ended col bs)) col
first_stays col [] = tt
first_stays col (n ∷ ns) = grind (arith, first_stays col ns)

levels_below : (col i : ℕ) (ds : List Indent) → AreLevels i ds → IsNotRight (innermost (columns i ds)) col → NoneDeeper col (columns i ds)
levels_below col i [] a f = tt
levels_below col i (d ∷ ds) a f = grind (arith, below col d.indent ds a.1)

pub shorter : (col : ℕ) (bs : List ℕ) → length (not_ended col bs) ≤ length bs
shorter col [] = omega arith
shorter col (n ∷ ns) = grind (arith, shorter col ns)

-- Collections deeper than the text's end end there, and the others with the stream.
pub ends_split : (end : Position) (bs : List ℕ) → NoneDeeper end.col (not_ended end.col bs) →
    ends_with_stream end bs ≡ ends_at end bs (not_ended end.col bs) ++ ends_of (length (not_ended end.col bs)) (stream_position end)
ends_split end [] h = refl
ends_split end (n ∷ ns) h = by (nat_lt end.col n) refl (λ k. ends_split end ns k) h
  where
    by : (b : Bool) → nat_lt end.col n ≡ b →
        (NoneDeeper end.col (not_ended end.col ns) → ends_with_stream end ns ≡ ends_at end ns (not_ended end.col ns) ++ ends_of (length (not_ended end.col ns)) (stream_position end)) → NoneDeeper end.col (if b then not_ended end.col ns else n ∷ ns) →
        put (if b then end else stream_position end) block_end ∷ ends_with_stream end ns ≡ ends_at end (n ∷ ns) (if b then not_ended end.col ns else n ∷ ns) ++ ends_of (length (if b then not_ended end.col ns else n ∷ ns)) (stream_position end)
    by a e later k = grind (arith, shorter, none_ends)

-- the same by the levels of indentation that the scanner holds
pub ends_by_levels : (end : Position) (bs : List ℕ) (i : ℕ) (ds : List Indent) → AreLevels i ds → not_ended end.col bs ≡ columns i ds →
    ends_with_stream end bs ≡ ends_at end bs (not_ended end.col bs) ++ ends_of (length (columns i ds)) (stream_position end)
ends_by_levels end bs i ds a e = rw (sym e) (ends_split end bs (rw e (levels_below end.col i ds a (rw (sym e) (first_stays end.col bs)))))

-- ---- the stream's end

-- a key outside flow need not be one, if none must be
outside_free : (es : List Entry) (ks : List (Option Key)) (p : Position) (rest : List ℕ) → has_required ks ≡ false → MayChoose true false (outside_key es ks) p rest
outside_free [] ks p rest h = grind arith
outside_free (e ∷ es) [] p rest h = grind (arith, outside_free es [] p rest h)
outside_free (e ∷ es) (k ∷ ks) p rest h = grind (arith, outside_free es ks p rest)

-- the text is read as the tokens before the separation and those at its end
at_end : (text : List ℕ) (t : ScannerState) (a : Arrives text t) → t.rest ≡ [] → has_required t.held.keys ≡ false → IsRead text (a.tokens ++ tokens_at_end t.held.position a.base.site.blocks a.base.entries)
at_end text t a e required =
    let plain : have_no_key a.base.entries ≡ true = entries_no_key t.held.key_allowed (is_renewed a.base.site.before a.separation) t.held.flow t.held.keys a.base.entries a.are_entries in
    let last : a.separation ++ t.rest ≡ a.separation = ap (λ x. a.separation ++ x) e ∙ append-nil a.separation in
    let own : Completes text a.separation a.base (λ ws z. a.tokens) = rw (sym last) (none_completes true text (a.separation ++ t.rest) a.base t.held.keys a.tokens a.no_key plain (a.completes true false [] (outside_free a.base.entries t.held.keys t.held.position t.rest required))) in
    let same : position_after a.base.site.position a.separation [] ≡ t.held.position = ap (λ x. position_after a.base.site.position a.separation x) (sym e) ∙ sym a.position_is in
    rw (sym same) (completed_at_end text a.separation a.base (λ ws z. a.tokens) (rw (sym e) a.is_filled) (rw (a.no_key, plain) refl) own)

-- all levels have ended
abbrev pub all_ended : Held → Held
all_ended s = record s { indent = 0; indents = []; tokens = s.tokens ++ ends_of (length (columns s.indent s.indents)) s.position }

pub ended_outside : (s : Held) → in_flow s ≡ false → AreLevels s.indent s.indents → unroll_indent 0 s ≡ all_ended s
unfolding unroll_indent
ended_outside s e a = grind (arith, all_levels)

-- the scanner where its stream ends, before the last ends
abbrev at_stream_end : Held → Held
at_stream_end h = record h { position = next_line h.position; keys = cleared h.keys }

pub same_flow : (allowed again : Bool) (fs : List FlowLevel) (ks : List (Option Key)) (es : List Entry) → AreEntries allowed again fs ks es → is_empty fs ≡ is_empty es
same_flow allowed again a ks es b = grind arith

last_tokens : (h : Held) (ts : List Token) (x : Site) (es : List Entry) → is_empty h.flow ≡ is_empty es → AreLevels h.indent h.indents → h.tokens ≡ ts ++ ends_here (not (is_empty h.flow)) h.position x.blocks →
    (site_here (not (is_empty h.flow)) h.position x).blocks ≡ columns h.indent h.indents → (ended_at (unroll_indent 0 (at_stream_end h))).tokens ≡ ts ++ tokens_at_end h.position x.blocks es
last_tokens h ts x a e levels tokens blocks = grind (arith, ended_outside, append_assoc, ends_by_levels, ends_here, columns, unrolled_in_flow, not-true, append-nil)

-- At the text's end the stream ends, unless a key must still come to its colon, and the tokens are those of a row of the text.
pub stream_ended : (text : List ℕ) (t : ScannerState) → Arrives text t → t.rest ≡ [] →
    Holds (λ u. (u.held.ended ≡ true) × IsRead text u.held.tokens × (u.held.started ≡ t.held.started) × (u.held.position ≡ next_line t.held.position)) (fetch_stream_end t)
unfolding fetch_stream_end
stream_ended text t a e =
    let same : ((unroll_indent 0 (at_stream_end t.held)).position ≡ next_line t.held.position) × ((unroll_indent 0 (at_stream_end t.held)).started ≡ t.held.started) = unroll_keeps 0 (at_stream_end t.held) in
    tried t _ (checked (has_required t.held.keys) (At KeyExpected (next_line t.held.position)) (λ none. went (
      refl,
      rw (last_tokens t.held a.tokens a.base.site a.base.entries (same_flow t.held.key_allowed (is_renewed a.base.site.before a.separation) t.held.flow t.held.keys a.base.entries a.are_entries) a.are_levels a.tokens_are a.blocks_are)
          (at_end text t a e none),
      same.1,
      same.0,
    ))) (λ s p. p)
