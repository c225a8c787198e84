-- A parser somewhere in a text that means trees, and two of them.
use Rattle.std.proofs.Math.Seq.{take-append_seam}
use Rattle.proof_loads.proofs.Common.{length-map, ap, append_assoc, AreFirst, Bool, ErrorReport, Ev, events_of, EventsOfReadTextsAreRead, Follows, Foretells, foretold_are_not_refused, IfSome, inl, inr, IsStream, length, List, map-append, Means, nested_stream, Option, Parsed, Position, read, ReadAs, ReadTextsAreNotRefused, ReadTextsHaveNoFaultButMemory, ReadTextsHaveOneListOfEvents, ReadTextsHaveTheirTrees, refl, Scanned, ScansIn, Some, streams_are_loaded, streams_are_not_cut, subst, sym, Tok, Token, toks, Tree, true, ℕ, ◌++◌, ◌∙◌, ◌≡◌, take}

-- The tokens handed out, with some more, are read as the trees.
pub record GoesOn (keep_tags : Bool) (given : List Token) (trees : List Tree) : Type 0 where
  pub more : List Tok
  pub reads : ReadAs keep_tags (toks given ++ more) trees

pub goes_on : (keep_tags : Bool) (text : List ℕ) (trees : List Tree) (given : List Token) → Means keep_tags text trees → AreFirst text given → GoesOn keep_tags given trees
goes_on keep_tags text trees given x first =
    let b = first.begins x.tokens x.has in
    let same : toks x.tokens ≡ toks given ++ toks b.more = ap toks b.whole ∙ map-append (λ (t : Token). t.tok) given b.more in
    record { more = toks b.more; reads = subst (λ ts. ReadAs keep_tags ts trees) same x.read }

pub first_tokens : (text : List ℕ) (s : Scanned) → ScansIn text s → AreFirst text s.given
first_tokens text s scans = record { reached = scans.reached; begins = scans.begins }

pub texts_are_not_refused : ReadTextsAreNotRefused
texts_are_not_refused p text trees x scans r =
    let y = goes_on _ text trees _ x (first_tokens text _ scans) in
    streams_are_not_cut _ _ y.more trees y.reads r.none

-- what holds of a fault that may be kept, where it is
pub if_kept : (P : ErrorReport → Type 0) (o : Option ErrorReport) (f : ErrorReport) → o ≡ Some f → IfSome o P → P f
if_kept P o f e h = rw e at h

pub only_memory_is_wanted : ReadTextsHaveNoFaultButMemory
only_memory_is_wanted p f text trees x scans steady why =
    elim why [
      | inl kept ↦ if_kept (λ g. g.memory ≡ true) p.scanner.fault f kept.fault (scans.sound x.tokens x.has)
      | inr other ↦ elim other [ inl wants ↦ wants.memory | inr cut ↦ absurd (texts_are_not_refused p text trees x scans (cut.refused steady)) ]
    ]

-- What foretells events foretells their beginnings.
pub foretells_beginning : (keep_tags : Bool) (tokens : List Tok) (all es more : List (Ev × Position)) → all ≡ es ++ more → Foretells keep_tags tokens (events_of all) → Foretells keep_tags tokens (events_of es)
foretells_beginning keep_tags tokens all es more e foretold ts vs stream =
    let f = foretold ts vs stream in
    let parts : events_of all ≡ events_of es ++ events_of more = ap events_of e ∙ map-append (λ (v : Ev × Position). v.0) es more in
    (events_of more ++ f.0, cc (f.1, append_assoc (events_of es) (events_of more) f.0))

pub events_are_read : EventsOfReadTextsAreRead
events_are_read p text trees es more x scans follows e =
    let y = goes_on _ text trees _ x (first_tokens text _ scans) in
    foretold_are_not_refused _ _ y.more trees es y.reads
    (foretells_beginning _ _ (read p) es more e follows.only)

pub texts_have_their_trees : ReadTextsHaveTheirTrees
texts_have_their_trees p text trees x scans whole =
    let y = goes_on _ text trees _ x (first_tokens text _ scans) in
    let all = toks p.scanner.given ++ y.more in
    let stream : IsStream p.keep_tags all (events_of (read p)) = subst (IsStream p.keep_tags all) (whole.only y.more _ y.reads.stream).1 y.reads.stream in
    streams_are_loaded _ _ trees (read p) y.reads stream

-- The text's events begin with those that were read.
begins_all : (p : Parsed) (keep_tags : Bool) (text : List ℕ) (trees : List Tree) → (x : Means keep_tags text trees) → p.keep_tags ≡ keep_tags → ScansIn text p.scanner → Follows p → (more : List Ev) × (nested_stream x.read.documents ≡ events_of (read p) ++ more)
begins_all p keep_tags text trees x same_setting scans follows =
    let b = (first_tokens text p.scanner scans).begins x.tokens x.has in
    let same : toks x.tokens ≡ toks p.scanner.given ++ toks b.more = ap toks b.whole ∙ map-append (λ (t : Token). t.tok) p.scanner.given b.more in
    let all = nested_stream x.read.documents in
    follows.only (toks b.more) all (subst (λ k. IsStream k (toks p.scanner.given ++ toks b.more) all) (sym same_setting) (subst (λ ts. IsStream keep_tags ts all) same x.read.stream))

-- two beginnings of a list that are equally long
pub same_beginning : {A : Type 0} (xs ys us vs : List A) → length xs ≡ length ys → xs ++ us ≡ ys ++ vs → xs ≡ ys
same_beginning xs ys us vs l h = sym (take-append_seam xs us) ∙ ap (λ n. take n (xs ++ us)) l ∙ ap (take (length ys)) h ∙ take-append_seam ys vs

pub same_events : ReadTextsHaveOneListOfEvents
same_events p q text trees x same_setting scans others follows other_follows l =
    let b = begins_all p p.keep_tags text trees x refl scans follows in
    let c = begins_all q p.keep_tags text trees x same_setting others other_follows in
    same_beginning _ _ b.0 c.0 (rw (length-map, length-map) l) (sym b.1 ∙ c.1)
