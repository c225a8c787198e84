-- What the readings of one document say of a text.
use Rattle.yaml_loader.proofs.Common.{[], all_tokens, ap, AreFirst, BeginsEvents, Bool, by_key, by_memory, by_parser, CameFrom, characters_are_the_text, documents_of, EndsDocument, Err, ErrorReport, Ev, events_of, false, fault_of, first_position, Foretells, has_end, HasNoNul, HasNoted, HasRead, IsFaultOf, IsNested, IsRead, IsStream, List, Loader, map, Means, memory_is_wanted, nested_stream, NestedDocument, new_loader, None, noted, Ok, one_by_one, Option, Parse, Parsed, parsed, placed_stream, Position, read, reading, Reads, ReadsAll, ReadsOne, refl, Result, Scans, ScansIn, Some, Stops, stream_nests, subst, sym, toks, Tree, true, true≢false, up_to_nul, view, wants_memory, with_events, Yaml, ℕ, ◌++◌, ◌∙◌, ◌∷◌, ◌≡◌}
use Rattle.yaml_loader.specs.OneDocument.{finished}
use Rattle.yaml_loader.proofs.LoadLemmas.{events_append, end_stays, read_documents, read_has, was_read, was_noted, documents_grow, stays}
use Rattle.proof_loads.proofs.Texts.{goes_on, first_tokens}
use Rattle.yaml_loader.specs.FirstDocuments.{BeginsDocuments, BeginsAs, IsStopped}
use Rattle.yaml_loader.specs.DocumentLaws.{GivenDocumentsAreTheFirst, TextsThatLoadAreNotStopped}
use Rattle.yaml_loader.proofs.Numbers.{nested_so_far}
use Rattle.yaml_loader.proofs.DocumentReading.{parts, read_is}
use Rattle.yaml_loader.specs.DocumentStream.{Stream, stream_of, is_last, Adds, Says, Gives}

-- ---- the text's events begin with those that were read

pub text_begins : (p : Parsed) (text : List ℕ) → IsRead p → ScansIn text p.scanner → BeginsEvents false text p.given
text_begins p text h scans =
    let f = h.sound.follows h.plain.steady in
    subst (λ es. BeginsEvents false text es) (read_is h) (subst (λ k. BeginsEvents k text (read p)) h.plain.keep_tags (record {
      before = f.before;
      last = f.last;
      first = subst (AreFirst text) f.tokens (first_tokens text p.scanner scans);
      begins = f.begins;
      only = subst (λ ts. Foretells p.keep_tags (toks ts) (events_of (read p))) f.tokens f.only;
    }))

begins_documents : (p : Parsed) (text : List ℕ) → IsRead p → EndsDocument p → ScansIn text p.scanner → (ds : List NestedDocument) × BeginsDocuments false text p.given ds
begins_documents p text h ends scans =
    let n = h.sound.nested in
    let before = events_of ends.before in
    let same : events_of p.given ≡ before ++ Ev.document_end ∷ [] = ap events_of ends.given ∙ parts ends.before ((Ev.document_end, ends.position) ∷ []) in
    let to_end : IsNested (events_of p.given ++ Ev.stream_end ∷ []) = subst (λ vs. IsNested (vs ++ Ev.stream_end ∷ [])) (sym same)
    (nested_so_far before n.0 (subst (λ vs. IsNested (vs ++ n.0)) (ap events_of (read_is h) ∙ same) n.1)) in
    (to_end.0, record { begins = text_begins p text h scans; nested = sym to_end.1 })

-- Documents are read as a loader has them after their events.
so_read : (es : List (Ev × Position)) (ds : List NestedDocument) → events_of es ++ Ev.stream_end ∷ [] ≡ nested_stream ds → HasRead (reading ds) (with_events new_loader es)
so_read es ds nested =
    let all = es ++ (Ev.stream_end, first_position) ∷ [] in
    let read = one_by_one ds all (parts es ((Ev.stream_end, first_position) ∷ []) ∙ nested) in
    subst (HasRead (reading ds)) (events_append new_loader es ((Ev.stream_end, first_position) ∷ []) ∙ end_stays (with_events new_loader es) first_position) read

-- ---- what is said of a text

-- after a document
pub says_document : {old now : Parsed} (t : Tree) (text : List ℕ) → ReadsOne old t now → ScansIn text now.scanner → BeginsAs false text (finished now)
says_document {old} {now} t text r scans =
    let b = begins_documents now text r.is_read r.last scans in
    record {
      events = now.given;
      documents = b.0;
      begins = b.1;
      trees_are = was_read (reading b.0) (with_events new_loader now.given) (finished now) (so_read now.given b.0 b.1.nested) (read_has (with_events new_loader now.given) (finished now) r.between.read);
    }

-- after all of them
pub says_all : {old now : Parsed} (text : List ℕ) → ReadsAll old now → ScansIn text now.scanner → Means false text (finished now)
says_all {old} {now} text r scans =
    let h = r.is_read in
    let whole = h.sound.whole h.plain.steady (ap has_end (read_is h) ∙ r.ended) in
    let tokens = now.scanner.given in
    let stream = placed_stream now.keep_tags tokens (read now) whole.stream in
    let nested = stream_nests now.keep_tags (toks tokens) (events_of (read now)) stream in
    let was = one_by_one nested.0 (read now) (sym nested.1) in
    record {
      tokens = tokens;
      has = all_tokens text tokens stream.raws scans.no_nul scans.reached stream.says;
      read = record {
        documents = nested.0;
        stream = subst (λ k. IsStream k (toks tokens) (nested_stream nested.0)) h.plain.keep_tags (subst (IsStream now.keep_tags (toks tokens)) (sym nested.1) stream);
        trees_are = was_read (reading nested.0) (with_events new_loader now.given) (finished now) (subst (λ es. HasRead (reading nested.0) (with_events new_loader es)) (read_is h) was) r.documents;
      };
    }

-- after a fault
pub says_stop : {old now : Parsed} (f : ErrorReport) (text : List ℕ) → Stops old f now → ScansIn text now.scanner → IsStopped false text (finished now) f
says_stop {old} {now} f text (by_parser why plain same) scans = IsStopped.of_parser (subst (λ k. IsFaultOf k text f) plain.keep_tags (fault_of text now f scans plain.steady why))
says_stop f text (by_memory wants) scans = IsStopped.of_parser (wants_memory wants)
says_stop {old} {now} f text (by_key is_read ends same key has tells owned) scans =
    let b = begins_documents now text is_read ends scans in
    IsStopped.repeated_key now.given b.0 b.1 key (was_noted (reading b.0) (with_events new_loader now.given) key f.position (so_read now.given b.0 b.1.nested) has) refl has tells owned

-- ---- a text that loads

abbrev placed_here : List Ev → List (Ev × Position)
placed_here vs = map (λ v. (v, first_position)) vs

back : (vs : List Ev) → events_of (placed_here vs) ≡ vs
back [] = refl
back (v ∷ vs) = ap (λ ws. v ∷ ws) (back vs)

-- A text that means trees goes on from the events that begin it, to where a loader has these trees.
goes_to : (keep_tags : Bool) (text : List ℕ) (all : List Tree) (es : List (Ev × Position)) → Means keep_tags text all → BeginsEvents keep_tags text es → (more : List (Ev × Position)) × HasRead (Ok all) (with_events (with_events new_loader es) more)
goes_to keep_tags text all es x b =
    let y = goes_on keep_tags text all _ x b.first in
    let o = b.only y.more (nested_stream y.reads.documents) y.reads.stream in
    let more = placed_here o.0 in
    let are : events_of (es ++ more) ≡ nested_stream y.reads.documents = parts es more ∙ ap (λ vs. events_of es ++ vs) (back o.0) ∙ sym o.1 in
    let was = one_by_one y.reads.documents (es ++ more) are in
    (more, subst (HasRead (Ok all)) (events_append new_loader es more) (subst (λ r. HasRead r (with_events new_loader (es ++ more))) y.reads.trees_are was))

pub given_are_the_first : GivenDocumentsAreTheFirst
given_are_the_first keep_tags text trees all b x =
    let g = goes_to keep_tags text all b.events x b.begins.begins in
    let start = with_events new_loader b.events in
    let grown = documents_grow start g.0 in
    let before : documents_of start ≡ trees = read_documents start trees (subst (λ r. HasRead r start) b.trees_are (so_read b.events b.documents b.begins.nested)) in
    (grown.0, sym (read_documents (with_events start g.0) all g.1) ∙ grown.1 ∙ ap (λ ts. ts ++ grown.0) before)

pub only_memory_is_wanted : TextsThatLoadAreNotStopped
only_memory_is_wanted keep_tags text trees all f (IsStopped.of_parser why) x = memory_is_wanted keep_tags text all f x why
only_memory_is_wanted keep_tags text trees all f (IsStopped.repeated_key es ds b key twice before has tells owned) x =
    let g = goes_to keep_tags text all es x b.begins in
    absurd (by g.0 (with_events new_loader es) has g.1)
  where
    by : (more : List (Ev × Position)) (l : Loader) → HasNoted l key f.position → HasRead (Ok all) (with_events l more) → ⊥
    by more (noted d k p) h r = subst (HasRead (Ok all)) (stays (noted d k p) (λ e q. refl) more) r
    by more l h r = absurd h

-- ---- what a call gives, from what was read

-- the answer of a call that has read this
abbrev pub answered : {E : Type 0} → Result (Option Yaml) E → Option (Result Yaml E)
answered (Ok (Some t)) = Some (Ok t)
answered (Ok None) = None
answered (Err e) = Some (Err e)

pub fault_adds : {old now : Parsed} (f : ErrorReport) → Stops old f now → f.memory ≡ false → finished now ≡ finished old
fault_adds f (by_parser why plain same) owned = same
fault_adds f (by_memory wants) owned = let no : true ≡ false = sym wants.memory ∙ owned in cc
fault_adds f (by_key is_read ends same key has tells mine) owned = same

module _ (old now : Parsed) where
  adds_so : (r : Result (Option Yaml) ErrorReport) → Reads old r now → Adds (finished old) (answered r) (finished now)
  adds_so (Ok (Some t)) h = h.added
  adds_so (Ok None) h = h.same
  adds_so (Err f) h = fault_adds f h

  says_so : (r : Result (Option Yaml) ErrorReport) (text : List ℕ) → Reads old r now → ScansIn text now.scanner → Says text (finished now) (answered r)
  says_so (Ok (Some t)) text h scans = says_document (view t) text h scans
  says_so (Ok None) text h scans = says_all text h scans
  says_so (Err f) text h scans = says_stop f text h scans

-- where it was not over
pub gives : {T : Type 0} (steps : T → Option ℕ → T → Type 0) (old new : Parse T) → CameFrom steps new.start (parsed new).scanner.taken (parsed new).scanner.done
    → HasNoNul (parsed new).scanner.taken → Scans (parsed new).scanner → {over : Bool} {s : Stream T} → stream_of old over ≡ s → over ≡ false → new.start ≡ old.start
    → (r : Result (Option Yaml) ErrorReport) (last : Bool) → last ≡ is_last (answered r) → Reads (parsed old) r (parsed new) → Gives steps s (answered r) (stream_of new last)
gives steps old new came no_nul scans is off start r last over reads = subst (λ z. Gives steps z (answered r) (stream_of new last)) (ap (stream_of old) (sym off) ∙ is) (record {
  start = start;
  again = λ h. absurd (true≢false (sym h));
  over = over;
  adds = adds_so (parsed old) (parsed new) r reads;
  says = λ going all always.
      says_so (parsed old) (parsed new) r (up_to_nul all) reads (scans.scans (up_to_nul all)
      (characters_are_the_text steps old.start all (parsed new).scanner always (subst (λ i. CameFrom steps i (parsed new).scanner.taken (parsed new).scanner.done) start came) no_nul));
})
