-- For one text two answers agree, and two parsers read and push the same events.
use Rattle.yaml_loader.proofs.Common.{[], all_tokens, AnswersText, ap, Bool, both_ways, Err, ErrorReport, Ev, events_of, false, HasEvents, HasNoted, inl, inr, IsFaultOf, IsPlacedStream, IsStream, IsUnread, items_view, List, map-append, Means, memory_is_wanted, nested_is_stream, new_loader, no_stream, no_token, of_parser, Ok, one_by_one, one_meaning, one_reading, placed_stream, Position, read, reading, Receives, refl, Result, subst, sym, TellsKey, texts_are_answered, Token, toks, Tree, true, wants_memory, whole, with_events, ℕ, ◌++◌, ◌∙◌, ◌∷◌, ◌≡◌, ◌⊎◌}
use Rattle.defs_event.proofs.OneReading as grammar
use Rattle.defs_token.specs.Row.{IsRead}
use Rattle.proof_row.proofs.OneRow as row
use Rattle.proof_loads.proofs.OneFault.{one_fault}
use Rattle.yaml_loader.specs.Agreement.{OneAnswer, OneListOfDocuments, OneListOfPulledEvents, OneListOfPushedEvents}
use Rattle.yaml_loader.proofs.LoadLemmas.{was_noted}

pub one_list_of_documents : OneListOfDocuments
one_list_of_documents keep_tags text (Ok ones) (Ok others) m n = one_meaning keep_tags text (items_view ones.items) (items_view others.items) m n
one_list_of_documents keep_tags text one other m n = tt

-- ---- events of the tokens that a text is read as

same_events : (keep_tags : Bool) (text : List ℕ) (ts us : List Token) (es fs : List (Ev × Position)) → IsRead text ts → IsRead text us → IsPlacedStream keep_tags ts es → IsPlacedStream keep_tags us fs
    → events_of es ≡ events_of fs
same_events keep_tags text ts us es fs h k x y =
    let other : IsStream keep_tags (toks ts) (events_of fs) = subst (λ vs. IsStream keep_tags (toks vs) (events_of fs)) (row.one_reading text us ts k h) (placed_stream keep_tags us fs y) in
    grammar.one_list keep_tags (toks ts) (events_of es) (events_of fs) (placed_stream keep_tags ts es x) other

pub one_list_of_pulled_events : OneListOfPulledEvents
one_list_of_pulled_events p q text setting scans scanned x y =
    let one = placed_stream p.keep_tags p.scanner.given (read p) x.stream in
    let other = placed_stream q.keep_tags q.scanner.given (read q) y.stream in
    let has = all_tokens text p.scanner.given one.raws scans.no_nul scans.reached one.says in
    let had = all_tokens text q.scanner.given other.raws scanned.no_nul scanned.reached other.says in
    same_events q.keep_tags text p.scanner.given q.scanner.given (read p) (read q) has had (subst (λ k. IsPlacedStream k p.scanner.given (read p)) setting x.stream) y.stream

-- ---- answers that are faults

-- A text whose tokens are a whole stream is refused by no parser.
memory_alone : (keep_tags : Bool) (text : List ℕ) (es : List (Ev × Position)) (f : ErrorReport) → HasEvents keep_tags text es → IsFaultOf keep_tags text f → f.memory ≡ true
memory_alone keep_tags text es f h (wants_memory w) = w.memory
memory_alone keep_tags text es f h (no_token given events settled begins has r) = absurd (r.rowless.rowless h.tokens h.has)
memory_alone keep_tags text es f h (no_stream before last events first blames begins none) =
    let b = first.begins h.tokens h.has in
    let all : toks h.tokens ≡ toks (before ++ last ∷ []) ++ toks b.more = ap toks b.whole ∙ map-append (λ (t : Token). t.tok) (before ++ last ∷ []) b.more in
    absurd (none (toks b.more) (events_of es) (subst (λ ts. IsStream keep_tags ts (events_of es)) all (placed_stream keep_tags h.tokens es h.stream)))

-- A text that means trees has no key twice.
only_memory : (keep_tags : Bool) (text : List ℕ) (trees : List Tree) (f : ErrorReport) → Means keep_tags text trees → IsUnread keep_tags text f → f.memory ≡ true
only_memory keep_tags text trees f x (of_parser why) = memory_is_wanted keep_tags text trees f x why
only_memory keep_tags text trees f x (IsUnread.repeated_key es h key repeats noted tells owned) =
    let read = one_reading h.tokens h.documents h.has (nested_is_stream h) x in let no = sym read ∙ repeats in cc

-- Events of one text have the same key twice.
one_key : (keep_tags : Bool) (text : List ℕ) (es fs : List (Ev × Position)) (key other : Tree) (p : Position) → (h : HasEvents keep_tags text es) → (k : HasEvents keep_tags text fs)
    → HasNoted (with_events new_loader es) key p → reading k.documents ≡ Err other → key ≡ other
one_key keep_tags text es fs key other p h k noted repeats =
    let same = same_events keep_tags text h.tokens k.tokens es fs h.has k.has h.stream k.stream in
    let both = sym (was_noted (reading k.documents) (with_events new_loader es) key p (one_by_one k.documents es (same ∙ k.events_are)) noted) ∙ repeats in cc

faults_agree : (keep_tags : Bool) (text : List ℕ) (f g : ErrorReport) → IsUnread keep_tags text f → IsUnread keep_tags text g → f.memory ≡ false → g.memory ≡ false → (f ≡ g) ⊎ ((key : Tree) × TellsKey key f.text × TellsKey key g.text)
faults_agree keep_tags text f g (of_parser x) (of_parser y) m n = inl (one_fault keep_tags text f g x y m n)
faults_agree keep_tags text f g (of_parser x) (IsUnread.repeated_key es h key repeats noted tells owned) m n = absurd (both_ways f.memory m (memory_alone keep_tags text es f h x))
faults_agree keep_tags text f g (IsUnread.repeated_key es h key repeats noted tells owned) (of_parser y) m n = absurd (both_ways g.memory n (memory_alone keep_tags text es g h y))
faults_agree keep_tags text f g (IsUnread.repeated_key es h key repeats noted tells owned) (IsUnread.repeated_key fs k other again noted_too tells_too owned_too) m n =
    inr (key, tells, subst (λ t. TellsKey t g.text) (sym (one_key keep_tags text es fs key other f.position h k noted again)) tells_too)

pub one_answer : OneAnswer
one_answer keep_tags text (Ok ones) (Ok others) x y = one_meaning keep_tags text (items_view ones.items) (items_view others.items) x y
one_answer keep_tags text (Ok ones) (Err g) x y = only_memory keep_tags text (items_view ones.items) g x y
one_answer keep_tags text (Err f) (Ok others) x y = only_memory keep_tags text (items_view others.items) f y x
one_answer keep_tags text (Err f) (Err g) x y = λ m n. faults_agree keep_tags text f g x y m n

-- a load that ended well pushed all events of its text
all_taken : {R : Type 0} {takes : R → Ev → Position → Result (Unit {0}) ErrorReport → R → Type 0} {r s : R} {result : Result (Unit {0}) ErrorReport} {keep_tags : Bool} {text : List ℕ}
    → AnswersText takes keep_tags text r result s → result ≡ Ok tt → (es : List (Ev × Position)) × HasEvents keep_tags text es × Receives takes r es s
all_taken (whole es has received) ok = (es, has, received)
all_taken answers ok = cc

pub one_list_of_pushed_events : {R S : Type 0} (takes : R → Ev → Position → Result (Unit {0}) ErrorReport → R → Type 0) (others : S → Ev → Position → Result (Unit {0}) ErrorReport → S → Type 0)
    → OneListOfPushedEvents takes others
one_list_of_pushed_events takes others p p' q q' r r' s s' text start began setting scans scanned one other =
    let x = all_taken (texts_are_answered takes p p' r r' (Ok tt) text start scans one) refl in
    let y = all_taken (texts_are_answered others q q' s s' (Ok tt) text began scanned other) refl in
    record {
      events = x.0;
      other_events = y.0;
      took = x.2;
      other_took = y.2;
      same = same_events q.keep_tags text x.1.tokens y.1.tokens x.0 y.0 x.1.has y.1.has (subst (λ k. IsPlacedStream k x.1.tokens x.0) setting x.1.stream) y.1.stream;
    }
