-- What a load answers of any text.
use Rattle.yaml_loader.proofs.Common.{[], AnswersText, ap, BeginsEvents, BeginsPlaced, Bool, Err, ErrorReport, Ev, events_of, faulted, Gives, Global, HasDocuments, HasEvents, HasRead, inl, inr, IsFaultOf, IsGivenFault, IsNewFault, IsUnread, items_view, kept_fault, List, Loader, loader_of, Loads, LoadsText, nested_is_stream, new_loader, None, OfTexts, Ok, one_by_one, Parsed, placed_stream, Position, reading, Receives, refl, refused, refused_at, Result, Scans, Some, stream_nests, subst, sym, Takes, texts_are_answered, Token, toks, Tree, true, Vec, want_of_memory, wants_memory, WantsMemory, whole, with_event_at, with_events, Yaml, YamlLoader, ℕ, ◌++◌, ◌∙◌, ◌∷◌, ◌≡◌}
use Rattle.yaml_loader.proofs.Beside.{beside_has, beside_noted}
use Rattle.yaml_loader.proofs.LoadLemmas.{events_append, StandsAfter, stands, new_fault, stays, was_read, was_noted}

-- ---- events with which a stream's begin are not refused

pub not_refused : (keep_tags : Bool) (tokens : List Token) (es : List (Ev × Position)) (p : Position) → BeginsPlaced keep_tags tokens es → refused_at (with_events new_loader es) ≡ Some p → ⊥
not_refused keep_tags tokens es p b = by (with_events new_loader es) refl
  where
    all : List (Ev × Position)
    all = es ++ b.more_events

    never : (r : Result (List Tree) Tree) (documents : List Tree) (q : Position) → HasRead r (Loader.refused documents q) → ⊥
    never (Ok trees) documents q h = h
    never (Err key) documents q h = h

    by : (x : Loader) → with_events new_loader es ≡ x → refused_at x ≡ Some p → ⊥
    by (Loader.refused documents q) e h =
        let nested = stream_nests keep_tags (toks (tokens ++ b.more_tokens)) (events_of all) (placed_stream keep_tags (tokens ++ b.more_tokens) all b.stream) in
        let read = one_by_one nested.0 all (sym nested.1) in
        let left : with_events new_loader all ≡ Loader.refused documents q =
        events_append new_loader es b.more_events ∙ ap (λ x. with_events x b.more_events) e ∙ stays (Loader.refused documents q) (λ v r. refl) b.more_events in
        never (reading nested.0) documents q (subst (HasRead (reading nested.0)) left read)
    by x e h = cc

-- ---- how the loader is left

-- It stands after all events of the text; or the fault is the parser's.
abbrev pub LeftBy : Bool → List ℕ → Result (Unit {0}) ErrorReport → YamlLoader → Type 0
LeftBy keep_tags text (Ok u) n = (es : List (Ev × Position)) × HasEvents keep_tags text es × StandsAfter es n
LeftBy keep_tags text (Err f) n = IsFaultOf keep_tags text f

pub wants : {f : ErrorReport} {p : Position} → f ≡ want_of_memory p → WantsMemory f
wants e = record { memory = ap (λ g. g.memory) e; text = ap (λ g. g.text) e }

-- a new fault with an event that is not refused
pub new_fault_wants : {f : ErrorReport} {p : Position} (l : Loader) → IsNewFault f p l → (refused_at l ≡ Some p → ⊥) → WantsMemory f
new_fault_wants l (inl e) other = wants e
new_fault_wants l (inr nesting) other = absurd (other nesting.1)

refuses_for_memory : {keep_tags : Bool} {text : List ℕ} (es : List (Ev × Position)) (e : Ev) (p : Position) (f : ErrorReport) → IsNewFault f p (with_event_at (with_events new_loader es) e p) → BeginsEvents keep_tags text (es ++ (e, p) ∷ [])
    → WantsMemory f
refuses_for_memory {keep_tags} es e p f why b =
    new_fault_wants (with_event_at (with_events new_loader es) e p) why (λ at. not_refused keep_tags b.before (es ++ (e, p) ∷ []) p b.begins (ap refused_at (events_append new_loader es ((e, p) ∷ [])) ∙ at))

left_by : {l n : YamlLoader} {keep_tags : Bool} {text : List ℕ} {result : Result (Unit {0}) ErrorReport} → loader_of l ≡ new_loader → kept_fault l ≡ None → AnswersText Takes keep_tags text l result n → LeftBy keep_tags text result n
left_by {l} new clear (whole es h took) = (es, h, stands l new clear took)
left_by new clear (faulted es why after took) = why
left_by {l} new clear (refused {f = f} es e p begins took takes) = wants_memory (refuses_for_memory es e p f (new_fault l new clear e p took takes) begins)

-- A load by an empty loader, of a parser that was at its start.
pub any_text_leaves : {old new : Parsed} {l n : YamlLoader} {result : Result (Unit {0}) ErrorReport} → loader_of l ≡ new_loader → kept_fault l ≡ None → Scans new.scanner → Loads Takes true old l result new n
    → OfTexts old new (λ text. LeftBy old.keep_tags text result n)
any_text_leaves {old} {new} {l} {n} {result} empty clear scans loads start text may = left_by empty clear (texts_are_answered Takes old new l n result text start (scans.scans text may) loads)

-- ---- what the loader gives then

-- of a loader that stands after all events of a text
pub left_gives : {keep_tags : Bool} {text : List ℕ} (l : YamlLoader) (result : Result (Vec Yaml Global) ErrorReport) → LeftBy keep_tags text (Ok tt) l → Gives l result → LoadsText keep_tags text result
left_gives l (Ok documents) (es, h, after) has =
    let x = with_events new_loader es in
    record {
      tokens = h.tokens;
      has = h.has;
      read = record {
        documents = h.documents;
        stream = nested_is_stream h;
        trees_are = was_read (reading h.documents) x (items_view documents.items) (one_by_one h.documents es h.events_are) (beside_has (items_view documents.items) after.beside has);
      };
    }
left_gives l (Err f) (es, h, after) (IsGivenFault.kept is) = let both = sym after.clear ∙ is in cc
left_gives l (Err f) (es, h, after) (IsGivenFault.repeated_key key has tells owned) =
    let x = with_events new_loader es in
    let had = beside_noted key f.position after.beside has in
    IsUnread.repeated_key es h key (was_noted (reading h.documents) x key f.position (one_by_one h.documents es h.events_are) had) had (tells after.tells) owned

-- ---- a loader that another receiver hands the events of a text

pub taken_texts_are_loaded : (keep_tags : Bool) (text : List ℕ) (es : List (Ev × Position)) (empty l : YamlLoader) (result : Result (Vec Yaml Global) ErrorReport)
    → loader_of empty ≡ new_loader → kept_fault empty ≡ None → HasEvents keep_tags text es → Receives Takes empty es l → Gives l result → LoadsText keep_tags text result
taken_texts_are_loaded keep_tags text es empty l result new clear h took gives = left_gives l result (es, h, stands empty new clear took) gives

pub taken_events_are_read : (es : List (Ev × Position)) (empty l : YamlLoader) (documents : List Tree)
    → loader_of empty ≡ new_loader → kept_fault empty ≡ None → Receives Takes empty es l → HasDocuments (loader_of l) documents → HasDocuments (with_events new_loader es) documents
taken_events_are_read es empty l documents new clear took has = beside_has documents (stands empty new clear took).beside has

pub refused_texts_want_memory : (keep_tags : Bool) (text : List ℕ) (es : List (Ev × Position)) (e : Ev) (p : Position) (empty l n : YamlLoader) (f : ErrorReport)
    → loader_of empty ≡ new_loader → kept_fault empty ≡ None → BeginsEvents keep_tags text (es ++ (e, p) ∷ []) → Receives Takes empty es l → Takes l e p (Err f) n → WantsMemory f
refused_texts_want_memory keep_tags text es e p empty l n f new clear begins took takes = refuses_for_memory es e p f (new_fault empty new clear e p took takes) begins
