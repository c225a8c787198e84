-- Where a token may be refused, streams go on in two ways.
use Rattle.yaml_parser.proofs.Common.{nothing_written, is_idle, IfSome, may_wait, perhaps, [], all_shown, ap, append-nil, append_assoc, arith, At, Awaits, BeginAt, by_leaving, Directive, DirectiveWithoutDocumentEnd, end_events, end_tokens, Ev, false, Goal, goes_so, GoesApart, GoesOnBy, is_after, IsFor, kind_of, last_position, List, may_begin, Names, next_after, next_at, node_next, None, open_after, open_at, other_next, past_tokens, Position, Raw, Reader, refl, says, SaysBefore, Some, State, stood, StreamPlacesTo, StreamSays, subst, sym, taken_toks, takes_last, text, to_last, Tok, token_at, top, true, two_that_come, work_of, Works, ℕ, ◌++◌, ◌∙◌, ◌∷◌, ◌≡◌, ◌≢◌, before, Bool, cases, grammar, Held, Option, placed_before, PlacedWork, Places, plain_before, plain_placed, plain_work, reading, Row, row_of, saying, suc, takes, zero}
use Rattle.model_parser.specs.declared.context.NodeContext.{NodeContext}
use Rattle.yaml_parser.proofs.Ends.{IsKnown, StandsBeside}
use Rattle.defs_token.specs.Token.{Token}
use Rattle.defs_event.specs.Table.{leaves}
use Rattle.model_parser.specs.Rest.{placed}
use Rattle.defs_event.specs.Grammar as table

-- ---- where the next row, or one after rows that leave it, takes a token

abbrev row_takes : Held → Tok → Works → (Works → Bool) → Option (Row table.Goal Raw) → Bool
row_takes h t w again (Some (takes ps)) = true
row_takes h t w again (Some (leaves ps)) = again (before grammar h t ps w)
row_takes h t w again None = false

-- whether work takes the token within so many rows, and says nothing before
abbrev pub takes_soon : ℕ → Tok → Works → Bool
takes_soon zero t w = false
takes_soon (suc n) t [] = false
takes_soon (suc n) t (saying e ∷ w) = false
takes_soon (suc n) t (reading g h ∷ w) = row_takes h t w (λ v. takes_soon n t v) (row_of (cases g) t)

takes_it : (n : ℕ) (b : Option Position) (k : Token) (v : PlacedWork) → takes_soon n k.tok (plain_work v) ≡ true → Places to_last b v (k ∷ []) []
takes_it zero b k v h = cc
takes_it (suc n) b k [] h = cc
takes_it (suc n) b k (saying x ∷ v) h = cc
takes_it (suc n) b k (reading g c ∷ v) h = by (row_of (cases g) k.tok) refl h (λ u. takes_it n b k u)
  where
    by : (r : Option (Row table.Goal Raw)) → row_of (cases g) k.tok ≡ r → row_takes c k.tok (plain_work v) (λ u. takes_soon n k.tok u) r ≡ true
        → ((u : PlacedWork) → takes_soon n k.tok (plain_work u) ≡ true → Places to_last b u (k ∷ []) []) → Places to_last b (reading g c ∷ v) (k ∷ []) []
    by (Some (takes ps)) q y again = takes_last ps q
    by (Some (leaves ps)) q y again = by_leaving ps q (again (placed_before k b c ps v) (ap (takes_soon n k.tok) (plain_before k b c ps v) ∙ y))
    by None q y again = cc

-- What is awaited goes on with this token, and says these events first.
pub record Way (g : Goal) (ss : List State) (token : Tok) (first : List Raw) : Type 0 where
  pub tokens : List Tok
  pub events : List Raw
  pub awaits : Awaits g ss (token ∷ tokens) (first ++ events)

-- by this token and some more
pub way : (g : Goal) (ss : List State) (t : Tok) (ts : List Tok) (first es : List Raw) {x : List Raw × Works} → past_tokens (work_of g ss) (t ∷ ts) ≡ Some x → may_begin g ss (kind_of t) ≡ true → x.0 ++ end_events x.1 ≡ first ++ es
    → Way g ss t first
way g ss t ts first es {x} h m e = record { tokens = ts ++ end_tokens x.1; events = es; awaits = subst (λ l. Awaits g ss (t ∷ (ts ++ end_tokens x.1)) l) e (goes_so g ss t ts h m) }

-- It begins with an event that waits for the token after it, or with none; and then in two ways, by two tokens and with two events.
pub record Opens (g : Goal) (ss : List State) : Type 0 where
  pub missing : Option Raw
  pub waits : IfSome missing (λ e. may_wait e ≡ true)
  pub certain : (ts : List Tok) (es : List Raw) → Awaits g ss ts es → (fs : List Raw) × (es ≡ perhaps missing ++ fs)
  pub token : Tok
  pub other_token : Tok
  pub event : Raw
  pub other_event : Raw
  pub one : Way g ss token (perhaps missing ++ event ∷ [])
  pub other : Way g ss other_token (perhaps missing ++ other_event ∷ [])
  pub two_events : event ≢ other_event
  -- Where no event waits, the first token is taken before anything is said.
  pub soon : missing ≡ None → takes_soon 9 token (work_of g ss) ≡ true

abbrev pub opened : {g : Goal} {ss : List State} {t u : Tok} {e f : Raw} (o : Option Raw) → IfSome o (λ l. may_wait l ≡ true) → ((ts : List Tok) (es : List Raw) → Awaits g ss ts es → (fs : List Raw) × (es ≡ perhaps o ++ fs))
    → Way g ss t (perhaps o ++ e ∷ []) → Way g ss u (perhaps o ++ f ∷ []) → e ≢ f → (o ≡ None → takes_soon 9 t (work_of g ss) ≡ true) → Opens g ss
opened {t = t} {u} {e} {f} o waits all one other apart soon = record {
  missing = o;
  waits = waits;
  certain = all;
  token = t;
  other_token = u;
  event = e;
  other_event = f;
  one = one;
  other = other;
  two_events = apart;
  soon = soon;
}

abbrev pub at_once : {g : Goal} {ss : List State} {t u : Tok} {e f : Raw} → Way g ss t (e ∷ []) → Way g ss u (f ∷ []) → e ≢ f → takes_soon 9 t (work_of g ss) ≡ true → Opens g ss
at_once one other apart soon = opened None tt (λ ts es x. (es, refl)) one other apart (λ h. soon)

abbrev pub after_one : {g : Goal} {ss : List State} {t u : Tok} (l : Raw) {e f : Raw} → may_wait l ≡ true → ((ts : List Tok) (es : List Raw) → Awaits g ss ts es → (fs : List Raw) × (es ≡ l ∷ fs)) → Way g ss t (l ∷ e ∷ []) → Way g ss u (l ∷ f ∷ []) → e ≢ f → Opens g ss
after_one l waits all one other apart = opened (Some l) waits all one other apart (λ h. cc h)

pub start_says : (ss : List State) (ts : List Tok) (es : List Raw) → Awaits Goal.stream ss ts es → (fs : List Raw) × (es ≡ Raw.stream_start ∷ fs)
start_says ss ts es a = grind arith

pub end_says : (ss : List State) (ts : List Tok) (es : List Raw) → Awaits Goal.document_end ss ts es → (fs : List Raw) × (es ≡ Raw.document_end ∷ fs)
end_says ss ts es a = grind arith

pub empty_says : (ss : List State) (ts : List Tok) (es : List Raw) → Awaits Goal.no_flow_mapping_value ss ts es → (fs : List Raw) × (es ≡ nothing_written ∷ fs)
empty_says ss ts es a = grind arith

pub longer : (ds : List Directive) (d : Directive) → Raw.document_start ds ≢ Raw.document_start (ds ++ d ∷ [])
longer ds d e = by ds (let same : ds ≡ ds ++ d ∷ [] = cc in same)
  where
    by : (xs : List Directive) → xs ≡ xs ++ d ∷ [] → ⊥
    by [] h = cc
    by (x ∷ xs) h = by xs (let same : xs ≡ xs ++ d ∷ [] = cc in same)

abbrev pub opens : (g : Goal) (ss : List State) → is_idle g ≡ false → Opens g ss
opens Goal.done ss h = cc
opens Goal.ended ss h = cc
opens Goal.stream ss h = after_one Raw.stream_start refl (start_says ss) (way Goal.stream ss Tok.stream_start (Tok.stream_end ∷ []) _ _ refl refl refl) (way Goal.stream ss Tok.stream_start (Tok.document_start ∷ []) _ _ refl refl refl) (λ e. cc)
opens Goal.documents ss h = at_once (way Goal.documents ss Tok.stream_end [] _ _ refl refl refl) (way Goal.documents ss Tok.document_start [] _ _ refl refl refl) (λ e. cc) refl
opens Goal.explicit_document ss h = at_once (way Goal.explicit_document ss Tok.stream_end [] _ _ refl refl refl) (way Goal.explicit_document ss Tok.document_start [] _ _ refl refl refl) (λ e. cc) refl
opens (Goal.directives ds) ss h = at_once (way (Goal.directives ds) ss Tok.document_start [] _ _ refl refl refl) (way (Goal.directives ds) ss (Tok.version_directive 1 2) (Tok.document_start ∷ []) _ _ refl refl refl) (longer ds (Directive.version 1 2)) refl
opens Goal.document_end ss h = after_one Raw.document_end refl (end_says ss) (way Goal.document_end ss Tok.stream_end [] _ _ refl refl refl) (way Goal.document_end ss Tok.document_start [] _ _ refl refl refl) (λ e. cc)
opens (Goal.content c None) ss h = at_once (way (Goal.content c None) ss text [] _ _ refl refl refl) (way (Goal.content c None) ss Tok.flow_sequence_start [] _ _ refl refl refl) (λ e. cc) refl
opens Goal.block_sequence_entries ss h = at_once (way Goal.block_sequence_entries ss Tok.block_end [] _ _ refl refl refl) (way Goal.block_sequence_entries ss Tok.block_entry [] _ _ refl refl refl) (λ e. cc) refl
opens Goal.indentless_sequence_entries ss h = at_once (way Goal.indentless_sequence_entries ss Tok.block_entry [] _ _ refl refl refl) (way Goal.indentless_sequence_entries ss Tok.block_entry (Tok.flow_sequence_start ∷ []) _ _ refl refl refl) (λ e. cc) refl
opens Goal.block_mapping_entries ss h = at_once (way Goal.block_mapping_entries ss Tok.block_end [] _ _ refl refl refl) (way Goal.block_mapping_entries ss Tok.key [] _ _ refl refl refl) (λ e. cc) refl
opens Goal.block_mapping_next_entries ss h = at_once (way Goal.block_mapping_next_entries ss Tok.block_end [] _ _ refl refl refl) (way Goal.block_mapping_next_entries ss Tok.key [] _ _ refl refl refl) (λ e. cc) refl
opens Goal.block_mapping_value ss h = at_once (way Goal.block_mapping_value ss (Tok.value) [] _ _ refl refl refl) (way Goal.block_mapping_value ss Tok.block_end [] _ _ refl refl refl) (λ e. cc) refl
opens Goal.flow_sequence_comma ss h = at_once (way Goal.flow_sequence_comma ss Tok.flow_sequence_end [] _ _ refl refl refl) (way Goal.flow_sequence_comma ss Tok.flow_entry (text ∷ []) _ _ refl refl refl) (λ e. cc) refl
opens Goal.flow_value ss h = at_once (way Goal.flow_value ss Tok.value [] _ _ refl refl refl) (way Goal.flow_value ss Tok.flow_sequence_end [] _ _ refl refl refl) (λ e. cc) refl
opens Goal.flow_pair_end ss h = cc
opens Goal.flow_mapping_comma ss h = at_once (way Goal.flow_mapping_comma ss Tok.flow_mapping_end [] _ _ refl refl refl) (way Goal.flow_mapping_comma ss Tok.flow_entry (text ∷ []) _ _ refl refl refl) (λ e. cc) refl
opens Goal.flow_mapping_value ss h = at_once (way Goal.flow_mapping_value ss Tok.value [] _ _ refl refl refl) (way Goal.flow_mapping_value ss Tok.flow_mapping_end [] _ _ refl refl refl) (λ e. cc) refl
opens Goal.no_flow_mapping_value ss h = after_one nothing_written refl (empty_says ss) (way Goal.no_flow_mapping_value ss Tok.flow_mapping_end [] _ _ refl refl refl) (way Goal.no_flow_mapping_value ss Tok.flow_entry (text ∷ []) _ _ refl refl refl) (λ e. cc)
opens g ss h = at_once (way g ss text [] _ _ refl refl refl) (way g ss Tok.flow_sequence_start [] _ _ refl refl refl) (λ e. cc) refl

-- ---- where a parser stands

-- A stream goes on in this way after the tokens taken and the events.
goes_on_by : {T : Type 0} {g : Goal} {p : Reader T} {names : Names} {given : List (Ev × Position)} {token : Tok} (more : List Raw) {event : Raw} → (a : At g p names given) → Way g p.stack token (more ++ event ∷ [])
    → GoesOnBy (taken_toks p.tokens) (a.raw ++ more) token event
goes_on_by {T} {g} {p} {token = token} more {event} a w = record {
  more_tokens = w.tokens;
  more_events = w.events;
  says = subst (StreamSays (taken_toks p.tokens ++ (token ∷ w.tokens))) (ap (λ us. a.raw ++ us) (append_assoc more (event ∷ []) w.events) ∙ sym (append_assoc a.raw more (event ∷ w.events))) (a.stands.sound _ _ w.awaits);
}

pub apart : {T : Type 0} {g : Goal} {p : Reader T} {names : Names} {given : List (Ev × Position)} (w : Opens g p.stack) (a : At g p names given) → GoesApart (w.token, w.other_token) (taken_toks p.tokens) (a.raw ++ perhaps w.missing)
apart w a = record {
  event = w.event;
  other_event = w.other_event;
  one = goes_on_by (perhaps w.missing) a w.one;
  other = goes_on_by (perhaps w.missing) a w.other;
  two_events = w.two_events;
}

-- Streams go on with these two tokens, and the events are those that are said before the first of them.
abbrev pub GoesBeside : {T : Type 0} {g : Goal} {p : Reader T} {names : Names} {given : List (Ev × Position)} → Tok × Tok → At g p names given → Type 0
GoesBeside {T} {g} {p} {names} {given} two a =
    GoesApart two (taken_toks p.tokens) a.raw × ((m : Position) → ((x : Tok) → BeginAt p.tokens.peeked (token_at m x ∷ [])) → SaysBefore two (all_shown p.tokens.taken.items) m (stood a.raw given))

pub apart_as : {T : Type 0} {g : Goal} {p : Reader T} {names : Names} {given : List (Ev × Position)} (w : Opens g p.stack) {two : Tok × Tok} → w.missing ≡ None → two ≡ (w.token, w.other_token) → (a : At g p names given) → GoesBeside two a
apart_as {T} {g} {p} {names} {given} w none e a =
    subst (λ x. GoesBeside x a) (sym e) (
      subst (GoesApart (w.token, w.other_token) (taken_toks p.tokens)) (ap (λ o. a.raw ++ perhaps o) none ∙ append-nil a.raw) (apart w a),
      λ m begins.
          subst (StreamPlacesTo to_last (all_shown p.tokens.taken.items ++ token_at m w.token ∷ [])) (append-nil (stood a.raw given))
          (a.places to_last (token_at m w.token ∷ []) [] (begins w.token) (takes_it 9 (last_position p.tokens) (token_at m w.token) (placed (work_of g p.stack)) (ap (takes_soon 9 w.token) (plain_placed (λ e. None) (work_of g p.stack)) ∙ w.soon none), w.one.awaits.1)),
    )

-- the two tokens that come after these
abbrev pub two_after : List Tok → Tok × Tok
two_after ts = two_that_come (next_after other_next ts) (open_after [] ts)

-- They are those by which it opens where this is read.
abbrev pub AreRight : (g : Goal) → is_idle g ≡ false → Type 0
AreRight g busy = (ss : List State) → IsFor g ss
    → (is_after (top g ss) ≡ false) × ((opens g ss busy).missing ≡ None) × (two_that_come (next_at g ss) (open_at g ss) ≡ ((opens g ss busy).token, (opens g ss busy).other_token))

pub goes_apart : {T : Type 0} (g : Goal) {p : Reader T} {names : Names} {given : List (Ev × Position)} (busy : is_idle g ≡ false) → AreRight g busy → (a : At g p names given) → IsKnown g p → GoesBeside (two_after (taken_toks p.tokens)) a
goes_apart {T} g {p} busy right a known =
    let r = right p.stack a.stands.fits in
    apart_as (opens g p.stack busy) r.1 (ap (λ n. two_that_come n (open_after [] (taken_toks p.tokens))) (known r.0) ∙ ap (two_that_come (next_at g p.stack)) a.stands.opened ∙ r.2) a

-- Where a node is read, the tokens leave one to come.
pub node_comes : {T : Type 0} {w : NodeContext} {p : Reader T} {names : Names} {given : List (Ev × Position)} → At (Goal.node w) p names given → next_after other_next (taken_toks p.tokens) ≡ node_next
node_comes a = let s = a.stands.settled in grind arith

pub node_apart : {T : Type 0} {w : NodeContext} {p : Reader T} {names : Names} {given : List (Ev × Position)} → (a : At (Goal.node w) p names given) → GoesBeside (two_after (taken_toks p.tokens)) a
node_apart {T} {w} {p} a = apart_as (opens (Goal.node w) p.stack refl) refl (ap (λ n. two_that_come n (open_after [] (taken_toks p.tokens))) (node_comes a)) a

pub explicit_right : AreRight Goal.explicit_document refl
explicit_right ss f = grind arith

-- Where a document's end is certain, and a directive may not stand.
pub after_goes_apart : {T : Type 0} {p : Reader T} {names : Names} {given : List (Ev × Position)} → (a : At Goal.document_end p names given) → IsKnown Goal.document_end p → StandsBeside DirectiveWithoutDocumentEnd a
after_goes_apart {T} {p} a known = (
  apart (opens Goal.document_end p.stack refl) a,
  λ m begins. a.places to_last (token_at m Tok.stream_end ∷ []) ((Raw.document_end, m) ∷ []) (begins Tok.stream_end) (by_leaving _ refl (says refl (takes_last _ refl)), refl),
)
