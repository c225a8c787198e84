-- What is awaited goes on to an end whose events can be named: so no fault is late.
use Rattle.yaml_parser.proofs.Common.{arith, [], after_text_events, anchor_of, and_parts, ap, Awaits, Bool, both, Directive, end_events, end_tokens, ends_so, Ev, false, first_any, first_may, Goal, Held, if◌then◌else◌, IsPending, IsSome, List, named, Names, names_after, None, nothing_held, number, Option, option_map, past, perhaps_resolved, Place, Raw, reading, refl, resolved, resolved_event, saying, grammar_completes, Some, State, Style, text, text_event, Tok, true, work_of, Works, works, ◌&&◌, ◌++◌, ◌∙◌, ◌∷◌, ◌≡◌, and_from, in_pair}
use Rattle.defs_event.specs.Properties.{tag_of}
use Rattle.yaml_parser.proofs.DirectiveLemmas.{some_map}
use Rattle.model_parser.specs.Rest.{place_of as where_it_stands}
use Rattle.model_parser.proofs.Quiet.{is_quiet, past_quiet, works_quiet}
use Rattle.defs_event.specs.Grammar as table
use Rattle.model_parser.specs.declared.kind.Kind.TheVariants as kind
use Rattle.model_parser.specs.declared.state.State.TheVariants as state

-- ---- it can be named

abbrev pub Nameable : Bool → Names → List Raw → Type 0
Nameable keep s es = (vs : List Ev) × (named keep s es ≡ Some vs)

abbrev pub AnyNameable : Bool → List Raw → Type 0
AnyNameable keep es = (s : Names) → Nameable keep s es

pub name_one : (keep : Bool) (s : Names) (e : Raw) (es : List Raw) {v : Ev} → resolved_event s e ≡ Some v → AnyNameable keep es → Nameable keep s (e ∷ es)
name_one keep s e es {v} h f = let n = f (names_after keep s e) in (v ∷ n.0, ap (λ o. both o (named keep (names_after keep s e) es)) h ∙ ap (λ o. both (Some v) o) n.1)

abbrev is_untagged : {A : Type 0} → Option A → Bool
is_untagged None = true
is_untagged (Some t) = false

abbrev is_none : List Directive → Bool
is_none [] = true
is_none (d ∷ ds) = false

-- whether an event has no names that could be unknown
abbrev is_free : Raw → Bool
is_free (Raw.document_start ds) = is_none ds
is_free (Raw.alias n) = false
is_free (Raw.scalar x y a t) = is_untagged t
is_free (Raw.empty_scalar a t) = is_untagged t
is_free (Raw.flow_sequence_start a t) = false
is_free (Raw.sequence_start a t) = false
is_free (Raw.indentless_sequence_start a t) = false
is_free (Raw.flow_mapping_start a t) = false
is_free (Raw.mapping_start a t) = false
is_free _ = true

abbrev pub are_free : List Raw → Bool
are_free [] = true
are_free (e ∷ es) = is_free e && are_free es

is_some_value : {A : Type 0} (o : Option A) → IsSome o → (x : A) × (o ≡ Some x)
is_some_value o h = grind arith

pub free_named : (keep : Bool) (es : List Raw) → are_free es ≡ true → AnyNameable keep es
free_named keep [] h s = ([], refl)
free_named keep (e ∷ es) h s =
    let p = and_parts (is_free e) (are_free es) h in
    name_one keep s e es (is_some_value (resolved_event s e) (grind arith)).1 (free_named keep es p.1)

-- Of work on a stack all holds nothing, and what is said is the end of a pair.
abbrev holds_none : Held → Bool
holds_none h = is_untagged h.tag && is_none h.directives

abbrev pub is_plain : Works → Bool
is_plain w = is_quiet holds_none w

after_free : (p : Place) (es : List Raw) → are_free es ≡ true → are_free (after_text_events p ++ es) ≡ true
after_free p es h = grind arith

text_free : (p : Place) (h : Held) (es : List Raw) → is_untagged h.tag ≡ true → are_free es ≡ true → are_free (text_event h ∷ (after_text_events p ++ es)) ≡ true
text_free p h es t i = and_from (is_untagged h.tag) (are_free (after_text_events p ++ es)) t (after_free p es i)

goal_free : (g : table.Goal) (h : Held) (es : List Raw) → is_untagged h.tag ≡ true → is_none h.directives ≡ true → are_free es ≡ true → are_free ((grammar_completes g h).1 ++ es) ≡ true
goal_free table.directives h es t d i = and_from (is_none h.directives) (are_free es) d i
goal_free (table.node p) h es t d i = text_free p h es t i
goal_free (table.after_anchor p) h es t d i = text_free p h es t i
goal_free (table.after_tag p) h es t d i = text_free p h es t i
goal_free (table.content p) h es t d i = text_free p h es t i
goal_free (table.indentless_sequence_entries s) h es t d i = after_free (in_pair s) es i
goal_free (table.flow_mapping_entries table.after_brace) h es t d i = i
goal_free _ h es t d i = i

pub plain_free : (w : Works) → is_plain w ≡ true → are_free (end_events w) ≡ true
plain_free [] h = refl
plain_free (saying Raw.pair_end ∷ w) h = plain_free w h
plain_free (saying e ∷ w) h = cc
plain_free (reading g x ∷ w) h =
    let p = and_parts (holds_none x) (is_plain w) h in
    let q = and_parts (is_untagged x.tag) (is_none x.directives) p.0 in
    goal_free g x (end_events w) q.0 q.1 (plain_free w p.1)

works_plain : (ss : List State) → is_plain (works ss) ≡ true
works_plain ss = works_quiet holds_none ss refl

past_plain : (ss : List State) → is_plain (past ss (works ss)) ≡ true
past_plain ss = past_quiet holds_none ss (works_plain ss)

pub works_free : (ss : List State) → are_free (end_events (works ss)) ≡ true
works_free ss = plain_free (works ss) (works_plain ss)

-- A node's text with what is held before it, and all after it.
text_named : (ss : List State) (keep : Bool) (s : Names) (h : Held) → IsSome (perhaps_resolved s.handles h.tag)
    → Nameable keep s (text_event h ∷ (after_text_events (where_it_stands ss) ++ end_events (past ss (works ss))))
text_named ss keep s h p =
    let u = is_some_value (perhaps_resolved s.handles h.tag) p in
    let rest = after_text_events (where_it_stands ss) ++ end_events (past ss (works ss)) in
    name_one keep s (text_event h) rest (ap (option_map (λ y. Ev.scalar [] Style.plain (number s h.anchor) y)) u.1) (free_named keep rest (after_free (where_it_stands ss) (end_events (past ss (works ss))) (plain_free (past ss (works ss)) (past_plain ss))))

goal_named : (g : Goal) (ss : List State) (keep : Bool) (s : Names) → IsPending s g → Nameable keep s (end_events (work_of g ss))
goal_named (Goal.directives ds) ss keep s p =
    let rest = text_event nothing_held ∷ Raw.document_end ∷ Raw.stream_end ∷ end_events (works ss) in
    name_one keep s (Raw.document_start ds) rest (ap (λ b. if b then Some Ev.document_start else None) p) (free_named keep rest (works_free ss))
goal_named (Goal.node q) ss keep s p = text_named ss keep s nothing_held refl
goal_named (Goal.after_anchor q a) ss keep s p = text_named ss keep s (record { anchor = Some a; tag = None; directives = [] }) refl
goal_named (Goal.after_tag q t) ss keep s p = text_named ss keep s (record { anchor = None; tag = Some t; directives = [] }) (some_map Some (resolved s.handles t) p)
goal_named (Goal.content q None) ss keep s p = text_named ss keep s nothing_held refl
goal_named (Goal.content q (Some o)) ss keep s p = text_named ss keep s (record { anchor = anchor_of o; tag = tag_of o; directives = [] }) p
goal_named Goal.pair_node ss keep s p = text_named ss keep s nothing_held refl
goal_named Goal.indentless_sequence_entries ss keep s p = free_named keep (end_events (work_of Goal.indentless_sequence_entries ss)) (plain_free (work_of Goal.indentless_sequence_entries ss) (past_plain ss)) s
goal_named Goal.indentless_sequence_item ss keep s p = free_named keep (end_events (work_of Goal.indentless_sequence_item ss)) (plain_free (work_of Goal.indentless_sequence_item ss) (past_plain ss)) s
goal_named (Goal.flow_mapping_entries table.after_brace) ss keep s p = free_named keep (end_events (work_of (Goal.flow_mapping_entries table.after_brace) ss)) (works_free ss) s
goal_named g ss keep s p = free_named keep (end_events (work_of g ss)) (works_free ss) s

-- ---- all

pub record Completed (g : Goal) (ss : List State) : Type 0 where
  pub tokens : List Tok
  pub events : List Raw
  pub awaits : Awaits g ss tokens events
  pub nameable : (keep : Bool) (s : Names) → IsPending s g → Nameable keep s events

may_end : (g : Goal) (ss : List State) → first_may g ss (end_tokens (work_of g ss)) ≡ true
may_end (Goal.node q) ss = grind arith
may_end (Goal.content q o) ss = grind arith
may_end Goal.block_mapping_next_entries ss = refl
may_end Goal.done [] = refl
may_end Goal.done (state.BlockNode ∷ ss) = refl
may_end Goal.done (state.BlockMappingNextEntries ∷ ss) = refl
may_end Goal.done (s ∷ ss) = first_any Goal.done (s ∷ ss) (end_tokens (works (s ∷ ss))) (λ k. refl)
may_end g ss = first_any g ss (end_tokens (work_of g ss)) (λ k. refl)

pub completed : (g : Goal) (ss : List State) → Completed g ss
completed g ss = record {
  tokens = end_tokens (work_of g ss);
  events = end_events (work_of g ss);
  awaits = (ends_so (work_of g ss), may_end g ss);
  nameable = λ keep s p. goal_named g ss keep s p;
}
