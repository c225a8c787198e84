-- What the names in a stream stand for: anchors and aliases are numbered, and each tag's handle is replaced by the
-- prefix declared for it. YAML 1.2, sections 3.2.2.2 (anchors and aliases), 6.8.2 (tag directives) and 6.9 (properties).
use Rattle.std.specs.Prelude.{ℕ, ◌+◌, Bool, true, not, ◌&&◌, nat_le, is_some, if◌then◌else◌, List, [], ◌∷◌, ◌++◌, Option, Some, None, option_map, bytes_eq, codes}
use Rattle.defs_token.specs.Token.{Style}
use Rattle.defs_event.specs.Event.{Tag, Ev}
use Rattle.defs_event.specs.Raw.{Raw, Directive}

-- what is kept under a name: the first of that name counts
abbrev pub under_name : {A : Type 0} → List ℕ → List (List ℕ × A) → Option A
under_name name [] = None
under_name name (p ∷ ps) = if bytes_eq name p.0 then Some p.1 else under_name name ps

-- ---- directives

-- How many versions there are.
abbrev pub versions : List Directive → ℕ
versions [] = 0
versions (Directive.version major minor ∷ ds) = 1 + versions ds
versions (Directive.tag handle prefix ∷ ds) = versions ds

-- The handles that are declared, each with its prefix. A directive of two empty texts has another name, and is ignored.
abbrev pub declared : List Directive → List (List ℕ × List ℕ)
declared [] = []
declared (Directive.version major minor ∷ ds) = declared ds
declared (Directive.tag [] [] ∷ ds) = declared ds
declared (Directive.tag handle prefix ∷ ds) = (handle, prefix) ∷ declared ds

-- No name stands there twice.
abbrev pub is_each_once : List (List ℕ × List ℕ) → Bool
is_each_once [] = true
is_each_once (p ∷ ps) = not (is_some (under_name p.0 ps)) && is_each_once ps

-- A document has at most one version, and declares no handle twice.
abbrev pub are_allowed : List Directive → Bool
are_allowed ds = nat_le (versions ds) 1 && is_each_once (declared ds)

-- ---- tags

abbrev pub secondary_handle : List ℕ
secondary_handle = codes "!!"

abbrev pub primary_handle : List ℕ
primary_handle = codes "!"

-- the prefix of `!!` where none is declared
abbrev pub core_prefix : List ℕ
core_prefix = codes "tag:yaml.org,2002:"

-- What a handle that is not declared stands for: `!!` and `!` stand for themselves, a named one for nothing.
abbrev pub undeclared : List ℕ → Option (List ℕ)
undeclared handle =
    if bytes_eq handle secondary_handle then Some core_prefix
    else (if bytes_eq handle primary_handle then Some primary_handle else None)

abbrev pub prefix_or_undeclared : Option (List ℕ) → List ℕ → Option (List ℕ)
prefix_or_undeclared (Some prefix) handle = Some prefix
prefix_or_undeclared None handle = undeclared handle

-- The prefix of a handle, by what is declared. A tag of an empty handle is `!` alone or written `!<uri>`: it stays as it is.
abbrev pub prefix_of : List (List ℕ × List ℕ) → List ℕ → Option (List ℕ)
prefix_of handles [] = Some []
prefix_of handles (c ∷ cs) = prefix_or_undeclared (under_name (c ∷ cs) handles) (c ∷ cs)

abbrev pub resolved : List (List ℕ × List ℕ) → Tag → Option Tag
resolved handles t = option_map (λ prefix. record { handle = prefix; suffix = t.suffix }) (prefix_of handles t.handle)

abbrev pub perhaps_resolved : List (List ℕ × List ℕ) → Option Tag → Option (Option Tag)
perhaps_resolved handles None = Some None
perhaps_resolved handles (Some t) = option_map Some (resolved handles t)

-- ---- the names at a position in a stream

pub record Names : Type 0 where
  -- how many anchors came so far in the stream
  pub count : ℕ
  -- the document's anchors with their numbers, the last one first
  pub anchors : List (List ℕ × ℕ)
  -- the declared handles with their prefixes, the last one first
  pub handles : List (List ℕ × List ℕ)

-- where a stream begins
abbrev pub no_names : Names
no_names = record { count = 0; anchors = []; handles = [] }

-- An anchor's number is its rank in the stream, from 1.
abbrev pub number : Names → Option (List ℕ) → ℕ
number s None = 0
number s (Some name) = s.count + 1

abbrev pub with_anchor : Names → Option (List ℕ) → Names
with_anchor s None = s
with_anchor s (Some name) = record s { count = s.count + 1; anchors = (name, s.count + 1) ∷ s.anchors }

-- At a document's start the anchors so far are forgotten, and so are the handles, unless tags are kept.
abbrev pub at_document : Bool → Names → List Directive → Names
at_document keep_tags s ds = record s { anchors = []; handles = declared ds ++ (if keep_tags then s.handles else []) }

-- the names after an event
abbrev pub names_after : Bool → Names → Raw → Names
names_after keep_tags s (Raw.document_start ds) = at_document keep_tags s ds
names_after keep_tags s (Raw.scalar text style a t) = with_anchor s a
names_after keep_tags s (Raw.empty_scalar a t) = with_anchor s a
names_after keep_tags s (Raw.flow_sequence_start a t) = with_anchor s a
names_after keep_tags s (Raw.sequence_start a t) = with_anchor s a
names_after keep_tags s (Raw.indentless_sequence_start a t) = with_anchor s a
names_after keep_tags s (Raw.flow_mapping_start a t) = with_anchor s a
names_after keep_tags s (Raw.mapping_start a t) = with_anchor s a
names_after keep_tags s _ = s

-- The event with its names resolved, or nothing: for an alias whose name no anchor before it in its document has, for a
-- handle that was not declared, and for directives that are not allowed.
abbrev pub resolved_event : Names → Raw → Option Ev
resolved_event s Raw.stream_start = Some Ev.stream_start
resolved_event s Raw.stream_end = Some Ev.stream_end
resolved_event s (Raw.document_start ds) = if are_allowed ds then Some Ev.document_start else None
resolved_event s Raw.document_end = Some Ev.document_end
resolved_event s (Raw.alias name) = option_map Ev.alias (under_name name s.anchors)
resolved_event s (Raw.scalar text style a t) = option_map (λ u. Ev.scalar text style (number s a) u) (perhaps_resolved s.handles t)
resolved_event s (Raw.empty_scalar a t) = option_map (λ u. Ev.scalar [] Style.plain (number s a) u) (perhaps_resolved s.handles t)
resolved_event s (Raw.flow_sequence_start a t) = option_map (λ u. Ev.sequence_start (number s a) u) (perhaps_resolved s.handles t)
resolved_event s (Raw.sequence_start a t) = option_map (λ u. Ev.sequence_start (number s a) u) (perhaps_resolved s.handles t)
resolved_event s (Raw.indentless_sequence_start a t) = option_map (λ u. Ev.sequence_start (number s a) u) (perhaps_resolved s.handles t)
resolved_event s Raw.flow_sequence_end = Some Ev.sequence_end
resolved_event s Raw.sequence_end = Some Ev.sequence_end
resolved_event s Raw.indentless_sequence_end = Some Ev.sequence_end
resolved_event s (Raw.flow_mapping_start a t) = option_map (λ u. Ev.mapping_start (number s a) u) (perhaps_resolved s.handles t)
resolved_event s (Raw.mapping_start a t) = option_map (λ u. Ev.mapping_start (number s a) u) (perhaps_resolved s.handles t)
resolved_event s Raw.pair_start = Some (Ev.mapping_start 0 None)
resolved_event s Raw.pair_end = Some Ev.mapping_end
resolved_event s Raw.unwritten_value = Some (Ev.scalar [] Style.plain 0 None)
resolved_event s Raw.flow_mapping_end = Some Ev.mapping_end
resolved_event s Raw.flow_mapping_end_at_comma = Some Ev.mapping_end
resolved_event s Raw.mapping_end = Some Ev.mapping_end

abbrev pub both : Option Ev → Option (List Ev) → Option (List Ev)
both None vs = None
both (Some v) None = None
both (Some v) (Some vs) = Some (v ∷ vs)

-- All events with their names resolved, or nothing where one of them has none.
abbrev pub named : Bool → Names → List Raw → Option (List Ev)
named keep_tags s [] = Some []
named keep_tags s (e ∷ es) = both (resolved_event s e) (named keep_tags (names_after keep_tags s e) es)

-- the names after all these events
abbrev pub names_after_all : Bool → Names → List Raw → Names
names_after_all keep_tags s [] = s
names_after_all keep_tags s (e ∷ es) = names_after_all keep_tags (names_after keep_tags s e) es
