-- Entries of flow collections: implicit keys, `?`, colons, and single pairs in sequences. YAML 1.2, sections 7.4 (flow collections), 7.4.1 (single pairs), 7.4.2.
use Rattle.std.specs.Prelude.{ℕ, List, [], ◌∷◌, ◌++◌, Bool, true, false, ◌&&◌, ◌||◌, ◌==◌, not, if◌then◌else◌, Option, Some, None}
use Rattle.defs_text.specs.Tags.{leading}
use Rattle.defs_text.specs.Position.{Position}
use Rattle.defs_token.specs.Token.{Tok, flow_sequence_start, flow_mapping_start}
use Rattle.defs_token.specs.Account.{FlowKind, sequence, mapping, is_sequence}
use Rattle.defs_token.specs.Step.{Act, gives_node, gives_question, gives_colon, gives_comma, gives_closing, gives_marker, Previous, plain_scalar, has_break}

-- What an entry has had, as far as keys ask: nothing, so that a key may begin; a node that is no key; a node that is a key and waits for its colon; or more than that.
pub data Had : Type 0 where
  fresh : Had
  filled : Had
  waits : (begin : Position) → Had
  settled : Had

-- the pair of an entry: none so far; one without braces and without `?`, which has a start of its own; or one after `?`
pub data Pair : Type 0 where
  no_pair : Pair
  single_pair : Pair
  asked_pair : Pair

-- An entry of an open flow collection; entries are given with that of the innermost collection first.
pub record Entry : Type 0 where
  pub kind : FlowKind
  pub pair : Pair
  pub had : Had

-- the first entry of a collection, or one after a comma
abbrev pub first_entry : FlowKind → Entry
first_entry kind = record { kind = kind; pair = no_pair; had = fresh }

-- the entries that a token's piece begins inside the entry it stands in
abbrev pub begun_by : Tok → List Entry
begun_by flow_sequence_start = first_entry sequence ∷ []
begun_by flow_mapping_start = first_entry mapping ∷ []
begun_by _ = []

-- whether an entry has no pair
abbrev pub has_no_pair : Pair → Bool
has_no_pair no_pair = true
has_no_pair _ = false

-- whether a single pair may begin: in a sequence, where the entry has no pair
abbrev pub takes_pair : FlowKind → Pair → Bool
takes_pair kind pair = is_sequence kind && has_no_pair pair

-- whether a key waits in an entry
abbrev pub is_keyed : Had → Bool
is_keyed (waits begin) = true
is_keyed _ = false

-- ---- a node after a plain scalar

-- whether a character begins no comment
abbrev pub is_no_comment : ℕ → Bool
is_no_comment c = not (c == 35)

-- Whether a key may begin again: after a plain scalar and a break that no comment precedes. Ours: the original has read on over the break, to see whether the scalar goes on.
abbrev pub is_renewed : Previous → (separation : List ℕ) → Bool
is_renewed plain_scalar separation = has_break (leading is_no_comment separation)
is_renewed _ separation = false

-- what an entry has had where a key may begin again; then none waits
abbrev pub renewed : (again : Bool) → Act → Had → Option Had
renewed true gives_node (waits begin) = None
renewed true gives_node _ = Some fresh
renewed _ _ h = Some h

-- ---- a piece in an entry

-- what is so after `?` or a line for the document: no key waits, and none may begin
abbrev pub settled_past : Had → Option Had
settled_past (waits begin) = None
settled_past _ = Some settled

-- What an entry has had after a piece that it goes on with. A colon ends the key that waits for it; a single pair's key begins on its colon's line. After a node that is no key no colon comes.
abbrev pub had_past : (here : Position) → (single : Bool) → Act → (key : Bool) → Had → Option Had
had_past here single gives_node true fresh = Some (waits here)
had_past here single gives_node false fresh = Some filled
had_past here single gives_node false filled = Some filled
had_past here single gives_node false (waits begin) = Some (waits begin)
had_past here single gives_node false settled = Some settled
had_past here single gives_question false h = settled_past h
had_past here single gives_marker false h = settled_past h
had_past here single gives_colon false fresh = Some settled
had_past here single gives_colon false (waits begin) = (if not single || (begin.line == here.line) then Some settled else None)
had_past here single gives_colon false settled = Some settled
had_past here single _ _ _ = None

-- the same, where a key may begin again
abbrev pub had_after : (here : Position) → (single : Bool) → Act → (key : Bool) → Option Had → Option Had
had_after here single act key None = None
had_after here single act key (Some h) = had_past here single act key h

-- the pair of an entry after a piece: `?` begins one, and so does a colon
abbrev pub pair_past : (single : Bool) → Act → Pair → Pair
pair_past single gives_question no_pair = asked_pair
pair_past true gives_colon pair = single_pair
pair_past single act pair = pair

-- an entry that goes on, in which a collection may have begun
abbrev pub with_had : FlowKind → Pair → (begun around : List Entry) → Option Had → Option (List Entry)
with_had kind pair begun es None = None
with_had kind pair begun es (Some h) = Some (begun ++ (record { kind = kind; pair = pair; had = h } ∷ es))

-- an entry that goes on after a piece
abbrev pub entry_past : (here : Position) → (again : Bool) → Act → (begun : List Entry) → (key : Bool) → Entry → (around : List Entry) → Option (List Entry)
entry_past here again act begun key e es =
    with_had e.kind (pair_past (takes_pair e.kind e.pair) act e.pair) begun es (had_after here (takes_pair e.kind e.pair) act key (renewed again act e.had))

-- an entry ends where no key waits
abbrev pub past_end : (after : List Entry) → (key : Bool) → Had → Option (List Entry)
past_end after true h = None
past_end after false (waits begin) = None
past_end after false _ = Some after

-- The entries after a piece in flow: a comma begins the next entry, a closing bracket of either kind ends the innermost collection.
abbrev pub entries_past : (here : Position) → (again : Bool) → Act → (begun : List Entry) → (key : Bool) → Entry → (around : List Entry) → Option (List Entry)
entries_past here again gives_comma begun key e es = past_end (first_entry e.kind ∷ es) key e.had
entries_past here again gives_closing begun key e es = past_end es key e.had
entries_past here again act begun key e es = entry_past here again act begun key e es
