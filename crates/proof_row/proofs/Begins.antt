-- The text says which kind of piece begins.
use Rattle.proof_row.proofs.Common.{[], Account, alias, alias_name, anchor, anchor_name, are_marks, begins_flow, begins_plain, begins_with_space_or_break, block_entry, block_read, block_scalar, BlockRead, BlockStyle, Bool, codes, collection_column, colon, comma, dash, dashes, Directive, directive_line, directive_of, document_end, document_start, dots, double_quoted, ends_separation, eqb-true, false, flow_entry, flow_mapping_end, flow_mapping_start, flow_sequence_end, flow_sequence_start, folded, has_no_break, Holds, in_double_quotes, in_single_quotes, is_adjacent, is_at_gap, is_at_line_end, is_blank, is_blank_or_end, is_break, is_flow, is_nul, is_value_indicator, is_whole_plain, IsDoubleQuoted, IsNamed, IsPiece, IsSingleQuoted, key, Kind, kind_at, kind_by, kind_of, List, literal, mapping_closing, mapping_opening, nothing, Option, plain, plain_scalar, plain_value, Position, question, refl, reserved, scalar, SeparationsEndBeforePieces, sequence_closing, sequence_opening, single_quoted, Some, subst, sym, Tag, tag, tag_declaration, tag_directive, tag_text, TextsBeginWithOneKind, Tok, true, value, version, version_directive, written_tag, ℕ, ◌&&◌, ◌++◌, ◌||◌, ◌∷◌, ◌≡◌, ◌≢◌, arith, nat_tests, gaps}
use Rattle.defs_token.specs.Account.{is_in_flow}
use Rattle.proof_row.proofs.TagEnds.{mark_is_first}
use Rattle.proof_row.proofs.Blocks.{block_begins}

-- ---- a piece and its token

abbrev pub directive_token : Directive → Tok
directive_token (version major minor) = version_directive major minor
directive_token (tag_declaration handle prefix) = tag_directive handle prefix
directive_token reserved = tag_directive [] []

abbrev pub block_token : BlockStyle → List ℕ → Tok
block_token BlockStyle.literal text = scalar literal text
block_token BlockStyle.folded text = scalar folded text

-- what of an account a piece asks: whether it is in flow, whether a colon may stand next to what stands before, its column, and that of the innermost block collection
pub record Context : Type 0 where
  pub in_flow : Bool
  pub adjacent : Bool
  pub column : ℕ
  pub collection : Option ℕ

abbrev pub context_of : Account → Context
context_of a = record { in_flow = is_in_flow a; adjacent = is_adjacent a.before; column = a.position.col; collection = collection_column a }

abbrev IsMarkerIn : Context → (piece next marker : List ℕ) → Type 0
IsMarkerIn a p x marker = (p ≡ marker) × (a.column ≡ 0) × Holds (is_at_gap x)

-- a piece of a kind, and its token
abbrev pub Whole : Kind → Context → (piece next : List ℕ) → Tok → Type 0
Whole nothing a p x t = ⊥
Whole plain_scalar a p x t =
    (text : List ℕ) × (Holds (begins_plain a.in_flow a.adjacent a.column (p ++ x)) × Holds (is_whole_plain a.in_flow a.collection p x) × (plain_value p ≡ Some text)) × (t ≡ scalar plain text)
Whole sequence_opening a p x t = (p ≡ codes "[") × (t ≡ flow_sequence_start)
Whole sequence_closing a p x t = (p ≡ codes "]") × (t ≡ flow_sequence_end)
Whole mapping_opening a p x t = (p ≡ codes "{") × (t ≡ flow_mapping_start)
Whole mapping_closing a p x t = (p ≡ codes "}") × (t ≡ flow_mapping_end)
Whole comma a p x t = (p ≡ codes ",") × (t ≡ flow_entry)
Whole question a p x t = (p ≡ codes "?") × Holds (begins_with_space_or_break x) × (t ≡ key)
Whole colon a p x t = (p ≡ codes ":") × Holds (is_value_indicator a.in_flow a.adjacent x) × (t ≡ value)
Whole dash a p x t = (p ≡ codes "-") × Holds (is_at_gap x) × (t ≡ block_entry)
Whole dashes a p x t = IsMarkerIn a p x (codes "---") × (t ≡ document_start)
Whole dots a p x t = IsMarkerIn a p x (codes "...") × (t ≡ document_end)
Whole directive_line a p x t = (d : Directive) × (directive_of p ≡ Some d) × Holds (has_no_break p) × Holds (is_at_line_end x) × (t ≡ directive_token d)
Whole alias_name a p x t = (name : List ℕ) × IsNamed 42 p x name × (t ≡ alias name)
Whole anchor_name a p x t = (name : List ℕ) × IsNamed 38 p x name × (t ≡ anchor name)
Whole tag_text a p x t = (w : Tag) × (written_tag p ≡ Some w) × Holds (is_at_gap x || (a.in_flow && begins_flow x)) × (t ≡ tag w.handle w.suffix)
Whole in_single_quotes a p x t = (text : List ℕ) × IsSingleQuoted p x text × (t ≡ scalar single_quoted text)
Whole in_double_quotes a p x t = (text : List ℕ) × IsDoubleQuoted p x text × (t ≡ scalar double_quoted text)
Whole block_scalar a p x t = (r : BlockRead) × (block_read a.collection p x ≡ Some r) × (a.in_flow ≡ false) × (t ≡ block_token r.style r.text)

-- a piece of a token is one of the token's kind
pub piece_of : (a : Account) (p x : List ℕ) (f : Option Tok) (m : Position) (t : Tok) → p ≢ [] → IsPiece a p x f m t → Whole (kind_of t) (context_of a) p x t
piece_of a p x f m b n h = grind arith

-- ---- the kind at a text

there : (fl adj : Bool) (col c : ℕ) (r : List ℕ) → begins_plain fl adj col (c ∷ r) ≡ false → kind_at fl adj col (c ∷ r) ≡ kind_by c r
there fl adj col c r h = rw h refl

unplain : (a b : Bool) → a ≡ false → (a && b) ≡ false
unplain a b h = rw h refl

space_is_gap : (x : List ℕ) → begins_with_space_or_break x ≡ true → is_at_gap x ≡ true
unfolding is_blank_or_end is_blank
space_is_gap a h = grind arith

pub directive_begins : (p : List ℕ) (d : Directive) → directive_of p ≡ Some d → (r : List ℕ) × (p ≡ 37 ∷ r)
unfolding directive_of
directive_begins a d e = grind arith

-- at a document marker
pub marked : (a : Context) (c : ℕ) (x : List ℕ) → are_marks c c c ≡ true → a.column ≡ 0 → is_at_gap x ≡ true → begins_plain a.in_flow a.adjacent a.column (c ∷ c ∷ c ∷ x) ≡ false
marked a c x m f g = grind arith

pub dash_marks : are_marks 45 45 45 ≡ true
unfolding are_marks
dash_marks = refl

pub dot_marks : are_marks 46 46 46 ≡ true
unfolding are_marks
dot_marks = refl

abbrev IsThere : Context → (text : List ℕ) → Kind → Type 0
IsThere a text k = kind_at a.in_flow a.adjacent a.column text ≡ k

-- at an indicator
here : (a : Context) (c : ℕ) (r : List ℕ) → begins_plain a.in_flow a.adjacent a.column (c ∷ r) ≡ false → IsThere a (c ∷ r) (kind_by c r)
here a c r h = there a.in_flow a.adjacent a.column c r h

-- at a piece whose first character is known
known : (a : Context) (p r x : List ℕ) (k : Kind) → p ≡ r → IsThere a (r ++ x) k → IsThere a (p ++ x) k
known a p r x k e h = subst (λ z. IsThere a (z ++ x) k) (sym e) h

-- the text at a piece says the piece's kind
pub kind_there : (k : Kind) (a : Context) (p x : List ℕ) (t : Tok) → Whole k a p x t → IsThere a (p ++ x) k
unfolding is_blank_or_end is_blank is_break is_nul is_flow
kind_there nothing a p x t h = absurd h
kind_there plain_scalar a p x t h = grind arith
kind_there dashes a p x t h = known a p (codes "---") x _ h.0.0 (here a 45 (45 ∷ 45 ∷ x) (marked a 45 x dash_marks h.0.1 h.0.2))
kind_there dots a p x t h = known a p (codes "...") x _ h.0.0 (here a 46 (46 ∷ 46 ∷ x) (marked a 46 x dot_marks h.0.1 h.0.2))
kind_there directive_line a p x t h =
    let r : (r : List ℕ) × (p ≡ 37 ∷ r) = directive_begins p h.0 h.1 in
    known a p (37 ∷ r.0) x _ r.1 (here a 37 (r.0 ++ x) refl)
kind_there tag_text a p x t h = grind (arith, nat_tests, eqb-true, mark_is_first, known, here)
kind_there block_scalar a p x t h = let begins = block_begins a.collection p x h.0 h.1 in grind (arith, there, unplain, eqb-true, begins)
kind_there k a p x t h = grind (arith, known, here, unplain, space_is_gap)

-- and no separation goes on over it
pub separations_end : (k : Kind) (a : Context) (p x : List ℕ) (t : Tok) → Whole k a p x t → ends_separation (p ++ x) ≡ true
unfolding is_blank_or_end is_blank is_break is_nul is_flow
separations_end k a p x t h = grind (arith, nat_tests, kind_there, gaps, eqb-true)

pub texts_begin : TextsBeginWithOneKind
texts_begin a p x f m t n h = kind_there (kind_of t) (context_of a) p x t (piece_of a p x f m t n h)

pub separations_end_before : SeparationsEndBeforePieces
separations_end_before a p x f m t n h = separations_end (kind_of t) (context_of a) p x t (piece_of a p x f m t n h)
