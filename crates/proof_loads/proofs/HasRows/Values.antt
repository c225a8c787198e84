-- Layouts have rows: scalars, values, arrays and hashes, roots, and documents one after the other. So has a text of one quoted scalar.
use Rattle.proof_loads.proofs.Common.{[], all_field_tokens, all_of, Anchor, anchors_after, anchors_after_field, and_false, another, ap, append-nil, append_assoc, are_marks, AreDocuments, AreEmptyLines, AreEntries, AreFields, arith, awaits_at, awaits_past, before_by, before_past, begins_with, begins_with_space_or_break, begun, begun_by, Block, block_tokens, BlockStyle, body_value, Bool, codes, colon_may_precede, Comment, dash_may_precede, Documents, documents_tokens, double, double_quoted, double_quoted_element, doubled, Element, elements, empty_hash, empty_line, Entries, entry_tokens, false, Field, field_tokens, Fields, first_account, first_position, flat_map, folded_header, free, further_lines_stand, GapLine, goes_on_with_name, has_no_break, has_tab_before_piece, inl, Inline, inline_tokens, innermost, inr, is_adjacent, is_anchor_name, is_ascii_alphanumeric, is_at_gap, is_blank, is_blank_or_end, is_break, is_flow, is_name, is_nul, is_one_of, is_waiting, IsAfterRoot, IsBlock, IsComment, IsField, IsGap, IsInline, IsLayout, IsLineText, IsRoot, IsScalar, IsValue, Layout, leading, least_column, least_for, length, Lines, lines_fit, List, list_all, marked, MayFollowScalarKey, nat_tests, next_line, no_comment, None, Option, parts, plain, Position, position_after, Previous, previous_by, quote_of, quoted, quoted_lines_fit, Quotes, refl, replicate, Root, root_tokens, Scalar, scalar, scalar_token, single, single_quoted, single_quoted_element, Site, Some, spaces, spell_block, spell_comment, spell_documents, spell_ending, spell_entries, spell_field, spell_fields, spell_gap, spell_inline, spell_lines, spell_literal, spell_root, spell_scalar, spell_value, Spelled, spelling, style_of, subst, suc, taken, Tok, true, Value, value_tokens, written_escapes, zero, ℕ, ◌++◌, ◌+◌, ◌-◌, ◌∷◌, ◌≡◌, ◌≤◌, ◌⊎◌, map, or_true}
use Rattle.proof_loads.proofs.PlainTexts.{spelt_plain, IsPlainText, first_char}
use Rattle.proof_loads.proofs.HasRows.Nodes.{none_ends, deep_piece, Parts, From, node_reads, outside, Reads, at, step_of, Steps, step, ended, read_end, HasNone, of_class, quoted_none, Line}
use Rattle.proof_loads.proofs.HasRows.Json.{column_is, empty_reads, value_reads, plain_piece, plain_char}
use Rattle.proof_loads.proofs.HasRows.Strings.{IsBody, quoted_piece, double_is, single_is, between, in_quotes}
use Rattle.proof_loads.proofs.HasRows.Trails.{one_more, Trail, end, trail_text, Rest, arrive, trail_ends, in_line, here_after, spaced, here_beside, next, BeginsContent, content_first, IsTrail, EndsAt, After, marker, marker_text, here_gap, Here, Comes, Marked, ShownAt, dash_reads, question_reads, colon_reads, IsScalarPiece, key_reads, ends_are}
use Rattle.defs_layout.specs.Json
use Rattle.defs_token.specs.Piece as piece
use Rattle.defs_layout.specs.Layout.{empty_array, spell, spell_mark}
use Rattle.proof_loads.proofs.JsonTokens.Spaces.{json_spaces}
use Rattle.proof_loads.proofs.BlockLines.{strips_of, headed_literal, literal_lines, root_literal_lines, block_text, folded_lines}
use Rattle.proof_loads.proofs.HasRows.BlockScalars.{nested_follows, block_is_read, at_text}
use Rattle.defs_layout.specs.QuotedText as laid

-- ---- pieces

-- the piece of a scalar
abbrev pub piece_of : Scalar → List ℕ
piece_of (plain t) = spelling t
piece_of (quoted text) = double_quoted text
piece_of (single_quoted text) = 39 ∷ (flat_map doubled text ++ 39 ∷ [])

pub piece_spelt : (s : Scalar) (r : List ℕ) → spell_scalar s r ≡ piece_of s ++ r
piece_spelt s r = grind (arith, append_assoc)

-- a body between quotes is what its token shows
quotes_shown : (quotes : Quotes) (body text : List ℕ) → body_value quotes body ≡ Some text
    → (bs : List ℕ) (key : Bool) (r : List ℕ) → begins_with 39 r ≡ false → ShownAt bs (in_quotes quotes body) (Tok.scalar (style_of quotes) text) key r
quotes_shown double body text value bs key r quote all p awaits before l f stay = (refl, ((body, refl, value), refl))
quotes_shown single body text value bs key r quote all p awaits before l f stay = (refl, ((body, refl, value, quote), refl))

quotes_piece : (quotes : Quotes) (body text : List ℕ) → IsBody quotes body text
    → IsScalarPiece (in_quotes quotes body) (Tok.scalar (style_of quotes) text)
quotes_piece quotes body text one =
    let z = quoted_piece quotes body text one in
    record {
      node = (grind arith, grind arith, λ f. grind arith);
      no_break = z.no_break;
      none = z.none;
      further = z.further;
      precedes = λ bs r ends. grind arith;
      shown = λ bs key r stop quote. quotes_shown quotes body text z.value bs key r quote;
    }

pub scalar_piece : (s : Scalar) → IsScalar s → IsScalarPiece (piece_of s) (scalar_token s)
scalar_piece (plain t) h =
    let text = spelt_plain t h in
    let z = plain_piece false None (spelling t) [] text (λ e. cc) refl in
    record {
      node = (refl, refl, λ f. refl);
      no_break = z.no_break;
      none = z.none;
      further = z.fits;
      precedes = λ bs r ends. refl;
      shown = λ bs key r stop quote all p awaits before l f stay.
          let y = plain_piece false (innermost bs) (spelling t) r text (λ e. cc) stop in
          rw (stay, column_is bs) (y.some, ((y.begins (is_adjacent (before_past (before_by before) f)) _, y.whole, y.value), refl));
    }
scalar_piece (quoted text) h = quotes_piece double (written_escapes text) text (double_is text)
scalar_piece (single_quoted text) h = quotes_piece single (flat_map doubled text) text (single_is text h)

-- ---- where a value stands

pub no_quote : (k : Comment) (t : Trail) → begins_with 39 (spell_comment k (trail_text t)) ≡ false
no_quote no_comment (end []) = refl
no_quote k t = refl

pub scalar_reads : (s : Scalar) → IsScalar s → (k : Comment) (t : Trail) (bs : List ℕ) (tokens : List Tok) → IsComment k → Rest t bs tokens
    → (text : List ℕ) → Parts bs text (spell_scalar s (spell_comment k (trail_text t))) → From another bs [] text (scalar_token s ∷ tokens)
scalar_reads s h k t bs tokens remark rest text parts =
    let r = spell_comment k (trail_text t) in
    let z = scalar_piece s h in
    let ends = trail_ends k t bs rest.trail rest.low in
    let laid : Parts bs text (piece_of s ++ r) = subst (Parts bs text) (piece_spelt s r) parts in
    node_reads bs (piece_of s) (scalar_token s) text r tokens laid z.none (deep_piece bs (piece_of s) r z.no_break) (λ s e. z.further _) z.node.0
    (λ p awaits l there. z.shown bs false r ends.stopped (no_quote k t) bs p awaits another l laid.by (none_ends bs (position_after p laid.by (piece_of s ++ r)).col there)) (z.precedes bs r (ends.done (piece_of s)))
    (rw (z.node.1) (arrive k t bs tokens remark rest.trail rest.after (previous_by (scalar_token s)) z.node.2))

-- ---- what stands on one line

pub inline_reads : (k : Comment) (t : Trail) (bs : List ℕ) (tokens : List Tok) → IsComment k → Rest t bs tokens → (v : Inline) → IsInline v
    → (text : List ℕ) → Parts bs text (spell_inline v (spell_comment k (trail_text t))) → From another bs [] text (inline_tokens v tokens)
inline_reads k t bs tokens remark rest (scalar s) h text parts = scalar_reads s h k t bs tokens remark rest text parts
inline_reads k t bs tokens remark rest empty_array h text parts =
    empty_reads bs false [] (λ e. tt) outside text (spell_comment k (trail_text t)) tokens parts (trail_ends k t bs rest.trail rest.low).no_comment (omega arith) (arrive k t bs tokens remark rest.trail rest.after)
inline_reads k t bs tokens remark rest empty_hash h text parts =
    empty_reads bs true [] (λ e. tt) outside text (spell_comment k (trail_text t)) tokens parts (trail_ends k t bs rest.trail rest.low).no_comment (omega arith) (arrive k t bs tokens remark rest.trail rest.after)

-- ---- what a value begins with

-- what `-`, `?` and `:` may stand before
pub record Opens (a : List ℕ) : Type 0 where
  pub gap : is_at_gap a ≡ true
  pub space_or_break : begins_with_space_or_break a ≡ true
  pub dash : dash_may_precede a ≡ true
  pub colon : colon_may_precede a ≡ true
  pub tabless : has_tab_before_piece false a ≡ false
  pub no_name : goes_on_with_name a ≡ false

-- no TAB stands among the blanks of such a text
tabless_leads : (a : List ℕ) → has_tab_before_piece false a ≡ false → is_one_of (leading is_blank a) 9 ≡ false
unfolding is_blank
tabless_leads [] h = refl
tabless_leads (c ∷ a) h = grind (arith, nat_tests, tabless_leads a)

spaces_tabless : (n : ℕ) (a : List ℕ) → has_tab_before_piece false a ≡ false → has_tab_before_piece false (spaces n a) ≡ false
spaces_tabless zero a h = h
spaces_tabless (suc n) a h = spaces_tabless n a h

content_tabless : (a : List ℕ) → BeginsContent a → has_tab_before_piece false a ≡ false
unfolding is_blank
content_tabless a h = grind (arith, content_first)

comment_tabless : (text a : List ℕ) → IsLineText text → has_tab_before_piece true (text ++ 10 ∷ a) ≡ has_tab_before_piece false a
unfolding is_break
comment_tabless [] a h = refl
comment_tabless (c ∷ text) a h = grind (arith, in_line, has_tab_before_piece, comment_tabless text a)

gap_tabless : (g : List GapLine) (a : List ℕ) → IsGap g → has_tab_before_piece false a ≡ false → has_tab_before_piece false (spell_gap g a) ≡ false
unfolding is_break
gap_tabless [] a gap h = h
gap_tabless (l ∷ g) a gap h = grind (arith, comment_tabless, gap_tabless g a)

opens_beside : (more : ℕ) (a : List ℕ) → has_tab_before_piece false a ≡ false → Opens (32 ∷ spaces more a)
unfolding is_blank is_break is_blank_or_end is_anchor_name
opens_beside more a h = grind (arith, nat_tests, spaces_tabless, suc, tabless_leads, spaces)

opens_below : (k : Comment) (g : List GapLine) (n : ℕ) (a : List ℕ) → IsComment k → IsGap g → BeginsContent a → Opens (spell_comment k (next_line n g a))
unfolding is_blank is_break is_blank_or_end is_anchor_name
opens_below k g n a h e f = grind (arith, nat_tests, has_tab_before_piece, next_line, gap_tabless, spaces, spaces_tabless, content_tabless, spell_comment, opens_beside, comment_tabless, spell_gap)

-- ---- what stands at a column

plain_begins : (w r : List ℕ) → IsPlainText w → BeginsContent (w ++ r)
plain_begins w r h = grind (arith, nat_tests, plain_char, first_char, content_first)

scalar_begins : (s : Scalar) (r : List ℕ) → IsScalar s → BeginsContent (spell_scalar s r)
unfolding is_blank is_break is_nul
scalar_begins s r h = grind (arith, plain_begins, spelling, spelt_plain, content_first)

entries_begin : (c : ℕ) (es : Entries) (r : List ℕ) → BeginsContent (spell_entries c es r)
unfolding is_blank is_break is_nul
entries_begin c (Entries.last_entry v) r = content_first 45 _ refl refl refl refl
entries_begin c (Entries.entry v g es) r = content_first 45 _ refl refl refl refl

field_begins : (c : ℕ) (a : List Anchor) (f : Field) (r : List ℕ) → IsField c a f → BeginsContent (spell_field c f r)
unfolding is_blank is_break is_nul
field_begins c a (Field.implicit k v) r h = scalar_begins k _ (h.0.0)
field_begins c a (Field.explicit k g v) r h = content_first 63 _ refl refl refl refl

fields_begin : (c : ℕ) (a : List Anchor) (fs : Fields) (r : List ℕ) → AreFields c a fs → BeginsContent (spell_fields c fs r)
fields_begin c a (Fields.last_field f) r h = field_begins c a f r h
fields_begin c a (Fields.field f g fs) r h = field_begins c a f _ h.0

pub block_begins : (c : ℕ) (a : List Anchor) (b : Block) (r : List ℕ) → IsBlock c a b → BeginsContent (spell_block c b r)
block_begins c a (Block.array es) r h = entries_begin c es r
block_begins c a (Block.hash fs) r h = fields_begin c a fs r h.0

value_opens : (c : ℕ) (a : List Anchor) (v : Value) (r : List ℕ) → IsValue c a v → Opens (spell_value c v r)
unfolding is_blank is_break is_nul
value_opens c a (Value.beside more i k) r h = opens_beside more _ (content_tabless (spell_inline i (spell_comment k r)) (grind (arith, scalar_begins, content_first)))
value_opens c a (Value.folded more column strips text ls) r h = let folded_begins : BeginsContent (folded_header strips ++ _) = grind (arith, content_first) in opens_beside more _ (content_tabless _ folded_begins)
value_opens c a (Value.compact more b) r h = opens_beside more _ (content_tabless _ (block_begins (c + 2 + more) a b r h))
value_opens c a (Value.below k g column b) r h = opens_below k g column _ h.0 h.1 (block_begins column a b r h.3)
value_opens c a (Value.at_key k g es) r h = opens_below k g c _ h.0 h.1 (entries_begin c es r)
value_opens c a (Value.json more v) r h = opens_beside more _ (content_tabless (Json.spell v r) (grind (arith, content_first)))
value_opens c a (Value.literal more column text ls) r h = opens_beside more _ (content_tabless (spell_literal column text ls r) (grind (arith, content_first)))
value_opens c a (Value.anchored more name v) r h = opens_beside more _ refl
value_opens c a (Value.alias more name t) r h = opens_beside more _ refl

-- ---- what is read

-- a value of a collection at a column
abbrev pub ReadsValue : ℕ → Value → Type 0
ReadsValue c v =
    (bs : List ℕ) (t : Trail) (tokens : List Tok) → Rest t (c ∷ bs) tokens → (p : Position) (awaits : Bool) (l : Line) → (p.col ≡ suc c) × (l ≡ free) ⊎ MayFollowScalarKey v → is_waiting l ≡ false → suc c ≤ p.col
    → Reads (at p (c ∷ bs) awaits another l []) (spell_value c v (trail_text t)) (value_tokens v tokens)

-- entries of a collection at a column
abbrev Begins : ℕ → (List ℕ → List ℕ) → Tok → (List Tok → List Tok) → Type 0
Begins c spells collection gives = (bs : List ℕ) (t : Trail) (tokens : List Tok) → Rest t (c ∷ bs) tokens → Comes c bs (spells (trail_text t)) collection (gives tokens)

-- a whole collection at a column
abbrev ReadsIn : ℕ → (List ℕ → List ℕ) → (List Tok → List Tok) → Type 0
ReadsIn c spells gives =
    (bs : List ℕ) (t : Trail) (tokens : List Tok) → least_column bs true ≤ c → IsTrail t → EndsAt t c → After t bs tokens
    → (p : Position) (awaits : Bool) (before : Previous) (l : Line) (text : List ℕ) → Here c text (spells (trail_text t)) p before l → Reads (at p bs awaits before l []) text (gives tokens)

collection_reads : (c : ℕ) (spells : List ℕ → List ℕ) (collection : Tok) (gives : List Tok → List Tok) → Begins c spells collection gives → ReadsIn c spells (λ o. collection ∷ gives (Tok.block_end ∷ o))
collection_reads c spells collection gives one bs t tokens deep trail ends rest p awaits before l text here =
    one bs t (Tok.block_end ∷ tokens) (record { trail = trail; low = grind arith; after = one_more t c bs tokens ends rest }) false [] p awaits before l text tt (λ e. deep) here

-- what comes at the column of a collection that is open, after an entry of it
comes_after : (c : ℕ) (g : List GapLine) (bs r : List ℕ) (collection : Tok) (tokens : List Tok) → Comes c bs r collection tokens → After (next g c r) (c ∷ bs) tokens
comes_after c g bs r collection tokens comes extra p awaits before l text ends here = comes true extra p awaits before l text ends (λ e. cc) here

-- a value after an indicator
after_mark : (c : ℕ) (v : Value) → ReadsValue c v → (bs : List ℕ) (t : Trail) (tokens : List Tok) → Rest t (c ∷ bs) tokens → Marked c bs (spell_value c v (trail_text t)) (value_tokens v tokens)
after_mark c v one bs t tokens rest p awaits col = one bs t tokens rest p awaits free (inl (col, refl)) refl (omega (arith, col))

last_entry_reads : (c : ℕ) (a : List Anchor) (v : Value) → IsValue c a v → ReadsValue c v → Begins c (spell_entries c (Entries.last_entry v)) Tok.block_sequence_start (entry_tokens (Entries.last_entry v))
last_entry_reads c a v h one bs t tokens rest =
    let o = value_opens c a v (trail_text t) h in
    dash_reads c bs (spell_value c v (trail_text t)) (value_tokens v tokens) o.gap o.dash (after_mark c v one bs t tokens rest)

-- an entry of a collection, before others
then_reads : (c : ℕ) (one all : List ℕ → List ℕ) (collection : Tok) (gives gives_all : List Tok → List Tok) (g : List GapLine) → IsGap g → ((r : List ℕ) → BeginsContent (all r))
    → Begins c one collection gives → Begins c all collection gives_all → Begins c (λ r. one (next_line c g (all r))) collection (λ o. gives (gives_all o))
then_reads c one_text all collection gives gives_all g gap begins one more bs t tokens rest =
    one bs (next g c (all (trail_text t))) (gives_all tokens) (record { trail = (gap, begins (trail_text t)); low = omega arith; after = comes_after c g bs _ collection (gives_all tokens) (more bs t tokens rest) })

-- ---- anchors and aliases

names : (name : List ℕ) → list_all is_ascii_alphanumeric name ≡ true → (all_of is_anchor_name name ≡ true) × (has_no_break name ≡ true)
unfolding is_anchor_name is_blank_or_end is_blank is_break is_nul is_flow
names [] h = (refl, refl)
names (c ∷ name) h = grind (arith, nat_tests, names name)

a_name : (name : List ℕ) → is_name name ≡ true → (piece.is_name name ≡ true) × (has_no_break name ≡ true) × HasNone name
a_name [] h = cc
a_name (c ∷ name) h = let z = names (c ∷ name) h in (z.0, z.1, of_class is_ascii_alphanumeric refl (c ∷ name) h)

trail_no_name : (t : Trail) → goes_on_with_name (trail_text t) ≡ false
unfolding is_anchor_name is_blank_or_end is_blank is_break
trail_no_name (end []) = refl
trail_no_name t = refl

-- ---- all of them

mutual
  unfolding is_blank is_break is_nul

  pub block_reads : (c : ℕ) (a : List Anchor) (b : Block) → IsBlock c a b → ReadsIn c (spell_block c b) (block_tokens b)
  block_reads c a (Block.array es) h = collection_reads c (spell_entries c es) Tok.block_sequence_start (entry_tokens es) (entries_read c a es h)
  block_reads c a (Block.hash fs) h = collection_reads c (spell_fields c fs) Tok.block_mapping_start (all_field_tokens fs) (fields_read c a fs h.0)

  read_value : (c : ℕ) (a : List Anchor) (v : Value) → IsValue c a v → ReadsValue c v
  read_value c a (Value.beside more v k) h bs t tokens rest p awaits l fits line deep = inline_reads k t (c ∷ bs) tokens h.1 rest v h.0 _ (spaced (c ∷ bs) more _) p awaits l line deep
  read_value c a (Value.literal more column text ls) h bs t tokens rest p awaits l fits line deep =
      block_is_read _ (suc c) _ _ _ _ h.0 (literal_lines c column text ls h.0 h.1 h.2) (c ∷ bs) refl tokens _ t (subst (Parts (c ∷ bs) _) (headed_literal text (spell_lines column ls (trail_text t))) (spaced (c ∷ bs) more _))
      rest.trail (nested_follows c column bs t h.0 rest.trail rest.low) rest.after p awaits l line deep
  read_value c a (Value.folded more column strips text ls) h bs t tokens rest p awaits l fits line deep =
      let headed : folded_header strips ++ (spell_lines column ls (trail_text t)) ≡ block_text BlockStyle.folded strips (spell_lines column ls (trail_text t)) = grind arith in
      block_is_read _ (suc c) _ _ _ _ h.0 (folded_lines c column strips text ls h.0 h.1) (c ∷ bs) refl tokens _ t (subst (Parts (c ∷ bs) _) headed (spaced (c ∷ bs) more _))
      rest.trail (nested_follows c column bs t h.0 rest.trail rest.low) rest.after p awaits l line deep
  read_value c a (Value.json more v) h bs t tokens rest p awaits l fits line deep =
      value_reads (c ∷ bs) v h.1 (λ e. (json_spaces v [] h.3).0) outside _ (trail_text t) tokens (spaced (c ∷ bs) more _) (trail_ends no_comment t (c ∷ bs) rest.trail rest.low) (let few = h.2 in omega (arith, few))
      (arrive no_comment t (c ∷ bs) tokens tt rest.trail rest.after) p awaits l line deep
  read_value c a (Value.compact more b) h bs t tokens rest p awaits l (inl (col, is_free)) line deep =
      rw is_free (block_reads (c + 2 + more) a b h (c ∷ bs) t tokens (omega arith) rest.trail (let low = rest.low in grind arith) rest.after p awaits another free _ (here_beside (c + 2 + more) more _ p (omega (arith, col))))
  read_value c a (Value.compact more b) h bs t tokens rest p awaits l (inr none) line deep = absurd none
  read_value c a (Value.below k g n b) h bs t tokens rest p awaits l fits line deep =
      block_reads n a b h.3 (c ∷ bs) t tokens (omega (arith, h.2)) rest.trail (let low = rest.low in grind arith) rest.after p awaits another l _ (here_after k g n _ p another l h.0 h.1 (λ f. refl) line)
  read_value c a (Value.at_key k g es) h bs t tokens rest p awaits l fits line deep = entries_read c a es h.2 bs t tokens rest true [] p awaits another l _ tt (λ e. cc) (here_after k g c _ p another l h.0 h.1 (λ f. refl) line)
  read_value c a (Value.anchored more name v) h bs t tokens rest p awaits l fits line deep =
      let r = spell_value c v (trail_text t) in
      let z = a_name name h.0 in
      let ends = (value_opens c (begun name ∷ a) v (trail_text t) h.2).no_name in
      node_reads (c ∷ bs) (38 ∷ name) (Tok.anchor name) _ r (value_tokens v tokens) (spaced (c ∷ bs) more (38 ∷ (name ++ r))) z.2 (deep_piece (c ∷ bs) (38 ∷ name) r z.1) (λ s e. refl) refl (λ q waits m there. (refl, ((refl, z.0, ends), refl))) refl
      (λ q waits m. read_value c (begun name ∷ a) v h.2 bs t tokens rest q waits m (inr (grind arith))) p awaits l line deep
  read_value c a (Value.alias more name tree) h bs t tokens rest p awaits l fits line deep =
      let r = trail_text t in
      let z = a_name name h.0 in
      node_reads (c ∷ bs) (42 ∷ name) (Tok.alias name) _ r tokens (spaced (c ∷ bs) more (42 ∷ (name ++ r))) z.2 (deep_piece (c ∷ bs) (42 ∷ name) r z.1) (λ s e. refl) refl (λ q waits m there. (refl, ((refl, z.0, trail_no_name t), refl))) refl
      (arrive no_comment t (c ∷ bs) tokens tt rest.trail rest.after another (λ f. refl)) p awaits l line deep

  entries_read : (c : ℕ) (a : List Anchor) (es : Entries) → AreEntries c a es → Begins c (spell_entries c es) Tok.block_sequence_start (entry_tokens es)
  entries_read c a (Entries.last_entry v) h = last_entry_reads c a v h.1 (read_value c a v h.1)
  entries_read c a (Entries.entry v g es) h =
      then_reads c (spell_entries c (Entries.last_entry v)) (spell_entries c es) Tok.block_sequence_start (entry_tokens (Entries.last_entry v)) (entry_tokens es) g h.2 (entries_begin c es) (last_entry_reads c a v h.1 (read_value c a v h.1)) (entries_read c (anchors_after v a) es h.3)

  field_read : (c : ℕ) (a : List Anchor) (f : Field) → IsField c a f → Begins c (spell_field c f) Tok.block_mapping_start (field_tokens f)
  field_read c a (Field.implicit k v) h bs t tokens rest =
      let r = spell_value c v (trail_text t) in
      let o = value_opens c a v (trail_text t) h.2 in
      let z = scalar_piece k h.0.0 in
      let short : length (piece_of k) ≤ 1024 = rw (append-nil (piece_of k)) at rw (piece_spelt k []) at h.0.1 in
      rw (piece_spelt k (58 ∷ r))
      (key_reads c bs (piece_of k) (scalar_token k) r (value_tokens v tokens) z short o.gap o.colon (λ q deep. read_value c a v h.2 bs t tokens rest q true taken (inr h.1) refl deep))
  field_read c a (Field.explicit k g v) h bs t tokens rest =
      let r = spell_value c v (trail_text t) in
      let n = next g c (58 ∷ r) in
      let o = value_opens c a k (trail_text n) h.1 in
      let w = value_opens c (anchors_after k a) v (trail_text t) h.4 in
      let value = colon_reads c bs r (value_tokens v tokens) w.gap w.colon (after_mark c v (read_value c (anchors_after k a) v h.4) bs t tokens rest) in
      question_reads c bs (spell_value c k (trail_text n)) (value_tokens k (Tok.value ∷ value_tokens v tokens)) o.space_or_break o.tabless (after_mark c k (read_value c a k h.1) bs n (Tok.value ∷ value_tokens v tokens)
      (record { trail = (h.2, content_first 58 r refl refl refl refl); low = omega arith; after = comes_after c g bs (58 ∷ r) Tok.block_mapping_start (Tok.value ∷ value_tokens v tokens) value }))

  fields_read : (c : ℕ) (a : List Anchor) (fs : Fields) → AreFields c a fs → Begins c (spell_fields c fs) Tok.block_mapping_start (all_field_tokens fs)
  fields_read c a (Fields.last_field f) h = field_read c a f h
  fields_read c a (Fields.field f g fs) h =
      let b = anchors_after_field f a in
      then_reads c (spell_field c f) (spell_fields c fs) Tok.block_mapping_start (field_tokens f) (all_field_tokens fs) g h.1 (λ r. fields_begin c b fs r h.2) (field_read c a f h.0) (fields_read c b fs h.2)

-- ---- roots

-- a trail that ends a document
abbrev EndsDocument : Root → Trail → Type 0
EndsDocument root (next g d r) = ⊥
EndsDocument root (marker g r) = IsAfterRoot root g
EndsDocument root (end g) = IsAfterRoot root g

empty_gap : (g : List GapLine) → AreEmptyLines g → IsGap g
empty_gap [] are = tt
empty_gap (l ∷ g) are = grind (arith, empty_gap g)

-- before a root at column 0
root_parts : {text rest : List ℕ} {p : Position} {before : Previous} {l : Line} → Here 0 text rest p before l → Parts [] text rest
root_parts here = record { by = here.by; is = here.is; separates = here.separates; tabless = λ awaits. here.tabless 0; deep = λ p deep. omega arith; none = here.none }

-- what stands in front of a column of a document: the break of a marker's line or nothing, and then a gap
abbrev IsFront : (List ℕ → List ℕ) → Position → Line → Type 0
IsFront front p l = (g : List GapLine) (n : ℕ) (r : List ℕ) → IsGap g → Here n (front (spell_gap g (spaces n r))) r p another l

root_reads : (root : Root) → IsRoot root → (front : List ℕ → List ℕ) (g : List GapLine) → IsGap g → (t : Trail) → EndsDocument root t → (tokens : List Tok) (p : Position) (awaits : Bool) (l : Line) → is_waiting l ≡ false → IsFront front p l → After t [] tokens
    → Reads (at p [] awaits another l []) (front (spell_gap g (spell_root root (trail_text t)))) (root_tokens root tokens)
unfolding is_nul are_marks is_blank_or_end is_blank is_break
root_reads (Root.block column block) is front g gap t ends tokens p awaits l line here rest =
    block_reads column [] block is [] t tokens (omega arith) (grind (arith, empty_gap)) (grind arith) rest p awaits another l _ (here g column _ gap)
root_reads (Root.inline i) is front g gap t ends tokens p awaits l line here rest =
    inline_reads no_comment t [] tokens tt (record { trail = grind (arith, empty_gap); low = grind arith; after = rest }) i is _ (root_parts (here g 0 _ gap)) p awaits l line (omega arith)
root_reads (Root.literal text ls) is front g gap t ends tokens p awaits l line here rest =
    block_is_read _ 0 _ _ _ _ refl (root_literal_lines text ls is.0 is.1) [] refl tokens _ t (subst (Parts [] _) (headed_literal text (spell_lines 0 ls (trail_text t))) (root_parts (here g 0 _ gap)))
    (grind (arith, empty_gap)) (grind (arith, at_text)) rest p awaits l line (omega arith)

-- ---- markers

marker_reads : (r : List ℕ) (tokens : List Tok) → ((p : Position) (awaits : Bool) → Reads (at p [] awaits another taken []) (10 ∷ r) tokens)
    → (extra : List ℕ) (p : Position) (awaits : Bool) (before : Previous) (l : Line) (text : List ℕ) → Here 0 text (marker_text r) p before l → Reads (at p (extra ++ []) awaits before l []) text (ended extra (Tok.document_start ∷ tokens))
unfolding is_blank_or_end is_blank is_break
marker_reads r tokens rest extra p awaits before l text here =
    let next = 10 ∷ r in
    let w = codes "---" in
    let there = position_after p here.by (w ++ next) in
    let all_left : (length extra) - 0 ≡ (length extra) = omega arith in
    let first : Steps (at p extra awaits before l []) (step_of here.by w Tok.document_start false) next (at (position_after there w next) [] (awaits_past false Tok.document_start [] (awaits_at false there.col extra awaits) next) another taken []) (ended extra []) =
    grind (arith, or_true, and_false, ends_are) in
    rw (append-nil, here.is, ← append_assoc (map (λ n. Tok.block_end) extra) [] (Tok.document_start ∷ tokens)) (step (step_of here.by w Tok.document_start false) next first (rest _ _))

-- ---- documents

pub end_reads : (g : List GapLine) → After (end g) [] (Tok.stream_end ∷ [])
end_reads g extra p awaits before l text all (separates, line, none) = rw append-nil (read_end p extra awaits before l text line separates none)

front_after : (p : Position) → IsFront (λ a. 10 ∷ a) p taken
front_after p g n r gap = here_after no_comment g n r p another taken tt gap (λ f. refl) refl

documents_read : (ds : Documents) → AreDocuments ds → (front : List ℕ → List ℕ) (p : Position) (awaits : Bool) (l : Line) → is_waiting l ≡ false → IsFront front p l → Reads (at p [] awaits another l []) (front (spell_documents ds [])) (documents_tokens ds)
documents_read (Documents.last_document d after) are front p awaits l line here = root_reads d.root are.1 front d.gap are.0 (end after) are.2 (Tok.stream_end ∷ []) p awaits l line here (end_reads after)
documents_read (Documents.document d g ds) are front p awaits l line here =
    root_reads d.root are.1 front d.gap are.0 (marker g (spell_documents ds [])) are.2 (Tok.document_start ∷ documents_tokens ds) p awaits l line here
    (λ extra q waits before m text all. marker_reads (spell_documents ds []) (documents_tokens ds) (λ r waits. documents_read ds are.3 (λ a. 10 ∷ a) r waits taken refl (front_after r)) extra q waits before m text)

pub layout_reads : (w : Layout) → IsLayout w → Reads first_account (spell w []) (marked w.is_marked (documents_tokens w.documents))
layout_reads w is = by w.is_marked
  where
    by : (b : Bool) → Reads first_account (spell_mark b (spell_documents w.documents [])) (marked b (documents_tokens w.documents))
    by true = marker_reads (spell_documents w.documents []) (documents_tokens w.documents) (λ p waits. documents_read w.documents is (λ a. 10 ∷ a) p waits taken refl (front_after p)) [] first_position false another free _ (here_gap [] 0 _ first_position another tt refl)
    by false = documents_read w.documents is (λ a. a) first_position false free refl (λ g n r gap. here_gap g n r first_position another gap refl)

-- outside all collections no line is refused for its column
any_lines : (escaped : Bool) (ls : Lines) → lines_fit 0 escaped ls ≡ true
any_lines escaped (Lines.last_line l) = grind (arith, nat_tests)
any_lines escaped (Lines.line l e ls) = grind (arith, nat_tests, any_lines e ls)

fits : (at : ℕ → List ℕ → Option Spelled) (quote : ℕ) (body : List ℕ) (es : List Element) → elements at 0 body ≡ Some es → quoted_lines_fit 0 at (quote ∷ (body ++ quote ∷ [])) ≡ true
fits at quote body es e = rw (between quote body, e) (grind (arith, any_lines))

-- so many line feeds as the empty lines of a gap
feeds : (n : ℕ) → (g : List GapLine) × IsGap g × (spell_ending g [] ≡ replicate n 10)
feeds zero = ([], tt, refl)
feeds (suc n) = let z = feeds n in (empty_line ∷ z.0, (tt, z.1), ap (λ x. 10 ∷ x) z.2)

further : (quotes : Quotes) (body value : List ℕ) → body_value quotes body ≡ Some value → (s : Site) → s.blocks ≡ []
    → further_lines_stand (least_for (Tok.scalar (style_of quotes) value) s) (Tok.scalar (style_of quotes) value) (in_quotes quotes body) ≡ true
further single body value h s e = let z = parts true body value h in rw e (fits single_quoted_element 39 body z.all z.are)
further double body value h s e = let z = parts false body value h in rw e (fits double_quoted_element 34 body z.all z.are)

pub quoted_reads : (quotes : Quotes) (body value : List ℕ) (n : ℕ) → body_value quotes body ≡ Some value
    → Reads first_account (laid.spell (record { quotes = quotes; body = body; breaks = n })) (Tok.scalar (style_of quotes) value ∷ Tok.stream_end ∷ [])
quoted_reads quotes body value n h =
    let f = feeds n in
    let piece = in_quotes quotes body in
    let t = Tok.scalar (style_of quotes) value in
    let after = spell_ending f.0 [] in
    let none : begun_by t ≡ [] = grind arith in
    let follows = (trail_ends no_comment (end f.0) [] f.1 tt).done piece in
    rw (← append_assoc (quote_of quotes ∷ body) (quote_of quotes ∷ []) (replicate n 10), ← f.2)
    (node_reads [] piece t (piece ++ after) after (Tok.stream_end ∷ []) (record { by = []; is = refl; separates = refl; tabless = λ awaits. refl; deep = λ p deep. deep; none = refl }) (quoted_none quotes body value h) (λ p deep. omega arith)
    (further quotes body value h) (grind arith)
    (λ p awaits l there. quotes_shown quotes body value h [] false after (no_quote no_comment (end f.0)) [] p awaits another l [] refl) (grind (arith, follows))
    (rw none (arrive no_comment (end f.0) [] (Tok.stream_end ∷ []) tt f.1 (end_reads f.0) (previous_by t) (λ w. grind arith))) first_position false free refl (omega arith))
