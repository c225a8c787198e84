-- Whether facts hold of texts that are written out, by computing: evidence, where they do.
use Rattle.std.proofs.Common.{eqb, option_map, ◌⊎◌}
use Rattle.std.proofs.lemmas.Bool.{eqb-true}
use Rattle.defs_text.specs.Directives.{Directive, directive_of, version, tag_declaration, reserved}
use Rattle.defs_token.specs.Account.{has_open_block}
use Rattle.defs_token.specs.Row.{IsRowFrom, IsShown}
use Rattle.defs_token.specs.RowAccount.{Account as RowAccount, account_past as past_step, is_in_flow as stands_in_flow, may_end, seen, Site, site_at}
use Rattle.defs_token.specs.Step.{spelled as spelled_steps}
use Rattle.defs_token.specs.Tokens.{shown_position}
use Rattle.defs_text.specs.Text.{is_empty}
use Rattle.defs_token.proofs.Common.{[], Account, account_at, account_past, alias, anchor, ap, begins_flow, begins_node, begins_pair, begins_plain, begins_with, begins_with_key_indicator, begins_with_space_or_break, block_end, block_entry, block_mapping_start, block_position, block_read, block_sequence_start, BlockRead, BlockStyle, Bool, codes, collection_column, document_end, document_start, double_quote, double_quoted, double_quoted_value, drop, ends_entry, false, first_token, flow_entry, flow_mapping_end, flow_mapping_start, flow_sequence_end, flow_sequence_start, folded, goes_on_with_name, has_no_break, has_open_pair, has_room, Holds, inl, inr, is_adjacent, is_at_gap, is_at_line_end, is_closed, is_in_flow, is_name, is_separation, is_value_indicator, is_whole_plain, IsBlockScalar, IsDoubleQuoted, IsPiece, IsRow, IsSingleQuoted, key, length, List, literal, None, not, Option, past_separation, plain, plain_value, Position, pred, refl, scalar, single_quote, single_quoted, single_quoted_value, Some, spelled, Step, stream_end, stream_start, tag, Tag, tag_directive, take, takes_pair, Tok, true, value, version_directive, Written, written_tag, ℕ, ◌&&◌, ◌++◌, ◌||◌, ◌∷◌, ◌≡◌}
use Rattle.defs_token.specs.Piece.{IsDirective, IsDocumentMarker, IsEntryEnd, IsNamed, IsOpening}

-- ---- several facts

abbrev both : {A B : Type 0} → Option A → Option B → Option (A × B)
both (Some x) (Some y) = Some (x, y)
both _ _ = None

abbrev three : {A B C : Type 0} → Option A → Option B → Option C → Option (A × B × C)
three o p q = option_map (λ e. (e.0, e.1.0, e.1.1)) (both o (both p q))

abbrev four : {A B C D : Type 0} → Option A → Option B → Option C → Option D → Option (A × B × C × D)
four o p q r = option_map (λ e. (e.0, e.1.0, e.1.1, e.1.2)) (both o (three p q r))

abbrev one : {A B : Type 0} → Option A → Option B → Option (A ⊎ B)
one (Some x) _ = Some (inl x)
one None o = option_map inr o

-- ---- equal values

abbrev bools : (b c : Bool) → Option (b ≡ c)
bools true true = Some refl
bools false false = Some refl
bools _ _ = None

abbrev numbers : (m n : ℕ) → Option (m ≡ n)
numbers m n = option_map (eqb-true m n) (bools (eqb m n) true)

abbrev texts : (a b : List ℕ) → Option (a ≡ b)
texts [] [] = Some refl
texts (c ∷ a) (d ∷ b) = option_map (λ e. λ i. e.0 i ∷ e.1 i) (both (numbers c d) (texts a b))
texts _ _ = None

abbrev positions : (p q : Position) → Option (p ≡ q)
positions p q =
    option_map (λ e. λ i. record { index = e.0 i; line = e.1 i; col = e.2 i })
    (three (numbers p.index q.index) (numbers p.line q.line) (numbers p.col q.col))

abbrev tags : (t u : Tag) → Option (t ≡ u)
tags t u = option_map (λ e. λ i. record { handle = e.0 i; suffix = e.1 i }) (both (texts t.handle u.handle) (texts t.suffix u.suffix))

abbrev directives : (d e : Directive) → Option (d ≡ e)
directives (version m n) (version k l) = option_map (λ e. λ i. version (e.0 i) (e.1 i)) (both (numbers m k) (numbers n l))
directives (tag_declaration h p) (tag_declaration k q) =
    option_map (λ e. λ i. tag_declaration (e.0 i) (e.1 i)) (both (texts h k) (texts p q))
directives reserved reserved = Some refl
directives _ _ = None

abbrev styles : (s t : BlockStyle) → Option (s ≡ t)
styles BlockStyle.literal BlockStyle.literal = Some refl
styles BlockStyle.folded BlockStyle.folded = Some refl
styles _ _ = None

-- a value that is there, and is this one
abbrev given : {A : Type 0} {y : A} → ((x : A) → Option (x ≡ y)) → (o : Option A) → Option (o ≡ Some y)
given f None = None
given f (Some x) = option_map (λ e. ap Some e) (f x)

-- ---- pieces

-- a piece without its first and last character
abbrev body_of : List ℕ → List ℕ
body_of piece = take (pred (pred (length piece))) (drop 1 piece)

abbrev opening : (a : Account) (p bracket : List ℕ) → Option (IsOpening a p bracket)
opening a p bracket = both (texts p bracket) (bools (has_room a) true)

abbrev entry_end : (a : Account) (p indicator : List ℕ) → Option (IsEntryEnd a p indicator)
entry_end a p indicator = both (texts p indicator) (bools (has_open_pair a) false)

abbrev marker : (a : Account) (p n text : List ℕ) → Option (IsDocumentMarker a p n text)
marker a p n text = four (texts p text) (numbers a.position.col 0) (bools (is_at_gap n) true) (bools (is_closed a) true)

abbrev directive : (a : Account) (p n : List ℕ) (d : Directive) → Option (IsDirective a p n d)
directive a p n d =
    option_map (λ e. (e.0, e.1.0, e.1.1, e.1.2, e.1.3)) (both (given (λ x. directives x d) (directive_of p))
    (four (bools (has_no_break p) true) (numbers a.position.col 0) (bools (is_at_line_end n) true) (bools (is_closed a) true)))

abbrev named : (c : ℕ) (p n name : List ℕ) → Option (IsNamed c p n name)
named c p n name = three (texts p (c ∷ name)) (bools (is_name name) true) (bools (goes_on_with_name n) false)

abbrev in_single_quotes : (p n text : List ℕ) → Option (IsSingleQuoted p n text)
in_single_quotes p n text =
    option_map (λ e. (body_of p, e.0, e.1, e.2))
    (three (texts p (single_quote ∷ (body_of p ++ (single_quote ∷ []))))
    (given (λ x. texts x text) (single_quoted_value (body_of p))) (bools (begins_with single_quote n) false))

abbrev in_double_quotes : (p n text : List ℕ) → Option (IsDoubleQuoted p n text)
in_double_quotes p n text =
    option_map (λ e. (body_of p, e.0, e.1)) (both (texts p (double_quote ∷ (body_of p ++ (double_quote ∷ []))))
    (given (λ x. texts x text) (double_quoted_value (body_of p))))

-- what is read as a block scalar, and where its content begins
abbrev block_of : (o : Option BlockRead) (style : BlockStyle) (text : List ℕ) (at : Position) (begins : ℕ → Position) →
    Option ((column : ℕ) × (o ≡ Some (record { style = style; column = column; text = text })) × (at ≡ begins column))
block_of None style text at begins = None
block_of (Some r) style text at begins =
    option_map (λ e. (r.column, (λ i. Some (record { style = e.0 i; column = r.column; text = e.1 i })), e.2))
    (three (styles r.style style) (texts r.text text) (positions at (begins r.column)))

abbrev block : (a : Account) (p n : List ℕ) (style : BlockStyle) (text : List ℕ) (at : Position)
    → Option (IsBlockScalar a p n style text at)
block a p n style text at =
    both (bools (is_in_flow a) false)
    (block_of (block_read (collection_column a) p n) style text at (λ column. block_position column a.position p n))

-- a piece that belongs to a token
abbrev piece_of : (a : Account) (p n : List ℕ) (o : Option Tok) (at : Position) (t : Tok) → Option (IsPiece a p n o at t)
piece_of a p n o at stream_start = None
piece_of a p n o at stream_end = None
piece_of a p n o at (version_directive x y) = both (directive a p n (version x y)) (positions at a.position)
piece_of a p n o at (tag_directive x y) =
    both (one (directive a p n (tag_declaration x y)) (three (texts x []) (texts y []) (directive a p n reserved)))
    (positions at a.position)
piece_of a p n o at document_start = both (marker a p n (codes "---")) (positions at a.position)
piece_of a p n o at document_end = both (marker a p n (codes "...")) (positions at a.position)
piece_of a p n o at block_sequence_start = both (texts p []) (bools (is_in_flow a) false)
piece_of a p n o at block_mapping_start = both (texts p []) (bools (is_in_flow a) false)
piece_of a p n o at block_end = three (texts p []) (bools (is_in_flow a) false) (bools (has_open_block a) true)
piece_of a p n o at flow_sequence_start = both (opening a p (codes "[")) (positions at a.position)
piece_of a p n o at flow_sequence_end = both (entry_end a p (codes "]")) (positions at a.position)
piece_of a p n o at flow_mapping_start =
    one (both (opening a p (codes "{")) (positions at a.position))
    (four (texts p []) (bools (takes_pair a) true) (bools (begins_pair o) true)
    (bools (begins_with_key_indicator (past_separation false n)) false))
piece_of a p n o at flow_mapping_end =
    one (both (entry_end a p (codes "}")) (positions at a.position))
    (three (texts p []) (bools (has_open_pair a) true) (bools (ends_entry o) true))
piece_of a p n o at block_entry = three (texts p (codes "-")) (bools (is_at_gap n) true) (bools (is_in_flow a) false)
piece_of a p n o at flow_entry = both (entry_end a p (codes ",")) (positions at a.position)
piece_of a p n o at key =
    one (both (texts p (codes "?")) (bools (begins_with_space_or_break n) true)) (both (texts p []) (bools (begins_node o) true))
piece_of a p n o at value = both (texts p (codes ":")) (bools (is_value_indicator (is_in_flow a) (is_adjacent a.before) n) true)
piece_of a p n o at (alias x) = both (named 42 p n x) (positions at a.position)
piece_of a p n o at (anchor x) = both (named 38 p n x) (positions at a.position)
piece_of a p n o at (tag h x) =
    both (both (given (λ t. tags t (record { handle = h; suffix = x })) (written_tag p))
    (bools (is_at_gap n || (is_in_flow a && begins_flow n)) true)) (positions at a.position)
piece_of a p n o at (scalar plain x) =
    both (three (bools (begins_plain (is_in_flow a) (is_adjacent a.before) a.position.col (p ++ n)) true)
    (bools (is_whole_plain (is_in_flow a) (collection_column a) p n) true)
    (given (λ t. texts t x) (plain_value p))) (positions at a.position)
piece_of a p n o at (scalar single_quoted x) = both (in_single_quotes p n x) (positions at a.position)
piece_of a p n o at (scalar double_quoted x) = both (in_double_quotes p n x) (positions at a.position)
piece_of a p n o at (scalar literal x) = block a p n BlockStyle.literal x at
piece_of a p n o at (scalar folded x) = block a p n BlockStyle.folded x at

-- ---- rows

-- a row of a cut
abbrev pub cut_of : (a : Account) (ws : List Written) (after : List ℕ) (last : Option Tok) → Option (IsRow a ws after last)
cut_of a [] after last = Some tt
cut_of a (w ∷ ws) after last =
    both (both (bools (is_separation false w.separation (w.piece ++ spelled ws after)) true)
    (piece_of (account_at a w (spelled ws after)) w.piece (spelled ws after) (first_token ws last) w.token.position w.token.tok))
    (cut_of (account_past a w (spelled ws after)) ws after last)

-- a step, whose piece stands at a site
abbrev step_of : (a : RowAccount) (at : Site) (w : Step) (next : List ℕ)
    → Option (Holds (is_separation false w.separation (w.piece ++ next)) × IsShown a at w next)
step_of a at w next =
    both (bools (is_separation false w.separation (w.piece ++ next)) true)
    (both (bools (not (is_empty w.piece)) true)
    (piece_of (seen a at w.separation) w.piece next None (shown_position at w.piece w.shown next) w.shown))

-- a row of steps
abbrev pub steps_of : (o : Option RowAccount) (ws : List Step) (last : List ℕ) → Option (IsRowFrom o ws last)
steps_of None ws last = None
steps_of (Some a) [] last = both (bools (is_separation false last []) true) (bools (may_end a) true)
steps_of (Some a) (w ∷ ws) last =
    both
    (step_of a (site_at (stands_in_flow a.entries) a.site w.separation w.piece w.shown (spelled_steps ws last)) w (spelled_steps ws last))
    (steps_of (past_step a w (spelled_steps ws last)) ws last)
