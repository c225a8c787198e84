-- Where a tag, a directive or a block scalar's header is none, no row of the text goes on.
use Rattle.proof_scanner.proofs.Common.{and_false, blocks, innermost, is_on_line, cases_Bool, [], NoPiece, IsBlockFault, IsQuotedFault, tab, nat_tests, is_marker, act_of, directive_token, Directive, alias_name, is_name, goes_on_with_name, all_of, arith, ◌==◌, Account, after, alpha_starts, and_parts, ap, append-nil, are_marks, AreNotIndented, At, begins_flow, begins_with, begins_with_mark, block_may_end, block_read, block_token, BlockRead, BlockStyle, Body, body, Bool, decoded_some, directive_begins, directive_line, directive_of, double_quoted, eqb-true, Err, false, first_line, folded, further, further_text, has_header, has_no_break, has_no_nul, Header, header_of, if◌then◌else◌, in_double_quotes, in_single_quotes, indicator_of, inl, inr, is_adjacent, is_alpha, is_at_end, is_at_gap, is_blank, is_blank_or_end, is_break, is_decimal_digit, is_empty, is_flow, is_further_text, is_in_flow, is_in_line, is_letter, is_nul, is_past, is_tag, is_uri, IsTagRefusal, kind_at, leading, leading_all, least_column, length, line_is, line_more, lines_after, List, literal, local_goes_on, local_octets, may_follow, no_lines, no_nul_after, no_suffix, None, not, of_lines, Option, past, Position, Problem, put_first, read_body, read_lines, refl, same_end, scalar, single_quoted, site_at_place, slice_index, Some, split, split_append, splits, subst, suffix_goes_on, suffix_octets, sym, tag_text, tags_are_read, true, unclosed, up_to_break, verbatim_goes_on, verbatim_octets, word, written_tag, ℕ, ◌&&◌, ◌++◌, ◌||◌, ◌∙◌, ◌∷◌, ◌≡◌, ends_run, runs, TagEnd, VerbatimTagEnd}
use Rattle.defs_token.specs.Account as pieces
use Rattle.model_scanner.specs.Tag as tags
use Rattle.model_scanner.specs.Tag.{verbatim_end, verbatim, named, shorthand, tag_end, tag}
use Rattle.proof_row.proofs.TagEnds.{mark_is_first}
use Rattle.proof_lexers.specs.DirectiveEnds as directives
use Rattle.proof_scanner.specs.NoPiece as none
use Rattle.proof_lexers.specs.HeaderEnds.{ends_line}
use Rattle.proof_lexers.proofs.Properties.Uris.{uris_are_read}
use Rattle.proof_scanner.proofs.Refusals.OtherRows.{StepAt}
use Rattle.proof_scanner.proofs.Refusals.PiecesRefused.{Here, acct, block_there, here_by, whole_by, rest_of, flow_is, node_stands, marker_begins, is_piece, spot, no_block_end}
use Rattle.proof_scanner.proofs.Refusals.Common.{end_no_text, block_scalar, anchor_name, quote_of}

-- ---- tags

no_mark : is_alpha 33 ≡ false
unfolding is_alpha is_decimal_digit is_letter
no_mark = refl

-- a word and a second mark begin no verbatim tag
no_angle : (name rest : List ℕ) → all_of is_alpha name ≡ true → (slice_index (name ++ 33 ∷ rest) 0 == 60) ≡ false
no_angle [] rest h = refl
no_angle (c ∷ name) rest h = (alpha_starts c (and_parts (is_alpha c) (all_of is_alpha name) h).0).0

plainly : (text : List ℕ) → begins_with 60 text ≡ false → (slice_index text 0 == 60) ≡ false
plainly text h = grind arith

unmarked : (text : List ℕ) → begins_with_mark text ≡ false → (slice_index text 0 == 33) ≡ false
unmarked text h = grind arith

-- The scan refuses a text after `!` for each of these reasons.
pub refusal_fails : (flow : Bool) (text : List ℕ) (why : Problem) (p : Position) → IsTagRefusal flow text why → tag flow (33 ∷ text) p ≡ Err (At why p)
unfolding tag verbatim shorthand named
refusal_fails flow text why p (verbatim_octets rest f cut e) = rw (cut, (uris_are_read p rest (past (past p)) []).0, e) refl
refusal_fails flow text why p (unclosed rest uri cut e lacks) =
    let closes_not : verbatim_end p uri (after is_uri rest) (further (length (leading is_uri rest)) (past (past p))) ≡ Err (At VerbatimTagEnd p) = grind (arith, lacks) in
    rw (cut, (uris_are_read p rest (past (past p)) []).0, e, closes_not) refl
refusal_fails flow text why p (verbatim_goes_on rest uri more cut e ends goes) = rw (cut, (uris_are_read p rest (past (past p)) []).0, e, ends, same_end flow more, goes) refl
refusal_fails flow text why p (suffix_octets name rest f cut all e) =
    let z = leading_all is_alpha name (33 ∷ rest) all no_mark in
    rw (cut, no_angle name rest all, word (name ++ 33 ∷ rest) (past p) [], z.0, z.1, (uris_are_read p rest (past (further (length name) (past p))) []).1, e) refl
refusal_fails flow text why p (no_suffix name rest cut all none) =
    let z = leading_all is_alpha name (33 ∷ rest) all no_mark in
    rw (cut, no_angle name rest all, word (name ++ 33 ∷ rest) (past p) [], z.0, z.1, (uris_are_read p rest (past (further (length name) (past p))) []).1, none) refl
refusal_fails flow text why p (suffix_goes_on name rest suffix cut all some e goes) =
    let z = leading_all is_alpha name (33 ∷ rest) all no_mark in
    let given : is_empty suffix ≡ false = grind (arith, decoded_some) in
    rw (cut, no_angle name rest all, word (name ++ 33 ∷ rest) (past p) [], z.0, z.1, (uris_are_read p rest (past (further (length name) (past p))) []).1, e, given, same_end flow (after is_tag rest), goes) refl
refusal_fails flow text why p (local_octets f no_verbatim none e) =
    rw (plainly text no_verbatim, word text (past p) [], unmarked (after is_alpha text) none, (uris_are_read p (after is_alpha text) (further (length (leading is_alpha text)) (past p)) (leading is_alpha text)).1, e) refl
refusal_fails flow text why p (local_goes_on suffix no_verbatim none e goes) =
    let by : (b : Bool) → is_empty (leading is_alpha text ++ suffix) ≡ b
    → tag_end flow p (tags.local (record { rest = after is_tag (after is_alpha text); position = further (length (leading is_tag (after is_alpha text))) (further (length (leading is_alpha text)) (past p)); value = leading is_alpha text ++ suffix })) ≡ Err (At TagEnd p) =
    λ a i. grind (arith, nat_tests, same_end, flow, after, text, goes, eqb-true) in
    rw (plainly text no_verbatim, word text (past p) [], unmarked (after is_alpha text) none, (uris_are_read p (after is_alpha text) (further (length (leading is_alpha text)) (past p)) (leading is_alpha text)).1, e)
    (by (is_empty (leading is_alpha text ++ suffix)) refl)

-- ---- lines

all_in_line : (l : List ℕ) → all_of is_on_line l ≡ has_no_break l
all_in_line [] = refl
all_in_line (c ∷ l) = ap (λ b. is_on_line c && b) (all_in_line l)

line_ends : (next : List ℕ) → directives.ends_line next ≡ true → ends_run is_on_line next ≡ true
line_ends a e = grind arith

-- two lines of one text are the same
pub one_line : (line1 next1 line2 next2 : List ℕ) → line1 ++ next1 ≡ line2 ++ next2 → has_no_break line1 ≡ true → directives.ends_line next1 ≡ true → has_no_break line2 ≡ true → directives.ends_line next2 ≡ true → line1 ≡ line2
one_line line1 next1 line2 next2 e h j k l = (runs is_on_line line1 line2 next1 next2 (all_in_line line1 ∙ h) (all_in_line line2 ∙ k) (line_ends next1 j) (line_ends next2 l) e).0

-- a text's first line
pub first_of : (line after : List ℕ) → is_in_line line ≡ true → ends_line after ≡ true → up_to_break (line ++ after) ≡ line
first_of [] after h e = grind arith
first_of (c ∷ line) after h e = grind (arith, first_of line after)

-- a block scalar's piece has the first line of the text
pub piece_line : (collection : Option ℕ) (piece next : List ℕ) (r : BlockRead) → has_no_nul next ≡ true → block_read collection piece next ≡ Some r → up_to_break (piece ++ next) ≡ up_to_break piece
piece_line collection piece next r clean is = grind (arith, end_no_text, append-nil, line_more)

-- ---- a TAB after a header

not_past : (column : ℕ) (r : List ℕ) → is_further_text column (10 ∷ r) ≡ false
unfolding is_break are_marks
not_past column r = grind arith

module _ (collection : Option ℕ) (header more : List ℕ) where
  -- a piece that goes on after its header with a TAB
  longer : (own q next : List ℕ) (r : BlockRead) → split own ≡ of_lines (header ∷ []) [] → block_read collection (own ++ 9 ∷ q) next ≡ Some r → ⊥
  unfolding is_break
  longer own q next r one is =
      let by : (complete : List (List ℕ)) (last : List ℕ) (ended : Bool) → read_lines collection (header ∷ (put_first 9 complete last).complete) ((put_first 9 complete last).last) next ended ≡ Some r → ⊥ = λ complete last ended e. grind arith in
      let lines : split (own ++ 9 ∷ q) ≡ lines_after (header ∷ []) (split (9 ∷ q)) = split_append own (9 ∷ q) (header ∷ []) one refl in
      by ((split q).complete) ((split q).last) (is_at_end next) (ap (λ z. read_lines collection z.complete z.last next (is_at_end next)) (sym lines) ∙ is)

  -- where all of a header's line stands before a text, no line is in it
  no_more : (l : List ℕ) (ls complete : List (List ℕ)) (last : List ℕ) → of_lines ((l ∷ ls) ++ complete) last ≡ of_lines (header ∷ []) [] → of_lines complete last ≡ of_lines [] []
  no_more l [] complete last e = grind arith
  no_more l (k ∷ ls) complete last e = absurd (let lines : l ∷ k ∷ (ls ++ complete) ≡ header ∷ [] = ap (λ z. z.complete) e in cc lines)

  -- a piece that ends before the header's break does
  shorter : (own : List ℕ) (d : ℕ) (q next : List ℕ) (r : BlockRead) → split (own ++ d ∷ q) ≡ of_lines (header ∷ []) [] → has_no_nul (d ∷ next) ≡ true → block_read collection own (d ∷ next) ≡ Some r → ⊥
  shorter own d q next r one clean is = by ((split own).complete) ((split own).last) (is_at_end (d ∷ next)) refl refl refl is
    where
      some : is_at_end (d ∷ next) ≡ true → ⊥
      some e = let none : d ∷ next ≡ [] = end_no_text (d ∷ next) clean e in cc none

      two : (l : List ℕ) (ls : List (List ℕ)) → split own ≡ of_lines (l ∷ ls) [] → (d == 10) ≡ false → ⊥
      two l ls e other =
          let none : d ∷ q ≡ [] = no_lines (d ∷ q) (no_more l ls (split (d ∷ q)).complete (split (d ∷ q)).last (sym (split_append own (d ∷ q) (l ∷ ls) e other) ∙ one)) in
          cc none

      by : (complete : List (List ℕ)) (last : List ℕ) (ended : Bool) → (split own).complete ≡ complete → (split own).last ≡ last → is_at_end (d ∷ next) ≡ ended → read_lines collection ((split own).complete) ((split own).last) (d ∷ next) (is_at_end (d ∷ next)) ≡ Some r → ⊥
      by (l ∷ ls) [] false e f g k =
          -- a block scalar that was read ends before the text after it
          let ended_body : (collection : Option ℕ) (h : Option Header) (b : Body) (next : List ℕ) (r : BlockRead) → read_body h collection b next ≡ Some r → (column : ℕ) × (is_past column next ≡ true) = λ collection h b next r e. grind arith in
          let read : read_body (header_of l) collection (body ls further_text) (d ∷ next) ≡ Some r = rw (e, f, g) at k in
          let past = ended_body collection (header_of l) (body ls further_text) (d ∷ next) r read in
          elim (cases_Bool (d == 10)) [
            | inl i ↦ let same : d ≡ 10 = eqb-true d 10 i in cc (past.1, g, ap (λ x. is_further_text past.0 (x ∷ next)) same, not_past past.0 next)
            | inr i ↦ two l ls (ap (λ x. of_lines x ((split own).last)) e ∙ ap (λ x. of_lines (l ∷ ls) x) f) i
          ]
      by complete last a e f g k = grind (arith, some)

  -- A block scalar that has this header, after which a TAB begins the next line, is the header alone.
  pub header_alone : (own piece next : List ℕ) (r : BlockRead) → piece ++ next ≡ own ++ 9 ∷ more → split own ≡ of_lines (header ∷ []) [] → has_no_nul next ≡ true → block_read collection piece next ≡ Some r → (piece ≡ own) × (next ≡ 9 ∷ more)
  header_alone own piece next r cut one clean is = elim (splits piece own next (9 ∷ more) cut) [
    | inl m ↦ before m.more m.longer m.rest
    | inr m ↦ behind m.more m.longer m.rest
  ]
    where
      before : (q : List ℕ) → own ≡ piece ++ q → next ≡ q ++ 9 ∷ more → (piece ≡ own) × (next ≡ 9 ∷ more)
      before [] e f = (sym (append-nil piece) ∙ sym e, f)
      before (d ∷ q) e f = grind (arith, nat_tests, shorter, more, split, one, clean, block_read, is, eqb-true)

      behind : (q : List ℕ) → piece ≡ own ++ q → 9 ∷ more ≡ q ++ next → (piece ≡ own) × (next ≡ 9 ∷ more)
      behind [] e f = (e ∙ append-nil own, sym f)
      behind (d ∷ q) e f =
          let same : 9 ≡ d = cc f in
          absurd (longer own q next r one (ap (λ x. block_read collection x next) (ap (λ x. own ++ x ∷ q) same ∙ sym e) ∙ is))

  -- It may not end there.
  tab_follows : (own piece next : List ℕ) (bs : List ℕ) (r : BlockRead) → piece ++ next ≡ own ++ 9 ∷ more → split own ≡ of_lines (header ∷ []) [] → has_no_nul next ≡ true → block_read collection piece next ≡ Some r → block_may_end bs piece next ≡ false
  unfolding is_nul
  tab_follows own piece next bs r cut one clean is = grind (arith, nat_tests, header_alone, eqb-true, (refl))

unbroken : (style : BlockStyle) → is_break (indicator_of style) ≡ false
unfolding is_break
unbroken style = grind arith

-- a text whose first line is a header begins with its indicator
pub first_char : (own header : List ℕ) (h : Header) → up_to_break own ≡ header → header_of header ≡ Some h → (style : BlockStyle) × (p : List ℕ) × (own ≡ indicator_of style ∷ p)
first_char [] header h e is = absurd (cc (is, ap header_of (sym e)))
first_char (d ∷ p) header h e is = elim (cases_Bool (d == 124)) [
  | inl f ↦ (literal, p, ap (λ z. z ∷ p) (eqb-true d 124 f))
  | inr f ↦ elim (cases_Bool (d == 62)) [ inl g ↦ (folded, p, ap (λ z. z ∷ p) (eqb-true d 62 g)) | inr g ↦ absurd (grind arith) ]
]

-- a quote begins a text that is refused for a line
pub begins_lines : (least : ℕ) (here : Position) (rest : List ℕ) (single : Bool) (why : Problem) (at : Position) → IsQuotedFault single least here rest why at → (more : List ℕ) × (rest ≡ quote_of single ∷ more)
begins_lines least here rest a why b d = grind (arith, nat_tests, tab, eqb-true)

module _ {a : Account} {separation rest : List ℕ} {here : Position} (s : StepAt a separation rest here) where
  name_goes_on : (name more : List ℕ) → is_name name ≡ true → name ++ s.next ≡ more → goes_on_with_name more ≡ true
  name_goes_on a more h e = grind (arith, all_of)

  block_here : (style : BlockStyle) (more : List ℕ) → is_in_flow a.entries ≡ false → rest ≡ indicator_of style ∷ more → Here s block_scalar
  unfolding is_blank_or_end is_blank is_break is_nul is_flow
  block_here style more out e =
      let block_kind : (style : BlockStyle) (fl adjacent : Bool) (column : ℕ) → fl ≡ false → kind_at fl adjacent column (indicator_of style ∷ more) ≡ block_scalar = λ a fl adjacent column h. grind (arith, nat_tests, eqb-true) in
      subst (Here s) (block_kind style (pieces.is_in_flow (acct s)) (is_adjacent (acct s).before) (acct s).position.col (flow_is s ∙ out)) (whole_by s (indicator_of style) more e)

  quoted_here : (single : Bool) (more : List ℕ) → rest ≡ quote_of single ∷ more → Here s (if single then in_single_quotes else in_double_quotes)
  unfolding is_blank_or_end is_blank is_break is_nul is_flow
  quoted_here true more e = whole_by s 39 more e
  quoted_here false more e = whole_by s 34 more e

  -- No piece begins with the text but the row's.
  pub no_piece_stands : (why : Problem) (at : Position) → NoPiece (is_in_flow a.entries) here rest why at → ⊥
  unfolding is_blank_or_end is_blank is_break is_nul is_flow
  no_piece_stands why at (none.at_sign more e) = whole_by s 64 more e
  no_piece_stands why at (none.backtick more e) = whole_by s 96 more e
  no_piece_stands why at (none.percent more e other) =
      let is_line : (d : Directive) → is_marker (act_of (directive_token d)) ≡ true = λ a. grind arith in
      let line : Here s directive_line = whole_by s 37 more e in
      let begins = marker_begins (acct s) s.step.piece s.next None (spot s) s.step.shown (is_piece s) (ap (λ t. is_marker (act_of t)) line.4 ∙ is_line line.0) in
      cc (other, ap (λ (p : Position). p.col == 0) (sym s.position_is) ∙ (and_parts ((acct s).position.col == 0) _ begins).0)
  no_piece_stands why at (none.nameless true more e lacks) = let named : Here s alias_name = whole_by s 42 more e in cc (lacks, name_goes_on named.0 more named.1.1 (rest_of s 42 named.0 more named.1.0 e))
  no_piece_stands why at (none.nameless false more e lacks) = let named : Here s anchor_name = whole_by s 38 more e in cc (lacks, name_goes_on named.0 more named.1.1 (rest_of s 38 named.0 more named.1.0 e))
  no_piece_stands why at (none.tagless more _ e reason) =
      let w : Here s tag_text = whole_by s 33 more e in
      let first = mark_is_first s.step.piece w.0 w.1 in
      let left : first.0 ++ s.next ≡ more = rest_of s 33 first.0 more first.1 e in
      let follows : may_follow (is_in_flow a.entries) s.next ≡ true = ap (λ b. is_at_gap s.next || (b && begins_flow s.next)) (sym (flow_is s)) ∙ w.2 in
      let reads = tags_are_read (is_in_flow a.entries) first.0 s.next w.0.handle w.0.suffix here (ap written_tag (sym first.1) ∙ w.1) follows in
      let fails = refusal_fails (is_in_flow a.entries) more why here reason in
      cc (reads, fails, ap (λ r. tag (is_in_flow a.entries) (33 ∷ r) here) left)
  no_piece_stands why at (none.unquoted true more _ e lacks n) = let w = quoted_here true more e in lacks s.step.piece s.next (sym s.text_is) (w.0, w.1)
  no_piece_stands why at (none.unquoted false more _ e lacks n) = let w = quoted_here false more e in lacks s.step.piece s.next (sym s.text_is) (w.0, w.1)
  no_piece_stands why at (none.headless style line after _ _ out e inner ends lacks n) =
      let w : Here s block_scalar = block_here style (line ++ after) out e in
      let clean : has_no_nul s.next ≡ true = no_nul_after s.step.piece s.next (ap has_no_nul s.text_is ∙ s.is_clean) in
      let own : up_to_break s.step.piece ≡ indicator_of style ∷ line = rw (← piece_line (pieces.collection_column (acct s)) s.step.piece s.next w.0 clean w.1, s.text_is ∙ e, unbroken style, first_of line after inner ends) refl in
      has_header (pieces.collection_column (acct s)) ((split s.step.piece).complete) ((split s.step.piece).last) s.next (is_at_end s.next) w.0 w.1 (ap header_of (line_is s.step.piece ∙ own) ∙ lacks)
  no_piece_stands why at (none.undirected line after _ _ col e one ends lacks n) =
      let no_nul_more : (r : List ℕ) → has_no_nul (37 ∷ r) ≡ true → has_no_nul r ≡ true = λ r h. (and_parts (not (is_nul 37)) (has_no_nul r) h).1 in
      let w : Here s directive_line = whole_by s 37 (line ++ after) e in
      let first = directive_begins s.step.piece w.0 w.1 in
      let left : first.0 ++ s.next ≡ line ++ after = rest_of s 37 first.0 (line ++ after) first.1 e in
      let clean : has_no_nul (first.0 ++ s.next) ≡ true = ap has_no_nul left ∙ no_nul_more (line ++ after) (sym (ap has_no_nul e) ∙ s.is_clean) in
      let same : first.0 ≡ line = one_line first.0 s.next line after left ((and_parts (not (is_break 37)) (has_no_break first.0) (sym (ap has_no_break first.1) ∙ w.2)).1) (grind (arith, (no_nul_after first.0 s.next clean))) one ends in
      cc (lacks, ap (λ r. directive_of (37 ∷ r)) (sym same), ap directive_of (sym first.1), w.1)

  -- The row's block scalar may stand before what follows it.
  pub no_block_stands : is_in_flow a.entries ≡ false → (why : Problem) (at : Position) → IsBlockFault (site_at_place a here).blocks here rest why at → ⊥
  no_block_stands out why at (none.by_column piece header more lines b cut is further lines_are empty deep left) =
      let bs : List ℕ = (site_at_place a here).blocks in
      let w : Here s block_scalar = here_by s block_scalar (innermost bs) piece more (block_token b.style b.text) cut (b, is, flow_is s ∙ out, refl) in
      let same = blocks (innermost bs) piece s.step.piece more s.next (b, is, ap has_no_nul (sym cut) ∙ s.is_clean) (w.0, block_there s w, ap has_no_nul s.text_is ∙ s.is_clean) (sym cut ∙ sym s.text_is) in
      let may_not : block_may_end bs piece more ≡ false = grind (arith, nat_tests, eqb-true, and_false) in
      no_block_end s w (ap (λ p. block_may_end bs p s.next) (sym same.0) ∙ (ap (λ n. block_may_end bs piece n) (sym same.1) ∙ may_not))
  -- a TAB begins the line after the header
  no_block_stands out why at (none.by_tab own header more h e one is) =
      let first = first_char own header h (sym (line_is own) ∙ ap (λ z. first_line z.complete z.last) one) is in
      let w : Here s block_scalar = block_here first.0 (first.1 ++ 9 ∷ more) out (e ∙ ap (λ p. p ++ 9 ∷ more) first.2) in
      let clean : has_no_nul s.next ≡ true = no_nul_after s.step.piece s.next (ap has_no_nul s.text_is ∙ s.is_clean) in
      no_block_end s w (tab_follows (pieces.collection_column (acct s)) header more own s.step.piece s.next (site_at_place a here).blocks w.0 (s.text_is ∙ e) one clean w.1)

  -- the further lines of the row's quoted scalar are indented
  pub lines_stand : (single : Bool) (why : Problem) (at : Position) → AreNotIndented single (least_column (site_at_place a here).blocks (site_at_place a here).awaits) rest
      → IsQuotedFault single (least_column (site_at_place a here).blocks (site_at_place a here).awaits) here rest why at → ⊥
  lines_stand true why at lacks n = let b = begins_lines _ here rest true why at n in let w = quoted_here true b.0 b.1 in cc ((node_stands s (scalar single_quoted w.0) w.2 refl).1, lacks s.step.piece s.next (sym s.text_is) (w.0, w.1))
  lines_stand false why at lacks n = let b = begins_lines _ here rest false why at n in let w = quoted_here false b.0 b.1 in cc ((node_stands s (scalar double_quoted w.0) w.2 refl).1, lacks s.step.piece s.next (sym s.text_is) (w.0, w.1))
