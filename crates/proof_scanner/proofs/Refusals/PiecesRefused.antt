-- Where a piece may not stand at its column, or before what follows it, no row of the text goes on.
use Rattle.proof_scanner.proofs.Common.{block_token, dots, in_double_quotes, in_single_quotes, [], IsFollowed, MayNotStand, Problem, TabInBlockIndentation, Account, act_of, and_parts, ap, arith, begins_document_at, begins_entry, begins_separation, begins_with, begins_with_alpha, block_entry, block_may_end, block_read, BlockStyle, Bool, colon_may_precede, dash_may_precede, document_end, double_quoted, Entry, eqb-true, false, GoesOn, has, has_no_nul, if◌then◌else◌, innermost, is_alpha, is_at_gap, is_blank, is_blank_or_end, is_blanks, is_break, is_decimal_digit, is_empty, is_in_flow, is_letter, is_marker, is_nul, is_one_of, is_separation, IsPiece, IsQuoted, leading, least_column, least_for, level_of, List, may_precede, nat_le, nat_lt, nat_tests, None, not, Option, or_left, Position, position_after, quoted_may_end, refl, same_flow, scalar, seen, shown_position, single_quoted, Site, site_at_place, Some, Step, sym, Tok, true, value, ℕ, ◌++◌, ◌||◌, ◌∙◌, ◌∷◌, ◌≡◌, ◌≤◌, context_of, dash, flow_mapping_start, flow_sequence_start, inl, inr, is_adjacent, is_flow, kind_at, length, LikeEntries, mapping_opening, not_empty, sequence_opening, subst, suc, Whole, ◌==◌, ◌⊎◌, dash_marks, directive_begins, directive_of, dot_marks, Kind, or_true, piece_of, texts_begin, account_past, awaits_past, before_by, before_past, begins_free_line, begins_white_space, begins_with_space_or_break, colon, comma, entries_past, flow_entry, flow_mapping_end, flow_sequence_end, further_lines_stand, gives_colon, gives_dash, gives_node, gives_question, has_tab_before_piece, is_deep_enough, is_indented_by_spaces, is_near, is_renewed, is_taken, is_taken_line, is_value_here, is_value_indicator, Line, line_past_separation, mapping_closing, may_stand, on_one_line, past_inside, past_piece, previous_by, question, quoted_scalar, sequence_closing, site_past, takes_pair, waits, neither, length-map}
use Rattle.proof_scanner.proofs.Refusals.AfterQuoted.{not_done, unglued}
use Rattle.proof_scanner.proofs.Refusals.Common.{after_blanks, blanks_alone, made, same_innermost, waited, block_scalar, At}
use Rattle.proof_row.proofs.Begins.{kind_there}
use Rattle.proof_row.proofs.Pieces.{one_of}
use Rattle.proof_scanner.proofs.Refusals.OtherRows.{StepAt, IsClearAfter, Stood, stood}
use Rattle.proof_lexers.specs.PlainEnds.{has_break}
use Rattle.defs_token.specs.Account as pieces
use Rattle.proof_row.proofs.Written as written
use Rattle.proof_scanner.specs.NoPiece as none
use Rattle.proof_scanner.specs.Failing as failing
use Rattle.defs_token.specs.FlowEntry as entry

-- ---- the text at a piece says what piece it is; one that stands for the document begins in column 0

pub marker_begins : (a : pieces.Account) (p x : List ℕ) (f : Option Tok) (m : Position) (t : Tok) → IsPiece a p x f m t → is_marker (act_of t) ≡ true → begins_document_at a.position (p ++ x) ≡ true
marker_begins a p x f m t h k =
    grind (arith, nat_tests, eqb-true, directive_of, begins_with, directive_begins, or_true, dash_marks, dot_marks)

-- entries that are alike are as many
pub many_alike : (ds es : List Entry) → LikeEntries ds es → length ds ≡ length es
many_alike (d ∷ ds) (e ∷ es) h = ap suc (many_alike ds es h.1)
many_alike a b h = grind arith

pub among : (c : ℕ) (l : List ℕ) → is_one_of l c ≡ has c l
among c [] = refl
among c (d ∷ l) = grind (arith, nat_tests, among c l)

leading_blanks : (s : List ℕ) (d : ℕ) (r : List ℕ) → is_blanks s ≡ true → is_blank d ≡ false → leading is_blank (s ++ d ∷ r) ≡ s
leading_blanks [] d r b f = rw f refl
leading_blanks (c ∷ s) d r b f = grind (arith, leading_blanks s d r)

-- a colon may not stand before TABs alone and a letter
pub no_colon_before : (more passed content : List ℕ) → begins_with 9 more ≡ true → GoesOn more passed content → has 32 passed ≡ false → begins_with_alpha content ≡ true → colon_may_precede more ≡ false
unfolding is_blank is_break is_nul is_alpha is_decimal_digit is_letter
no_colon_before more passed a tab_there on lacks letter = grind (arith, nat_tests, eqb-true, blanks_alone, after_blanks, leading_blanks, among)

pub tab_gap : (more : List ℕ) → begins_with 9 more ≡ true → is_at_gap more ≡ true
unfolding is_blank_or_end is_blank is_break is_nul
tab_gap a h = grind arith

no_tab_before : (more passed content : List ℕ) → GoesOn more passed content → has 9 passed ≡ true → begins_entry content ≡ true → dash_may_precede more ≡ false
unfolding is_blank is_break is_nul
no_tab_before more passed a on tab_there begins = grind (arith, nat_tests, eqb-true, and_parts, blanks_alone, after_blanks, leading_blanks, among)

-- ---- the site after a part of a node

pub node_site_past : (a : Account) (w : Step) (next : List ℕ) (b : Account) → act_of w.shown ≡ gives_node → account_past a w next ≡ Some b → b.site ≡ site_past (is_in_flow a.entries) (At a w next) w.piece w.shown next (At a w next).blocks
node_site_past a w next b act e = grind (arith, act, (made a.site a.line a.entries w next b e))

-- ---- lines and accounts

-- on such a line no entry and no `?` begins
none_begins : (x : Site) (piece : List ℕ) (t : Tok) (next : List ℕ) (again is_key : Bool) (o : Option Line) → (act_of t ≡ gives_dash) ⊎ (act_of t ≡ gives_question) → is_taken_line o ≡ true → past_piece x piece t next again is_key o [] ≡ None
none_begins x piece t a again b d is h = grind arith

-- a colon on a line that is taken ends a key that waits, if that is near
none_ends : (x : Site) (piece : List ℕ) (t : Tok) (next : List ℕ) (again is_key : Bool) (o : Option Line) → act_of t ≡ gives_colon → is_taken_line o ≡ true → ((q : Position) → o ≡ Some (waits q) → is_near q x.position ≡ true → ⊥) → past_piece x piece t next again is_key o [] ≡ None
none_ends x piece t a again b d is h e = grind arith

-- ---- TABs after `?`

tabbed : (in_comment : Bool) (passed content : List ℕ) → is_separation in_comment passed (9 ∷ content) ≡ true → has_tab_before_piece in_comment (passed ++ 9 ∷ content) ≡ true
unfolding is_blank is_break is_nul
tabbed a [] content h = grind arith
tabbed true (c ∷ r) content h = tabbed (not (is_break c)) r content h
tabbed false (c ∷ r) content h = grind (arith, tabbed (c == 35) r content)

-- a line that goes on without a space, and then with no space, break or comment, begins with none of these
no_space_gap : (passed content : List ℕ) → has_break passed ≡ false → begins_with 32 (passed ++ content) ≡ false → begins_white_space content ≡ false → begins_with_space_or_break (passed ++ content) ≡ false
no_space_gap [] content line none ends = grind arith
no_space_gap (c ∷ p) content line none ends = grind arith

-- what is to be said of a TAB after a quoted scalar
abbrev pub OfQuoted : {a : Account} {separation rest : List ℕ} {here : Position} → StepAt a separation rest here → (T : Problem → Position → Type 0) → Type 0
OfQuoted {a} {separation} {rest} {here} s T =
    (single : Bool) (piece gap content : List ℕ) → rest ≡ piece ++ (gap ++ content) → IsQuoted single piece (gap ++ content) → is_separation false gap content ≡ true → is_empty content ≡ false → begins_separation content ≡ false
    → is_indented_by_spaces quoted_scalar (site_at_place a here).blocks (site_at_place a here).awaits gap ≡ false → T TabInBlockIndentation (position_after (position_after here piece (gap ++ content)) gap content)

module _ {a : Account} {separation rest : List ℕ} {here : Position} (s : StepAt a separation rest here) where
  -- the account with which the piece is looked at
  abbrev pub acct : pieces.Account
  acct = seen s.account (written.At s.account s.step s.next) s.step.separation

  abbrev pub spot : Position
  spot = shown_position (written.At s.account s.step s.next) s.step.piece s.step.shown s.next

  pub is_piece : IsPiece acct s.step.piece s.next None spot s.step.shown
  is_piece = s.is_written.1.1

  -- the row's piece is whole as one of a kind
  abbrev pub Here : Kind → Type 0
  Here k = Whole k (context_of acct) s.step.piece s.next s.step.shown

  -- the text says the piece's kind
  abbrev KindOf : List ℕ → Type 0
  KindOf r = Here (kind_at (pieces.is_in_flow acct) (is_adjacent acct.before) acct.position.col r)

  pub whole_at : KindOf rest
  whole_at = grind (arith, nat_tests, eqb-true, not_empty, texts_begin, acct, spot, is_piece, piece_of)

  -- so does its first character
  pub whole_by : (c : ℕ) (more : List ℕ) → rest ≡ c ∷ more → KindOf (c ∷ more)
  whole_by c more e = subst KindOf e whole_at

  -- so does a piece of a kind that begins here; of the block collections none matters
  pub here_by : (k : Kind) (collection : Option ℕ) (piece more : List ℕ) (t : Tok) → rest ≡ piece ++ more → Whole k (record (context_of acct) { collection = collection }) piece more t → Here k
  here_by k collection piece more t e w = subst Here (kind_there k (record (context_of acct) { collection = collection }) piece more t w) (rw e at whole_at)

  -- the row's piece is this one
  same_step : (k : Kind) (piece more : List ℕ) (t : Tok) → rest ≡ piece ++ more → Whole k (context_of acct) piece more t → (piece ≡ s.step.piece) × (more ≡ s.next) × (t ≡ s.step.shown)
  same_step k piece more t e w = one_of k (context_of acct) piece s.step.piece more s.next t s.step.shown w (here_by k (context_of acct).collection piece more t e w) (sym e ∙ sym s.text_is) (ap has_no_nul (sym e) ∙ s.is_clean)

  -- what the row's step says of its piece
  pub here_stood : Stood s.account s.step s.next
  here_stood = stood s.account s.step s.next s.past s.is_past

  -- The piece that begins here may not stand before what follows it.
  no_step : (k : Kind) (piece more : List ℕ) (t : Tok) → rest ≡ piece ++ more → Whole k (context_of acct) piece more t → may_precede (is_in_flow a.entries) (At s.account s.step s.next).blocks t piece more ≡ false → ⊥
  no_step k piece more t e w no_more =
      let same = same_step k piece more t e w in
      cc (same.0, same.1, same.2, here_stood.precedes, same_flow a.entries s.account.entries s.is_like.2, no_more)

  pub rest_of : (c : ℕ) (name more : List ℕ) → s.step.piece ≡ c ∷ name → rest ≡ c ∷ more → name ++ s.next ≡ more
  rest_of c name more p e = let both : c ∷ (name ++ s.next) ≡ c ∷ more = ap (λ z. z ++ s.next) (sym p) ∙ (s.text_is ∙ e) in cc both

  -- the site of the row's piece
  abbrev there : Site
  there = At s.account s.step s.next

  -- the site of a piece here that is not for the document
  pub node_site : is_marker (act_of s.step.shown) ≡ false → there ≡ site_at_place a here
  node_site is = grind arith

  -- A part of a node lies deep enough, and its further lines are indented.
  pub node_stands : (t : Tok) → s.step.shown ≡ t → act_of t ≡ gives_node
      → (is_deep_enough (is_in_flow a.entries) t (site_at_place a here) ≡ true) × (further_lines_stand (least_for t (site_at_place a here)) t s.step.piece ≡ true)
  node_stands t is node = grind (arith, nat_tests, eqb-true, node_site, same_flow, here_stood)

  -- no TAB indents the line of the row's piece
  pub spaces_indent : is_indented_by_spaces s.account.site.before s.account.site.blocks s.account.site.awaits separation ≡ true
  spaces_indent = rw (← s.separation_is) here_stood.spaced

  -- the row goes on after its piece
  goes_on : (es : List Entry) → s.account.entries ≡ es
      → past_piece there s.step.piece s.step.shown s.next (is_renewed s.account.site.before s.step.separation) s.step.key (line_past_separation (is_in_flow es) (begins_free_line s.account.site.before s.step.separation) s.account.line) es ≡ None → ⊥
  goes_on es i e =
      let gone : (b : Bool) (x : Option Account) → x ≡ None → (if b then on_one_line s.step.piece x else None) ≡ Some s.past → ⊥ = λ b x e k. grind arith in
      gone (may_stand (is_in_flow s.account.entries) s.account.site there s.step.separation s.step.piece s.step.shown s.next) _
      (ap (λ es. past_piece there s.step.piece s.step.shown s.next (is_renewed s.account.site.before s.step.separation) s.step.key (line_past_separation (is_in_flow es) (begins_free_line s.account.site.before s.step.separation) s.account.line) es) i ∙ e) s.is_past

  -- ---- scalars

  -- The row's piece is the quoted scalar that begins here.
  pub record IsQuotedHere (piece more : List ℕ) : Type 0 where
    pub piece_is : piece ≡ s.step.piece
    pub next_is : more ≡ s.next
    pub act_is : act_of s.step.shown ≡ gives_node
    before_is : previous_by s.step.shown ≡ quoted_scalar
    awaits_is : awaits_past (is_in_flow s.account.entries) s.step.shown there.blocks there.awaits s.next ≡ there.awaits
    may_end : quoted_may_end (is_in_flow a.entries) piece more ≡ true

  pub quoted_here : (single : Bool) (piece more : List ℕ) → rest ≡ piece ++ more → IsQuoted single piece more → IsQuotedHere piece more
  quoted_here true piece more e is = let same = same_step in_single_quotes piece more (scalar single_quoted is.0) e (is.0, is.1, refl) in grind (arith, same, same_flow, here_stood)
  quoted_here false piece more e is = let same = same_step in_double_quotes piece more (scalar double_quoted is.0) e (is.0, is.1, refl) in grind (arith, same, same_flow, here_stood)

  pub flow_is : pieces.is_in_flow acct ≡ is_in_flow a.entries
  flow_is = (grind arith) ∙ sym (same_flow a.entries s.account.entries s.is_like.2)

  -- the site of a block scalar here
  block_site : Here block_scalar → there ≡ site_at_place a here
  block_site w =
      let no_marker : (style : BlockStyle) (text : List ℕ) → is_marker (act_of (block_token style text)) ≡ false = λ style a. grind arith in
      node_site (ap (λ t. is_marker (act_of t)) w.3 ∙ no_marker w.0.style w.0.text)

  pub block_there : (w : Here block_scalar) → block_read (innermost (site_at_place a here).blocks) s.step.piece s.next ≡ Some w.0
  block_there w = ap (λ o. block_read o s.step.piece s.next) (sym (same_innermost there.blocks ∙ ap (λ (x : Site). innermost x.blocks) (block_site w))) ∙ w.1

  -- It may stand before what follows it.
  pub no_block_end : Here block_scalar → block_may_end (site_at_place a here).blocks s.step.piece s.next ≡ false → ⊥
  no_block_end w no_more =
      let same_end : (style : BlockStyle) (text : List ℕ) → may_precede (is_in_flow s.account.entries) there.blocks (block_token style text) s.step.piece s.next ≡ block_may_end there.blocks s.step.piece s.next = λ style a. grind arith in
      cc (here_stood.precedes, ap (λ t. may_precede (is_in_flow s.account.entries) there.blocks t s.step.piece s.next) w.3, same_end w.0.style w.0.text, ap (λ (x : Site). block_may_end x.blocks s.step.piece s.next) (block_site w), no_more)

  -- ---- kinds

  dash_here : (more : List ℕ) → rest ≡ 45 ∷ more → is_at_gap more ≡ true → block_entry ≡ s.step.shown
  dash_here more e gap = (same_step dash (45 ∷ []) more block_entry e (refl, gap, refl)).2

  question_here : (more : List ℕ) → rest ≡ 63 ∷ more → is_at_gap more ≡ true → Here question
  unfolding is_blank_or_end is_blank is_break is_nul is_flow
  question_here more e gap = rw gap at (whole_by 63 more e)

  colon_here : (more : List ℕ) → rest ≡ 58 ∷ more → is_value_here a separation more ≡ true → value ≡ s.step.shown
  colon_here more e is =
      let adjacent_is : is_adjacent acct.before ≡ is_adjacent (before_past (before_by a.site.before) separation) = ap (λ f. is_adjacent (before_past (before_by s.account.site.before) f)) s.separation_is ∙ ap (λ (x : Site). is_adjacent (before_past (before_by x.before) separation)) (sym s.is_like.0) in
      (same_step colon (58 ∷ []) more value e (refl, ap (λ b. is_value_indicator b (is_adjacent acct.before) more) flow_is ∙ (ap (λ b. is_value_indicator (is_in_flow a.entries) b more) adjacent_is ∙ is), refl)).2

  -- ---- lines that are taken

  no_entries : is_in_flow a.entries ≡ false → s.account.entries ≡ []
  no_entries out = grind arith

  none_on_line : is_in_flow a.entries ≡ false → is_taken a separation ≡ true → (act_of s.step.shown ≡ gives_dash) ⊎ (act_of s.step.shown ≡ gives_question) → ⊥
  none_on_line out line is = goes_on [] (no_entries out) (none_begins there s.step.piece s.step.shown s.next _ s.step.key _ is (grind (arith, line)))

  -- no colon stands on a line that is taken, where no key waits for it
  pub no_colon_here : (more : List ℕ) → rest ≡ 58 ∷ more → is_value_here a separation more ≡ true → is_in_flow a.entries ≡ false → is_taken a separation ≡ true
      → ((q : Position) → s.account.line ≡ waits q → begins_free_line s.account.site.before separation ≡ false → is_near q here ≡ true → ⊥) → ⊥
  no_colon_here more e is out line none =
      goes_on [] (no_entries out) (none_ends there s.step.piece s.step.shown s.next _ s.step.key _ (ap act_of (sym (colon_here more e is))) (grind (arith, line)) (λ q i near.
      let was = waited false (begins_free_line s.account.site.before s.step.separation) s.account.line (waits q) q i refl in
      none q was.0 (rw (sym s.separation_is) was.1) (rw (sym s.position_is) near)))

  -- ---- what follows a piece

  -- what stands after a piece of one character
  after_one : (c : ℕ) (more : List ℕ) → rest ≡ c ∷ more → s.step.piece ≡ c ∷ [] → s.next ≡ more
  after_one c more e p = rest_of c [] more p e

  -- The row's piece stands before what may follow it.
  pub not_followed : (why : Problem) (at : Position) → IsFollowed (is_in_flow a.entries) here rest why at → ⊥
  unfolding is_blank_or_end is_blank is_break is_nul is_flow
  not_followed why at (none.glued c more e is hash) =
      let by : (d : ℕ) (k : Kind) (t : Tok) → Whole k (context_of acct) (d ∷ []) more t → may_precede (is_in_flow a.entries) there.blocks t (d ∷ []) more ≡ false → rest ≡ d ∷ more → ⊥ = λ d k t w h f. no_step k (d ∷ []) more t f w h in
      let fails : not (begins_with 35 more) ≡ false = ap not hash in
      grind (
        arith,
        nat_tests,
        eqb-true,
        by 91 sequence_opening flow_sequence_start (refl, refl) fails,
        by 93 sequence_closing flow_sequence_end (refl, refl) fails,
        by 123 mapping_opening flow_mapping_start (refl, refl) fails,
        by 125 mapping_closing flow_mapping_end (refl, refl) fails,
        by 44 comma flow_entry (refl, refl) fails,
      )
  not_followed why at (none.glued_to_quoted single piece more e is hash) = let q = quoted_here single piece more e is in absurd (grind (arith, q.may_end, unglued))
  not_followed why at (none.after_quoted single piece more passed content e is ends on solid) = cc ((quoted_here single piece more e is).may_end, ends)
  not_followed why at (none.after_end more passed content col e gap on ends solid) =
      no_step dots (46 ∷ 46 ∷ 46 ∷ []) more document_end e ((refl, ap (λ (p : Position). p.col) s.position_is ∙ col, gap), refl) (grind (arith, nat_tests, eqb-true, neither, not_done, blanks_alone))
  not_followed why at (none.tab_after_dash more passed content out e gap on tab_there begins) = no_step dash (45 ∷ []) more block_entry e (refl, gap, refl) (no_tab_before more passed content on tab_there begins)
  not_followed why at (none.no_space more passed content e gap on none ends) = grind (arith, nat_tests, eqb-true, question_here, no_space_gap, after_one)
  not_followed why at (none.tab_after_question more passed content e gap cut fills) = grind (arith, nat_tests, eqb-true, question_here, here_stood, after_one, tabbed)
  not_followed why at (none.tab_after_colon more passed content e tab_there on lacks letter) =
      no_step colon (58 ∷ []) more value e (refl, or_left (is_at_gap more) _ (tab_gap more tab_there), refl) (no_colon_before more passed content tab_there on lacks letter)

  -- ---- where a piece stands

  too_shallow : (t : Tok) (x : Site) → is_marker (act_of t) ≡ false → nat_le (least_column x.blocks x.awaits) x.position.col ≡ false → (is_marker (act_of t) || nat_le (least_for t x) x.position.col) ≡ false
  too_shallow t x e f = grind (arith, nat_tests, eqb-true, least_column, least_for, nat_le)

  no_room : 255 ≤ length a.entries → nat_lt (length acct.levels) 255 ≡ true → ⊥
  no_room many room = grind (arith, nat_tests, many, room, (length-map s.account.entries level_of ∙ sym (many_alike a.entries s.account.entries s.is_like.2)))

  -- The row's piece stands where it may, but for a TAB after a quoted scalar.
  pub stands_nowhere : (T : Problem → Position → Type 0) → OfQuoted s T → (why : Problem) (at : Position) → MayNotStand a separation here rest why at → T why at
  unfolding is_blank_or_end is_blank is_break is_nul is_flow
  stands_nowhere T quoted why at (failing.shallow inside none left) = absurd (grind (arith, nat_tests, eqb-true, here_stood, same_flow, too_shallow, marker_begins))
  stands_nowhere T quoted why at (failing.too_deep c more e (inl is) many) =
      let own : Here sequence_opening = whole_by 91 more (e ∙ ap (λ x. x ∷ more) is) in
      let piece : IsPiece acct s.step.piece s.next None spot flow_sequence_start = subst (λ t. IsPiece acct s.step.piece s.next None spot t) own.1 is_piece in
      absurd (no_room many piece.0.1)
  stands_nowhere T quoted why at (failing.too_deep c more e (inr is) many) =
      let by : IsPiece acct s.step.piece s.next None spot flow_mapping_start → ⊥ = λ a. grind (arith, nat_tests, no_room, many, not_empty, eqb-true) in
      let own : Here mapping_opening = whole_by 123 more (e ∙ ap (λ x. x ∷ more) is) in
      absurd (by (subst (λ t. IsPiece acct s.step.piece s.next None spot t) own.1 is_piece))
  stands_nowhere T quoted why at (failing.dash_in_flow more e gap inside) =
      let piece : IsPiece acct s.step.piece s.next None spot block_entry = subst (λ t. IsPiece acct s.step.piece s.next None spot t) (sym (dash_here more e gap)) is_piece in
      absurd (grind arith)
  stands_nowhere T quoted why at (failing.dash_not_free more e gap out line) = absurd (none_on_line out line (inl (ap act_of (sym (dash_here more e gap)))))
  stands_nowhere T quoted why at (failing.question_not_free more e gap out line) = absurd (none_on_line out line (inr (ap act_of (question_here more e gap).2)))
  stands_nowhere T quoted why at (failing.tab_indents tab) = absurd (cc (tab, ap (λ (x : Site). is_indented_by_spaces x.before x.blocks x.awaits separation) s.is_like.0, spaces_indent))
  stands_nowhere T quoted why at (failing.tab_after_quoted single piece gap content e is fills some solid tab) = quoted single piece gap content e is fills some solid tab
  stands_nowhere T quoted why at (failing.key_on_earlier_line more begin e es cut is are takes had late) = absurd (by s.account.entries refl (rw (sym are) s.is_like.2))
    where
      by : (fs : List Entry) → s.account.entries ≡ fs → LikeEntries (e ∷ es) fs → ⊥
      by [] i like = like
      by (d ∷ ds) i like =
          let single : takes_pair d.kind d.pair ≡ true = ap (λ k. takes_pair k d.pair) (sym like.0.0) ∙ (ap (λ p. takes_pair e.kind p) (sym like.0.1) ∙ takes) in
          let none_past : (o : Option Line) → past_piece there s.step.piece s.step.shown s.next (is_renewed s.account.site.before s.step.separation) s.step.key o (d ∷ ds) ≡ None = λ o. grind (arith, nat_tests, eqb-true, past_inside, there, s.next, entries_past, is_renewed, act_of, entry.begun_by, ds, colon_here, more, cut, is, entry.with_had, entry.pair_past, takes_pair, gives_colon, entry.had_after, entry.renewed, single, begin, had, like, late) in
          goes_on (d ∷ ds) i (none_past _)

  -- ---- TABs after a quoted scalar

  pub no_tab_after_quoted : (single : Bool) (piece gap content : List ℕ) → rest ≡ piece ++ (gap ++ content) → IsQuoted single piece (gap ++ content) → is_separation false gap content ≡ true → is_empty content ≡ false → begins_separation content ≡ false
      → is_indented_by_spaces quoted_scalar (site_at_place a here).blocks (site_at_place a here).awaits gap ≡ false → IsClearAfter s → ⊥
  no_tab_after_quoted single piece gap content e is fills some solid tabbed_there clear =
      let q = quoted_here single piece (gap ++ content) e is in
      let past_is = node_site_past s.account s.step s.next s.past q.act_is s.is_past in
      let site_is = node_site (ap is_marker q.act_is) in
      let tabbed_then : is_indented_by_spaces s.past.site.before s.past.site.blocks s.past.site.awaits gap ≡ false =
      rw (ap (λ (x : Site). x.before) past_is ∙ q.before_is, ap (λ (x : Site). x.blocks) past_is ∙ ap (λ (x : Site). x.blocks) site_is, ap (λ (x : Site). x.awaits) past_is ∙ (q.awaits_is ∙ ap (λ (x : Site). x.awaits) site_is)) tabbed_there in
      cc (clear gap content (sym q.next_is) fills solid some, tabbed_then)
