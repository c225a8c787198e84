-- Of two reasons at one place that both come first, kind and position are the same.
use Rattle.proof_scanner.proofs.Common.{BlockScalarZero, BlockScalarHeader, [], no_nul_after, separations, inl, inr, Account, alias_name, ap, are_marks, arith, At, begins_flow, begins_with, block_begins, BlockStyle, Bool, colon, colon_may_precede, comes_first, dash, dashes, directive_line, dots, eqb-true, Fails, FailsFirst, false, first_line, folded, followed_first, has_no_break, has_no_nul, if◌then◌else◌, in_double_quotes, in_single_quotes, indicator_of, innermost, is_at_gap, is_blank, is_blank_or_end, is_break, is_flow, is_flow_indicator, is_full, is_in_flow, is_nul, is_value_here, IsBlockFault, IsDirectiveRefusal, IsFollowed, IsLike, IsLookedAt, IsPlainFault, IsTagRefusal, Kind, least_column, least_here, line_is, List, literal, MayNotStand, nat_tests, no_piece_first, NoPiece, opens, plain_first, Position, Problem, question, refl, stands_first, subst, sym, tab, tag_text, true, ℕ, ◌&&◌, ◌++◌, ◌==◌, ◌||◌, ◌∙◌, ◌∷◌, ◌≡◌, ◌⊎◌, begins_entry, begins_separation, begins_with_alpha, begins_with_space_or_break, further, GoesOn, has_tab_before_piece, is_alpha, is_decimal_digit, is_letter, is_separation, may_ask, not, position_after, before_by, before_past, begins_document_at, comes_plain, is_adjacent, is_free_of_tabs, is_taken, kind_by, nat_le, same_flow, site_at_place, append_cancel_left, further_on, goes_on, goes_over, no_flow, Option, Stand, AnchorName, BlockEntryInFlow, BlockEntryNotAllowed, ColonMisplaced, CommentNotSeparated, ContentAfterDocumentEnd, FlowIndentation, FlowTooDeep, InvalidIndentation, KeyNotAllowed, PlainDashInFlow, PlainTab, TabAfterColon, TabAfterDash, TabAfterKey, TabInBlockIndentation, UnexpectedAt, UnexpectedBacktick, UnexpectedPercent, WhitespaceExpected, after, begins_handle, begins_prefix, begins_with_mark, codes, decoded, drop, Err, Fault, first_position, from_prefix, is_empty, is_same, is_uri, IsNoDeclaration, IsNoVersion, IsVersionBefore, leading, length, length-append, None, number_of, Ok, problem_of, Result, said, Some, suc, UriFault, ◌-◌, DirectiveEnd, DirectiveName, DirectiveNameEnd, GlobalTagCharacter, TagDirectiveEnd, TagDirectiveHandle, TagStart, VersionDot, VersionNumber, VersionTooLong, append_cancel_right, block_first, blocks, digit_of, has_header, has_zero, Header, header_of, is_at_end, is_blanks_and_comment, is_in_line, IsNoHeader, line_more, past_indicators, past_spaces, sign_of, split, style_inner, style_same, up_to_break, HasNoPlainFault}
use Rattle.proof_scanner.proofs.First.Quoted.{QuotedReason, one_quoted}
use Rattle.proof_scanner.proofs.Refusals.PiecesRefused.{no_colon_before, tab_gap, many_alike}
use Rattle.proof_scanner.proofs.Refusals.TextsRefused.{first_char, refusal_fails, one_line, first_of, piece_line}
use Rattle.proof_scanner.proofs.Refusals.Common.{ends_before, nothing, plain_scalar, anchor_name, block_scalar}
use Rattle.defs_token.specs.Plain.{inside, past}
use Rattle.proof_lexers.specs.DirectiveEnds.{ends_line}
use Rattle.proof_lexers.proofs.Directives.Values.{no_handle}
use Rattle.proof_lexers.specs.DirectiveEnds as directives
use Rattle.proof_scanner.specs.NoPiece as none
use Rattle.proof_scanner.specs.Failing as failing
use Rattle.proof_scanner.proofs.First.Quoted as quoted
use Rattle.proof_lexers.specs.HeaderEnds as headers

-- ---- a comment right after the indicators

blanks_with : (r t : List ℕ) → is_blanks_and_comment r ≡ true → is_blanks_and_comment (r ++ 35 ∷ t) ≡ true
blanks_with [] t h = refl
blanks_with (c ∷ r) t h = grind (arith, blanks_with r t)

-- a line that is no header, but one before a comment
comment_is : (style : BlockStyle) (before text : List ℕ) (h : Header) → header_of (indicator_of style ∷ (before ++ 35 ∷ text)) ≡ None → header_of (indicator_of style ∷ before) ≡ Some h → past_indicators (before ++ 35 ∷ text) ≡ 35 ∷ text
unfolding sign_of digit_of
comment_is style before text h lacks is = grind (arith, blanks_with)

-- ---- one reason why a line is no header

module _ (style : BlockStyle) (here : Position) (line : List ℕ) (lacks : header_of (indicator_of style ∷ line) ≡ None) where
  abbrev HeaderReason : Problem → Position → Type 0
  HeaderReason why at =
      ((has_zero line ≡ true) × (why ≡ BlockScalarZero) × (at ≡ here)) ⊎
      (((before : List ℕ) × (text : List ℕ) × (line ≡ before ++ 35 ∷ text) × (past_indicators line ≡ 35 ∷ text) × (why ≡ CommentNotSeparated) × (at ≡ position_after here (indicator_of style ∷ before) (35 ∷ text))) ⊎
      ((has_zero line ≡ false) × (begins_with 35 (past_indicators line) ≡ false) × (why ≡ BlockScalarHeader) × (at ≡ here)))

  header_reason : (why : Problem) (at : Position) → IsNoHeader style here line why at → HeaderReason why at
  header_reason why at (none.by_zero zero) = inl (zero, refl, refl)
  header_reason why at (none.by_comment h before text is cut) = inr (inl (before, text, cut, rw cut (comment_is style before text h (rw cut at lacks) is), refl, refl))
  header_reason why at (none.by_text no_zero more begins) = inr (inr (no_zero, begins, refl, refl))

  one_header : (why1 why2 : Problem) (at1 at2 : Position) → IsNoHeader style here line why1 at1 → IsNoHeader style here line why2 at2 → (why1 ≡ why2) × (at1 ≡ at2)
  one_header why1 why2 at1 at2 x y =
      let zero_first : has_zero line ≡ true → begins_with 48 (past_indicators line) ≡ true = λ zero. grind (arith, nat_tests) in
      let r = header_reason why1 at1 x in let q = header_reason why2 at2 y in grind (arith, r, q, zero_first, append_cancel_right)

-- ---- all reasons

-- Why a text that begins with `|` or `>` outside flow is no block scalar, or not one that may stand there; the reason comes first.
pub data BlockReason (collection : List ℕ) (here : Position) (rest : List ℕ) : Problem → Position → Type 0 where
  headless : (style : BlockStyle) (line after : List ℕ) (why : Problem) (at : Position) → rest ≡ indicator_of style ∷ (line ++ after) → is_in_line line ≡ true → headers.ends_line after ≡ true → header_of (indicator_of style ∷ line) ≡ None
      → IsNoHeader style here line why at → BlockReason collection here rest why at
  fails : (why : Problem) (at : Position) (x : IsBlockFault collection here rest why at) → block_first collection here rest why at x → BlockReason collection here rest why at

module _ (collection : List ℕ) (here : Position) (rest : List ℕ) (clean : has_no_nul rest ≡ true) where
  -- the first line of a text without a header
  line_here : (style : BlockStyle) (line after : List ℕ) → rest ≡ indicator_of style ∷ (line ++ after) → is_in_line line ≡ true → headers.ends_line after ≡ true → up_to_break rest ≡ indicator_of style ∷ line
  line_here style line after cut inner ends = ap up_to_break cut ∙ first_of (indicator_of style ∷ line) after (style_inner style line inner) ends

  -- a text with a block scalar has one
  header_here : (why : Problem) (at : Position) → IsBlockFault collection here rest why at → header_of (up_to_break rest) ≡ None → ⊥
  header_here why at (none.by_tab piece header more h cut one is) lacks =
      let line : up_to_break rest ≡ header = ap up_to_break cut ∙ (line_more piece (λ e. absurd (cc (e, ap (λ s. s.complete) one))) (tab ∷ more) ∙ (sym (line_is piece) ∙ ap (λ s. first_line s.complete s.last) one)) in
      cc (lacks, ap header_of line, is)
  header_here why at (none.by_column piece header next lines b cut is further lines_are empty deep left) lacks =
      let line : up_to_break rest ≡ first_line (split piece).complete (split piece).last = ap up_to_break cut ∙ (piece_line (innermost collection) piece next b (no_nul_after piece next (ap has_no_nul (sym cut) ∙ clean)) is ∙ sym (line_is piece)) in
      has_header (innermost collection) (split piece).complete (split piece).last next (is_at_end next) b is (ap header_of (sym line) ∙ lacks)

  one_fault : (why1 why2 : Problem) (at1 at2 : Position) (x : IsBlockFault collection here rest why1 at1) → block_first collection here rest why1 at1 x → (y : IsBlockFault collection here rest why2 at2) → block_first collection here rest why2 at2 y
      → (why1 ≡ why2) × (at1 ≡ at2)
  one_fault why1 why2 at1 at2 (none.by_tab piece header more h cut one is) first (none.by_tab piece2 header2 more2 h2 cut2 one2 is2) other = (refl, refl)
  one_fault why1 why2 at1 at2 (none.by_tab piece header more h cut one is) first (none.by_column piece2 header2 next lines b cut2 is2 further lines_are empty deep left) other = absurd (other here (none.by_tab piece header more h cut one is))
  one_fault why1 why2 at1 at2 (none.by_column piece header next lines b cut is further lines_are empty deep left) first (none.by_tab piece2 header2 more h cut2 one is2) other = absurd (first here (none.by_tab piece2 header2 more h cut2 one is2))
  one_fault why1 why2 at1 at2 (none.by_column piece header next lines b cut is further lines_are empty deep left) first (none.by_column piece2 header2 next2 lines2 b2 cut2 is2 further2 lines_are2 empty2 deep2 left2) other =
      let same = blocks (innermost collection) piece piece2 next next2 (b, is, ap has_no_nul (sym cut) ∙ clean) (b2, is2, ap has_no_nul (sym cut2) ∙ clean) (sym cut ∙ cut2) in
      (refl, ap (λ p. past_spaces (position_after here p next) next) same.0 ∙ ap (λ n. past_spaces (position_after here piece2 n) n) same.1)

  pub one_block : (why1 why2 : Problem) (at1 at2 : Position) → BlockReason collection here rest why1 at1 → BlockReason collection here rest why2 at2 → (why1 ≡ why2) × (at1 ≡ at2)
  one_block why1 why2 at1 at2 (headless style line after why at cut inner ends lacks n) (headless style2 line2 after2 why3 at3 cut2 inner2 ends2 lacks2 m) =
      let same : indicator_of style2 ∷ line2 ≡ indicator_of style ∷ line = sym (line_here style2 line2 after2 cut2 inner2 ends2) ∙ line_here style line after cut inner ends in
      let style_is : style2 ≡ style = style_same style2 style (cc same) in
      let line_is : line2 ≡ line = cc same in
      one_header style here line lacks why1 why2 at1 at2 n (rw (sym style_is) (rw (sym line_is) m))
  one_block why1 why2 at1 at2 (headless style line after why at cut inner ends lacks n) (fails why3 at3 y other) = absurd (header_here why2 at2 y (ap header_of (line_here style line after cut inner ends) ∙ lacks))
  one_block why1 why2 at1 at2 (fails why at x first) (headless style line after why3 at3 cut inner ends lacks n) = absurd (header_here why1 at1 x (ap header_of (line_here style line after cut inner ends) ∙ lacks))
  one_block why1 why2 at1 at2 (fails why at x first) (fails why3 at3 y other) = one_fault why1 why2 at1 at2 x first y other

-- ---- tags

pub one_tag : (in_flow : Bool) (text : List ℕ) (why1 why2 : Problem) → IsTagRefusal in_flow text why1 → IsTagRefusal in_flow text why2 → why1 ≡ why2
one_tag in_flow text why1 why2 x y =
    let first = refusal_fails in_flow text why1 first_position x in
    let second = refusal_fails in_flow text why2 first_position y in
    cc (first, second)

-- ---- what is wrong with a version first

-- with the digits of a number, or else after them
abbrev number_wrong : (digits : List ℕ) → (more : Option Problem) → Option Problem
number_wrong w more = (if is_empty w then Some VersionNumber else (if nat_le (length w) 9 then more else Some VersionTooLong))

-- with the point and what stands after it
abbrev point_wrong : List ℕ → Option Problem
point_wrong text = (if begins_with 46 text then number_wrong (leading is_decimal_digit (drop 1 text)) None else Some VersionDot)

abbrev version_wrong : List ℕ → Option Problem
version_wrong text = number_wrong (leading is_decimal_digit text) (point_wrong (after is_decimal_digit text))

number_right : (w : List ℕ) (more : Option Problem) (v : ℕ) → number_of w ≡ Some v → number_wrong w more ≡ more
number_right a more v e = grind (arith, nat_tests, eqb-true)

version_is : (text : List ℕ) (why : Problem) → IsNoVersion text why → version_wrong text ≡ Some why
version_is text why (directives.no_major e) = rw e refl
version_is text why (directives.long_major e) = grind (arith, e)
version_is text why (directives.no_point major is e) = number_right (leading is_decimal_digit text) _ major is ∙ (grind arith)
version_is text why (directives.no_minor major r is cut e) = number_right (leading is_decimal_digit text) _ major is ∙ rw (cut, e) refl
version_is text why (directives.long_minor major r is cut e) = number_right (leading is_decimal_digit text) _ major is ∙ rw cut (grind (arith, e))

-- ---- what is wrong with a declaration first

-- with the characters of a prefix, or else after them
abbrev characters_wrong : Result (List ℕ) UriFault → (apart : Bool) → Option Problem
characters_wrong (Err f) apart = Some (problem_of f)
characters_wrong (Ok cs) apart = (if apart then None else Some TagDirectiveEnd)

abbrev prefix_wrong : List ℕ → Option Problem
prefix_wrong r = (if begins_prefix r then characters_wrong (decoded (leading is_uri r)) (is_at_gap (after is_uri r)) else Some GlobalTagCharacter)

abbrev declaration_wrong : List ℕ → Option Problem
declaration_wrong text = (if begins_handle text then prefix_wrong (from_prefix text) else (if begins_with_mark text then Some TagDirectiveHandle else Some TagStart))

declaration_is : (text : List ℕ) (why : Problem) → IsNoDeclaration text why → declaration_wrong text ≡ Some why
declaration_is text why (directives.no_mark e) = grind (arith, e)
declaration_is text why (directives.open_name c name rest e lead none) = let lacks = no_handle c name rest lead none in rw e (rw lacks refl)
declaration_is text why (directives.no_prefix is e) = rw (is, e) refl
declaration_is text why (directives.by_octets f is begins e) = rw (is, begins, e) refl
declaration_is text why (directives.goes_on prefix is begins e apart) = rw (is, begins, e, apart) refl

-- ---- what is wrong with a line first

-- where a version is all right, with the text after it
abbrev tail_wrong : Position → (line rest : List ℕ) → Fault
tail_wrong start line rest = (if begins_with 35 rest then At CommentNotSeparated (further (suc (length line - length rest)) start) else At DirectiveEnd start)

abbrev value_wrong : Position → Option Problem → (tail : Fault) → Fault
value_wrong start None tail = tail
value_wrong start (Some why) tail = At why start

abbrev named_wrong : Position → (line : List ℕ) → (version : Bool) → Fault
named_wrong start line true = value_wrong start (version_wrong (said line)) (tail_wrong start line (after is_decimal_digit (drop 1 (after is_decimal_digit (said line)))))
named_wrong start line false = value_wrong start (declaration_wrong (said line)) (At DirectiveEnd start)

abbrev line_wrong : Position → List ℕ → Fault
line_wrong start line =
    (if is_empty (leading is_alpha line) then At DirectiveName (further 1 start) else
    (if is_at_gap (after is_alpha line) then named_wrong start line (is_same (leading is_alpha line) (codes "YAML")) else At DirectiveNameEnd (further 1 start)))

after_it : (start : Position) (line rest : List ℕ) → IsVersionBefore line rest → line_wrong start line ≡ tail_wrong start line rest
after_it start line rest v = let name = v.is_version.is_name in let whole = v.is_version.is_whole in grind (arith, nat_tests, eqb-true, number_right, name, whole)

refusal_is : (start : Position) (line : List ℕ) (f : Fault) → IsDirectiveRefusal start line f → line_wrong start line ≡ f
refusal_is start line f (directives.no_name e) = rw e refl
refusal_is start line f (directives.by_name some e) = rw (some, e) refl
refusal_is start line f (directives.by_version why h n) = rw (h.is_name, h.is_whole, version_is (said line) why n) refl
refusal_is start line f (directives.by_declaration why h n) = rw (h.is_name, h.is_whole, declaration_is (said line) why n) refl
refusal_is start line f (directives.by_comment before rest cut v) = grind (arith, nat_tests, eqb-true, length-append, after_it)
refusal_is start line f (directives.after_version rest v more begins) = after_it start line rest v ∙ rw begins refl
refusal_is start line f (directives.after_declaration rest d more) = rw (d.is_declaration.is_name, d.is_declaration.is_whole, d.has_handle, d.has_prefix, d.is_prefix, d.is_before, d.is_apart) refl

-- ---- a plain scalar has one fault that comes first

-- a dash before a flow indicator, and one behind it
no_later_dash : (collection : Option ℕ) (s : Stand) (before rest more : List ℕ) → begins_flow rest ≡ true → rest ≡ before ++ 45 ∷ more → goes_on true collection s before (45 ∷ more) ≡ true → ⊥
unfolding is_flow
no_later_dash collection s before rest more begins cut goes = no_flow true collection s before 45 more rest refl cut (refl) begins goes

-- A scalar that goes on over two texts, each before a dash and a flow indicator, goes on over the same text.
same_before : (collection : Option ℕ) (s : Stand) (a b x y : List ℕ) → a ++ 45 ∷ x ≡ b ++ 45 ∷ y → begins_flow x ≡ true → begins_flow y ≡ true → goes_on true collection s a (45 ∷ x) ≡ true → goes_on true collection s b (45 ∷ y) ≡ true → a ≡ b
same_before collection s [] [] x y cut f g goes also = refl
same_before collection s (c ∷ a) (d ∷ b) x y cut f g goes also = grind (arith, nat_tests, eqb-true, further_on, same_before collection (past s c) a b x y)
same_before collection s a b x y cut f g goes also = grind (arith, nat_tests, eqb-true, no_later_dash, further_on)

-- the same of a scalar's first character on
same_start : (collection : Option ℕ) (a b x y : List ℕ) → a ++ 45 ∷ x ≡ b ++ 45 ∷ y → begins_flow x ≡ true → begins_flow y ≡ true → goes_over true collection a (45 ∷ x) ≡ true → goes_over true collection b (45 ∷ y) ≡ true → a ≡ b
same_start collection (c ∷ a) (d ∷ b) x y cut f g goes also = let same : d ≡ c = cc cut in rw (same, same_before collection inside a b x y (cc cut) f g goes also) refl
same_start collection a b x y cut f g goes also = grind (arith, no_later_dash)

-- A reason at a plain scalar that comes first: its column; a TAB; or a dash.
abbrev pub PlainReason : (in_flow : Bool) (collection : List ℕ) (here : Position) (text : List ℕ) → Problem → Position → Type 0
PlainReason in_flow collection here text why at =
    (IsPlainFault in_flow collection here text FlowIndentation here × (why ≡ FlowIndentation) × (at ≡ here)) ⊎
    (HasNoPlainFault in_flow collection here text FlowIndentation × ((IsPlainFault in_flow collection here text PlainTab here × (why ≡ PlainTab) × (at ≡ here)) ⊎
    (HasNoPlainFault in_flow collection here text PlainTab × (before : List ℕ) × (rest : List ℕ) × (in_flow ≡ true) × (text ≡ before ++ 45 ∷ rest) × (begins_flow rest ≡ true) ×
    (goes_over true (innermost collection) before (45 ∷ rest) ≡ true) × (why ≡ PlainDashInFlow) × (at ≡ position_after here before (45 ∷ rest)))))

module _ (in_flow : Bool) (collection : List ℕ) (here : Position) (text : List ℕ) where
  pub plain_reason : (why : Problem) (at : Position) (n : IsPlainFault in_flow collection here text why at) → plain_first in_flow collection here text why at n → PlainReason in_flow collection here text why at
  plain_reason why at (none.by_column flow left) first = inl (none.by_column flow left, refl, refl)
  plain_reason why at (none.by_tab before blanks rest column cut over stands left are solid) first = inr (first, inl (none.by_tab before blanks rest column cut over stands left are solid, refl, refl))
  plain_reason why at (none.by_dash before rest flow cut begins over apart) first =
      inr (first.0, inr (first.1, before, rest, flow, cut, begins, ap (λ b. goes_over b (innermost collection) before (45 ∷ rest)) (sym flow) ∙ over, refl, refl))

  pub one_plain : (why1 why2 : Problem) (at1 at2 : Position) → PlainReason in_flow collection here text why1 at1 → PlainReason in_flow collection here text why2 at2 → (why1 ≡ why2) × (at1 ≡ at2)
  one_plain why1 why2 at1 at2 x y = grind (arith, same_start, append_cancel_left)

-- ---- what the reasons at a place ask of an account; it is the same at accounts that are alike

-- Whether the place is in flow; whether a colon may stand next to what stands before; whether outside flow the line is taken; whether as many flow collections are open as may be; whether no TAB indents what comes; the block collections, and whether a value is awaited.
pub record Setting : Type 0 where
  pub in_flow : Bool
  pub adjacent : Bool
  pub taken : Bool
  pub full : Bool
  pub spaced : Bool
  pub blocks : List ℕ
  pub awaits : Bool

abbrev pub setting_of : Account → (separation : List ℕ) → (here : Position) → Setting
setting_of a separation here = record {
  in_flow = is_in_flow a.entries;
  adjacent = is_adjacent (before_past (before_by a.site.before) separation);
  taken = is_taken a separation;
  full = is_full a;
  spaced = is_free_of_tabs a separation;
  blocks = (site_at_place a here).blocks;
  awaits = (site_at_place a here).awaits;
}

-- what comes lies deep enough
abbrev pub is_deep_at : Setting → Position → (rest : List ℕ) → Bool
is_deep_at s here rest = not s.in_flow || begins_document_at here rest || nat_le (least_column s.blocks s.awaits) here.col

-- The kind of the piece that a text seems to begin: a plain scalar, where one is looked for, or else what the first character says.
abbrev pub kind_here : Setting → (column : ℕ) → (rest : List ℕ) → Kind
kind_here s column [] = nothing
kind_here s column (c ∷ r) = (if comes_plain s.in_flow s.adjacent column (c ∷ r) then plain_scalar else kind_by c r)

-- ---- like accounts

pub same_setting : (a b : Account) (separation : List ℕ) (here : Position) → IsLike a b → setting_of a separation here ≡ setting_of b separation here
same_setting a b separation here like = grind (arith, nat_tests, eqb-true, same_flow, many_alike)

-- ---- what is passed on a line

-- the first TAB outside comments is one
pub first_tab : (in_comment : Bool) (p q x y : List ℕ) → p ++ 9 ∷ x ≡ q ++ 9 ∷ y → is_separation in_comment p (9 ∷ x) ≡ true → is_separation in_comment q (9 ∷ y) ≡ true → has_tab_before_piece in_comment p ≡ false → has_tab_before_piece in_comment q ≡ false → (p ≡ q) × (x ≡ y)
unfolding is_blank is_break is_nul
first_tab b [] [] x y e f g h k = grind (arith, nat_tests, eqb-true)
first_tab true (c ∷ p) (d ∷ q) x y e f g h k = grind (arith, nat_tests, eqb-true, first_tab (not (is_break c)) p q x y)
first_tab false (c ∷ p) (d ∷ q) x y e f g h k = grind (arith, nat_tests, eqb-true, first_tab (c == 35) p q x y)
first_tab b p q x y e f g h k = grind arith

-- ---- brackets and commas

abbrev pub BracketReason : Setting → Position → List ℕ → Problem → Position → Type 0
BracketReason s here rest why at =
    (c : ℕ) × (more : List ℕ) × (rest ≡ c ∷ more) × ((((opens c && s.full) ≡ true) × (why ≡ FlowTooDeep) × (at ≡ here)) ⊎
    (((opens c && s.full) ≡ false) × (why ≡ CommentNotSeparated) × (at ≡ further 1 here)))

-- ---- the reasons at one kind of piece

abbrev pub InKind : Kind → Setting → Position → List ℕ → Problem → Position → Type 0
-- a reserved indicator
InKind nothing s here rest why at =
    (more : List ℕ) × (at ≡ here) × (((rest ≡ 64 ∷ more) × (why ≡ UnexpectedAt)) ⊎ ((rest ≡ 96 ∷ more) × (why ≡ UnexpectedBacktick)))
InKind plain_scalar s here rest why at = PlainReason s.in_flow s.blocks here rest why at
InKind question s here rest why at =
    ((may_ask s.in_flow s.taken ≡ false) × (why ≡ KeyNotAllowed) × (at ≡ here)) ⊎
    (((may_ask s.in_flow s.taken ≡ true) × (more : List ℕ) × (rest ≡ 63 ∷ more) × (begins_with_space_or_break more ≡ false) × (why ≡ WhitespaceExpected) ×
    (at ≡ further 1 here)) ⊎
    ((may_ask s.in_flow s.taken ≡ true) × (more : List ℕ) × (passed : List ℕ) × (content : List ℕ) × (rest ≡ 63 ∷ more) × (begins_with_space_or_break more ≡ true) ×
    (has_tab_before_piece false passed ≡ false) × (more ≡ passed ++ 9 ∷ content) × (is_separation false passed (9 ∷ content) ≡ true) ×
    (why ≡ TabAfterKey) × (at ≡ position_after (further 1 here) passed (9 ∷ content))))
InKind colon s here rest why at =
    ((more : List ℕ) × (s.in_flow ≡ true) × (rest ≡ 58 ∷ more) × (colon_may_precede more ≡ true) × (why ≡ ColonMisplaced) × (at ≡ here)) ⊎
    ((more : List ℕ) × (passed : List ℕ) × (content : List ℕ) × (rest ≡ 58 ∷ more) × (colon_may_precede more ≡ false) × GoesOn more passed content ×
    (begins_with_alpha content ≡ true) × (why ≡ TabAfterColon) × (at ≡ position_after (further 1 here) passed content))
InKind dash s here rest why at =
    ((s.in_flow ≡ true) × (why ≡ BlockEntryInFlow) × (at ≡ here)) ⊎
    (((s.in_flow ≡ false) × (s.taken ≡ true) × (why ≡ BlockEntryNotAllowed) × (at ≡ here)) ⊎
    ((s.in_flow ≡ false) × (s.taken ≡ false) × (more : List ℕ) × (passed : List ℕ) × (content : List ℕ) × (rest ≡ 45 ∷ more) × GoesOn more passed content ×
    (begins_entry content ≡ true) × (why ≡ TabAfterDash) × (at ≡ position_after (further 1 here) passed content)))
InKind dashes s here rest why at = ⊥
InKind dots s here rest why at =
    (more : List ℕ) × (passed : List ℕ) × (content : List ℕ) × (rest ≡ 46 ∷ 46 ∷ 46 ∷ more) × GoesOn more passed content × (begins_separation content ≡ false) ×
    (why ≡ ContentAfterDocumentEnd) × (at ≡ position_after (further 3 here) passed content)
InKind directive_line s here rest why at =
    (((here.col == 0) ≡ false) × (why ≡ UnexpectedPercent) × (at ≡ here)) ⊎
    ((line : List ℕ) × (next : List ℕ) × (here.col ≡ 0) × (rest ≡ 37 ∷ (line ++ next)) × (has_no_break line ≡ true) × (directives.ends_line next ≡ true) × IsDirectiveRefusal here line (At why at))
-- a name is missing
InKind alias_name s here rest why at = (why ≡ AnchorName) × (at ≡ here)
InKind anchor_name s here rest why at = (why ≡ AnchorName) × (at ≡ here)
InKind tag_text s here rest why at = (more : List ℕ) × (rest ≡ 33 ∷ more) × IsTagRefusal s.in_flow more why × (at ≡ here)
InKind in_single_quotes s here rest why at = QuotedReason (least_column s.blocks s.awaits) here rest why at
InKind in_double_quotes s here rest why at = QuotedReason (least_column s.blocks s.awaits) here rest why at
InKind block_scalar s here rest why at = BlockReason s.blocks here rest why at
InKind _ s here rest why at = BracketReason s here rest why at

-- ---- the reasons at a place

-- A TAB indents what comes; or it does not lie deep enough; or there is a reason at the kind of piece that the text seems to begin.
abbrev pub Reason : Setting → Position → List ℕ → Problem → Position → Type 0
Reason s here rest why at =
    ((s.spaced ≡ false) × (why ≡ TabInBlockIndentation) × (at ≡ here)) ⊎
    (((s.spaced ≡ true) × (is_deep_at s here rest ≡ false) × (why ≡ InvalidIndentation) × (at ≡ here)) ⊎
    ((s.spaced ≡ true) × (is_deep_at s here rest ≡ true) × (k : Kind) × (kind_here s here.col rest ≡ k) × InKind k s here rest why at))

-- ---- kinds by the first characters

block_kind : (s : Setting) (column : ℕ) (style : BlockStyle) (more : List ℕ) → s.in_flow ≡ false → kind_here s column (indicator_of style ∷ more) ≡ block_scalar
unfolding is_blank_or_end is_blank is_break is_nul is_flow
block_kind s column a more out = grind arith

-- ---- each reason has its kind

module _ (s : Setting) (here : Position) (rest : List ℕ) where
  abbrev OfKind : Problem → Position → Type 0
  OfKind why at = (k : Kind) × (kind_here s here.col rest ≡ k) × InKind k s here rest why at

  of_quoted : (why : Problem) (at : Position) → QuotedReason (least_column s.blocks s.awaits) here rest why at → OfKind why at
  unfolding is_blank_or_end is_blank is_break is_nul is_flow
  of_quoted why at r = grind arith

  bracket_reason : (c : ℕ) (more : List ℕ) (why : Problem) (at : Position) → rest ≡ c ∷ more → is_flow_indicator c ≡ true → BracketReason s here rest why at → OfKind why at
  unfolding is_blank_or_end is_blank is_break is_nul is_flow
  bracket_reason c more why at e is r = grind (arith, nat_tests, eqb-true)

  none_reason : (why : Problem) (at : Position) (n : NoPiece s.in_flow here rest why at) → no_piece_first s.in_flow (least_column s.blocks s.awaits) here rest why at n → OfKind why at
  unfolding is_blank_or_end is_blank is_break is_nul is_flow
  none_reason why at (none.percent more e col) f = (directive_line, ap (λ r. kind_here s here.col r) e, inl (col, refl, refl))
  none_reason why at (none.at_sign more e) f = (nothing, ap (λ r. kind_here s here.col r) e, (more, refl, inl (e, refl)))
  none_reason why at (none.backtick more e) f = (nothing, ap (λ r. kind_here s here.col r) e, (more, refl, inr (e, refl)))
  none_reason why at (none.nameless true more e lacks) f = (alias_name, ap (λ r. kind_here s here.col r) e, (refl, refl))
  none_reason why at (none.nameless false more e lacks) f = (anchor_name, ap (λ r. kind_here s here.col r) e, (refl, refl))
  none_reason why at (none.tagless more reason e r) f = (tag_text, ap (λ r. kind_here s here.col r) e, (more, e, r, refl))
  none_reason why at (none.unquoted single more reason e lacks n) f = of_quoted reason here (quoted.unquoted (least_column s.blocks s.awaits) here rest single more reason e lacks n f)
  none_reason why at (none.headless style line next reason place out e one ends lacks n) f = (block_scalar, ap (λ r. kind_here s here.col r) e ∙ block_kind s here.col style (line ++ next) out, headless style line next reason place e one ends lacks n)
  none_reason why at (none.undirected line next reason place col e one ends lacks r) f = (directive_line, ap (λ z. kind_here s here.col z) e, inr (line, next, col, e, one, ends, r))

  block_at : s.in_flow ≡ false → (why : Problem) (at : Position) → IsBlockFault s.blocks here rest why at → kind_here s here.col rest ≡ block_scalar
  block_at out why at (none.by_tab piece header more h cut one is) =
      let first = first_char piece header h (sym (line_is piece) ∙ ap (λ z. first_line z.complete z.last) one) is in
      ap (λ r. kind_here s here.col r) (cut ∙ ap (λ p. p ++ tab ∷ more) first.2) ∙ block_kind s here.col first.0 (first.1 ++ tab ∷ more) out
  block_at out why at (none.by_column piece header next more b cut is further_text lines_are empty deep left) = grind (arith, block_scalar, eqb-true, block_kind, literal, folded, out, cut, (block_begins (innermost s.blocks) piece next b is))

  followed_reason : (why : Problem) (at : Position) (n : IsFollowed s.in_flow here rest why at) → followed_first s.in_flow (least_column s.blocks s.awaits) s.taken s.full here rest why at n → OfKind why at
  unfolding is_blank_or_end is_blank is_break is_nul is_flow are_marks
  followed_reason why at (none.glued c more e is begins) f = bracket_reason c more why at e is ((c, more, e, inr (f, refl, refl)))
  followed_reason why at (none.glued_to_quoted single piece more e is begins) f = of_quoted why at (quoted.closed (least_column s.blocks s.awaits) here rest single piece more _ _ e is f (inl (begins, refl, refl)))
  followed_reason why at (none.after_quoted single piece more passed content e is ends on solid) f = of_quoted why at (quoted.after_quoted (least_column s.blocks s.awaits) here rest single piece more passed content e is on solid f)
  followed_reason why at (none.after_end more passed content col e gap on ends solid) f = (dots, rw (e, col, gap) refl, (more, passed, content, e, on, solid, refl, refl))
  followed_reason why at (none.tab_after_dash more passed content out e gap on tab_there begins) f = (dash, rw (e, gap) refl, inr (inr (out, f, more, passed, content, e, on, begins, refl, refl)))
  followed_reason why at (none.no_space more passed content e gap on begins ends) f = rw f.1 (question, rw (e, gap) refl, inr (inl (f.0, more, e, grind (arith, f), refl, refl)))
  followed_reason why at (none.tab_after_question more passed content e gap cut fills) f = (question, rw (e, gap) refl, inr (inr (f.0, more, passed, content, e, f.1, f.2, cut, fills, refl, refl)))
  followed_reason why at (none.tab_after_colon more passed content e tab_there on lacks letter) f =
      (colon, rw (e, tab_gap more tab_there) refl, inr (more, passed, content, e, no_colon_before more passed content tab_there on lacks letter, on, letter, refl, refl))

-- ---- what fails first is a reason

module _ (a : Account) (separation : List ℕ) (here : Position) (rest : List ℕ) where
  abbrev own : Setting
  own = setting_of a separation here

  seen_reason : (why : Problem) (at : Position) → IsLookedAt a separation here rest → OfKind own here rest why at → Reason own here rest why at
  seen_reason why at l r = inr (inr (l.has_no_tab, l.is_deep, r.0, r.1, r.2))

  stands_reason : (why : Problem) (at : Position) (n : MayNotStand a separation here rest why at) → stands_first a separation here rest why at n → Reason own here rest why at
  stands_reason why at (failing.shallow flowing line left) f = grind (arith, here, rest, least_here)
  stands_reason why at (failing.too_deep bracket more e is many) f =
      let opens_flow : (c : ℕ) → (c ≡ 91) ⊎ (c ≡ 123) → (opens c ≡ true) × (is_flow_indicator c ≡ true) = λ c a. grind (arith, nat_tests, eqb-true) in
      seen_reason FlowTooDeep here f (bracket_reason own here rest bracket more FlowTooDeep here e (opens_flow bracket is).1 (bracket, more, e, inl (ap (λ b. b && is_full a) (opens_flow bracket is).0 ∙ (grind (arith, nat_tests, many)), refl, refl)))
  stands_reason why at (failing.dash_in_flow more e gap flowing) f = seen_reason BlockEntryInFlow here f (dash, rw (e, gap) refl, inl (flowing, refl, refl))
  stands_reason why at (failing.dash_not_free more e gap out line) f = seen_reason BlockEntryNotAllowed here f (dash, rw (e, gap) refl, inr (inl (out, line, refl, refl)))
  stands_reason why at (failing.key_on_earlier_line more begin x xs e is are takes had late) f =
      seen_reason ColonMisplaced here f.0 (colon, rw (e, is) refl, inl (more, ap is_in_flow are, e, f.1, refl, refl))
  stands_reason why at (failing.question_not_free more e gap out line) f =
      seen_reason KeyNotAllowed here f (question, rw (e, gap) refl, inl (rw (out, line) refl, refl, refl))
  stands_reason why at (failing.tab_indents tabs) f = inl (tabs, refl, refl)
  stands_reason why at (failing.tab_after_quoted single piece gap content e is fills goes_on solid tabs) f =
      seen_reason TabInBlockIndentation _ f.0 (of_quoted own here rest TabInBlockIndentation _ (quoted.tab_after_quoted (least_column own.blocks own.awaits) here rest single piece gap content own.blocks own.awaits e is fills solid tabs f.1 f.2))

  pub reason_of : (why : Problem) (at : Position) → FailsFirst a separation here rest why at → Reason own here rest why at
  reason_of why at x = by x.fails x.is_first
    where
      by : (f : Fails a separation here rest why at) → comes_first a separation here rest why at f → Reason own here rest why at
      by (failing.no_piece n) f = seen_reason why at f.0 (none_reason own here rest why at n f.1)
      by (failing.no_plain comes n) f = seen_reason why at f.0 (plain_scalar, (grind arith), plain_reason own.in_flow own.blocks here rest why at n f.1)
      by (failing.no_quoted single lacks n) f = seen_reason why at f.0 (of_quoted own here rest why at (quoted.no_quoted (least_column own.blocks own.awaits) here rest single why at lacks n f.1))
      by (failing.no_block out n) f = seen_reason why at f.0 (block_scalar, block_at own here rest out why at n, fails why at n f.1)
      by (failing.followed n) f = seen_reason why at f.0 (followed_reason own here rest why at n f.1)
      by (failing.may_not_stand n) f = stands_reason why at n f

-- ---- where no key waits for a colon, and none begins

-- There no reason at a like account comes first.
pub colon_alone : (a b : Account) → IsLike a b → (separation more : List ℕ) (here : Position) → is_value_here a separation more ≡ true → is_in_flow a.entries ≡ false → IsLookedAt a separation here (58 ∷ more) → colon_may_precede more ≡ true →
    (why : Problem) (at : Position) → FailsFirst b separation here (58 ∷ more) why at → ⊥
colon_alone a b like separation more here is out seen apart why at x =
    let own : Setting = setting_of a separation here in
    let at_colon : (n : List ℕ) → 58 ∷ more ≡ 58 ∷ n → more ≡ n = λ n e. cc e in
    let none_here : (why : Problem) (at : Position) → InKind colon own here (58 ∷ more) why at → ⊥ = λ why at h. grind (arith, nat_tests, eqb-true, out, apart, colon_may_precede, at_colon) in
    let kind_is : kind_here own here.col (58 ∷ more) ≡ colon = rw is refl in
    let by : (why : Problem) (at : Position) → Reason own here (58 ∷ more) why at → ⊥ = λ why a b. grind (arith, none_here, own, here, more, kind_is) in
    by why at (subst (λ s. Reason s here (58 ∷ more) why at) (sym (same_setting a b separation here like)) (reason_of b separation here (58 ∷ more) why at x))

-- ---- one reason

one_in : (k : Kind) (s : Setting) (here : Position) (rest : List ℕ) (why1 why2 : Problem) (at1 at2 : Position) → has_no_nul rest ≡ true → InKind k s here rest why1 at1 → InKind k s here rest why2 at2 → (why1 ≡ why2) × (at1 ≡ at2)
unfolding is_nul is_blank_or_end is_blank is_break is_alpha is_decimal_digit is_letter
one_in plain_scalar s here rest why1 why2 at1 at2 clean r q = one_plain s.in_flow s.blocks here rest why1 why2 at1 at2 r q
one_in in_single_quotes s here rest why1 why2 at1 at2 clean r q = one_quoted (least_column s.blocks s.awaits) here rest clean why1 why2 at1 at2 r q
one_in in_double_quotes s here rest why1 why2 at1 at2 clean r q = one_quoted (least_column s.blocks s.awaits) here rest clean why1 why2 at1 at2 r q
one_in block_scalar s here rest why1 why2 at1 at2 clean r q = one_block s.blocks here rest clean why1 why2 at1 at2 r q
one_in tag_text s here rest why1 why2 at1 at2 clean r q = grind (arith, one_tag)
one_in directive_line s here rest why1 why2 at1 at2 clean r q = grind (arith, nat_tests, eqb-true, refusal_is, one_line)
one_in dots s here rest why1 why2 at1 at2 clean r q = grind (arith, separations, ends_before, no_nul_after)
one_in k s here rest why1 why2 at1 at2 clean r q = grind (arith, separations, nat_tests, eqb-true, first_tab)

-- At like accounts, after the same separation, what fails first is of one kind and at one position.
pub one_reason : (a b : Account) → IsLike a b → (separation : List ℕ) (here : Position) (rest : List ℕ) → has_no_nul rest ≡ true → (why1 why2 : Problem) (at1 at2 : Position) → FailsFirst a separation here rest why1 at1 → FailsFirst b separation here rest why2 at2 → (why1 ≡ why2) × (at1 ≡ at2)
one_reason a b like separation here rest clean why1 why2 at1 at2 x y =
    let first = reason_of a separation here rest why1 at1 x in
    let second : Reason (setting_of a separation here) here rest why2 at2 = subst (λ s. Reason s here rest why2 at2) (sym (same_setting a b separation here like)) (reason_of b separation here rest why2 at2 y) in
    grind (arith, nat_tests, eqb-true, one_in, first, second, clean)
