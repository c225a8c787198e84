-- The next token by its first characters, and what these say: the text goes on, or a document marker stands there.
use Rattle.proof_scanner.proofs.Common.{[], Alias, Anchor, ap, are_marks, are_single, arith, At, begins_separation, begins_with, Bool, class_of, codes, comes_marker, comes_plain, eqb-true, Err, false, Fault, fetch_anchor, fetch_block_entry, fetch_block_scalar, fetch_content, fetch_directive, fetch_document_end, fetch_document_marker, fetch_first_column, fetch_flow_collection_end, fetch_flow_collection_start, fetch_flow_entry, fetch_flow_scalar, fetch_indented, fetch_key, fetch_plain_scalar, fetch_tag, fetch_token, fetch_value, has_no_nul, if◌then◌else◌, in_flow, InvalidIndentation, is_at_gap, is_blank_or_breakz, is_document_marker, is_empty, is_literal, is_nul, is_value, is_value_indicator, is_white, List, mark_of, may_begin, NameKind, nat_lt, nat_tests, not, peek, quote_of, Quotes, refl, Result, row, same_gap, ScannerState, slice_index, sym, Tok, token_by, true, UnexpectedAt, UnexpectedBacktick, UnexpectedPercent, ℕ, ◌&&◌, ◌+◌, ◌==◌, ◌||◌, ◌∙◌, ◌∷◌, ◌≡◌}
use Rattle.yaml_chars.specs.Class.{is_blank, is_break, is_flow}
use Rattle.model_scanner.specs.declared.kind.BlockStyle.{BlockStyle}
use Rattle.model_scanner.specs.declared.kind.Collection.TheVariants.{Mapping, Sequence}
use Rattle.model_scanner.specs.declared.kind.Quotes.TheVariants.{Double, Single}
use Rattle.proof_lexers.proofs.Bridges.{same_flow}
use Rattle.proof_scanner.proofs.Cut.Stoods.{IsDeep}
use Rattle.model_scanner.specs.State.{after}
use Rattle.defs_text.specs.Classes as classes

-- ---- keys that are too far back

-- whether a text begins with a character, the model and the definitions say alike
pub begins_here : (c : ℕ) (r : List ℕ) → (0 == c) ≡ false → (peek r == c) ≡ begins_with c r
begins_here c a b = grind arith

-- the text after a document marker of a character
pub record Marked (c : ℕ) (a : List ℕ) : Type 0 where
  pub more : List ℕ
  pub is_text : a ≡ c ∷ c ∷ c ∷ more
  pub gap : is_at_gap more ≡ true

pub marked : (c : ℕ) (a : List ℕ) → (0 == c) ≡ false → comes_marker c a ≡ true → Marked c a
unfolding comes_marker is_blank is_break
marked c (x ∷ y ∷ z ∷ more) n h = grind (arith, nat_tests, same_gap)
marked c a z h = grind arith

pub no_marker : (a : List ℕ) → comes_marker 45 a ≡ false → comes_marker 46 a ≡ false → is_document_marker a ≡ false
unfolding comes_marker are_marks is_blank is_break
no_marker b h k = grind (arith, same_gap)

-- ---- the next token

pub no_end : (r : List ℕ) → has_no_nul r ≡ true → (peek r == 0) ≡ true → r ≡ []
unfolding is_nul
no_end a n h = grind arith

pub goes_on_here : (r : List ℕ) → (peek r == 0) ≡ false → is_empty r ≡ false
goes_on_here a h = grind arith

-- ---- characters

pub gap_here : (m : List ℕ) → is_blank_or_breakz (slice_index m 0) ≡ is_at_gap m
unfolding is_blank is_break
gap_here a = grind (arith, same_gap)

-- the characters that have a case of their own: NUL, blanks, breaks and indicators
abbrev told : List ℕ
told = 0 ∷ codes " \t\n\r#-?:,[]{}*&!|>'\"%@`"

abbrev AllOf : (P : ℕ → Type 0) → List ℕ → Type 0
AllOf P [] = Unit {0}
AllOf P (d ∷ ds) = P d × AllOf P ds

also : {A B : Type 0} → A → B → A × B
also a b = (a, b)

-- a character is none of some
abbrev IsNone : List ℕ → ℕ → Type 0
IsNone ds c = AllOf (λ d. (c == d) ≡ false) ds

-- what is so of each of some characters, and of every other one, is so of each character
each_of : (P : ℕ → Type 0) (c : ℕ) (ds : List ℕ) → AllOf P ds → (IsNone ds c → P c) → P c
each_of P c [] all other = other tt
each_of P c (d ∷ ds) all other = row c d P all.0 (λ e. each_of P c ds all.1 (λ f. other (e, f)))

-- What is so of what the function of each token gives, where it is called, and of the three refusals; whether a colon may stand next to what stands before is known.
pub record TokensHold (Q : Result ScannerState Fault → Type 0) (t : ScannerState) (adjacent : Bool) : Type 0 where
  pub anchor : (kind : NameKind) (more : List ℕ) → t.rest ≡ mark_of kind ∷ more → Q (fetch_anchor kind t)
  pub tag : (more : List ℕ) → t.rest ≡ 33 ∷ more → Q (fetch_tag t)
  pub plain : comes_plain (in_flow t.held) adjacent t.held.position.col t.rest ≡ true → Q (fetch_plain_scalar t)
  pub quoted : (quotes : Quotes) (more : List ℕ) → t.rest ≡ quote_of (are_single quotes) ∷ more → Q (fetch_flow_scalar quotes t)
  pub block : (style : BlockStyle) (more : List ℕ) → t.rest ≡ (if is_literal style then 124 else 62) ∷ more → is_empty t.held.flow ≡ true → Q (fetch_block_scalar style t)
  pub dash : (more : List ℕ) → t.rest ≡ 45 ∷ more → is_at_gap more ≡ true → Q (fetch_block_entry t)
  pub question : (more : List ℕ) → t.rest ≡ 63 ∷ more → is_at_gap more ≡ true → Q (fetch_key t)
  pub colon : (more : List ℕ) → t.rest ≡ 58 ∷ more → is_value t ≡ true → Q (fetch_value t)
  pub open_bracket : (more : List ℕ) → t.rest ≡ 91 ∷ more → Q (fetch_flow_collection_start Sequence t)
  pub open_brace : (more : List ℕ) → t.rest ≡ 123 ∷ more → Q (fetch_flow_collection_start Mapping t)
  pub close_bracket : (more : List ℕ) → t.rest ≡ 93 ∷ more → Q (fetch_flow_collection_end Sequence t)
  pub close_brace : (more : List ℕ) → t.rest ≡ 125 ∷ more → Q (fetch_flow_collection_end Mapping t)
  pub comma : (more : List ℕ) → t.rest ≡ 44 ∷ more → Q (fetch_flow_entry t)
  pub percent : (more : List ℕ) → t.rest ≡ 37 ∷ more → Q (Err (At UnexpectedPercent t.held.position))
  pub at_sign : (more : List ℕ) → t.rest ≡ 64 ∷ more → Q (Err (At UnexpectedAt t.held.position))
  pub backtick : (more : List ℕ) → t.rest ≡ 96 ∷ more → Q (Err (At UnexpectedBacktick t.held.position))

gap_after : (t : ScannerState) (c : ℕ) (more : List ℕ) (gap : Bool) → t.rest ≡ c ∷ more → is_at_gap more ≡ gap → is_blank_or_breakz (slice_index t.rest 1) ≡ gap
gap_after t c more gap e g = ap (λ l. is_blank_or_breakz (slice_index l 1)) e ∙ gap_here more ∙ g

-- whether a colon is the indicator of a value, the model and the definition say alike
pub value_is : (t : ScannerState) (adjacent : Bool) (more : List ℕ) → t.rest ≡ 58 ∷ more → (is_empty t.held.flow ≡ false → (t.held.position.index == t.held.adjacent_value_at) ≡ adjacent) → is_value t ≡ is_value_indicator (not (is_empty t.held.flow)) adjacent more
unfolding is_value is_flow
value_is t adjacent more e now = grind (arith, nat_tests, eqb-true, gap_after, same_flow)

-- ---- the token by its first character

module _ (Q : Result ScannerState Fault → Type 0) (t : ScannerState) (adjacent : Bool) (clean : has_no_nul t.rest ≡ true) (solid : begins_separation t.rest ≡ false) (now : is_empty t.held.flow ≡ false → (t.held.position.index == t.held.adjacent_value_at) ≡ adjacent)
    (marker : ((t.held.position.col == 0) && is_document_marker t.rest) ≡ false) (h : TokensHold Q t adjacent) where
  -- a token that begins with a character
  abbrev Reads : ℕ → Type 0
  Reads c = (more : List ℕ) → t.rest ≡ c ∷ more → Q (token_by (class_of c) t)

  plain_here : (c : ℕ) (more : List ℕ) → t.rest ≡ c ∷ more → (if c == 45 then not (is_at_gap more) else may_begin (in_flow t.held) adjacent c more) ≡ true → Q (fetch_plain_scalar t)
  plain_here c more e g = grind (arith, nat_tests, eqb-true)

  no_separation : (c : ℕ) → (is_white c || (c == 35)) ≡ true → Reads c
  no_separation c h more e = absurd (cc (h, ap begins_separation (sym e) ∙ solid))

  dash : Reads 45
  unfolding class_of
  dash more e = grind (arith, nat_tests, eqb-true, gap_after, plain_here)

  question : Reads 63
  unfolding class_of
  question more e = grind (arith, nat_tests, eqb-true, gap_after, plain_here)

  colon : Reads 58
  unfolding class_of
  colon more e = grind (arith, nat_tests, eqb-true, plain_here, value_is)

  other : (c : ℕ) → IsNone told c → Reads c
  unfolding classes.is_blank_or_end classes.is_blank classes.is_break classes.is_nul classes.is_flow class_of
  other c o more e = grind (arith, nat_tests, eqb-true, token_by, class_of, fetch_plain_scalar, plain_here)

  each : (c : ℕ) → Reads c
  unfolding class_of classes.is_blank classes.is_break classes.is_nul
  each c =
      let no_nul : Reads 0 = λ more e. let none : has_no_nul (0 ∷ more) ≡ true = ap has_no_nul (sym e) ∙ clean in absurd (cc none) in
      each_of Reads c told (also no_nul (also (no_separation 32 refl) (also (no_separation 9 refl) (also (no_separation 10 refl)
      (also (no_separation 13 refl) (also (no_separation 35 refl) (also dash (also question (also colon (also h.comma (also h.open_bracket
      (also h.close_bracket (also h.open_brace (also h.close_brace (also (h.anchor Alias) (also (h.anchor Anchor) (also h.tag (also (grind (arith, plain_here))
      (also (grind (arith, plain_here)) (also (h.quoted Single) (also (h.quoted Double) (also h.percent (also h.at_sign (also h.backtick tt)))))))))))))))))))))))) (other c)

  pub token_holds : is_empty t.rest ≡ false → Q (fetch_token t)
  unfolding fetch_token
  token_holds some = grind (arith, nat_tests, eqb-true, each)

-- ---- lines for the document, and content

-- no line for the document begins here
abbrev pub IsNoLine : ScannerState → Type 0
IsNoLine t = (((t.held.position.col == 0) && is_document_marker t.rest) ≡ false) × (t.held.position.col ≡ 0 → (peek t.rest == 37) ≡ false)

-- What is so of what the functions give for lines for the document and for a token, and of the refusal of content that is not deep enough.
pub record ContentHolds (Q : Result ScannerState Fault → Type 0) (t : ScannerState) : Type 0 where
  pub directive : t.rest ≡ 37 ∷ after t.rest → t.held.position.col ≡ 0 → Q (fetch_directive t)
  pub document_start : (more : List ℕ) → t.rest ≡ 45 ∷ 45 ∷ 45 ∷ more → is_at_gap more ≡ true → t.held.position.col ≡ 0 → Q (fetch_document_marker Tok.document_start t)
  pub document_end : (more : List ℕ) → t.rest ≡ 46 ∷ 46 ∷ 46 ∷ more → is_at_gap more ≡ true → t.held.position.col ≡ 0 → Q (fetch_document_end t)
  pub shallow : IsNoLine t → nat_lt (t.held.position.col + 1) t.held.indent ≡ true → Q (Err (At InvalidIndentation t.held.position))
  pub token : IsNoLine t → IsDeep t.held → Q (fetch_token t)

pub content_holds : (Q : Result ScannerState Fault → Type 0) (t : ScannerState) → is_empty t.rest ≡ false → ContentHolds Q t → Q (fetch_content t)
unfolding fetch_content fetch_first_column fetch_indented
content_holds Q t some h =
    let dashes = marked 45 t.rest refl in
    let dots = marked 46 t.rest refl in
    grind (arith, nat_tests, eqb-true, h, dashes, dots, no_marker t.rest)
