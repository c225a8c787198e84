-- Plain scalars: what holds between two fetches holds after them.
use Rattle.proof_scanner.proofs.Common.{Arrives, Bool, Context, Entry, FlowLevel, HasNoTabs, Holds, IsPiece, Key, Levels, List, None, Ok, Option, Plain, Position, ScannerState, Site, Some, Style, Tok, [], allow_key, and_parts, ap, arith, before_by, before_past, begins_separation, begins_solid, begins_white, collection_of, comes_plain, ends_with_content, eqb-true, false, fetch_plain_scalar, has_break, has_no_nul, in_flow, innermost, innermost_column, is_adjacent, is_break, is_deep_enough, is_empty, is_gap, is_indented, is_no_comment, is_one_of, is_white, is_whole_plain, leading, least_column, map, nat_tests, not, other, plain_value, position_after, position_append, read, read_as, refl, scans_end, seen, true, unroll_non_block_indents, went, whole_plain, without_open, ℕ, ◌++◌, ◌==◌, ◌∙◌, ◌∷◌, ◌≡◌, ◌≤◌, after_plain, go_on, on_held, push, with_levels}
use Rattle.defs_token.specs.Account.{Account as PieceAccount}
use Rattle.model_scanner.specs.Machine as machine
use Rattle.model_scanner.specs.Plain.{plain}
use Rattle.proof_lexers.specs.PlainEnds as plains
use Rattle.proof_scanner.proofs.Sound.Steps.{AreClosed, ArrivesBy, IsDeep, IsRead, Onward, adjacent_kept, begins_as_read, ends_in_line, gap_is_separation, less_or, node_read, not_before_after, on_one_line, same_has_break, saved_is, saved_keys, site_of, site_then, white_is_no_hash, with_entries, without_is, no_break_on_line}
use Rattle.proof_scanner.proofs.Sound.PlainLines.{PlainFits, plain_fits}

-- ---- what was read

-- What the scan of a plain scalar read at a position: its piece, and the gap after it.
pub record PlainAs (ctx : Context) (p : Position) (text : List ℕ) (x : machine.Read Plain) : Type 0 where
  piece : List ℕ
  gap : List ℕ
  cut : text ≡ piece ++ (gap ++ x.rest)
  whole : is_whole_plain ctx.flow (collection_of ctx.indent) piece (gap ++ x.rest) ≡ true
  white : is_gap gap ≡ true
  ends : begins_white x.rest ≡ false
  value_is : plain_value piece ≡ Some x.value.text
  leads : x.value.leading ≡ has_break gap
  end_is : x.position ≡ position_after (position_after p piece (gap ++ x.rest)) gap x.rest
  fits : PlainFits ctx p piece gap x.rest

plain_as : (ctx : Context) (p : Position) (text : List ℕ) (x : machine.Read Plain) → has_no_nul text ≡ true → begins_solid text ≡ true → is_indented ctx p ≡ true → plain ctx text p ≡ Ok x → PlainAs ctx p text x
plain_as ctx p text x none begins indented e = (elim (read_as e (scans_end ctx text p none begins indented)) as (λ y w. plain ctx text p ≡ Ok y → PlainAs ctx p text y) [
  | whole_plain piece gap rest value cut whole white ends value_is ↦ λ k.
      let fits = plain_fits ctx p text piece gap (plains.after_plain p piece gap rest value) begins cut k in
      search (cut, whole, white, ends, value_is, same_has_break gap, position_append p piece gap rest, fits)
]) e

-- ---- its piece and its gap

content_last : (c : ℕ) (r : List ℕ) → ends_with_content c r ≡ true → ends_in_line (c ∷ r) ≡ true
content_last c [] h = grind (arith, and_parts)
content_last c (d ∷ r) h = content_last d r h

whole_solid : (fl : Bool) (collection : Option ℕ) (piece next : List ℕ) → is_whole_plain fl collection piece next ≡ true → is_empty piece ≡ false
whole_solid fl a b d h = grind arith

-- a gap has no comment
pub no_comment : (g : List ℕ) → is_gap g ≡ true → (is_one_of g 35 ≡ false) × (leading is_no_comment g ≡ g)
no_comment [] h = (refl, refl)
no_comment (c ∷ g) h = grind (arith, and_parts, white_is_no_hash, no_comment g)

-- what begins no separation begins with content
pub solid_text : (text : List ℕ) → is_empty text ≡ false → begins_separation text ≡ false → begins_solid text ≡ true
solid_text a b h = grind (arith, is_white)

pub same_innermost : (bs : List ℕ) → innermost_column (map (λ n. Some n) bs) ≡ innermost bs
same_innermost a = grind arith

-- ---- the step

module _ (text : List ℕ) (t : ScannerState) (a : Arrives text t) (deep : IsDeep t.held) (comes : comes_plain (in_flow t.held) (t.held.position.index == t.held.adjacent_value_at) t.held.position.col t.rest ≡ true) where
  -- the levels without those that open no collection
  abbrev pub gone : Levels
  gone = without_open t.held.indent t.held.indents t.held.tokens

  pub closed : AreClosed t.held.indent t.held.indents t.held.tokens gone
  closed = without_is t.held.indent t.held.indents t.held.tokens a.are_levels

  abbrev pub ctx : Context
  ctx = record { flow = in_flow t.held; indent = gone.indent }

  module _ (x : machine.Read Plain) (scanned : plain ctx t.rest t.held.position ≡ Ok x) where
    pub q : PlainAs ctx t.held.position t.rest x
    q = plain_as ctx t.held.position t.rest x a.is_clean (solid_text t.rest (grind arith) a.is_solid) (less_or (in_flow t.held) gone.indent t.held.position.col (omega (arith, deep, closed.not_deeper))) scanned

    abbrev tok : Tok
    tok = Tok.scalar Style.plain x.value.text

    -- the scanner after it
    abbrev pub u : ScannerState
    u = on_held (λ s. push t.held.position tok (after_plain x.value.leading s)) (go_on x (with_levels (allow_key false (record t.held { keys = saved_keys t.held })) gone))

    one_line_of : is_empty x.rest ≡ false → x.position.line ≤ t.held.position.line → (has_break q.piece ≡ false) × (has_break q.gap ≡ false)
    unfolding is_break
    one_line_of some h = grind (arith, q, not_before_after, on_one_line, nat_tests, eqb-true, content_last, and_parts, no_break_on_line)

    module _ (fs : List FlowLevel) (ks : List (Option Key)) (es : List Entry) (flow : t.held.flow ≡ fs) (r : ArrivesBy text t fs ks es) where
      abbrev at : Site
      at = site_of t fs r.site

      abbrev fl : Bool
      fl = not (is_empty fs)

      -- the account with which the piece is looked at
      abbrev own : PieceAccount
      own = seen (with_entries r.site r.line es) at r.separation

      least_here : least_column at.blocks true ≡ gone.indent
      least_here = ap (λ bs. least_column bs true) (r.blocks_are ∙ closed.same_columns) ∙ closed.is_least.1

      piece_is : IsPiece own q.piece (q.gap ++ x.rest) None t.held.position tok
      piece_is = grind (arith, q, same_innermost at.blocks, closed, begins_as_read ctx (is_adjacent own.before) t.rest t.held.position x, scanned)

      deep_by : (f : Bool) → f ≡ in_flow t.held → is_deep_enough f tok at ≡ true
      deep_by a h = grind (arith, nat_tests, eqb-true, q, least_here)

      no_tabs : HasNoTabs (site_then t fs r.site q.piece tok (q.gap ++ x.rest)) q.gap x.rest
      no_tabs = grind (arith, q, no_comment, least_here)

      pub is_read : IsRead t u None fs r.site r.line es r.separation tok q.piece q.gap
      is_read =
          let far = adjacent_kept t u other q.piece (q.gap ++ x.rest) q.gap (whole_solid ctx.flow (collection_of ctx.indent) q.piece (q.gap ++ x.rest) q.whole) q.end_is a.was_adjacent refl refl in
          grind (arith, q, closed, far, gap_is_separation, whole_solid, no_tabs, piece_is, deep_by, least_here, no_comment q.gap q.white, q.leads, one_line_of)

    pub stands : Onward text t.rest u
    stands = node_read text t u None tok q.piece q.gap deep a is_read

-- a plain scalar
pub plain_keeps : (text : List ℕ) (t : ScannerState) (a : Arrives text t) → IsDeep t.held → comes_plain (in_flow t.held) (is_adjacent (before_past (before_by a.base.site.before) a.separation)) t.held.position.col t.rest ≡ true → Holds (Onward text t.rest) (fetch_plain_scalar t)
unfolding fetch_plain_scalar unroll_non_block_indents
plain_keeps text t a deep there =
    let comes : comes_plain (in_flow t.held) (t.held.position.index == t.held.adjacent_value_at) t.held.position.col t.rest ≡ true = grind arith in
    rw (saved_is t.held)
    (read (unroll_non_block_indents (allow_key false (record t.held { keys = saved_keys t.held }))) (plain (ctx text t a deep comes) t.rest t.held.position) _ (λ x k. went (stands text t a deep comes x k)))
