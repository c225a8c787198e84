-- Block scalars: what holds where one begins holds between two fetches after it. No key waits over it, and after it a key may begin.
use Rattle.proof_scanner.proofs.Common.{Act, Arrives, Block, BlockStyle, Bool, Holds, IsLive, IsPiece, IsReadOn, IsTakenBy, Key, KnowsKey, Levels, Line, List, MayChoose, None, NotBefore, Ok, Option, Outside, Position, Previous, Read, ScannerState, Site, SoFar, Some, Tok, Token, [], act_of, allow_key, ap, append-nil, append_assoc, arith, awaits_past, before_by, begun_by, block, block_may_end, block_position, block_read, block_scalar, block_style, chosen, collection_of, content_position, false, fetch_block_scalar, folded, free, further_lines_stand, further_position, gives_block_scalar, has_break, has_no_nul, if◌then◌else◌, innermost, is_break, is_empty, is_in_column, is_literal, is_one_of, least_for, line_past, literal, may_precede, may_stand, nat_tests, no_nul_after, position_after, previous_by, read, refl, seen, shown_position, site_here, site_in, site_past, subst, suc, sym, take, taken, token, tokens_up_to, true, unroll_non_block_indents, went, without_open, without_spaces, ℕ, ◌&&◌, ◌++◌, ◌∙◌, ◌∷◌, ◌≡◌, ◌⊎◌, eqb-true, go_on, push, with_levels, on_held, on_held}
use Rattle.model_scanner.specs.declared.kind.BlockStyle as kind
use Rattle.model_scanner.specs.declared.kind.BlockStyle.TheVariants.{Literal, Folded}
use Rattle.defs_token.specs.Account as pieces
use Rattle.proof_scanner.proofs.Sound.Steps.{AreClosed, ArrivesBy, IsDeep, Onward, Reads, adjacent_kept, after_piece, by_sides, is_of_node, knows_saved, last_whole, no_waiting, not_before_after, not_before_same, not_before_then, outer_then, saved, saved_is, saved_keys, some_rest, stands_so, tokens_then, weaker, with_entries, without_is, is_written, keyless_completes}
use Rattle.proof_scanner.proofs.Cut.Pieces.Blocks.{spaces_of, spaces_cut, spaces_fill, spaces_position, some_piece, token_of, IsBelow, below}
use Rattle.proof_scanner.proofs.Sound.BlockEnds.{IsLeast, BlockAs, block_as, ends_at_margin}
use Rattle.proof_scanner.proofs.Sound.Outsides.{must_be_here, saved_numbered, open_node, new_key, keys_saved}
use Rattle.proof_scanner.proofs.Sound.PlainKeeps.{same_innermost}

-- ---- spaces

spaces_in_line : (t : List ℕ) → has_break (spaces_of t) ≡ false
unfolding is_break
spaces_in_line [] = refl
spaces_in_line (c ∷ r) = grind (arith, spaces_in_line r)

no_tab_in : (n : ℕ) (t : List ℕ) → is_one_of (take n (spaces_of t)) 9 ≡ false
no_tab_in (suc n) (c ∷ r) = grind (arith, no_tab_in n r)
no_tab_in n t = grind arith

-- ---- its token

-- what is said of the token of a block scalar
pub record IsBlockToken (tok : Tok) : Type 0 where
  pub act : act_of tok ≡ gives_block_scalar
  pub begun : begun_by tok ≡ []
  pub before : previous_by tok ≡ block_scalar
  pub lines : (column : ℕ) (piece : List ℕ) → further_lines_stand column tok piece ≡ true
  pub precedes : (bs piece next : List ℕ) → may_precede false bs tok piece next ≡ block_may_end bs piece next
  pub awaits : (bs : List ℕ) (b : Bool) (next : List ℕ) → awaits_past false tok bs b next ≡ false
  pub shown : (s : Site) (piece next : List ℕ) → shown_position s piece tok next ≡ content_position (block_read (innermost s.blocks) piece next) s.position piece next

-- ---- the step

-- what may begin after it: a key, if none must begin with it
after_by : (must : Bool) (here : Position) (bs : List ℕ) (k : Act) (l : Line) → k ≡ gives_block_scalar → ((l ≡ free) × (must ≡ false)) ⊎ (l ≡ taken) → line_past must here bs k false l ≡ Some (record { line = free; blocks = bs })
after_by must a bs k l e b = grind arith

-- what the scanner holds after a block scalar, as the model has it
abbrev pub read_state : ScannerState → Levels → BlockStyle → Read Block → ScannerState
read_state t w style x =
    on_held (λ s. push x.value.position (token_of style x.value.text) (record s { leading = true }))
    (go_on x (with_levels (allow_key true (record t.held { keys = saved_keys t.held })) w))

module _ (text : List ℕ) (t : ScannerState) (k : Option Key) (a : ArrivesBy text t [] (k ∷ []) []) (within : t.held.flow ≡ []) (keys : t.held.keys ≡ k ∷ []) (deep : IsDeep t.held) (w : Levels) (closed : AreClosed t.held.indent t.held.indents t.held.tokens w)
    (style : BlockStyle) (x : Read Block) (r : BlockAs style w.indent t.held.position t.rest x) where
  abbrev p : Position
  p = t.held.position

  abbrev tok : Tok
  tok = token_of style r.scalar.text

  n : IsBlockToken tok
  n = grind arith

  abbrev here : Site
  here = site_here false p a.site

  abbrev gap : List ℕ
  gap = spaces_of r.next

  abbrev rest : List ℕ
  rest = without_spaces r.next

  abbrev end : Position
  end = further_position p r.piece r.next

  abbrev own : Token
  own = token (block_position r.scalar.column p r.piece r.next) tok

  -- the scanner after it
  abbrev after_it : ScannerState
  after_it = record { rest = rest; held = record t.held { position = end; tokens = t.held.tokens ++ own ∷ []; keys = saved_keys t.held; indents = w.indents; indent = w.indent; key_allowed = true; leading = true } }

  is_solid : is_empty r.piece ≡ false
  is_solid = some_piece (collection_of w.indent) r.piece r.next r.scalar r.is_read

  some : is_empty t.rest ≡ false
  some = some_rest t.rest r.piece r.next r.is_text is_solid

  clean : has_no_nul r.next ≡ true
  clean = no_nul_after r.piece r.next (rw (sym r.is_text) a.is_clean)

  least : IsLeast w.indent here.blocks
  least = rw (a.blocks_are ∙ closed.same_columns) closed.is_least

  abbrev seen_here : pieces.Account
  seen_here = seen (with_entries a.site a.line []) here a.separation

  is_piece : IsPiece seen_here r.piece r.next None (shown_position here r.piece tok r.next) tok
  is_piece = grind (arith, (n.shown here r.piece r.next ∙ ap (λ o. content_position o p r.piece r.next) (ap (λ c. block_read c r.piece r.next) (sym least.0) ∙ r.is_read)), (ap (λ c. block_read c r.piece r.next) (same_innermost here.blocks ∙ sym least.0) ∙ (r.is_read ∙ ap (λ z. Some (record { style = z; column = r.scalar.column; text = r.scalar.text })) r.style_is)))

  stands : may_stand false a.site here a.separation r.piece tok r.next ≡ true
  stands = rw (a.is_indented some, n.lines (least_for tok here) r.piece, n.precedes here.blocks r.piece r.next, r.may_end here.blocks least) refl

  abbrev key_now : Option Key
  key_now = saved t.held.key_allowed (new_key t) k

  -- the saved or open key is not after the position
  before_it : (y : Key) → key_now ≡ Some y → NotBefore y.position p
  before_it y e = grind (arith, not_before_same, not_before_then, weaker, not_before_after)

  -- no key waits over it
  dead : (y : Key) → key_now ≡ Some y → IsLive y end rest → ⊥
  dead y e l =
      let early = before_it y e in
      let low : IsBelow p end rest = below seen_here w.indent refl (same_innermost here.blocks ∙ sym least.0) r.piece r.next r.scalar clean r.is_read in grind (arith, nat_tests, eqb-true, low, early)

  place : end ≡ position_after (position_after p r.piece r.next) gap rest
  place = spaces_position (position_after p r.piece r.next) r.next

  -- ---- rows

  same : site_in false (act_of tok) p a.site ≡ here
  same = ap (λ b. site_in false b p a.site) n.act

  abbrev site_then : Site
  site_then = site_past false here r.piece tok r.next here.blocks

  -- if the key that is open after it need not be one, and none must begin here
  rows : (strict : Bool) → MayChoose strict false key_now end rest → SoFar strict text (gap ++ rest) (with_entries site_then free []) (λ ws last. t.held.tokens ++ own ∷ [])
  rows strict may =
      let here_is : (((a.line_here ≡ free) × ((strict && is_in_column p.col here.blocks) ≡ false)) ⊎ (a.line_here ≡ taken)) × MayChoose strict false k t.held.position t.rest =
      grind (arith, must_be_here text t k a within deep, some) in
      let after : Outside = record { line = free; blocks = here.blocks } in
      let all : SoFar strict text r.next (outer_then text t k a r.piece r.next tok here r.is_text same after) (λ ws last. a.tokens ++ tokens_then a.site here r.piece tok r.next a.line_here) =
      keyless_completes text t k a r.piece r.next tok here r.is_text same strict after
      (assumption (is_solid, is_piece, stands, a.is_line, after_by (strict && is_in_column p.col here.blocks) p here.blocks (act_of tok) a.line_here n.act here_is.0, no_waiting (has_break r.piece) false refl)) here_is.1 in
      subst (λ l. SoFar strict text l (with_entries site_then free []) (λ ws last. t.held.tokens ++ own ∷ [])) (spaces_cut r.next)
      (subst (λ es. SoFar strict text r.next (with_entries site_then free es) (λ ws last. t.held.tokens ++ own ∷ [])) n.begun
      (subst (λ ts. SoFar strict text r.next (with_entries site_then free (begun_by tok)) (λ ws last. ts)) (grind (arith, append-nil, (n.shown here r.piece r.next ∙ ap (λ o. content_position o p r.piece r.next) (ap (λ c. block_read c r.piece r.next) (sym least.0) ∙ r.is_read)), append_assoc)) all))

  then_rows : (strict c : Bool) (cs : List Bool) (y : Option Key) → key_now ≡ y → MayChoose strict c y end rest →
      SoFar strict text (gap ++ rest) (chosen c cs (y ∷ []) (with_entries site_then free [])) (tokens_up_to (chosen c cs (y ∷ []) (with_entries site_then free [])) (y ∷ []) (t.held.tokens ++ own ∷ []))
  then_rows strict c cs None e may = rows strict (rw e tt)
  then_rows strict true cs (Some y) e may = absurd (grind (arith, dead))
  then_rows strict false cs (Some y) e may = rows strict (rw e may)

  taken_by : (y : Option Key) → key_now ≡ y → IsTakenBy true end rest y free
  taken_by None e = tt
  taken_by (Some y) e = λ l. absurd (dead y e l)

  read_on : (b : Previous) → b ≡ block_scalar → IsReadOn b (position_after p r.piece r.next) gap rest
  read_on b e = grind (arith, ends_at_margin, clean)

  scalar_reads : Reads t after_it site_then r.piece r.next gap
  scalar_reads =
      grind (arith, n, r, is_solid, place, closed, spaces_cut, spaces_fill, no_tab_in, last_whole, spaces_in_line, read_on, adjacent_kept t after_it (before_by (previous_by tok)) r.piece r.next gap is_solid place)

  -- What stands after a block scalar that was read; the spaces after it are the separation.
  pub block_stands : KnowsKey text (a.separation ++ t.rest) t.held.position k → Onward text t.rest (read_state t w style x)
  block_stands known = rw r.is (rw closed.same_tokens (stands_so text t after_it r.piece r.next gap [] (key_now ∷ []) (with_entries site_then free []) a.is_clean a.started a.going scalar_reads (record {
    fits = grind (arith, within, keys_saved t k [] keys, taken_by key_now refl, saved_numbered t a.tokens _ k [] own a.tokens_are a.are_numbered t.held.key_allowed);
    is_open = open_node text t k a within deep some end rest (grind (arith, place, not_before_then, not_before_after)) (position_after p r.piece r.next) (after_piece p r.piece r.next is_solid);
    carries = λ cs x key m inside some. absurd (cc inside);
    knows = knows_saved text t r.piece r.next tok r.is_text end gap rest place (spaces_cut r.next) k a
        (is_written text t k a r.piece r.next tok here r.is_text same false a.line is_solid is_piece) within deep (ap is_of_node n.act) known;
    completes = λ strict c cs may. then_rows strict c cs key_now refl may;
  })))

-- ---- the function

-- A block scalar is read as in the row.
pub block_keeps : (text : List ℕ) (style : kind.BlockStyle) (t : ScannerState) (more : List ℕ) → t.rest ≡ (if is_literal style then 124 else 62) ∷ more → is_empty t.held.flow ≡ true → IsDeep t.held → Arrives text t → Holds (Onward text t.rest) (fetch_block_scalar style t)
unfolding fetch_block_scalar unroll_non_block_indents
block_keeps text style t more e out deep arrives =
    rw (saved_is t.held)
    (read (unroll_non_block_indents (allow_key true (record t.held { keys = saved_keys t.held }))) (block (is_literal style) w.indent t.rest t.held.position) _ (λ x i. went (of style e x i)))
  where
    w : Levels
    w = without_open t.held.indent t.held.indents t.held.tokens

    by : (style : BlockStyle) (x : Read Block) → BlockAs style w.indent t.held.position t.rest x → Onward text t.rest (read_state t w style x)
    by style x r =
        by_sides text t (λ v. is_empty v.held.flow ≡ true → Onward text v.rest (read_state v w style x)) arrives
        (λ k a n o. block_stands text _ k a refl refl deep w (without_is t.held.indent t.held.indents t.held.tokens arrives.are_levels) style x r n) (λ f fs k ks y es a o. absurd (cc o)) out

    of : (style : kind.BlockStyle) → t.rest ≡ (if is_literal style then 124 else 62) ∷ more → (x : Read Block) → block (is_literal style) w.indent t.rest t.held.position ≡ Ok x →
        Onward text t.rest (on_held (λ s. push x.value.position (Tok.scalar (block_style style) x.value.text) (record s { leading = true }))
        (go_on x (with_levels (allow_key true (record t.held { keys = saved_keys t.held })) w)))
    of Literal e x i = by literal x (grind (arith, clean, no_nul_after, block_as))
    of Folded e x i = by folded x (grind (arith, clean, no_nul_after, block_as))
