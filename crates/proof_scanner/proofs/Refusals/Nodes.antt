-- Faults of names, tags, plain and quoted scalars: no such piece begins with the text.
use Rattle.proof_scanner.proofs.Common.{no_nul_after, anchor_name, ap, are_single, Arrives, context, false, Fault, fetch_anchor, fetch_flow_scalar, fetch_tag, has_no_nul, in_flow, is_empty, List, mark_of, NameKind, names_end, node_start, Ok, quoted, Quotes, Read, refused_as, ScannerState, subst, sym, tags_end, true, ℕ, ◌∙◌, ◌∷◌, ◌≡◌, [], columns, Context, Position, position_after, ◌++◌, arith, eqb-true, nat_tests, AnchorName, Alias, Anchor, allow_key, before_by, before_past, begins_left, collection_of, comes_plain, fetch_plain_scalar, goes_on, goes_over, HasNoPlainFault, HasTab, innermost, is_adjacent, IsPlainFault, IsPlainRefusal, least_column, nat_le, nat_lt, no_plain, Option, plain_first, Problem, scans_end, unroll_non_block_indents, without_open, FlowIndentation, PlainDashInFlow, PlainTab}
use Rattle.proof_scanner.proofs.Refusals.Common.{Faults, IsDeep, LiesDeep, QuotedAs, Told, goes, in_turn, looked_at, none_begins, quoted_as, read, saved_is, AreClosed, IsWhy, less_or, saved_keys, solid_text, stuck_by, without_is}
use Rattle.proof_scanner.proofs.Refusals.Quotes.{after_told, refused_told, tab_told}
use Rattle.model_scanner.specs.Tag as tags
use Rattle.proof_lexers.specs.NameEnds as names
use Rattle.proof_lexers.specs.TagEnds as tag_ends
use Rattle.proof_scanner.specs.NoPiece as none
use Rattle.defs_token.specs.Plain.{inside}
use Rattle.model_scanner.specs.Plain.{plain}
use Rattle.proof_lexers.specs.PlainEnds as plains

-- ---- texts

over_alike : (c : Context) (collection : Option ℕ) (text next : List ℕ) → collection_of c.indent ≡ collection → plains.goes_over c text next ≡ goes_over c.flow collection text next
over_alike c a b d e = grind (arith, goes_on, inside)

-- ---- the scan

module _ {text : List ℕ} {t : ScannerState} (a : Arrives text t) (some : is_empty t.rest ≡ false) (lies : LiesDeep t) (deep : IsDeep t.held)
    (comes : comes_plain (in_flow t.held) (is_adjacent (before_past (before_by a.base.site.before) a.separation)) t.held.position.col t.rest ≡ true) where
  abbrev collections : List ℕ
  collections = columns t.held.indent t.held.indents

  -- the levels without those that open no collection
  levels : AreClosed t.held.indent t.held.indents t.held.tokens (without_open t.held.indent t.held.indents t.held.tokens)
  levels = without_is t.held.indent t.held.indents t.held.tokens a.are_levels

  abbrev ctx : Context
  ctx = record { flow = in_flow t.held; indent = (without_open t.held.indent t.held.indents t.held.tokens).indent }

  least_by_levels : least_column collections true ≡ ctx.indent
  least_by_levels = ap (λ bs. least_column bs true) levels.same_columns ∙ levels.is_least.1

  collection_is : collection_of ctx.indent ≡ innermost collections
  collection_is = levels.is_least.0 ∙ ap innermost (sym levels.same_columns)

  -- the plain scalar that begins here is none
  plain_stuck : (why : Problem) (at : Position) (x : IsPlainFault (in_flow t.held) collections t.held.position t.rest why at) → plain_first (in_flow t.held) collections t.held.position t.rest why at x → IsWhy text why at
  plain_stuck why at x first =
      stuck_by a some why at (λ b bs k. (l : comes_plain b (is_adjacent (before_past (before_by a.base.site.before) a.separation)) t.held.position.col t.rest ≡ true) × (y : IsPlainFault b bs t.held.position t.rest why at) × plain_first b bs t.held.position t.rest why at y) (comes, x, first)
      (λ c may m. record { fails = no_plain m.0 m.1; is_first = (looked_at a some lies c [], m.2) })

  -- the scalar does not begin left of its column
  no_column : begins_left ctx t.held.position ≡ false → HasNoPlainFault ctx.flow collections t.held.position t.rest FlowIndentation
  no_column deep place a = grind (arith, least_by_levels)

  -- no TAB that is wrong begins a line of it
  no_tab_fault : (HasTab ctx t.rest → ⊥) → HasNoPlainFault ctx.flow collections t.held.position t.rest PlainTab
  no_tab_fault free place a = grind (arith, nat_tests, eqb-true, over_alike, collection_is, least_by_levels)

  refused : (f : Fault) → IsPlainRefusal ctx t.held.position t.rest f → Told text f
  refused f (plains.by_column flow left) =
      let shallow : nat_le (least_column collections true) t.held.position.col ≡ false = grind (arith, nat_tests, least_by_levels, left) in
      λ _. plain_stuck FlowIndentation t.held.position (none.by_column flow shallow) tt
  refused f (plains.by_tab deep tab) =
      λ _. plain_stuck PlainTab t.held.position
      (none.by_tab tab.before tab.blanks tab.rest tab.column tab.is_text (sym (over_alike ctx (innermost collections) tab.before (9 ∷ (tab.blanks ++ tab.rest)) collection_is) ∙ tab.is_over) tab.is_at (ap (nat_lt tab.column) least_by_levels ∙ tab.is_left) tab.are_blanks tab.is_token)
      (no_column deep)
  refused f (plains.by_dash before rest deep free flow cut begins over apart) =
      λ _. plain_stuck PlainDashInFlow (position_after t.held.position before (45 ∷ rest))
      (none.by_dash before rest flow cut begins (sym (over_alike ctx (innermost collections) before (45 ∷ rest) collection_is) ∙ over) apart)
      (no_column deep, no_tab_fault free)

  pub plain_told : Faults (Told text) (fetch_plain_scalar t)
  unfolding fetch_plain_scalar unroll_non_block_indents
  plain_told =
      rw (saved_is t.held)
      (read (unroll_non_block_indents (allow_key false (record t.held { keys = saved_keys t.held }))) (plain ctx t.rest t.held.position) _ (λ f k. refused f (refused_as k
      (scans_end ctx t.rest t.held.position a.is_clean (solid_text t.rest some a.is_solid) (less_or (in_flow t.held) ctx.indent t.held.position.col (omega (arith, deep, levels.not_deeper)))))) (λ x k. goes))

module _ {text : List ℕ} {t : ScannerState} (a : Arrives text t) (some : is_empty t.rest ≡ false) (lies : LiesDeep t) where
  -- `*` or `&`
  pub name_told : (kind : NameKind) (more : List ℕ) → t.rest ≡ mark_of kind ∷ more → Faults (Told text) (fetch_anchor kind t)
  unfolding fetch_anchor
  name_told kind more e = read (node_start t.held) (anchor_name t.rest t.held.position) _ (λ f k. by kind e f (refused_as (ap (λ r. anchor_name r t.held.position) (sym e) ∙ k) (names_end (mark_of kind) more t.held.position))) (λ x k. goes)
    where
      by : (kind : NameKind) → t.rest ≡ mark_of kind ∷ more → (f : Fault) → names.IsNameRefusal t.held.position more f → Told text f
      by Alias e f (names.nameless lacks) = λ _. none_begins a some lies AnchorName _ (none.nameless true more e lacks) tt
      by Anchor e f (names.nameless lacks) = λ _. none_begins a some lies AnchorName _ (none.nameless false more e lacks) tt

  -- `!`
  pub tag_told : (more : List ℕ) → t.rest ≡ 33 ∷ more → Faults (Told text) (fetch_tag t)
  unfolding fetch_tag
  tag_told more e =
      read (node_start t.held) (tags.tag (in_flow t.held) t.rest t.held.position) _
      (λ f k. elim (refused_as (ap (λ r. tags.tag (in_flow t.held) r t.held.position) (sym e) ∙ k) (tags_end (in_flow t.held) more t.held.position)) as (λ g w. Told text g) [
        | tag_ends.at_start why reason ↦ λ _. none_begins a some lies why _ (none.tagless more why e reason) tt
      ]) (λ x k. goes)

  -- `'` or `"`
  pub quoted_told : IsDeep t.held → (quotes : Quotes) (more : List ℕ) → t.rest ≡ none.quote_of (are_single quotes) ∷ more → Faults (Told text) (fetch_flow_scalar quotes t)
  unfolding fetch_flow_scalar
  quoted_told deep quotes more e =
      let same : (context (node_start t.held)).indent ≡ t.held.indent = ap (λ h. h.indent) (saved_is t.held) in
      let clean : has_no_nul more ≡ true = no_nul_after (none.quote_of (are_single quotes) ∷ []) more (rw e at a.is_clean) in
      let read_as : (x : Read (List ℕ)) → quoted (are_single quotes) (context (node_start t.held)) t.rest t.held.position ≡ Ok x → QuotedAs (are_single quotes) (context (node_start t.held)) t.held.position t.rest x = λ x k.
      rw e
      (quoted_as quotes (context (node_start t.held)) t.held.position more x clean (subst (λ r. quoted (are_single quotes) (context (node_start t.held)) r t.held.position ≡ Ok x) e k)) in
      read (node_start t.held) (quoted (are_single quotes) (context (node_start t.held)) t.rest t.held.position) _
      (λ f k. refused_told a some lies deep (are_single quotes) (context (node_start t.held)) same more e clean f (ap (λ r. quoted (are_single quotes) (context (node_start t.held)) r t.held.position) (sym e) ∙ k))
      (λ x k. in_turn (after_told a some lies (are_single quotes) (context (node_start t.held)) x (read_as x k) same) (λ v i. in_turn (tab_told a some lies (are_single quotes) (context (node_start t.held)) x (read_as x k) same v i) (λ w j. goes)))
