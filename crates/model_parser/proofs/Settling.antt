-- What may come behind a node, and what is read next.
use Rattle.model_parser.proofs.Common.{arith, [], and_parts, ap, before, begins_content, begins_node, Bool, both_ways, cases, context_at, empty, empty_event, ends_document, ends_entry, ends_flow_key, ends_flow_pair, ends_indentless_entry, ends_item, ends_item_key, ends_part, false, Goal, goal_and, grammar, Held, is_in_mapping, is_node, is_over_document, is_past_directives, is_under, IsFor, IsGoing, IsNested, keep, Kind, kind_of, Leaves, leaves, List, may_begin, MayCome, next_at, NodeContext, None, not, nothing_held, nothing_written, open_at, other_next, past, Place, place_of, reading, refl, row_of, Settles, Some, State, step, sym, then_in, Tok, true, without_node, work_of, Works, works, ◌&&◌, ◌∙◌, ◌∷◌, ◌≡◌, ◌⊎◌, IsNoDirective}
use Rattle.model_parser.proofs.StepRows.{Alike, has_goal, is_going, leads, leaves_so, may_come, refuse_row, refuses, steps}
use Rattle.defs_event.specs.Grammar as table
use Rattle.model_parser.specs.declared.state.State.TheVariants as state

-- ---- under a node

pub under_goes : (ss : List State) → is_under ss ≡ true → IsGoing ss
under_goes ss h = grind arith

pub under_other : (ss : List State) → is_under ss ≡ true → other_next ≡ next_at Goal.done ss
under_other ss h = grind arith

pub under_past : (ss : List State) → is_under ss ≡ true → is_past_directives Goal.done ss ≡ false
under_past ss h = grind arith

pub under_any : (ss : List State) → is_under ss ≡ true → (k : Kind) → may_begin Goal.done ss k ≡ true
under_any ss h k = grind arith

pub under_reads : (ss : List State) → is_under ss ≡ true → has_goal (works ss) ≡ true
under_reads ss h = grind arith

pub mapping_under : (ss : List State) → is_in_mapping ss ≡ true → is_under ss ≡ true
mapping_under ss h = grind arith

-- after a node, what goes on with these
pub then_works : (ss : List State) (h : Held) (t : Tok) → before grammar h t (then_in (place_of ss)) (past ss (works ss)) ≡ works ss
then_works ss h t = grind arith

-- ---- behind a node

-- whether a token of this kind may stand there
abbrev pub closes : List State → Kind → Bool
closes (state.DocumentEnd ∷ ss) = ends_document
closes (state.BlockSequenceEntries ∷ ss) = ends_entry
closes (state.IndentlessSequenceEntries ∷ ss) = ends_indentless_entry
closes (state.BlockMappingEntries ∷ ss) = ends_part
closes (state.BlockMappingValue ∷ ss) = ends_part
closes (state.FlowValue ∷ ss) = ends_item_key
closes (state.FlowMappingComma ∷ ss) = ends_flow_pair
closes (state.FlowMappingValue ∷ ss) = ends_flow_key
closes (state.NoFlowMappingValue ∷ ss) = ends_flow_pair
closes ss = ends_item

-- One that may is taken there, and begins no node; another is refused.
abbrev pub IsClosed : List State → Tok → Type 0
IsClosed ss t =
    (not (refuses 9 t (works ss)) ≡ closes ss (kind_of t)) × (is_going (step grammar 9 (works ss) t) ≡ closes ss (kind_of t)) × ((closes ss (kind_of t) && begins_node (context_at (place_of ss)) (kind_of t)) ≡ false)

pub closed : (ss : List State) → is_under ss ≡ true → (t : Tok) → IsClosed ss t
closed (state.DocumentEnd ∷ ss) h = elim [ Tok.block_end ↦ (refl, refl, refl) | _ ↦ (refl, refl, refl) ]
closed (state.BlockSequenceEntries ∷ ss) h = elim [ Tok.block_end ↦ (refl, refl, refl) | _ ↦ (refl, refl, refl) ]
closed (state.IndentlessSequenceEntries ∷ state.BlockMappingEntries ∷ ss) h = elim [ Tok.block_end ↦ (refl, refl, refl) | _ ↦ (refl, refl, refl) ]
closed (state.IndentlessSequenceEntries ∷ state.BlockMappingValue ∷ ss) h = elim [ Tok.block_end ↦ (refl, refl, refl) | _ ↦ (refl, refl, refl) ]
closed (state.BlockMappingEntries ∷ ss) h = elim [ Tok.block_end ↦ (refl, refl, refl) | _ ↦ (refl, refl, refl) ]
closed (state.BlockMappingValue ∷ ss) h = elim [ Tok.block_end ↦ (refl, refl, refl) | _ ↦ (refl, refl, refl) ]
closed (state.FlowSequenceComma ∷ ss) h = elim [ Tok.block_end ↦ (refl, refl, refl) | _ ↦ (refl, refl, refl) ]
closed (state.FlowValue ∷ ss) h = elim [ Tok.block_end ↦ (refl, refl, refl) | _ ↦ (refl, refl, refl) ]
closed (state.FlowPairEnd ∷ ss) h = elim [ Tok.block_end ↦ (refl, refl, refl) | _ ↦ (refl, refl, refl) ]
closed (state.FlowMappingComma ∷ ss) h = elim [ Tok.block_end ↦ (refl, refl, refl) | _ ↦ (refl, refl, refl) ]
closed (state.FlowMappingValue ∷ ss) h = elim [ Tok.block_end ↦ (refl, refl, refl) | _ ↦ (refl, refl, refl) ]
closed (state.NoFlowMappingValue ∷ ss) h = elim [ Tok.block_end ↦ (refl, refl, refl) | _ ↦ (refl, refl, refl) ]
closed ss h = cc

pub closes_so : (ss : List State) (t : Tok) → is_under ss ≡ true → refuses 9 t (works ss) ≡ false → closes ss (kind_of t) ≡ true
closes_so ss t h r = sym (closed ss h t).0 ∙ ap not r

-- What may stand behind a node begins none.
pub none_begins : (ss : List State) (t : Tok) → is_under ss ≡ true → closes ss (kind_of t) ≡ true → begins_node (context_at (place_of ss)) (kind_of t) ≡ false
none_begins ss t h c = ap (λ b. b && begins_node (context_at (place_of ss)) (kind_of t)) (sym c) ∙ (closed ss h t).2

pub no_content : (p : NodeContext) (k : Kind) → begins_node p k ≡ false → begins_content p k ≡ false
no_content p k b = grind arith

-- A token that begins no node, or no content, is left, and the node is empty.
node_row : (p : Place) (t : Tok) → begins_node (context_at p) (kind_of t) ≡ false → row_of (cases (table.node p)) t ≡ Some (leaves (keep (table.content p) ∷ []))
node_row p t b = grind arith

content_row : (p : Place) (t : Tok) → begins_content (context_at p) (kind_of t) ≡ false → row_of (cases (table.content p)) t ≡ Some (leaves (empty ∷ then_in p))
content_row p t b = grind arith

pub empty_content : (ss : List State) (h : Held) (t : Tok) → begins_content (context_at (place_of ss)) (kind_of t) ≡ false
    → steps 2 t (reading (table.content (place_of ss)) h ∷ past ss (works ss)) ≡ (empty_event h ∷ [], works ss)
empty_content ss h t b = rw (content_row (place_of ss) t b, then_works ss h t)

-- the work of a node over these
abbrev pub over : List State → Works
over ss = goal_and (table.node (place_of ss)) (past ss (works ss))

empty_node : (ss : List State) (t : Tok) → begins_node (context_at (place_of ss)) (kind_of t) ≡ false → steps 3 t (over ss) ≡ (nothing_written ∷ [], works ss)
empty_node ss t b = rw (node_row (place_of ss) t b) (empty_content ss nothing_held t (no_content (context_at (place_of ss)) (kind_of t) b))

-- So it is refused if it is refused behind the content.
pub content_refuses : (ss : List State) (h : Held) (t : Tok) → begins_content (context_at (place_of ss)) (kind_of t) ≡ false
    → refuses 11 t (reading (table.content (place_of ss)) h ∷ past ss (works ss)) ≡ refuses 9 t (works ss)
content_refuses ss h t b =
    ap (refuse_row h t (past ss (works ss)) (λ v. refuses 10 t v)) (content_row (place_of ss) t b) ∙ ap (refuses 9 t) (then_works ss h t)

node_refuses : (ss : List State) (t : Tok) → begins_node (context_at (place_of ss)) (kind_of t) ≡ false → refuses 12 t (over ss) ≡ refuses 9 t (works ss)
node_refuses ss t b =
    ap (refuse_row nothing_held t (past ss (works ss)) (λ v. refuses 11 t v)) (node_row (place_of ss) t b)
    ∙ content_refuses ss nothing_held t (no_content (context_at (place_of ss)) (kind_of t) b)

-- One that may not stand behind a node begins it, if it is not refused.
must_begin : (ss : List State) (t : Tok) → is_under ss ≡ true → closes ss (kind_of t) ≡ false → refuses 12 t (over ss) ≡ false → begins_node (context_at (place_of ss)) (kind_of t) ≡ true
must_begin ss t h c r = by (begins_node (context_at (place_of ss)) (kind_of t)) refl
  where
    by : (b : Bool) → begins_node (context_at (place_of ss)) (kind_of t) ≡ b → b ≡ true
    by true e = refl
    by false e = let no : true ≡ false = ap not (sym r ∙ node_refuses ss t e) ∙ (closed ss h t).0 ∙ c in cc

-- ---- where a node may come, or none

-- What is read here, with these under it, is a node over those, or nothing.
pub record MayRead (g : Goal) (ss ss' : List State) : Type 0 where
  pub nested : IsNested ss → IsFor g ss → IsNested ss'
  pub under : IsFor g ss → is_under ss' ≡ true
  pub work : work_of g ss ≡ over ss'
  pub any : (k : Kind) → may_begin g ss k ≡ true
  pub opened : open_at g ss ≡ open_at Goal.done ss'

module _ {g : Goal} {ss ss' : List State} (m : MayRead g ss ss') (t : Tok) where
  empty_leads : IsFor g ss → (u : Tok) → begins_node (context_at (place_of ss')) (kind_of u) ≡ false → Alike g ss (Some nothing_written) Goal.done ss' u
  empty_leads f u b = leads 3 (cc (ap (steps 3 u) m.work ∙ empty_node ss' u b, m.any (kind_of u), under_any ss' (m.under f) (kind_of u)))

  -- It is empty, since a token comes that begins none.
  pub empties_as : (IsFor g ss → begins_node (context_at (place_of ss')) (kind_of t) ≡ false) → (IsFor g ss → Settles g ss (Some t) Goal.done ss') → Leaves g ss (Some t) (Some nothing_written) Goal.done ss'
  empties_as b settles = leaves_so (λ n f. (m.nested n f, under_goes ss' (m.under f))) (λ f. under_reads ss' (m.under f))
      (λ f u r o. empty_leads f u (none_begins ss' u (m.under f) (closes_so ss' u (m.under f) (r 9)))) (λ f r o. empty_leads f t (b f)) m.opened settles
      (λ f h. absurd (both_ways (is_past_directives Goal.done ss') (under_past ss' (m.under f)) h))

  -- A token comes that may stand behind it.
  pub empties : (IsFor g ss → closes ss' (kind_of t) ≡ true) → Leaves g ss (Some t) (Some nothing_written) Goal.done ss'
  empties c = empties_as (λ f. none_begins ss' t (m.under f) (c f)) (λ f. without_node (ap is_node (sym (under_other ss' (m.under f)))) (comes f))
    where
      comes : IsFor g ss → MayCome g ss (Some t)
      comes f =
          let k = may_come 9 t (works ss') ((closed ss' (m.under f) t).1 ∙ c f) in
          let l = empty_leads f t (none_begins ss' t (m.under f) (c f)) in
          (k.0, nothing_written ∷ k.1, (l.stays.0 k.0 k.1 k.2, m.any (kind_of t)))

  -- One comes that may not.
  pub reads_node : (c : NodeContext) → (IsFor g ss → context_at (place_of ss') ≡ c) → (IsFor g ss → closes ss' (kind_of t) ≡ false) → (IsFor g ss → Settles g ss (Some t) (Goal.node c) ss')
      → (IsFor g ss → is_over_document ss' ≡ true → (is_past_directives g ss ≡ true) ⊎ IsNoDirective (Some t)) → Leaves g ss (Some t) None (Goal.node c) ss'
  reads_node c e a settles past =
      leaves_so (λ n f. (m.nested n f, (m.under f, e f))) (λ f. refl) (λ f u r b. leads 0 (cc (m.work, m.any (kind_of u), b)))
      (λ f r o. leads 0 (cc (m.work, m.any (kind_of t), ap (λ x. begins_node x (kind_of t)) (sym (e f)) ∙ must_begin ss' t (m.under f) (a f) (ap (refuses 12 t) (sym m.work) ∙ r 12)))) m.opened settles past

-- ---- what may come where no node does

-- The token goes on there.
abbrev GoesFrom : Goal → List State → Tok → Type 0
GoesFrom g ss t = (is_going (step grammar 9 (work_of g ss) t) && may_begin g ss (kind_of t)) ≡ true

pub comes_so : (g : Goal) (ss : List State) (t : Tok) → GoesFrom g ss t → MayCome g ss (Some t)
comes_so g ss t h =
    let both = and_parts (is_going (step grammar 9 (work_of g ss) t)) (may_begin g ss (kind_of t)) h in
    let c = may_come 9 t (work_of g ss) both.0 in
    (c.0, c.1, (c.2, both.1))
