-- The turns in nodes.
use Rattle.model_parser.proofs.Common.{arith, alike, anchor_of, anchored, anchored_tagged, ap, begins_content, begins_node, both_ways, context_at, false, Goal, inl, is_past_directives, is_under, Kind, kind_of, Leaves, List, NodeContext, None, Option, perhaps_anchor_of, perhaps_tag_of, place_of, Properties, Raw, refl, Refuses, Some, State, Style, sym, Tag, tag_of, tag_token, tagged, tagged_anchored, Takes, Tok, true, with_properties, work_of, works, ℕ, ◌∙◌, ◌∷◌, ◌≡◌, ◌≢◌}
use Rattle.model_parser.proofs.StepRows.{Alike, leads, Reads, reads_so, takes_so, refuses, leaves_so}
use Rattle.model_parser.proofs.Settling.{no_content, content_refuses, closes_so, none_begins, empty_content, under_goes, under_other, under_past, under_any, under_reads}
use Rattle.model_parser.specs.declared.kind.Kind.TheVariants as kind
use Rattle.model_parser.specs.declared.context.NodeContext.TheVariants as context
use Rattle.model_parser.specs.declared.state.State.TheVariants as state

-- ---- a node

pub node_alias : (p : NodeContext) (ss : List State) (name : List ℕ) → Takes (Goal.node p) ss (Tok.alias name) (Some (Raw.alias name)) Goal.done ss
node_alias p ss name = takes_so (λ n f. (n, under_goes ss f.0)) (λ f. (refl, under_any ss f.0, reads_so (grind arith))) refl (λ f. under_other ss f.0) (λ f. under_past ss f.0)

pub node_anchor : (p : NodeContext) (ss : List State) (a : List ℕ) → Takes (Goal.node p) ss (Tok.anchor a) None (Goal.after_anchor p a) ss
node_anchor p ss a = takes_so (λ n f. (n, f)) (λ f. (refl, (λ k. refl), reads_so refl)) refl (λ f. refl) (λ f. refl)

pub node_tag : (p : NodeContext) (ss : List State) (t : Tag) → Takes (Goal.node p) ss (tag_token t) None (Goal.after_tag p t) ss
node_tag p ss t = takes_so (λ n f. (n, f)) (λ f. (refl, (λ k. refl), reads_so refl)) refl (λ f. refl) (λ f. refl)

pub node_content : (p : NodeContext) (ss : List State) (t : Tok) → kind_of t ≢ kind.Alias → kind_of t ≢ kind.Anchor → kind_of t ≢ kind.Tag → Leaves (Goal.node p) ss (Some t) None (Goal.content p None) ss
node_content p ss t a b d = leaves_so (λ n f. (n, f)) (λ f. refl) (λ f u r m. leads 1 (grind arith)) (λ f r m. leads 1 (grind arith)) refl (λ f. alike refl refl) (λ f h. inl h)

-- ---- after an anchor, or a tag

-- Where a content may stand, no property does.
no_property : (k : Kind) → ((c : NodeContext) → (begins_content c k ≡ false) × (begins_node c k ≡ true)) → (o : Option Properties) (ss : List State) (u : Tok) → is_under ss ≡ true → refuses 11 u (work_of (Goal.content context.Flow o) ss) ≡ false → kind_of u ≢ k
no_property k p o ss u f r e =
    let c = context_at (place_of ss) in
    let behind : refuses 9 u (works ss) ≡ false = sym (content_refuses ss (with_properties o) u (ap (begins_content c) e ∙ (p c).0)) ∙ r in
    both_ways (begins_node c (kind_of u)) (none_begins ss u f (closes_so ss u f behind)) (ap (begins_node c) e ∙ (p c).1)

pub anchor_tag : (p : NodeContext) (ss : List State) (a : List ℕ) (t : Tag) → Takes (Goal.after_anchor p a) ss (tag_token t) None (Goal.content p (Some (anchored_tagged a t))) ss
anchor_tag p ss a t = takes_so (λ n f. (n, f)) (λ f. (refl, (λ k. refl), reads_so refl)) refl (λ f. refl) (λ f. refl)

pub anchor_alone : (p : NodeContext) (ss : List State) (a : List ℕ) (t : Tok) → kind_of t ≢ kind.Tag → Leaves (Goal.after_anchor p a) ss (Some t) None (Goal.content p (Some (anchored a))) ss
anchor_alone p ss a t d = leaves_so (λ n f. (n, f)) (λ f. refl) (λ f u r m. let n = no_property kind.Tag (elim [ context.Flow ↦ (refl, refl) | _ ↦ (refl, refl) ]) (Some (anchored a)) ss u f.0 (r 11) in leads 1 (grind arith)) (λ f r m. leads 1 (grind arith)) refl
    (λ f. alike refl refl) (λ f h. inl h)

pub tag_anchor : (p : NodeContext) (ss : List State) (t : Tag) (a : List ℕ) → Takes (Goal.after_tag p t) ss (Tok.anchor a) None (Goal.content p (Some (tagged_anchored t a))) ss
tag_anchor p ss t a = takes_so (λ n f. (n, f)) (λ f. (refl, (λ k. refl), reads_so refl)) refl (λ f. refl) (λ f. refl)

pub tag_alone : (p : NodeContext) (ss : List State) (t : Tag) (u : Tok) → kind_of u ≢ kind.Anchor → Leaves (Goal.after_tag p t) ss (Some u) None (Goal.content p (Some (tagged t))) ss
tag_alone p ss t u d = leaves_so (λ n f. (n, f)) (λ f. refl) (λ f v r m. let n = no_property kind.Anchor (elim [ context.Flow ↦ (refl, refl) | _ ↦ (refl, refl) ]) (Some (tagged t)) ss v f.0 (r 11) in leads 1 (grind arith)) (λ f r m. leads 1 (grind arith)) refl
    (λ f. alike refl refl) (λ f h. inl h)

-- ---- a content

dash_reads : (ss : List State) (o : Option Properties) → context_at (place_of ss) ≡ context.Pair
    → Reads (work_of (Goal.content context.Pair o) ss) Tok.block_entry (Some (Raw.indentless_sequence_start (perhaps_anchor_of o) (perhaps_tag_of o))) (work_of Goal.done (state.IndentlessSequenceItem ∷ ss))
dash_reads (state.BlockMappingEntries ∷ ss) o h = reads_so refl
dash_reads (state.BlockMappingValue ∷ ss) o h = reads_so refl
dash_reads ss o h = cc

pub after_dash : (ss : List State) (o : Option Properties) → Takes (Goal.content context.Pair o) ss Tok.block_entry (Some (Raw.indentless_sequence_start (perhaps_anchor_of o) (perhaps_tag_of o))) Goal.done (state.IndentlessSequenceItem ∷ ss)
after_dash ss o = takes_so (λ n f. ((grind arith, n), tt)) (λ f. (grind arith, (λ k. refl), dash_reads ss o f.1)) refl (λ f. refl) (λ f. refl)

pub after_sequence : (c : NodeContext) (ss : List State) (o : Option Properties) → begins_content c kind.BlockSequenceStart ≡ true → Takes (Goal.content c o) ss Tok.block_sequence_start (Some (Raw.sequence_start (perhaps_anchor_of o) (perhaps_tag_of o))) Goal.done (state.BlockSequenceEntries ∷ ss)
after_sequence c ss o e = takes_so (λ n f. ((f.0, n), tt))
    (λ f. (grind arith, (λ k. refl), reads_so (grind arith))) refl (λ f. refl) (λ f. refl)

pub after_mapping : (c : NodeContext) (ss : List State) (o : Option Properties) → begins_content c kind.BlockMappingStart ≡ true → Takes (Goal.content c o) ss Tok.block_mapping_start (Some (Raw.mapping_start (perhaps_anchor_of o) (perhaps_tag_of o))) Goal.done (state.BlockMappingEntries ∷ ss)
after_mapping c ss o e = takes_so (λ n f. ((f.0, n), tt))
    (λ f. (grind arith, (λ k. refl), reads_so (grind arith))) refl (λ f. refl) (λ f. refl)

pub after_scalar : (c : NodeContext) (ss : List State) (o : Option Properties) (y : Style) (v : List ℕ) → Takes (Goal.content c o) ss (Tok.scalar y v) (Some (Raw.scalar v y (perhaps_anchor_of o) (perhaps_tag_of o))) Goal.done ss
after_scalar c ss o y v = takes_so (λ n f. (n, under_goes ss f.0)) (λ f. (grind arith, under_any ss f.0, reads_so (grind arith))) refl (λ f. under_other ss f.0) (λ f. under_past ss f.0)

pub after_brackets : (c : NodeContext) (ss : List State) (o : Option Properties) → Takes (Goal.content c o) ss Tok.flow_sequence_start (Some (Raw.flow_sequence_start (perhaps_anchor_of o) (perhaps_tag_of o))) Goal.done (state.FlowSequenceEntries ∷ ss)
after_brackets c ss o = takes_so (λ n f. ((f.0, n), tt)) (λ f. (grind arith, (λ k. refl), reads_so (grind arith))) refl (λ f. refl) (λ f. refl)

pub after_braces : (c : NodeContext) (ss : List State) (o : Option Properties) → Takes (Goal.content c o) ss Tok.flow_mapping_start (Some (Raw.flow_mapping_start (perhaps_anchor_of o) (perhaps_tag_of o))) Goal.done (state.FlowMappingEntries ∷ ss)
after_braces c ss o = takes_so (λ n f. ((f.0, n), tt)) (λ f. (grind arith, (λ k. refl), reads_so (grind arith))) refl (λ f. refl) (λ f. refl)

only_leads : (c : NodeContext) (ss : List State) (o : Properties) (t : Tok) → is_under ss ≡ true → begins_content (context_at (place_of ss)) (kind_of t) ≡ false
    → Alike (Goal.content c (Some o)) ss (Some (Raw.empty_scalar (anchor_of o) (tag_of o))) Goal.done ss t
only_leads c ss o t f b = leads 2 (cc (empty_content ss (with_properties (Some o)) t b, under_any ss f (kind_of t)))

pub properties_only : (c : NodeContext) (ss : List State) (o : Properties) (t : Tok) → begins_content c (kind_of t) ≡ false → Leaves (Goal.content c (Some o)) ss (Some t) (Some (Raw.empty_scalar (anchor_of o) (tag_of o))) Goal.done ss
properties_only c ss o t a = leaves_so (λ n f. (n, under_goes ss f.0)) (λ f. under_reads ss f.0) (λ f u r m. only_leads c ss o u f.0 (no_content (context_at (place_of ss)) (kind_of u) (none_begins ss u f.0 (closes_so ss u f.0 (r 9)))))
    (λ f r m. only_leads c ss o t f.0 (grind arith)) refl
    (λ f. alike (under_other ss f.0) refl) (λ f h. absurd (both_ways (is_past_directives Goal.done ss) (under_past ss f.0) h))

pub nothing_refuses : (c : NodeContext) (ss : List State) (t : Tok) → begins_content c (kind_of t) ≡ false → Refuses (Goal.content c None) ss t
nothing_refuses c ss t a = grind arith
