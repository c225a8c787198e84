-- The turns between documents.
use Rattle.model_parser.proofs.Common.{subst, sym, arith, [], alike, alike_after, ap, begins_node, Directive, directive_token, ends_content, ends_document, false, Goal, inl, inr, is_directive, kind_of, Leaves, List, None, nothing_written, Raw, refl, Refuses, row_of, Some, State, Takes, Tok, true, without_node, work_of, works, ◌++◌, ◌∷◌, ◌≡◌, ◌≢◌, before_directive}
use Rattle.model_parser.proofs.StepRows.{leads, reads_so, takes_so, Alike, by_steps, alike_reads, after_steps, refuses, placed_alike, leaves_so, refuses_so}
use Rattle.model_parser.proofs.Settling.{comes_so, empties_as, reads_node, empties}
use Rattle.defs_event.specs.Table as part
use Rattle.defs_event.specs.Grammar as table
use Rattle.defs_event.specs.Stream as places
use Rattle.model_parser.specs.declared.kind.Kind.TheVariants as kind
use Rattle.model_parser.specs.declared.context.NodeContext.TheVariants as context
use Rattle.model_parser.specs.declared.state.State.TheVariants as state

-- The turns that a search finds in the table.
pub record DocumentTurns (ss : List State) : Type 0 where
  pub stream_takes : Takes Goal.stream ss Tok.stream_start (Some Raw.stream_start) Goal.done (state.Documents ∷ ss)
  pub documents_marker : Takes Goal.documents ss Tok.document_end None Goal.documents ss
  pub directives_start : (read : List Directive) → Takes (Goal.directives read) ss Tok.document_start (Some (Raw.document_start read)) Goal.done (state.DocumentContent ∷ ss)
  pub explicit_document_end : Takes Goal.explicit_document ss Tok.stream_end (Some Raw.stream_end) Goal.ended ss
  pub explicit_document_start : Takes Goal.explicit_document ss Tok.document_start (Some (Raw.document_start [])) Goal.done (state.DocumentContent ∷ ss)
  pub document_content_node : (t : Tok) → ends_document (kind_of t) ≡ false → is_directive (kind_of t) ≡ false → Leaves Goal.document_content ss (Some t) None (Goal.node context.Block) (state.DocumentEnd ∷ ss)
  pub document_end_marked : Takes Goal.document_end ss Tok.document_end (Some Raw.document_end) Goal.done (state.Documents ∷ ss)

pub document_turns : (ss : List State) → DocumentTurns ss
document_turns ss = search (takes_so, reads_so, reads_node, alike, inr)

-- ---- where a document may do without `---`

pub documents_explicit : (ss : List State) (t : Tok) → ends_document (kind_of t) ≡ true → kind_of t ≢ kind.DocumentEnd → begins_node context.Block (kind_of t) ≡ false → Leaves Goal.documents ss (Some t) None Goal.explicit_document ss
documents_explicit ss t e a b = leaves_so (λ n f. (n, f)) (λ f. refl) (λ f u r m. let h = r 9 in leads 1 (grind arith)) (λ f r m. leads 1 (grind arith)) refl (λ f. without_node refl (comes_so Goal.documents ss t (grind arith))) (λ f h. inr (grind arith))

pub documents_bare : (ss : List State) (t : Tok) → ends_document (kind_of t) ≡ false → is_directive (kind_of t) ≡ false → Leaves Goal.documents ss (Some t) (Some (Raw.document_start [])) Goal.done (state.BlockNode ∷ state.DocumentEnd ∷ ss)
documents_bare ss t e a = leaves_so (λ n f. (((refl, refl), (f, n)), tt)) (λ f. refl) (λ f u r m. leads 2 (grind arith)) (λ f r m. let h = r 9 in leads 2 (grind arith)) refl (λ f. alike refl refl) (λ f h. inr a)

-- ---- directives

-- Directives and `---` are taken by both goals.
row_alike : (ss : List State) (u : Tok) → row_of (table.cases table.directives) u ≡ row_of (table.cases table.documents) u → Alike Goal.documents ss None (Goal.directives []) ss u
row_alike ss u r = record {
  stays = alike_reads table.documents table.directives table.nothing_held (works ss) u (sym r);
  places = λ x b k m same at ts es d. placed_alike (subst (λ v. row_of (table.cases table.directives) v ≡ row_of (table.cases table.documents) v) (sym same) r) d;
  may = (refl, refl);
}

both_read : (ss : List State) (u : Tok) → refuses 9 u (work_of (Goal.directives []) ss) ≡ false → Alike Goal.documents ss None (Goal.directives []) ss u
both_read ss (Tok.version_directive m n) r = row_alike ss (Tok.version_directive m n) refl
both_read ss (Tok.tag_directive x y) r = row_alike ss (Tok.tag_directive x y) refl
both_read ss Tok.document_start r = record {
  stays = after_steps (by_steps 1 Tok.document_start (work_of Goal.documents ss)) (alike_reads table.explicit_document table.directives table.nothing_held (works ss) Tok.document_start refl);
  places = λ x b k m same at ts es d.
      places.by_leaving (part.read table.explicit_document ∷ []) (ap (λ u. row_of (table.cases table.documents) u) same)
      (placed_alike (subst (λ v. row_of (table.cases table.directives) v ≡ row_of (table.cases table.explicit_document) v) (sym same) refl) d);
  may = (refl, refl);
}
both_read ss u r = cc

pub documents_directives : (ss : List State) (t : Tok) → is_directive (kind_of t) ≡ true → begins_node context.Block (kind_of t) ≡ false → Leaves Goal.documents ss (Some t) None (Goal.directives []) ss
documents_directives ss t e b = leaves_so (λ n f. (n, f)) (λ f. refl) (λ f u r m. both_read ss u (r 9)) (λ f r m. both_read ss t (grind arith)) refl
    (λ f. without_node refl (comes_so Goal.documents ss t (grind arith))) (λ f h. inl h)

pub directives_next : (ss : List State) (read : List Directive) (d : Directive) → Takes (Goal.directives read) ss (directive_token d) None (Goal.directives (read ++ d ∷ [])) ss
directives_next ss read (Directive.version m n) = takes_so (λ n f. (n, f)) (λ f. (refl, (λ k. refl), reads_so refl)) refl (λ f. refl) (λ f. refl)
directives_next ss read (Directive.tag h p) = takes_so (λ n f. (n, f)) (λ f. (refl, (λ k. refl), reads_so refl)) refl (λ f. refl) (λ f. refl)

pub directives_refuses : (ss : List State) (read : List Directive) (t : Tok) → kind_of t ≢ kind.VersionDirective → kind_of t ≢ kind.TagDirective → kind_of t ≢ kind.DocumentStart → Refuses (Goal.directives read) ss t
directives_refuses ss read t a b c = grind arith

-- ---- after `---`

-- A directive is refused behind the document.
pub document_content_empty : (ss : List State) (t : Tok) → ends_content (kind_of t) ≡ true → Leaves Goal.document_content ss (Some t) (Some nothing_written) Goal.done (state.DocumentEnd ∷ ss)
document_content_empty ss (Tok.version_directive m n) a = empties_as (search) (Tok.version_directive m n) (λ f. refl) (λ f. before_directive refl refl)
document_content_empty ss (Tok.tag_directive m n) a = empties_as (search) (Tok.tag_directive m n) (λ f. refl) (λ f. before_directive refl refl)
document_content_empty ss t a = empties (search) t (λ f. a)

-- ---- after a document's node

pub document_end_unmarked : (ss : List State) (t : Tok) → kind_of t ≢ kind.DocumentEnd → is_directive (kind_of t) ≡ false → Leaves Goal.document_end ss (Some t) (Some Raw.document_end) Goal.done (state.ExplicitDocument ∷ ss)
document_end_unmarked ss t a b = leaves_so (λ n f. ((f, n), tt)) (λ f. refl) (λ f u r m. let h = r 9 in leads 2 (grind arith)) (λ f r m. leads 2 (grind arith)) refl (λ f. alike_after refl b) (λ f h. inr b)

pub document_end_refuses : (ss : List State) (t : Tok) → ends_document (kind_of t) ≡ false → Refuses Goal.document_end ss t
document_end_refuses ss t a = refuses_so Goal.document_end ss t 9 (λ f. grind arith)
