-- Each row of the grammar that leaves its token weighs less than its goal, and each goal can be read to an end.
use Rattle.model_parser.proofs.Common.{arith, explicit_document, [], and_parts, ap, before, after_anchor, after_tag, block_mapping_entries, block_mapping_value, block_sequence_entries, Bool, by_leaving, by_taking, Case, cases, content, Derives, directives, document_end, documents, flow_mapping_comma, flow_mapping_entries, flow_mapping_value, flow_mapping_valued, flow_sequence_comma, flow_sequence_entries, flow_value, grammar, Held, in_pair, indentless_sequence_entries, key, leaves, List, ltb-true, nat_lt, no_flow_mapping_value, node, nothing_left, nothing_written, on, otherwise, parts_weight, Place, Raw, reading, refl, Row, row_of, says, Some, stream, Style, sym, takes, Tok, true, value, weight, ℕ, ◌&&◌, ◌∙◌, ◌∷◌, ◌≡◌}
use Rattle.defs_event.specs.Grammar.{Side, then_in_pair}
use Rattle.model_parser.proofs.Steps.{Falls}
use Rattle.model_parser.proofs.Completions.{Completes}

-- ---- rows fall

-- whether each row of some cases passes a test
abbrev pub cases_pass : {G T E : Type 0} → (Row G E → Bool) → List (Case G T E) → Bool
cases_pass f [] = true
cases_pass f (on test r ∷ cs) = f r && cases_pass f cs
cases_pass f (otherwise r ∷ cs) = f r

pub row_passes : {G T E : Type 0} (f : Row G E → Bool) (cs : List (Case G T E)) (t : T) (r : Row G E) → cases_pass f cs ≡ true → row_of cs t ≡ Some r → f r ≡ true
row_passes f [] t r h e = absurd (cc e)
row_passes f (on test q ∷ cs) t r h e =
    let k = and_parts (f q) (cases_pass f cs) h in let i = row_passes f cs t r k.1 in grind arith
row_passes f (otherwise q ∷ cs) t r h e = let same : q ≡ r = cc e in ap f (sym same) ∙ h

abbrev row_falls : {G E : Type 0} → (G → ℕ) → ℕ → Row G E → Bool
row_falls m n (takes ps) = true
row_falls m n (leaves ps) = nat_lt (parts_weight m ps) n

pub grammar_falls : Falls grammar weight
grammar_falls g t ps h = ltb-true (parts_weight weight ps) (weight g) (row_passes (row_falls weight (weight g)) (cases g) t (leaves ps) (grind arith) h)

-- ---- goals complete: each is read to its end by some tokens, which say these events

abbrev pub text : Tok
text = Tok.scalar Style.plain []

-- a scalar, and in a block mapping what ends it
abbrev pub after_text : Place → List Tok
after_text (in_pair s) = Tok.block_end ∷ []
after_text _ = []

-- what these say
abbrev pub text_event : Held → Raw
text_event h = Raw.scalar [] Style.plain h.anchor h.tag

abbrev pub after_text_events : Place → List Raw
after_text_events (in_pair key) = nothing_written ∷ Raw.mapping_end ∷ []
after_text_events (in_pair value) = Raw.mapping_end ∷ []
after_text_events _ = []

-- what ends a block mapping behind its key or value
pub flow_pair_ends : (s : Side) (h : Held) (t : Tok) → Derives grammar (before grammar h t (then_in_pair s) []) (Tok.block_end ∷ []) (after_text_events (in_pair s))
flow_pair_ends key h t = by_leaving _ refl (says (by_taking _ refl (says nothing_left)))
flow_pair_ends value h t = by_taking _ refl (says nothing_left)

pub content_ends : (p : Place) (h : Held) → Derives grammar (reading (content p) h ∷ []) (text ∷ after_text p) (text_event h ∷ after_text_events p)
content_ends (in_pair s) h = by_taking _ refl (says (flow_pair_ends s h text))
content_ends _ h = by_taking _ refl (says nothing_left)

abbrev pub grammar_completes : Completes grammar
grammar_completes stream h = (Tok.stream_start ∷ Tok.stream_end ∷ [], _, by_taking _ refl (says (by_leaving _ refl (by_taking _ refl (says nothing_left)))))
grammar_completes documents h = (Tok.stream_end ∷ [], _, by_leaving _ refl (by_taking _ refl (says nothing_left)))
grammar_completes directives h =
    (Tok.document_start ∷ text ∷ Tok.stream_end ∷ [], _, by_taking _ refl (says (by_leaving _ refl (by_taking _ refl (says (by_leaving _ refl (says (by_taking _ refl (says nothing_left)))))))))
grammar_completes explicit_document h = (Tok.stream_end ∷ [], _, by_taking _ refl (says nothing_left))
grammar_completes document_end h = (Tok.stream_end ∷ [], _, by_leaving _ refl (says (by_taking _ refl (says nothing_left))))
grammar_completes (node p) h = (_, _, by_leaving _ refl (content_ends p h))
grammar_completes (after_anchor p) h = (_, _, by_leaving _ refl (content_ends p h))
grammar_completes (after_tag p) h = (_, _, by_leaving _ refl (content_ends p h))
grammar_completes (content p) h = (_, _, content_ends p h)
grammar_completes block_sequence_entries h = (Tok.block_end ∷ [], _, by_taking _ refl (says nothing_left))
grammar_completes (indentless_sequence_entries s) h = (Tok.block_end ∷ [], _, by_leaving _ refl (says (flow_pair_ends s h Tok.block_end)))
grammar_completes block_mapping_entries h = (Tok.block_end ∷ [], _, by_taking _ refl (says nothing_left))
grammar_completes block_mapping_value h = (Tok.block_end ∷ [], _, by_leaving _ refl (says (by_taking _ refl (says nothing_left))))
grammar_completes flow_sequence_entries h = (Tok.flow_sequence_end ∷ [], _, by_taking _ refl (says nothing_left))
grammar_completes flow_sequence_comma h = (Tok.flow_sequence_end ∷ [], _, by_taking _ refl (says nothing_left))
grammar_completes (flow_mapping_entries s) h = (Tok.flow_mapping_end ∷ [], _, by_taking _ refl (says nothing_left))
grammar_completes flow_mapping_comma h = (Tok.flow_mapping_end ∷ [], _, by_taking _ refl (says nothing_left))
grammar_completes flow_mapping_value h = (Tok.value ∷ text ∷ [], _, by_taking _ refl (by_leaving _ refl (by_leaving _ refl (by_taking _ refl (says nothing_left)))))
grammar_completes flow_mapping_valued h = (text ∷ [], _, by_leaving _ refl (by_leaving _ refl (by_taking _ refl (says nothing_left))))
grammar_completes no_flow_mapping_value h = (Tok.flow_mapping_end ∷ [], _, by_leaving _ refl (says (by_taking _ refl (says nothing_left))))
grammar_completes flow_value h = (Tok.value ∷ text ∷ [], _, by_taking _ refl (by_leaving _ refl (by_taking _ refl (says nothing_left))))
