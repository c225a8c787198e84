-- Anchors, aliases and tags: what holds between two fetches holds after them.
use Rattle.proof_scanner.proofs.Common.{Arrives, Holds, List, NameKind, None, Position, ScannerState, Site, Tok, [], anchor_name, anchor_token, another, arith, false, fetch_anchor, fetch_tag, gives_node, in_flow, is_empty, mark_of, node_start, not, on_held, push, read, refl, seen, true, unled, went, ℕ, ◌∙◌, ◌∷◌, ◌≡◌, allow_key}
use Rattle.model_scanner.specs.Tag as tags
use Rattle.proof_scanner.proofs.Sound.Steps.{Onward, IsToken, deep_for, IsDeep, node_read, reads_before_none, same_flow, saved_is, site_of, site_then, with_entries, saved_keys}
use Rattle.proof_scanner.proofs.Cut.Pieces.Names.{IsProperty, name_property}
use Rattle.proof_scanner.proofs.Cut.Pieces.Tags.{tag_property}

-- ---- properties

-- After a property or an alias what holds between fetches holds.
property_stands : (text : List ℕ) (t : ScannerState) (tok : Tok) (rest : List ℕ) (end : Position) → IsProperty (in_flow t.held) tok t.held.position t.rest rest end →
    IsToken tok gives_node [] another (λ _ _. true) (λ _ _ _. true) (λ _ _ b. b) → IsDeep t.held → Arrives text t →
    Onward text t.rest (on_held (λ s. push t.held.position tok (unled s)) (record { rest = rest; held = record (node_start t.held) { position = end } }))
property_stands text t tok rest end r k deep arrives =
    let u : ScannerState = on_held (λ s. push t.held.position tok (unled s)) (record { rest = rest; held = record (allow_key false (record t.held { keys = saved_keys t.held })) { position = end } }) in
    rw (saved_is t.held) (node_read text t u None tok (r.first ∷ r.more) [] deep arrives (λ fs ks es flow a.
    let x : Site = site_of t fs a.site in
    let reads = reads_before_none t u (site_then t fs a.site (r.first ∷ r.more) tok rest) (r.first ∷ r.more) rest [] refl r.cut refl refl refl refl r.end_is refl k.previous
    a.blocks_are (k.awaits (not (is_empty fs)) x.blocks x.awaits rest ∙ a.awaits_is) a.are_levels a.was_adjacent (refl, refl, refl) in
    grind (arith, reads, k, deep_for, same_flow, r.is_piece (seen (with_entries a.site a.line es) x a.separation) None refl, r.in_line)))

-- ---- anchors, aliases and tags

-- `*name` or `&name`
pub anchor_keeps : (text : List ℕ) (kind : NameKind) (t : ScannerState) (more : List ℕ) → t.rest ≡ mark_of kind ∷ more → IsDeep t.held → Arrives text t → Holds (Onward text t.rest) (fetch_anchor kind t)
unfolding fetch_anchor
anchor_keeps text kind t more e deep a = read (node_start t.held) (anchor_name t.rest t.held.position) _ (λ x k. went (property_stands text t (anchor_token kind x.value) x.rest x.position (name_property (in_flow t.held) kind t.held.position t.rest more e x k) (grind arith) deep a))

-- `!`
pub tag_keeps : (text : List ℕ) (t : ScannerState) (more : List ℕ) → t.rest ≡ 33 ∷ more → IsDeep t.held → Arrives text t → Holds (Onward text t.rest) (fetch_tag t)
unfolding fetch_tag
tag_keeps text t more e deep a = read (node_start t.held) (tags.tag (in_flow t.held) t.rest t.held.position) _ (λ x k.
    went (property_stands text t (Tok.tag x.value.handle x.value.suffix) x.rest x.position (tag_property (in_flow t.held) t.held.position t.rest more e x k) (grind arith) deep a))
