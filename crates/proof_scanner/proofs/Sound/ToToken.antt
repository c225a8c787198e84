-- The way to the next token, or to the text's end, keeps what holds between two fetches, with the separation up to there.
use Rattle.proof_scanner.proofs.Common.{Site, AreEntries, BeginsButForKey, Bool, HasNoTabs, Holds, IsAdjacent, IsLine, IsLive, IsOpenHere, IsOpenOutside, IsReadOn, IsTakenBy, Key, KnowsKey, Line, List, None, Option, Position, Previous, ScannerState, SoFar, Some, Stands, [], after_separation, ap, append_assoc, append_cancel_right, arith, before_by, before_past, begins_free_line, begins_separation, between, both_hold, chosen, false, follows_plain, has_no_nul, in_flow, is_at_comment_or_end, is_empty, is_indented_by_spaces, is_one_of, is_separation, least_column, not, or-false, outside_key, plain_scalar, position_after, position_append, refl, skip_to_next_token, subst, sym, tokens_up_to, true, weakened, went, ℕ, ◌&&◌, ◌++◌, ◌==◌, ◌||◌, ◌∙◌, ◌∷◌, ◌≡◌, ◌≤◌, IsCarriedOn, IsLeading, MayChoose, cases_Bool, inl, inr}
use Rattle.proof_lexers.specs.PlainEnds as plain_ends
use Rattle.proof_lexers.proofs.Separation.EachSeparation.{no_nul_after}
use Rattle.proof_scanner.proofs.Sound.Steps.{Cleared, Exact, IsAt, IsIn, Spaced, column_after, exact, free_line_append, goes_on, index_after, known_past, last_whole, least_is, live_before_it, may_before, no_comment_in_last, not_before_after, read_on_append, renewed_alike, same_has_break, separation_append, skip_clears, skip_stays, stands_by, unbroken, before_both, adjacent_filled}

-- ---- where the way begins

spaced_here : (b : Previous) (bs : List ℕ) (aw : Bool) (q : Position) (g a : List ℕ) → is_indented_by_spaces b bs aw g ≡ true → begins_separation a ≡ true → is_at_comment_or_end a ≡ false → IsReadOn b q g a → Spaced b (least_column bs aw) g
spaced_here d bs aw q g a h s n r = grind (arith, or-false)

pub is_in : (text : List ℕ) (t : ScannerState) (s : Stands text t) → begins_separation t.rest ≡ true → IsIn s.base.site.before (least_column s.base.site.blocks s.base.site.awaits) between s.separation t.held t.rest
is_in text t s begins = grind (arith, no_comment_in_last, column_after, last_whole, spaced_here)

-- ---- where it ends

among : (f p : List ℕ) (c : ℕ) → (c == 35) ≡ true → is_one_of (f ++ c ∷ p) 35 ≡ true
among [] p c h = grind arith
among (d ∷ f) p c h = grind (arith, among f p c)

-- where a separation was passed, it is none that follows a plain scalar without a comment
no_plain : (b : Previous) (q : Position) (f g rest rest2 : List ℕ) → rest ≡ g ++ rest2 → IsReadOn b q f rest → begins_separation rest ≡ true → begins_separation rest2 ≡ false → is_separation false g rest2 ≡ true → follows_plain b (f ++ g) ≡ false
no_plain plain_scalar q f (c ∷ p) rest rest2 cut r begins solid fills = grind (arith, among)
no_plain b q f g rest rest2 cut r begins solid fills = grind arith

-- what may begin outside flow
line_after : (fl allowed broken breaks : Bool) (k : Option Key) (p p2 : Position) (rest rest2 : List ℕ) (l : Line) → ((x : Key) → IsLive x p2 rest2 → IsLive x p rest) → ((x : Key) → k ≡ Some x → IsLive x p2 rest2 → breaks ≡ false) →
    IsLine fl allowed broken p rest k l → IsLine fl ((not fl && breaks) || allowed) (broken || breaks) p2 rest2 k l
line_after true allowed broken breaks k p p2 rest rest2 l before none h = h
line_after false allowed broken breaks k p p2 rest rest2 l before none h = (h.0, ap (λ x. breaks || x) h.1 ∙ (grind arith), taken k none h.2)
  where
    taken : (k : Option Key) → ((x : Key) → k ≡ Some x → IsLive x p2 rest2 → breaks ≡ false) → IsTakenBy allowed p rest k l → IsTakenBy (breaks || allowed) p2 rest2 k l
    taken None none h = tt
    taken (Some x) none h = λ live. let d = h (before x live) in (d.0, ap (λ y. y || allowed) (none x refl live) ∙ d.1)

open_after : (k : Option Key) (q p p2 : Position) (rest rest2 bs : List ℕ) → ((x : Key) → IsLive x p2 rest2 → IsLive x p rest) → IsOpenOutside k q p rest bs → IsOpenOutside k q p2 rest2 bs
open_after None q p p2 rest rest2 bs before h = tt
open_after (Some k) q p p2 rest rest2 bs before h = (h.0, λ live. let o : IsOpenHere k p bs = h.1 (before k live) in record { column_is = o.column_is; must_be = o.must_be })

module _ (text : List ℕ) (t u : ScannerState) (s : Stands text t) (begins : begins_separation t.rest ≡ true) (e : Exact t u) (c : Cleared s.base.site.before (least_column s.base.site.blocks s.base.site.awaits) s.separation t.rest u) where
  at : is_empty u.rest ≡ false → IsAt s.base.site.before (least_column s.base.site.blocks s.base.site.awaits) (s.separation ++ e.separation) u.held
  at some = rw (sym (append_cancel_right c.passed e.separation u.rest (sym c.cut ∙ e.cut))) (c.clear some)

  abbrev Now : ScannerState
  Now = after_separation t.held e.is_leading e.separation u.rest

  tabs : HasNoTabs s.base.site (s.separation ++ e.separation) u.rest
  tabs = grind (arith, no_plain s.base.site.before s.base.site.position s.separation e.separation t.rest u.rest e.cut s.read_on begins e.solid e.is_filled, at)

  -- a key that may be one now might be one before
  live : (x : Key) → IsLive x (position_after t.held.position e.separation u.rest) u.rest → IsLive x t.held.position t.rest
  live x l = live_before_it x t.held.position e.separation t.rest u.rest e.cut l

  now : Stands text Now
  now =
      let carries : IsCarriedOn text ((s.separation ++ e.separation) ++ u.rest) u.rest t.held.keys s.base = λ cs k key m i some. subst (λ r. BeginsButForKey text r k.position (chosen false cs t.held.keys s.base)) (ap (λ r. s.separation ++ r) e.cut ∙ sym (append_assoc s.separation e.separation u.rest)) (s.carries cs k key m i (goes_on e.separation t.rest u.rest e.cut some)) in
      let completes : (strict x : Bool) (cs : List Bool) → MayChoose strict x (outside_key s.base.entries t.held.keys) Now.held.position u.rest →
      SoFar strict text ((s.separation ++ e.separation) ++ u.rest) (chosen x cs t.held.keys s.base) (tokens_up_to (chosen x cs t.held.keys s.base) t.held.keys t.held.tokens) = λ strict x cs may. subst (λ r. SoFar strict text r (chosen x cs t.held.keys s.base) (tokens_up_to (chosen x cs t.held.keys s.base) t.held.keys t.held.tokens))
      (ap (λ r. s.separation ++ r) e.cut ∙ sym (append_assoc s.separation e.separation u.rest))
      (s.completes strict x cs (may_before strict x (outside_key s.base.entries t.held.keys) t.held.position e.separation t.rest u.rest e.cut may)) in
      let leads : IsLeading e.is_leading s.base.site (s.separation ++ e.separation) u.rest = λ blocks some comment. sym (ap (λ y. y.held.leading) e.is_state) ∙ (at some).leading_is (grind arith) in
      let adjacent : is_empty t.held.flow ≡ false → IsAdjacent (before_past (before_by s.base.site.before) (s.separation ++ e.separation)) Now.held.position t.held.adjacent_value_at u.rest = λ fl. subst (λ b. IsAdjacent b (position_after t.held.position e.separation u.rest) t.held.adjacent_value_at u.rest) (before_both (before_by s.base.site.before) s.separation e.separation)
      (adjacent_filled (before_past (before_by s.base.site.before) s.separation) t.held.position t.held.adjacent_value_at t.rest e.separation u.rest e.cut e.is_filled (s.was_adjacent fl)) in
      stands_by text Now t.held.flow t.held.keys s.base refl refl (search (
        separation_append false s.separation e.separation u.rest (subst (λ r. is_separation false s.separation r ≡ true) e.cut s.is_filled) e.is_filled,
        no_nul_after e.separation u.rest (subst (λ r. has_no_nul r ≡ true) e.cut s.is_clean),
        ap (λ p. position_after p e.separation u.rest) (s.position_is ∙ ap (position_after s.base.site.position s.separation) e.cut) ∙ sym (position_append s.base.site.position s.separation e.separation u.rest),
        tabs,
        leads,
        read_on_append s.base.site.before s.base.site.position s.separation e.separation t.rest u.rest e.cut e.solid s.read_on,
        subst (λ b. AreEntries ((not (in_flow t.held) && plain_ends.has_break e.separation) || t.held.key_allowed) b t.held.flow t.held.keys s.base.entries)
            (sym (renewed_alike s.base.site.before s.base.site.position s.separation e.separation t.rest u.rest e.cut e.is_filled s.read_on))
            (grind arith),
        subst (λ b. IsLine (in_flow t.held) ((not (in_flow t.held) && plain_ends.has_break e.separation) || t.held.key_allowed) b (position_after t.held.position e.separation u.rest) u.rest (outside_key s.base.entries t.held.keys) s.base.line)
            (ap (λ b. begins_free_line s.base.site.before s.separation || b) (same_has_break e.separation) ∙ sym (free_line_append s.base.site.before s.base.site.position s.separation e.separation t.rest u.rest e.cut s.read_on))
            (line_after (in_flow t.held) t.held.key_allowed (begins_free_line s.base.site.before s.separation) (plain_ends.has_break e.separation) (outside_key s.base.entries t.held.keys) t.held.position (position_after t.held.position e.separation u.rest) t.rest u.rest s.base.line live (λ x k l. (grind (arith, not_before_after, same_has_break, unbroken))) s.line_is),
        open_after (outside_key s.base.entries t.held.keys) s.base.site.position t.held.position (position_after t.held.position e.separation u.rest) t.rest u.rest s.base.site.blocks live s.is_open,
        adjacent,
        subst (λ n. t.held.adjacent_value_at ≤ n) (sym (index_after t.held.position e.separation u.rest)) (omega (arith, s.adjacent_before)),
        carries,
        subst (λ r. KnowsKey text r (position_after t.held.position e.separation u.rest) (outside_key s.base.entries t.held.keys)) (ap (λ r. s.separation ++ r) e.cut ∙ sym (append_assoc s.separation e.separation u.rest))
            (known_past text (s.separation ++ t.rest) t.held.position (outside_key s.base.entries t.held.keys) e.separation u.rest s.knows),
        completes,
        s,
      ))

-- At the next token, or at the text's end, what holds between two fetches holds.
pub passed_stands : (text : List ℕ) (t : ScannerState) → Stands text t → Holds (λ u. Stands text u × (begins_separation u.rest ≡ false)) (skip_to_next_token t)
unfolding skip_to_next_token
passed_stands text t s = elim (cases_Bool (begins_separation t.rest)) [
  | inl h ↦
      let site : Site = s.base.site in
      weakened (λ u x. (rw x.0.is_state (now text t u s h x.0 x.1), x.0.solid)) (both_hold (exact t)
      (skip_clears site.before (least_column site.blocks site.awaits) t.rest between s.separation t.held (least_is site.blocks site.awaits t.held s.blocks_are s.awaits_is s.are_levels) (is_in text t s h)))
  | inr h ↦ rw (skip_stays t.rest t.held h) (went (s, h))
]
