-- A row of a text goes through each place that a beginning of a row leads to, at an account that is like the beginning's; and its next piece stands there.
use Rattle.proof_scanner.proofs.Common.{[], Account, account_past, ap, append-nil, Begins, begins_free_line, begins_separation, Bool, false, first_account, further_lines_stand, has_no_nul, HasRow, if◌then◌else◌, is_deep_enough, is_empty, is_gap, is_in_flow, is_indented_by_spaces, is_separation, IsLike, IsPlace, IsRowFrom, IsWritten, least_for, List, may_precede, no_nul_after, None, plain_scalar, Position, position_after, refl, Row, separations, Some, spelled, Step, subst, sym, true, up_to_nul, ℕ, ◌&&◌, ◌++◌, ◌∙◌, ◌∷◌, ◌≡◌, arith, eqb-true, nat_tests, act_of, and_parts, ends_separation, inl, inr, is_break, is_in_column, line_past, longer, may_end, not, Option, same_head, Site, site_at, waits, ◌+◌, ◌==◌, ◌≤◌, ◌⊎◌}
use Rattle.proof_scanner.proofs.Refusals.Common.{some_row, Keeps, KeepsOn, Same, Walked, With, begins_at_start, begins_past, ends_before, index_after, inside, made, outside, row_walks, step_here, still_there, strict_way, At}
use Rattle.proof_row.proofs.Separations.{over}

-- ---- a key that waits outside flow is near as long as a row goes on: its colon is still to come, on its line, at most 1024 characters after its start

-- where a text ends no key waits
pub none_ends : (a : Account) (begin : Position) → a.line ≡ waits begin → may_end a ≡ true → ⊥
none_ends a begin e h = grind arith

-- What a row's step says of a key that waits before it: no line begins before its piece, which is near.
pub record GoesNear (a : Account) (w : Step) (next : List ℕ) (q : Position) : Type 0 where
  pub unbroken : begins_free_line a.site.before w.separation ≡ false
  pub near : (position_after a.site.position w.separation (w.piece ++ next)).index ≤ q.index + 1024

near_by : (w : Step) (ws : List Step) (last : List ℕ) (a : Account) (q : Position) → a.line ≡ waits q → IsRowFrom (Some a) (w ∷ ws) last → ((b : Account) → b.line ≡ waits q → IsRowFrom (Some b) ws last → b.site.position.index ≤ q.index + 1024) → GoesNear a w (spelled ws last) q
near_by w ws last a q e row further =
    let next : List ℕ = spelled ws last in
    let at : Site = site_at false a.site w.separation w.piece w.shown next in
    let c = some_row (account_past a w next) ws last row.1 in
    elim (made a.site a.line a.entries w next c.0 c.1) [
      | inside some sep site one ↦
          let there = still_there true (begins_free_line a.site.before w.separation) a.line c.0.line q e sep in
          record { unbroken = there.0; near = (grind (arith, index_after, (ap (λ x. x.position) site), (further c.0 there.1 c.2))) }
      | outside m o none sep past line site one ↦
          let there = still_there false (begins_free_line a.site.before w.separation) a.line m q e sep in
          let on_or_near : (o.line ≡ waits q) ⊎ (at.position.index ≤ q.index + 1024) = grind (arith, (subst (λ l. line_past (is_in_column at.position.col at.blocks) at.position at.blocks (act_of w.shown) w.key l ≡ Some o) there.1 past)) in
          record { unbroken = there.0; near = elim on_or_near [ inl still ↦ (grind (arith, index_after, (ap (λ x. x.position) site), (further c.0 (line ∙ still) c.2))) | inr near ↦ near ] }
    ]

-- where the last piece of a row ended while a key waits
ends_near : (ws : List Step) (last : List ℕ) (a : Account) (q : Position) → a.line ≡ waits q → IsRowFrom (Some a) ws last → a.site.position.index ≤ q.index + 1024
ends_near [] last a q e row = absurd (none_ends a q e row.1)
ends_near (w ∷ ws) last a q e row = grind (arith, near_by w ws last a q e row (λ b. ends_near ws last b q), index_after)

-- While a key waits the row goes on so, by a step.
pub goes_near : (ws : List Step) (last after : List ℕ) (a : Account) (q : Position) → a.line ≡ waits q → IsRowFrom (Some a) ws last → spelled ws last ≡ after
    → (w : Step) × (next : List ℕ) × IsWritten a w next × (w.separation ++ (w.piece ++ next) ≡ after) × GoesNear a w next q
goes_near [] last after a q e row h = absurd (none_ends a q e row.1)
goes_near (w ∷ ws) last after a q e row h = (w, spelled ws last, row.0, h, near_by w ws last a q e row (λ b. ends_near ws last b q))

-- ---- separations

-- a separation that begins with a part, and what is left of it
pub record BeginsWith (whole part next rest : List ℕ) : Type 0 where
  pub more : List ℕ
  pub whole_is : whole ≡ part ++ more
  pub rest_is : rest ≡ more ++ next

-- A separation before a piece begins with each separation of the same text.
pub begins_with_part : (in_comment : Bool) (whole part next rest : List ℕ) → is_separation in_comment whole next ≡ true → is_separation in_comment part rest ≡ true → ends_separation next ≡ true → whole ++ next ≡ part ++ rest → BeginsWith whole part next rest
begins_with_part b whole [] next rest h k f e = grind (arith, nat_tests, eqb-true)
begins_with_part b [] (d ∷ part) next rest h k f e = grind (arith, over)
begins_with_part false (c ∷ whole) (d ∷ part) next rest h k f e = grind (arith, nat_tests, eqb-true, same_head, and_parts, longer, begins_with_part (c == 35) whole part next rest)
begins_with_part true (c ∷ whole) (d ∷ part) next rest h k f e = grind (arith, nat_tests, eqb-true, same_head, longer, begins_with_part (not (is_break c)) whole part next rest h)

pub keeps_on : (P : Account → Account → List ℕ → Type 0) → Keeps P → KeepsOn Same Same P
keeps_on a keeps = record { first = λ x y z after e r. rw (sym e) r; second = λ x y z after e r. rw (sym e) r; both = keeps }

-- the row of a text goes through each beginning
pub row_begins : (P : Account → Account → List ℕ → Type 0) → Keeps P → (text after : List ℕ) (a : Account) (r : Row) → P first_account first_account (up_to_nul text) → Begins text after a → HasRow text r → Walked P a after
row_begins P keeps text after a r p g h = row_walks Same P (keeps_on P keeps) text after a r p (strict_way text after a g) h

-- A step at a place, from an account that is like another one: its piece stands there.
pub record StepAt (a : Account) (separation rest : List ℕ) (here : Position) : Type 0 where
  pub account : Account
  pub is_like : IsLike a account
  pub step : Step
  pub next : List ℕ
  pub past : Account
  pub is_written : IsWritten account step next
  pub is_past : account_past account step next ≡ Some past
  pub separation_is : step.separation ≡ separation
  pub text_is : step.piece ++ next ≡ rest
  pub is_clean : has_no_nul rest ≡ true
  pub here_is : here ≡ position_after a.site.position separation rest
  pub position_is : (At account step next).position ≡ here

-- No TAB indents what comes after a step, if anything does.
abbrev pub IsClearAfter : {a : Account} {separation rest : List ℕ} {here : Position} → StepAt a separation rest here → Type 0
IsClearAfter s =
    (gap content : List ℕ) → s.next ≡ gap ++ content → is_separation false gap content ≡ true → begins_separation content ≡ false → is_empty content ≡ false → is_indented_by_spaces s.past.site.before s.past.site.blocks s.past.site.awaits gap ≡ true

-- The same after a plain scalar, where blanks and breaks alone come before it.
abbrev pub IsClearGapAfter : {a : Account} {separation rest : List ℕ} {here : Position} → StepAt a separation rest here → Type 0
IsClearGapAfter s =
    s.past.site.before ≡ plain_scalar → (gap content : List ℕ) → s.next ≡ gap ++ content → is_gap gap ≡ true → begins_separation content ≡ false → is_empty content ≡ false → is_indented_by_spaces s.past.site.before s.past.site.blocks s.past.site.awaits gap ≡ true

-- The next step of a row at a place; and a row may begin so that it leads to the account there.
pub record RowAt (text : List ℕ) (a : Account) (separation rest : List ℕ) (here : Position) : Type 0 where
  pub step_at : StepAt a separation rest here
  pub is_clear : IsClearAfter step_at
  pub begins : Begins text (separation ++ rest) step_at.account

-- What a step that may stand says of its piece.
pub record Stood (b : Account) (v : Step) (after : List ℕ) : Type 0 where
  pub spaced : is_indented_by_spaces b.site.before b.site.blocks b.site.awaits v.separation ≡ true
  pub deep : is_deep_enough (is_in_flow b.entries) v.shown (At b v after) ≡ true
  pub further : further_lines_stand (least_for v.shown (At b v after)) v.shown v.piece ≡ true
  pub precedes : may_precede (is_in_flow b.entries) (At b v after).blocks v.shown v.piece after ≡ true

pub stood : (b : Account) (v : Step) (after : List ℕ) (c : Account) → account_past b v after ≡ Some c → Stood b v after
stood b v after c e =
    let parts : (x y z w : Bool) (o : Option Account) → (if x && y && z && w then o else None) ≡ Some c → (x ≡ true) × (y ≡ true) × (z ≡ true) × (w ≡ true) = λ x y z w o e. grind arith in
    let p = parts (is_indented_by_spaces b.site.before b.site.blocks b.site.awaits v.separation) (is_deep_enough (is_in_flow b.entries) v.shown (At b v after))
    (further_lines_stand (least_for v.shown (At b v after)) v.shown v.piece) (may_precede (is_in_flow b.entries) (At b v after).blocks v.shown v.piece after) _ e in
    record { spaced = p.0; deep = p.1; further = p.2; precedes = p.3 }

-- No TAB indents what comes after a step where steps lead on to the text's end.
clear_on : (b : Account) (ws : List Step) (last gap content : List ℕ) → IsRowFrom (Some b) ws last → spelled ws last ≡ gap ++ content → is_separation false gap content ≡ true → begins_separation content ≡ false → is_empty content ≡ false → has_no_nul content ≡ true
    → is_indented_by_spaces b.site.before b.site.blocks b.site.awaits gap ≡ true
clear_on b [] last gap content row e fills solid some clean = absurd (cc (some, ap is_empty (separations last gap [] content (row.0, refl) (fills, ends_before content solid clean) (append-nil last ∙ e)).1))
clear_on b (v ∷ vs) last gap content row e fills solid some clean =
    let c = some_row (account_past b v (spelled vs last)) vs last row.1 in
    rw (← (step_here b v (spelled vs last) gap content row.0 e fills solid clean).0) (stood b v (spelled vs last) c.0 c.1).spaced

-- The step of a row, or of a way, that goes on from a place.
abbrev pub step_from : (a b c : Account) (separation rest next : List ℕ) (here : Position) (w : Step) → IsLike a b → IsWritten b w next → account_past b w next ≡ Some c → w.separation ++ (w.piece ++ next) ≡ separation ++ rest
    → is_separation false separation rest ≡ true → begins_separation rest ≡ false → has_no_nul rest ≡ true → here ≡ position_after a.site.position separation rest
    → StepAt a separation rest here
step_from a b c separation rest next here w like written past e filled solid clean here_is =
    let at : (w.separation ≡ separation) × (w.piece ++ next ≡ rest) = step_here b w next separation rest written e filled solid clean in
    search (like, written, past, at.0, at.1, clean, here_is, ap (λ s. position_after s.position w.separation (w.piece ++ next)) (sym like.0) ∙ (ap (λ f. position_after a.site.position f (w.piece ++ next)) at.0 ∙ (ap (λ z. position_after a.site.position separation z) at.1 ∙ sym here_is)))

pub row_at : (text separation rest : List ℕ) (a : Account) (here : Position) (r : Row) → IsPlace text a separation rest here → begins_separation rest ≡ false → is_empty rest ≡ false → HasRow text r → RowAt text a separation rest here
row_at text separation rest a here r p solid some h = by g.steps g.is_row g.spells
  where
    g : Walked (λ x y next. Begins text next y) a (separation ++ rest)
    g = row_begins (λ x y next. Begins text next y) (λ x y b c v k next i q u w e f. begins_past text _ y c (With v k) next refl w f q) text (separation ++ rest) a r (begins_at_start text) p.begins h

    clean : has_no_nul rest ≡ true
    clean = no_nul_after separation rest g.is_clean

    by : (ws : List Step) → IsRowFrom (Some g.account) ws g.last → spelled ws g.last ≡ separation ++ rest → RowAt text a separation rest here
    by [] row e = absurd (cc (some, ap is_empty (separations g.last separation [] rest (row.0, refl) (p.is_filled, ends_before rest solid clean) (append-nil g.last ∙ e)).1))
    by (w ∷ ws) row e =
        let c = some_row (account_past g.account w (spelled ws g.last)) ws g.last row.1 in
        record {
          begins = g.holds;
          is_clear = λ gap content cut fills solid_there some_there.
              clear_on c.0 ws g.last gap content c.2 cut fills solid_there some_there (no_nul_after gap content (rw (sym cut) (no_nul_after w.piece (spelled ws g.last) (subst (λ n. has_no_nul n ≡ true) (sym (step_here g.account w (spelled ws g.last) separation rest row.0 e p.is_filled solid clean).1) clean))));
          step_at = step_from a g.account c.0 separation rest (spelled ws g.last) here w g.is_like row.0 c.1 e p.is_filled solid clean p.is_here;
        }
