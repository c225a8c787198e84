-- A beginning of a row that goes on past a place does so by the step that was read there, from a beginning up to there; and where a piece begins, a way leads.
use Rattle.proof_scanner.proofs.Common.{cases_Bool, inl, inr, nat_tests, eqb-true, [], Account, account_past, ap, arith, Begins, Bool, chosen, clean_up_to_end, Entry, false, first_account, FlowLevel, GoesThrough, has_no_nul, HasRow, is_empty, is_separation, IsLike, IsRowFrom, IsWritten, Key, Leads, length, length-append, line_by, List, may_end, no_nul_after, None, not, Option, outside_key, refl, Row, same_written, ScannerState, Some, spelled, Step, subst, sym, true, up_to_nul, ℕ, ◌++◌, ◌∙◌, ◌∷◌, ◌≡◌, ◌≤◌, begins_separation, ends_separation, is_blank_or_end, no_piece_at_end, not_empty, seen, separations, separations_end_before, shown_position}
use Rattle.defs_token.specs.Piece.{Holds}
use Rattle.proof_scanner.proofs.Known.Ways.{first_on, gives_up_like, GivesUp, KeepsOn, LeadsBy, Meet, meet, moved, Same, same_place, second_on, strict_way, strictly, Way, way_but_for_key, way_of, With}
use Rattle.proof_scanner.proofs.Sound.Common.{ArrivesBy, begins_at_start, begins_past, none_chosen, not_none, with_entries}
use Rattle.proof_row.proofs.Written.{At}

-- what begins no separation ends one
pub ends_before : (r : List ℕ) → begins_separation r ≡ false → has_no_nul r ≡ true → ends_separation r ≡ true
unfolding is_blank_or_end
ends_before r s h = grind arith

-- the separation of a written step ends before its piece
pub piece_ends : (a : Account) (w : Step) (next : List ℕ) → IsWritten a w next → ends_separation (w.piece ++ next) ≡ true
piece_ends a w next h = separations_end_before (seen a (At a w next) w.separation) w.piece next None (shown_position (At a w next) w.piece w.shown next) w.shown (not_empty w.piece h.1.0) h.1.1

-- Where a separation was passed and a piece begins, the next step has this separation, and its piece stands here.
pub step_here : (a : Account) (w : Step) (next separation rest : List ℕ) → IsWritten a w next → w.separation ++ (w.piece ++ next) ≡ separation ++ rest → is_separation false separation rest ≡ true → begins_separation rest ≡ false → has_no_nul rest ≡ true →
    (w.separation ≡ separation) × (w.piece ++ next ≡ rest)
step_here a w next separation rest written e f s n = separations w.separation separation (w.piece ++ next) rest (written.0, piece_ends a w next written) (f, ends_before rest s n) e

-- no step begins in the separation at a text's end
pub at_end : (b : Account) (v : Step) (f next : List ℕ) → is_separation false f [] ≡ true → IsWritten b v next → f ≡ v.separation ++ (v.piece ++ next) → ⊥
at_end b v f a h k e = grind (arith, no_piece_at_end, not_empty)

-- ---- lengths

spelled_longer : (ws : List Step) (after : List ℕ) → length after ≤ length (spelled ws after)
spelled_longer [] after = omega arith
spelled_longer (w ∷ ws) after = grind (arith, length-append, spelled_longer ws after)

-- no text is left with a piece before it
never : (us ws : List Step) (f w after : List ℕ) → not (is_empty w) ≡ true → after ≡ spelled us (f ++ (w ++ spelled ws after)) → ⊥
never us ws f w after some e =
    let outer = spelled_longer us (f ++ (w ++ spelled ws after)) in
    let inner = spelled_longer ws after in
    let same = ap length e in
    absurd (grind (arith, length-append, not_none, outer, inner, same, some))

-- no step leads to where a text begins
pub begins_whole : (text after : List ℕ) (b : Account) → after ≡ up_to_nul text → Begins text after b → first_account ≡ b
begins_whole text after b whole g = by g.steps g.leads (g.spells ∙ sym whole)
  where
    by : (ws : List Step) → Leads (Some first_account) ws after b → spelled ws after ≡ after → first_account ≡ b
    by a h e = grind (arith, nat_tests, eqb-true, never)

-- ---- past a step

-- From where a beginning came by a step that was read, with some choice.
pub record Came (text : List ℕ) (a : Account) (w : Step) (next : List ℕ) (b : Account) : Type 0 where
  pub from : Account
  pub key : Bool
  pub is_like : IsLike a from
  pub begins : Begins text (w.separation ++ (w.piece ++ next)) from
  pub is_past : account_past from (With w key) next ≡ Some b

abbrev pub SecondBegins : (text : List ℕ) → Account → Account → List ℕ → Type 0
SecondBegins text x y after = Begins text after y × Holds (has_no_nul after)

pub keeps : (text : List ℕ) → KeepsOn GivesUp Same (SecondBegins text)
keeps text = record {
  first = λ x y z after g r. (gives_up_like x z y g r.0, r.1);
  second = λ x y z after e r. rw (sym e) r;
  both = λ x y a b v c next i r k l e f. (begins_past text _ y b (With v c) next refl l f r.0, no_nul_after v.piece next (no_nul_after v.separation (v.piece ++ next) r.1));
}

pub came_by : (text : List ℕ) (a : Account) (w : Step) (next : List ℕ) (b : Account) → Way GivesUp text (w.separation ++ (w.piece ++ next)) a → IsWritten a w next → Begins text next b → Came text a w next b
came_by text a w next b way written g =
    by (meet GivesUp Same (SecondBegins text) (keeps text) way.steps (strict_way text next b g).steps (w.separation ++ (w.piece ++ next)) next first_account first_account a b (refl, tt, tt) (rw way.spells (begins_at_start text), (rw way.spells (clean_up_to_end text))) way.leads
    (strict_way text next b g).leads (way.spells ∙ sym (strict_way text next b g).spells) (rw way.spells (clean_up_to_end text)))
  where
    by : Meet GivesUp Same (SecondBegins text) a b (w.separation ++ (w.piece ++ next)) next → Came text a w next b
    by (same_place i r e) = absurd (never [] [] w.separation w.piece next written.1.0 (sym e))
    by (first_on n) = absurd (never (n.step ∷ n.steps) [] w.separation w.piece next written.1.0 (sym n.spells))
    by (second_on n) = to n.steps n.leads same.3 (subst (λ v. account_past n.account v (spelled n.steps next) ≡ Some n.past) (moved n.step w (sym same.0) (sym same.1) (sym same.2)) n.is_past)
      where
        same : (w.separation ≡ n.step.separation) × (w.piece ≡ n.step.piece) × (w.shown ≡ n.step.shown) × (next ≡ spelled n.steps next)
        same = same_written a n.account w n.step next (spelled n.steps next) n.is_like written n.is_written (sym n.spells) n.holds.1

        to : (ws : List Step) → LeadsBy Same (Some n.past) ws next b → next ≡ spelled ws next → account_past n.account (With w n.step.key) (spelled ws next) ≡ Some n.past → Came text a w next b
        to a h e past = grind (arith, nat_tests, eqb-true, never)

-- ---- ways to where a piece begins

module _ (text : List ℕ) (t : ScannerState) (some : is_empty t.rest ≡ false) where
  -- outside flow, with a choice for the open key
  pub way_outside : (k : Option Key) (a : ArrivesBy text t [] (k ∷ []) []) → (c : Bool) × Way GivesUp text (a.separation ++ t.rest) (with_entries a.site (line_by c k a.line) [])
  way_outside None a = (false, way_of text _ _ (a.completes true false [] tt).0)
  way_outside (Some x) a = elim (cases_Bool x.required) [
    | inl e ↦ (true, way_of text _ _ (a.completes true true [] ((a.is_near refl).0, some)).0)
    | inr e ↦ (false, way_of text _ _ (a.completes true false [] e).0)
  ]

  -- in flow, where no open key is one
  pub way_inside : (f : FlowLevel) (fs : List FlowLevel) (k : Option Key) (ks : List (Option Key)) (e : Entry) (es : List Entry) (a : ArrivesBy text t (f ∷ fs) (k ∷ ks) (e ∷ es)) → Way GivesUp text (a.separation ++ t.rest) (with_entries a.site a.line (e ∷ es))
  way_inside f fs k ks e es a = rw (sym (none_chosen (k ∷ ks) base)) (by (outside_key es ks) refl)
    where
      base : Account
      base = with_entries a.site a.line (e ∷ es)

      by : (y : Option Key) → outside_key es ks ≡ y → Way GivesUp text (a.separation ++ t.rest) (chosen false [] (k ∷ ks) base)
      by None i = way_of text _ _ (a.completes true false [] (rw i tt)).0
      by (Some x) i = elim (cases_Bool x.required) [
        | inl m ↦ way_but_for_key text (a.separation ++ t.rest) x.position (chosen false [] (k ∷ ks) base) (a.carries [] x i m refl some)
        | inr m ↦ way_of text _ _ (a.completes true false [] (rw i m)).0
      ]

-- ---- a row of a text goes through each place that a way leads to, at an account that is like the way's; and so through the place after a step that was read there

-- a row goes on from an account
pub some_row : (o : Option Account) (ws : List Step) (last : List ℕ) → IsRowFrom o ws last → (c : Account) × (o ≡ Some c) × IsRowFrom (Some c) ws last
some_row o ws last h = grind (arith, nat_tests, eqb-true)

-- a row leads to where the text ends
row_end : (ws : List Step) (last : List ℕ) (o : Option Account) → IsRowFrom o ws last → (b : Account) × Leads o ws last b × (is_separation false last [] ≡ true) × (may_end b ≡ true)
row_end ws last None row = absurd row
row_end [] last (Some a) row = (a, refl, row.0, row.1)
row_end (w ∷ ws) last (Some a) row = grind (arith, row_end ws last (account_past a w (spelled ws last)) row.1)

leads_row : (ws : List Step) (last : List ℕ) (o : Option Account) (b : Account) → LeadsBy Same o ws last b → Holds (is_separation false last []) → Holds (may_end b) → IsRowFrom o ws last
leads_row (w ∷ ws) last (Some a) b h f m = grind (arith, leads_row ws last (account_past a w (spelled ws last)) b)
leads_row ws last o b h f m = grind arith

-- ---- through a place

-- A row goes on so from an account at which this is so of the way's, of it and of the text before which it does.
pub record Walked (R : Account → Account → List ℕ → Type 0) (a : Account) (after : List ℕ) : Type 0 where
  pub account : Account
  pub is_like : IsLike a account
  pub holds : R a account after
  pub steps : List Step
  pub last : List ℕ
  pub is_row : IsRowFrom (Some account) steps last
  pub spells : spelled steps last ≡ after
  pub is_clean : has_no_nul after ≡ true

pub clean_after : (ws : List Step) (after : List ℕ) → has_no_nul (spelled ws after) ≡ true → has_no_nul after ≡ true
clean_after [] after h = h
clean_after (w ∷ ws) after h = clean_after ws after (no_nul_after w.piece (spelled ws after) (no_nul_after w.separation (w.piece ++ spelled ws after) h))

pub walk : (J : Account → Account → Type 0) (R : Account → Account → List ℕ → Type 0) → KeepsOn J Same R → (vs ws : List Step) (after last : List ℕ) (x y a : Account) → IsLike x y → R x y (spelled vs after) → LeadsBy J (Some x) vs after a → IsRowFrom (Some y) ws last → spelled vs after ≡ spelled ws last → Holds (has_no_nul (spelled vs after)) → Walked R a after
walk J R keeps vs ws after last x y a i h leads row e clean =
    let end = row_end ws last (Some y) row in
    elim (meet J Same R keeps vs ws after last x y a end.0 i h leads (strictly ws last (Some y) end.0 end.1) e clean) [
      | same_place like holds e ↦ record { account = end.0; is_like = like; holds = holds; steps = []; last = last; is_row = (end.2, end.3); spells = sym e; is_clean = clean_after vs after clean }
      | first_on n ↦ absurd (at_end n.account n.step last (spelled n.steps after) end.2 n.is_written (sym n.spells))
      | second_on n ↦ record { account = n.account; is_like = n.is_like; holds = n.holds; steps = n.step ∷ n.steps; last = last; is_row = (n.is_written, rw n.is_past (leads_row n.steps last (Some n.past) end.0 n.leads end.2 end.3)); spells = n.spells; is_clean = clean_after vs after clean }
    ]

pub row_walks : (J : Account → Account → Type 0) (R : Account → Account → List ℕ → Type 0) → KeepsOn J Same R → (text after : List ℕ) (a : Account) (r : Row) → R first_account first_account (up_to_nul text) → Way J text after a → HasRow text r → Walked R a after
row_walks J R keeps text after a r p way h = grind (arith, nat_tests, eqb-true, walk, first_account, clean_up_to_end)

-- ---- past a step

-- Each row goes through the place after a step that was read.
pub goes_past : (text : List ℕ) (a : Account) (w : Step) (next : List ℕ) → Way GivesUp text (w.separation ++ (w.piece ++ next)) a → IsWritten a w next → (r : Row) → HasRow text r → GoesThrough text next
goes_past text a w next way written r h = by g.steps g.is_row g.spells
  where
    before : List ℕ
    before = w.separation ++ (w.piece ++ next)

    g : Walked (SecondBegins text) a before
    g = row_walks GivesUp (SecondBegins text) (keeps text) text before a r (begins_at_start text, clean_up_to_end text) way h

    by : (us : List Step) → IsRowFrom (Some g.account) us g.last → spelled us g.last ≡ before → GoesThrough text next
    by [] row e = absurd (at_end a w g.last next row.0 written e)
    by (u ∷ us) row e =
        let c = some_row (account_past g.account u (spelled us g.last)) us g.last row.1 in
        let same : spelled us g.last ≡ next = sym ((same_written a g.account w u next (spelled us g.last) g.is_like written row.0 (sym e) g.holds.1).3) in
        record { account = c.0; begins = subst (λ n. Begins text n c.0) same (begins_past text before g.account c.0 u (spelled us g.last) (sym e) row.0 c.1 g.holds.0); steps = us; last = g.last; is_row = c.2; spells = same }
