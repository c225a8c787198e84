-- A text is stuck at one place, with one kind.
use Rattle.proof_scanner.proofs.Common.{Account, account_past, ap, Begins, Bool, colon_may_precede, fails, FailsFirst, false, first_account, HasNoKey, inl, inr, is_in_flow, is_taken, is_value_here, IsLike, IsLookedAt, IsPlace, IsStuck, key_waits, List, no_key, no_nul_after, Position, Problem, refl, Some, spelled, Step, subst, sym, true, up_to_nul, ℕ, ◌++◌, ◌∙◌, ◌∷◌, ◌≡◌, ◌⊎◌, arith, eqb-true, nat_tests, ValueNotAllowed, [], begins_separation, clean_up_to_end, comes_first, Fails, follows_plain, has_no_nul, is_empty, is_free_of_tabs, is_indented_by_spaces, is_separation, IsQuoted, position_after, separations, Site, cases_Bool, TabInBlockIndentation}
use Rattle.proof_scanner.proofs.Refusals.Common.{leads_on, GivesUp, GoesOn, KeepsOn, LeadsBy, Same, Way, With, begins_at_start, begins_past, clean_after, ends_before, first_on, gap_is_separation, gives_up_like, like_sym, meet, same_place, second_on, step_here, strict_way, way_but_for_key, way_of, no_comment}
use Rattle.proof_scanner.proofs.Refusals.OtherRows.{StepAt, IsClearAfter, IsClearGapAfter, stood, step_from}
use Rattle.proof_scanner.proofs.Refusals.PiecesRefused.{no_colon_here, node_site_past, quoted_here}
use Rattle.proof_scanner.proofs.Refusals.NoRows.{keyless_step, no_step_stands, step_refuted}
use Rattle.proof_scanner.proofs.Refusals.KeysThatWait.{Together, Apart, together_keeps, apart_keeps, first_together}
use Rattle.proof_scanner.proofs.First.Reasons.{one_reason, colon_alone}
use Rattle.defs_token.specs.Piece.{Holds}
use Rattle.defs_text.specs.Classes as classes
use Rattle.proof_scanner.specs.Failing as failing

-- ---- two places of a text where something fails first: they are one place, or one fails by a TAB that the other has told

-- a place that a way leads to, where content begins
pub record Stands (a : Account) (separation rest : List ℕ) (here : Position) : Type 0 where
  pub is_filled : is_separation false separation rest ≡ true
  pub is_solid : begins_separation rest ≡ false
  pub goes_on : is_empty rest ≡ false
  pub is_here : here ≡ position_after a.site.position separation rest

-- a text's ways are clean
pub clean_way : (text : List ℕ) (vs : List Step) (after : List ℕ) → spelled vs after ≡ up_to_nul text → Holds (has_no_nul (spelled vs after))
clean_way text vs after e = rw e (clean_up_to_end text)

-- what is left of it is clean
pub clean_place : {J : Account → Account → Type 0} {text after : List ℕ} {a : Account} → Way J text after a → Holds (has_no_nul after)
clean_place {text = text} {after = after} w = clean_after w.steps after (clean_way text w.steps after w.spells)

-- one place of a text has one separation and one rest
pub one_cut : {a b : Account} {s1 r1 s2 r2 : List ℕ} {h1 h2 : Position} → Stands a s1 r1 h1 → Stands b s2 r2 h2 → IsLike a b → Holds (has_no_nul (s1 ++ r1)) → s1 ++ r1 ≡ s2 ++ r2 → (s1 ≡ s2) × (r1 ≡ r2) × (h1 ≡ h2)
one_cut p q i c e = grind (arith, nat_tests, eqb-true, separations, ends_before, no_nul_after)

pub gives_up_site : (a x : Account) → GivesUp a x → a.site ≡ x.site
gives_up_site a x b = grind (arith, nat_tests, eqb-true)

-- No TAB indents what comes after a step, where a way leads on to a place where none does.
clear_way : (J : Account → Account → Type 0) → ((x y : Account) → J x y → x.site ≡ y.site) → (o b : Account) (vs : List Step) (s2 r2 gap content : List ℕ) → LeadsBy J (Some o) vs (s2 ++ r2) b → is_separation false s2 r2 ≡ true → begins_separation r2 ≡ false → (vs ≡ [] → is_indented_by_spaces b.site.before b.site.blocks b.site.awaits s2 ≡ true)
    → spelled vs (s2 ++ r2) ≡ gap ++ content → is_separation false gap content ≡ true → begins_separation content ≡ false → has_no_nul content ≡ true → has_no_nul r2 ≡ true → is_indented_by_spaces o.site.before o.site.blocks o.site.awaits gap ≡ true
clear_way J same o b [] s2 r2 gap content row filled solid free e fills begins clean clean2 =
    let ends = separations s2 gap r2 content (filled, ends_before r2 solid clean2) (fills, ends_before content begins clean) e in
    rw (← ends.0, same o b row) (free refl)
clear_way J same o b (v ∷ vs) s2 r2 gap content row filled solid free e fills begins clean clean2 =
    let next : List ℕ = spelled vs (s2 ++ r2) in
    let c = leads_on J (account_past row.0 v next) vs (s2 ++ r2) b row.3 in
    rw (same o row.0 row.1, ← (step_here row.0 v next gap content row.2 e fills begins clean).0) (stood row.0 v next c.0 c.1).spaced

-- a reason that comes first where a TAB indents what comes is just this
pub tab_alone : (b : Account) (separation : List ℕ) (here : Position) (rest : List ℕ) (why : Problem) (at : Position) (f : Fails b separation here rest why at) → comes_first b separation here rest why at f → is_free_of_tabs b separation ≡ false
    → (why ≡ TabInBlockIndentation) × (at ≡ here) × (follows_plain b.site.before separation ≡ false)
tab_alone b separation here rest why at (failing.may_not_stand (failing.tab_indents own)) first tab = (refl, refl, first)
tab_alone b separation here rest why at (failing.may_not_stand n) first tab = absurd (cc tab)
tab_alone b separation here rest why at f first tab = absurd (cc tab)

module _ (J : Account → Account → Type 0) (same : (x y : Account) → J x y → x.site ≡ y.site) (R : Account → Account → List ℕ → Type 0) {a b : Account} {s1 r1 s2 r2 : List ℕ} {h1 h2 : Position} (p : Stands a s1 r1 h1) (q : Stands b s2 r2 h2)
    (g : GoesOn J R a b (s1 ++ r1) (s2 ++ r2)) (clean : Holds (has_no_nul (s1 ++ r1))) where
  -- the step by which a way goes on from a place
  abbrev step : StepAt a s1 r1 h1
  step = step_from a g.account g.past s1 r1 (spelled g.steps (s2 ++ r2)) h1 g.step g.is_like g.is_written g.is_past g.spells p.is_filled p.is_solid (no_nul_after s1 r1 clean) p.is_here

  later_clean : Holds (has_no_nul (s2 ++ r2))
  later_clean = clean_after (g.step ∷ g.steps) (s2 ++ r2) (rw g.spells clean)

  pub clear : (g.steps ≡ [] → is_free_of_tabs b s2 ≡ true) → IsClearAfter step
  clear free gap content cut fills solid some = grind (arith, nat_tests, eqb-true, clear_way, no_nul_after, later_clean)

  -- what comes at once after the step, with a TAB in its indentation
  module _ (last : g.steps ≡ []) (tab : is_free_of_tabs b s2 ≡ false) (no_plain : follows_plain b.site.before s2 ≡ false) where
    site_is : g.past.site ≡ b.site
    site_is = same g.past b (subst (λ ws. LeadsBy J (Some g.past) ws (s2 ++ r2) b) last g.leads)

    one_gap : (gap content : List ℕ) → step.next ≡ gap ++ content → is_separation false gap content ≡ true → begins_separation content ≡ false → (gap ≡ s2) × (content ≡ r2)
    one_gap gap content cut fills solid = grind (arith, nat_tests, eqb-true, (ap (λ ws. spelled ws (s2 ++ r2)) last), separations, ends_before, no_nul_after, later_clean)

    clear_gap : IsClearGapAfter step
    clear_gap before_is gap content cut white solid some = grind (arith, nat_tests, eqb-true, one_gap, gap_is_separation, site_is, no_comment)

    at_quoted : (single : Bool) (piece gap content : List ℕ) → r1 ≡ piece ++ (gap ++ content) → IsQuoted single piece (gap ++ content) → is_separation false gap content ≡ true → begins_separation content ≡ false
        → position_after (position_after h1 piece (gap ++ content)) gap content ≡ h2
    at_quoted single piece gap content e is fills solid =
        let v = quoted_here step single piece (gap ++ content) e is in
        let cuts = one_gap gap content (sym v.next_is) fills solid in
        let past_is = node_site_past step.account step.step step.next step.past v.act_is step.is_past in
        cc (ap (λ (x : Site). x.position) past_is, ap (λ (x : Site). x.position) site_is, step.position_is, v.piece_is, v.next_is, cuts.0, cuts.1, q.is_here)

  -- Where a way goes on past a place, what fails there first is a TAB after a quoted scalar, which so fails at the next place.
  pub fails_before : (why1 why2 : Problem) (at1 at2 : Position) → FailsFirst a s1 h1 r1 why1 at1 → FailsFirst b s2 h2 r2 why2 at2 → (why1 ≡ why2) × (at1 ≡ at2)
  fails_before why1 why2 at1 at2 f1 f2 = elim (cases_Bool (is_free_of_tabs b s2)) [ inl free ↦ absurd (no_step_stands step (clear (λ _. free)) why1 at1 f1.fails) | inr tab ↦ on g.steps refl tab ]
    where
      on : (ws : List Step) → g.steps ≡ ws → is_free_of_tabs b s2 ≡ false → (why1 ≡ why2) × (at1 ≡ at2)
      on (v ∷ vs) last tab = absurd (no_step_stands step (clear (λ none. absurd (cc (none, last)))) why1 at1 f1.fails)
      on [] last tab =
          let own = tab_alone b s2 h2 r2 why2 at2 f2.fails f2.is_first tab in
          let first = step_refuted step (λ why at. (why ≡ TabInBlockIndentation) × (at ≡ h2)) (clear_gap last tab own.2)
          (λ single piece gap content e is fills some solid tabbed. (refl, at_quoted last tab own.2 single piece gap content e is fills solid)) why1 at1 f1.fails in
          (first.0 ∙ sym own.0, first.1 ∙ sym own.1)

-- ---- claims

-- at a place a colon stands for which no key waits
record Keyless (text : List ℕ) (a : Account) (separation rest : List ℕ) (here : Position) : Type 0 where
  more : List ℕ
  is_rest : rest ≡ 58 ∷ more
  place : IsPlace text a separation rest here
  is_value : is_value_here a separation more ≡ true
  is_outside : is_in_flow a.entries ≡ false
  is_line_taken : is_taken a separation ≡ true
  has_none : HasNoKey text separation rest here
  looked : IsLookedAt a separation here rest
  has_no_tab_after : colon_may_precede more ≡ true

-- a text is stuck by what fails first at a place, to which a way leads that may give up a key; or by such a colon
record Claim (text : List ℕ) (why : Problem) (at : Position) : Type 0 where
  account : Account
  separation : List ℕ
  rest : List ℕ
  here : Position
  way : Way GivesUp text (separation ++ rest) account
  stands : Stands account separation rest here
  says : FailsFirst account separation here rest why at ⊎ ((why ≡ ValueNotAllowed) × (at ≡ here) × Keyless text account separation rest here)

claim_of : (text : List ℕ) (why : Problem) (at : Position) → IsStuck text why at → Claim text why at
unfolding classes.is_blank classes.is_break
claim_of text why at (fails a separation rest why2 here at2 place some solid f) =
    record { account = a; separation = separation; rest = rest; here = here; way = way_of text (separation ++ rest) a place.begins; stands = record { is_filled = place.is_filled; is_solid = solid; goes_on = some; is_here = place.is_here }; says = inl f }
claim_of text why at (no_key a separation more here place is out line none looked apart) = record {
  account = a;
  separation = separation;
  rest = 58 ∷ more;
  here = here;
  way = way_of text (separation ++ 58 ∷ more) a place.begins;
  stands = record { is_filled = place.is_filled; is_solid = refl; goes_on = refl; is_here = place.is_here };
  says = inr (refl, refl, record { more = more; is_rest = refl; place = place; is_value = is; is_outside = out; is_line_taken = line; has_none = none; looked = looked; has_no_tab_after = apart });
}
claim_of text why at (key_waits a separation rest why2 begin here at2 g inside filled here_is late some solid f) =
    record { account = a; separation = separation; rest = rest; here = here; way = way_but_for_key text (separation ++ rest) begin a g; stands = record { is_filled = filled; is_solid = solid; goes_on = some; is_here = here_is }; says = inl f }

-- ---- what is kept along two ways

-- The second way is the beginning of a row. So is the first; or it has given up a key, which still waits in the second one.
abbrev BeginsOrApart : (text : List ℕ) → Account → Account → List ℕ → Type 0
BeginsOrApart text x y after = Begins text after y × ((Together x y × Begins text after x) ⊎ ((q : Position) × Apart q x y))

keeps_apart : (text : List ℕ) → KeepsOn GivesUp Same (BeginsOrApart text)
keeps_apart text = record {
  first = λ x y z after g r. (gives_up_like x z y g r.0, (r.1.0, grind (arith, nat_tests, eqb-true)));
  second = λ x y z after e r. rw (sym e) r;
  both = λ x y a b v c next i r k l e f. (
    begins_past text _ y b (With v c) next refl l f r.0,
    elim r.1 [
      | inl p ↦ inl (together_keeps x y a b v c next i p.0 k l e f, begins_past text _ x a v next refl k e p.1)
      | inr p ↦ inr (p.0, apart_keeps p.0 x y a b v c next i p.1 k l e f)
    ],
  );
}

-- ---- two claims

module _ (text : List ℕ) {why1 why2 : Problem} {at1 at2 : Position} (f : Claim text why1 at1) (g : Claim text why2 at2) where
  -- what is left of the text at each
  abbrev after1 : List ℕ
  after1 = f.separation ++ f.rest

  abbrev after2 : List ℕ
  after2 = g.separation ++ g.rest

  failing_once : FailsFirst f.account f.separation f.here f.rest why1 at1 → FailsFirst g.account g.separation g.here g.rest why2 at2 → (why1 ≡ why2) × (at1 ≡ at2)
  failing_once x y =
      elim (meet GivesUp GivesUp (λ x y after. Unit {0}) (record { first = λ x y z after g r. (gives_up_like x z y g r.0, tt); second = λ x y z after g r. (like_sym z x (gives_up_like y z x g (like_sym x y r.0)), tt); both = λ x y a b v c next i r k l e f. tt })
      f.way.steps g.way.steps after1 after2 first_account first_account f.account g.account (refl, tt, tt) tt f.way.leads g.way.leads (f.way.spells ∙ sym g.way.spells) (clean_way text f.way.steps after1 f.way.spells)) [
        | same_place like r e ↦
            let cut = one_cut f.stands g.stands like (clean_place f.way) e in
            one_reason f.account g.account like f.separation f.here f.rest (no_nul_after f.separation f.rest (clean_place f.way)) why1 why2 at1 at2 x (rw cut.0 (rw cut.1 (rw cut.2 y)))
        | second_on n ↦ fails_before GivesUp gives_up_site (λ x y after. Unit {0}) f.stands g.stands n (clean_place f.way) why1 why2 at1 at2 x y
        | first_on n ↦
            let turned = fails_before GivesUp gives_up_site (λ x y after. Unit {0}) g.stands f.stands n (clean_place g.way) why2 why1 at2 at1 y x in
            (sym turned.0, sym turned.1)
      ]

  -- A colon for which no key waits is the only one of its text, and nothing else fails.
  keyless_once : Keyless text g.account g.separation g.rest g.here → (why1 ≡ ValueNotAllowed) × (at1 ≡ g.here)
  keyless_once z =
      let way : Way Same text after2 g.account = strict_way text after2 g.account z.place.begins in
      let begins : Begins text (spelled f.way.steps after1) first_account = rw f.way.spells (begins_at_start text) in
      elim (meet GivesUp Same (BeginsOrApart text) (keeps_apart text) f.way.steps way.steps after1 after2 first_account first_account f.account g.account (refl, tt, tt) (begins, inl (first_together, begins)) f.way.leads way.leads (f.way.spells ∙ sym way.spells) (clean_way text f.way.steps after1 f.way.spells)) [
        | same_place like r e ↦
            let cut = one_cut f.stands g.stands like (clean_place f.way) e in
            elim f.says [
              | inl x ↦ absurd (colon_alone g.account f.account (like_sym f.account g.account like) g.separation z.more g.here z.is_value z.is_outside (rw (sym z.is_rest) z.looked) z.has_no_tab_after why1 at1 (rw (sym z.is_rest, sym cut.0, sym cut.1, sym cut.2) x))
              | inr x ↦ (x.0, x.1 ∙ cut.2)
            ]
        | second_on n ↦
            let s : StepAt f.account f.separation f.rest f.here = step Same (λ x y e. ap (λ (u : Account). u.site) e) (BeginsOrApart text) f.stands g.stands n (clean_place f.way) in
            elim f.says [
              | inl x ↦
                  absurd (no_step_stands s (clear Same (λ x y e. ap (λ (u : Account). u.site) e) (BeginsOrApart text) f.stands g.stands n (clean_place f.way) (λ _. z.looked.has_no_tab)) why1 at1 x.fails)
              | inr x ↦ absurd (keyless_step text f.separation f.rest x.2.more f.account f.here s x.2.is_rest n.holds.0 x.2.place.is_filled x.2.is_value x.2.is_outside x.2.is_line_taken x.2.has_none)
            ]
        | first_on n ↦
            let s : StepAt g.account g.separation g.rest g.here = step GivesUp gives_up_site (λ x y. BeginsOrApart text y x) g.stands f.stands n (clean_place g.way) in
            elim n.holds.1 [
              | inl r ↦ absurd (keyless_step text g.separation g.rest z.more g.account g.here s z.is_rest r.1 z.place.is_filled z.is_value z.is_outside z.is_line_taken z.has_none)
              | inr r ↦ absurd (no_colon_here s z.more z.is_rest z.is_value z.is_outside z.is_line_taken (λ q waiting unbroken near. cc (waiting, r.1.none)))
            ]
      ]

-- All claims of a text are one.
pub stuck_once : (text : List ℕ) (why1 why2 : Problem) (at1 at2 : Position) → IsStuck text why1 at1 → IsStuck text why2 at2 → (why1 ≡ why2) × (at1 ≡ at2)
stuck_once text why1 why2 at1 at2 s t =
    let f : Claim text why1 at1 = claim_of text why1 at1 s in
    let g : Claim text why2 at2 = claim_of text why2 at2 t in
    elim g.says [
      | inr y ↦ let r = keyless_once text f g y.2 in (r.0 ∙ sym y.0, r.1 ∙ sym y.1)
      | inl y ↦ elim f.says [
        | inl x ↦ failing_once text f g x y
        | inr x ↦ let r = keyless_once text g f x.2 in (x.0 ∙ sym r.0, x.1 ∙ sym r.1)
      ]
    ]
