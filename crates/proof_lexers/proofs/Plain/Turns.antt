-- What the model does at each character of a plain scalar, in the definitions' words.
use Rattle.proof_lexers.proofs.Common.{[], after_blank, and_parts, ap, arith, At, at_break, at_dash, at_marker, at_plain, begins_flow, begins_white, Bool, can_be_plain, cases_Bool, collection_of, Context, ends_at_colon, ends_at_comment, ends_at_line, ends_plain, eqb-true, Err, false, Fault, Folded, if◌then◌else◌, inl, is_apart, inr, is_before_line_feed, is_blank, is_blank_or_breakz, is_break, is_cr_lf, is_deeper, is_flow, is_shallow, is_white, joined, List, nat_lt, nat_tests, not, Ok, on_line, or-true, or_parts, past, past_break, Plain, plain_from, Position, position_past, Read, refl, Result, slice_index, Stand, stops, suc, sym, true, with_blank, with_break, with_char, ℕ, ◌&&◌, ◌++◌, ◌+◌, ◌==◌, ◌||◌, ◌∙◌, ◌∷◌, ◌≡◌, PlainDashInFlow, is_blank_or_end, is_nul, both, same_break, same_blank, same_gap, same_flow, same_marker, and_false}
use Rattle.defs_text.specs.Classes as classes
use Rattle.defs_token.specs.Plain as defs
use Rattle.model_scanner.specs.Plain.{Mode, inside, between, goes_on}
pub use Rattle.proof_lexers.proofs.Bridges.{or_false}
pub use Rattle.proof_lexers.proofs.Plain.Found.{after_char, after_more, after_text, dash, dash_untabbed, Fails, fails, flow_untabbed, Found, found, grown, NoTab, same_left, tab, tab_blank, Tabbed, tabbed, token_ahead}

pub or_true : (b : Bool) → (b || true) ≡ true
or_true b = or-true b

-- ---- what the tests of both say

pub end_is_a_gap : is_blank_or_breakz 0 ≡ true
unfolding is_blank is_break
end_is_a_gap = refl

pub can_be : (flow : Bool) (c : ℕ) (a : List ℕ) → can_be_plain flow c (slice_index a 0) ≡ not (ends_at_colon flow (c ∷ a) || (flow && classes.is_flow c))
unfolding can_be_plain classes.is_flow
can_be flow c a = grind (arith, eqb-true, or_false, end_is_a_gap, same_gap, same_flow)

pub line_is : (ctx : Context) (c column : ℕ) (a : List ℕ) → ends_at_line ctx.flow (collection_of ctx.indent) (on_line column) (c ∷ a) ≡ (at_marker column (c ∷ a) || is_shallow ctx column)
unfolding is_shallow
line_is ctx c column a =
    let shallow_by : not (is_deeper (collection_of ctx.indent) column) ≡ nat_lt column ctx.indent = grind (arith, nat_tests, both) in
    rw (same_marker column (c ∷ a), shallow_by) refl

pub no_line : (ctx : Context) (c : ℕ) (a : List ℕ) (p : Position) → (p.col == 0) ≡ false → is_shallow ctx p.col ≡ false → false ≡ (at_marker p.col (c ∷ a) || is_shallow ctx p.col)
no_line ctx c a p e f = rw (same_marker p.col (c ∷ a), e, f) refl

pub same_feed : (c : ℕ) (a : List ℕ) → is_cr_lf c a ≡ is_before_line_feed c a
same_feed c b = grind (arith, and_false)

-- ---- positions

pub in_line_position : (c : ℕ) (a : List ℕ) (p : Position) → (classes.is_break c && not (is_before_line_feed c a)) ≡ false → position_past p c a ≡ past p
in_line_position c a p e = let i : suc p.index ≡ p.index + 1 = omega arith in let j : suc p.col ≡ p.col + 1 = omega arith in rw (e, i, j) refl

pub line_position : (c : ℕ) (a : List ℕ) (p : Position) → (classes.is_break c && not (is_before_line_feed c a)) ≡ true → position_past p c a ≡ past_break p
line_position c a p e = let i : suc p.index ≡ p.index + 1 = omega arith in let j : suc p.line ≡ p.line + 1 = omega arith in rw (e, i, j) refl

pub off_margin : (n : ℕ) → (n + 1 == 0) ≡ false
off_margin n = grind (arith, nat_tests)

pub as_deep : (ctx : Context) (n : ℕ) → is_shallow ctx n ≡ false → is_shallow ctx (n + 1) ≡ false
unfolding is_shallow
as_deep ctx n h = grind (arith, nat_tests)

-- within a line, no gap before the next character
abbrev pub in_text : List ℕ → Folded
in_text text = record { text = text; gap = []; leading = false; escaped = false }

-- the mode of a scan, by what stands before it
abbrev pub mode_of : Stand → Mode
mode_of defs.inside = inside
mode_of _ = between

module _ (ctx : Context) (start : Position) where
  abbrev pub scan_in : Mode → List ℕ → Position → Folded → Result (Read Plain) Fault
  scan_in m a p t = plain_from ctx start a (record { mode = m; position = p; folded = t })

  abbrev pub scan : List ℕ → Stand → Position → Folded → Result (Read Plain) Fault
  scan a s p t = scan_in (mode_of s) a p t

  -- Where a scan stands before a text: within a line; after blanks in it; after a break; or between CR and LF.
  pub data IsStanding (a : List ℕ) (p : Position) (t : Folded) : Stand → Type 0 where
    in_line : (text : List ℕ) → t ≡ in_text text → (p.col == 0) ≡ false → is_shallow ctx p.col ≡ false → IsStanding a p t defs.inside
    after_blanks : t.leading ≡ false → (p.col == 0) ≡ false → is_shallow ctx p.col ≡ false → IsStanding a p t after_blank
    at_line : (column : ℕ) → column ≡ p.col → t.leading ≡ true → IsStanding a p t (on_line column)
    at_feed : (column : ℕ) → (slice_index a 0 == 10) ≡ true → IsStanding a p t (on_line column)

  -- from each such position a scan finds the scalar's end, or is refused
  abbrev pub Scans : List ℕ → Type 0
  Scans a = (s : Stand) (p : Position) (t : Folded) → IsStanding a p t s → Found ctx start s p t a (scan a s p t)

  pub found_here : (a : List ℕ) (s : Stand) (p : Position) (t : Folded) (x : Result (Read Plain) Fault) → stops ctx.flow (collection_of ctx.indent) s a ≡ true → begins_white a ≡ false
      → x ≡ Ok (record { rest = a; position = p; value = record { text = t.text; leading = t.leading } }) → Found ctx start s p t a x
  found_here a s p t x e ends is = found [] [] a refl refl refl e refl ends (is ∙ ap (λ b. Ok (record { rest = a; position = p; value = record { text = t.text; leading = b } })) (sym (or_false t.leading)))

  -- a character that is no end of the scalar
  went : (c : ℕ) (a : List ℕ) (s next : Stand) (p q : Position) (t v : Folded) (x : Result (Read Plain) Fault) → (is_white c || not (ends_plain ctx.flow (collection_of ctx.indent) s (c ∷ a))) ≡ true → NoTab ctx start c a s
      → defs.past s c ≡ next → position_past p c a ≡ q → after_char c a t ≡ v → Scans a → IsStanding a q v next → x ≡ scan a next q v → Found ctx start s p t (c ∷ a) x
  went c a s next p q t v x on other e f g ih stands is =
      let same : Found ctx start (defs.past s c) (position_past p c a) (after_char c a t) a (scan a next q v) = rw (e, f, g) (ih next q v stands) in
      rw is (grown ctx start c a s p t _ on other same)

  -- ---- breaks

  at_breaks : (c : ℕ) (a : List ℕ) (s : Stand) (p : Position) (t : Folded) → is_break c ≡ true → scan (c ∷ a) s p t ≡ plain_from ctx start a (at_break c a (record { mode = mode_of s; position = p; folded = t }))
  at_breaks c a s p t e = grind arith

  pub break_step : (c : ℕ) (a : List ℕ) (s : Stand) (p : Position) (t : Folded) → is_break c ≡ true → Scans a → Found ctx start s p t (c ∷ a) (scan (c ∷ a) s p t)
  unfolding is_break is_blank
  break_step c a s p t e ih =
      let breaks : classes.is_break c ≡ true = same_break c ∙ e in
      let white : is_white c ≡ true = rw breaks (or_true (classes.is_blank c)) in
      let other : NoTab ctx start c a s = λ column i line less. absurd (cc (e, ap is_break i)) in
      let x = at_breaks c a s p t e in
      elim (cases_Bool (is_cr_lf c a)) [
        | inl f ↦
            let g : is_before_line_feed c a ≡ true = sym (same_feed c a) ∙ f in
            went c a s (on_line 0) p (past p) t t _ (rw white refl) other (rw breaks refl) (in_line_position c a p (rw g (and_false (classes.is_break c)))) (rw (breaks, g) refl) ih (at_feed 0 (and_parts (c == 13) (slice_index a 0 == 10) f).1) (rw f at x)
        | inr f ↦
            let g : is_before_line_feed c a ≡ false = sym (same_feed c a) ∙ f in
            went c a s (on_line 0) p (past_break p) t (with_break t) _ (rw white refl) other (rw breaks refl) (line_position c a p (rw (breaks, g) refl)) (rw (breaks, g) refl) ih
            (at_line 0 refl (elim (cases_Bool t.leading) [ inl e ↦ rw e refl | inr e ↦ rw e refl ])) (rw f at x)
      ]

  -- ---- blanks

  pub blank_step : (c : ℕ) (a : List ℕ) (s next : Stand) (p : Position) (t : Folded) (x : Result (Read Plain) Fault) → is_break c ≡ false → is_blank c ≡ true → defs.past_blank s ≡ next → NoTab ctx start c a s
      → Scans a → IsStanding a (past p) (with_blank c t) next → x ≡ scan a next (past p) (with_blank c t) → Found ctx start s p t (c ∷ a) x
  blank_step c a s next p t x e f g other ih stands is =
      let breaks : classes.is_break c ≡ false = same_break c ∙ e in
      let blank : classes.is_blank c ≡ true = same_blank c ∙ f in
      went c a s next p (past p) t (with_blank c t) x (rw blank refl) other (rw (breaks, blank) g) (in_line_position c a p (rw breaks refl)) (rw (breaks, blank) refl) ih stands is

  -- ---- content

  pub content_step : (c : ℕ) (a : List ℕ) (s : Stand) (p : Position) (t : Folded) (x : Result (Read Plain) Fault) → is_white c ≡ false → ends_plain ctx.flow (collection_of ctx.indent) s (c ∷ a) ≡ false → is_shallow ctx p.col ≡ false → Scans a
      → x ≡ scan a defs.inside (past p) (with_char c (joined t)) → Found ctx start s p t (c ∷ a) x
  content_step c a s p t x white e deep ih is =
      let q = or_parts (classes.is_blank c) (classes.is_break c) white in
      let other : NoTab ctx start c a s = λ column i line less. absurd (cc (q.0, ap classes.is_blank i, tab_blank)) in
      went c a s defs.inside p (past p) t (with_char c (joined t)) x (rw (white, e) refl) other (rw (q.0, q.1) refl) (in_line_position c a p (rw q.1 refl)) (rw (q.0, q.1) refl) ih
      (in_line ((joined t).text ++ c ∷ []) refl (off_margin p.col) (as_deep ctx p.col deep)) is

  pub dash_parts : (flow : Bool) (c : ℕ) (a : List ℕ) → at_dash flow (c ∷ a) ≡ true → (flow ≡ true) × (c ≡ 45) × (begins_flow a ≡ true)
  unfolding at_dash is_flow
  dash_parts flow c b h = grind (arith, nat_tests, eqb-true, same_flow)

  -- whether a scan goes on at content after a gap
  after_gap_goes : (c : ℕ) (a : List ℕ) (s : Stand) (p : Position) → is_white c ≡ false → (c == 0) ≡ false → ends_at_comment s (c ∷ a) ≡ (c == 35) → ends_at_line ctx.flow (collection_of ctx.indent) s (c ∷ a) ≡ (at_marker p.col (c ∷ a) || is_shallow ctx p.col)
      → goes_on ctx (c ∷ a) p ≡ (if not (is_shallow ctx p.col || (c == 35) || at_marker p.col (c ∷ a)) && at_dash ctx.flow (c ∷ a) then Err (At PlainDashInFlow p) else Ok (not (ends_plain ctx.flow (collection_of ctx.indent) s (c ∷ a))))
  unfolding goes_on at_plain is_blank_or_end is_nul
  after_gap_goes c a s p white nul comment line =
      let q = or_parts (classes.is_blank c) (classes.is_break c) white in
      let plain : at_plain ctx.flow (c ∷ a) ≡ not (ends_at_colon ctx.flow (c ∷ a) || (ctx.flow && classes.is_flow c)) = rw (← same_gap c, q.0, q.1, nul, can_be ctx.flow c a) refl in
      rw (plain, nul, comment, line) (by (is_shallow ctx p.col) (c == 35) (at_marker p.col (c ∷ a)) (at_dash ctx.flow (c ∷ a)) (ends_at_colon ctx.flow (c ∷ a)) (ctx.flow && classes.is_flow c) (At PlainDashInFlow p))
    where
      by : (shallow hash marker minus colon flow : Bool) (f : Fault)
          → (if shallow then Ok false else (if hash || marker then Ok false else (if minus then Err f else Ok (not (colon || flow))))) ≡ (if not (shallow || hash || marker) && minus then Err f else Ok (not (colon || hash || (marker || shallow) || flow)))
      by shallow hash marker minus colon flow f = grind arith

  -- content after a gap
  pub after_gap : (c : ℕ) (a : List ℕ) (s : Stand) (p : Position) (t : Folded) → is_white c ≡ false → (is_break c || is_blank c) ≡ false → (c == 0) ≡ false → is_apart s ≡ true → ends_at_comment s (c ∷ a) ≡ (c == 35)
      → ends_at_line ctx.flow (collection_of ctx.indent) s (c ∷ a) ≡ (at_marker p.col (c ∷ a) || is_shallow ctx p.col) → Scans a → Found ctx start s p t (c ∷ a) (scan_in between (c ∷ a) p t)
  after_gap c a s p t white solid nul apart comment line ih =
      let goes = after_gap_goes c a s p white nul comment line in
      let stands : Bool = not (is_shallow ctx p.col || (c == 35) || at_marker p.col (c ∷ a)) in
      elim (cases_Bool (stands && at_dash ctx.flow (c ∷ a))) [
        | inl d ↦
            let r = dash_parts ctx.flow c a (and_parts stands (at_dash ctx.flow (c ∷ a)) d).1 in
            fails (At PlainDashInFlow p) (dash [] a (dash_untabbed ctx start c a s r.0 r.1 r.2) r.0 (ap (λ k. k ∷ a) r.1) r.2 refl apart) (rw (solid, goes, d) refl)
        | inr d ↦ elim (cases_Bool (ends_plain ctx.flow (collection_of ctx.indent) s (c ∷ a))) [
          | inl e ↦ found_here (c ∷ a) s p t _ (rw white e) white (rw (solid, goes, d, e) refl)
          | inr e ↦ content_step c a s p t _ white e (deep e) ih (rw (solid, goes, d, e) refl)
        ]
      ]
    where
      deep : ends_plain ctx.flow (collection_of ctx.indent) s (c ∷ a) ≡ false → is_shallow ctx p.col ≡ false
      deep e = grind (arith, line)
