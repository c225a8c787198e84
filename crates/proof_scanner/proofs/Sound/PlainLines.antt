-- The scan of a plain scalar refuses TABs that indent its further lines, and in flow a dash before a flow indicator.
use Rattle.std.proofs.Math.Seq.{take-nil}
use Rattle.proof_scanner.proofs.Common.{Bool, Context, Err, Fault, List, Ok, Plain, PlainState, Position, Read, Result, Stop, Turn, [], after_first, and_false, and_parts, and_then, ap, append_assoc, append_cancel_right, arith, at_char, at_dash, begins_flow, begins_solid, ended, eqb-true, fail, false, first, has_break, has_dash_before_flow, has_tab_within, if◌then◌else◌, inl, inr, is_at_comment_or_end, is_before_line_feed, is_blanks, is_gap, joined, last_line, leading, lines_have_no_tab, nat_lt, nat_tests, not, not-true, nothing, on, or_true, plain_from, plain_lines_fit, put_first, refl, run, same_blank, same_break, split, starts, stop, suc, sym, tabs, true, turn, turn_in, turned, ℕ, ◌&&◌, ◌++◌, ◌-◌, ◌==◌, ◌||◌, ◌∙◌, ◌∷◌, ◌≡◌, ◌≤◌, ◌⊎◌, break_leads}
use Rattle.defs_text.specs.Classes as classes
use Rattle.yaml_chars.specs.Class.{is_break, is_blank}
use Rattle.yaml_chars.specs.Class as model_classes
use Rattle.model_scanner.specs.Plain.{Mode, inside, between, goes_on, plain}
use Rattle.proof_scanner.proofs.Sound.Steps.{blank_more, last_first, last_whole, same_flow_start}

-- ---- what a text says of TABs, character by character

-- Where a position stands on its line: after content; after so many blanks alone, on a further line; or after a TAB among those that indents it.
pub data Spot : Type 0 where
  in_text : Spot
  at : (column : ℕ) → Spot
  tabbed : Spot

-- after a character that is no break
abbrev pub spot_past : (column : ℕ) → Spot → ℕ → Spot
spot_past column in_text c = in_text
spot_past column (at k) c = (if (c == 9) && nat_lt k column then tabbed else (if is_blank c then at (suc k) else in_text))
spot_past column tabbed c = tabbed

-- after a character
abbrev pub past_spot : (column : ℕ) → Spot → ℕ → Spot
past_spot column x c = (if is_break c then at 0 else spot_past column x c)

-- after a TAB that indents stand only blanks and a break
abbrev pub may_go : Spot → ℕ → Bool
may_go tabbed c = is_break c || is_blank c
may_go _ c = true

-- or a comment, or the text's end
abbrev pub may_stop : Spot → (rest : List ℕ) → Bool
may_stop tabbed rest = is_at_comment_or_end rest
may_stop _ rest = true

abbrev pub tabs_fit : (column : ℕ) → Spot → (text rest : List ℕ) → Bool
tabs_fit column x [] rest = may_stop x rest
tabs_fit column x (c ∷ r) rest = may_go x c && tabs_fit column (past_spot column x c) r rest

-- in flow no dash stands after a blank or a break and before a flow indicator
abbrev pub dashes_fit : (flow apart : Bool) → (text rest : List ℕ) → Bool
dashes_fit flow apart [] rest = true
dashes_fit flow apart (c ∷ r) rest = not (flow && apart && (c == 45) && begins_flow (r ++ rest)) && dashes_fit flow (is_break c || is_blank c) r rest

-- ---- the scan

abbrev pub spot_of : Mode → (leading : Bool) → (column : ℕ) → Spot
spot_of between true k = at k
spot_of tabs l k = tabbed
spot_of _ l k = in_text

abbrev pub is_apart : Mode → Bool
is_apart inside = false
is_apart first = false
is_apart _ = true

-- whether a text begins with a break
abbrev pub begins_break : List ℕ → Bool
begins_break [] = false
begins_break (c ∷ r) = is_break c

-- where content stands directly before, no break was folded since
abbrev pub IsCalm : Mode → (leading : Bool) → Type 0
IsCalm first l = ⊥
IsCalm inside l = l ≡ false
IsCalm between l = Unit {0}
IsCalm tabs l = Unit {0}

-- a state is at a spot, or in the middle of CR LF
abbrev pub IsAt : PlainState → Spot → (rest : List ℕ) → Type 0
IsAt t x a = (spot_of t.mode t.folded.leading t.position.col ≡ x) ⊎ ((x ≡ at 0) × (begins_break a ≡ true))

module _ (ctx : Context) (start : Position) (c : ℕ) (a : List ℕ) where
  -- What a turn does at a character: it stays before it; fails, because of a TAB or a dash; or is after it.
  pub data Goes (m : Mode) (s : PlainState) : Turn PlainState Fault → Type 0 where
    stays : may_stop (spot_of m s.folded.leading s.position.col) (c ∷ a) ≡ true → (t : PlainState) → Goes m s (stop t)
    fails : (f : Fault) → (may_go (spot_of m s.folded.leading s.position.col) c ≡ false) ⊎ ((ctx.flow && is_apart m && (c == 45) && begins_flow a) ≡ true) → Goes m s (fail f)
    goes : (t : PlainState) → IsCalm t.mode t.folded.leading → may_go (spot_of m s.folded.leading s.position.col) c ≡ true → IsAt t (past_spot ctx.indent (spot_of m s.folded.leading s.position.col) c) a →
        (ctx.flow && is_apart m && (c == 45) && begins_flow a) ≡ false → is_apart t.mode ≡ (is_break c || is_blank c) → Goes m s (on t)

  no_spot : is_break c ≡ false → is_blank c ≡ false → (x : Spot) → may_go x c ≡ true → past_spot ctx.indent x c ≡ in_text
  unfolding is_blank
  no_spot breaks solid a h = grind arith

  -- ---- a turn

  pub turn_goes : (m : Mode) (s : PlainState) → IsCalm m s.folded.leading → Goes m s (turn_in ctx start m s c a)
  unfolding is_break is_blank goes_on at_dash model_classes.is_flow
  turn_goes a s l = grind (arith, eqb-true, on, stop, stays, tabs, fail, same_flow_start, between, break_leads, goes, fails, no_spot)

-- ---- a run

-- what a run passed, and what it says of TABs and dashes
record Passed (column : ℕ) (flow : Bool) (x : Spot) (apart : Bool) (text rest : List ℕ) : Type 0 where
  passed : List ℕ
  cut : text ≡ passed ++ rest
  tabs_are : tabs_fit column x passed rest ≡ true
  dashes_are : dashes_fit flow apart passed rest ≡ true

-- in the middle of CR LF a line begins too
relocated : (column : ℕ) (t : PlainState) (y : Spot) (a passed rest : List ℕ) → IsAt t y a → a ≡ passed ++ rest → tabs_fit column (spot_of t.mode t.folded.leading t.position.col) passed rest ≡ true → tabs_fit column y passed rest ≡ true
relocated column t y a passed rest (inl e) cut h = rw (sym e) h
relocated column t y a [] rest (inr b) cut h = rw b.0 refl
relocated column t y a (d ∷ p) rest (inr b) cut h = grind (arith, and_parts)

module _ (ctx : Context) (start : Position) where
  abbrev spot : PlainState → Spot
  spot s = spot_of s.mode s.folded.leading s.position.col

  abbrev PassedFrom : PlainState → (text rest : List ℕ) → Type 0
  PassedFrom s a rest = Passed ctx.indent ctx.flow (spot s) (is_apart s.mode) a rest

  one_more : (c : ℕ) (a rest : List ℕ) (x : Spot) (apart : Bool) (t : PlainState) → may_go x c ≡ true → IsAt t (past_spot ctx.indent x c) a → (ctx.flow && apart && (c == 45) && begins_flow a) ≡ false → is_apart t.mode ≡ (is_break c || is_blank c) →
      PassedFrom t a rest → Passed ctx.indent ctx.flow x apart (c ∷ a) rest
  one_more c a rest x apart t go here dash after p = record {
    passed = c ∷ p.passed;
    cut = ap (λ r. c ∷ r) p.cut;
    tabs_are = rw go (relocated ctx.indent t (past_spot ctx.indent x c) a p.passed rest here p.cut p.tabs_are);
    dashes_are =
        let none : (ctx.flow && apart && (c == 45) && begins_flow (p.passed ++ rest)) ≡ false = rw (sym p.cut) dash in
        rw none (rw (sym after) p.dashes_are);
  }

  went : (a : List ℕ) (s : PlainState) → IsCalm s.mode s.folded.leading → (t : Stop PlainState) → run (turn ctx start) a s ≡ Ok t → PassedFrom s a t.rest
  went [] s l t e = let same : record { rest = []; state = s } ≡ t = cc in rw (← same) (record { passed = []; cut = refl; tabs_are = grind arith; dashes_are = refl })
  went (c ∷ a) s l t e = by (λ u m k. went a u m t k) (turn ctx start s c a) (turn_goes ctx start c a s.mode s l) e
    where
      by : ((u : PlainState) → IsCalm u.mode u.folded.leading → run (turn ctx start) a u ≡ Ok t → PassedFrom u a t.rest) → (u : Turn PlainState Fault) → Goes ctx start c a s.mode s u →
          turned u (c ∷ a) (λ v. run (turn ctx start) a v) ≡ Ok t → PassedFrom s (c ∷ a) t.rest
      by others (stop u) (stays h v) e = let is : record { rest = c ∷ a; state = u } ≡ t = cc in rw (← is) (record { passed = []; cut = refl; tabs_are = h; dashes_are = refl })
      by others (fail f) (fails g why) e = absurd (cc e)
      by others (on u) (goes v m go here dash after) e = one_more c a t.rest (spot s) (is_apart s.mode) u go here dash after (others u m e)

-- ---- lines

abbrev pub first_of : List (List ℕ) → (last : List ℕ) → List ℕ
first_of [] last = last
first_of (l ∷ ls) last = l

abbrev pub first_line : List ℕ → List ℕ
first_line text = first_of (split text).complete (split text).last

-- a line from a column on, with blanks alone before it
abbrev pub line_is : (at column : ℕ) → List ℕ → Bool
line_is k column l = is_blanks l || not (has_tab_within (column - k) (leading classes.is_blank l))

abbrev pub lines_are : (column : ℕ) → Spot → List ℕ → Bool
lines_are column in_text t = plain_lines_fit column t
lines_are column (at k) t = line_is k column (first_line t) && plain_lines_fit column t
lines_are column tabbed t = is_blanks (first_line t) && plain_lines_fit column t

-- all lines: the first, and the others
pub all_lines : (column : ℕ) (ls : List (List ℕ)) (last : List ℕ) → lines_have_no_tab column (ls ++ (last ∷ [])) ≡ (line_is 0 column (first_of ls last) && lines_have_no_tab column (after_first ls last))
all_lines column a last = grind arith

pub feed_first : (c : ℕ) (r : List ℕ) → is_before_line_feed c r ≡ true → first_line r ≡ []
unfolding classes.is_break
feed_first c a h = grind (arith, eqb-true, and_parts)

module _ (column : ℕ) (c : ℕ) (r : List ℕ) where
  -- with a break before it
  broken_lines : classes.is_break c ≡ true → (x : Spot) → lines_are column (at 0) r ≡ true → lines_are column x (c ∷ r) ≡ true
  broken_lines e x h = grind (arith, and_parts, feed_first, all_lines)

  module _ (no_break : classes.is_break c ≡ false) where
    split_is : split (c ∷ r) ≡ put_first c (split r).complete (split r).last
    split_is = rw no_break refl

    pub first_is : first_line (c ∷ r) ≡ c ∷ first_line r
    first_is = grind (arith, split_is)

    pub others_are : plain_lines_fit column (c ∷ r) ≡ plain_lines_fit column r
    others_are = grind (arith, split_is)

    -- a blank more, which is no TAB left of the column
    blank_line : (k : ℕ) → classes.is_blank c ≡ true → ((c == 9) && nat_lt k column) ≡ false → (l : List ℕ) → line_is (suc k) column l ≡ true → line_is k column (c ∷ l) ≡ true
    blank_line k f g l h = grind (arith, column, blank_more, not-true)

    -- content ends the indentation
    content_line : (k : ℕ) → classes.is_blank c ≡ false → (l : List ℕ) → line_is k column (c ∷ l) ≡ true
    content_line k f l = rw (f, take-nil (column - k)) refl

-- What the scan says of each character says that the further lines fit.
lines_fit : (column : ℕ) (x : Spot) (t g rest : List ℕ) → tabs_fit column x (t ++ g) rest ≡ true → lines_are column x t ≡ true
unfolding classes.is_blank
lines_fit column a [] g rest h = grind arith
lines_fit column x (c ∷ r) g rest h = grind (arith, nat_tests, and_parts, same_break, eqb-true, first_is, others_are, blank_line, same_blank, content_line, broken_lines, lines_fit column (past_spot column x c) r g rest)

-- ---- the gap

-- where the gap begins
gap_spot : (column : ℕ) (x : Spot) (t g rest : List ℕ) → tabs_fit column x (t ++ g) rest ≡ true → (y : Spot) × (tabs_fit column y g rest ≡ true)
gap_spot column x [] g rest h = (x, h)
gap_spot column x (c ∷ r) g rest h = gap_spot column (past_spot column x c) r g rest (and_parts (may_go x c) (tabs_fit column (past_spot column x c) (r ++ g) rest) h).1

-- a comment or the text's end, or no TAB left of the column
abbrev IsClear : (column : ℕ) → (blanks rest : List ℕ) → Type 0
IsClear column bs rest = (is_at_comment_or_end rest ≡ true) ⊎ (has_tab_within column bs ≡ false)

tabbed_gap : (column : ℕ) (g rest : List ℕ) → has_break g ≡ false → tabs_fit column tabbed g rest ≡ true → is_at_comment_or_end rest ≡ true
tabbed_gap column [] rest n h = h
tabbed_gap column (c ∷ g) rest n h = grind (arith, and_parts, same_break, tabbed_gap column g rest)

blanks_gap : (column k : ℕ) (g rest : List ℕ) → has_break g ≡ false → is_gap g ≡ true → tabs_fit column (at k) g rest ≡ true → IsClear (column - k) g rest
blanks_gap column k [] rest n w h = grind (arith, take-nil)
blanks_gap column k (c ∷ g) rest n w h = grind (arith, and_parts, tabbed_gap, same_break, same_blank, blank_more, blanks_gap column (suc k) g rest)

broken_gap : (column : ℕ) (x : Spot) (g rest : List ℕ) → is_gap g ≡ true → has_break g ≡ true → tabs_fit column x g rest ≡ true → IsClear column (last_line g) rest
broken_gap column x [] rest w b h = absurd (cc b)
broken_gap column x (c ∷ g) rest w b h = grind (arith, and_parts, same_break, last_first, or_true, last_whole, blanks_gap, broken_gap column (past_spot column x c) g rest)

-- ---- the dash

no_last_dash : (flow apart : Bool) (t g rest : List ℕ) → dashes_fit flow apart (t ++ g) rest ≡ true → (flow && has_dash_before_flow t (g ++ rest)) ≡ false
no_last_dash flow apart (c ∷ d ∷ []) g rest h = grind (arith, same_break, same_blank, not-true, and_parts)
no_last_dash flow apart (c ∷ d ∷ e ∷ r) g rest h = grind (arith, and_parts, no_last_dash flow (is_break c || is_blank c) (d ∷ e ∷ r) g rest)
no_last_dash flow apart t g rest h = grind (arith, and_false)

-- ---- the whole scan

-- What the scan of a plain scalar says, besides what its piece is: in flow it begins deep enough; its further lines fit; no dash stands at its end before a flow indicator; no TAB indents what comes after its gap.
pub record PlainFits (ctx : Context) (p : Position) (piece gap rest : List ℕ) : Type 0 where
  pub deep : ctx.flow ≡ true → ctx.indent ≤ p.col
  pub lines : plain_lines_fit ctx.indent piece ≡ true
  pub dash : (ctx.flow && has_dash_before_flow piece (gap ++ rest)) ≡ false
  pub clear : is_gap gap ≡ true → has_break gap ≡ true → (is_at_comment_or_end rest ≡ true) ⊎ (has_tab_within ctx.indent (last_line gap) ≡ false)

of_passed : (ctx : Context) (p : Position) (text piece gap rest : List ℕ) → text ≡ piece ++ (gap ++ rest) → (ctx.flow ≡ true → ctx.indent ≤ p.col) → Passed ctx.indent ctx.flow in_text false text rest → PlainFits ctx p piece gap rest
of_passed ctx p text piece gap rest cut deep w =
    let same : w.passed ≡ piece ++ gap = append_cancel_right w.passed (piece ++ gap) rest (sym w.cut ∙ (cut ∙ sym (append_assoc piece gap rest))) in
    grind (arith, deep, w, gap_spot ctx.indent in_text piece gap rest, lines_fit ctx.indent in_text piece gap rest, no_last_dash ctx.flow false piece gap rest, broken_gap ctx.indent)

pub plain_fits : (ctx : Context) (p : Position) (text piece gap : List ℕ) (r : Read Plain) → begins_solid text ≡ true → text ≡ piece ++ (gap ++ r.rest) → plain ctx text p ≡ Ok r → PlainFits ctx p piece gap r.rest
unfolding plain starts
plain_fits ctx p [] piece gap r begins cut e = absurd (cc begins)
plain_fits ctx p (c ∷ a) piece gap r begins cut e = by (starts ctx (c ∷ a) p) refl e
  where
    solid : (is_break c ≡ false) × (is_blank c ≡ false)
    solid = grind (arith, same_break, same_blank, eqb-true)

    ran : (x : Result (Stop PlainState) Fault) → run (turn ctx p) (c ∷ a) (record { mode = first; position = p; folded = nothing }) ≡ x → ended x ≡ Ok r → Passed ctx.indent ctx.flow in_text false (c ∷ a) r.rest
    ran (Ok t) f h =
        let same : record { rest = t.rest; position = t.state.position; value = record { text = t.state.folded.text; leading = t.state.folded.leading } } ≡ r = cc in
        rw (sym same) (let s : PlainState = at_char c p (joined nothing) in one_more ctx p c a t.rest in_text false s refl (inl (sym (no_spot ctx p c a solid.0 solid.1 in_text refl))) (grind arith) (rw (solid.0, solid.1) refl) (went ctx p a s refl t f))
    ran (Err g) f h = absurd (cc h)

    by : (x : Result (Unit {0}) Fault) → starts ctx (c ∷ a) p ≡ x → and_then x (λ _. plain_from ctx p (c ∷ a) (record { mode = first; position = p; folded = nothing })) ≡ Ok r → PlainFits ctx p piece gap r.rest
    by (Ok u) f h = of_passed ctx p (c ∷ a) piece gap r.rest cut (grind (arith, at)) (ran (run (turn ctx p) (c ∷ a) (record { mode = first; position = p; folded = nothing })) refl h)
    by (Err g) f h = absurd (cc h)
