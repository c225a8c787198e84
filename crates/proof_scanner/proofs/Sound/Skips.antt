-- What the model skips between tokens leaves no TAB in the indentation of the next one.
use Rattle.std.proofs.lemmas.List.{length-append}
use Rattle.proof_scanner.proofs.Common.{TabInBlockIndentation, At, Err, Fault, Gap, Held, Holds, List, Ok, Previous, Result, ScannerState, [], and_parts, ap, append-nil, append_assoc, arith, begins_line, between, comment, eqb-true, false, has_tab_within, is_at_comment_or_end, is_before_indent, is_cr_lf, is_empty, last_line, length, moved, no_hash, or-false, or-true, past_line, refl, refused, same_break, skip, subst, suc, tab_line, true, weakened, went, ℕ, ◌&&◌, ◌++◌, ◌==◌, ◌||◌, ◌∷◌, ◌≡◌, ◌⊎◌}
use Rattle.yaml_chars.specs.Class.{is_break}
use Rattle.defs_text.specs.Classes as classes
use Rattle.proof_scanner.proofs.Sound.LastLines.{break_append, last_more, tab_within_more}

-- a break more begins a line, and nothing else does
pub line_more : (before : Previous) (g : List ℕ) (c : ℕ) → begins_line before (g ++ c ∷ []) ≡ (begins_line before g || classes.is_break c)
line_more before g c = grind (arith, break_append)

module _ (before : Previous) (least : ℕ) where
  -- no TAB stands before the least column, if the line begins here
  abbrev pub Spaced : List ℕ → Type 0
  Spaced g = begins_line before g ≡ true → has_tab_within least (last_line g) ≡ false

  -- the innermost level of indentation is that of the least column
  abbrev pub IsLeast : Held → Type 0
  IsLeast s = (is_empty s.indents ≡ true → least ≡ 0) × (is_empty s.indents ≡ false → s.indent ≡ suc least)

  -- Where tokens may begin after a separation: what the scanner knows of the line.
  pub record IsAt (g : List ℕ) (s : Held) : Type 0 where
    pub leading_is : is_empty s.indents ≡ false → s.leading ≡ begins_line before g
    pub col_is : begins_line before g ≡ true → s.position.col ≡ length (last_line g)
    pub spaced : Spaced g

  -- the same, or no token begins here
  abbrev pub IsPassed : (Tabbed : List ℕ → Type 0) → Gap → List ℕ → Held → List ℕ → Type 0
  IsPassed Tabbed between g s a = (is_at_comment_or_end a ≡ true) ⊎ IsAt g s
  IsPassed Tabbed comment g s a = Unit {0}
  IsPassed Tabbed tab_line g s a = Tabbed g

  -- the same, where nothing is said of a line that a TAB indents
  abbrev pub IsIn : Gap → List ℕ → Held → List ℕ → Type 0
  IsIn m g s a = IsPassed (λ _. Unit {0}) m g s a

  -- What is left, with what was passed: no TAB indents what comes next, and it is known whether its line begins there.
  pub record Cleared (g a : List ℕ) (u : ScannerState) : Type 0 where
    pub passed : List ℕ
    pub cut : a ≡ passed ++ u.rest
    pub clear : is_empty u.rest ≡ false → IsAt (g ++ passed) u.held

  -- ---- a break

  pub at_line : (g : List ℕ) (c : ℕ) (s : Held) → is_break c ≡ true → IsAt (g ++ c ∷ []) (past_line s)
  at_line g c s e = grind (arith, same_break, last_more, line_more, or-true)

  pub feed_next : (c : ℕ) (a : List ℕ) → is_cr_lf c a ≡ true → is_at_comment_or_end a ≡ true
  unfolding classes.is_break
  feed_next c b h = grind (arith, eqb-true)

  -- ---- a blank

  -- a blank that is no TAB in the indentation
  pub at_blank : (g : List ℕ) (c : ℕ) (s : Held) → classes.is_break c ≡ false → ((c == 9) && is_before_indent s) ≡ false → IsLeast s → IsAt g s → IsAt (g ++ c ∷ []) (moved s)
  unfolding is_before_indent
  at_blank g c s e f l h = grind (arith, line_more, or-false, last_more, length-append, tab_within_more, eqb-true)

  -- ---- each character

  pub no_end : (c : ℕ) (a : List ℕ) → is_break c ≡ false → (c == 35) ≡ false → is_at_comment_or_end (c ∷ a) ≡ false
  no_end c a e f = grind (arith, same_break)

  -- How something is told of the way to the next token, with what was passed before: it goes on over each character, and holds where the way ends; and what is known of a line that a TAB indents.
  pub record SkipsBy (Q : (g a : List ℕ) → Held → Result ScannerState Fault → Type 0) (Tabbed : List ℕ → Type 0) : Type 0 where
    pub ended : (g : List ℕ) (s : Held) → Q g [] s (Ok (record { rest = []; held = s }))
    pub further : (g a : List ℕ) (c : ℕ) (s u : Held) (r : Result ScannerState Fault) → u.position.index ≡ suc s.position.index → Q (g ++ c ∷ []) a u r → Q g (c ∷ a) s r
    pub arrives : (g a : List ℕ) (c : ℕ) (s : Held) → IsAt g s → Q g (c ∷ a) s (Ok (record { rest = c ∷ a; held = s }))
    pub tab : (g : List ℕ) (c : ℕ) (s : Held) → is_break c ≡ false → ((c == 9) && is_before_indent s) ≡ true → IsLeast s → IsAt g s → Tabbed (g ++ c ∷ [])
    pub blank : (g : List ℕ) (c : ℕ) → is_break c ≡ false → Tabbed g → Tabbed (g ++ c ∷ [])
    pub fails : (g a : List ℕ) (c : ℕ) (s : Held) → Tabbed g → Q g (c ∷ a) s (Err (At TabInBlockIndentation s.position))

  module _ (Q : (g a : List ℕ) → Held → Result ScannerState Fault → Type 0) (Tabbed : List ℕ → Type 0) (w : SkipsBy Q Tabbed) where
    abbrev Tells : List ℕ → Type 0
    Tells a = (m : Gap) (g : List ℕ) (s : Held) → IsLeast s → IsPassed Tabbed m g s a → Q g a s (skip m a s)

    broken : (m : Gap) (g a : List ℕ) (c : ℕ) (s : Held) → is_break c ≡ true → IsLeast s → Tells a → Q g (c ∷ a) s (skip m (c ∷ a) s)
    unfolding skip
    broken m g a c s e l ih = rw e (grind (arith, w.further g a c s (moved s), w.further g a c s (past_line s), feed_next c a, at_line g c s e, ih between (g ++ c ∷ []) (moved s) l, ih between (g ++ c ∷ []) (past_line s) l))

    between_by : (g a : List ℕ) (c : ℕ) (s : Held) → is_break c ≡ false → IsLeast s → IsPassed Tabbed between g s (c ∷ a) → Tells a → Q g (c ∷ a) s (skip between (c ∷ a) s)
    unfolding skip
    between_by g a c s e l h ih =
        let at : (c == 35) ≡ false → IsAt g s = λ f. grind (arith, no_end c a e f) in
        let hash : Held = record (moved s) { leading = false } in
        let tabbed = ih tab_line (g ++ c ∷ []) (moved s) l in
        let next = ih between (g ++ c ∷ []) (moved s) l in
        let noted = ih comment (g ++ c ∷ []) hash l in
        let on = w.further g a c s hash in
        rw e (grind (arith, eqb-true, and_parts (c == 9) (is_before_indent s), at, w.tab g c s e, w.arrives g a c s, at_blank g c s, same_break c, no_hash c, w.further g a c s (moved s), on, tabbed, next, noted))

    comment_by : (g a : List ℕ) (c : ℕ) (s : Held) → is_break c ≡ false → IsLeast s → Tells a → Q g (c ∷ a) s (skip comment (c ∷ a) s)
    unfolding skip
    comment_by g a c s e l ih = rw e (w.further g a c s (moved s) _ (omega arith) (ih comment (g ++ c ∷ []) (moved s) l tt))

    tab_by : (g a : List ℕ) (c : ℕ) (s : Held) → is_break c ≡ false → IsLeast s → Tabbed g → Tells a → Q g (c ∷ a) s (skip tab_line (c ∷ a) s)
    unfolding skip
    tab_by g a c s e l h ih = rw e (grind (arith, w.fails g a c s h, w.blank g c e h, w.further g a c s (moved s), ih tab_line (g ++ c ∷ []) (moved s) l, ih comment (g ++ c ∷ []) (moved s) l))

    pub skip_tells : (a : List ℕ) → Tells a
    unfolding skip
    skip_tells [] m g s l h = w.ended g s
    skip_tells (c ∷ a) m g s l h = grind (arith, broken, between_by, comment_by, tab_by, skip_tells a)

  pub skip_clears : (a : List ℕ) (m : Gap) (g : List ℕ) (s : Held) → IsLeast s → IsIn m g s a → Holds (Cleared g a) (skip m a s)
  skip_clears = skip_tells (λ g a s r. Holds (Cleared g a) r) (λ _. Unit {0}) (record {
    ended = λ g s. went (record { passed = []; cut = refl; clear = λ e. absurd (cc e) });
    further = λ g a c s u r next h. (weakened (λ u x. record { passed = c ∷ x.passed; cut = ap (λ y. c ∷ y) x.cut; clear = λ e. subst (λ y. IsAt y u.held) (append_assoc g (c ∷ []) x.passed) (x.clear e) }) h);
    arrives = λ g a c s at. went (record { passed = []; cut = refl; clear = λ _. rw (append-nil g) at });
    tab = λ g c s e f l h. tt;
    blank = λ g c e h. tt;
    fails = λ g a c s h. refused;
  })
