-- Words that are taken at once, and the lone blanks between them, belong to a scalar's text as they stand.
use Rattle.std.specs.Prelude.{not}
use Rattle.std.proofs.lemmas.Bool.{and_parts}
use Rattle.yaml_lexers.proofs.Common.{[], AddsWords, ap, append-nil, append_assoc, arith, block_run, Bool, comment, comment_on, Context, false, is_blank, is_break, length, List, nat_tests, none, past, plain_run, Position, position_of, quoted_run, Reads, Reads-map, refl, slice_index, some, stops_nul, suc, sym, true, WindowView, ℕ, ◌&&◌, ◌++◌, ◌+◌, ◌||◌, ◌∙◌, ◌∷◌, ◌≡◌, ◌≤◌}
use Rattle.yaml_chars.specs.Run.{stops}
use Rattle.yaml_chars.specs.Words.{begins_word, is_in_words, are_words, TakesWords, PassesWords}
use Rattle.yaml_chars.specs.declared.run.Run.{Run}
use Rattle.yaml_chars.specs.declared.run.Run.TheVariants as kind
use Rattle.yaml_chars.proofs.WordsLemmas.{begins_goes}
use Rattle.model_scanner.specs.Folding as folding
use Rattle.model_scanner.specs.Plain as plain
use Rattle.model_scanner.specs.Quoted as quoted
use Rattle.model_scanner.specs.BlockScalar as block
use Rattle.model_scanner.proofs.PlainLemmas as in_plain
use Rattle.model_scanner.proofs.QuotedLemmas as in_quotes

true_is_not_false : true ≡ false → ⊥
true_is_not_false h = cc

-- so many characters on in a line
abbrev along : Position → ℕ → Position
along p n = record { index = p.index + n; line = p.line; col = p.col + n }

module _ {A : Type 0} (run : Run) (f : List ℕ → Position → List ℕ → A) (Fits : Position → Type 0) (later : (p : Position) → Fits p → Fits (past p))
    (step : (c : ℕ) (a : List ℕ) (p : Position) (t : List ℕ) → stops run c ≡ false → f (c ∷ a) p t ≡ f a (past p) (t ++ c ∷ []))
    (over : (c d : ℕ) (a : List ℕ) (p : Position) (t : List ℕ) → Fits p → stops run c ≡ true → is_blank c ≡ true → begins_word run d ≡ true → f (c ∷ d ∷ a) p t ≡ f (d ∷ a) (past p) (t ++ c ∷ [])) where
  -- a character of words
  one : (c : ℕ) (cs b : List ℕ) (p : Position) (t : List ℕ) → Fits p → is_in_words run c (slice_index cs 0) ≡ true → f (c ∷ (cs ++ b)) p t ≡ f (cs ++ b) (past p) (t ++ c ∷ [])
  one c cs b p t fits h = by (stops run c) refl
    where
      both : (x y : Bool) → (not true || (x && y)) ≡ true → (x ≡ true) × (y ≡ true)
      both true true h = (refl, refl)
      both true false h = cc
      both false y h = cc

      at_blank : (cs : List ℕ) → is_blank c ≡ true → stops run c ≡ true → begins_word run (slice_index cs 0) ≡ true → f (c ∷ (cs ++ b)) p t ≡ f (cs ++ b) (past p) (t ++ c ∷ [])
      at_blank [] blank stop begins = absurd (true_is_not_false (sym (stops_nul run) ∙ begins_goes run 0 begins))
      at_blank (d ∷ cs) blank stop begins = over c d (cs ++ b) p t fits stop blank begins

      by : (x : Bool) → stops run c ≡ x → f (c ∷ (cs ++ b)) p t ≡ f (cs ++ b) (past p) (t ++ c ∷ [])
      by false e = step c (cs ++ b) p t e
      by true e = let parts = both (is_blank c) (begins_word run (slice_index cs 0)) (rw e at h) in at_blank cs parts.0 e parts.1

  through : (part b : List ℕ) (p : Position) (t : List ℕ) → Fits p → are_words run part ≡ true → f (part ++ b) p t ≡ f b (along p (length part)) (t ++ part)
  through [] b p t fits h =
      let index : p.index ≡ p.index + 0 = omega arith in
      let col : p.col ≡ p.col + 0 = omega arith in
      let same : t ≡ t ++ [] = sym (append-nil t) in
      λ i. f b (record { index = index i; line = p.line; col = col i }) (same i)
  through (c ∷ cs) b p t fits h =
      let parts = and_parts (is_in_words run c (slice_index cs 0)) _ h in
      let index : p.index + 1 + length cs ≡ p.index + suc (length cs) = omega arith in
      let col : p.col + 1 + length cs ≡ p.col + suc (length cs) = omega arith in
      let same : (t ++ c ∷ []) ++ cs ≡ t ++ c ∷ cs = append_assoc t (c ∷ []) cs in
      one c cs b p t fits parts.0 ∙ through cs b (past p) (t ++ c ∷ []) (later p fits) parts.1
      ∙ (λ i. f b (record { index = index i; line = p.line; col = col i }) (same i))

  pub through_words : (a b : List ℕ) (p q : Position) (t u : List ℕ) → Fits p → TakesWords run a b p q t u → f a p t ≡ f b q u
  through_words a b p q t u fits took =
      ap (λ x. f x p t) took.split ∙ through took.part b p t fits took.words
      ∙ (let position = sym took.position in let text = sym took.text in λ i. f b (position i) (text i))

-- ---- of a plain scalar

deeper : (ctx : Context) (n : ℕ) → plain.is_shallow ctx n ≡ false → plain.is_shallow ctx (n + 1) ≡ false
unfolding plain.is_shallow
deeper ctx n h = grind (arith, nat_tests)

plain_words : (ctx : Context) (start : Position) (a b : List ℕ) (p q : Position) (t u : folding.Folded)
    → plain.is_shallow ctx p.col ≡ false → AddsWords (kind.Plain ctx.flow) a b p q t u
    → plain.plain_from ctx start a (record { mode = plain.inside; position = p; folded = t })
    ≡ plain.plain_from ctx start b (record { mode = plain.inside; position = q; folded = u })
plain_words ctx start a b p q t u deep (none left position same) = rw (left, position, same) refl
plain_words ctx start a b p q t u deep (some gap leading escaped took same) =
    through_words (kind.Plain ctx.flow) (λ d r v. plain.plain_from ctx start d (record { mode = plain.inside; position = r; folded = record t { text = v } }))
    (λ r. plain.is_shallow ctx r.col ≡ false) (λ r h. deeper ctx r.col h)
    (λ c d r v e. plain_run ctx start c d r (record t { text = v }) e)
    (λ c d e r v h stop blank begins. in_plain.lone_blank ctx start ctx.flow c d (c ∷ d ∷ e) (d ∷ e) r (record t { text = v }) refl refl blank begins (deeper ctx r.col h) gap leading escaped)
    a b p q t.text u.text deep took
    ∙ ap (λ v. plain.plain_from ctx start b (record { mode = plain.inside; position = q; folded = v })) (sym same)

pub plain_read : {T : Type 0} (ctx : Context) (old new : WindowView T) (t u : folding.Folded)
    → plain.is_shallow ctx old.col ≡ false → Reads old new (λ a b. AddsWords (kind.Plain ctx.flow) a b (position_of old) (position_of new) t u)
    → Reads old new (λ a b. (start : Position) → plain.plain_from ctx start a (record { mode = plain.inside; position = position_of old; folded = t })
    ≡ plain.plain_from ctx start b (record { mode = plain.inside; position = position_of new; folded = u }))
plain_read ctx old new t u deep took = Reads-map old new took (λ a b e start. plain_words ctx start a b _ _ t u deep e)

-- ---- of a quoted scalar

no_gap_of : (quote d : ℕ) → begins_word (kind.Quoted quote) d ≡ true → (is_break d || is_blank d) ≡ false
unfolding stops is_break is_blank
no_gap_of quote d h = let g = begins_goes (kind.Quoted quote) d h in grind (arith, nat_tests)

quoted_words : (single : Bool) (ctx : Context) (start : Position) (a b : List ℕ) (p q : Position) (t u : folding.Folded)
    → ctx.indent ≤ p.col + 1 → AddsWords (kind.Quoted (quoted.quote_of single)) a b p q t u
    → quoted.quoted_from single ctx start a (record { mode = quoted.inside; position = p; folded = t })
    ≡ quoted.quoted_from single ctx start b (record { mode = quoted.inside; position = q; folded = u })
quoted_words single ctx start a b p q t u deep (none left position same) = rw (left, position, same) refl
quoted_words single ctx start a b p q t u deep (some gap leading escaped took same) =
    through_words (kind.Quoted (quoted.quote_of single)) (λ d r v. quoted.quoted_from single ctx start d (record { mode = quoted.inside; position = r; folded = record t { text = v } }))
    (λ r. ctx.indent ≤ r.col + 1) (λ r h. omega (arith, h))
    (λ c d r v e. quoted_run single ctx start c d r (record t { text = v }) e)
    (λ c d e r v h stop blank begins. in_quotes.lone_blank single ctx start c d (c ∷ d ∷ e) (d ∷ e) r (record t { text = v }) refl refl blank (no_gap_of (quoted.quote_of single) d begins) gap leading escaped
    (in_quotes.in_line_goes_on ctx start (d ∷ e) (past r) (omega arith) (omega (arith, h))))
    a b p q t.text u.text deep took
    ∙ ap (λ v. quoted.quoted_from single ctx start b (record { mode = quoted.inside; position = q; folded = v })) (sym same)

pub quoted_read : {T : Type 0} (single : Bool) (ctx : Context) (start : Position) (quote : ℕ) (old new : WindowView T) (t u : folding.Folded)
    → quote ≡ quoted.quote_of single → ctx.indent ≤ old.col + 1 → Reads old new (λ a b. AddsWords (kind.Quoted quote) a b (position_of old) (position_of new) t u)
    → Reads old new (λ a b. quoted.quoted_from single ctx start a (record { mode = quoted.inside; position = position_of old; folded = t })
    ≡ quoted.quoted_from single ctx start b (record { mode = quoted.inside; position = position_of new; folded = u }))
quoted_read single ctx start quote old new t u same deep took = Reads-map old new took (λ a b e. quoted_words single ctx start a b _ _ t u deep (rw same at e))

-- ---- of a line

-- in a line no blank ends a run
never_blank : (c : ℕ) → stops kind.Line c ≡ true → is_blank c ≡ true → ⊥
unfolding stops is_break is_blank
never_blank c h blank = grind (arith, nat_tests)

pub block_words : (literal : Bool) (column : ℕ) (a b : List ℕ) (p q : Position) (l : block.Lines) (u : List ℕ) → TakesWords kind.Line a b p q l.text u
    → block.lines_from literal column a (record { mode = block.line; position = p; lines = l })
    ≡ block.lines_from literal column b (record { mode = block.line; position = q; lines = record l { text = u } })
block_words literal column a b p q l u took =
    through_words kind.Line (λ d r t. block.lines_from literal column d (record { mode = block.line; position = r; lines = record l { text = t } }))
    (λ r. Unit {0}) (λ r h. tt)
    (λ c d r t e. block_run literal column c d r (record l { text = t }) e)
    (λ c d e r v h stop blank begins. absurd (never_blank c stop blank))
    a b p q l.text u tt took

pub comment_words : (a b : List ℕ) (p q : Position) → PassesWords kind.Line a b p q → comment a p ≡ comment b q
comment_words a b p q passed =
    through_words kind.Line (λ d r t. comment d r) (λ r. Unit {0}) (λ r h. tt)
    (λ c d r t e. comment_on c (c ∷ d) d r refl e)
    (λ c d e r v h stop blank begins. absurd (never_blank c stop blank))
    a b p q [] (passed.0) tt passed.1
