-- A run of ordinary characters of one line belongs to a scalar's text as it stands.
use Rattle.model_scanner.proofs.Common.{[], ap, arith, Bool, Context, false, is_blank, is_break, is_breakz, List, past, Position, Ran, ran, refl, stops, true, ℕ, ◌++◌, ◌||◌, ◌∷◌, ◌≡◌}
use Rattle.yaml_chars.specs.declared.run.Run.{Run}
use Rattle.yaml_chars.specs.declared.run.Run.TheVariants as kind
use Rattle.model_scanner.specs.Folding as folding
use Rattle.model_scanner.specs.Plain as plain
use Rattle.model_scanner.specs.Quoted as quoted
use Rattle.model_scanner.specs.BlockScalar as block

pub no_break : (c : ℕ) → is_breakz c ≡ false → is_break c ≡ false
no_break c h = grind arith

pub no_gap : (c : ℕ) → (is_blank c || is_breakz c) ≡ false → (is_break c || is_blank c) ≡ false
no_gap c h = grind arith

-- of a line of a block scalar
pub block_run : (literal : Bool) (column c : ℕ) (a : List ℕ) (p : Position) (t : block.Lines) → stops kind.Line c ≡ false
    → block.lines_from literal column (c ∷ a) (record { mode = block.line; position = p; lines = t })
    ≡ block.lines_from literal column a (record { mode = block.line; position = past p; lines = block.with_char c t })
unfolding stops
block_run literal column c a p t h = let b = no_break c h in rw b refl

-- of a quoted scalar
pub quoted_run : (single : Bool) (ctx : Context) (start : Position) (c : ℕ) (a : List ℕ) (p : Position) (t : folding.Folded) → stops (kind.Quoted (quoted.quote_of single)) c ≡ false
    → quoted.quoted_from single ctx start (c ∷ a) (record { mode = quoted.inside; position = p; folded = t })
    ≡ quoted.quoted_from single ctx start a (record { mode = quoted.inside; position = past p; folded = folding.with_char c t })
unfolding stops
quoted_run single ctx start c a p t h = grind arith

-- of a plain scalar
pub plain_run : (ctx : Context) (start : Position) (c : ℕ) (a : List ℕ) (p : Position) (t : folding.Folded) → stops (kind.Plain ctx.flow) c ≡ false
    → plain.plain_from ctx start (c ∷ a) (record { mode = plain.inside; position = p; folded = t })
    ≡ plain.plain_from ctx start a (record { mode = plain.inside; position = past p; folded = folding.with_char c t })
unfolding stops plain.can_be_plain
plain_run ctx start c a p t h = grind arith

-- what takes a run's characters one by one takes the whole run
pub through_run : {A : Type 0} (run : Run) (f : List ℕ → Position → List ℕ → A)
    → ((c : ℕ) (a : List ℕ) (p : Position) (t : List ℕ) → stops run c ≡ false → f (c ∷ a) p t ≡ f a (past p) (t ++ c ∷ []))
    → (a b : List ℕ) (p q : Position) (t u : List ℕ) → ran run a p t ≡ record { rest = b; position = q; text = u } → f a p t ≡ f b q u
through_run run f step [] b p q t u h = ap (λ (r : Ran). f r.rest r.position r.text) h
through_run run f step (c ∷ a) b p q t u h = grind (arith, step c a p t, through_run run f step a b (past p) q (t ++ c ∷ []) u)

pub block_ran : (literal : Bool) (column : ℕ) (a b : List ℕ) (p q : Position) (l : block.Lines) (u : List ℕ) → ran kind.Line a p l.text ≡ record { rest = b; position = q; text = u }
    → block.lines_from literal column a (record { mode = block.line; position = p; lines = l })
    ≡ block.lines_from literal column b (record { mode = block.line; position = q; lines = record l { text = u } })
block_ran literal column a b p q l u h =
    through_run kind.Line (λ d r t. block.lines_from literal column d (record { mode = block.line; position = r; lines = record l { text = t } }))
    (λ c d r t e. block_run literal column c d r (record l { text = t }) e) a b p q l.text u h

pub quoted_ran : (single : Bool) (ctx : Context) (start : Position) (a b : List ℕ) (p q : Position) (t : folding.Folded) (u : List ℕ) → ran (kind.Quoted (quoted.quote_of single)) a p t.text ≡ record { rest = b; position = q; text = u }
    → quoted.quoted_from single ctx start a (record { mode = quoted.inside; position = p; folded = t })
    ≡ quoted.quoted_from single ctx start b (record { mode = quoted.inside; position = q; folded = record t { text = u } })
quoted_ran single ctx start a b p q t u h =
    through_run (kind.Quoted (quoted.quote_of single)) (λ d r v. quoted.quoted_from single ctx start d (record { mode = quoted.inside; position = r; folded = record t { text = v } }))
    (λ c d r v e. quoted_run single ctx start c d r (record t { text = v }) e) a b p q t.text u h

pub plain_ran : (ctx : Context) (start : Position) (a b : List ℕ) (p q : Position) (t : folding.Folded) (u : List ℕ) → ran (kind.Plain ctx.flow) a p t.text ≡ record { rest = b; position = q; text = u }
    → plain.plain_from ctx start a (record { mode = plain.inside; position = p; folded = t })
    ≡ plain.plain_from ctx start b (record { mode = plain.inside; position = q; folded = record t { text = u } })
plain_ran ctx start a b p q t u h =
    through_run (kind.Plain ctx.flow) (λ d r v. plain.plain_from ctx start d (record { mode = plain.inside; position = r; folded = record t { text = v } }))
    (λ c d r v e. plain_run ctx start c d r (record t { text = v }) e) a b p q t.text u h

-- a space of an indentation is no text
pub space_run : (ctx : Context) (start : Position) (a b : List ℕ) (p : Position) (t : folding.Folded) → a ≡ 32 ∷ b → t.leading ≡ true
    → plain.plain_from ctx start a (record { mode = plain.between; position = p; folded = t })
    ≡ plain.plain_from ctx start b (record { mode = plain.between; position = past p; folded = t })
unfolding is_break is_blank
space_run ctx start a b p t e leading = rw (e, leading) refl
