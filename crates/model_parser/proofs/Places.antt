-- The events of tokens with their positions: they are the events without, and each reading of the tokens has positions.
use Rattle.model_parser.proofs.Common.{[], ap, arith, before, by_leaving, by_taking, Derives, grammar, Held, List, None, nothing_left, Option, Part, placed_before, placed_by, PlacedWork, Places, Position, position_at, Raw, raws_of, reading, refl, saying, says, Some, subst, to_end, Tok, Token, toks, Work, ◌++◌, ◌∙◌, ◌∷◌, ◌≡◌}
use Rattle.defs_event.specs.Grammar.{Goal}
use Rattle.model_parser.proofs.Completions.{before_along}
use Rattle.defs_event.specs.Stream as placed

abbrev pub plain_work : PlacedWork → List (Work Goal Raw Held)
plain_work [] = []
plain_work (reading g h ∷ w) = reading g h ∷ plain_work w
plain_work (saying x ∷ w) = saying x.0 ∷ plain_work w

pub plain_along : (f : Raw → Option Position) (v : List (Work Goal Raw Held)) (w : PlacedWork) → plain_work (placed_by f v ++ w) ≡ v ++ plain_work w
plain_along f [] w = refl
plain_along f (x ∷ v) w = let i = plain_along f v w in grind arith

pub plain_before : (t : Token) (b : Option Position) (h : Held) (ps : List (Part Goal Raw)) (w : PlacedWork)
    → plain_work (placed_before t b h ps w) ≡ before grammar h t.tok ps (plain_work w)
plain_before t b h ps w = plain_along (position_at t b) (before grammar h t.tok ps []) w ∙ before_along grammar h t.tok ps [] (plain_work w)

-- Without positions it is a reading of the tokens.
pub without_positions : {b : Option Position} {w : PlacedWork} {ts : List Token} {es : List (Raw × Position)} → Places to_end b w ts es → Derives grammar (plain_work w) (toks ts) (raws_of es)
without_positions placed.nothing_left = nothing_left
without_positions (placed.says o d) = says (without_positions d)
without_positions (placed.by_taking {b = b} {h = h} {w = w} {t = t} {ts = ts} {es = es} ps r d) =
    by_taking ps r (subst (λ v. Derives grammar v (toks ts) (raws_of es)) (plain_before t b h ps w) (without_positions d))
without_positions (placed.by_leaving {b = b} {h = h} {w = w} {t = t} {ts = ts} {es = es} ps r d) =
    by_leaving ps r (subst (λ v. Derives grammar v (t.tok ∷ toks ts) (raws_of es)) (plain_before t b h ps w) (without_positions d))

-- ---- each reading has positions

abbrev pub nowhere : Position
nowhere = record { index = 0; line = 1; col = 0 }

-- the position that is promised, or this one
abbrev pub or_at : Position → Option Position → Position
or_at m None = m
or_at m (Some p) = p

pub with_positions : {v : List (Work Goal Raw Held)} {us : List Tok} {rs : List Raw} → Derives grammar v us rs
    → (b : Option Position) (w : PlacedWork) (ts : List Token) → plain_work w ≡ v → toks ts ≡ us → (es : List (Raw × Position)) × (raws_of es ≡ rs) × Places to_end b w ts es
with_positions nothing_left b [] [] p q = ([], refl, placed.nothing_left)
with_positions nothing_left b (reading g h ∷ w) ts p q = cc p
with_positions (says {e = e} {w = v} {es = rs} d) b (saying x ∷ w) ts p q =
    let same : x.0 ≡ e = cc p in
    let rest : plain_work w ≡ v = cc p in
    let i = with_positions d b w ts rest q in
    ((x.0, or_at nowhere x.1) ∷ i.0, ap (λ l. x.0 ∷ l) i.1 ∙ ap (λ y. y ∷ rs) same, placed.says (grind arith) i.2)
with_positions (by_taking {h = h'} {w = w'} {t = t'} {ts = us} ps r d) b (reading g h ∷ w) (t ∷ ts) p q =
    let rest : plain_work (placed_before t b h ps w) ≡ before grammar h' t' ps w' = cc (plain_before t b h ps w, p, q) in
    let more : toks ts ≡ us = cc q in
    let i = with_positions d (Some t.position) (placed_before t b h ps w) ts rest more in
    (i.0, i.1, placed.by_taking {es = i.0} ps (cc (p, q, r)) i.2)
with_positions (by_leaving {h = h'} {w = w'} {t = t'} {ts = us} ps r d) b (reading g h ∷ w) (t ∷ ts) p q =
    let rest : plain_work (placed_before t b h ps w) ≡ before grammar h' t' ps w' = cc (plain_before t b h ps w, p, q) in
    let i = with_positions d b (placed_before t b h ps w) (t ∷ ts) rest q in
    (i.0, i.1, placed.by_leaving {es = i.0} ps (cc (p, q, r)) i.2)
with_positions d b w ts p q = cc (p, q)
