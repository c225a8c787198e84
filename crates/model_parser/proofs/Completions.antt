-- What a derivation came by: its first work, and the row of its next token. Where each goal of a table can be read to an end, all work can.
use Rattle.model_parser.proofs.Common.{[], ap, before, Begins, by_leaving, by_taking, Derives, List, nothing_left, Part, part_work, reading, refl, saying, says, subst, Table, Work, ◌++◌, ◌∷◌, ◌≡◌, leaves, None, Option, Row, row_of, Some, sym, takes, ◌∙◌}

-- what is read behind a token that has this row
abbrev pub RowRest : {G T E H : Type 0} → Table G T E H → H → List (Work G E H) → T → List T → List E → Option (Row G E) → Type 0
RowRest a h w t ts es (Some (takes ps)) = Derives a (before a h t ps w) ts es
RowRest a h w t ts es (Some (leaves ps)) = Derives a (before a h t ps w) (t ∷ ts) es
RowRest a h w t ts es None = ⊥

pub rest_by : {G T E H : Type 0} {a : Table G T E H} {g : G} {h : H} {w : List (Work G E H)} {t : T} {ts : List T} {es : List E}
    → Derives a (reading g h ∷ w) (t ∷ ts) es → (r : Option (Row G E)) → row_of (a.cases g) t ≡ r → RowRest a h w t ts es r
rest_by {a = a} {h = h} {w = w} {t = t} {ts = ts} {es = es} (by_taking ps q d) r e = subst (RowRest a h w t ts es) (sym q ∙ e) d
rest_by {a = a} {h = h} {w = w} {t = t} {ts = ts} {es = es} (by_leaving ps q d) r e = subst (RowRest a h w t ts es) (sym q ∙ e) d

pub said_by : {G T E H : Type 0} {a : Table G T E H} {e : E} {w : List (Work G E H)} {ts : List T} {es : List E} → Derives a (saying e ∷ w) ts es
    → (fs : List E) × (es ≡ e ∷ fs) × Derives a w ts fs
said_by (says {es = es} d) = (es, refl, d)

-- ---- to an end

pub before_along : {G T E H : Type 0} (a : Table G T E H) (h : H) (t : T) (ps : List (Part G E)) (w v : List (Work G E H)) → before a h t ps w ++ v ≡ before a h t ps (w ++ v)
before_along a h t [] w v = refl
before_along a h t (p ∷ ps) w v = ap (λ l. part_work a h t p ∷ l) (before_along a h t ps w v)

-- Work after work reads tokens after tokens.
pub along : {G T E H : Type 0} (a : Table G T E H) (w v : List (Work G E H)) (ts us : List T) (es fs : List E) → Derives a w ts es → Derives a v us fs → Derives a (w ++ v) (ts ++ us) (es ++ fs)
along a [] v [] us _ fs nothing_left c = c
along a [] v (t ∷ ts) us es fs d c = elim d [ ]
along a (saying e ∷ w) v ts us _ fs (says {es = es} d) c = says (along a w v ts us es fs d c)
along a (reading g h ∷ w) v [] us es fs d c = elim d [ ]
along a (reading g h ∷ w) v (t ∷ ts) us es fs (by_taking ps p d) c =
    by_taking ps p (subst (λ l. Derives a l (ts ++ us) (es ++ fs)) (before_along a h t ps w v) (along a (before a h t ps w) v ts us es fs d c))
along a (reading g h ∷ w) v (t ∷ ts) us es fs (by_leaving ps p d) c =
    by_leaving ps p (subst (λ l. Derives a l (t ∷ (ts ++ us)) (es ++ fs)) (before_along a h t ps w v) (along a (before a h t ps w) v (t ∷ ts) us es fs d c))

-- each goal has tokens that it reads to their end
abbrev pub Completes : {G T E H : Type 0} → Table G T E H → Type 0
Completes {G = G} {T = T} {E = E} {H = H} a = (g : G) (h : H) → (ts : List T) × (es : List E) × Derives a (reading g h ∷ []) ts es

abbrev pub all_complete : {G T E H : Type 0} (a : Table G T E H) → Completes a → (w : List (Work G E H)) → Begins a w [] []
all_complete a c [] = ([], [], nothing_left)
all_complete a c (saying e ∷ w) = let r = all_complete a c w in (r.0, e ∷ r.1, says r.2)
all_complete a c (reading g h ∷ w) =
    let r = all_complete a c w in
    let k = c g h in
    (k.0 ++ r.0, k.1 ++ r.1, along a (reading g h ∷ []) w k.0 r.0 k.1 r.1 k.2 r.2)
