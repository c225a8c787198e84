-- A turn of the parser by the rows of the grammar's table.
use Rattle.model_parser.proofs.Common.{◌≡◌, [], ap, arith, Awaits, AwaitsAt, before, Bool, by_leaving, by_taking, cases, Derives, event_at, event_then, Extent, false, first_may, Goal, goes, grammar, Held, is_past_directives, IsAt, IsAtFirst, IsFor, IsNested, IsNext, IsNoDirective, IsThere, Kind, kind_of, Leaves, leaves, List, may_begin, next_at, next_past, None, open_at, open_past, Option, placed, placed_before, placed_by, PlacedWork, Places, Position, position_at, Raw, reading, refl, refused, Refuses, Row, row_of, saying, says, Settles, Some, State, step, subst, suc, sym, Takes, takes, Then, Tok, Token, true, Turned, work_of, Works, zero, ℕ, ◌++◌, ◌∙◌, ◌∷◌, ◌≡◌, ◌⊎◌}
use Rattle.model_parser.proofs.Completions.{RowRest, rest_by, said_by, all_complete}
use Rattle.model_parser.proofs.Falls.{grammar_completes}
use Rattle.model_parser.proofs.Steps.{Sound, step_sound}
use Rattle.model_parser.proofs.Places.{or_at, plain_work, plain_before}
use Rattle.model_parser.proofs.Quiet.{any_held, is_quiet, work_quiet, quiet_placed, plain_placed, placed_row}
use Rattle.defs_event.specs.Stream as places
use Rattle.defs_event.specs.Grammar as table

-- ---- a turn that takes the token

abbrev pub and_saying : Option Raw → Works → Works
and_saying None w = w
and_saying (Some e) w = saying e ∷ w

-- Work takes a token, and says this event or none before other work.
pub record Reads (w : Works) (t : Tok) (e : Option Raw) (w' : Works) : Type 0 where
  pub back : (ts : List Tok) (es : List Raw) → Derives grammar w' ts es → Derives grammar w (t ∷ ts) (event_then e es)
  pub on : (ts : List Tok) (es : List Raw) → Derives grammar w (t ∷ ts) es → (fs : List Raw) × (es ≡ event_then e fs) × Derives grammar w' ts fs
  pub places : is_quiet any_held w ≡ true → is_quiet any_held w' ≡ true → (x : Extent) (b : Option Position) (k : Token) (m : Position) → k.tok ≡ t → IsAt b k e m
      → (ts : List Token) (es : List (Raw × Position)) → Places x (Some k.position) (placed w') ts es → Places x b (placed w) (k ∷ ts) (event_at e m es)

saying_at : (e : Option Raw) (w : Works) (b : Option Position) (k : Token) (m : Position) → IsAt b k e m → is_quiet any_held w ≡ true → (x : Extent) (c : Option Position) (ts : List Token) (es : List (Raw × Position))
    → Places x c (placed w) ts es → Places x c (placed_by (position_at k b) (and_saying e w)) ts (event_at e m es)
saying_at None w b k m at q x c ts es d = subst (λ v. Places x c v ts es) (sym (quiet_placed k b w q)) d
saying_at (Some y) w b k m at q x c ts es d = places.says at (subst (λ v. Places x c v ts es) (sym (quiet_placed k b w q)) d)

-- what is left to show of the row that is the token's
abbrev pub RowReads : Held → Works → Tok → Option Raw → Works → Option (Row table.Goal Raw) → Type 0
RowReads h w t e w' (Some (takes ps)) = before grammar h t ps w ≡ and_saying e w'
RowReads h w t e w' r = ⊥

-- A row takes it.
pub reads_so : {g : table.Goal} {h : Held} {w : Works} {t : Tok} {e : Option Raw} {w' : Works} → RowReads h w t e w' (row_of (cases g) t) → Reads (reading g h ∷ w) t e w'
reads_so {g} {h} {w} {t} {e} {w'} b = by (row_of (cases g) t) refl b
  where
    by : (r : Option (Row table.Goal Raw)) → row_of (cases g) t ≡ r → RowReads h w t e w' r → Reads (reading g h ∷ w) t e w'
    by (Some (takes ps)) r b = record {
      back = λ ts es d. by_taking ps r (subst (λ v. Derives grammar v ts (event_then e es)) (sym b) (grind (arith, says)));
      on = λ ts es d. let x : Derives grammar (and_saying e w') ts es = subst (λ v. Derives grammar v ts es) b (rest_by d (Some (takes ps)) r) in grind (arith, said_by);
      places = λ q q' x c k m same at ts es d.
          let there : placed_before k c h ps (placed w) ≡ placed_by (position_at k c) (and_saying e w') =
          ap (placed_before k c h ps) (sym (quiet_placed k c w q)) ∙ placed_row k c h ps w ∙ ap (λ u. placed_by (position_at k c) (before grammar h u ps w)) same ∙ ap (placed_by (position_at k c)) b in
          places.by_taking {es = event_at e m es} ps (ap (λ u. row_of (cases g) u) same ∙ r)
          (subst (λ v. Places x (Some k.position) v ts (event_at e m es)) (sym there) (saying_at e w' c k m at q' x (Some k.position) ts es d));
    }
    by r q b = absurd b

pub first_any : (g : Goal) (ss : List State) (ts : List Tok) → ((k : Kind) → may_begin g ss k ≡ true) → first_may g ss ts ≡ true
first_any g ss ts f = grind arith

-- Anything may come after the token.
pub takes_so : {g : Goal} {ss : List State} {t : Tok} {e : Option Raw} {g' : Goal} {ss' : List State}
    → (IsNested ss → IsFor g ss → IsNested ss' × IsFor g' ss')
    → (IsFor g ss → (may_begin g ss (kind_of t) ≡ true) × ((k : Kind) → may_begin g' ss' k ≡ true) × Reads (work_of g ss) t e (work_of g' ss'))
    → open_past t (open_at g ss) ≡ open_at g' ss' → (IsFor g ss → next_past t ≡ next_at g' ss') → (IsFor g ss → is_past_directives g' ss' ≡ false) → Takes g ss t e g' ss'
takes_so {g} {ss} {t} {e} {g'} {ss'} nested reads opened next past = record {
  nested = nested;
  comes = λ f ts es a. ((reads f).2.back ts es a.0, (reads f).0);
  goes = λ f ts es a. let x = (reads f).2.on ts es a.0 in (x.0, x.1, (x.2, first_any g' ss' ts (reads f).1));
  places = λ f x b k m same at ts es a.
      ((reads f).2.places (work_quiet g ss) (work_quiet g' ss') x b k m same at ts es a.0, ap (λ u. may_begin g ss (kind_of u)) same ∙ (reads f).0);
  opened = opened;
  next = next;
  past = past;
}

-- ---- a turn that leaves it

-- what is said, and what stands first, after so many rows that leave the token
abbrev pub leave_row : Held → Tok → table.Goal → Works → (Works → List Raw × Works) → Option (Row table.Goal Raw) → List Raw × Works
leave_row h t g w again (Some (leaves ps)) = again (before grammar h t ps w)
leave_row h t g w again _ = ([], reading g h ∷ w)

abbrev pub steps : ℕ → Tok → Works → List Raw × Works
steps zero t w = ([], w)
steps (suc n) t [] = ([], [])
steps (suc n) t (saying e ∷ w) = (e ∷ (steps n t w).0, (steps n t w).1)
steps (suc n) t (reading g h ∷ w) = leave_row h t g w (λ v. steps n t v) (row_of (cases g) t)

-- With that token, one work says these events and goes on as the other.
abbrev pub Stays : Tok → Works → List Raw → Works → Type 0
Stays t w es w' =
    ((ts : List Tok) (fs : List Raw) → Derives grammar w' (t ∷ ts) fs → Derives grammar w (t ∷ ts) (es ++ fs))
    × ((ts : List Tok) (gs : List Raw) → Derives grammar w (t ∷ ts) gs → (fs : List Raw) × (gs ≡ es ++ fs) × Derives grammar w' (t ∷ ts) fs)

pub by_steps : (n : ℕ) (t : Tok) (w : Works) → Stays t w (steps n t w).0 (steps n t w).1
by_steps zero t w = (λ ts fs d. d, λ ts gs d. (gs, refl, d))
by_steps (suc n) t [] = (λ ts fs d. d, λ ts gs d. (gs, refl, d))
by_steps (suc n) t (saying e ∷ w) =
    let i = by_steps n t w in
    (λ ts fs d. says (i.0 ts fs d), λ ts gs d. let s = said_by d in let y = i.1 ts s.0 s.2 in (y.0, s.1 ∙ ap (λ l. e ∷ l) y.1, y.2))
by_steps (suc n) t (reading g h ∷ w) = by (row_of (cases g) t) refl (λ v. by_steps n t v)
  where
    by : (r : Option (Row table.Goal Raw)) → row_of (cases g) t ≡ r → ((v : Works) → Stays t v (steps n t v).0 (steps n t v).1)
        → Stays t (reading g h ∷ w) (leave_row h t g w (λ v. steps n t v) r).0 (leave_row h t g w (λ v. steps n t v) r).1
    by (Some (leaves ps)) q again = let i = again (before grammar h t ps w) in (λ ts fs d. by_leaving ps q (i.0 ts fs d), λ ts gs d. i.1 ts gs (rest_by d (Some (leaves ps)) q))
    by r q again = (λ ts fs d. d, λ ts gs d. (gs, refl, d))

-- ---- and where its events stand

abbrev pub event_list : Option Raw → List Raw
event_list None = []
event_list (Some e) = e ∷ []

abbrev each_at : (Raw → Position) → List Raw → List (Raw × Position) → List (Raw × Position)
each_at f [] fs = fs
each_at f (e ∷ es) fs = (e, f e) ∷ each_at f es fs

abbrev StaysAt : Extent → Option Position → Token → Position → Works → List Raw × Works → Type 0
StaysAt x b k m w y =
    (ts : List Token) (fs : List (Raw × Position)) → Places x b (placed_by (position_at k b) y.1) (k ∷ ts) fs → Places x b (placed_by (position_at k b) w) (k ∷ ts) (each_at (λ e. or_at m (position_at k b e)) y.0 fs)

steps_at : (n : ℕ) (x : Extent) (b : Option Position) (k : Token) (m : Position) (w : Works) → StaysAt x b k m w (steps n k.tok w)
steps_at zero x b k m w = λ ts fs d. d
steps_at (suc n) x b k m [] = λ ts fs d. d
steps_at (suc n) x b k m (saying e ∷ w) = λ ts fs d. places.says (grind arith) (steps_at n x b k m w ts fs d)
steps_at (suc n) x b k m (reading g h ∷ w) = by (row_of (cases g) k.tok) refl (λ v. steps_at n x b k m v)
  where
    by : (r : Option (Row table.Goal Raw)) → row_of (cases g) k.tok ≡ r → ((v : Works) → StaysAt x b k m v (steps n k.tok v)) → StaysAt x b k m (reading g h ∷ w) (leave_row h k.tok g w (λ v. steps n k.tok v) r)
    by (Some (leaves ps)) q again = λ ts fs d. places.by_leaving ps q (subst (λ v. Places x b v (k ∷ ts) (each_at (λ e. or_at m (position_at k b e)) (steps n k.tok (before grammar h k.tok ps w)).0 fs)) (sym (placed_row k b h ps w)) (again (before grammar h k.tok ps w) ts fs d))
    by r q again = λ ts fs d. d

each_one : (b : Option Position) (k : Token) (e : Option Raw) (m : Position) (fs : List (Raw × Position)) → IsAt b k e m → each_at (λ x. or_at m (position_at k b x)) (event_list e) fs ≡ event_at e m fs
each_one b k e m fs at = grind arith

-- What is read behind the row of the next token, for a search.
pub row_read : (g : table.Goal) (h : Held) (w : Works) (t : Tok) (ts : List Tok) (es : List Raw) → Derives grammar (reading g h ∷ w) (t ∷ ts) es
    → RowRest grammar h w t ts es (row_of (cases g) t)
row_read g h w t ts es d = rest_by d (row_of (cases g) t) refl

-- Two goals that have the same row for a token read it alike.
pub placed_alike : {g g' : table.Goal} {h : Held} {w : PlacedWork} {x : Extent} {b : Option Position} {k : Token} {ts : List Token} {es : List (Raw × Position)}
    → row_of (cases g) k.tok ≡ row_of (cases g') k.tok → Places x b (reading g h ∷ w) (k ∷ ts) es → Places x b (reading g' h ∷ w) (k ∷ ts) es
placed_alike r (places.by_taking qs q d) = places.by_taking qs (sym r ∙ q) d
placed_alike r (places.by_leaving qs q d) = places.by_leaving qs (sym r ∙ q) d
placed_alike r (places.takes_last qs q) = places.takes_last qs (sym r ∙ q)

read_alike : {g g' : table.Goal} {h : Held} {w : Works} {t : Tok} {ts : List Tok} {es : List Raw} → row_of (cases g) t ≡ row_of (cases g') t
    → Derives grammar (reading g h ∷ w) (t ∷ ts) es → Derives grammar (reading g' h ∷ w) (t ∷ ts) es
read_alike r (by_taking qs q d) = by_taking qs (sym r ∙ q) d
read_alike r (by_leaving qs q d) = by_leaving qs (sym r ∙ q) d

pub alike_reads : (g g' : table.Goal) (h : Held) (w : Works) (t : Tok) → row_of (cases g) t ≡ row_of (cases g') t → Stays t (reading g h ∷ w) [] (reading g' h ∷ w)
alike_reads g g' h w t r = (λ ts fs d. read_alike (sym r) d, λ ts gs d. (gs, refl, read_alike r d))

pub after_steps : {w v x : Works} {t : Tok} → Stays t w [] v → Stays t v [] x → Stays t w [] x
after_steps r s = (λ ts fs d. r.0 ts fs (s.0 ts fs d), λ ts gs d. let y = r.1 ts gs d in let z = s.1 ts y.0 y.2 in (z.0, y.1 ∙ z.1, z.2))

-- whether work refuses a token within so many rows that leave it
abbrev pub refuse_row : Held → Tok → Works → (Works → Bool) → Option (Row table.Goal Raw) → Bool
refuse_row h t w again None = true
refuse_row h t w again (Some (takes ps)) = false
refuse_row h t w again (Some (leaves ps)) = again (before grammar h t ps w)

abbrev pub refuses : ℕ → Tok → Works → Bool
refuses zero t w = false
refuses (suc n) t [] = true
refuses (suc n) t (saying e ∷ w) = refuses n t w
refuses (suc n) t (reading g h ∷ w) = refuse_row h t w (λ v. refuses n t v) (row_of (cases g) t)

pub not_refused : (n : ℕ) (t : Tok) (w : Works) (ts : List Tok) (es : List Raw) → Derives grammar w (t ∷ ts) es → refuses n t w ≡ false
not_refused zero t w ts es d = refl
not_refused (suc n) t [] ts es d = elim d [ ]
not_refused (suc n) t (saying e ∷ w) ts es d = let s = said_by d in not_refused n t w ts s.0 s.2
not_refused (suc n) t (reading g h ∷ w) ts es d = by (row_of (cases g) t) refl (λ v x. not_refused n t v ts es x)
  where
    by : (r : Option (Row table.Goal Raw)) → row_of (cases g) t ≡ r → ((v : Works) → Derives grammar v (t ∷ ts) es → refuses n t v ≡ false) → refuse_row h t w (λ v. refuses n t v) r ≡ false
    by (Some (leaves ps)) q again = again (before grammar h t ps w) (rest_by d (Some (leaves ps)) q)
    by r q again = let x = rest_by d r q in grind arith

-- nor is one that is read with positions
placed_admits : (n : ℕ) (x : Extent) (b : Option Position) (k : Token) (v : PlacedWork) (ts : List Token) (es : List (Raw × Position)) → Places x b v (k ∷ ts) es → refuses n k.tok (plain_work v) ≡ false
placed_admits zero x b k v ts es d = refl
placed_admits (suc n) x b k [] ts es d = elim d [ ]
placed_admits (suc n) x b k (saying y ∷ v) ts _ (places.says {es = es} o d) = placed_admits n x b k v ts es d
placed_admits (suc n) x b k (reading g h ∷ v) ts es (places.by_taking ps q d) = ap (refuse_row h k.tok (plain_work v) (λ u. refuses n k.tok u)) q
placed_admits (suc n) x b k (reading g h ∷ v) ts es (places.takes_last ps q) = ap (refuse_row h k.tok (plain_work v) (λ u. refuses n k.tok u)) q
placed_admits (suc n) x b k (reading g h ∷ v) ts es (places.by_leaving ps q d) =
    ap (refuse_row h k.tok (plain_work v) (λ u. refuses n k.tok u)) q ∙ ap (refuses n k.tok) (sym (plain_before k b h ps v)) ∙ placed_admits n x b k (placed_before k b h ps v) ts es d

pub reads_first : (n : ℕ) (x : Extent) (b : Option Position) (k : Token) (w : Works) (ts : List Token) (es : List (Raw × Position)) → Places x b (placed w) (k ∷ ts) es → refuses n k.tok w ≡ false
reads_first n x b k w ts es d = subst (λ u. refuses n k.tok u ≡ false) (plain_placed (λ e. None) w) (placed_admits n x b k (placed w) ts es d)

in_list : (e : Option Raw) (es : List Raw) → event_list e ++ es ≡ event_then e es
in_list e es = grind arith

-- something is still to be read
abbrev pub has_goal : Works → Bool
has_goal [] = false
has_goal (saying e ∷ w) = has_goal w
has_goal (reading g h ∷ w) = true

pub needs_tokens : (w : Works) (es : List Raw) → has_goal w ≡ true → Derives grammar w [] es → ⊥
needs_tokens [] es h d = cc
needs_tokens (saying e ∷ w) es h d = let s = said_by d in needs_tokens w s.0 h s.2
needs_tokens (reading g k ∷ w) es h d = elim d [ ]

-- where the token leads, and whether it may come in both places
abbrev pub leading : ℕ → (g : Goal) (ss : List State) → (g' : Goal) (ss' : List State) → Tok → (List Raw × Works) × Bool × Bool
leading n g ss g' ss' t = (steps n t (work_of g ss), may_begin g ss (kind_of t), may_begin g' ss' (kind_of t))

abbrev pub led : Option Raw → (g' : Goal) (ss' : List State) → (List Raw × Works) × Bool × Bool
led e g' ss' = ((event_list e, work_of g' ss'), true, true)

abbrev pub Leads : ℕ → (g : Goal) (ss : List State) → Option Raw → (g' : Goal) (ss' : List State) → Tok → Type 0
Leads n g ss e g' ss' t = leading n g ss g' ss' t ≡ led e g' ss'

-- One that does not refuse the token.
abbrev pub Admits : Works → Tok → Type 0
Admits w t = (m : ℕ) → refuses m t w ≡ false

-- With that token, one goal says this event or none and goes on as the other, wherever the event stands; and it may come in both places.
pub record Alike (g : Goal) (ss : List State) (e : Option Raw) (g' : Goal) (ss' : List State) (t : Tok) : Type 0 where
  pub stays : Stays t (work_of g ss) (event_list e) (work_of g' ss')
  pub places : (x : Extent) (b : Option Position) (k : Token) (m : Position) → k.tok ≡ t → IsAt b k e m → (ts : List Token) (fs : List (Raw × Position))
      → Places x b (placed (work_of g' ss')) (k ∷ ts) fs → Places x b (placed (work_of g ss)) (k ∷ ts) (event_at e m fs)
  pub may : (may_begin g ss (kind_of t) ≡ true) × (may_begin g' ss' (kind_of t) ≡ true)

pub leads : {g : Goal} {ss : List State} {e : Option Raw} {g' : Goal} {ss' : List State} {t : Tok} (n : ℕ) → Leads n g ss e g' ss' t → Alike g ss e g' ss' t
leads {g} {ss} {e} {g'} {ss'} {t} n l =
    let v = work_of g ss in
    let w = work_of g' ss' in
    let h : steps n t v ≡ (event_list e, w) = ap (λ x. x.0) l in
    record {
      stays = subst (λ x. Stays t v x.0 x.1) h (by_steps n t v);
      places = λ x b k m same at ts fs d.
          let y = subst (StaysAt x b k m v) (ap (λ u. steps n u v) same ∙ h) (steps_at n x b k m v) ts fs (subst (λ u. Places x b u (k ∷ ts) fs) (sym (quiet_placed k b w (work_quiet g' ss'))) d) in
          subst (λ u. Places x b u (k ∷ ts) (event_at e m fs)) (quiet_placed k b v (work_quiet g ss))
          (subst (λ es. Places x b (placed_by (position_at k b) v) (k ∷ ts) es) (each_one b k e m fs at) y);
      may = (ap (λ x. x.1) l, ap (λ x. x.2) l);
    }

-- Whatever comes there, and that token here, is read alike.
pub leaves_so : {g : Goal} {ss : List State} {t : Tok} {e : Option Raw} {g' : Goal} {ss' : List State} → (IsNested ss → IsFor g ss → IsNested ss' × IsFor g' ss')
    → (IsFor g ss → has_goal (work_of g' ss') ≡ true)
    → (IsFor g ss → (u : Tok) → Admits (work_of g' ss') u → may_begin g' ss' (kind_of u) ≡ true → Alike g ss e g' ss' u)
    → (IsFor g ss → Admits (work_of g ss) t → may_begin g ss (kind_of t) ≡ true → Alike g ss e g' ss' t)
    → open_at g ss ≡ open_at g' ss' → (IsFor g ss → Settles g ss (Some t) g' ss') → (IsFor g ss → is_past_directives g' ss' ≡ true → (is_past_directives g ss ≡ true) ⊎ IsNoDirective (Some t)) → Leaves g ss (Some t) e g' ss'
leaves_so {g} {ss} {t} {e} {g'} {ss'} nested goal back on opened settles past = record {
  nested = nested;
  comes = λ m f ts es a. come f ts es a;
  goes = λ m f ts es k a. go f ts es k a;
  places = λ i f x b m ts there at es a. place f x b m ts there at es a;
  opened = opened;
  settles = settles;
  past = past;
}
  where
    place : IsFor g ss → (x : Extent) (b : Option Position) (m : Position) (ts : List Token) → IsThere (Some t) ts → IsAtFirst b ts e m
        → (es : List (Raw × Position)) → AwaitsAt x b g' ss' ts es → AwaitsAt x b g ss ts (event_at e m es)
    place f x b m [] there at es a = absurd there
    place f x b m (k ∷ ts) there at es a =
        let l = back f k.tok (λ i. reads_first i x b k (work_of g' ss') ts es a.0) a.1 in (l.places x b k m refl at ts es a.0, l.may.0)

    come : IsFor g ss → (ts : List Tok) (es : List Raw) → Awaits g' ss' ts es → Awaits g ss ts (event_then e es)
    come f [] es a = absurd (needs_tokens (work_of g' ss') es (goal f) a.0)
    come f (u ∷ us) es a =
        let l = back f u (λ m. not_refused m u (work_of g' ss') us es a.0) a.1 in
        (subst (λ x. Derives grammar (work_of g ss) (u ∷ us) x) (in_list e es) (l.stays.0 us es a.0), l.may.0)

    go : IsFor g ss → (ts : List Tok) (es : List Raw) → IsNext (Some t) ts → Awaits g ss ts es → Then e g' ss' ts es
    go f [] es k a = absurd k
    go f (u ∷ us) es k a =
        let b = subst (λ x. Awaits g ss (x ∷ us) es) k a in
        let l = on f (λ m. not_refused m t (work_of g ss) us es b.0) b.1 in
        let x = l.stays.1 us es b.0 in
        (x.0, x.1 ∙ in_list e x.0, subst (λ y. Awaits g' ss' (y ∷ us) x.0) (sym k) (x.2, l.may.1))

-- ---- refusals, and what may come

pub refuses_so : (g : Goal) (ss : List State) (t : Tok) (n : ℕ) → (IsFor g ss → refuses n t (work_of g ss) ≡ true) → Refuses g ss t
refuses_so g ss t n h m f ts es a = let no : true ≡ false = sym (h f) ∙ not_refused n t (work_of g ss) ts es a.0 in cc

abbrev pub is_going : Turned table.Goal Raw Held → Bool
is_going (goes es w) = true
is_going (refused es) = false

pub may_come : (n : ℕ) (t : Tok) (w : Works) → is_going (step grammar n w t) ≡ true → (ts : List Tok) × (es : List Raw) × Derives grammar w (t ∷ ts) es
may_come n t w h = by (step grammar n w t) (step_sound grammar n w t) h
  where
    by : (o : Turned table.Goal Raw Held) → Sound grammar w t o → is_going o ≡ true → (ts : List Tok) × (es : List Raw) × Derives grammar w (t ∷ ts) es
    by (goes es v) s h = let k = all_complete grammar grammar_completes v in (k.0, es ++ k.1, s k.0 k.1 k.2)
    by (refused es) s h = cc
