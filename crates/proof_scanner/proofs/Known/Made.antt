-- What a step makes of a line: where a key waits after it, and how it came to wait.
use Rattle.proof_scanner.proofs.Common.{cases_Bool, inl, inr, [], Account, account_past, Act, act_of, ap, begins_free_line, begun_by, Bool, entries_past, Entry, false, free, gives_node, has_break, if◌then◌else◌, is_in_column, is_in_flow, is_renewed, is_waiting, LikeLine, Line, line_past, line_past_separation, List, may_stand, None, on_one_line, Option, Outside, past_inside, past_outside, past_piece, Position, refl, Site, site_at, site_past, Some, Step, sym, true, waits, ℕ, ◌&&◌, ◌∙◌, ◌∷◌, ◌≡◌, arith}
use Rattle.proof_row.proofs.RowLines.{separation_step}
use Rattle.proof_scanner.proofs.Sound.Arrivals.{with_entries}

-- two things that are there
pub same_of : {A : Type 0} → (a b : A) → Some a ≡ Some b → a ≡ b
same_of a b e = cc

-- ---- a separation

-- over a separation a key waits that has waited, and no line ends
pub waited : (fl broken : Bool) (l m : Line) (q : Position) → line_past_separation fl broken l ≡ Some m → m ≡ waits q → (l ≡ waits q) × (broken ≡ false)
waited fl broken l m q h w = grind (arith, same_of)

-- where a key waits over a separation no line begins, and it waits after it
pub still_there : (fl broken : Bool) (l m : Line) (q : Position) → l ≡ waits q → line_past_separation fl broken l ≡ Some m → (broken ≡ false) × (m ≡ waits q)
still_there fl broken l m q e h = grind (arith, same_of)

-- like lines are like after a separation
pub like_past : (fl broken : Bool) (l m n o : Line) → LikeLine l m → line_past_separation fl broken l ≡ Some n → line_past_separation fl broken m ≡ Some o → LikeLine n o
like_past fl broken l m n o i e f = grind (arith, separation_step, same_of)

-- ---- a piece outside flow

-- A key waits after a piece outside flow: it has begun with it, or it waited before.
pub data Waits (must : Bool) (here : Position) (bs : List ℕ) (k : Act) (l : Line) (o : Outside) (q : Position) : Type 0 where
  begun : k ≡ gives_node → l ≡ free → here ≡ q → o.blocks ≡ bs → Waits must here bs k l o q
  kept : k ≡ gives_node → l ≡ waits q → o.blocks ≡ bs → Waits must here bs k l o q

pub waits_past : (must : Bool) (here : Position) (bs : List ℕ) (k : Act) (key : Bool) (l : Line) (o : Outside) (q : Position) → line_past must here bs k key l ≡ Some o → o.line ≡ waits q → Waits must here bs k l o q
waits_past must here bs k key l o q e w = grind (arith, begun, kept)

-- ---- what a step makes

-- what comes of an account by a step, outside flow or in flow
pub data Made (s : Site) (l : Line) (es : List Entry) (w : Step) (next : List ℕ) (b : Account) : Type 0 where
  outside : (m : Line) (o : Outside) → es ≡ [] → line_past_separation false (begins_free_line s.before w.separation) l ≡ Some m
      → (let at : Site = site_at false s w.separation w.piece w.shown next in line_past (is_in_column at.position.col at.blocks) at.position at.blocks (act_of w.shown) w.key m) ≡ Some o
      → b.line ≡ o.line → b.site ≡ (let at : Site = site_at false s w.separation w.piece w.shown next in site_past false at w.piece w.shown next o.blocks) → (has_break w.piece && is_waiting b.line) ≡ false → Made s l es w next b
  inside : is_in_flow es ≡ true → line_past_separation true (begins_free_line s.before w.separation) l ≡ Some b.line
      → b.site ≡ (let at : Site = site_at true s w.separation w.piece w.shown next in site_past true at w.piece w.shown next s.blocks) → (has_break w.piece && is_waiting b.line) ≡ false → Made s l es w next b

pub made : (s : Site) (l : Line) (es : List Entry) (w : Step) (next : List ℕ) (b : Account) → account_past (with_entries s l es) w next ≡ Some b → Made s l es w next b
made s l [] w next b e = by (may_stand false s at w.separation w.piece w.shown next) (line_past_separation false (begins_free_line s.before w.separation) l) refl e
  where
    at : Site
    at = site_at false s w.separation w.piece w.shown next

    by : (c : Bool) (m : Option Line) → line_past_separation false (begins_free_line s.before w.separation) l ≡ m
        → (if c then on_one_line w.piece (past_piece at w.piece w.shown next (is_renewed s.before w.separation) w.key m []) else None) ≡ Some b → Made s l [] w next b
    by true (Some m) f e = to (line_past (is_in_column at.position.col at.blocks) at.position at.blocks (act_of w.shown) w.key m) refl e
      where
        to : (o : Option Outside) → line_past (is_in_column at.position.col at.blocks) at.position at.blocks (act_of w.shown) w.key m ≡ o → on_one_line w.piece (past_outside at w.piece w.shown next o) ≡ Some b → Made s l [] w next b
        to None g e = absurd (cc e)
        to (Some o) g e = elim (cases_Bool (has_break w.piece && is_waiting o.line)) [
          | inl h ↦ absurd (let none = rw h at e in cc none)
          | inr h ↦
              let past : Account = record { site = site_past false at w.piece w.shown next o.blocks; line = o.line; entries = begun_by w.shown } in
              let same : past ≡ b = same_of past b (rw h at e) in
              outside m o refl f g (ap (λ (a : Account). a.line) (sym same)) (ap (λ (a : Account). a.site) (sym same)) (ap (λ (a : Account). has_break w.piece && is_waiting a.line) (sym same) ∙ h)
        ]
    by c m f e = grind arith
made s l (d ∷ ds) w next b e = by (may_stand true s at w.separation w.piece w.shown next) (line_past_separation true (begins_free_line s.before w.separation) l) refl e
  where
    at : Site
    at = site_at true s w.separation w.piece w.shown next

    by : (c : Bool) (m : Option Line) → line_past_separation true (begins_free_line s.before w.separation) l ≡ m
        → (if c then on_one_line w.piece (past_piece at w.piece w.shown next (is_renewed s.before w.separation) w.key m (d ∷ ds)) else None) ≡ Some b → Made s l (d ∷ ds) w next b
    by true (Some m) f e =
        let to : (o : Option (List Entry)) → on_one_line w.piece (past_inside at w.piece w.shown next m o) ≡ Some b → Made s l (d ∷ ds) w next b = λ o e. grind (arith, inside, f) in
        to (entries_past at.position (is_renewed s.before w.separation) (act_of w.shown) (begun_by w.shown) w.key d ds) e
    by c m f e = grind arith
