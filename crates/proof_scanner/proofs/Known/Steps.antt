-- What is known of keys that wait, after a step: from what was known before it.
use Rattle.proof_scanner.proofs.Common.{[], Account, Act, act_of, ap, arith, Begins, begins_free_line, Bool, Entry, eqb-true, false, FlowLevel, free, gives_block_scalar, gives_node, is_empty, is_far, is_in_column, is_in_flow, IsLineHere, IsWritten, Key, KnowsKey, LikeLine, Line, line_by, line_past, line_past_separation, List, nat_tests, None, not, not-true, Option, Outside, outside_key, Position, position_after, refl, same_flow, ScannerState, Site, site_here, Some, Step, subst, sym, taken, Tok, true, up_to_nul, waits, ℕ, ◌++◌, ◌+◌, ◌∙◌, ◌∷◌, ◌≡◌, ◌≤◌, first_account, IsAt}
use Rattle.proof_scanner.proofs.Sound.Common.{ArrivesBy, index_after, IsDeep, not_before_after, saved, some_rest, with_entries, begins_at_start}
use Rattle.proof_scanner.proofs.Known.Rows.{begins_whole, Came, came_by, goes_past, way_inside, way_outside}
use Rattle.proof_scanner.proofs.Known.Made.{begun, inside, kept, Made, made, outside, same_of, still_there, waited, Waits, waits_past}
use Rattle.proof_scanner.proofs.Known.Ways.{GivesUp, Way, With}
use Rattle.proof_scanner.proofs.Sound.Outsides.{must_be_here, new_key}

-- ---- without a step

-- at a later position before the same text
pub known_past : (text after : List ℕ) (p : Position) (k : Option Key) (f rest : List ℕ) → KnowsKey text after p k → KnowsKey text after (position_after p f rest) k
known_past text after p k f rest n = grind (arith, not_before_after, index_after)

-- where the open key is far, none is known
pub known_far : (text after : List ℕ) (p : Position) (k : Key) → is_far k.position p ≡ true → KnowsKey text after p (Some k) → KnowsKey text after p None
unfolding is_far
known_far text after p k far n = grind arith

-- where a text begins
pub known_at_start : (text after : List ℕ) (p : Position) → after ≡ up_to_nul text → KnowsKey text after p None
known_at_start text after p whole = record { waiting = λ b begin g e l i. absurd (cc (ap (λ (x : Account). x.line) (begins_whole text after b whole g) ∙ e)); required = λ b x g e m. absurd (cc e); rows = λ r h. record { account = first_account; begins = rw whole (begins_at_start text); steps = r.steps; last = r.last; is_row = h.1; spells = h.0 ∙ sym whole } }

-- ---- lines

-- whether a key may begin with a piece
abbrev pub begins_key : Act → Bool
begins_key gives_node = true
begins_key _ = false

-- ---- in flow

module _ (text : List ℕ) (a : Account) (w : Step) (next : List ℕ) (written : IsWritten a w next) where
  -- In flow the open key outside it stays.
  pub known_inside : (p : Position) (k : Option Key) → is_in_flow a.entries ≡ true → Way GivesUp text (w.separation ++ (w.piece ++ next)) a → KnowsKey text (w.separation ++ (w.piece ++ next)) p k → KnowsKey text next p k
  known_inside p k fl way n = record {
    waiting = λ b begin g e l i. let c = came_by text a w next b way written g in n.waiting c.from begin c.begins (waited true (begins_free_line c.from.site.before w.separation) c.from.line b.line begin (line b c) e).0 l i;
    required = λ b x g e m. let c = came_by text a w next b way written g in (still_there true (begins_free_line c.from.site.before w.separation) c.from.line b.line x.position (n.required c.from x c.begins e m) (line b c)).1;
    rows = goes_past text a w next way written;
  }
    where
      line : (b : Account) (c : Came text a w next b) → line_past_separation true (begins_free_line c.from.site.before w.separation) c.from.line ≡ Some b.line
      line b c =
          let by : Made c.from.site c.from.line c.from.entries (With w c.key) next b → line_past_separation true (begins_free_line c.from.site.before w.separation) c.from.line ≡ Some b.line = λ a. grind (arith, same_flow) in
          by (made c.from.site c.from.line c.from.entries (With w c.key) next b c.is_past)

  -- ---- outside flow

  -- After a piece that is no part of a node no key waits.
  pub none_known : (p : Position) → is_in_flow a.entries ≡ false → begins_key (act_of w.shown) ≡ false → Way GivesUp text (w.separation ++ (w.piece ++ next)) a → KnowsKey text next p None
  none_known p fl idle way =
      let none : (b : Account) (begin : Position) → Came text a w next b → b.line ≡ waits begin → ⊥ = λ b begin c e.
      let by : Made c.from.site c.from.line c.from.entries (With w c.key) next b → ⊥ = λ a. grind (arith, nat_tests, eqb-true, same_flow, waits_past) in
      by (made c.from.site c.from.line c.from.entries (With w c.key) next b c.is_past) in
      record { waiting = λ b begin g e l i. none b begin (came_by text a w next b way written g) e; required = λ b x g e m. absurd (cc e); rows = goes_past text a w next way written }

-- a part of a node, or a block scalar
abbrev pub is_of_node : Act → Bool
is_of_node gives_node = true
is_of_node gives_block_scalar = true
is_of_node _ = false

module _ (text : List ℕ) (s : Site) (l line_here : Line) (allowed : Bool) (k : Option Key) (new : Key) (w : Step) (next : List ℕ) (written : IsWritten (with_entries s l []) w next) (keyed : is_of_node (act_of w.shown) ≡ true)
    (line_is : IsLineHere false allowed (0 ∷ []) k line_here) (sep_is : line_past_separation false (begins_free_line s.before w.separation) l ≡ Some line_here) (c : Bool) (way : Way GivesUp text (w.separation ++ (w.piece ++ next)) (with_entries s (line_by c k l) [])) where
  abbrev here : Position
  here = position_after s.position w.separation (w.piece ++ next)

  abbrev at : Site
  at = site_here false here s

  -- How a beginning came by it: the account before, what may begin after the separation, and what is so after the piece.
  record Past (b : Account) : Type 0 where
    pub from : Account
    pub line : Line
    pub after : Outside
    pub key : Bool
    pub is_like : LikeLine (line_by c k l) from.line
    pub begins : Begins text (w.separation ++ (w.piece ++ next)) from
    pub sep : line_past_separation false (begins_free_line s.before w.separation) from.line ≡ Some line
    pub past : line_past (is_in_column here.col at.blocks) here at.blocks (act_of w.shown) key line ≡ Some after
    pub own : b.line ≡ after.line

  past_of : (b : Account) → Begins text next b → Past b
  past_of b g = by (subst (λ (x : Site). Made x came.from.line came.from.entries (With w came.key) next b) (sym came.is_like.0) (made came.from.site came.from.line came.from.entries (With w came.key) next b came.is_past))
    where
      came : Came text (with_entries s (line_by c k l) []) w next b
      came = came_by text (with_entries s (line_by c k l) []) w next b way written g

      by : Made s came.from.line came.from.entries (With w came.key) next b → Past b
      by (inside some sep site one) = absurd (cc (same_flow [] came.from.entries came.is_like.2, some))
      by (outside m o none sep past line site one) = grind (arith, came)

  -- After a node or a block scalar outside flow the key that may begin with it is open, or the one that was.
  pub known_saved : (p : Position) → new.position ≡ here → new.required ≡ is_in_column here.col at.blocks → KnowsKey text (w.separation ++ (w.piece ++ next)) p k → KnowsKey text next p (saved allowed new k)
  known_saved p place must n = record {
    waiting = λ b begin g e near_line near_index.
        let x : Past b = past_of b g in
        opened allowed k refl refl b begin x (waits_past _ _ _ _ x.key x.line x.after begin x.past (sym x.own ∙ e)) near_line near_index;
    required = λ b x g e m. let y : Past b = past_of b g in y.own ∙ waited_on allowed k refl refl b x y e m;
    rows = goes_past text (with_entries s (line_by c k l) []) w next way written;
  }
    where
      opened : (d : Bool) (y : Option Key) → allowed ≡ d → k ≡ y → (b : Account) (begin : Position) (x : Past b) → Waits (is_in_column here.col at.blocks) here at.blocks (act_of w.shown) x.line x.after begin → p.line ≤ begin.line → p.index ≤ begin.index + 1024 → IsAt (saved d new y) begin
      opened true y i j b begin x (begun act f h bs) near_line near_index = place ∙ h
      opened false y i j b begin x (begun act f h bs) near_line near_index =
          -- where a line is taken, and no line begins, none like it is free
          let none_free : (broken c : Bool) (k : Option Key) (l n u m : Line) → line_past_separation false broken l ≡ Some n → n ≡ taken → LikeLine (line_by c k l) u → line_past_separation false broken u ≡ Some m → m ≡ free → ⊥ = λ a c k l n u m h t i j f. grind arith in
          absurd (none_free (begins_free_line s.before w.separation) c k l line_here x.from.line x.line sep_is (grind (arith, line_is)) x.is_like x.sep f)
      opened d y i j b begin x (kept act f bs) near_line near_index =
          let old : (d : Bool) (y : Option Key) → allowed ≡ d → k ≡ y → IsAt y begin → IsAt (saved d new y) begin = λ a y i j h. grind arith in
          old d y i j (rw (sym j) (n.waiting x.from begin x.begins (waited false (begins_free_line s.before w.separation) x.from.line x.line begin x.sep f).0 near_line near_index))

      waited_on : (d : Bool) (y : Option Key) → allowed ≡ d → k ≡ y → (b : Account) (x : Key) (z : Past b) → saved d new y ≡ Some x → x.required ≡ true → z.after.line ≡ waits x.position
      waited_on true None i j b x z e m =
          let same : new ≡ x = same_of new x e in
          let like : LikeLine l z.from.line = subst (λ o. LikeLine (line_by c o l) z.from.line) j z.is_like in
          let line : z.line ≡ free = (grind arith) in
          grind (arith, same, line, keyed, must, place)
      waited_on false (Some y) i j b x z e m =
          let was : z.line ≡ waits x.position = (still_there false (begins_free_line s.before w.separation) z.from.line z.line x.position (n.required z.from x z.begins (j ∙ e) m) z.sep).1 in
          (grind arith)
      waited_on d y i j b x z e m = grind (arith, line_is)

-- ---- what is known of keys that wait, where a piece begins, is known after the piece and a separation

-- the step of a piece, with no key
abbrev pub keyless : (separation piece : List ℕ) → Tok → Step
keyless separation piece tok = record { separation = separation; piece = piece; shown = tok; key = false }

module _ (text : List ℕ) (t : ScannerState) (piece next : List ℕ) (tok : Tok) (cut : t.rest ≡ piece ++ next) (q : Position) (gap rest : List ℕ) (place : q ≡ position_after (position_after t.held.position piece next) gap rest) (is_rest : next ≡ gap ++ rest) where
  later : (k : Option Key) → KnowsKey text next t.held.position k → KnowsKey text (gap ++ rest) q k
  later k n = rw (sym is_rest) (rw place (known_past text next (position_after t.held.position piece next) k gap rest (known_past text next t.held.position k piece next n)))

  goes_on : not (is_empty piece) ≡ true → is_empty t.rest ≡ false
  goes_on h = some_rest t.rest piece next cut (not-true (is_empty piece) h)

  pub knows_inside : (f : FlowLevel) (fs : List FlowLevel) (k : Option Key) (ks : List (Option Key)) (e : Entry) (es : List Entry) (a : ArrivesBy text t (f ∷ fs) (k ∷ ks) (e ∷ es)) →
      IsWritten (with_entries a.site a.line (e ∷ es)) (keyless a.separation piece tok) next → KnowsKey text (gap ++ rest) q (outside_key es ks)
  knows_inside f fs k ks e es a written =
      later (outside_key es ks) (known_inside text (with_entries a.site a.line (e ∷ es)) (keyless a.separation piece tok) next written t.held.position (outside_key es ks) refl
      (rw (sym cut) (way_inside text t (goes_on written.1.0) f fs k ks e es a)) (rw (sym cut) (a.knows refl)))

  module _ (k : Option Key) (a : ArrivesBy text t [] (k ∷ []) []) (written : IsWritten (with_entries a.site a.line []) (keyless a.separation piece tok) next) where
    way : (c : Bool) × Way GivesUp text (a.separation ++ (piece ++ next)) (with_entries a.site (line_by c k a.line) [])
    way = rw (sym cut) (way_outside text t (goes_on written.1.0) k a)

    pub knows_none : begins_key (act_of tok) ≡ false → KnowsKey text (gap ++ rest) q None
    knows_none idle = later None (none_known text (with_entries a.site (line_by way.0 k a.line) []) (keyless a.separation piece tok) next written t.held.position refl idle way.1)

    pub knows_saved : t.held.flow ≡ [] → IsDeep t.held → is_of_node (act_of tok) ≡ true → KnowsKey text (a.separation ++ t.rest) t.held.position k → KnowsKey text (gap ++ rest) q (saved t.held.key_allowed (new_key t) k)
    knows_saved out deep keyed n =
        let here : t.held.position ≡ position_after a.site.position a.separation (piece ++ next) = a.position_is ∙ ap (λ r. position_after a.site.position a.separation r) cut in
        later (saved t.held.key_allowed (new_key t) k) (known_saved text a.site a.line a.line_here t.held.key_allowed k (new_key t) (keyless a.separation piece tok) next written keyed
        (let some = goes_on written.1.0 in grind (arith, some)) a.is_line way.0 way.1 t.held.position here
        (rw (sym here) (must_be_here text t k a out deep)) (rw (sym cut) n))
