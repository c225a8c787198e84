-- Where a piece begins, and between two fetches: what holds with the flow levels, the open keys and the entries taken apart, outside flow and in flow.
use Rattle.proof_scanner.proofs.Common.{[], Account, Act, act_of, After, ap, append-nil, AreAround, AreLevels, AreNumbered, arith, Arrives, ArrivesWith, awaits_past, begins_free_line, begins_separation, begun_by, Bool, columns, Entry, false, FlowLevel, further_lines_stand, has_break, Held, in_flow, Indent, innermost, is_break, is_deep_enough, is_empty, is_in_column, is_waiting, IsLive, IsNotRight, IsOpenHere, IsOpenOutside, Key, KnowsKey, least_column, least_for, length, Line, line_by, line_past_separation, List, may_precede, MayChoose, must_be_key, nat_le, not, NotBefore, Option, or_true, outside_key, Position, position_after, Previous, previous_by, ScannerState, shown_position, Site, Some, Stands, StandsWith, subst, suc, sym, taken, Tok, true, ℕ, ◌&&◌, ◌++◌, ◌+◌, ◌==◌, ◌∙◌, ◌∷◌, ◌≡◌, ◌≤◌}
use Rattle.proof_scanner.proofs.Cut.Positions.{no_break_on_line, not_before_after, not_before_then, weaker}
use Rattle.proof_scanner.proofs.Cut.Stoods.{IsDeep}

-- an account by its parts
abbrev pub with_entries : Site → Line → List Entry → Account
with_entries s l es = record { site = s; line = l; entries = es }

-- ---- where a piece begins

-- What holds there, if these are the flow levels and open keys that the scanner holds, and these the entries.
pub record ArrivesBy (text : List ℕ) (t : ScannerState) (fs : List FlowLevel) (ks : List (Option Key)) (es : List Entry) : Type 0 where
  pub site : Site
  pub line : Line
  pub known : ArrivesWith text t fs ks (with_entries site line es)
  pub open known use *
  pub knows : is_empty fs ≡ false → KnowsKey text (separation ++ t.rest) t.held.position (outside_key es ks)

-- the state with these flow levels and open keys
abbrev pub with_sides : ScannerState → List FlowLevel → List (Option Key) → ScannerState
with_sides t fs ks = record t { held = record t.held { flow = fs; keys = ks } }

-- It is enough to show something outside flow, where there is one key at most and no entry, and in flow, where the innermost entry has its flow level and its key.
pub by_sides : (text : List ℕ) (t : ScannerState) (P : ScannerState → Type 0) → Arrives text t →
    ((k : Option Key) (a : ArrivesBy text (with_sides t [] (k ∷ [])) [] (k ∷ []) []) → KnowsKey text (a.separation ++ t.rest) t.held.position k → P (with_sides t [] (k ∷ []))) →
    ((f : FlowLevel) (fs : List FlowLevel) (k : Option Key) (ks : List (Option Key)) (e : Entry) (es : List Entry) →
    ArrivesBy text (with_sides t (f ∷ fs) (k ∷ ks)) (f ∷ fs) (k ∷ ks) (e ∷ es) → P (with_sides t (f ∷ fs) (k ∷ ks))) → P t
by_sides text t P a outer inner = by t.held.flow t.held.keys a.base.entries (record { site = a.base.site; line = a.base.line; known = a.known; knows = λ _. a.knows }) a.knows
  where
    by : (fs : List FlowLevel) (ks : List (Option Key)) (es : List Entry) (p : ArrivesBy text (with_sides t fs ks) fs ks es) → KnowsKey text (p.separation ++ t.rest) t.held.position (outside_key es ks) →
        P (with_sides t fs ks)
    by [] (k ∷ []) [] p n = outer k p n
    by (f ∷ fs) (k ∷ ks) (e ∷ es) p n = inner f fs k ks e es p
    by fs ks es p n = absurd (let m = p.one_each in let a = p.are_entries in grind arith)

-- ---- between two fetches

-- A state stands if it does so with the flow levels and keys that it holds, under other names.
pub stands_by : (text : List ℕ) (t : ScannerState) (fs : List FlowLevel) (ks : List (Option Key)) (base : Account) → t.held.flow ≡ fs → t.held.keys ≡ ks → StandsWith text t fs ks base → Stands text t
stands_by text t fs ks base f k s = record { base = base; known = subst (λ x. StandsWith text t t.held.flow x base) (sym k) (subst (λ x. StandsWith text t x ks base) (sym f) s) }

-- ---- what lets a piece stand: four tests, and its column in flow

-- What is said of a token whose piece stands where the token is shown, and not left of the least column: what the piece does, what it begins and what it was;
-- when its further lines and the text after it let it stand, and whether a value is awaited then.
pub record IsToken (tok : Tok) (k : Act) (es : List Entry) (before : Previous) (stand : ℕ → List ℕ → Bool) (follow : Bool → (piece next : List ℕ) → Bool) (await : Bool → List ℕ → Bool → Bool) : Type 0 where
  pub act : act_of tok ≡ k
  pub begun : begun_by tok ≡ es
  pub previous : previous_by tok ≡ before
  pub shown : (s : Site) (piece next : List ℕ) → shown_position s piece tok next ≡ s.position
  pub least : (s : Site) → least_for tok s ≡ least_column s.blocks s.awaits
  pub lines : (column : ℕ) (piece : List ℕ) → further_lines_stand column tok piece ≡ stand column piece
  pub precedes : (fl : Bool) (bs piece next : List ℕ) → may_precede fl bs tok piece next ≡ follow fl piece next
  pub awaits : (fl : Bool) (bs : List ℕ) (b : Bool) (next : List ℕ) → awaits_past fl tok bs b next ≡ await fl bs b

-- a piece that is no plain scalar, in the least column or deeper
pub deep_for : (fl : Bool) (tok : Tok) (x : Site) → least_for tok x ≡ least_column x.blocks x.awaits → nat_le (least_column x.blocks x.awaits) x.position.col ≡ true → is_deep_enough fl tok x ≡ true
deep_for a tok x least h = grind (arith, or_true)

-- ---- texts

-- a text that begins with a piece is not empty
pub some_rest : (rest a b : List ℕ) → rest ≡ a ++ b → is_empty a ≡ false → is_empty rest ≡ false
some_rest rest a b e h = ap is_empty e ∙ (grind arith)

-- what begins no separation is no line feed
no_feed : (c : ℕ) (r : List ℕ) → begins_separation (c ∷ r) ≡ false → (c == 10) ≡ false
unfolding is_break
no_feed c r h = grind arith

-- a separation before a piece on the line where it begins has no break
pub unbroken : (q : Position) (f rest : List ℕ) → is_empty rest ≡ false → begins_separation rest ≡ false → (position_after q f rest).line ≤ q.line → has_break f ≡ false
unbroken q f [] n s h = absurd (cc n)
unbroken q f (c ∷ r) n s h = ap not (no_break_on_line q f c r (no_feed c r s) h)

-- without a break no line begins
pub not_free : (before : Previous) (f : List ℕ) → has_break f ≡ false → begins_free_line before f ≡ false
not_free a f h = grind arith

-- ---- lines

pub no_waiting : (b w : Bool) → w ≡ false → (b && w) ≡ false
no_waiting a w h = grind arith

-- in flow a separation does not change what may begin outside
pub line_kept : (broken : Bool) (l m : Line) → is_waiting l ≡ false → line_past_separation true broken l ≡ Some m → l ≡ m
line_kept a l m h e = grind arith

-- ---- block collections

-- the innermost collection is not right of a column that is deep enough
pub first_not_right : (col i : ℕ) (ds : List Indent) → AreLevels i ds → i ≤ col + 1 → IsNotRight (innermost (columns i ds)) col
first_not_right col i a l h = grind arith

-- Outside flow the scanner asks for a key just in the column of the innermost collection.
pub must_be : (s : Held) → in_flow s ≡ false → AreLevels s.indent s.indents → IsDeep s → must_be_key s ≡ is_in_column s.position.col (columns s.indent s.indents)
unfolding must_be_key
must_be s out l deep = grind arith

-- ---- numbers of keys

pub numbered_more : (m n : ℕ) (ks : List (Option Key)) → m ≤ n → AreNumbered m ks → AreNumbered n ks
numbered_more m n [] h a = tt
numbered_more m n (k ∷ ks) h a = grind (arith, numbered_more m n ks)

-- the keys around one are numbered too
pub numbered_around : (m : ℕ) (k : Option Key) (ks : List (Option Key)) → AreNumbered m (k ∷ ks) → AreNumbered m ks
numbered_around m b ks a = grind (arith, numbered_more)

pub many_around : (fs : List FlowLevel) (ks : List (Option Key)) (es : List Entry) → AreAround fs ks es → length fs ≡ length es
many_around (f ∷ fs) (k ∷ ks) (e ∷ es) h = ap suc (many_around fs ks es h.2)
many_around fs ks es h = grind arith

-- a text that is not empty has a character
pub not_none : (l : List ℕ) → is_empty l ≡ false → 1 ≤ length l
not_none a h = grind arith

-- ---- a piece in flow, and the open key outside flow: while that is live, no break stands before the piece or in it

module _ (text : List ℕ) (t : ScannerState) (f : FlowLevel) (fs : List FlowLevel) (k : Option Key) (ks : List (Option Key)) (e : Entry) (es : List Entry) (a : ArrivesBy text t (f ∷ fs) (k ∷ ks) (e ∷ es)) where
  pub line_taken : a.line ≡ taken
  line_taken = line_kept (begins_free_line a.site.before a.separation) a.line a.line_here a.no_key a.is_line ∙ a.line_is

  pub tokens_before : t.held.tokens ≡ a.tokens
  tokens_before = a.tokens_are ∙ append-nil a.tokens

  last_before : NotBefore a.site.position t.held.position
  last_before = rw a.position_is (not_before_after a.site.position a.separation t.rest)

  around_of : (x : Key) → outside_key es ks ≡ Some x → After x.position a.site.position × (IsLive x t.held.position t.rest → IsOpenHere x t.held.position a.site.blocks)
  around_of x i = subst (λ y. IsOpenOutside y a.site.position t.held.position t.rest a.site.blocks) i a.is_open

  around_before : (x : Key) → outside_key es ks ≡ Some x → NotBefore x.position t.held.position
  around_before x i = not_before_then x.position a.site.position t.held.position (weaker x.position a.site.position (around_of x i).0) last_before

  -- to a later position, where other text is left
  module _ (some : is_empty t.rest ≡ false) (end : Position) (rest : List ℕ) (later : NotBefore t.held.position end) where
    pub unbroken_around : (strict c : Bool) → MayChoose strict c (outside_key es ks) end rest → line_past_separation true (begins_free_line a.site.before a.separation) (line_by c (outside_key es ks) a.line) ≡ Some (line_by c (outside_key es ks) a.line)
    unbroken_around strict c may = grind (arith, not_free, unbroken, around_of, (a.is_line ∙ ap (λ l. Some l) (sym (line_kept (begins_free_line a.site.before a.separation) a.line a.line_here a.no_key a.is_line))))

    pub one_around : (piece : List ℕ) → (is_empty rest ≡ false → end.line ≤ t.held.position.line → has_break piece ≡ false) → (strict c : Bool) → MayChoose strict c (outside_key es ks) end rest → (has_break piece && is_waiting (line_by c (outside_key es ks) a.line)) ≡ false
    one_around piece one strict c may = grind (arith, no_waiting, around_before)

    pub open_around : (q : Position) → NotBefore t.held.position q → IsOpenOutside (outside_key es ks) q end rest a.site.blocks
    open_around q a = grind (arith, around_of, not_before_then, last_before)
