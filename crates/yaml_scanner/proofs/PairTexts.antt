-- Simple texts, and how the model scans them as plain scalars.
use Rattle.yaml_scanner.proofs.Common.{[], along, and_from, and_parts, ap, append-nil, append_assoc, arith, at_marker, Bool, class_of, eqb-true, false, Fault, indented, is_alphanumeric, is_blank, is_blank_or_breakz, is_break, is_simple, IsSimpleText, le-ltb, length, List, nat_lt, nat_tests, ne_eqb, not, Ok, opens_simple, past, Position, Read, refl, Result, slice_index, suc, true, zero, ℕ, ◌&&◌, ◌++◌, ◌+◌, ◌<◌, ◌==◌, ◌∙◌, ◌∷◌, ◌≡◌, ◌≢◌, ◌≤◌}
use Rattle.model_scanner.specs.declared.context.Context.{Context}
use Rattle.model_scanner.specs.Plain.{PlainState, Plain, inside, between, plain, plain_from, can_be_plain, starts, at_dash, at_plain, goes_on, is_shallow}
use Rattle.model_scanner.specs.declared.class.Class.TheVariants.{Other}

-- ---- simple texts

abbrev pub all_simple : List ℕ → Bool
all_simple [] = true
all_simple (c ∷ w) = is_simple c && all_simple w

-- it doesn't end in a space; the flag says that one came last
abbrev pub closes : Bool → List ℕ → Bool
closes b [] = not b
closes b (c ∷ w) = closes (c == 32) w

inner_simple : (w : List ℕ) → ((k : ℕ) → k < length w → is_simple (slice_index w k) ≡ true) → all_simple w ≡ true
inner_simple [] h = refl
inner_simple (c ∷ w) h = and_from _ _ (h 0 (omega arith)) (inner_simple w (λ k l. h (suc k) (omega (arith, l))))

last_closes : (c : ℕ) (w : List ℕ) → ((k : ℕ) → k + 1 ≡ length (c ∷ w) → slice_index (c ∷ w) k ≢ 32) → closes (c == 32) w ≡ true
last_closes c [] h = rw (ne_eqb c 32 (h 0 refl)) refl
last_closes c (d ∷ w) h = last_closes d w (λ k e. h (suc k) (omega (arith, e)))

-- a character of a simple text
record SimpleChar (c : ℕ) : Type 0 where
  break : is_break c ≡ false
  blank : (c == 32) ≡ false → is_blank c ≡ false
  colon : (c == 58) ≡ false
  hash : (c == 35) ≡ false
  nul : (c == 0) ≡ false

simple_char : (c : ℕ) → is_simple c ≡ true → SimpleChar c
unfolding is_break is_blank is_simple
simple_char c h = grind (arith, nat_tests)

-- a character that a simple text begins with
pub record Opener (c : ℕ) : Type 0 where
  pub break : is_break c ≡ false
  pub blank : is_blank c ≡ false
  pub tab : (c == 9) ≡ false
  pub space : (c == 32) ≡ false
  pub hash : (c == 35) ≡ false
  pub nul : (c == 0) ≡ false
  pub percent : (c == 37) ≡ false
  pub dash : (c == 45) ≡ false
  pub point : (c == 46) ≡ false
  pub class : class_of c ≡ Other

opener : (c : ℕ) → opens_simple c ≡ true → Opener c
unfolding is_break is_blank opens_simple is_alphanumeric class_of
opener c h = grind (arith, nat_tests)

-- a simple text, as lemmas take it apart
pub record Simple (text : List ℕ) : Type 0 where
  pub head : ℕ
  pub tail : List ℕ
  pub whole : text ≡ head ∷ tail
  pub opens : Opener head
  pub chars : all_simple tail ≡ true
  pub close : closes false tail ≡ true

pub simple_text : (text : List ℕ) → IsSimpleText text → Simple text
simple_text [] h = absurd (omega (arith, h.some))
simple_text (c ∷ w) h =
    let o = opener c h.first in
    record { head = c; tail = w; whole = refl; opens = o; chars = inner_simple w (λ k l. h.inner (suc k) (omega (arith, l))); close = rw (o.space) at (last_closes c w h.last) }

pub same_place : {i j l m c d : ℕ} → i ≡ j → l ≡ m → c ≡ d → ◌≡◌ {A = Position} (record { index = i; line = l; col = c }) (record { index = j; line = m; col = d })
same_place e f g = rw (e, f, g) refl

-- the position after characters of a line
pub along_is : (a : List ℕ) (p : Position) → along a p ≡ record { index = p.index + length a; line = p.line; col = p.col + length a }
along_is [] p = same_place (omega arith) refl (omega arith)
along_is (c ∷ a) p = along_is a (past p) ∙ same_place (omega arith) refl (omega arith)

-- ---- the scan of a plain scalar

abbrev pub outside : ℕ → Context
outside i = record { flow = false; indent = i }

module _ (i : ℕ) (start : Position) where
  abbrev scan : List ℕ → PlainState → Result (Read Plain) Fault
  scan a s = plain_from (outside i) start a s

  -- after a character of the text, or after spaces
  abbrev at : Bool → Position → List ℕ → List ℕ → PlainState
  at false p text gap = record { mode = inside; position = p; folded = record { text = text; gap = []; leading = false; escaped = false } }
  at true p text gap = record { mode = between; position = p; folded = record { text = text; gap = gap; leading = false; escaped = false } }

  abbrev total : Bool → List ℕ → List ℕ → List ℕ
  total false text gap = text
  total true text gap = text ++ gap

  goes : (c : ℕ) (a : List ℕ) (p : Position) → SimpleChar c → is_blank c ≡ false → i ≤ p.col → 1 ≤ p.col → goes_on (outside i) (c ∷ a) p ≡ Ok true
  unfolding goes_on is_shallow at_marker at_dash at_plain can_be_plain
  goes c a p z blank deep off = rw (le-ltb p.col i deep, z.hash, ne_eqb p.col 0 (λ e. omega arith), blank, z.break, z.nul, z.colon) refl

  one_char : (b : Bool) (c : ℕ) (a : List ℕ) (p : Position) (text gap : List ℕ) → SimpleChar c → is_blank c ≡ false → i ≤ p.col → 1 ≤ p.col
      → scan (c ∷ a) (at b p text gap) ≡ scan a (at false (past p) (total b text gap ++ c ∷ []) [])
  unfolding can_be_plain
  one_char false c a p text gap z blank deep off = rw (z.break, blank, z.colon) refl
  one_char true c a p text gap z blank deep off = rw (z.break, blank, goes c a p z blank deep off) refl

  -- the spaces before one more
  abbrev more : Bool → List ℕ → List ℕ
  more false gap = 32 ∷ []
  more true gap = gap ++ 32 ∷ []

  one_space : (b : Bool) (a : List ℕ) (p : Position) (text gap : List ℕ) → scan (32 ∷ a) (at b p text gap) ≡ scan a (at true (past p) text (more b gap))
  unfolding is_break is_blank
  one_space false a p text gap = refl
  one_space true a p text gap = refl

  more_total : (b : Bool) (text gap w : List ℕ) → total true text (more b gap) ++ w ≡ total b text gap ++ 32 ∷ w
  more_total false text gap w = append_assoc text (32 ∷ []) w
  more_total true text gap w = simp append_assoc

  abbrev Goes : List ℕ → List ℕ → Type 0
  Goes w r = (b : Bool) (p : Position) (text gap : List ℕ) → all_simple w ≡ true → closes b w ≡ true → i ≤ p.col → 1 ≤ p.col → scan (w ++ r) (at b p text gap) ≡ scan r (at false (along w p) (total b text gap ++ w) [])

  char_goes : (b d : Bool) (c : ℕ) (w r : List ℕ) (p : Position) (text gap : List ℕ) → (c == 32) ≡ d → is_simple c ≡ true → all_simple w ≡ true → closes d w ≡ true → i ≤ p.col → 1 ≤ p.col → Goes w r
      → scan (c ∷ (w ++ r)) (at b p text gap) ≡ scan r (at false (along w (past p)) (total b text gap ++ c ∷ w) [])
  char_goes b true c w r p text gap e one all close deep off go =
      let is : c ≡ 32 = eqb-true c 32 e in
      let now : scan (32 ∷ (w ++ r)) (at b p text gap) ≡ scan r (at false (along w (past p)) (total b text gap ++ 32 ∷ w) []) =
      one_space b (w ++ r) p text gap ∙ go true (past p) text (more b gap) all close (omega (arith, deep)) (omega arith) ∙ ap (λ t. scan r (at false (along w (past p)) t [])) (more_total b text gap w) in
      rw is now
  char_goes b false c w r p text gap e one all close deep off go =
      let z = simple_char c one in
      one_char b c (w ++ r) p text gap z (z.blank e) deep off
      ∙ go false (past p) (total b text gap ++ c ∷ []) [] all close (omega (arith, deep)) (omega arith)
      ∙ ap (λ t. scan r (at false (along w (past p)) t [])) (append_assoc (total b text gap) (c ∷ []) w)

  text_goes : (w r : List ℕ) → Goes w r
  text_goes [] r false p text gap h e deep off = rw append-nil refl
  text_goes [] r true p text gap h e deep off = cc
  text_goes (c ∷ w) r b p text gap h e deep off =
      let q = and_parts (is_simple c) (all_simple w) h in char_goes b (c == 32) c w r p text gap refl q.0 q.1 e deep off (text_goes w r)

  begins_scan : (c : ℕ) (w r : List ℕ) → all_simple w ≡ true → closes false w ≡ true → i ≤ start.col + 1
      → plain (outside i) (c ∷ (w ++ r)) start ≡ scan r (at false (along (c ∷ w) start) (c ∷ w) [])
  unfolding plain starts at_dash
  begins_scan c w r all close deep = text_goes w r false (past start) (c ∷ []) [] all close deep (omega arith)

  -- up to a colon
  pub plain_key : (c : ℕ) (w : List ℕ) (d : ℕ) (a : List ℕ) → all_simple w ≡ true → closes false w ≡ true → i ≤ start.col + 1 → is_blank_or_breakz d ≡ true
      → plain (outside i) (c ∷ (w ++ 58 ∷ d ∷ a)) start ≡ Ok (record { rest = 58 ∷ d ∷ a; position = along (c ∷ w) start; value = record { text = c ∷ w; leading = false } })
  unfolding is_break is_blank can_be_plain
  plain_key c w d a all close deep end = begins_scan c w (58 ∷ d ∷ a) all close deep ∙ rw end refl

  -- after a line feed and spaces
  abbrev below : ℕ → ℕ → ℕ → List ℕ → PlainState
  below index line col text = record { mode = between; position = record { index = index; line = line; col = col }; folded = record { text = text; gap = []; leading = true; escaped = false } }

  abbrev pub over : List ℕ → ℕ → ℕ → ℕ → List ℕ → Result (Read Plain) Fault
  over r index line col text = Ok (record { rest = r; position = record { index = index; line = line; col = col }; value = record { text = text; leading = true } })

  over_spaces : (n e : ℕ) (a : List ℕ) (index line col at_end end : ℕ) (text : List ℕ) → is_break e ≡ false → is_blank e ≡ false → index + n ≡ at_end → col + n ≡ end → nat_lt end i ≡ true
      → scan (indented n (e ∷ a)) (below index line col text) ≡ over (e ∷ a) at_end line end text
  unfolding goes_on is_shallow is_break is_blank
  over_spaces zero e a index line col at_end end text solid visible f g low =
      let here : index ≡ at_end = omega arith in
      let there : col ≡ end = omega arith in
      rw (here, there, solid, visible, low) refl
  over_spaces (suc n) e a index line col at_end end text solid visible f g low = over_spaces n e a (index + 1) line (col + 1) at_end end text solid visible (omega arith) (omega arith) low

  -- over a line feed and the next line's spaces
  pub plain_value : (c : ℕ) (w : List ℕ) (n e : ℕ) (a : List ℕ) → all_simple w ≡ true → closes false w ≡ true → i ≤ start.col + 1 → is_break e ≡ false → is_blank e ≡ false → nat_lt n i ≡ true
      → plain (outside i) (c ∷ (w ++ 10 ∷ indented n (e ∷ a))) start ≡ over (e ∷ a) (start.index + length (c ∷ w) + 1 + n) (start.line + 1) n (c ∷ w)
  unfolding is_break is_blank
  plain_value c w n e a all close deep solid visible low =
      begins_scan c w (10 ∷ indented n (e ∷ a)) all close deep
      ∙ ap (λ p. scan (10 ∷ indented n (e ∷ a)) (at false p (c ∷ w) [])) (along_is (c ∷ w) start)
      ∙ over_spaces n e a (start.index + length (c ∷ w) + 1) (start.line + 1) 0 _ n (c ∷ w) solid visible refl (omega arith) low
