-- Lemmas about what stands between two tokens.
use Rattle.yaml_scanner.proofs.Common.{[], arith, At, between, Bool, comment, Err, false, Held, in_flow, is_before_indent, is_blank, is_break, List, moved, nat_tests, not, Ok, Position, Read, refl, skip, slice_index, tab_line, true, white, ℕ, ◌&&◌, ◌==◌, ◌||◌, ◌∷◌, ◌≡◌}
use Rattle.yaml_tokens.specs.declared.problem.Problem.TheVariants as problem
use Rattle.model_scanner.specs.Blanks as lex

-- after a line break
abbrev broken : Held → Position → Held
broken h p = record h { position = p; leading = true; key_allowed = not (in_flow h) || h.key_allowed }

abbrev read_to : List ℕ → Position → Read (Unit {0})
read_to b p = record { rest = b; position = p; value = tt }

pub gap_break : (a b : List ℕ) (h : Held) (p : Position) → lex.linebreak a h.position ≡ read_to b p → is_break (slice_index a 0) ≡ true → skip between a h ≡ skip between b (broken h p)
unfolding skip is_break
gap_break [] b h p e i = absurd cc
gap_break (c ∷ []) b h p e i = grind (arith, nat_tests)
gap_break (c ∷ d ∷ a) b h p e i = grind (arith, nat_tests)

-- a comment ends at its line's end
pub gap_comment : (a b : List ℕ) (h : Held) (p : Position) → lex.comment a h.position ≡ read_to b p → skip comment a h ≡ skip between b (record h { position = p })
unfolding skip
gap_comment [] b h p e = grind arith
gap_comment (c ∷ a) b h p e = let more = gap_comment a b (moved h) p in grind arith

pub gap_hash : (a b : List ℕ) (h : Held) (u : Held) → a ≡ 35 ∷ b → u ≡ record (moved h) { leading = false } → skip between a h ≡ skip comment b u
unfolding skip is_break is_blank
gap_hash a b h u e f = rw (e, f) refl

pub gap_blank : (a b : List ℕ) (c : ℕ) (h u : Held) → a ≡ c ∷ b → is_break c ≡ false → (c == 9) && is_before_indent h ≡ false → is_blank c ≡ true → u ≡ moved h → skip between a h ≡ skip between b u
unfolding skip
gap_blank a b c h u e i t k f = rw (e, f, i, t, k) refl

-- a space of an indentation
pub gap_space : (a b : List ℕ) (h u : Held) → a ≡ 32 ∷ b → u ≡ moved h → skip between a h ≡ skip between b u
unfolding is_break is_blank
gap_space a b h u e f = gap_blank a b 32 h u e refl refl refl f

pub gap_tab : (a b : List ℕ) (h u : Held) → a ≡ 9 ∷ b → is_before_indent h ≡ true → u ≡ moved h → skip between a h ≡ skip tab_line b u
unfolding skip is_break
gap_tab a b h u e t f = rw (e, f, t) refl

pub tab_blank : (a b : List ℕ) (c : ℕ) (h u : Held) → a ≡ c ∷ b → is_blank c ≡ true → u ≡ moved h → skip tab_line a h ≡ skip tab_line b u
unfolding skip is_break is_blank
tab_blank a b c h u e k f = grind (arith, nat_tests)

pub tab_hash : (a b : List ℕ) (h u : Held) → a ≡ 35 ∷ b → u ≡ moved h → skip tab_line a h ≡ skip comment b u
unfolding skip is_break is_blank
tab_hash a b h u e f = rw (e, f) refl

pub tab_end : (a : List ℕ) (c : ℕ) (h : Held) → c ≡ slice_index a 0 → (c ≡ 0 → a ≡ []) → is_break c || (c == 0) ≡ true → skip tab_line a h ≡ skip between a h
unfolding skip
tab_end [] c h e z i = refl
tab_end (d ∷ a) c h e z i = grind (arith, nat_tests)

pub tab_content : (a : List ℕ) (c : ℕ) (h : Held) (p : Position) → c ≡ slice_index a 0 → is_break c || (c == 0) ≡ false → is_blank c ≡ false → (c == 35) ≡ false → p ≡ h.position → skip tab_line a h ≡ Err (At problem.TabInBlockIndentation p)
unfolding skip
tab_content [] c h p e i k j q = absurd (grind arith)
tab_content (d ∷ a) c h p e i k j q = grind (arith, nat_tests)

pub gap_end : (a : List ℕ) (c : ℕ) (h : Held) → c ≡ slice_index a 0 → is_break c ≡ false → (c == 9) && is_before_indent h ≡ false → is_blank c ≡ false → (c == 35) ≡ false → skip between a h ≡ Ok (record { rest = a; held = h })
unfolding skip
gap_end [] c h e i t k j = refl
gap_end (d ∷ a) c h e i t k j = grind arith

-- where no blank, no break and no comment stands
pub no_gap : (a : List ℕ) (c : ℕ) (h : Held) → c ≡ slice_index a 0 → is_break c ≡ false → is_blank c ≡ false → (c == 35) ≡ false → skip between a h ≡ Ok (record { rest = a; held = h })
unfolding skip is_blank
no_gap a c h e i k j = gap_end a c h e i (grind arith) k j

-- ---- after a `?`

pub white_break : (f : Bool) (a b : List ℕ) (h : Held) (p : Position) → lex.linebreak a h.position ≡ read_to b p → is_break (slice_index a 0) ≡ true → white false f a h ≡ white false true b (broken h p)
unfolding white is_break
white_break f [] b h p e i = absurd cc
white_break f (c ∷ []) b h p e i = grind (arith, nat_tests)
white_break f (c ∷ d ∷ a) b h p e i = grind (arith, nat_tests)

pub white_hash : (f : Bool) (a b : List ℕ) (h u : Held) → a ≡ 35 ∷ b → u ≡ moved h → white false f a h ≡ white true f b u
unfolding white is_break
white_hash f a b h u e k = rw (e, k) refl

-- a comment ends at its line's end
pub white_comment : (f : Bool) (a b : List ℕ) (h : Held) (p : Position) → lex.comment a h.position ≡ read_to b p → white true f a h ≡ white false f b (record h { position = p })
unfolding white
white_comment f [] b h p e = grind arith
white_comment f (c ∷ a) b h p e = let more = white_comment f a b (moved h) p in grind arith

pub white_space : (f : Bool) (a b : List ℕ) (h u : Held) → a ≡ 32 ∷ b → u ≡ moved h → white false f a h ≡ white false true b u
unfolding white is_break
white_space f a b h u e k = rw (e, k) refl

pub white_stop : (a : List ℕ) (c : ℕ) (h : Held) → c ≡ slice_index a 0 → is_break c ≡ false → (c == 32) ≡ false → (c == 35) ≡ false → white false true a h ≡ Ok (record { rest = a; held = h })
unfolding white
white_stop [] c h e i s j = refl
white_stop (d ∷ a) c h e i s j = grind arith

pub white_missing : (a : List ℕ) (c : ℕ) (h : Held) (p : Position) → c ≡ slice_index a 0 → is_break c ≡ false → (c == 32) ≡ false → (c == 35) ≡ false → p ≡ h.position → white false false a h ≡ Err (At problem.WhitespaceExpected p)
unfolding white
white_missing [] c h p e i s j q = rw q refl
white_missing (d ∷ a) c h p e i s j q = grind arith
