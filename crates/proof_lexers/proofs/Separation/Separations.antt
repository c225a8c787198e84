-- What the model passes between tokens is a separation.
use Rattle.proof_lexers.proofs.Common.{[], after_separation, and-false, and_parts, ap, append_assoc, arith, At, begins_separation, begins_token, Bool, cases_Bool, eqb-true, Err, false, Fault, Gap, has_break, Held, in_flow, inl, inr, is_before_indent, is_before_line_feed, is_blank, is_blanks, is_break, is_left, is_separation, is_white, List, nat_tests, not, Ok, or-true, or_parts, past, past_break, Position, position_after, position_past, reads, refl, refuses, Result, ScannerState, SeparationsArePassed, skip, sym, tab_left, tab_line, true, ℕ, ◌&&◌, ◌++◌, ◌==◌, ◌||◌, ◌∙◌, ◌∷◌, ◌≡◌, subst, TabInBlockIndentation, same_break, same_blank}
use Rattle.defs_text.specs.Classes as classes
use Rattle.model_scanner.specs.Space.{between, comment, at_break}
use Rattle.proof_lexers.proofs.Plain.Found.{begins_break, feed_breaks}
use Rattle.proof_lexers.proofs.Plain.Turns.{same_feed, in_line_position, line_position, or_true}

abbrev is_comment : Gap → Bool
is_comment comment = true
is_comment _ = false

abbrev is_tab_line : Gap → Bool
is_tab_line tab_line = true
is_tab_line _ = false

-- the same levels, at another position
abbrev pub at : Held → Position → (leading key_allowed : Bool) → Held
at s p leading allowed = record s { position = p; leading = leading; key_allowed = allowed }

no_break_at : (rest : List ℕ) → begins_separation rest ≡ false → begins_break rest ≡ false
no_break_at a h = grind (arith, or_parts)

-- whether a key may begin, after one character and the separation after it
abbrev pub Allows : Held → ℕ → Bool → List ℕ → Type 0
Allows s c allowed a = (separation rest : List ℕ) → a ≡ separation ++ rest → begins_break rest ≡ false → ((not (in_flow s) && has_break separation) || allowed) ≡ ((not (in_flow s) && has_break (c ∷ separation)) || s.key_allowed)

same_after : (s : Held) (rest : List ℕ) (leading : Bool) (p q : Position) (k l : Bool) → p ≡ q → k ≡ l
    → ◌≡◌ {A = Result ScannerState Fault} (Ok (record { rest = rest; held = at s p leading k })) (Ok (record { rest = rest; held = at s q leading l }))
same_after s rest leading p q k l e f = rw (e, f) refl

-- where nothing is passed
pub stayed : (s : Held) (rest : List ℕ) → ◌≡◌ {A = Result ScannerState Fault} (Ok (record { rest = rest; held = s })) (Ok (after_separation s s.leading [] rest))
stayed s rest = same_after s rest s.leading s.position s.position s.key_allowed ((not (in_flow s) && false) || s.key_allowed) refl (rw (and-false (not (in_flow s))) refl)

-- ---- characters of a separation

pub no_hash : (c : ℕ) → is_blank c ≡ true → (c == 35) ≡ false
unfolding is_blank
no_hash c h = grind (arith, nat_tests)

pub no_break_hash : (c : ℕ) → is_break c ≡ true → (c == 35) ≡ false
unfolding is_break
no_break_hash c h = grind (arith, nat_tests)

-- a break ends a comment, and goes on in a separation
pub fills_break : (in_comment : Bool) (c : ℕ) (separation rest : List ℕ) → is_break c ≡ true → is_separation false separation rest ≡ true → is_separation in_comment (c ∷ separation) rest ≡ true
fills_break a c separation rest e h = grind (arith, nat_tests, same_break, or_true, no_break_hash)

pub fills_blank : (c : ℕ) (separation rest : List ℕ) → is_blank c ≡ true → is_separation false separation rest ≡ true → is_separation false (c ∷ separation) rest ≡ true
fills_blank c separation rest e h = let blank : classes.is_blank c ≡ true = same_blank c ∙ e in rw (blank, no_hash c e) h

pub fills_hash : (c : ℕ) (separation rest : List ℕ) → (c == 35) ≡ true → is_separation true separation rest ≡ true → is_separation false (c ∷ separation) rest ≡ true
fills_hash c separation rest e h = rw (e, or_true (is_white c)) h

pub fills_comment : (c : ℕ) (separation rest : List ℕ) → is_break c ≡ false → is_separation true separation rest ≡ true → is_separation true (c ∷ separation) rest ≡ true
fills_comment c separation rest e h = let no_break : classes.is_break c ≡ false = same_break c ∙ e in rw no_break h

-- ---- a walk over a separation, in its modes

module _ {M : Type 0} (in_comment : M → Bool) (begins : List ℕ → Bool) (no_break : (rest : List ℕ) → begins rest ≡ false → begins_break rest ≡ false) (go : M → List ℕ → Held → Result ScannerState Fault) (Why : M → Held → List ℕ → Fault → Type 0) where
  -- A separation is passed, or the text is refused.
  pub data Walks (m : M) (s : Held) (a : List ℕ) (x : Result ScannerState Fault) : Type 0 where
    gone : (leading : Bool) (separation rest : List ℕ) → a ≡ separation ++ rest → is_separation (in_comment m) separation rest ≡ true → begins rest ≡ false → x ≡ Ok (after_separation s leading separation rest) → Walks m s a x
    failed : (f : Fault) → Why m s a f → x ≡ Err f → Walks m s a x

  abbrev pub WalksOn : List ℕ → Type 0
  WalksOn a = (m : M) (s : Held) → Walks m s a (go m a s)

  -- a mode after a character goes on in the separation with it
  abbrev pub Fills : M → M → ℕ → Type 0
  Fills m n c = (separation rest : List ℕ) → is_separation (in_comment n) separation rest ≡ true → is_separation (in_comment m) (c ∷ separation) rest ≡ true

  -- what is refused after a character, is refused for the same reason with it
  abbrev pub Keeps : M → M → Held → ℕ → List ℕ → (leading allowed : Bool) → Type 0
  Keeps m n s c a b k = (f : Fault) → Why n (at s (position_past s.position c a) b k) a f → Why m s (c ∷ a) f

  one_more : (m n : M) (s : Held) (c : ℕ) (a : List ℕ) (b k : Bool) (p : Position) → position_past s.position c a ≡ p → Fills m n c → Allows s c k a → Keeps m n s c a b k → WalksOn a → Walks m s (c ∷ a) (go n a (at s p b k))
  one_more m n s c a b k p position fills allows keeps ih = rw (← position) (by (ih n (at s (position_past s.position c a) b k)))
    where
      by : {x : Result ScannerState Fault} → Walks n (at s (position_past s.position c a) b k) a x → Walks m s (c ∷ a) x
      by (gone leading separation rest cut is ends e) = gone leading (c ∷ separation) rest (ap (λ r. c ∷ r) cut) (fills separation rest is) ends (grind (arith, same_after))
      by (failed f why e) = failed f (keeps f why) e

  -- a character that is no break moves the position by one
  pub on_line : (m n : M) (s : Held) (c : ℕ) (a : List ℕ) (b : Bool) → is_break c ≡ false → Fills m n c → Keeps m n s c a b s.key_allowed → WalksOn a → Walks m s (c ∷ a) (go n a (at s (past s.position) b s.key_allowed))
  on_line m n s c a b e fills keeps ih =
      let still : classes.is_break c ≡ false = same_break c ∙ e in
      one_more m n s c a b s.key_allowed (past s.position) (in_line_position c a s.position (rw still refl)) fills (λ separation rest cut ends. rw still refl) keeps ih

  -- a break, from anywhere
  pub broken : (m n : M) (s : Held) (c : ℕ) (a : List ℕ) → is_break c ≡ true → in_comment n ≡ false → ((b k : Bool) → Keeps m n s c a b k) → WalksOn a → Walks m s (c ∷ a) (go n a (at_break c a s))
  broken m n s c a e outside keeps ih =
      let breaks : classes.is_break c ≡ true = same_break c ∙ e in
      let fills : Fills m n c = λ separation rest h. fills_break (in_comment m) c separation rest e (rw outside at h) in
      elim (cases_Bool (is_before_line_feed c a)) [
        -- of CR LF the LF is a break
        | inl f ↦ rw (same_feed c a, f) (one_more m n s c a s.leading s.key_allowed (past s.position) (in_line_position c a s.position (rw (breaks, f) refl)) fills
            (λ separation rest cut ends. rw (breaks, feed_breaks c separation rest (rw cut at f) ends) refl) (keeps s.leading s.key_allowed) ih)
        | inr f ↦ rw (same_feed c a, f) (one_more m n s c a true (not (in_flow s) || s.key_allowed) (past_break s.position) (line_position c a s.position (rw (breaks, f) refl)) fills
            (λ separation rest cut ends. grind (arith, or-true)) (keeps true (not (in_flow s) || s.key_allowed)) ih)
      ]

-- ---- to the next token

-- A TAB left of the innermost level has more blanks after it, and then a token; or such a TAB stood before, and these stand here.
data Left (m : Gap) (s : Held) (a : List ℕ) : Fault → Type 0 where
  later : (before blanks rest : List ℕ) → a ≡ before ++ 9 ∷ (blanks ++ rest) → is_separation (is_comment m) before (9 ∷ (blanks ++ rest)) ≡ true → is_left s (position_after s.position before (9 ∷ (blanks ++ rest))) ≡ true
      → is_blanks blanks ≡ true → begins_token rest ≡ true → Left m s a (At TabInBlockIndentation (position_after s.position (before ++ 9 ∷ blanks) rest))
  here : (blanks rest : List ℕ) → is_tab_line m ≡ true → a ≡ blanks ++ rest → is_blanks blanks ≡ true → begins_token rest ≡ true → Left m s a (At TabInBlockIndentation (position_after s.position blanks rest))

abbrev Skips : Gap → Held → List ℕ → Result ScannerState Fault → Type 0
Skips m s a x = Walks is_comment begins_separation no_break_at skip Left m s a x

abbrev Passed : List ℕ → Type 0
Passed a = WalksOn is_comment begins_separation no_break_at skip Left a

still_left : (m n : Gap) (s : Held) (c : ℕ) (a : List ℕ) (b k : Bool) → Fills is_comment begins_separation no_break_at skip Left m n c
    → ((blanks rest : List ℕ) → is_tab_line n ≡ true → a ≡ blanks ++ rest → is_blanks blanks ≡ true → begins_token rest ≡ true → Left m s (c ∷ a) (At TabInBlockIndentation (position_after (position_past s.position c a) blanks rest)))
    → Keeps is_comment begins_separation no_break_at skip Left m n s c a b k
still_left m n s c a b k fills lines f (here blanks rest line cut are token) = lines blanks rest line cut are token
still_left m n s c a b k fills lines f (later before blanks rest cut is left are token) =
    let there : is_left s (position_after (position_past s.position c (before ++ 9 ∷ (blanks ++ rest))) before (9 ∷ (blanks ++ rest))) ≡ true = rw cut at left in
    subst (λ r. Left m s (c ∷ a) (At TabInBlockIndentation (position_after (position_past s.position c r) (before ++ 9 ∷ blanks) rest))) (append_assoc before (9 ∷ blanks) rest ∙ sym cut)
    (later (c ∷ before) blanks rest (ap (λ r. c ∷ r) cut) (fills before (9 ∷ (blanks ++ rest)) is) there are token)

step : (m n : Gap) (s : Held) (c : ℕ) (a : List ℕ) (b : Bool) → is_break c ≡ false → Fills is_comment begins_separation no_break_at skip Left m n c
    → ((blanks rest : List ℕ) → is_tab_line n ≡ true → a ≡ blanks ++ rest → is_blanks blanks ≡ true → begins_token rest ≡ true → Left m s (c ∷ a) (At TabInBlockIndentation (position_after (position_past s.position c a) blanks rest)))
    → Passed a → Skips m s (c ∷ a) (skip n a (at s (past s.position) b s.key_allowed))
step m n s c a b e fills lines ih = on_line is_comment begins_separation no_break_at skip Left m n s c a b e fills (still_left m n s c a b s.key_allowed fills lines) ih

-- what stands next, where it is no break
data Kind (c : ℕ) : Type 0 where
  blank : is_blank c ≡ true → Kind c
  hash : is_blank c ≡ false → (c == 35) ≡ true → Kind c
  token : is_blank c ≡ false → (c == 35) ≡ false → Kind c

kind : (c : ℕ) → Kind c
kind c = grind (arith, blank, hash, token)

no_separation : (c : ℕ) → is_break c ≡ false → is_blank c ≡ false → (c == 35) ≡ false → (is_white c || (c == 35)) ≡ false
no_separation c e f g = grind (arith, same_blank, same_break)

-- after a TAB left of the innermost level
tab_fails : (s : Held) (c : ℕ) (a blanks rest : List ℕ) → (c == 9) ≡ true → is_before_indent s ≡ true → a ≡ blanks ++ rest → is_blanks blanks ≡ true → begins_token rest ≡ true
    → Left between s (c ∷ a) (At TabInBlockIndentation (position_after (position_past s.position c a) blanks rest))
unfolding is_before_indent
tab_fails s c a blanks rest tab left cut are ends = rw (eqb-true c 9 tab, cut) (later [] blanks rest refl refl (grind arith) are ends)

in_gap : (s : Held) (c : ℕ) (a : List ℕ) → is_break c ≡ false → Passed a → Kind c → Skips between s (c ∷ a) (skip between (c ∷ a) s)
unfolding skip is_blank
in_gap s c a e ih k = elim (cases_Bool ((c == 9) && is_before_indent s)) [
  | inl f ↦
      let q = and_parts (c == 9) (is_before_indent s) f in
      rw (e, f) (step between tab_line s c a s.leading e (λ separation rest h. fills_blank c separation rest (grind arith) h) (λ blanks rest line cut are ends. tab_fails s c a blanks rest q.0 q.1 cut are ends) ih)
  | inr f ↦ elim k [
    | blank g ↦ rw (e, f, g) (step between between s c a s.leading e (λ separation rest h. fills_blank c separation rest g h) (λ blanks rest no. cc) ih)
    | hash g h ↦ rw (e, f, g, h) (step between comment s c a false e (λ separation rest k. fills_hash c separation rest h k) (λ blanks rest no. cc) ih)
    | token g h ↦ gone s.leading [] (c ∷ a) refl refl (no_separation c e g h) (rw (e, f, g, h) (stayed s (c ∷ a)))
  ]
]

in_tab_line : (s : Held) (c : ℕ) (a : List ℕ) → is_break c ≡ false → Passed a → Kind c → Skips tab_line s (c ∷ a) (skip tab_line (c ∷ a) s)
unfolding skip
in_tab_line s c a e ih (blank g) =
    rw (e, g) (step tab_line tab_line s c a s.leading e (λ separation rest h. fills_blank c separation rest g h) (λ blanks rest line cut are ends. rw cut (here (c ∷ blanks) rest refl refl (rw (same_blank c, g) are) ends)) ih)
in_tab_line s c a e ih (hash g h) = rw (e, g, h) (step tab_line comment s c a s.leading e (λ separation rest k. fills_hash c separation rest h k) (λ blanks rest no. cc) ih)
in_tab_line s c a e ih (token g h) = failed _ (here [] (c ∷ a) refl refl refl (rw (no_separation c e g h) refl)) (rw (e, g, h) refl)

skipped : (a : List ℕ) → Passed a
unfolding skip
skipped [] m s = gone s.leading [] [] refl (or_true (not (is_comment m))) refl (stayed s [])
skipped (c ∷ a) m s = elim (cases_Bool (is_break c)) [
  | inl e ↦ rw e (broken is_comment begins_separation no_break_at skip Left m between s c a e refl (λ b k. still_left m between s c a b k (λ separation rest h. fills_break (is_comment m) c separation rest e h) (λ blanks rest no. cc)) (skipped a))
  | inr e ↦ elim m as (λ n. Skips n s (c ∷ a) (skip n (c ∷ a) s)) [
    | between ↦ in_gap s c a e (skipped a) (kind c)
    | comment ↦ rw e (step comment comment s c a s.leading e (λ separation rest h. fills_comment c separation rest e h) (λ blanks rest no. cc) (skipped a))
    | tab_line ↦ in_tab_line s c a e (skipped a) (kind c)
  ]
]

pub separations_are_passed : SeparationsArePassed
separations_are_passed s text = elim (skipped text between s) [
  | gone leading separation rest cut is ends e ↦ reads (after_separation s leading separation rest) (record { is_leading = leading; separation = separation; cut = cut; is_filled = is; solid = ends; is_state = refl }) e
  | failed f (later before blanks rest cut is left are solid) e ↦ refuses _ (tab_left before blanks rest cut is left are solid) e
  | failed f (here blanks rest line cut are solid) e ↦ cc
]
