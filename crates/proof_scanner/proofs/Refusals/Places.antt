-- Where a piece begins, a row of the text may begin with all pieces before it; or a node which must be an implicit key waits there, and its line has ended.
use Rattle.proof_scanner.proofs.Common.{Begins, IsCarriedOn, position_after, ◌≤◌, [], Account, ap, AreEntries, arith, Arrives, At, begins_document_at, Bool, chosen, columns, entries_by, Entry, Err, fails, FailsFirst, false, Fault, FlowLevel, followed_first, gives_node, has_open_level, HasRow, if◌then◌else◌, in_flow, is_empty, is_full, is_in_flow, is_taken, is_told, IsFollowed, IsLookedAt, IsNear, IsPlace, IsStuck, Key, key_waits, least_here, length, List, MayChoose, nat_lt, nat_tests, no_piece, no_piece_first, None, NoPiece, not, Ok, Option, or_left, or_right, OutOfMemory, outside_key, Position, Problem, refl, Row, ScannerState, site_at_place, site_in, Some, subst, sym, true, ℕ, ◌-◌, ◌<◌, ◌∙◌, ◌≡◌, is_shown, IsThere, eqb-true, cases_Bool, inl, inr, go_on, Held, lexed, Read, Result, with_held, ◌>>=◌, begins_separation, begins_white_space, begins_with, begins_with_space_or_break, ends_spaces, glued, HasNoWhiteSpace, HasPassed, Holds, is_at_gap, is_blank, is_blank_or_end, is_break, is_breakz, is_nul, is_separation, peek, refused_as, skip_spaces, skip_yaml_whitespace, SkipTabs, space, spaces_are_passed, white_space_is_passed, Yes, ◌++◌, ◌∷◌, CommentNotSeparated, EndsAs}
use Rattle.proof_scanner.proofs.Sound.Common.{same_flow, IsDeep, many_around}
use Rattle.proof_scanner.specs.Failing.{followed}
use Rattle.proof_scanner.proofs.Sound.WhiteSpaces.{white_of, past_white, past_white_space, white_exactly}
use Rattle.proof_scanner.proofs.Cut.Faults.Shown as shown
use Rattle.model_scanner.proofs.Holds as holds
use Rattle.yaml_chars.specs.Class as model_classes
use Rattle.proof_lexers.specs.PlainEnds as ends

-- ---- what holds of the fault of a step, if it has one: rules for the forms that the model's functions are made of

-- F holds of the fault, if there is one
pub data Faults (F : Fault → Type 0) {A : Type 0} : Result A Fault → Type 0 where
  fault : {f : Fault} → F f → Faults F (Err f)
  goes : {x : A} → Faults F (Ok x)

pub fault_is : {F : Fault → Type 0} {A : Type 0} {r : Result A Fault} (f : Fault) → Faults F r → r ≡ Err f → F f
fault_is {F = F} f (fault {f = g} p) e = let same : g ≡ f = cc e in subst F same p
fault_is f goes e = absurd (cc)

pub in_turn : {F : Fault → Type 0} {A B : Type 0} {r : Result A Fault} {k : A → Result B Fault} → Faults F r → ((x : A) → r ≡ Ok x → Faults F (k x)) → Faults F (r >>= k)
in_turn (fault p) h = fault p
in_turn goes h = h _ refl

-- where something holds of what a step leaves
pub knowing : {F : Fault → Type 0} {A B : Type 0} {P : A → Type 0} {r : Result A Fault} {k : A → Result B Fault} → holds.Holds P r → Faults F r → ((x : A) → P x → Faults F (k x)) → Faults F (r >>= k)
knowing (holds.went p) goes h = h _ p
knowing holds.refused (fault q) h = fault q

-- where what it leaves is known
pub known_turn : {F : Fault → Type 0} {A B C : Type 0} {x : A} {r : Result A Fault} (k : A → Result B Fault) → holds.Holds (λ u. (u ≡ x) × C) r → Faults F r → (C → Faults F (k x)) → Faults F (r >>= k)
known_turn {F = F} k h f g = knowing h f (λ u d. rw d.0 (g d.1))

-- of a step that may only refuse as the one before it
pub kept : {F : Fault → Type 0} {A B : Type 0} {r : Result A Fault} (f : Result A Fault → Result B Fault) → ((e : Fault) → f (Err e) ≡ Err e) → ((x : A) → Faults F (f (Ok x))) → Faults F r → Faults F (f r)
kept {F = F} f on go (fault {f = e} p) = subst (Faults F) (sym (on e)) (fault p)
kept f on go (goes {x = x}) = go x

pub tried : {F : Fault → Type 0} (t : ScannerState) {r : Result Held Fault} → Faults F r → Faults F (with_held t r)
tried t (fault p) = fault p
tried t goes = goes

pub read : {F : Fault → Type 0} {A : Type 0} (h : Held) (r : Result (Read A) Fault) (go : A → ScannerState → Result ScannerState Fault) → ((f : Fault) → r ≡ Err f → F f) → ((x : Read A) → r ≡ Ok x → Faults F (go x.value (go_on x h))) → Faults F (lexed r h go)
read h (Ok x) go n f = f x refl
read h (Err e) go n f = fault (n e refl)

pub checked : {F : Fault → Type 0} {A : Type 0} {r : Result A Fault} (b : Bool) (f : Fault) → (b ≡ true → F f) → (b ≡ false → Faults F r) → Faults F (if b then Err f else r)
checked true f p h = fault (p refl)
checked false f p h = h refl

pub either : {F : Fault → Type 0} {A : Type 0} {r q : Result A Fault} (b : Bool) → (b ≡ true → Faults F r) → (b ≡ false → Faults F q) → Faults F (if b then r else q)
either a h g = grind (arith, nat_tests, eqb-true)

pub mapped : {F G : Fault → Type 0} {A : Type 0} {r : Result A Fault} → ((f : Fault) → F f → G f) → Faults F r → Faults G r
mapped h (fault p) = fault (h _ p)
mapped h goes = goes

-- A place where the choice of keys is allowed, or a key that must be one and began on an earlier line.
pub data Where (k : Option Key) (p : Position) (rest : List ℕ) : Type 0 where
  placed : (c : Bool) → MayChoose true c k p rest → Where k p rest
  behind : (x : Key) → k ≡ Some x → x.required ≡ true → x.position.line < p.line → Where k p rest

pub where_is : (k : Option Key) (p : Position) (rest : List ℕ) → is_empty rest ≡ false → Where k p rest
where_is None p rest some = placed false tt
where_is (Some k) p rest some = elim (cases_Bool k.required) [
  | inl e ↦ elim (cases_Bool (nat_lt k.position.line p.line)) [ inl l ↦ behind k refl e (grind (arith, nat_tests, l)) | inr l ↦ placed true (grind (arith, nat_tests, l), some) ]
  | inr e ↦ placed false e
]

-- a text without a row
abbrev pub IsRowless : List ℕ → Type 0
IsRowless text = (r : Row) → HasRow text r → ⊥

-- What a fault says of the text is asked for a kind that is told, and of a text that has a row.
pub data Asked (text : List ℕ) (why : Problem) : Type 0 where
  kind : is_told why ≡ true → Asked text why
  with_row : (r : Row) → HasRow text r → Asked text why

-- The text is stuck by it; and if it is one that stands in the text by itself, it stands there.
pub record IsWhy (text : List ℕ) (why : Problem) (at : Position) : Type 0 where
  pub is_stuck : IsStuck text why at
  pub stands : is_shown (At why at) ≡ true → IsThere text (At why at)

-- what is to be said of a fault
abbrev pub Told : (text : List ℕ) → Fault → Type 0
Told text OutOfMemory = ⊥
Told text (At why at) = Asked text why → IsWhy text why at

-- a check whose fault is of a kind that is not told: where it fails the text has no row
pub rowless_told : (text : List ℕ) {A : Type 0} (b : Bool) (why : Problem) (p : Position) (x : A) → is_told why ≡ false → (b ≡ true → IsRowless text) → Faults (Told text) (if b then Err (At why p) else Ok x)
rowless_told text a why p x e rowless = grind (arith, nat_tests, fault, eqb-true, goes)

-- as many flow levels as entries
pub many_levels : (allowed again : Bool) (fs : List FlowLevel) (ks : List (Option Key)) (es : List Entry) → AreEntries allowed again fs ks es → length fs ≡ length es
many_levels allowed again a ks es h = grind (arith, many_around)

pub entries_alike : (cs : List Bool) (ks : List (Option Key)) (es : List Entry) → is_empty (entries_by cs ks es) ≡ is_empty es
entries_alike cs ks a = grind arith

-- What fails, whatever is chosen for the open keys, where a separation ends that was read to the scanner's position and on, is what the text is stuck by.
pub stuck_at : (text : List ℕ) (again : Bool) (t : ScannerState) (base : Account) (cs : List Bool) (separation rest : List ℕ) (why : Problem) (here at : Position) → here ≡ position_after base.site.position separation rest → (let k : Option Key = outside_key base.entries t.held.keys in
    ((c : Bool) → MayChoose true c k t.held.position t.rest → Begins text (separation ++ rest) (chosen c cs t.held.keys base)) → IsCarriedOn text (separation ++ rest) t.rest t.held.keys base → AreEntries t.held.key_allowed again t.held.flow t.held.keys base.entries
    → (is_empty t.held.flow ≡ true → (x : Key) → k ≡ Some x → x.position.line < t.held.position.line → ⊥)
    → is_empty t.rest ≡ false → is_separation false separation rest ≡ true → is_empty rest ≡ false → begins_separation rest ≡ false → t.held.position.line ≤ here.line
    → ((c : Bool) → (is_empty t.held.flow ≡ true → MayChoose true c k t.held.position t.rest) → FailsFirst (chosen c cs t.held.keys base) separation here rest why at) → (c : Bool) × FailsFirst (chosen c cs t.held.keys base) separation here rest why at × IsStuck text why at)
stuck_at text again t base cs separation rest why here at is_here begins carries are near some filled goes_on solid later h = elim (where_is (outside_key base.entries t.held.keys) t.held.position t.rest some) [
  | placed c may ↦ let f = h c (λ _. may) in (c, f, fails (chosen c cs t.held.keys base) separation rest why here at (record { begins = begins c may; is_filled = filled; is_here = is_here }) goes_on solid f)
  | behind x e must late ↦ elim (cases_Bool (is_empty t.held.flow)) [
    | inl o ↦ absurd (near o x e late)
    | inr i ↦
        let f = h false (λ o. absurd (cc (o, i))) in
        let entries : is_empty base.entries ≡ false = sym (same_flow t.held.key_allowed _ t.held.flow t.held.keys base.entries are) ∙ i in
        (false, f, key_waits (chosen false cs t.held.keys base) separation rest why x.position here at (carries cs x e must entries some) (ap not (entries_alike cs t.held.keys base.entries ∙ entries)) filled is_here (omega (arith, late, later)) goes_on solid f)
  ]
]

-- what comes lies deep enough, unless it is a line for the document
abbrev pub LiesDeep : ScannerState → Type 0
LiesDeep t = begins_document_at t.held.position t.rest ≡ false → IsDeep t.held

module _ {text : List ℕ} {t : ScannerState} (a : Arrives text t) (some : is_empty t.rest ≡ false) where
  -- the account after the last piece by a choice of keys
  abbrev pub account_by : (c : Bool) (cs : List Bool) → Account
  account_by c cs = chosen c cs t.held.keys a.base

  -- it is in flow where the scanner is
  pub in_flow_is : (c : Bool) (cs : List Bool) → is_in_flow (account_by c cs).entries ≡ in_flow t.held
  in_flow_is c cs = ap not (entries_alike cs t.held.keys a.base.entries ∙ sym (same_flow t.held.key_allowed _ t.held.flow t.held.keys a.base.entries a.are_entries))

  pub place : (c : Bool) (cs : List Bool) → MayChoose true c (outside_key a.base.entries t.held.keys) t.held.position t.rest → IsPlace text (account_by c cs) a.separation t.rest t.held.position
  place c cs may = record { begins = (a.completes true c cs may).0; is_filled = a.is_filled; is_here = a.position_is }

  -- Outside flow a choice of keys is one that is allowed.
  abbrev pub IsAllowed : Bool → Type 0
  IsAllowed c = is_empty t.held.flow ≡ true → MayChoose true c (outside_key a.base.entries t.held.keys) t.held.position t.rest

  -- What fails here, whatever is chosen, is what the text is stuck by.
  pub stuck : (cs : List Bool) (why : Problem) (at : Position) → ((c : Bool) → IsAllowed c → FailsFirst (account_by c cs) a.separation t.held.position t.rest why at) → IsWhy text why at
  stuck cs why at h =
      let near : is_empty t.held.flow ≡ true → (x : Key) → outside_key a.base.entries t.held.keys ≡ Some x → x.position.line < t.held.position.line → ⊥ = λ o x e late. let n : IsNear (Some x) t.held.position = subst (λ k. IsNear k t.held.position) e (a.is_near o) in absurd (omega (arith, n.0, late)) in
      let r = stuck_at text _ t a.base cs a.separation t.rest why t.held.position at a.position_is (λ c may. (a.completes true c cs may).0) a.carries a.are_entries near some a.is_filled some a.is_solid (omega arith) h in
      record { is_stuck = r.2; stands = shown.stands text t a r.0 cs why at r.1.fails }

  -- the block collections and what is awaited at a place
  pub blocks_by : (c : Bool) (cs : List Bool) → (site_at_place (account_by c cs) t.held.position).blocks ≡ columns t.held.indent t.held.indents
  blocks_by c cs = ap (λ b. (site_in b gives_node t.held.position a.base.site).blocks) (in_flow_is c cs) ∙ a.blocks_are

  pub awaits_by : (c : Bool) (cs : List Bool) → (site_at_place (account_by c cs) t.held.position).awaits ≡ has_open_level t.held.indents
  awaits_by c cs = ap (λ b. (site_in b gives_node t.held.position a.base.site).awaits) (in_flow_is c cs) ∙ a.awaits_is

  -- the least column there
  pub least_by : (c : Bool) (cs : List Bool) → least_here (account_by c cs) t.held.position ≡ t.held.indent - 1
  least_by c cs = grind arith

  -- What fails by what is so of the place in the scanner's words is what the text is stuck by.
  pub stuck_by : (why : Problem) (at : Position) (F : Bool → List ℕ → ℕ → Type 0) → F (in_flow t.held) (columns t.held.indent t.held.indents) (t.held.indent - 1)
      → ((c : Bool) → IsAllowed c → F (is_in_flow (account_by c []).entries) (site_at_place (account_by c []) t.held.position).blocks (least_here (account_by c []) t.held.position)
      → FailsFirst (account_by c []) a.separation t.held.position t.rest why at) → IsWhy text why at
  stuck_by why at F x first = stuck [] why at (λ c may. first c may (rw (least_by c [], blocks_by c [], in_flow_is c []) x))

  module _ (deep : LiesDeep t) where
    -- a piece is looked at here, whatever is chosen
    pub looked_at : (c : Bool) (cs : List Bool) → IsLookedAt (account_by c cs) a.separation t.held.position t.rest
    looked_at c cs = grind (arith, nat_tests, least_by, or_left, or_right, eqb-true)

    -- where no piece begins the text is stuck
    pub none_begins : (why : Problem) (at : Position) (n : NoPiece (in_flow t.held) t.held.position t.rest why at) → no_piece_first (in_flow t.held) (t.held.indent - 1) t.held.position t.rest why at n → IsWhy text why at
    none_begins why at n first = stuck_by why at (λ b bs k. (x : NoPiece b t.held.position t.rest why at) × no_piece_first b k t.held.position t.rest why at x) (n, first) (λ c may m. record { fails = no_piece m.0; is_first = (looked_at c [], m.1) })

    -- what follows the piece that begins here is what the text is stuck by
    pub followed_stuck : (why : Problem) (at : Position) (x : IsFollowed (in_flow t.held) t.held.position t.rest why at)
        → ((c : Bool) → IsAllowed c → followed_first (in_flow t.held) (t.held.indent - 1) (is_taken (account_by c []) a.separation) (is_full (account_by c [])) t.held.position t.rest why at x) → IsWhy text why at
    followed_stuck why at x first =
        stuck_by why at (λ b bs k. (y : IsFollowed b t.held.position t.rest why at) × ((c : Bool) → IsAllowed c → followed_first b k (is_taken (account_by c []) a.separation) (is_full (account_by c [])) t.held.position t.rest why at y)) (x, first)
        (λ c may m. record { fails = followed m.0; is_first = (looked_at c [], m.1 c may) })

-- ---- faults of what is passed between pieces

-- over blanks and a comment in a line; what is to be said of a comment that no blank parts from what stands before it
pub space_told : (text : List ℕ) (tabs : SkipTabs) (more : List ℕ) (p : Position) → (begins_with 35 more ≡ true → Told text (At CommentNotSeparated p)) → (f : Fault) → space tabs more p ≡ Err f → Told text f
space_told text tabs more p why f k = elim (refused_as k (spaces_are_passed tabs more p)) as (λ g w. Told text g) [ glued begins ↦ why begins ]

pub spaces_told : (text : List ℕ) (tabs : SkipTabs) (t : ScannerState) → (begins_with 35 t.rest ≡ true → Told text (At CommentNotSeparated t.held.position)) → Faults (Told text) (skip_spaces tabs t)
unfolding skip_spaces
spaces_told text tabs t why = read t.held (space tabs t.rest t.held.position) _ (λ f k. space_told text tabs t.rest t.held.position why f k) (λ x k. goes)

-- no comment stands at a gap
pub no_comment : (r : List ℕ) → is_at_gap r ≡ true → begins_with 35 r ≡ false
unfolding is_blank_or_end is_blank is_break is_nul
no_comment a h = grind arith

-- none stands where blanks were passed
pub no_comment_left : (tabs : SkipTabs) (r : List ℕ) → ends_spaces tabs r ≡ true → begins_with 35 r ≡ false
no_comment_left a b h = grind arith

-- and no separation, where the line goes on
pub solid_past : (r : List ℕ) → ends_spaces Yes r ≡ true → is_breakz (peek r) ≡ false → begins_separation r ≡ false
unfolding is_blank is_break model_classes.is_break
solid_past a h n = grind arith

-- a space or a break stands first, so spaces, breaks and comments are read
pub white_goes : (t : ScannerState) → begins_with_space_or_break t.rest ≡ true → skip_yaml_whitespace t ≡ Ok (past_white_space t)
unfolding skip_yaml_whitespace
white_goes t h =
    let by : (x : Result ScannerState Fault) → EndsAs (HasPassed begins_white_space t.held t.rest) (HasNoWhiteSpace t.held t.rest) x → Holds (λ u. (u ≡ past_white_space t) × (is_separation false (white_of false t.rest) (past_white false t.rest) ≡ true)) x → x ≡ Ok (past_white_space t) = λ x a k. grind (arith, first, h) in
    by (skip_yaml_whitespace t) (white_space_is_passed t.held t.rest) (white_exactly t)
  where
    first : (text separation rest : List ℕ) → begins_with_space_or_break text ≡ true → text ≡ separation ++ rest → begins_with 32 text ≡ false → ends.has_break separation ≡ false → begins_white_space rest ≡ false → ⊥
    first [] separation rest h e f g i = absurd (cc h)
    first (c ∷ r) [] rest h e f g i = grind arith
    first (c ∷ r) (d ∷ separation) rest h e f g i = grind arith
