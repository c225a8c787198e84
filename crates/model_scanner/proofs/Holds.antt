-- What holds of what a step leaves, unless it refuses: rules for the forms that the model's functions are made of.
use Rattle.model_scanner.proofs.Common.{Bool, Err, false, Fault, go_on, Held, if◌then◌else◌, lexed, Ok, Read, refl, Result, ScannerState, subst, true, with_held, ◌>>=◌, ◌≡◌}

-- P holds of what is left, unless it is a fault
pub data Holds {A : Type 0} (P : A → Type 0) : Result A Fault → Type 0 where
  went : {x : A} → P x → Holds P (Ok x)
  refused : {f : Fault} → Holds P (Err f)

pub held_of : {A : Type 0} {P : A → Type 0} {r : Result A Fault} (x : A) → Holds P r → r ≡ Ok x → P x
held_of {P = P} x (went {x = y} p) e = let same : y ≡ x = cc e in subst P same p
held_of x refused e = absurd cc

pub chained : {A B : Type 0} {P : A → Type 0} {Q : B → Type 0} {r : Result A Fault} {k : A → Result B Fault} → Holds P r → ((x : A) → P x → Holds Q (k x)) → Holds Q (r >>= k)
chained (went p) f = f _ p
chained refused f = refused

pub tried : {P : Held → Type 0} {Q : ScannerState → Type 0} (t : ScannerState) (r : Result Held Fault) → Holds P r → ((s : Held) → P s → Q (record t { held = s })) → Holds Q (with_held t r)
tried t r (went p) f = went (f _ p)
tried t r refused f = refused

pub checked : {A : Type 0} {P : A → Type 0} {r : Result A Fault} (b : Bool) (f : Fault) → (b ≡ false → Holds P r) → Holds P (if b then Err f else r)
checked true f h = refused
checked false f h = h refl

pub either : {A : Type 0} {P : A → Type 0} {r q : Result A Fault} (b : Bool) → (b ≡ true → Holds P r) → (b ≡ false → Holds P q) → Holds P (if b then r else q)
either true h g = h refl
either false h g = g refl

pub choice : {A : Type 0} {P : A → Type 0} {r q : Result A Fault} (b : Bool) → Holds P r → Holds P q → Holds P (if b then r else q)
choice true h g = h
choice false h g = g

pub passes : {A : Type 0} {P : A → Type 0} {r : Result A Fault} (b : Bool) (f : Fault) → Holds P r → Holds P (if b then Err f else r)
passes true f h = refused
passes false f h = h

pub read : {A : Type 0} {P : ScannerState → Type 0} (h : Held) (r : Result (Read A) Fault) (go : A → ScannerState → Result ScannerState Fault) → ((x : Read A) → r ≡ Ok x → Holds P (go x.value (go_on x h))) → Holds P (lexed r h go)
read h (Ok x) go f = f x refl
read h (Err e) go f = refused

pub weakened : {A : Type 0} {P Q : A → Type 0} {r : Result A Fault} → ((x : A) → P x → Q x) → Holds P r → Holds Q r
weakened f (went p) = went (f _ p)
weakened f refused = refused

pub both_hold : {A : Type 0} {P Q : A → Type 0} {r : Result A Fault} → Holds P r → Holds Q r → Holds (λ x. P x × Q x) r
both_hold {P = P} {Q = Q} (went {x = x} p) h = went (p, held_of {P = Q} x h refl)
both_hold refused h = refused
