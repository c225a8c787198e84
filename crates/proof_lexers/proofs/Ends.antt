-- What the end of a scan tells of its result.
use Rattle.proof_lexers.proofs.Common.{EndsAs, Err, Fault, Ok, reads, refuses, Result, subst, ◌≡◌}

-- what was read is what may be read
pub read_as : {A : Type 0} {Reads : A → Type 0} {Refuses : Fault → Type 0} {x : Result A Fault} {r : A} → x ≡ Ok r → EndsAs Reads Refuses x → Reads r
read_as {Reads = Reads} {r = r} e (reads q is k) = let same : q ≡ r = cc (e, k) in subst Reads same is
read_as e (refuses f why k) = absurd (cc (e, k))

-- a fault has its reason
pub refused_as : {A : Type 0} {Reads : A → Type 0} {Refuses : Fault → Type 0} {x : Result A Fault} {f : Fault} → x ≡ Err f → EndsAs Reads Refuses x → Refuses f
refused_as e (reads r is k) = absurd (cc (e, k))
refused_as {Refuses = Refuses} {f = f} e (refuses g why k) = let same : g ≡ f = cc (e, k) in subst Refuses same why

-- the same end, told of another text
pub ends_also : {A : Type 0} {R S : A → Type 0} {F G : Fault → Type 0} {x : Result A Fault} → ((r : A) → R r → S r) → ((f : Fault) → F f → G f) → EndsAs R F x → EndsAs S G x
ends_also h g (reads r is e) = reads r (h r is) e
ends_also h g (refuses f why e) = refuses f (g f why) e
