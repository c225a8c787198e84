-- Accounts that are alike but for keys that wait, and what a step makes of two like things.
use Rattle.proof_row.proofs.Common.{[], Bool, Entry, filled, free, fresh, Had, if◌then◌else◌, Line, List, None, Option, refl, settled, Some, taken, waits, ◌++◌, ◌∷◌, ◌≡◌, arith}
use Rattle.defs_token.specs.FlowEntry.{Had.waits as had_waits}
use Rattle.defs_token.specs.RowAccount.{Account}

-- ---- the relation

-- a line that is taken may have a key that waits
abbrev pub LikeLine : Line → Line → Type 0
LikeLine free free = Unit {0}
LikeLine taken taken = Unit {0}
LikeLine taken (waits p) = Unit {0}
LikeLine (waits p) taken = Unit {0}
LikeLine (waits p) (waits q) = p ≡ q
LikeLine _ _ = ⊥

-- an entry that has had a node may have a key there that waits
abbrev pub LikeHad : Had → Had → Type 0
LikeHad fresh fresh = Unit {0}
LikeHad filled filled = Unit {0}
LikeHad filled (had_waits p) = Unit {0}
LikeHad (had_waits p) filled = Unit {0}
LikeHad (had_waits p) (had_waits q) = p ≡ q
LikeHad settled settled = Unit {0}
LikeHad _ _ = ⊥

abbrev pub LikeEntry : Entry → Entry → Type 0
LikeEntry d e = (d.kind ≡ e.kind) × (d.pair ≡ e.pair) × LikeHad d.had e.had

abbrev pub LikeEntries : List Entry → List Entry → Type 0
LikeEntries [] [] = Unit {0}
LikeEntries (d ∷ ds) (e ∷ es) = LikeEntry d e × LikeEntries ds es
LikeEntries _ _ = ⊥

-- The relation that carries the proof: all is equal but for keys that wait.
abbrev pub IsLike : Account → Account → Type 0
IsLike a b = (a.site ≡ b.site) × LikeLine a.line b.line × LikeEntries a.entries b.entries

-- ---- what a step makes of two like things

-- What holds of what comes of two like things by a step: it is like again, and where it is equal, so were they, and more.
abbrev pub Stepped : {A : Type 0} → (Like : A → A → Type 0) → (Were : Type 0) → Option A → Option A → Type 0
Stepped Like Were (Some x) (Some y) = Like x y × (x ≡ y → Were)
Stepped Like Were (Some x) None = Unit {0}
Stepped Like Were None y = Unit {0}

-- what follows from a step follows also where more is said of what was before
pub weaker : {A : Type 0} → (Like : A → A → Type 0) (P Q : Type 0) (x y : Option A) → (P → Q) → Stepped Like P x y → Stepped Like Q x y
weaker a b d e y f s = grind arith

-- a step that both make, or neither
pub where_both : {A : Type 0} → (Like : A → A → Type 0) (Were : Type 0) (n : Bool) (x y : Option A) → Stepped Like Were x y →
    Stepped Like Were (if n then x else None) (if n then y else None)
where_both a b d x y s = grind arith

-- ---- lists of entries

pub tails : (d e : Entry) (ds es : List Entry) → d ∷ ds ≡ e ∷ es → (d ≡ e) × (ds ≡ es)
tails d e ds es h = grind arith

pub both : (d e : Entry) (ds es : List Entry) → d ≡ e → ds ≡ es → d ∷ ds ≡ e ∷ es
both d e ds es h k = cc (h, k)

-- the same entries before like ones
pub like_after : (begun ds es : List Entry) → LikeEntries ds es → LikeEntries (begun ++ ds) (begun ++ es)
like_after [] ds es i = i
like_after (b ∷ begun) ds es i = ((refl, refl, grind arith), like_after begun ds es i)

pub same_after : (begun ds es : List Entry) → begun ++ ds ≡ begun ++ es → ds ≡ es
same_after [] ds es h = h
same_after (b ∷ begun) ds es h = same_after begun ds es (tails b b (begun ++ ds) (begun ++ es) h).1

pub same_entry : (d e : Entry) → d.kind ≡ e.kind → d.pair ≡ e.pair → d.had ≡ e.had → d ≡ e
same_entry d e k p h = grind arith
