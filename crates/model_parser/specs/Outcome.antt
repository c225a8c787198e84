-- What an outcome of a table's machine says of the tokens.
use Rattle.std.specs.Prelude.{◌≡◌, List, ◌∷◌, ◌++◌}
use Rattle.defs_event.specs.Table.{Table, Work, Derives}
use Rattle.model_parser.specs.Machine.{Outcome, reads, unfinished, stops}

-- This work reads these tokens and some after them, and says these events and some after them.
abbrev pub Begins : {G T E H : Type 0} → Table G T E H → List (Work G E H) → List T → List E → Type 0
Begins {T = T} {E = E} a w ts es = (us : List T) × (fs : List E) × Derives a w (ts ++ us) (es ++ fs)

-- This work reads no tokens that begin with these and that one.
abbrev pub NeverGoesOn : {G T E H : Type 0} → Table G T E H → List (Work G E H) → List T → T → Type 0
NeverGoesOn {T = T} {E = E} a w ts t = (us : List T) (es : List E) → Derives a w (ts ++ (t ∷ us)) es → ⊥

-- The unread tokens begin with the first token after which the work never goes on. Before it, the work begins with the tokens and
-- with the events that were said.
pub record StopsRight {G T E H : Type 0} (a : Table G T E H) (w : List (Work G E H)) (ts : List T) (es : List E) (unread : List T) : Type 0 where
  pub seen : List T
  pub bad : T
  pub after : List T
  pub is_unread : unread ≡ bad ∷ after
  pub are_all : ts ≡ seen ++ unread
  pub begins : Begins a w seen es
  pub never : NeverGoesOn a w seen bad

-- What the outcome says is so.
abbrev pub IsRight : {G T E H : Type 0} → Table G T E H → List (Work G E H) → List T → Outcome T E → Type 0
IsRight a w ts (reads es) = Derives a w ts es
IsRight {E = E} a w ts (unfinished es) = Begins a w ts es × ((fs : List E) → Derives a w ts fs → ⊥)
IsRight a w ts (stops es unread) = StopsRight a w ts es unread
