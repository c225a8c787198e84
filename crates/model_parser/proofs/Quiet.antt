-- What a parser still has to read has no event that is due at a place: that of the end of a single pair is promised nowhere.
use Rattle.model_parser.proofs.Common.{◌&&◌, nothing_held, arith, [], ap, append-nil, before, Bool, false, Goal, grammar, Held, List, Option, Part, past, placed, placed_before, placed_by, Position, position_at, Raw, reading, refl, saying, State, sym, Token, true, work_of, Works, works, ◌++◌, ◌∙◌, ◌∷◌, ◌≡◌}
use Rattle.defs_event.specs.Grammar.{Goal as Read}
use Rattle.model_parser.proofs.Places.{plain_along, plain_work}
use Rattle.model_parser.proofs.Completions.{before_along}

-- What is said is the end of a pair, and what is held passes a test.
abbrev pub is_quiet : (Held → Bool) → Works → Bool
is_quiet f [] = true
is_quiet f (reading g h ∷ w) = f h && is_quiet f w
is_quiet f (saying Raw.pair_end ∷ w) = is_quiet f w
is_quiet f (saying e ∷ w) = false

pub past_quiet : (f : Held → Bool) (ss : List State) → is_quiet f (works ss) ≡ true → is_quiet f (past ss (works ss)) ≡ true
past_quiet f ss q = grind arith

pub works_quiet : (f : Held → Bool) (ss : List State) → f nothing_held ≡ true → is_quiet f (works ss) ≡ true
works_quiet f [] n = refl
works_quiet f (s ∷ ss) n = let q = works_quiet f ss n in let h = past_quiet f ss q in grind arith

-- whatever is held
abbrev pub any_held : Held → Bool
any_held h = true

pub work_quiet : (g : Goal) (ss : List State) → is_quiet any_held (work_of g ss) ≡ true
work_quiet g ss = let q = works_quiet any_held ss refl in let h = past_quiet any_held ss q in grind arith

-- So it is the same wherever its events would stand.
pub quiet_placed : (k : Token) (b : Option Position) (w : Works) → is_quiet any_held w ≡ true → placed_by (position_at k b) w ≡ placed w
quiet_placed k b [] q = refl
quiet_placed k b (x ∷ w) q = let i = quiet_placed k b w in grind arith

pub plain_placed : (f : Raw → Option Position) (w : Works) → plain_work (placed_by f w) ≡ w
plain_placed f w = ap plain_work (sym (append-nil (placed_by f w))) ∙ plain_along f w [] ∙ append-nil w

placed_over : (f : Raw → Option Position) (v w : Works) → placed_by f v ++ placed_by f w ≡ placed_by f (v ++ w)
placed_over f [] w = refl
placed_over f (x ∷ v) w = let i = placed_over f v w in grind arith

-- a row's parts at its token, before other work
pub placed_row : (k : Token) (b : Option Position) (h : Held) (ps : List (Part Read Raw)) (w : Works) → placed_before k b h ps (placed_by (position_at k b) w) ≡ placed_by (position_at k b) (before grammar h k.tok ps w)
placed_row k b h ps w = placed_over (position_at k b) (before grammar h k.tok ps []) w ∙ ap (placed_by (position_at k b)) (before_along grammar h k.tok ps [] w)
