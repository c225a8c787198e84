-- Machines that read a text character by character, and what lexing functions leave. A turn sees the text after its character too.
use Rattle.std.specs.Prelude.{ℕ, ◌+◌, List, [], ◌∷◌, ◌==◌, ◌&&◌, ◌||◌, ◌++◌, Bool, true, not, if◌then◌else◌, Option, Some, None, Result, Ok, Err, slice_index}
use Rattle.defs_text.specs.Position.{Position}
use Rattle.yaml_chars.specs.Class.{is_blank_or_breakz}

-- what a turn does: it stops before its character, fails, or goes on after it
pub data Turn (S F : Type 0) : Type 0 where
  stop : S → Turn S F
  fail : F → Turn S F
  on : S → Turn S F

-- where a machine stopped, and the text from there on
pub record Stop (S : Type 0) : Type 0 where
  pub rest : List ℕ
  pub state : S

-- the rest of a run after a turn
abbrev pub turned : {S F : Type 0} → Turn S F → List ℕ → (S → Result (Stop S) F) → Result (Stop S) F
turned (stop s) a go = Ok (record { rest = a; state = s })
turned (fail f) a go = Err f
turned (on s) a go = go s

-- a run over a text, turn by turn
abbrev pub run : {S F : Type 0} → (S → ℕ → List ℕ → Turn S F) → List ℕ → S → Result (Stop S) F
run turn [] s = Ok (record { rest = []; state = s })
run turn (c ∷ a) s = turned (turn s c a) (c ∷ a) (λ t. run turn a t)

abbrev pub went : {S : Type 0} → Option S → List ℕ → S → (S → Stop S) → Stop S
went None a s go = record { rest = a; state = s }
went (Some t) a s go = go t

-- a run that cannot fail: it goes on as long as there is a next state
abbrev pub walk : {S : Type 0} → (S → ℕ → List ℕ → Option S) → List ℕ → S → Stop S
walk step [] s = record { rest = []; state = s }
walk step (c ∷ a) s = went (step s c a) (c ∷ a) s (λ t. walk step a t)

-- what a lexing function leaves: the text from there on, where it stands, and what was read
pub record Read (A : Type 0) : Type 0 where
  pub rest : List ℕ
  pub position : Position
  pub value : A

-- the position after a character of a line
abbrev pub past : Position → Position
past p = record { index = p.index + 1; line = p.line; col = p.col + 1 }

-- the position after a line break's last character
abbrev pub past_break : Position → Position
past_break p = record { index = p.index + 1; line = p.line + 1; col = 0 }

-- after the characters of a kind
abbrev pub skip_while : (ℕ → Bool) → List ℕ → Position → Read (Unit {0})
skip_while test [] p = record { rest = []; position = p; value = tt }
skip_while test (c ∷ a) p = (if test c then skip_while test a (past p) else record { rest = c ∷ a; position = p; value = tt })

-- the characters of a kind, after a text
abbrev pub take_while : (ℕ → Bool) → List ℕ → Position → List ℕ → Read (List ℕ)
take_while test [] p t = record { rest = []; position = p; value = t }
take_while test (c ∷ a) p t = (if test c then take_while test a (past p) (t ++ c ∷ []) else record { rest = c ∷ a; position = p; value = t })

-- whether no character of a kind stands here
abbrev pub ends_while : (ℕ → Bool) → List ℕ → Bool
ends_while test [] = true
ends_while test (c ∷ a) = not (test c)

-- one lexing function after another
abbrev pub and_then : {A B F : Type 0} → Result A F → (A → Result B F) → Result B F
and_then (Ok x) go = go x
and_then (Err f) go = Err f

-- whether a CR stands here that a LF follows: both are one break
abbrev pub is_cr_lf : ℕ → List ℕ → Bool
is_cr_lf c a = (c == 13) && (slice_index a 0 == 10)

-- whether these four characters are a document marker and what may follow it (YAML 1.2, section 9.1.2)
unfoldable pub is_marker : ℕ → ℕ → ℕ → ℕ → Bool
is_marker c d e f = (((c == 45) && (d == 45) && (e == 45)) || ((c == 46) && (d == 46) && (e == 46))) && is_blank_or_breakz f

-- whether a document marker stands here
unfoldable pub at_marker : ℕ → List ℕ → Bool
at_marker col a = (col == 0) && is_marker (slice_index a 0) (slice_index a 1) (slice_index a 2) (slice_index a 3)
