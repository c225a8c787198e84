-- What a call of a function is at a malformation, and the steps of each trap.
use Rattle.std.specs.Prelude.{◌≡◌, ℕ, List, [], ◌∷◌, ◌++◌, String}
use Rattle.std.specs.declared.alloc.Global.{Global}
use Rattle.std.specs.declared.ops.ControlFlow.{ControlFlow}
use Rattle.std.specs.declared.ops.ControlFlow.TheVariants.{Continue, Break}
use denote.Ref.{Bor, MutBor}
use Rattle.defs_text.specs.Text.{string_chars}
use Rattle.yaml_encoding.specs.Decoding.{Answer, go_on, break, Steps, Outcome, text, stopped, message_or}
use Rattle.yaml_encoding.specs.declared.trap.YAMLDecodingTrapFn.{YAMLDecodingTrapFn}
use Rattle.yaml_encoding.specs.declared.trap.YAMLDecodingTrap.{YAMLDecodingTrap}
use Rattle.yaml_encoding.specs.declared.trap.YAMLDecodingTrap.TheVariants.{Ignore, Strict, Replace, Call}

-- what a call answers that gave this, and left this text
abbrev pub answer_of : ControlFlow (String Global) (Unit {0}) → String Global → Answer
answer_of (Continue u) s = go_on (string_chars s)
answer_of (Break m) s = break (string_chars m)

-- What a function's contract says of a call, from the form in which proofs see it: arguments, and result with what is left after the `&mut`.
abbrev pub curried : (ℕ × (ℕ × (Bor (List ℕ) × (MutBor (String Global) × Unit {0}))) → ControlFlow (String Global) (Unit {0}) × (MutBor (String Global) × Unit {0}) → Type 0)
    → (bytes ahead : ℕ) → Bor (List ℕ) → MutBor (String Global) → ControlFlow (String Global) (Unit {0}) → MutBor (String Global) → Type 0
curried post n a shown shown_text result left = post (n, (a, (shown, (shown_text, tt)))) (result, (left, tt))

-- Where `post` is what a function's contract says of a call: a call at these numbers, this input and this text so far, and what it answers.
pub record IsStep (post : (bytes ahead : ℕ) → Bor (List ℕ) → MutBor (String Global) → ControlFlow (String Global) (Unit {0}) → MutBor (String Global) → Type 0) (bytes ahead : ℕ) (input text_so_far : List ℕ) (answer : Answer) : Type 0 where
  pub shown : Bor (List ℕ)
  pub shows : shown.now ≡ input
  pub text : MutBor (String Global)
  pub holds : string_chars text.now ≡ text_so_far
  pub left : MutBor (String Global)
  pub result : ControlFlow (String Global) (Unit {0})
  pub called : post bytes ahead shown text result left
  pub answers : answer_of result left.now ≡ answer

-- the steps of a trap, where `called` gives those of a stored function
abbrev pub steps_by : {F : _} {m : _} → (YAMLDecodingTrapFn F m → Steps) → YAMLDecodingTrap F m → Steps
steps_by called Ignore n a input so_far answer = answer ≡ go_on so_far
steps_by called Replace n a input so_far answer = answer ≡ go_on (so_far ++ 0xFFFD ∷ [])
steps_by called Strict n a input so_far answer = answer ≡ break []
steps_by called (Call f) n a input so_far answer = called f n a input so_far answer

-- a step of a trap at a malformation, where the text before it and what it answers are known
abbrev pub Stepped : Steps → (position bytes ahead : ℕ) → (input text_so_far : List ℕ) → Outcome → Type 0
Stepped step position n a input so_far (text cs) = step n a input so_far (go_on cs)
Stepped step position n a input so_far (stopped m) = (said : List ℕ) × step n a input so_far (break said) × (m ≡ message_or said position n input)
