-- Lemmas about what becomes of a malformation.
use Rattle.std.specs.declared.ops.ControlFlow.{ControlFlow}
use Rattle.std.specs.declared.ops.ControlFlow.TheVariants.{Break}
use Rattle.yaml_encoding.proofs.Common.{[], answer_of, ap, break, false, Global, is_empty, is_nil_chars, IsStep, length, List, Message, message, message_or, OutOfMemory, refl, Stepped, Stop, StopIs, stopped, String, string_bytes, string_chars, string_chars_nil, sym, ℕ, ◌==◌, ◌∙◌, ◌∷◌, ◌≡◌}
use denote.Ref.{Bor, MutBor}

-- an empty message
pub message_or_own : {A : Type 0} (s : String A) (position n : ℕ) (input : List ℕ) → string_bytes s ≡ [] → message_or (string_chars s) position n input ≡ message position n input
message_or_own s position n input e = ap (λ m. message_or m position n input) (string_chars_nil s e)

said_by : (m : List ℕ) (position n : ℕ) (input : List ℕ) → is_empty m ≡ false → message_or m position n input ≡ m
said_by [] position n input e = cc
said_by (c ∷ m) position n input e = refl

-- another
pub message_or_said : {A : Type 0} (s : String A) (position n : ℕ) (input : List ℕ) → (length (string_bytes s) == 0) ≡ false → message_or (string_chars s) position n input ≡ string_chars s
unfolding string_chars
message_or_said s position n input e = said_by _ position n input (is_nil_chars s ∙ e)

module _ {post : (bytes ahead : ℕ) → Bor (List ℕ) → MutBor (String Global) → ControlFlow (String Global) (Unit {0}) → MutBor (String Global) → Type 0} where
  -- a call that stops
  pub broke : (n a : ℕ) (shown : Bor (List ℕ)) (input : List ℕ) (text left : MutBor (String Global)) (so_far : List ℕ) (r : ControlFlow (String Global) (Unit {0})) (m : String Global)
      → post n a shown text r left → shown.now ≡ input → string_chars text.now ≡ so_far → r ≡ Break m → IsStep post n a input so_far (break (string_chars m))
  broke n a shown input text left so_far r m p e f h =
      record { shown = shown; shows = e; text = text; holds = f; left = left; result = r; called = p; answers = ap (λ x. answer_of x left.now) h }

  -- and how it stops
  pub stopped_by : (stop : Stop) (position n a : ℕ) (input so_far said : List ℕ) → IsStep post n a input so_far (break said)
      → StopIs stop (λ o. o ≡ stopped (message_or said position n input)) → StopIs stop (Stepped (IsStep post) position n a input so_far)
  stopped_by (Message m) position n a input so_far said taken e = (said, taken, cc)
  stopped_by OutOfMemory position n a input so_far said taken e = tt

-- a stop whose message is left to the malformation
pub stopped_without : {A : Type 0} (stop : Stop) (s : String A) (position n : ℕ) (input : List ℕ) → string_bytes s ≡ []
    → StopIs stop (λ o. o ≡ stopped (message position n input)) → StopIs stop (λ o. o ≡ stopped (message_or (string_chars s) position n input))
stopped_without (Message m) s position n input e h = h ∙ ap stopped (sym (message_or_own s position n input e))
stopped_without OutOfMemory s position n input e h = tt
