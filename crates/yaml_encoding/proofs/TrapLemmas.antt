-- What comes of an input by the steps of each trap.
use Rattle.yaml_encoding.proofs.Common.{[], Answer, ap, append-nil, append_assoc, break, character, Err, Global, go_on, ignored, inl, inr, IsCalled, IsDecodedByCalls, List, malformation, Message, message_or, Ok, Outcome, OutcomeIs, OutOfMemory, Part, parts, put_before, refl, replaced, Result, Steps, steps_by, Stop, stopped, strict, String, sym, text, ℕ, ◌++◌, ◌∙◌, ◌∷◌, ◌≡◌}
use Rattle.yaml_encoding.specs.declared.trap.YAMLDecodingTrapFn.{YAMLDecodingTrapFn}
use Rattle.yaml_encoding.specs.declared.trap.YAMLDecodingTrap.{YAMLDecodingTrap}
use Rattle.yaml_encoding.specs.declared.trap.YAMLDecodingTrap.TheVariants.{Ignore, Strict, Replace, Call}

-- what holds of an outcome, where something that it follows from does
weaker : (P Q : Outcome → Type 0) → ((o : Outcome) → P o → Q o) → (r : Result (String Global) Stop) → OutcomeIs r P → OutcomeIs r Q
weaker P Q f (Ok s) p = f _ p
weaker P Q f (Err (Message m)) p = f _ p
weaker P Q f (Err OutOfMemory) p = tt

-- characters before an outcome
abbrev put_all : List ℕ → Outcome → Outcome
put_all cs (text ds) = text (cs ++ ds)
put_all cs (stopped m) = stopped m

put_all-one : (cs : List ℕ) (c : ℕ) (o : Outcome) → put_all (cs ++ c ∷ []) o ≡ put_all cs (put_before c o)
put_all-one cs c (text ds) = ap text (append_assoc cs (c ∷ []) ds)
put_all-one cs c (stopped m) = refl

put_all-none : (o : Outcome) → put_all [] o ≡ o
put_all-none (text ds) = refl
put_all-none (stopped m) = refl

-- what comes of an answer at a malformation, by what comes of the parts after it
abbrev comes : Answer → (position n : ℕ) (input : List ℕ) → Outcome → Outcome
comes (go_on next) position n input o = put_all next o
comes (break m) position n input o = stopped (message_or m position n input)

-- a trap that has one answer for each text so far
module _ (step : Steps) (answer : List ℕ → Answer)
    (says : (n a : ℕ) (input so_far : List ℕ) (x : Answer) → step n a input so_far x → x ≡ answer so_far)
    (made : List Part → Outcome) (none : made [] ≡ text [])
    (one : (c : ℕ) (ps : List Part) → made (character c ∷ ps) ≡ put_before c (made ps))
    (at : (so_far : List ℕ) (position n a : ℕ) (input : List ℕ) (ps : List Part)
    → comes (answer so_far) position n input (made ps) ≡ put_all so_far (made (malformation position n a input ∷ ps))) where
  called : (ps : List Part) (so_far : List ℕ) (o : Outcome) → IsCalled step ps so_far o → o ≡ put_all so_far (made ps)
  called [] so_far o h = h ∙ ap text (sym (append-nil so_far)) ∙ ap (put_all so_far) (sym none)
  called (character c ∷ ps) so_far o h = called ps (so_far ++ c ∷ []) o h ∙ put_all-one so_far c (made ps)
      ∙ ap (put_all so_far) (sym (one c ps))
  called (malformation position n a input ∷ ps) so_far o (inl (next, taken, h)) =
      called ps next o h ∙ ap (λ x. comes x position n input (made ps)) (says n a input so_far (go_on next) taken)
      ∙ at so_far position n a input ps
  called (malformation position n a input ∷ ps) so_far o (inr (m, taken, h)) =
      h ∙ ap (λ x. comes x position n input (made ps)) (says n a input so_far (break m) taken) ∙ at so_far position n a input ps

module _ {F : _} {m : _} (stored : YAMLDecodingTrapFn F m → Steps) (trap : YAMLDecodingTrap F m) (input : List ℕ)
    (r : Result (String Global) Stop) (is : OutcomeIs r (IsDecodedByCalls (steps_by stored trap) input)) where
  pub text_ignored : trap ≡ Ignore → OutcomeIs r (λ o. o ≡ text (ignored (parts input)))
  text_ignored e =
      weaker _ _ (called (steps_by stored Ignore) go_on (λ n a i s x taken. taken) (λ ps. text (ignored ps)) refl (λ c ps. refl)
      (λ s position n a i ps. refl) (parts input) []) r (rw e at is)

  pub text_replaced : trap ≡ Replace → OutcomeIs r (λ o. o ≡ text (replaced (parts input)))
  text_replaced e =
      weaker _ _ (called (steps_by stored Replace) (λ s. go_on (s ++ 0xFFFD ∷ [])) (λ n a i s x taken. taken) (λ ps. text (replaced ps))
      refl (λ c ps. refl) (λ s position n a i ps. ap text (append_assoc s (0xFFFD ∷ []) (replaced ps))) (parts input) []) r (rw e at is)

  pub text_strict : trap ≡ Strict → OutcomeIs r (λ o. o ≡ strict (parts input))
  text_strict e = weaker _ _ (λ o h. called (steps_by stored Strict) (λ s. break []) (λ n a i s x taken. taken) strict refl (λ c ps. refl)
      (λ s position n a i ps. refl) (parts input) [] o h ∙ put_all-none (strict (parts input))) r (rw e at is)

  pub text_called : (f : YAMLDecodingTrapFn F m) → trap ≡ Call f → OutcomeIs r (IsDecodedByCalls (stored f) input)
  text_called f e = weaker _ _ (λ o h. h) r (rw e at is)
