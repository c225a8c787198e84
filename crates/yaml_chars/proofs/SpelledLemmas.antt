-- An iterator that always gives the same characters.
use Rattle.std.specs.Str.{chars}
use Rattle.std.proofs.lemmas.List.{take_at}
use Rattle.yaml_chars.proofs.Common.{[], AlwaysYields, ap, append-nil, arith, BeginsText, Bool, CameFrom, Chars, Chars-gives, chars_rest, chars_steps, encodes-chars, false, HasNoNul, IsEnd, IsUtf8, length, List, None, Option, refl, Some, subst, suc, sym, take, true, up_to_nul, Yields, ℕ, ◌++◌, ◌∙◌, ◌∷◌, ◌≡◌, ◌≢◌}
use Rattle.defs_text.specs.Classes.{is_nul}

up_to_nul-stop : (c : ℕ) (cs : List ℕ) → c ≡ 0 → up_to_nul (c ∷ cs) ≡ []
unfolding is_nul
up_to_nul-stop c cs e = rw e refl

up_to_nul-next : (c : ℕ) (cs : List ℕ) → c ≢ 0 → up_to_nul (c ∷ cs) ≡ c ∷ up_to_nul cs
unfolding is_nul
up_to_nul-next c cs n = grind arith

module _ {S : Type 0} (steps : S → Option ℕ → S → Type 0) where
  -- after characters that came, the others come
  later : (cs all : List ℕ) (it t : S) → AlwaysYields steps (λ c. c) it all → Yields steps it cs t → HasNoNul cs
      → (rest : List ℕ) × AlwaysYields steps (λ c. c) t rest × (up_to_nul all ≡ cs ++ up_to_nul rest)
  later [] all it t always y h = (all, subst (λ s. AlwaysYields steps (λ c. c) s all) y always, refl)
  later (c ∷ cs) [] it t always y h = absurd (always c y.0 y.1)
  later (c ∷ cs) (d ∷ all) it t always y h =
      let next = always.1 c y.0 y.1 in
      let after = later cs all y.0 t next.1 y.2 (λ k l. h (suc k) (omega arith)) in
      (after.0, after.1, rw (← next.0) (rw (up_to_nul-next c all (h 0 (omega arith))) (ap (λ xs. c ∷ xs) after.2)))

  -- where the end comes, there are none
  none : (all : List ℕ) (t : S) (o : Option ℕ) (u : S) → AlwaysYields steps (λ c. c) t all → steps t o u → IsEnd o → up_to_nul all ≡ []
  none [] t o u always step end = refl
  none (d ∷ all) t None u always step end = absurd (always.0 u step)
  none (d ∷ all) t (Some c) u always step end = let next = always.1 c u step in up_to_nul-stop d all (sym next.0 ∙ end)

  -- what holds of each text that may come holds of these characters up to a NUL
  pub Begins-spelled : {P : List ℕ → Type 0} (all : List ℕ) (it : S) → AlwaysYields steps (λ c. c) it all → BeginsText steps it P → P (up_to_nul all)
  Begins-spelled {P = P} all it always b = b.holds (up_to_nul all) begins (λ d.
      let e = b.came.ended d in
      let after = later b.taken all it e.2.0 always e.2.1 b.no_nul in
      after.2 ∙ ap (λ x. b.taken ++ x) (none after.0 e.2.0 e.0 e.1 after.1 e.2.2 e.3) ∙ append-nil b.taken)
    where
      came : (done : Bool) → CameFrom steps it b.taken done → (t : S) × Yields steps it b.taken t
      came true from = let e = from.ended refl in (e.2.0, e.2.1)
      came false from = from.going refl

      begins : take (length b.taken) (up_to_nul all) ≡ b.taken
      begins = let y = came b.done b.came in let after = later b.taken all it y.0 always y.1 b.no_nul in
          rw after.2 (take_at b.taken _ _ refl)

-- the characters of a text
pub Chars-spelled : (it : Chars) (bs : List ℕ) → IsUtf8 bs → chars_rest it ≡ bs → AlwaysYields chars_steps (λ c. c) it (chars bs)
Chars-spelled it bs u rest = Chars-gives (chars bs) it (encodes-chars bs u ∙ sym rest)
