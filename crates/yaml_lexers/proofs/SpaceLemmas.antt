-- Lemmas about the spaces of a line.
use Rattle.yaml_lexers.proofs.Common.{are_skipped, Bool, false, is_blank, List, Ok, Position, refl, slice_index, space_from, spaces_stop, true, ℕ, ◌&&◌, ◌==◌, ◌||◌, ◌≡◌}
use Rattle.model_scanner.specs.declared.context.SkipTabs.{SkipTabs}
use Rattle.model_scanner.specs.declared.context.Whitespace.{Whitespace}

first_of : (b d : Bool) → b || d ≡ false → b ≡ false
first_of true d h = h
first_of false d h = refl

second_of : (b d : Bool) → b || d ≡ false → d ≡ false
second_of true d h = cc
second_of false d h = h

no_blank : (c : ℕ) → is_blank c ≡ false → ((c == 32) ≡ false) × ((c == 9) ≡ false)
unfolding is_blank
no_blank c h = (first_of (c == 32) (c == 9) h, second_of (c == 32) (c == 9) h)

-- where no blank and no comment stands
pub no_space : (tabs : SkipTabs) (c : ℕ) (a : List ℕ) (p : Position) (w : Whitespace) → c ≡ slice_index a 0 → is_blank c ≡ false → (c == 35) ≡ false
    → space_from tabs a (record { position = p; found = w }) ≡ Ok (record { rest = a; position = p; value = w })
no_space tabs c a p w e k h =
    let both = no_blank c k in
    let tab : ((c == 9) && are_skipped tabs) ≡ false = rw (both.1) refl in
    spaces_stop tabs c a p w e both.0 tab h
