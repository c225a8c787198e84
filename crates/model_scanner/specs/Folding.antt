-- Lines of a flow scalar that are being folded (YAML 1.2, section 6.5).
use Rattle.std.specs.Prelude.{ℕ, Bool, true, false, List, [], ◌∷◌, ◌++◌, ◌&&◌, not, if◌then◌else◌}
use Rattle.defs_text.specs.Text.{is_empty}

-- a text that is being folded, and what stands between it and the next character: blanks, or after a break the breaks after that, and whether that break was an escaped one
pub record Folded : Type 0 where
  pub text : List ℕ
  pub gap : List ℕ
  pub leading : Bool
  pub escaped : Bool

abbrev pub nothing : Folded
nothing = record { text = []; gap = []; leading = false; escaped = false }

abbrev pub with_char : ℕ → Folded → Folded
with_char c p = record p { text = p.text ++ c ∷ [] }

abbrev pub with_blank : ℕ → Folded → Folded
with_blank c p = (if p.leading then p else record p { gap = p.gap ++ c ∷ [] })

abbrev pub with_break : Folded → Folded
with_break p = (if p.leading then record p { gap = p.gap ++ 10 ∷ [] } else record p { gap = []; leading = true })

-- a break that the text does not have
abbrev pub with_escaped_break : Folded → Folded
with_escaped_break p = record p { leading = true; escaped = true }

-- the gap becomes text: a lone break is a space
abbrev pub joined : Folded → Folded
joined p = record { text = p.text ++ (if p.leading && not p.escaped && is_empty p.gap then 32 ∷ [] else p.gap); gap = []; leading = false; escaped = false }
