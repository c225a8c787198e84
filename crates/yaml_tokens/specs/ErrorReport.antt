-- What clauses see of a fault: its position, the bytes of its text, whether memory was refused, and whether its text is fixed.
use Rattle.std.specs.Prelude.{ℕ, ◌+◌, List, ◌++◌, Bool, false, true, codes}
use Rattle.std.specs.Fmt.{decimal}
use Rattle.defs_text.specs.Position.{Position}

pub record ErrorReport : Type 0 where
  pub position : Position
  pub text : List ℕ
  pub memory : Bool
  -- the text is a constant: a copy of the fault takes no memory
  pub fixed : Bool

-- the line that a fault prints: its text, and its position with the column counted from 1
abbrev pub printed : ErrorReport → List ℕ
printed f = f.text ++ codes " at byte " ++ decimal f.position.index ++ codes " line " ++ decimal f.position.line ++ codes " column " ++ decimal (f.position.col + 1)

-- a fault of this fixed text, which does not say that memory was refused
abbrev pub fixed_at : Position → List ℕ → ErrorReport
fixed_at p t = record { position = p; text = t; memory = false; fixed = true }

-- a fault with a text of its own, which does not say that memory was refused
abbrev pub owned_at : Position → List ℕ → ErrorReport
owned_at p t = record { position = p; text = t; memory = false; fixed = false }

-- the fault that memory was refused
abbrev pub memory_at : Position → ErrorReport
memory_at p = record { position = p; text = codes "out of memory"; memory = true; fixed = true }
