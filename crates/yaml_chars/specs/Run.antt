-- Where a run of ordinary characters of one line ends, and what it leaves.
use Rattle.std.specs.Prelude.{◌≡◌, ℕ, ◌+◌, ◌-◌, ◌≤◌, List, [], ◌∷◌, ◌++◌, length, Bool, true, false, ◌==◌, ◌||◌, ◌&&◌, if◌then◌else◌}
use Rattle.defs_text.specs.Position.{Position}
use Rattle.yaml_chars.specs.WindowView.{WindowView, Reads, Fills}
use Rattle.yaml_chars.specs.Source.{Pulled, Pulls}
use Rattle.yaml_chars.specs.Class.{is_breakz, is_blank_or_breakz, is_flow}
use Rattle.yaml_chars.specs.declared.run.Run.{Run}
use Rattle.yaml_chars.specs.declared.run.Run.TheVariants.{Line, Quoted, Plain}

unfoldable pub stops : Run → ℕ → Bool
stops Line c = is_breakz c
stops (Quoted quote) c = is_blank_or_breakz c || (c == quote) || (c == 92)
stops (Plain flow) c = is_blank_or_breakz c || (c == 58) || (flow && is_flow c)

-- the text after a run, where it stands, and the run's characters after a text
pub record Ran : Type 0 where
  pub rest : List ℕ
  pub position : Position
  pub text : List ℕ

abbrev pub ran : Run → List ℕ → Position → List ℕ → Ran
ran run [] p t = record { rest = []; position = p; text = t }
ran run (c ∷ a) p t =
    (if stops run c then record { rest = c ∷ a; position = p; text = t }
    else ran run a (record { index = p.index + 1; line = p.line; col = p.col + 1 }) (t ++ c ∷ []))

-- a source as a window sees it that is empty, at a position
abbrev pub bare : {T : Type 0} → Pulled T → ℕ → ℕ → ℕ → WindowView T
bare s at line col = record { start = s.start; taken = s.taken; done = s.done; at = at; ahead = 0; left = (length s.taken - at) + s.left; line = line; col = col }

-- so many characters of a run came, and went into a text
pub record GoesOn {T : Type 0} (run : Run) (old new : Pulled T) (n : ℕ) (before after : List ℕ) : Type 0 where
  pub left : new.left + n ≤ old.left
  pub fills : (at line col : ℕ) → Fills old [] at line col → Fills new [] (at + n) line (col + n)
  pub reads : (at line col : ℕ) → Fills old [] at line col → Reads (bare old at line col) (bare new (at + n) line (col + n)) (λ a b.
      ran run a (record { index = at; line = line; col = col }) before ≡ ran run b (record { index = at + n; line = line; col = col + n }) after)

-- a run came, and the character after it; where memory was refused, this may be one more of the run
pub record GoesOver {T : Type 0} (run : Run) (old new : Pulled T) (n c : ℕ) (refused : Bool) (before after : List ℕ) : Type 0 where
  pub last : Pulled T
  pub goes : GoesOn run old last n before after
  pub later : Pulls last c new
  pub stops : refused ≡ false → stops run c ≡ true
