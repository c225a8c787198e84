-- What a call of the code did, by the model's function.
use Rattle.std.specs.Prelude.{◌≡◌, ◌≢◌, ℕ, ◌≤◌, ◌<◌, Result, Ok, Err, OnOk, IfErr}
use Rattle.yaml_chars.specs.WindowView.{WindowView, Reads, HasChar}
use Rattle.yaml_tokens.specs.declared.problem.Fault.{Fault}
use Rattle.yaml_tokens.specs.declared.problem.Fault.TheVariants.{OutOfMemory}
use Rattle.model_scanner.specs.State.{Held, ScannerState}
use Rattle.yaml_scanner.specs.declared.fetcher.Fetcher.{Fetcher}
use Rattle.yaml_scanner.specs.Shape.{held, state}
use Rattle.yaml_scanner.specs.Work.{Moves, Fetches, work}

-- The model comes to the new state, or refuses with the same fault, unless that is out of memory.
abbrev pub Comes : {A X E : Type 0} → Result A Fault → Result X E → A → Fault → Type 0
Comes m (Ok x) t e = m ≡ Ok t
Comes m (Err y) t e = e ≢ OutOfMemory → m ≡ Err e

-- Whatever the text is, the model's function does to the old state what the call did. The bound on tokens grows by at most so much, and
-- falls by at least so much.
pub record Runs {T X E : Type 0} (f : ScannerState → Result ScannerState Fault) (old : Fetcher T) (result : Result X E) (new : Fetcher T) (up down : ℕ) : Type 0 where
  pub comes : Reads old.window new.window (λ a b. Comes (f (state a old)) result (state b new) new.fault)
  pub run : Fetches old new
  pub bounds : OnOk result (Moves old new up down)

-- The same of a fetch, by which the bound falls.
pub record Brings {T X E : Type 0} (f : ScannerState → Result ScannerState Fault) (old : Fetcher T) (result : Result X E) (new : Fetcher T) : Type 0 where
  pub comes : Reads old.window new.window (λ a b. Comes (f (state a old)) result (state b new) new.fault)
  pub less : OnOk result (work new < work old)
  pub run : Fetches old new

-- The same of a step that looks at no character.
pub record Steps {T X E : Type 0} (g : Held → Result Held Fault) (old : Fetcher T) (result : Result X E) (new : Fetcher T) (up : ℕ) : Type 0 where
  pub comes : Comes (g (held old)) result (held new) new.fault
  pub bounds : Moves old new up 0
  pub window : new.window ≡ old.window

-- The same of a step that only refused memory can end.
pub record Becomes {T X E : Type 0} (g : Held → Held) (old : Fetcher T) (result : Result X E) (new : Fetcher T) (up : ℕ) : Type 0 where
  pub held : OnOk result (held new ≡ g (held old))
  pub err : IfErr result (λ _. new.fault ≡ OutOfMemory)
  pub bounds : Moves old new up 0
  pub window : new.window ≡ old.window

-- and of one that nothing can end
pub record Turns {T : Type 0} (g : Held → Held) (old new : Fetcher T) : Type 0 where
  pub held : held new ≡ g (held old)
  pub bounds : Moves old new 0 0
  pub window : new.window ≡ old.window

-- a fault is held, and nothing else changes
pub record Holds {T : Type 0} (e : Fault) (old new : Fetcher T) : Type 0 where
  pub fault : new.fault ≡ e
  pub held : held new ≡ held old
  pub tokens : new.tokens ≡ old.tokens
  pub bounds : Moves old new 0 0
  pub window : new.window ≡ old.window

-- So many characters are in the window, and the first is one of the text.
pub record Front {T : Type 0} (n : ℕ) (s : WindowView T) : Type 0 where
  pub ahead : n ≤ s.ahead
  pub has : HasChar s
