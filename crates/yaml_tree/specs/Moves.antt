-- What becomes of a place as others go.
use Rattle.std.specs.Prelude.{ℕ, ◌-◌, ◌==◌, nat_lt, cond}
use Rattle.yaml_tree.specs.declared.entry.Entry.{Entry}

-- a place once what stood at another is gone
abbrev pub closed_up : ℕ → ℕ → ℕ
closed_up gone p = cond (nat_lt gone p) (p - 1) p

-- a place of so many once what stood at one has gone to the end
abbrev pub moved_up : ℕ → ℕ → ℕ → ℕ
moved_up gone n p = cond (p == gone) (n - 1) (closed_up gone p)

-- the same of an entry
abbrev pub entry_closed_up : ℕ → Entry → Entry
entry_closed_up gone e = record e { place = closed_up gone e.place }

abbrev pub entry_moved_up : ℕ → ℕ → Entry → Entry
entry_moved_up gone n e = record e { place = moved_up gone n e.place }
