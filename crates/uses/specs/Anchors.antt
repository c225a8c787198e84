-- The anchors of events, by their numbers. YAML 1.2, section 6.9.2.
use Rattle.std.specs.Prelude.{ℕ, zero, suc, List, [], ◌∷◌, map}
use Rattle.std.specs.List.{concat}
use Rattle.yaml_rust2.specs.Event.{Ev}
use Rattle.yaml_rust2.specs.Position.{Position}

-- the number 0 is no anchor
abbrev pub listed : ℕ → List ℕ
listed zero = []
listed (suc n) = suc n ∷ []

-- the number of the node that begins with the event
abbrev pub number_of : Ev → ℕ
number_of (Ev.scalar text style anchor tag) = anchor
number_of (Ev.sequence_start anchor tag) = anchor
number_of (Ev.mapping_start anchor tag) = anchor
number_of _ = 0

-- in the order in which their nodes begin
abbrev pub anchors_in : List (Ev × Position) → List ℕ
anchors_in es = concat (map (λ e. listed (number_of e.0)) es)
