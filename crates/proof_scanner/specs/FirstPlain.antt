-- What is wrong with a plain scalar first: its column is looked at first, then the TABs that begin its lines, and then its dashes. A scalar does not go on over a dash that is wrong, so no such TAB stands behind one.
use Rattle.std.specs.Prelude.{ℕ, List, Bool}
use Rattle.defs_text.specs.Position.{Position}
use Rattle.yaml_tokens.specs.declared.problem.Problem.{Problem}
use Rattle.yaml_tokens.specs.declared.problem.Problem.TheVariants as problem
use Rattle.proof_scanner.specs.NoPiece as none
use Rattle.proof_scanner.specs.NoPiece.{IsPlainFault}

-- no plain scalar with this text is wrong in this way
abbrev pub HasNoPlainFault : (in_flow : Bool) (collection : List ℕ) (here : Position) (text : List ℕ) → Problem → Type 0
HasNoPlainFault in_flow collection here text why = (place : Position) → IsPlainFault in_flow collection here text why place → ⊥

-- what is so before a reason why a plain scalar is none
abbrev pub plain_first : (in_flow : Bool) (collection : List ℕ) (here : Position) (text : List ℕ) (why : Problem) (at : Position) → IsPlainFault in_flow collection here text why at → Type 0
plain_first in_flow collection here text why at (none.by_column flow left) = Unit {0}
plain_first in_flow collection here text why at (none.by_tab before blanks rest column cut over stands left are solid) = HasNoPlainFault in_flow collection here text problem.FlowIndentation
plain_first in_flow collection here text why at (none.by_dash before rest flow cut begins over apart) = HasNoPlainFault in_flow collection here text problem.FlowIndentation × HasNoPlainFault in_flow collection here text problem.PlainTab
