-- What is wrong with a block scalar first.
use Rattle.std.specs.Prelude.{ℕ, List}
use Rattle.defs_text.specs.Position.{Position}
use Rattle.defs_text.specs.BlockScalar.{BlockStyle}
use Rattle.yaml_tokens.specs.declared.problem.Problem.{Problem}
use Rattle.yaml_tokens.specs.declared.problem.Problem.TheVariants as problem
use Rattle.proof_scanner.specs.NoPiece as none
use Rattle.proof_scanner.specs.NoPiece.{IsNoHeader, IsBlockFault}

-- what is so before a reason why a line is no header: nothing, since of a line that is none one reason alone holds
abbrev pub header_first : (style : BlockStyle) (here : Position) (line : List ℕ) (why : Problem) (at : Position) → IsNoHeader style here line why at → Type 0
header_first style here line why at n = Unit {0}

-- the same of what stands after the header: the TAB is looked for first
abbrev pub block_first : (collection : List ℕ) (here : Position) (text : List ℕ) (why : Problem) (at : Position) → IsBlockFault collection here text why at → Type 0
block_first collection here text why at (none.by_tab piece header more h cut one is) = Unit {0}
block_first collection here text why at (none.by_column piece header next lines b cut is further lines_are empty deep left) = (place : Position) → IsBlockFault collection here text problem.BlockScalarTab place → ⊥
