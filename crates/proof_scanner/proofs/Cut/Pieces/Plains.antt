-- What the scan of a plain scalar reads is its piece.
use Rattle.proof_scanner.proofs.Common.{and_parts, at_dash, begins_flow, begins_plain, Bool, collection_column, collection_of, comes_plain, Context, false, is_adjacent, is_blank, is_blank_or_end, is_break, is_separation, is_whole_plain, IsPlainRead, List, Ok, Plain, plain, plain_value, PlainIsRead, Position, position_after, position_append, Read, read_as, ReadAs, scalar, scans_end, slice_index, Some, starts, true, ℕ, ◌++◌, ◌≡◌, arith, nat_tests, eqb-true}
use Rattle.yaml_chars.specs.Class as model_classes
use Rattle.defs_token.specs.Account.{Account, is_in_flow}
use Rattle.model_scanner.specs.Plain as models
use Rattle.proof_lexers.proofs.Bridges.{same_flow}
use Rattle.proof_scanner.proofs.Cut.Pieces.Separations.{gap_is_separation}

-- ---- in flow a dash before a flow indicator is refused

pub same_flow_start : (r : List ℕ) → model_classes.is_flow (slice_index r 0) ≡ begins_flow r
unfolding model_classes.is_flow
same_flow_start a = grind (arith, nat_tests, same_flow, eqb-true)

-- what is read began as a plain scalar may
pub begins_as_read : (ctx : Context) (adjacent : Bool) (text : List ℕ) (p : Position) (r : Read Plain) → comes_plain ctx.flow adjacent p.col text ≡ true → models.plain ctx text p ≡ Ok r → begins_plain ctx.flow adjacent p.col text ≡ true
unfolding at_dash models.plain starts
begins_as_read ctx adjacent text p r h e = grind (arith, same_flow_start)

-- ---- the piece

module _ (a : Account) (ctx : Context) (text : List ℕ) (flows : is_in_flow a ≡ ctx.flow) (column : collection_column a ≡ collection_of ctx.indent)
    (begins : begins_plain (is_in_flow a) (is_adjacent a.before) a.position.col text ≡ true) where
  found : (piece gap rest value : List ℕ) → text ≡ piece ++ (gap ++ rest) → is_whole_plain (is_in_flow a) (collection_column a) piece (gap ++ rest) ≡ true → is_separation false gap rest ≡ true
      → plain_value piece ≡ Some value → ReadAs a text (scalar plain value) a.position rest (position_after a.position (piece ++ gap) rest)
  found a gap rest value cut whole filled is = grind (arith, nat_tests, eqb-true, position_append)

  by : (x : Read Plain) → IsPlainRead ctx a.position text x → ReadAs a text (scalar plain x.value.text) a.position x.rest x.position
  by x a = grind (arith, nat_tests, eqb-true, found, gap_is_separation)

-- a plain scalar that was read is the piece of its token, and after it blanks and breaks were passed
pub plain_is_read : PlainIsRead
unfolding is_blank is_break is_blank_or_end
plain_is_read a ctx text r nul flows column comes indented is =
    let begins : begins_plain (is_in_flow a) (is_adjacent a.before) a.position.col text ≡ true = rw flows (begins_as_read ctx (is_adjacent a.before) text a.position r comes is) in
    by a ctx text flows column begins r (read_as is (scans_end ctx text a.position nul (grind (arith, nat_tests, eqb-true, and_parts)) indented))
