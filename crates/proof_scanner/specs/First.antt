-- What is wrong at a place first: the reasons are tried in one order, and those that are tried before one do not hold.
use Rattle.std.specs.Prelude.{◌≡◌, ℕ, List, [], ◌++◌, Bool, true, false, ◌&&◌, ◌||◌, not, nat_le, length, codes}
use Rattle.defs_text.specs.Classes.{is_one_of}
use Rattle.defs_text.specs.Position.{Position}
use Rattle.defs_text.specs.FlowScalar.{begins_with}
use Rattle.defs_token.specs.Piece.{begins_with_space_or_break}
use Rattle.defs_token.specs.Indentation.{follows_plain, least_column, is_indented_by_spaces, has_tab_before_piece, colon_may_precede}
use Rattle.defs_token.specs.RowAccount.{Account, is_in_flow}
use Rattle.yaml_tokens.specs.declared.problem.Problem.{Problem}
use Rattle.proof_scanner.specs.NoPiece as none
use Rattle.proof_scanner.specs.NoPiece.{NoPiece, IsFollowed}
use Rattle.proof_scanner.specs.Failing as failing
use Rattle.proof_scanner.specs.Failing.{MayNotStand, Fails, site_at_place, begins_document_at, is_taken}
use Rattle.proof_scanner.specs.FirstQuoted.{quoted_first, lines_first, closed_first}
use Rattle.proof_scanner.specs.FirstPlain.{plain_first}
use Rattle.proof_scanner.specs.FirstBlock.{header_first, block_first}

-- ---- what is tried before any piece

-- no TAB indents what comes
abbrev pub is_free_of_tabs : Account → (separation : List ℕ) → Bool
is_free_of_tabs a separation = is_indented_by_spaces a.site.before a.site.blocks a.site.awaits separation

-- the least column of a place
abbrev pub least_here : Account → Position → ℕ
least_here a here = least_column (site_at_place a here).blocks (site_at_place a here).awaits

-- in flow what comes lies in that column or deeper, unless it is a line for the document
abbrev pub lies_deep : Account → Position → (rest : List ℕ) → Bool
lies_deep a here rest = not (is_in_flow a.entries) || begins_document_at here rest || nat_le (least_here a here) here.col

-- as many flow collections are open as may be
abbrev pub is_full : Account → Bool
is_full a = nat_le 255 (length a.entries)

-- whether a character opens a flow collection
abbrev pub opens : ℕ → Bool
opens c = is_one_of (codes "[{") c

-- whether a `?` may stand: in flow, or on a line that is not taken
abbrev pub may_ask : (in_flow taken : Bool) → Bool
may_ask in_flow taken = in_flow || not taken

-- a piece is looked at here
pub record IsLookedAt (a : Account) (separation : List ℕ) (here : Position) (rest : List ℕ) : Type 0 where
  pub has_no_tab : is_free_of_tabs a separation ≡ true
  pub is_deep : lies_deep a here rest ≡ true

-- ---- the reasons

-- no piece begins with the text
abbrev pub no_piece_first : (in_flow : Bool) (least : ℕ) (here : Position) (rest : List ℕ) (why : Problem) (at : Position) → NoPiece in_flow here rest why at → Type 0
no_piece_first in_flow least here rest why at (none.percent more e col) = Unit {0}
no_piece_first in_flow least here rest why at (none.at_sign more e) = Unit {0}
no_piece_first in_flow least here rest why at (none.backtick more e) = Unit {0}
no_piece_first in_flow least here rest why at (none.nameless alias more e lacks) = Unit {0}
no_piece_first in_flow least here rest why at (none.tagless more reason e r) = Unit {0}
no_piece_first in_flow least here rest why at (none.unquoted single more reason e lacks n) = quoted_first single least more reason n
no_piece_first in_flow least here rest why at (none.headless style line after reason place out e one ends lacks n) = header_first style here line reason place n
no_piece_first in_flow least here rest why at (none.undirected line next reason place col e one ends lacks r) = Unit {0}

-- what follows a piece; `taken` says whether outside flow its line was taken, `full` whether as many flow collections are open as may be
abbrev pub followed_first : (in_flow : Bool) (least : ℕ) (taken full : Bool) (here : Position) (rest : List ℕ) (why : Problem) (at : Position) → IsFollowed in_flow here rest why at → Type 0
-- too many flow collections are told before a comment right after a bracket
followed_first in_flow least taken full here rest why at (none.glued c more e is begins) = (opens c && full) ≡ false
followed_first in_flow least taken full here rest why at (none.glued_to_quoted single piece more e is begins) = closed_first single least piece
followed_first in_flow least taken full here rest why at (none.after_quoted single piece more passed content e is ends on solid) = closed_first single least piece × (begins_with 35 more ≡ false)
followed_first in_flow least taken full here rest why at (none.after_end more passed content col e gap on ends solid) = Unit {0}
followed_first in_flow least taken full here rest why at (none.tab_after_dash more passed content out e gap on tab begins) = taken ≡ false
-- A TAB right after a `?` stands where a space or a break should; where one of these stands, the first TAB outside comments is told.
followed_first in_flow least taken full here rest why at (none.no_space more passed content e gap on begins ends) = (may_ask in_flow taken ≡ true) × (passed ≡ [])
followed_first in_flow least taken full here rest why at (none.tab_after_question more passed content e gap cut fills) = (may_ask in_flow taken ≡ true) × (begins_with_space_or_break more ≡ true) × (has_tab_before_piece false passed ≡ false)
followed_first in_flow least taken full here rest why at (none.tab_after_colon more passed content e tab on lacks letter) = Unit {0}

-- a piece may not stand here; after a plain scalar a TAB that indents a line is met by the scalar itself, unless a comment has ended it
abbrev pub stands_first : (a : Account) (separation : List ℕ) (here : Position) (rest : List ℕ) (why : Problem) (at : Position) → MayNotStand a separation here rest why at → Type 0
stands_first a separation here rest why at (failing.shallow inside line left) = is_free_of_tabs a separation ≡ true
stands_first a separation here rest why at (failing.too_deep bracket more e is many) = IsLookedAt a separation here rest
stands_first a separation here rest why at (failing.dash_in_flow more e gap inside) = IsLookedAt a separation here rest
stands_first a separation here rest why at (failing.dash_not_free more e gap out line) = IsLookedAt a separation here rest
-- the TABs after a colon are told before it
stands_first a separation here rest why at (failing.key_on_earlier_line more begin x xs e is are takes had late) = IsLookedAt a separation here rest × (colon_may_precede more ≡ true)
stands_first a separation here rest why at (failing.question_not_free more e gap out line) = IsLookedAt a separation here rest
stands_first a separation here rest why at (failing.tab_indents tab) = follows_plain a.site.before separation ≡ false
stands_first a separation here rest why at (failing.tab_after_quoted single piece gap content e is fills goes_on solid tab) = IsLookedAt a separation here rest × closed_first single (least_here a here) piece × (begins_with 35 (gap ++ content) ≡ false)

-- all
abbrev pub comes_first : (a : Account) (separation : List ℕ) (here : Position) (rest : List ℕ) (why : Problem) (at : Position) → Fails a separation here rest why at → Type 0
comes_first a separation here rest why at (failing.no_piece n) = IsLookedAt a separation here rest × no_piece_first (is_in_flow a.entries) (least_here a here) here rest why at n
comes_first a separation here rest why at (failing.no_plain comes n) = IsLookedAt a separation here rest × plain_first (is_in_flow a.entries) (site_at_place a here).blocks here rest why at n
comes_first a separation here rest why at (failing.no_quoted single lacks n) = IsLookedAt a separation here rest × lines_first single (least_here a here) here rest why at n
comes_first a separation here rest why at (failing.no_block out n) = IsLookedAt a separation here rest × block_first (site_at_place a here).blocks here rest why at n
comes_first a separation here rest why at (failing.followed n) = IsLookedAt a separation here rest × followed_first (is_in_flow a.entries) (least_here a here) (is_taken a separation) (is_full a) here rest why at n
comes_first a separation here rest why at (failing.may_not_stand n) = stands_first a separation here rest why at n

-- What fails at a place, and fails first.
pub record FailsFirst (a : Account) (separation : List ℕ) (here : Position) (rest : List ℕ) (why : Problem) (at : Position) : Type 0 where
  pub fails : Fails a separation here rest why at
  pub is_first : comes_first a separation here rest why at fails
