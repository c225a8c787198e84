-- Plain scalars as texts: what the laws say of some.
use Rattle.proof_lexers.proofs.Common.{[], are_marks, At, begins_with_marker, by_dash, by_tab, codes, Context, EndsAs, false, is_blank_or_end, is_nul, IsPlainRefusal, List, plain, plain_element, plain_value, Position, refl, true, ℕ, ◌++◌, ◌∷◌, ◌≡◌, ap, arith, ◌∙◌, has, both_ways, PlainDashInFlow, PlainTab}
use Rattle.defs_text.specs.Classes.{is_blank, is_break, is_flow}
use Rattle.proof_lexers.specs.PlainEnds.{IsScalarRead}
use Rattle.proof_lexers.proofs.Plain.Scalars.{scalars_read}

-- as the value of a key in column 0
abbrev block : Context
block = record { flow = false; indent = 1 }

abbrev flow : Context
flow = record { flow = true; indent = 1 }

abbrev here : Position
here = record { index = 3; line = 1; col = 3 }

-- lines that are folded, up to a line that is no deeper
lines : EndsAs (IsScalarRead here (codes "a b\n\n  c") (codes " \nk: v") (codes "a b\nc")) (IsPlainRefusal block here (codes "a b\n\n  c \nk: v")) (plain block (codes "a b\n\n  c \nk: v") here)
unfolding is_blank is_break is_nul is_blank_or_end is_flow are_marks plain_element begins_with_marker plain_value
lines = scalars_read block (codes "a b\n\n  c") (codes " \nk: v") (codes "a b\nc") here refl refl refl refl refl

-- up to a colon before a comma
before_comma : EndsAs (IsScalarRead here (codes "a:b") (codes ":,") (codes "a:b")) (IsPlainRefusal flow here (codes "a:b:,")) (plain flow (codes "a:b:,") here)
unfolding is_blank is_break is_nul is_blank_or_end is_flow are_marks plain_element begins_with_marker plain_value
before_comma = scalars_read flow (codes "a:b") (codes ":,") (codes "a:b") here refl refl refl refl refl

-- a dash before a comma, after a blank
dashed : IsPlainRefusal flow here (codes "a -,") (At PlainDashInFlow (record { index = 5; line = 1; col = 5 }))
unfolding is_blank is_break is_nul is_blank_or_end is_flow
dashed =
    by_dash (codes "a ") (codes ",") refl (λ t. both_ways false refl (ap (has 9) t.is_text ∙ has_tab t.before (t.blanks ++ t.rest))) refl refl refl refl refl
  where
    has_tab : (before more : List ℕ) → has 9 (before ++ 9 ∷ more) ≡ true
    has_tab [] more = refl
    has_tab (c ∷ before) more = grind (arith, has_tab before more)

-- a TAB at the start of a line of it
tabbed : IsPlainRefusal block here (codes "a\n\tb") (At PlainTab here)
unfolding is_blank is_break is_nul is_blank_or_end is_flow are_marks
tabbed = by_tab refl (record { before = codes "a\n"; blanks = []; rest = codes "b"; column = 0; is_text = refl; is_over = refl; is_at = refl; is_left = refl; are_blanks = refl; is_token = refl })
