-- Texts and their lines, worked, and the same as std's `lines` gives them.
use Rattle.defs_tree.proofs.Common.{[], codes, lines, lines_of, ◌∷◌, ◌≡◌}

record Rows : Type 0 where
  no_line : lines_of (codes "") ≡ []
  no_line_as_std_gives_it : lines (codes "") ≡ []
  one_line : lines_of (codes "a") ≡ codes "a" ∷ []
  one_line_as_std_gives_it : lines (codes "a") ≡ codes "a" ∷ []
  a_final_break_ends_a_line : lines_of (codes "a\n") ≡ codes "a" ∷ []
  a_final_break_ends_a_line_as_std_gives_it : lines (codes "a\n") ≡ codes "a" ∷ []
  two_lines : lines_of (codes "a\nbc") ≡ codes "a" ∷ codes "bc" ∷ []
  two_lines_as_std_gives_it : lines (codes "a\nbc") ≡ codes "a" ∷ codes "bc" ∷ []
  an_empty_line_inside : lines_of (codes "a\n\nb") ≡ codes "a" ∷ codes "" ∷ codes "b" ∷ []
  an_empty_line_inside_as_std_gives_it : lines (codes "a\n\nb") ≡ codes "a" ∷ codes "" ∷ codes "b" ∷ []
  an_empty_line_at_the_end : lines_of (codes "a\n\n") ≡ codes "a" ∷ codes "" ∷ []
  an_empty_line_at_the_end_as_std_gives_it : lines (codes "a\n\n") ≡ codes "a" ∷ codes "" ∷ []
  a_break_alone_is_one_empty_line : lines_of (codes "\n") ≡ codes "" ∷ []
  a_break_alone_is_one_empty_line_as_std_gives_it : lines (codes "\n") ≡ codes "" ∷ []
  empty_line_first : lines_of (codes "\na") ≡ codes "" ∷ codes "a" ∷ []
  empty_line_first_as_std_gives_it : lines (codes "\na") ≡ codes "" ∷ codes "a" ∷ []

rows : Rows
rows = search
