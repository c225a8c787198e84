-- Rows: what is read of a piece, and which text after it is refused.
use Rattle.std.specs.Prelude.{◌≡◌, refl, [], true, false, Some, codes}
use Rattle.proof_lexers.proofs.Common.{are_marks, block_read, digit_of, folded, is_blank_or_end, is_content_line, is_empty_line, is_nul, is_tabbed, literal, Position, read_block, row_of, sign_of}
use Rattle.defs_text.specs.Classes.{is_blank, is_break}
use Rattle.proof_lexers.specs.BlockScan.{is_shallow}

abbrev start : Position
start = record { index = 2; line = 1; col = 2 }

-- a folded scalar in a mapping, before the mapping's next key
folded_piece : block_read (Some 0) (codes ">-\n  a\n  b\n\n   c\n") (codes "d: e") ≡ Some (record { style = folded; column = 2; text = codes "a b\n\n c" })
unfolding sign_of digit_of is_empty_line is_content_line row_of is_blank is_break is_nul are_marks is_blank_or_end
folded_piece = refl

-- the spaces before further text are read too
further_spaces : read_block start (record { style = literal; column = 2; text = codes "a\n" }) (codes "|\n  a\n") (codes " - b")
    ≡ record { rest = codes "- b"; position = record { index = 9; line = 3; col = 1 }; value = record { position = record { index = 6; line = 2; col = 2 }; text = codes "a\n" } }
unfolding is_break is_nul
further_spaces = refl

-- after a deeper empty line: content of the collection, and text outside it
shallow_text : is_shallow 1 start (record { style = literal; column = 3; text = [] }) (codes "|\n   \n") (codes "  a") ≡ true
unfolding is_break is_nul
shallow_text = refl

outside_text : is_shallow 1 start (record { style = literal; column = 3; text = [] }) (codes "|\n   \n") (codes "a") ≡ false
unfolding is_break is_nul
outside_text = refl

-- a TAB after a header alone, and after an empty line
tab_after : is_tabbed (codes "|\n") (codes "\ta") ≡ true
unfolding is_break
tab_after = refl

tab_later : is_tabbed (codes "|\n\n") (codes "\ta") ≡ false
unfolding is_break
tab_later = refl
