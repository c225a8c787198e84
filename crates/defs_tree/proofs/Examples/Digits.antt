-- Numbers of binary digits, worked.
use Rattle.defs_tree.proofs.Common.{binary_digits, ◌≡◌}

record Rows : Type 0 where
  digits_of_0 : binary_digits 0 ≡ 0
  digits_of_1 : binary_digits 1 ≡ 1
  digits_of_2 : binary_digits 2 ≡ 2
  digits_of_3 : binary_digits 3 ≡ 2
  digits_of_4 : binary_digits 4 ≡ 3
  digits_of_7 : binary_digits 7 ≡ 3
  digits_of_8 : binary_digits 8 ≡ 4
  digits_of_255 : binary_digits 255 ≡ 8
  digits_of_256 : binary_digits 256 ≡ 9
  digits_of_1023 : binary_digits 1023 ≡ 10
  digits_of_1024 : binary_digits 1024 ≡ 11
  digits_of_1000000 : binary_digits 1000000 ≡ 20

rows : Rows
unfolding binary_digits
rows = search
