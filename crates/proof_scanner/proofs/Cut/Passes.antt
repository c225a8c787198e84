-- What the model passes between tokens.
use Rattle.proof_scanner.proofs.Common.{are_spaces, ends_spaces, false, Fault, Holds, is_separation, lexed, List, position_after, read, read_as, refused, Result, ScannerState, skip_spaces, SkipTabs, space, spaces_are_passed, true, went, Whitespace, ℕ, ◌++◌, ◌≡◌, nat_tests, eqb-true, arith, EndsAs}
use Rattle.proof_lexers.specs.PlainEnds.{has_break}

-- of a scan that ends as its text says, what was read
pub read_holds : {A : Type 0} {Reads : A → Type 0} {Why : Fault → Type 0} {x : Result A Fault} → EndsAs Reads Why x → Holds Reads x
read_holds a = grind (arith, nat_tests, eqb-true, went, refused)

-- Within a line blanks and a comment were passed.
pub record Spaced (tabs : SkipTabs) (t u : ScannerState) : Type 0 where
  pub blanks : List ℕ
  pub comment : List ℕ
  pub is_rest : t.rest ≡ blanks ++ (comment ++ u.rest)
  pub are_blanks : are_spaces tabs blanks ≡ true
  pub is_filled : is_separation false (blanks ++ comment) u.rest ≡ true
  pub no_break : has_break (blanks ++ comment) ≡ false
  pub ends : ends_spaces tabs u.rest ≡ true
  pub is_held : u.held ≡ record t.held { position = position_after t.held.position (blanks ++ comment) u.rest }

pub spaced : (tabs : SkipTabs) (t : ScannerState) (go : Whitespace → ScannerState → Result ScannerState Fault) (P : ScannerState → Type 0) → ((w : Whitespace) (u : ScannerState) → Spaced tabs t u → Holds P (go w u)) → Holds P (lexed (space tabs t.rest t.held.position) t.held go)
spaced tabs t go P f = read t.held (space tabs t.rest t.held.position) go (λ x k. f x.value _ (let s = read_as k (spaces_are_passed tabs t.rest t.held.position) in grind (arith, s)))

pub spaces_skipped : (tabs : SkipTabs) (t : ScannerState) → Holds (Spaced tabs t) (skip_spaces tabs t)
unfolding skip_spaces
spaces_skipped tabs t = spaced tabs t _ (Spaced tabs t) (λ w u s. went s)
