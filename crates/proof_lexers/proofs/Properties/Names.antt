-- The names of anchors and aliases are read as they stand.
use Rattle.proof_lexers.proofs.Common.{[], after, all_of, ap, arith, EndsAs, false, further, is_anchor, is_anchor_name, IsNameRead, IsNameRefusal, leading, length, List, nameless, NamesAreRead, NamesEndAsTheirTextSays, past, Position, reads, refl, refuses, true, ℕ, ◌++◌, ◌∙◌, ◌∷◌, ◌≡◌, same_flow, same_gap, same_place, span_cut, all_leading, ends_after, leading_none, leading_all, taken}
use Rattle.model_scanner.specs.Anchor.{some_name, anchor_name}
use Rattle.defs_token.specs.Piece.{goes_on_with_name}
use Rattle.proof_lexers.specs.NameEnds.{named}

read_by : (c : ℕ) (text : List ℕ) (p : Position) → anchor_name (c ∷ text) p ≡ some_name p (record { rest = after is_anchor_name text; position = further (length (leading is_anchor_name text)) (past p); value = leading is_anchor_name text })
unfolding anchor_name is_anchor_name is_anchor
read_by c text p = ap (some_name p) (taken is_anchor_name is_anchor (λ c. rw (same_gap c, same_flow c) refl) text (past p) [])

pub names_are_read : NamesAreRead
names_are_read c a rest p h e = grind (arith, leading_all, read_by, same_place)

ended : (c : ℕ) (p : Position) (name rest : List ℕ) → all_of is_anchor_name name ≡ true → goes_on_with_name rest ≡ false → EndsAs (IsNameRead p (name ++ rest)) (IsNameRefusal p (name ++ rest)) (anchor_name (c ∷ (name ++ rest)) p)
ended c p [] rest h e = refuses _ (nameless e) (read_by c rest p ∙ rw (leading_none is_anchor_name rest e).0 refl)
ended c p (d ∷ name) rest h e = reads _ (named (d ∷ name) rest refl h e) (names_are_read c (d ∷ name) rest p h e)

pub names_end : NamesEndAsTheirTextSays
names_end c text p = rw (span_cut is_anchor_name text) (ended c p (leading is_anchor_name text) (after is_anchor_name text) (all_leading is_anchor_name text) (ends_after is_anchor_name text))
