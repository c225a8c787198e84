-- A block scalar has one end.
use Rattle.proof_row.proofs.Common.{cases_Bool, [], ap, append-nil, append_assoc, block_read, BlockRead, BlockScalarsHaveOneEnd, body, Bool, column_by, content_column, Ending, false, further_text, has_no_nul, Header, header_of, inl, inr, is_at_end, is_break, is_further_text, List, None, Option, read_body, read_lines, read_split, refl, Some, Split, split, subst, sym, true, value_by, ℕ, ◌++◌, ◌==◌, ◌||◌, ◌∙◌, ◌∷◌, ◌≡◌, arith, both, untrue, no_nul_after}
use Rattle.defs_text.specs.BlockScalar.{unbroken}
use Rattle.proof_row.proofs.Splits.{splits}
use Rattle.proof_row.proofs.Lines.{of_lines, lines_after, split_append, up_to_break, first_line, line_of, line_is, line_more, no_lines}
use Rattle.proof_row.proofs.Columns.{column_same, IsBefore, further, further_is_no_break, no_rows}

-- ---- its first character

-- a block scalar has a header
pub has_header : (collection : Option ℕ) (lines : List (List ℕ)) (last next : List ℕ) (at_end : Bool) (r : BlockRead) → read_lines collection lines last next at_end ≡ Some r → header_of (first_line lines last) ≡ None → ⊥
has_header collection a last next b r e f = grind arith

-- whether a text begins with the indicator of a block scalar
abbrev pub begins_block : List ℕ → Bool
begins_block [] = false
begins_block (c ∷ r) = (c == 124) || (c == 62)

no_header : (l : List ℕ) → begins_block l ≡ false → header_of l ≡ None
no_header a h = grind arith

line_begins : (p : List ℕ) → begins_block (up_to_break p) ≡ begins_block p
unfolding is_break
line_begins [] = refl
line_begins (c ∷ r) = grind arith

-- A block scalar begins with `|` or `>`.
pub block_begins : (collection : Option ℕ) (p x : List ℕ) (r : BlockRead) → block_read collection p x ≡ Some r → begins_block p ≡ true
block_begins collection p x r e = elim (cases_Bool (begins_block p)) [
  | inl f ↦ f
  | inr f ↦ absurd (has_header collection ((split p).complete) ((split p).last) x (is_at_end x) r e (no_header (line_of p) (ap begins_block (line_is p) ∙ (line_begins p ∙ f))))
]

-- a block scalar before further text: its header, and lines that all have their breaks
record BeforeText (collection : Option ℕ) (s : Split) (next : List ℕ) : Type 0 where
  pub head : List ℕ
  pub lines : List (List ℕ)
  pub header : Header
  pub is_split : s ≡ of_lines (head ∷ lines) []
  pub is_header : header_of head ≡ Some header
  pub is_further : is_further_text (column_by header.digit collection lines) next ≡ true

-- what has no value is not read
unread : (h : Header) (collection : Option ℕ) (lines : List (List ℕ)) (ending : Ending) (next : List ℕ) (r : BlockRead) → value_by h (content_column h collection lines ending) lines ending ≡ None →
    read_body (Some h) collection (body lines ending) next ≡ Some r → ⊥
unread h collection lines ending next r e f = grind arith

-- ---- two block scalars

not_at_end : (z y : List ℕ) → (z ≡ [] → ⊥) → has_no_nul (z ++ y) ≡ true → is_at_end (z ++ y) ≡ false
not_at_end [] y n c = absurd (n refl)
not_at_end (d ∷ z) y n c = untrue _ (both _ _ c).0

at_end : (y : List ℕ) → has_no_nul y ≡ true → is_at_end y ≡ true → y ≡ []
at_end a c e = grind arith

-- The lines of a longer scalar, of which the first after the shorter one is further text.
longer_lines : (collection : Option ℕ) (head : List ℕ) (ls : List (List ℕ)) (h : Header) (z y : List ℕ) (zs : List (List ℕ)) (last : List ℕ) (s : BlockRead) → header_of head ≡ Some h →
    split z ≡ of_lines zs last → is_further_text (column_by h.digit collection ls) (z ++ y) ≡ true → (z ≡ [] → ⊥) → has_no_nul y ≡ true →
    (at_end : Bool) → is_at_end y ≡ at_end → read_lines collection (head ∷ (ls ++ zs)) last y at_end ≡ Some s → ⊥
longer_lines collection head ls h z y zs last s i j k n c true e f =
    let ended : y ≡ [] = at_end y c e in
    let first : up_to_break (z ++ y) ≡ first_line zs last =
    ap (λ x. up_to_break (z ++ x)) ended ∙ (ap up_to_break (append-nil z) ∙ (sym (line_is z) ∙ ap (λ x. first_line (x.complete) (x.last)) j)) in
    let b : IsBefore (column_by h.digit collection ls) (first_line zs last) = subst (λ l. IsBefore (column_by h.digit collection ls) l) first (further _ _ k) in
    unread h collection (ls ++ zs) (unbroken last) y s (grind (arith, no_rows, append-nil, column_same, append_assoc)) (ap (λ o. read_body o collection (body (ls ++ zs) (unbroken last)) y) (sym i) ∙ f)
longer_lines collection head ls h z y zs (d ∷ last) s i j k n c false e f = cc f
longer_lines collection head ls h z y [] [] s i j k n c false e f = n (no_lines z j)
longer_lines collection head ls h z y (l ∷ zs) [] s i j k n c false e f =
    let lines : (split z).complete ≡ [] → ⊥ = λ g. absurd (cc (sym (ap (λ x. x.complete) j) ∙ g)) in
    let first : up_to_break (z ++ y) ≡ l = line_more z lines y ∙ (sym (line_is z) ∙ ap (λ x. first_line (x.complete) (x.last)) j) in
    let b : IsBefore (column_by h.digit collection ls) l = subst (λ l. IsBefore (column_by h.digit collection ls) l) first (further _ _ k) in
    unread h collection (ls ++ (l ∷ zs)) further_text y s (grind (arith, no_rows, column_same)) (ap (λ o. read_body o collection (body (ls ++ (l ∷ zs)) further_text) y) (sym i) ∙ f)

-- A block scalar does not go on over further text.
over : (collection : Option ℕ) (p z y : List ℕ) (r s : BlockRead) → block_read collection p (z ++ y) ≡ Some r → block_read collection (p ++ z) y ≡ Some s → (z ≡ [] → ⊥) → has_no_nul (z ++ y) ≡ true → ⊥
over collection p z y r s e f n c =
    let goes : is_at_end (z ++ y) ≡ false = not_at_end z y n c in
    let part : BeforeText collection (of_lines ((split p).complete) ((split p).last)) (z ++ y) =
    (grind arith) in
    let whole : split (p ++ z) ≡ lines_after (part.head ∷ part.lines) (split z) =
    split_append p z (part.head ∷ part.lines) part.is_split (let none = further_is_no_break (column_by part.header.digit collection part.lines) (z ++ y) part.is_further in grind (arith, none)) in
    longer_lines collection part.head part.lines part.header z y ((split z).complete) ((split z).last) s part.is_header refl part.is_further n (no_nul_after z y c) (is_at_end y) refl
    (ap (λ x. read_split collection x y) (sym whole) ∙ f)

pub blocks : BlockScalarsHaveOneEnd
blocks collection p q x y h k e = elim (splits p q x y e) [
  | inl m ↦ longer p q x y h.0 k.0 h.1 k.1 h.2 m.more m.longer m.rest
  | inr m ↦ let same : (q ≡ p) × (y ≡ x) = longer q p y x k.0 h.0 k.1 h.1 k.2 m.more m.longer m.rest in (sym same.0, sym same.1)
]
  where
    longer : (p q x y : List ℕ) (r s : BlockRead) → block_read collection p x ≡ Some r → block_read collection q y ≡ Some s → has_no_nul (p ++ x) ≡ true → (more : List ℕ) → q ≡ p ++ more → x ≡ more ++ y → (p ≡ q) × (x ≡ y)
    longer p q x y r s h k c [] f g = (sym (f ∙ append-nil p), g)
    longer p q x y r s h k c (d ∷ z) f g =
        absurd (over collection p (d ∷ z) y r s (cc) (cc) (λ i. cc i) (subst (λ t. has_no_nul t ≡ true) g (no_nul_after p x c)))
