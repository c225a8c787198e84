-- What a piece of an implicit key stays when other block collections are open: its key is known to be one only at its colon.
use Rattle.std.proofs.Common.{arith}
use Rattle.defs_token.proofs.Common.{[], Account, after_blank, alias, anchor, block_end, Bool, collection_column, document_end, document_start, double_quoted, ends_plain, false, flow_entry, flow_mapping_end, flow_mapping_start, flow_sequence_end, flow_sequence_start, folded, goes_on, has_no_break, inside, is_blank, is_break, is_in_flow, is_whole_plain, IsPiece, key, List, literal, not, on_line, Option, past, plain, Position, refl, scalar, single_quoted, Stand, stops, sym, tag, tag_directive, Tok, true, value, version_directive, ℕ, ◌&&◌, ◌++◌, ◌||◌, ◌∙◌, ◌∷◌, ◌≡◌}

-- whether no break stands before a text's next character that is no blank
abbrev pub is_in_line : List ℕ → Bool
is_in_line [] = true
is_in_line (c ∷ r) = not (is_break c) && (not (is_blank c) || is_in_line r)

-- whether no break stands before a position of a plain scalar
abbrev is_on_first_line : Stand → Bool
is_on_first_line inside = true
is_on_first_line after_blank = true
is_on_first_line (on_line k) = false

past_in_line : (s : Stand) (c : ℕ) → is_break c ≡ false → is_on_first_line s ≡ true → is_on_first_line (past s c) ≡ true
past_in_line inside c h i = grind arith
past_in_line after_blank c h i = grind arith
past_in_line (on_line k) c h i = cc

ends_alike : (fl : Bool) (c d : Option ℕ) (s : Stand) (r : List ℕ) → is_on_first_line s ≡ true → ends_plain fl c s r ≡ ends_plain fl d s r
ends_alike fl c d inside r i = refl
ends_alike fl c d after_blank r i = refl
ends_alike fl c d (on_line k) r i = cc

goes_on_alike : (fl : Bool) (c d : Option ℕ) (s : Stand) (p n : List ℕ)
    → has_no_break p ≡ true → is_on_first_line s ≡ true → goes_on fl c s p n ≡ goes_on fl d s p n
goes_on_alike fl c d s [] n h i = refl
goes_on_alike fl c d s (x ∷ r) n h i =
    grind (arith, ends_alike fl c d s (x ∷ (r ++ n)) i, past_in_line s x, goes_on_alike fl c d (past s x) r n)

stops_alike : (fl : Bool) (c d : Option ℕ) (s : Stand) (n : List ℕ)
    → is_in_line n ≡ true → is_on_first_line s ≡ true → stops fl c s n ≡ stops fl d s n
stops_alike fl c d s [] h i = refl
stops_alike fl c d s (x ∷ r) h i = grind (arith, ends_alike fl c d s (x ∷ r) i, past_in_line s x, stops_alike fl c d (past s x) r)

-- a plain scalar on one line is whole whatever block collection is open
whole_alike : (fl : Bool) (c d : Option ℕ) (p n : List ℕ)
    → has_no_break p ≡ true → is_in_line n ≡ true → is_whole_plain fl c p n ≡ is_whole_plain fl d p n
whole_alike fl c d [] n h i = refl
whole_alike fl c d (x ∷ r) n h i = grind (arith, goes_on_alike fl c d inside r n, stops_alike fl c d inside n i)

-- whether a token may belong to a implicit key
abbrev pub is_of_key : Tok → Bool
is_of_key (alias n) = true
is_of_key (anchor n) = true
is_of_key (tag h s) = true
is_of_key (scalar plain t) = true
is_of_key (scalar single_quoted t) = true
is_of_key (scalar double_quoted t) = true
is_of_key flow_sequence_start = true
is_of_key flow_sequence_end = true
is_of_key flow_mapping_start = true
is_of_key flow_mapping_end = true
is_of_key flow_entry = true
is_of_key key = true
is_of_key value = true
is_of_key _ = false

-- an account with other block collections
abbrev pub with_blocks : List (Option ℕ) → Account → Account
with_blocks bs a = record a { blocks = bs }

-- a piece of a implicit key belongs to its token whatever block collections are open
pub piece_with_blocks : (bs : List (Option ℕ)) (a : Account) (p n : List ℕ) (o : Option Tok) (at : Position) (t : Tok) →
    is_of_key t ≡ true → has_no_break p ≡ true → is_in_line n ≡ true → IsPiece a p n o at t → IsPiece (with_blocks bs a) p n o at t
piece_with_blocks bs a p n o at (scalar plain x) k h i q =
    ((q.0.0, sym (whole_alike (is_in_flow a) (collection_column a) (collection_column (with_blocks bs a)) p n h i) ∙ q.0.1, q.0.2), q.1)
piece_with_blocks bs a p n o at (version_directive x y) k h i q = absurd (cc k)
piece_with_blocks bs a p n o at (tag_directive x y) k h i q = absurd (cc k)
piece_with_blocks bs a p n o at document_start k h i q = absurd (cc k)
piece_with_blocks bs a p n o at document_end k h i q = absurd (cc k)
piece_with_blocks bs a p n o at block_end k h i q = absurd (cc k)
piece_with_blocks bs a p n o at (scalar literal x) k h i q = absurd (cc k)
piece_with_blocks bs a p n o at (scalar folded x) k h i q = absurd (cc k)
piece_with_blocks bs a p n o at t k h i q = q
