-- JSON values have rows, with the white space between their parts; plain scalars on one line as pieces.
use Rattle.proof_loads.proofs.Common.{[], after, after_blank, and_false, and_from, and_parts, another, ap, are_marks, are_pieces, AreElements, AreMembers, arith, array, begins_flow, begins_plain, begins_with, Blank, blank_character, Bool, codes, colon_may_precede, element, element_levels, element_tokens, Elements, empty_array, empty_object, ends_with_content, ends_with_dash, Entry, false, false_word, filled, first_entry, flow_collection, flow_entry, flow_mapping_end, flow_mapping_start, flow_sequence_end, flow_sequence_start, fresh, goes_on, goes_on_quoted, Had, has_dash_before_flow, has_no_break, has_tab_within, inl, innermost, innermost_column, inside, is_at_gap, is_blank, is_blank_or_end, is_blanks_and_comment, is_break, is_document_marker, is_empty, is_flow, is_keyed, is_nul, is_on_line, is_one_of, is_separation, is_whole_plain, double, IsJson, Json, json_tokens, last_element, last_member, leading, length, length-map, level_of, levels, List, list_all, map, mapping, member, member_levels, member_tokens, Members, nat_lt, nat_tests, not, not-true, null_word, object, Option, Piece, plain_element, plain_lines_fit, plain_scalar, plain_value, Position, position_after, quoted_may_end, quoted_scalar, refl, settled, Some, spell, spell_elements, spell_members, spell_number, spell_string, split, Stand, stops, string, string_token, Style, subst, suc, TabsBeginLines, Tok, true, true_word, zero, ℕ, ◌&&◌, ◌++◌, ◌+◌, ◌<◌, ◌==◌, ◌||◌, ◌∷◌, ◌≡◌, ◌≤◌, list_all-more, or_true, if◌then◌else◌}
use Rattle.proof_loads.proofs.HasRows.Strings.{IsOneLine, nothing, plain_step, value_is, body_of, quoted, quoted_is, quoted_piece, string_is}
use Rattle.proof_loads.proofs.PlainTexts.{is_plain_char, are_plain, closes, IsPlainText, is_first, is_second, first_char, is_word, are_words, IsWord, word_text}
use Rattle.defs_layout.specs.JsonGap.{spell_gap}
use Rattle.proof_loads.proofs.JsonTokens.Spaces.{AreSpaces, HasSpaces, HaveSpaces, MembersHaveSpaces}
use Rattle.proof_loads.proofs.HasRows.Nodes.{IsDeep, deep_char, Parts, closing_bracket, deep_piece, none_ends, entry_of, awaiting, opening, closing, opening_bracket, From, Then, Shown, flow_reads, Place, outside, within, entries_before, entries_after, flows, place_reads, step_of, HasNone, of_class}
use Rattle.proof_loads.proofs.JsonTokens.Numbers.{number_then, number_word}

pub record PlainChar (c : ℕ) : Type 0 where
  pub break : is_break c ≡ false
  pub blank : is_blank c ≡ (c == 32)
  pub colon : (c == 58) ≡ false
  pub hash : (c == 35) ≡ false
  pub nul : is_nul c ≡ false

pub plain_char : (c : ℕ) → is_plain_char c ≡ true → PlainChar c
unfolding is_break is_blank is_nul
plain_char c h = grind arith

-- a character that may stand in a plain scalar in flow
abbrev pub is_in_flow : ℕ → Bool
is_in_flow c = not (is_flow c) && not (c == 32)

-- in flow each is such a character
abbrev pub MayFlow : (in_flow : Bool) → List ℕ → Type 0
MayFlow in_flow w = in_flow ≡ true → list_all is_in_flow w ≡ true

-- ---- the value

elements_are : (w : List ℕ) → are_plain w ≡ true → IsOneLine plain_element w w
elements_are [] h = nothing
elements_are (c ∷ w) h = let q = and_parts (is_plain_char c) (are_plain w) h in plain_step plain_element c w w refl (plain_char c q.0).break (elements_are w q.1)

-- ---- its lines

is_one_line : (w : List ℕ) → has_no_break w ≡ true → split w ≡ record { complete = []; last = w }
is_one_line [] h = refl
is_one_line (c ∷ w) h = let q = and_parts (not (is_break c)) (has_no_break w) h in rw (not-true (is_break c) q.0, is_one_line w q.1) refl

-- ---- where it ends

module _ (in_flow : Bool) (collection : Option ℕ) (next : List ℕ) where
  abbrev stand : (after_space : Bool) → Stand
  stand after_space = if after_space then after_blank else inside

  goes_over : (b : Bool) (w : List ℕ) → are_plain w ≡ true → MayFlow in_flow w → goes_on in_flow collection (stand b) w next ≡ true
  goes_over b [] h flow = refl
  goes_over b (c ∷ w) h flow = grind (arith, and_parts, plain_char, goes_over (c == 32) w)

ends_full : (c : ℕ) (w : List ℕ) → is_plain_char c ≡ true → are_plain w ≡ true → closes (c == 32) w ≡ true → ends_with_content c w ≡ true
ends_full c [] one h e = grind (arith, plain_char, not-true)
ends_full c (d ∷ w) one h e = grind (arith, and_parts, ends_full d w)

-- ---- where it begins

unmarked : (c : ℕ) (w next : List ℕ) → is_second c w ≡ true → is_document_marker (c ∷ (w ++ next)) ≡ false
unfolding are_marks
unmarked c w next h = grind (arith, nat_tests, and_parts, not, not-true)

no_gap : (d : ℕ) → is_plain_char d ≡ true → (d == 32) ≡ false → is_blank_or_end d ≡ false
unfolding is_blank_or_end
no_gap d h e = let z = plain_char d h in rw (z.blank, e, z.break, z.nul) refl

begins : (in_flow adjacent : Bool) (column c : ℕ) (w next : List ℕ) → is_first c ≡ true → is_second c w ≡ true → are_plain w ≡ true → MayFlow in_flow (c ∷ w) → begins_plain in_flow adjacent column (c ∷ (w ++ next)) ≡ true
begins in_flow adjacent column c w next first second plain flow =
    rw (unmarked c w next second, and_false (column == 0)) (grind (arith, nat_tests, and_parts, not-true, first_char, plain_char, no_gap))

-- ---- the piece

-- what a piece says that is a plain scalar on one line, before a text
pub record IsPlainPiece (in_flow : Bool) (collection : Option ℕ) (w next : List ℕ) : Type 0 where
  pub begins : (adjacent : Bool) (column : ℕ) → begins_plain in_flow adjacent column (w ++ next) ≡ true
  pub whole : is_whole_plain in_flow collection w next ≡ true
  pub value : plain_value w ≡ Some w
  pub fits : (column : ℕ) → plain_lines_fit column w ≡ true
  pub no_break : has_no_break w ≡ true
  pub some : not (is_empty w) ≡ true
  pub no_dash : (in_flow && has_dash_before_flow w next) ≡ false
  pub none : HasNone w

no_last_dash : (w : List ℕ) → are_plain w ≡ true → list_all is_in_flow w ≡ true → ends_with_dash w ≡ false
no_last_dash [] h flow = refl
no_last_dash (c ∷ w) h flow = grind (arith, plain_char, not-true, and_parts, no_last_dash w)

dashless : (in_flow : Bool) (w next : List ℕ) → are_plain w ≡ true → MayFlow in_flow w → (in_flow && has_dash_before_flow w next) ≡ false
dashless a w b h flow = grind (arith, no_last_dash)

pub plain_piece : (in_flow : Bool) (collection : Option ℕ) (w next : List ℕ) → IsPlainText w → MayFlow in_flow w → stops in_flow collection inside next ≡ true → IsPlainPiece in_flow collection w next
unfolding plain_value
plain_piece in_flow collection [] next text flow stops = absurd text
plain_piece in_flow collection (c ∷ v) next text flow stops =
    let one = (first_char c text.first).0 in
    let all : are_plain (c ∷ v) ≡ true = and_from _ _ one text.chars in
    let full = ends_full c v one text.chars (rw (first_char c text.first).1 text.close) in
    let z = elements_are (c ∷ v) all in
    record {
      begins = λ adjacent column. begins in_flow adjacent column c v next text.first text.second text.chars flow;
      whole = rw (goes_over in_flow collection next false v text.chars (λ e. (and_parts (is_in_flow c) (list_all is_in_flow v) (flow e)).1), full, stops) refl;
      value = value_is plain_element (c ∷ v) (c ∷ v) z;
      fits = λ column. rw (is_one_line (c ∷ v) z.no_break) refl;
      no_break = z.no_break;
      some = refl;
      no_dash = dashless in_flow (c ∷ v) next all flow;
      none = of_class is_plain_char refl (c ∷ v) all;
    }

-- the white space as text
abbrev pub white : List Blank → List ℕ
white g = map blank_character g

pub spelt : (g : List Blank) (r : List ℕ) → spell_gap g r ≡ white g ++ r
spelt [] r = refl
spelt (b ∷ g) r = ap (λ x. blank_character b ∷ x) (spelt g r)

-- within a block collection only spaces may stand
abbrev pub MayStand : List ℕ → List Blank → Type 0
MayStand bs g = is_empty bs ≡ false → AreSpaces g

pub separates : (g : List Blank) (next : List ℕ) → is_separation false (white g) next ≡ true
unfolding is_blank is_break
separates [] next = refl
separates (b ∷ g) next = grind (arith, separates g next)

pub white_none : (g : List Blank) → HasNone (white g)
white_none [] = refl
white_none (b ∷ g) = grind (arith, white_none g)

one_line : (g : List Blank) → AreSpaces g → split (white g) ≡ record { complete = []; last = white g }
unfolding is_break
one_line [] h = refl
one_line (b ∷ g) h = grind (arith, one_line g)

no_tab : (n : ℕ) (g : List Blank) → AreSpaces g → has_tab_within n (white g) ≡ false
no_tab zero g h = refl
no_tab (suc n) [] h = refl
no_tab (suc n) (b ∷ g) h = grind (arith, no_tab n g)

deep_gap : (bs : List ℕ) (g : List Blank) (p : Position) (next : List ℕ) → MayStand bs g → IsDeep bs p → IsDeep bs (position_after p (white g) next)
unfolding is_break
deep_gap bs [] p next may deep = deep
deep_gap bs (b ∷ g) p next may deep = grind (arith, deep_char, deep_gap bs g)

pub blanks : (bs : List ℕ) (g : List Blank) (rest : List ℕ) → MayStand bs g → Parts bs (spell_gap g rest) rest
blanks bs g rest may = record { by = white g; is = spelt g rest; separates = separates g rest; tabless = λ awaits. grind (arith, one_line, no_tab); deep = λ p. deep_gap bs g p rest may; none = white_none g }

-- ---- what follows a value

-- a text that may follow a scalar or a collection
pub record Ends (in_flow : Bool) (collection : Option ℕ) (r : List ℕ) : Type 0 where
  pub stopped : stops in_flow collection inside r ≡ true
  pub done : (piece : List ℕ) → quoted_may_end in_flow piece r ≡ true
  pub no_comment : begins_with 35 r ≡ false

-- after white space it may follow a quoted scalar, and begins no comment
pub record Edge (in_flow : Bool) (r : List ℕ) : Type 0 where
  pub done : (piece : List ℕ) → quoted_may_end in_flow piece r ≡ true
  pub rest : (piece : List ℕ) → (is_blanks_and_comment (leading is_on_line r) || goes_on_quoted in_flow piece (after is_blank r)) ≡ true
  pub no_comment : begins_with 35 r ≡ false

-- a plain scalar ends there
abbrev pub Stops : (in_flow : Bool) → Option ℕ → List ℕ → Type 0
Stops in_flow collection r = (s : Stand) → stops in_flow collection s r ≡ true

stopped_past : (in_flow : Bool) (collection : Option ℕ) (r : List ℕ) → Stops in_flow collection r → (g : List Blank) → Stops in_flow collection (spell_gap g r)
unfolding is_blank is_break
stopped_past in_flow collection r stop [] s = stop s
stopped_past in_flow collection r stop (b ∷ g) s = grind (arith, stopped_past in_flow collection r stop g)

pub no_comment_past : (r : List ℕ) → begins_with 35 r ≡ false → (g : List Blank) → begins_with 35 (spell_gap g r) ≡ false
no_comment_past r h [] = h
no_comment_past r h (b ∷ g) = grind arith

module _ (in_flow : Bool) (r : List ℕ) (edge : Edge in_flow r) where
  rest_past : (g : List Blank) (piece : List ℕ) → (is_blanks_and_comment (leading is_on_line (spell_gap g r)) || goes_on_quoted in_flow piece (after is_blank (spell_gap g r))) ≡ true
  unfolding is_blank is_break
  rest_past [] piece = edge.rest piece
  rest_past (b ∷ g) piece = grind (arith, rest_past g)

  pub done_past : (g : List Blank) (piece : List ℕ) → quoted_may_end in_flow piece (spell_gap g r) ≡ true
  unfolding is_blank is_break
  done_past [] piece = edge.done piece
  done_past (b ∷ g) piece = grind (arith, rest_past)

  pub ends : (collection : Option ℕ) → Stops in_flow collection r → (g : List Blank) → Ends in_flow collection (spell_gap g r)
  ends collection stop g = record { stopped = stopped_past in_flow collection r stop g inside; done = done_past g; no_comment = no_comment_past r edge.no_comment g }

-- the end of a text
pub at_end : Edge false []
at_end = record { done = λ piece. refl; rest = λ piece. refl; no_comment = refl }

-- a character that ends an entry, or a colon
at_mark : (c : ℕ) (r : List ℕ) → is_blank c ≡ false → (c == 35) ≡ false → is_one_of (codes ",]}:") c ≡ true → Edge true (c ∷ r)
at_mark c r no_blank hash mark = grind arith

-- one that ends an entry
flow_ends : (collection : Option ℕ) (c : ℕ) (g : List Blank) (r : List ℕ) → is_blank c ≡ false → is_break c ≡ false → is_flow c ≡ true → (c == 35) ≡ false → is_one_of (codes ",]}:") c ≡ true → Ends true collection (spell_gap g (c ∷ r))
flow_ends collection c g r no_blank break flow hash mark = ends true (c ∷ r) (at_mark c r no_blank hash mark) collection (λ s. rw (no_blank, break, flow) (or_true _)) g

-- ---- what a colon stands before

-- a text that begins neither with a TAB nor with a comment
pub record IsSolid (r : List ℕ) : Type 0 where
  pub no_tab : begins_with 9 r ≡ false
  pub no_comment : begins_with 35 r ≡ false

-- so after white space
pub solid_past : (g : List Blank) (r : List ℕ) → TabsBeginLines false g → IsSolid r → IsSolid (spell_gap g r)
solid_past [] r h z = z
solid_past (b ∷ g) r h z = grind arith

pub colon_stands : (r : List ℕ) → IsSolid r → colon_may_precede r ≡ true
colon_stands r z = rw (z.no_tab) refl

-- ---- what a value begins with

value_solid : (v : Json) (r : List ℕ) → IsJson v → IsSolid (spell v r)
value_solid (Json.number n) r is =
    let word_solid : IsSolid ((spell_number n []) ++ r) = grind (arith, nat_tests, and_parts, is_word, are_words) in
    rw (number_then n r) (word_solid)
value_solid v r is = grind arith

elements_solid : (es : Elements) (r : List ℕ) → AreElements es → IsSolid (spell_elements es r)
elements_solid (last_element v a) r are = value_solid v _ are.0
elements_solid (element v a b es) r are = value_solid v _ are.0

members_solid : (ms : Members) (r : List ℕ) → IsSolid (spell_members ms r)
members_solid (last_member k g h v a) r = record { no_tab = refl; no_comment = refl }
members_solid (member k g h v a b ms) r = record { no_tab = refl; no_comment = refl }

-- ---- pieces

pub column_is : (bs : List ℕ) → innermost_column (map (λ n. Some n) bs) ≡ innermost bs
column_is a = grind arith

module _ (bs : List ℕ) where
  pub plain_shown : (pl : Place) (f w next : List ℕ) → IsPlainPiece (flows pl) (innermost bs) w next → Shown another bs (entries_before pl) (step_of f w (Tok.scalar Style.plain w) false) next
  plain_shown outside f w next z p awaits l there = rw (none_ends bs (position_after p f (w ++ next)).col there, column_is bs) (z.some, ((z.begins false _, z.whole, z.value), refl))
  plain_shown (within b es) f w next z p awaits l there = rw (column_is bs) (z.some, ((z.begins false _, z.whole, z.value), refl))

  word_reads : (w : List ℕ) → IsWord w → (pl : Place) (text r : List ℕ) (tokens : List Tok) → Parts bs text (w ++ r) → Ends (flows pl) (innermost bs) r
      → Then bs (entries_after pl []) r tokens → From another bs (entries_before pl) text (Tok.scalar Style.plain w ∷ tokens)
  unfolding is_flow
  word_reads w word pl text r tokens parts ends rest =
      let flow : list_all is_in_flow w ≡ true = list_all-more is_word is_in_flow (λ c e. grind (arith, nat_tests)) w word.chars in
      let z = plain_piece (flows pl) (innermost bs) w r (word_text w word) (λ e. flow) ends.stopped in
      place_reads bs w (Tok.scalar Style.plain w) text r tokens parts z.none pl (deep_piece bs w r z.no_break) (λ s e. z.fits _) refl (plain_shown pl parts.by w r z) (rw (z.no_dash) refl) (rest plain_scalar (λ f. refl))

  few : (es : List Entry) → length es < 255 → nat_lt (length (map level_of es)) 255 ≡ true
  few es h = rw length-map (grind (arith, h))

  begun : (b : Bool) (pl : Place) (r : List ℕ) (tokens : List Tok) → From another bs (entry_of b fresh ∷ entries_after pl []) r tokens → From another bs (entries_after pl (entry_of b fresh ∷ [])) r tokens
  begun b pl r tokens h = grind (arith, nat_tests)

  -- an opening bracket
  pub opens : (b : Bool) (pl : Place) (text r : List ℕ) (tokens : List Tok) → Parts bs text (opening_bracket b ∷ r) → begins_with 35 r ≡ false → length (entries_before pl) < 255
      → From another bs (entry_of b fresh ∷ entries_after pl []) r tokens → From another bs (entries_before pl) text (opening b ∷ tokens)
  unfolding is_break
  opens true pl text r tokens parts no_comment room rest =
      place_reads bs (123 ∷ []) flow_mapping_start text r tokens parts refl pl (deep_piece bs (123 ∷ []) r refl) (λ s e. refl) refl (λ p awaits l there. (refl, inl ((refl, few (entries_before pl) room), refl))) (rw no_comment refl) (begun true pl r tokens rest)
  opens false pl text r tokens parts no_comment room rest =
      place_reads bs (91 ∷ []) flow_sequence_start text r tokens parts refl pl (deep_piece bs (91 ∷ []) r refl) (λ s e. refl) refl (λ p awaits l there. (refl, ((refl, few (entries_before pl) room), refl))) (rw no_comment refl) (begun false pl r tokens rest)

  pub bracket_closes : (b : Bool) (h : Had) → is_keyed h ≡ false → (es : List Entry) (g : List Blank) (r : List ℕ) (tokens : List Tok) → MayStand bs g → begins_with 35 r ≡ false
      → Then bs es r tokens → Then bs (entry_of b h ∷ es) (spell_gap g (closing_bracket b ∷ r)) (closing b ∷ tokens)
  unfolding is_break
  bracket_closes true h ends es g r tokens may no_comment rest before quiet =
      flow_reads bs (125 ∷ []) flow_mapping_end _ r tokens (blanks bs g (125 ∷ r) may) refl (deep_piece bs (125 ∷ []) r refl) (λ s e. refl) before (entry_of true h) es (λ here. es) false [] refl
      (λ p awaits l there. (refl, inl ((refl, refl), refl))) (rw no_comment refl) (λ here. grind arith) (λ here colon own. refl) (λ here. rest flow_collection (λ f. refl))
  bracket_closes false h ends es g r tokens may no_comment rest before quiet =
      flow_reads bs (93 ∷ []) flow_sequence_end _ r tokens (blanks bs g (93 ∷ r) may) refl (deep_piece bs (93 ∷ []) r refl) (λ s e. refl) before (entry_of false h) es (λ here. es) false [] refl
      (λ p awaits l there. (refl, ((refl, refl), refl))) (rw no_comment refl) (λ here. grind arith) (λ here colon own. refl) (λ here. rest flow_collection (λ f. refl))

  comma_goes : (b : Bool) (h : Had) → is_keyed h ≡ false → (es : List Entry) (g : List Blank) (r : List ℕ) (tokens : List Tok) → MayStand bs g → begins_with 35 r ≡ false
      → From another bs (entry_of b fresh ∷ es) r tokens → Then bs (entry_of b h ∷ es) (spell_gap g (44 ∷ r)) (flow_entry ∷ tokens)
  unfolding is_break
  comma_goes b h ends es g r tokens may no_comment rest before quiet =
      flow_reads bs (44 ∷ []) flow_entry _ r tokens (blanks bs g (44 ∷ r) may) refl (deep_piece bs (44 ∷ []) r refl) (λ s e. refl) before (entry_of b h) es (λ here. entry_of b fresh ∷ es) false [] refl
      (λ p awaits l there. (refl, ((refl, refl), refl))) (rw no_comment refl) (λ here. grind arith) (λ here colon own. refl) (λ here. rest)

  -- a key and its colon
  key_goes : (ps : List Piece) → are_pieces ps ≡ true → (es : List Entry) (text : List ℕ) (g : List Blank) (r : List ℕ) (tokens : List Tok) → Parts bs text (spell_string ps (spell_gap g (58 ∷ r))) → MayStand bs g → colon_may_precede r ≡ true
      → From another bs (awaiting true ∷ es) r tokens → From another bs (entry_of true fresh ∷ es) text (Tok.key ∷ string_token ps ∷ Tok.value ∷ tokens)
  unfolding is_blank is_break
  key_goes ps are es text g r tokens parts may follows rest =
      let next = spell_gap g (58 ∷ r) in
      let z = quoted_piece double (body_of ps) _ (string_is ps are) in
      flow_reads bs (quoted ps) (string_token ps) text next (Tok.value ∷ tokens) (subst (Parts bs text) (quoted_is ps next) parts) z.none (deep_piece bs (quoted ps) next z.no_break) (λ s e. z.further _)
      another (first_entry mapping) es (λ here. entry_of true (Had.waits here) ∷ es) true (Tok.key ∷ []) refl (λ p awaits l there. (refl, ((body_of ps, refl, z.value), refl))) (done_past true (58 ∷ r) (at_mark 58 r refl refl refl) g (quoted ps)) (λ here. refl) (λ here colon own. refl)
      (λ begin. flow_reads bs (58 ∷ []) Tok.value next r tokens (blanks bs g (58 ∷ r) may) refl (deep_piece bs (58 ∷ []) r refl) (λ s e. refl) quoted_scalar (entry_of true (Had.waits begin)) es (λ here. awaiting true ∷ es) false [] refl
      (λ p awaits l there. (refl, (refl, rw (or_true (begins_flow r), or_true (is_at_gap r)) refl))) follows (λ here. refl) (λ here colon own. refl) (λ here. rest))

-- ---- values

before_after : (pl : Place) → length (entries_after pl []) ≡ length (entries_before pl)
before_after a = grind arith

module _ (bs : List ℕ) where
  abbrev pub ReadsValue : Json → Type 0
  ReadsValue v = (pl : Place) (text r : List ℕ) (tokens : List Tok) → Parts bs text (spell v r) → Ends (flows pl) (innermost bs) r → length (entries_before pl) + levels v ≤ 255
      → Then bs (entries_after pl []) r tokens → From another bs (entries_before pl) text (json_tokens v tokens)

  pub empty_reads : (b : Bool) (a : List Blank) → MayStand bs a → (pl : Place) (text r : List ℕ) (tokens : List Tok) → Parts bs text (opening_bracket b ∷ spell_gap a (closing_bracket b ∷ r)) → begins_with 35 r ≡ false → length (entries_before pl) < 255
      → Then bs (entries_after pl []) r tokens → From another bs (entries_before pl) text (opening b ∷ closing b ∷ tokens)
  empty_reads b a may pl text r tokens parts no_comment few rest =
      opens bs b pl text (spell_gap a (closing_bracket b ∷ r)) (closing b ∷ tokens) parts (no_comment_past (closing_bracket b ∷ r) (grind arith) a) few
      (bracket_closes bs b fresh refl (entries_after pl []) a r tokens may no_comment rest another (λ f. refl))

  mutual
    unfolding is_blank is_break is_flow

    pub value_reads : (v : Json) → IsJson v → (is_empty bs ≡ false → HasSpaces v) → ReadsValue v
    value_reads false_word is may pl text r tokens parts ends few rest = word_reads bs (codes "false") (record { chars = refl; begins = refl }) pl text r tokens parts ends rest
    value_reads null_word is may pl text r tokens parts ends few rest = word_reads bs (codes "null") (record { chars = refl; begins = refl }) pl text r tokens parts ends rest
    value_reads true_word is may pl text r tokens parts ends few rest = word_reads bs (codes "true") (record { chars = refl; begins = refl }) pl text r tokens parts ends rest
    value_reads (Json.number n) is may pl text r tokens parts ends few rest = word_reads bs (spell_number n []) (number_word n is) pl text r tokens (subst (Parts bs text) (number_then n r) parts) ends rest
    value_reads (string ps) is may pl text r tokens parts ends few rest =
        let z = quoted_piece double (body_of ps) _ (string_is ps is) in
        place_reads bs (quoted ps) (string_token ps) text r tokens (subst (Parts bs text) (quoted_is ps r) parts) z.none pl (deep_piece bs (quoted ps) r z.no_break) (λ s e. z.further _) refl
        (λ p awaits l there. (refl, ((body_of ps, refl, z.value), refl))) (ends.done (quoted ps)) (rest quoted_scalar (λ f. refl))
    value_reads (empty_array a) is may pl text r tokens parts ends few rest = empty_reads false a may pl text r tokens parts ends.no_comment (omega (arith, few)) rest
    value_reads (empty_object a) is may pl text r tokens parts ends few rest = empty_reads true a may pl text r tokens parts ends.no_comment (omega (arith, few)) rest
    value_reads (array a es) is may pl text r tokens parts ends few rest =
        let n = before_after pl in
        opens bs false pl text (spell_gap a (spell_elements es (93 ∷ r))) _ parts (solid_past a _ is.0 (elements_solid es _ is.1)).no_comment (omega (arith, few))
        (elements_read es is.1 (λ e. (may e).1) (entries_after pl []) a r tokens (λ e. (may e).0) ends.no_comment (omega (arith, few, n)) rest)
    value_reads (object a ms) is may pl text r tokens parts ends few rest =
        let n = before_after pl in
        opens bs true pl text (spell_gap a (spell_members ms (125 ∷ r))) _ parts (solid_past a _ is.0 (members_solid ms _)).no_comment (omega (arith, few))
        (members_read ms is.1 (λ e. (may e).1) (entries_after pl []) a r tokens (λ e. (may e).0) ends.no_comment (omega (arith, few, n)) rest)

    -- elements up to the closing bracket, and over it; and so members
    elements_read : (es : Elements) → AreElements es → (is_empty bs ≡ false → HaveSpaces es)
        → (around : List Entry) (g : List Blank) (r : List ℕ) (tokens : List Tok) → MayStand bs g → begins_with 35 r ≡ false → length around + 1 + element_levels es ≤ 255
        → Then bs around r tokens → From another bs (entry_of false fresh ∷ around) (spell_gap g (spell_elements es (93 ∷ r))) (element_tokens es (flow_sequence_end ∷ tokens))
    elements_read (last_element v a) are may around g r tokens gap no_comment few rest =
        value_reads v are.0 (λ e. (may e).0) (within false around) _ (spell_gap a (93 ∷ r)) (flow_sequence_end ∷ tokens) (blanks bs g _ gap) (flow_ends (innermost bs) 93 a r refl refl refl refl refl) (omega (arith, few))
        (bracket_closes bs false filled refl around a r tokens (λ e. (may e).1) no_comment rest)
    elements_read (element v a b es) are may around g r tokens gap no_comment few rest =
        value_reads v are.0 (λ e. (may e).0) (within false around) _ (spell_gap a (44 ∷ spell_gap b (spell_elements es (93 ∷ r)))) _ (blanks bs g _ gap) (flow_ends (innermost bs) 44 a _ refl refl refl refl refl) (omega (arith, few))
        (comma_goes bs false filled refl around a (spell_gap b (spell_elements es (93 ∷ r))) _ (λ e. (may e).1) (solid_past b _ are.2 (elements_solid es _ are.3)).no_comment
        (elements_read es are.3 (λ e. (may e).3) around b r tokens (λ e. (may e).2) no_comment (omega (arith, few)) rest))

    members_read : (ms : Members) → AreMembers ms → (is_empty bs ≡ false → MembersHaveSpaces ms)
        → (around : List Entry) (g : List Blank) (r : List ℕ) (tokens : List Tok) → MayStand bs g → begins_with 35 r ≡ false → length around + 1 + member_levels ms ≤ 255
        → Then bs around r tokens → From another bs (entry_of true fresh ∷ around) (spell_gap g (spell_members ms (125 ∷ r))) (member_tokens ms (flow_mapping_end ∷ tokens))
    members_read (last_member k g h v a) are may around f r tokens gap no_comment few rest =
        let next = spell_gap h (spell v (spell_gap a (125 ∷ r))) in
        key_goes bs k are.0 around _ g next _ (blanks bs f _ gap) (λ e. (may e).0) (colon_stands next (solid_past h _ are.2 (value_solid v _ are.3)))
        (value_reads v are.3 (λ e. (may e).2) (within true around) _ (spell_gap a (125 ∷ r)) (flow_mapping_end ∷ tokens) (blanks bs h _ (λ e. (may e).1)) (flow_ends (innermost bs) 125 a r refl refl refl refl refl) (omega (arith, few))
        (bracket_closes bs true settled refl around a r tokens (λ e. (may e).3) no_comment rest))
    members_read (member k g h v a b ms) are may around f r tokens gap no_comment few rest =
        let last = spell_gap a (44 ∷ spell_gap b (spell_members ms (125 ∷ r))) in
        let next = spell_gap h (spell v last) in
        key_goes bs k are.0 around _ g next _ (blanks bs f _ gap) (λ e. (may e).0) (colon_stands next (solid_past h _ are.2 (value_solid v _ are.3)))
        (value_reads v are.3 (λ e. (may e).2) (within true around) _ last _ (blanks bs h _ (λ e. (may e).1)) (flow_ends (innermost bs) 44 a _ refl refl refl refl refl) (omega (arith, few))
        (comma_goes bs true settled refl around a (spell_gap b (spell_members ms (125 ∷ r))) _ (λ e. (may e).3) (solid_past b _ are.5 (members_solid ms _)).no_comment
        (members_read ms are.6 (λ e. (may e).5) around b r tokens (λ e. (may e).4) no_comment (omega (arith, few)) rest)))
