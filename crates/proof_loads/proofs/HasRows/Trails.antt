-- What stands after a value of a layout: gaps and comments as separations, and how the next piece is read.
use Rattle.proof_loads.proofs.Common.{[], after_blank, another, ap, append_assoc, are_marks, arith, Bool, codes, comment, Comment, comment_line, empty_line, false, free, GapLine, has_break, has_tab_within, innermost, inside, is_blank, is_blank_or_end, is_blanks_and_comment, is_break, is_document_marker, is_line_character, is_nul, is_on_line, is_separation, is_value_indicator, is_waiting, IsComment, IsGap, IsLineText, last_line, leading, least_column, List, nat_le, nat_tests, next_line, no_comment, not, on_line, Option, Position, position_after, position_past, Previous, refl, Some, spaces, spell_comment, spell_ending, spell_gap, split, Stand, stops, suc, sym, Tok, true, zero, ℕ, ◌&&◌, ◌++◌, ◌+◌, ◌<◌, ◌==◌, ◌||◌, ◌∙◌, ◌∷◌, ◌≡◌, ◌≤◌, map, map-append, or_true}
use Rattle.defs_token.specs.Plain.{is_deeper}
use Rattle.proof_loads.proofs.HasRows.Json.{Ends}
use Rattle.proof_loads.proofs.HasRows.Nodes.{Parts, Quiet, Then, Reads, at, ended, HasNone, both, text_none, Line}
use Rattle.proof_scanner.proofs.Sound.LastLines.{break_append, last_first}
pub use Rattle.proof_loads.proofs.HasRows.Blocks.{AreAbove, colon_reads, Comes, dash_reads, ends_are, Here, IsScalarPiece, key_reads, Marked, question_reads, ShownAt, stood}
pub use Rattle.proof_loads.proofs.BlockLines.{spaces_are}

-- a gap, and at a column of the next line the rest; a gap, and the `---` of a next document with the rest; or a gap up to the end
pub data Trail : Type 0 where
  next : List GapLine → (column : ℕ) → (rest : List ℕ) → Trail
  marker : List GapLine → (rest : List ℕ) → Trail
  end : List GapLine → Trail

-- the marker of a document, and its line feed
abbrev pub marker_text : List ℕ → List ℕ
marker_text r = codes "---\n" ++ r

abbrev pub trail_text : Trail → List ℕ
trail_text (next g d r) = next_line d g r
trail_text (marker g r) = next_line 0 g (marker_text r)
trail_text (end g) = spell_ending g []

-- a text that begins with neither a blank nor a break nor a comment
pub data BeginsContent : List ℕ → Type 0 where
  content_first : (c : ℕ) (r : List ℕ) → is_blank c ≡ false → is_break c ≡ false → (c == 35) ≡ false → is_nul c ≡ false → BeginsContent (c ∷ r)

abbrev pub IsTrail : Trail → Type 0
IsTrail (next g d r) = IsGap g × BeginsContent r
IsTrail (marker g r) = IsGap g
IsTrail (end g) = IsGap g

-- the piece that comes ends the collections that are deeper than a column
abbrev pub EndsAt : Trail → ℕ → Type 0
EndsAt (next g d r) n = d < n
EndsAt _ n = Unit {0}

abbrev pub AllEnd : Trail → List ℕ → Type 0
AllEnd (next g d r) ns = AreAbove d ns
AllEnd _ ns = Unit {0}

-- ---- what is read after a trail

abbrev pub Arrives : Trail → Position → Previous → Line → (text : List ℕ) → Type 0
Arrives (next g d r) p before l text = Here d text r p before l
Arrives (marker g r) p before l text = Here 0 text (marker_text r) p before l
Arrives (end g) p before l text = (is_separation false text [] ≡ true) × (is_waiting l ≡ false) × HasNone text

-- from these collections, and others that end there, the text goes on
abbrev pub After : Trail → List ℕ → List Tok → Type 0
After t bs tokens =
    (extra : List ℕ) (p : Position) (awaits : Bool) (before : Previous) (l : Line) (text : List ℕ) → AllEnd t extra → Arrives t p before l text
    → Reads (at p (extra ++ bs) awaits before l []) text (ended extra tokens)

-- after a collection that ends there too
pub one_more : (t : Trail) (n : ℕ) (bs : List ℕ) (tokens : List Tok) → EndsAt t n → After t bs tokens → After t (n ∷ bs) (Tok.block_end ∷ tokens)
one_more t n bs tokens ends rest extra p awaits before l text all arrives =
    let same : ended (extra ++ n ∷ []) tokens ≡ ended extra (Tok.block_end ∷ tokens) =
    rw map-append (append_assoc (map (λ m. Tok.block_end) extra) (Tok.block_end ∷ []) tokens) in
    rw (← append_assoc extra (n ∷ []) bs, ← same) (rest (extra ++ n ∷ []) p awaits before l text (more t extra ends all) arrives)
  where
    more : (t : Trail) (extra : List ℕ) → EndsAt t n → AllEnd t extra → AllEnd t (extra ++ n ∷ [])
    more t [] ends all = grind arith
    more t (m ∷ extra) ends all = grind (arith, more t extra)

-- ---- gaps as separations

pub in_line : (c : ℕ) → is_line_character c ≡ true → is_break c ≡ false
unfolding is_break is_line_character
in_line c h = grind (arith, nat_tests)

-- over a comment
over_comment : (text a r : List ℕ) → IsLineText text → is_separation true (text ++ a) r ≡ is_separation true a r
over_comment [] a r h = refl
over_comment (c ∷ text) a r h = grind (arith, in_line, over_comment text a r)

-- a text separates what stands before it from a rest, and has no NUL
abbrev pub Parting : (text rest : List ℕ) → Type 0
Parting a r = (is_separation false a r ≡ true) × HasNone a

spaces_part : (n : ℕ) (a r : List ℕ) → Parting a r → Parting (spaces n a) r
unfolding is_blank
spaces_part zero a r e = e
spaces_part (suc n) a r e = spaces_part n a r e

hash_parts : (text a r : List ℕ) → IsLineText text → is_separation true a r ≡ true → HasNone a → Parting (35 ∷ (text ++ a)) r
unfolding is_blank is_break
hash_parts text a r h e none = (over_comment text a r h ∙ e, both text a (text_none text h) none)

gap_parts : (g : List GapLine) (a r : List ℕ) → IsGap g → Parting a r → Parting (spell_gap g a) r
unfolding is_break is_blank
gap_parts [] a r h e = e
gap_parts (empty_line ∷ g) a r h e = gap_parts g a r h.1 e
gap_parts (comment_line text ∷ g) a r h e = let z = gap_parts g a r h.1 e in hash_parts text (10 ∷ spell_gap g a) r h.0 z.0 z.1

comment_parts : (k : Comment) (a r : List ℕ) → IsComment k → Parting a r → is_separation true a r ≡ true → Parting (spell_comment k a) r
unfolding is_blank
comment_parts no_comment a r h e commented = e
comment_parts (comment more text) a r h e commented = spaces_part (suc more) (35 ∷ (text ++ a)) r (hash_parts text a r h commented e.1)

-- up to the end of the text, also after a comment
pub ending_parts : (g : List GapLine) → IsGap g → Parting (spell_ending g []) [] × (is_separation true (spell_ending g []) [] ≡ true)
unfolding is_break is_blank
ending_parts [] h = ((refl, refl), refl)
ending_parts (empty_line ∷ g) h = let z = ending_parts g h.1 in (z.0, z.0.0)
ending_parts (comment_line text ∷ g) h = let z = ending_parts g h.1 in let y = hash_parts text (spell_ending g []) [] h.0 z.1 z.0.1 in (y, y.0)

-- ---- the last line

-- after a break the lines before do not matter
last_past : (x y : List ℕ) → last_line (x ++ 10 ∷ y) ≡ last_line y
unfolding is_break
last_past [] y = last_first 10 y
last_past (c ∷ x) y = grind (arith, last_first, break_append, or_true, last_past x y)

-- ---- positions

pub over_break : (w x r : List ℕ) (p : Position) → (q : Position) × (position_after p (w ++ 10 ∷ x) r ≡ position_after q x r) × (q.col ≡ 0)
unfolding is_break
over_break [] x r p = (record { index = suc p.index; line = suc p.line; col = 0 }, grind (arith, position_after), refl)
over_break (c ∷ w) x r p = over_break w x r (position_past p c ((w ++ 10 ∷ x) ++ r))

pub spaces_column : (n : ℕ) (r : List ℕ) (p : Position) → (position_after p (spaces n []) r).col ≡ p.col + n
unfolding is_break
spaces_column zero r p = omega arith
spaces_column (suc n) r p = let z = spaces_column n r (record { index = suc p.index; line = p.line; col = suc p.col }) in omega (arith, z)

pub gap_column : (g : List GapLine) (n : ℕ) (r : List ℕ) (p : Position) → p.col ≡ 0 → (position_after p (spell_gap g (spaces n [])) r).col ≡ n
gap_column [] n r p h = let z = spaces_column n r p in omega (arith, z, h)
gap_column (empty_line ∷ g) n r p h = let z = over_break [] (spell_gap g (spaces n [])) r p in rw (z.1) (gap_column g n r z.0 z.2)
gap_column (comment_line text ∷ g) n r p h = let z = over_break (35 ∷ text) (spell_gap g (spaces n [])) r p in rw (z.1) (gap_column g n r z.0 z.2)

-- ---- a gap's last line

pub no_tab : (columns n : ℕ) → has_tab_within columns (spaces n []) ≡ false
no_tab zero n = refl
no_tab (suc m) zero = refl
no_tab (suc m) (suc n) = no_tab m n

pub spaces_line : (n : ℕ) → split (spaces n []) ≡ record { complete = []; last = spaces n [] }
unfolding is_break
spaces_line zero = refl
spaces_line (suc n) = rw (spaces_line n) refl

pub gap_last : (g : List GapLine) (n : ℕ) → last_line (spell_gap g (spaces n [])) ≡ spaces n []
gap_last [] n = rw (last_line, spaces_line n) refl
gap_last (empty_line ∷ g) n = last_past [] (spell_gap g (spaces n [])) ∙ gap_last g n
gap_last (comment_line text ∷ g) n = last_past (35 ∷ text) (spell_gap g (spaces n [])) ∙ gap_last g n

-- ---- texts

pub gap_is : (g : List GapLine) (a r : List ℕ) → spell_gap g a ++ r ≡ spell_gap g (a ++ r)
gap_is [] a r = refl
gap_is (l ∷ g) a r = grind (arith, append_assoc, gap_is g a r)

comment_is : (k : Comment) (a r : List ℕ) → spell_comment k a ++ r ≡ spell_comment k (a ++ r)
comment_is k a r = grind (arith, spaces_are, append_assoc)

-- ---- after a value and a comment

gap_text : (g : List GapLine) (n : ℕ) (r : List ℕ) → spell_gap g (spaces n []) ++ r ≡ spell_gap g (spaces n r)
gap_text g n r = gap_is g (spaces n []) r ∙ ap (spell_gap g) (spaces_are n [] r)

gap_parting : (g : List GapLine) (n : ℕ) (r : List ℕ) → IsGap g → Parting (spell_gap g (spaces n [])) r
gap_parting g n r gap = gap_parts g (spaces n []) r gap (spaces_part n [] r (refl, refl))

-- a gap where a line begins
pub here_gap : (g : List GapLine) (n : ℕ) (r : List ℕ) (p : Position) (before : Previous) → IsGap g → p.col ≡ 0 → Here n (spell_gap g (spaces n r)) r p before free
here_gap g n r p before gap start = record {
  by = spell_gap g (spaces n []);
  is = sym (gap_text g n r);
  separates = (gap_parting g n r gap).0;
  tabless = λ m. rw (gap_last g n) (no_tab m n);
  line = grind arith;
  column = gap_column g n r p start;
  none = (gap_parting g n r gap).1;
}

pub here_after : (k : Comment) (g : List GapLine) (n : ℕ) (r : List ℕ) (p : Position) (before : Previous) (l : Line) → IsComment k → IsGap g → Quiet before → is_waiting l ≡ false → Here n (spell_comment k (next_line n g r)) r p before l
unfolding is_blank is_break
here_after k g n r p before l remark gap quiet line =
    let x = spell_gap g (spaces n []) in
    let text : spell_comment k (10 ∷ x) ≡ spell_comment k [] ++ 10 ∷ x = sym (comment_is k [] (10 ∷ x)) in
    let z = over_break (spell_comment k []) x r p in
    let parts = comment_parts k (10 ∷ x) r remark (gap_parting g n r gap) (gap_parting g n r gap).0 in
    record {
      by = spell_comment k (10 ∷ x);
      is = sym (comment_is k (10 ∷ x) r ∙ ap (λ y. spell_comment k (10 ∷ y)) (gap_text g n r));
      separates = parts.0;
      tabless = λ m. rw (text, last_past (spell_comment k []) x, gap_last g n) (no_tab m n);
      line = rw (quiet (spell_comment k (10 ∷ x)), text, break_append (spell_comment k []) (10 ∷ x), or_true (has_break (spell_comment k []))) (grind arith);
      column = rw (text, z.1) (gap_column g n r z.0 z.2);
      none = parts.1;
    }

-- after a value that is no block scalar
pub arrive : (k : Comment) (t : Trail) (bs : List ℕ) (tokens : List Tok) → IsComment k → IsTrail t → After t bs tokens → Then bs [] (spell_comment k (trail_text t)) tokens
arrive k (next g d r) bs tokens remark trail rest before quiet p awaits l line deep = rest [] p awaits before l _ tt (here_after k g d r p before l remark trail.0 quiet line)
arrive k (marker g r) bs tokens remark trail rest before quiet p awaits l line deep = rest [] p awaits before l _ tt (here_after k g 0 (marker_text r) p before l remark trail quiet line)
arrive k (end g) bs tokens remark trail rest before quiet p awaits l line deep =
    let e = ending_parts g trail in
    let parts = comment_parts k (spell_ending g []) [] remark e.0 e.1 in
    rest [] p awaits before l _ tt (parts.0, line, parts.1)

-- ---- spaces before a value on the line

pub spaced : (bs : List ℕ) (more : ℕ) (r : List ℕ) → Parts bs (32 ∷ spaces more r) r
spaced bs more r = record {
  by = 32 ∷ spaces more [];
  is = ap (λ y. 32 ∷ y) (sym (spaces_are more [] r));
  separates = (spaces_part (suc more) [] r (refl, refl)).0;
  tabless = λ awaits. rw (last_line, spaces_line (suc more)) (no_tab (least_column bs awaits) (suc more));
  deep = λ p deep. let z = spaces_column (suc more) r p in omega (arith, deep, z);
  none = (spaces_part more [] r (refl, refl)).1;
}

pub here_beside : (n more : ℕ) (r : List ℕ) (p : Position) → p.col + suc more ≡ n → Here n (32 ∷ spaces more r) r p another free
here_beside n more r p h = record {
  by = 32 ∷ spaces more [];
  is = ap (λ y. 32 ∷ y) (sym (spaces_are more [] r));
  separates = (spaces_part (suc more) [] r (refl, refl)).0;
  tabless = λ m. rw (last_line, spaces_line (suc more)) (no_tab m (suc more));
  line = grind arith;
  column = let z = spaces_column (suc more) r p in omega (arith, z, h);
  none = (spaces_part more [] r (refl, refl)).1;
}

-- ---- what a value ends before

-- a piece on the next line stands no deeper than the innermost collection
abbrev pub IsLow : Trail → List ℕ → Type 0
IsLow (next g d r) [] = ⊥
IsLow (next g d r) (n ∷ bs) = d ≤ n
IsLow _ bs = Unit {0}

-- A trail may stand after a value of these collections, and then these tokens are read.
pub record Rest (t : Trail) (bs : List ℕ) (tokens : List Tok) : Type 0 where
  pub trail : IsTrail t
  pub low : IsLow t bs
  pub after : After t bs tokens

module _ (collection : Option ℕ) where
  stops_spaces : (n k : ℕ) (r : List ℕ) → stops false collection (on_line (k + n)) r ≡ true → stops false collection (on_line k) (spaces n r) ≡ true
  unfolding is_blank is_break
  stops_spaces zero k r h = let e : k + 0 ≡ k = omega arith in rw e at h
  stops_spaces (suc n) k r h = let e : k + suc n ≡ suc k + n = omega arith in stops_spaces n (suc k) r (rw e at h)

  stops_gap : (g : List GapLine) (a : List ℕ) → stops false collection (on_line 0) a ≡ true → stops false collection (on_line 0) (spell_gap g a) ≡ true
  unfolding is_blank is_break is_nul
  stops_gap [] a h = h
  stops_gap (l ∷ g) a h = grind (arith, stops_gap g a)

  stops_next : (d : ℕ) (r : List ℕ) → BeginsContent r → (not (is_deeper collection d)) ≡ true → stops false collection (on_line d) r ≡ true
  stops_next d r (content_first c x blank break hash nul) low = rw (blank, break, low, or_true ((d == 0) && is_document_marker (c ∷ x)), or_true (is_nul c || ((c == 58) && is_value_indicator false false x) || (c == 35))) refl

  stops_ending : (g : List GapLine) (s : Stand) → stops false collection s (spell_ending g []) ≡ true
  unfolding is_blank is_break is_nul
  stops_ending [] s = refl
  stops_ending (l ∷ g) s = grind (arith, stops_ending g)

  stops_comment : (more : ℕ) (a : List ℕ) → stops false collection after_blank (spaces more (35 ∷ a)) ≡ true
  unfolding is_blank is_break is_nul
  stops_comment zero a = refl
  stops_comment (suc n) a = stops_comment n a

comment_rest : (more : ℕ) (a : List ℕ) → is_blanks_and_comment (leading is_on_line (spaces more (35 ∷ a))) ≡ true
unfolding is_blank is_break
comment_rest zero a = refl
comment_rest (suc n) a = comment_rest n a

pub trail_ends : (k : Comment) (t : Trail) (bs : List ℕ) → IsTrail t → IsLow t bs → Ends false (innermost bs) (spell_comment k (trail_text t))
unfolding is_blank is_break is_nul is_blank_or_end are_marks
trail_ends (comment more text) t bs trail low = record { stopped = stops_comment (innermost bs) more (text ++ trail_text t); done = λ piece. rw (comment_rest more (text ++ trail_text t)) refl; no_comment = refl }
trail_ends no_comment (next g d r) [] trail low = absurd low
trail_ends no_comment (next g d r) (n ∷ bs) trail low =
    let deep : not (nat_le (suc n) d) ≡ true = grind (arith, low) in
    record { stopped = stops_gap (Some n) g (spaces d r) (stops_spaces (Some n) d 0 r (let e : 0 + d ≡ d = omega arith in rw e (stops_next (Some n) d r trail.1 deep))); done = λ piece. refl; no_comment = refl }
trail_ends no_comment (marker g r) bs trail low = record { stopped = stops_gap (innermost bs) g (marker_text r) refl; done = λ piece. refl; no_comment = refl }
trail_ends no_comment (end []) bs trail low = record { stopped = refl; done = λ piece. refl; no_comment = refl }
trail_ends no_comment (end (l ∷ g)) bs trail low = record { stopped = stops_ending (innermost bs) (l ∷ g) inside; done = λ piece. refl; no_comment = refl }
