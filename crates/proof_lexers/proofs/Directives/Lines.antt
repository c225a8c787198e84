-- Directives are read as their lines say, and no other text is.
use Rattle.proof_lexers.proofs.Common.{[], is_empty, after, after_declaration, after_major, after_value, after_version, and_then, ap, append-nil, append_assoc, arith, At, begins_prefix, begins_with, blanks, by_comment, by_declaration, by_name, by_octets, by_version, cases_Bool, cases_Option, codes, declaration_by, decoded, Directive, directive, directive_break, directive_of, DirectivesAreRead, DirectivesEndAsTheirTextSays, eqb-true, Err, false, Fault, first_break, further, handle_and_rest, has_no_break, if◌then◌else◌, inl, inr, is_alpha, is_alphanumeric, is_at_gap, is_blank, is_flow, is_handle, is_rest_of_line, is_same, is_tag, is_uri, is_uri_mark, IsDirectiveRefusal, IsNoDeclaration, IsNoVersion, kind, leading, length, length-append, line_end, List, long_major, long_minor, name, next_line, no_major, no_minor, no_name, no_point, no_prefix, None, not-false, not-true, number, number_of, Ok, open_name, past, Position, prefix, prefix_after, Problem, problem_of, Read, reads, refl, refuses, reserved, Result, skip_while, slice_index, Some, suc, sym, tag, tag_declaration, tag_value, token_of, true, unknown, UriFault, value, version, version_of, version_value, with_minor, with_prefix, ℕ, ◌++◌, ◌+◌, ◌==◌, ◌||◌, ◌∙◌, ◌∷◌, ◌≡◌, nat_tests, CommentNotSeparated, DirectiveEnd, DirectiveName, DirectiveNameEnd, GlobalTagCharacter, TagDirectiveEnd, TagDirectiveHandle, TagStart, VersionDot, VersionNumber, VersionTooLong, is_blank_or_end, is_nul, is_decimal_digit, is_letter, same_blank, same_alpha, same_tag, same_place, before_end, skipped, span_cut}
use Rattle.defs_token.specs.Token.{Tok}
use Rattle.defs_text.specs.Classes as classes
use Rattle.defs_text.specs.Directives as defs
use Rattle.model_scanner.specs.Directive.{after_name}
use Rattle.proof_lexers.specs.DirectiveEnds.{ends_line, after_line, no_mark, goes_on, IsVersionBefore, whole_directive, no_directive}
use Rattle.proof_lexers.proofs.Separation.Positions.{position_append, position_in_line}
use Rattle.proof_lexers.proofs.Properties.Uris.{uris_are_read}
use Rattle.proof_lexers.proofs.RestOfLine as rest_of_lines
use Rattle.proof_lexers.proofs.RestOfLine.{first_line, glued, in_line, line_skipped, no_break_after, none_at_end, rest_of_line}
use Rattle.proof_lexers.proofs.Directives.Values.{break_read, spells_name, kind_is, gap_is, number_is, not_at_end, handle_sees}
use Rattle.proof_lexers.proofs.Directives.Values as values

pub same_text : (a b : List ℕ) → is_same a b ≡ true → a ≡ b
same_text [] b h = grind arith
same_text (c ∷ a) b h = grind (arith, eqb-true, same_text a)

no_tag_at_end : (n : List ℕ) → ends_line n ≡ true → is_tag (slice_index n 0) ≡ false
unfolding is_tag is_uri is_alphanumeric is_uri_mark is_flow classes.is_tag classes.is_uri is_decimal_digit is_letter classes.is_flow
no_tag_at_end [] h = refl
no_tag_at_end (c ∷ n) h = sym (same_tag c) ∙ none_at_end classes.is_tag refl refl (c ∷ n) h

-- why digits that are no number make a text no version
no_major_number : (a : List ℕ) → number_of (leading is_decimal_digit a) ≡ None → IsNoVersion a (if is_empty (leading is_decimal_digit a) then VersionNumber else VersionTooLong)
no_major_number a e = grind (arith, no_major, long_major)

no_minor_number : (a : List ℕ) (v : ℕ) (r : List ℕ) → number_of (leading is_decimal_digit a) ≡ Some v → after is_decimal_digit a ≡ 46 ∷ r → number_of (leading is_decimal_digit r) ≡ None
    → IsNoVersion a (if is_empty (leading is_decimal_digit r) then VersionNumber else VersionTooLong)
no_minor_number a v r is point e = grind (arith, no_minor v r is point, long_minor v r is point)

-- How the scan of a line ends, which stands after a `%` and before the line's end: it is a directive, and read as it; or it is none, and refused.
data Told (start : Position) (l n : List ℕ) (x : Result (Read Tok) Fault) : Type 0 where
  is_directive : (d : Directive) → directive_of (37 ∷ l) ≡ Some d → x ≡ Ok (after_line start (37 ∷ l) n (token_of d)) → Told start l n x
  fails : (f : Fault) → directive_of (37 ∷ l) ≡ None → IsDirectiveRefusal start l f → x ≡ Err f → Told start l n x

module _ (start : Position) (l n : List ℕ) (line : has_no_break l ≡ true) (ends : ends_line n ≡ true) where
  -- the line's end
  finish : (before m : List ℕ) (d : Directive) (p : Position) → l ≡ before ++ m → p ≡ further (suc (length before)) start → directive_of (37 ∷ l) ≡ (if is_rest_of_line m then Some d else None)
      → ((k : List ℕ) → m ≡ 35 ∷ k → IsDirectiveRefusal start l (At CommentNotSeparated (further (suc (length before)) start)))
      → (is_rest_of_line m ≡ false → begins_with 35 m ≡ false → IsDirectiveRefusal start l (At DirectiveEnd start)) → Told start l n (after_value start (record { rest = m ++ n; position = p; value = token_of d }))
  unfolding line_end directive_break classes.is_break
  finish before m d p cut position says by_hash by_other = elim (rest_of_line m n p (no_break_after before m (ap has_no_break (sym cut) ∙ line)) ends) [
    | rest_of_lines.ends w is e ↦ rw (e, break_read start (further (length m) p) n ends) (is_directive d (says ∙ rw is refl) (ap (λ q. Ok (record { rest = next_line n; position = q; value = token_of d })) (grind (arith, nat_tests, length-append, further, first_break, same_place, position_in_line, position_append))))
    | glued k so none e ↦ rw (e, position) (fails (At CommentNotSeparated (further (suc (length before)) start)) (says ∙ rw none refl) (by_hash k so) refl)
    | rest_of_lines.goes_on c more q w none begins solid e ↦ rw (e, solid) (fails (At DirectiveEnd start) (says ∙ rw none refl) (by_other none begins) refl)
  ]

  -- ---- words

  abbrev after_word : List ℕ
  after_word = after classes.is_alpha l

  -- what stands after the name and blanks
  abbrev said : List ℕ
  said = after classes.is_blank after_word

  abbrev word_position : Position
  word_position = further (length (leading classes.is_alpha l)) (past start)

  abbrev said_position : Position
  said_position = further (length (leading classes.is_blank after_word)) word_position

  blanks_skipped : (m : List ℕ) (p : Position) → skip_while is_blank (m ++ n) p ≡ record { rest = after classes.is_blank m ++ n; position = further (length (leading classes.is_blank m)) p; value = tt }
  unfolding classes.is_blank
  blanks_skipped m p = let q = before_end classes.is_blank m n (none_at_end classes.is_blank refl refl n ends) in skipped classes.is_blank is_blank same_blank (m ++ n) p ∙ rw (q.0, q.1) refl

  from_word : l ≡ leading classes.is_alpha l ++ (leading classes.is_blank after_word ++ said)
  from_word = span_cut classes.is_alpha l ∙ ap (λ r. leading classes.is_alpha l ++ r) (span_cut classes.is_blank after_word)

  -- ---- versions

  module _ (word : leading classes.is_alpha l ≡ codes "YAML") (gap : is_at_gap after_word ≡ true) where
    abbrev major : List ℕ
    major = leading is_decimal_digit said

    says_version : directive_of (37 ∷ l) ≡ version_of said
    unfolding directive_of
    says_version = rw (word, gap) refl

    version_refused : (why : Problem) (x : Result (Read Tok) Fault) → version_of said ≡ None → IsNoVersion said why → x ≡ Err (At why start) → Told start l n x
    version_refused why x none reason e = fails (At why start) (says_version ∙ none) (by_version why (record { is_name = word; is_whole = gap }) reason) e

    -- after the minor number
    version_end : (s : List ℕ) (v w : ℕ) → after is_decimal_digit said ≡ 46 ∷ s → number_of major ≡ Some v → number_of (leading is_decimal_digit s) ≡ Some w
        → Told start l n (after_value start (record { rest = after is_decimal_digit s ++ n; position = further (length (leading is_decimal_digit s)) (past (further (length major) said_position)); value = Tok.version_directive v w }))
    version_end s v w point is is_w =
        let rest = after is_decimal_digit s in
        let before = leading classes.is_alpha l ++ (leading classes.is_blank after_word ++ (major ++ 46 ∷ leading is_decimal_digit s)) in
        let tail : said ≡ major ++ (46 ∷ s) = span_cut is_decimal_digit said ∙ ap (λ r. major ++ r) point in
        let last = span_cut is_decimal_digit s in
        let cut : l ≡ before ++ rest = grind (arith, from_word, tail, last, append_assoc) in
        let is_before : (r : List ℕ) → rest ≡ r → IsVersionBefore l r =
        λ r e. record { major = v; minor = w; point = s; is_version = record { is_name = word; is_whole = gap }; has_point = point; is_major = is; is_minor = is_w; is_before = e } in
        finish before rest (defs.version v w) _ cut (grind (arith, length-append, same_place)) (says_version ∙ rw (point, is, is_w) refl)
        (λ k e. by_comment before k (cut ∙ ap (λ r. before ++ r) e) (is_before (35 ∷ k) e)) (λ none begins. after_version rest (is_before rest refl) none begins)

    minor_read : (s : List ℕ) (v : ℕ) → after is_decimal_digit said ≡ 46 ∷ s → number_of major ≡ Some v
        → Told start l n (and_then (and_then (number start (s ++ n) (past (further (length major) said_position))) (λ k. Ok (with_minor v k))) (λ t. after_value start t))
    minor_read s v point is = rw (number_is start (past (further (length major) said_position)) s n ends) (elim (cases_Option (number_of (leading is_decimal_digit s))) [
      | inl e ↦ rw e (version_refused _ _ (rw (point, is, e) (grind arith)) (no_minor_number said v s is point e) refl)
      | inr w ↦ rw w.1 (version_end s v w.0 point is w.1)
    ])

    point_read : (r : List ℕ) (v : ℕ) → after is_decimal_digit said ≡ r → number_of major ≡ Some v
        → Told start l n (and_then (after_major start (record { rest = r ++ n; position = further (length major) said_position; value = v })) (λ t. after_value start t))
    point_read [] v rest is =
        let none = not_at_end 46 refl refl refl n ends in
        version_refused VersionDot _ (rw rest refl) (no_point v is (rw rest refl)) (rw none refl)
    point_read (c ∷ s) v rest is = elim (cases_Bool (c == 46)) [
      | inl e ↦ let same : c ≡ 46 = eqb-true c 46 e in rw e (minor_read s v (rest ∙ ap (λ k. k ∷ s) same) is)
      | inr e ↦ version_refused VersionDot _ (rw (rest, e) refl) (no_point v is (rw (rest, e) refl)) (rw e refl)
    ]

    versions : Told start l n (and_then (value start version (after_word ++ n) word_position) (λ t. after_value start t))
    unfolding version_value
    versions = rw (blanks_skipped after_word word_position, number_is start said_position said n ends) (elim (cases_Option (number_of major)) [
      | inl e ↦ rw e (version_refused _ _ (rw e (grind (arith, after))) (no_major_number said e) refl)
      | inr v ↦ rw v.1 (point_read (after is_decimal_digit said) v.0 refl v.1)
    ])

  -- ---- declarations

  begins_with_prefix : (g : List ℕ) → ((slice_index (g ++ n) 0 == 33) || is_tag (slice_index (g ++ n) 0)) ≡ begins_prefix g
  begins_with_prefix g = grind (arith, same_tag, not_at_end, ends, no_tag_at_end)

  module _ (word : leading classes.is_alpha l ≡ codes "TAG") (gap : is_at_gap after_word ≡ true) where
    abbrev handle_is : List ℕ
    handle_is = (handle_and_rest said).0

    -- what stands after the handle, and after blanks
    abbrev after_handle : List ℕ
    after_handle = (handle_and_rest said).1

    abbrev from_prefix : List ℕ
    from_prefix = after classes.is_blank after_handle

    abbrev prefix_text : List ℕ
    prefix_text = leading classes.is_uri from_prefix

    abbrev after_prefix : List ℕ
    after_prefix = after classes.is_uri from_prefix

    abbrev handle_position : Position
    handle_position = further (length handle_is) said_position

    abbrev prefix_position : Position
    prefix_position = further (length (leading classes.is_blank after_handle)) handle_position

    declaration_refused : (why : Problem) (x : Result (Read Tok) Fault) → declaration_by (handle_and_rest said) ≡ None → IsNoDeclaration said why → x ≡ Err (At why start) → Told start l n x
    unfolding directive_of
    declaration_refused why x none reason e = fails (At why start) ((rw (word, gap) refl) ∙ none) (by_declaration why (record { is_name = word; is_whole = gap }) reason) e

    gap_missing : (r : List ℕ) → is_at_gap r ≡ false → is_rest_of_line r ≡ false
    unfolding is_blank_or_end
    gap_missing a h = grind arith

    module _ (is : is_handle handle_is ≡ true) (spelled : said ≡ handle_is ++ after_handle) where
      declares : (cs : List ℕ) → begins_prefix from_prefix ≡ true → decoded prefix_text ≡ Ok cs → declaration_by (handle_and_rest said) ≡ (if is_rest_of_line after_prefix then Some (tag_declaration handle_is cs) else None)
      declares cs begins means = rw (is, begins, means) refl

      declaration_end : (cs : List ℕ) → begins_prefix from_prefix ≡ true → decoded prefix_text ≡ Ok cs → is_at_gap after_prefix ≡ true
          → Told start l n (after_value start (record { rest = after_prefix ++ n; position = further (length prefix_text) prefix_position; value = Tok.tag_directive handle_is cs }))
      unfolding directive_of is_blank_or_end classes.is_blank classes.is_break is_nul
      declaration_end cs begins means apart =
          let before = leading classes.is_alpha l ++ (leading classes.is_blank after_word ++ (handle_is ++ (leading classes.is_blank after_handle ++ prefix_text))) in
          let tail : after_handle ≡ leading classes.is_blank after_handle ++ (prefix_text ++ after_prefix) =
          span_cut classes.is_blank after_handle ∙ ap (λ r. leading classes.is_blank after_handle ++ r) (span_cut classes.is_uri from_prefix) in
          finish before after_prefix (tag_declaration handle_is cs) _ (grind (arith, from_word, spelled, tail, append_assoc, handle_is)) (grind (arith, length-append, same_place)) ((rw (word, gap) refl) ∙ declares cs begins means)
          (λ k e. absurd (cc (sym (ap is_at_gap e) ∙ apart)))
          (λ none begins_no. after_declaration after_prefix (record { prefix = cs; is_declaration = record { is_name = word; is_whole = gap }; has_handle = is; has_prefix = begins; is_prefix = means; is_before = refl; is_apart = apart }) none)

      -- what the scan of the prefix leaves, by what its characters mean
      abbrev prefix_result : Result (List ℕ) UriFault → Result (Read (List ℕ)) Fault
      prefix_result (Ok cs) = Ok (record { rest = after_prefix ++ n; position = further (length prefix_text) prefix_position; value = cs })
      prefix_result (Err f) = Err (At (problem_of f) start)

      prefix_is : ((slice_index (from_prefix ++ n) 0 == 33) || is_tag (slice_index (from_prefix ++ n) 0)) ≡ true → prefix start (from_prefix ++ n) prefix_position ≡ prefix_result (decoded prefix_text)
      unfolding prefix classes.is_uri is_decimal_digit is_letter
      prefix_is e = grind (arith, nat_tests, before_end, none_at_end, uris_are_read, after)

      prefix_fails : ((slice_index (from_prefix ++ n) 0 == 33) || is_tag (slice_index (from_prefix ++ n) 0)) ≡ false → prefix start (from_prefix ++ n) prefix_position ≡ Err (At GlobalTagCharacter start)
      unfolding prefix
      prefix_fails e = rw e refl

      -- after the characters of the prefix
      characters_read : (d : Result (List ℕ) UriFault) → begins_prefix from_prefix ≡ true → decoded prefix_text ≡ d
          → Told start l n (and_then (and_then (prefix_result d) (λ q. with_prefix start handle_is q)) (λ t. after_value start t))
      characters_read (Err f) begins means = declaration_refused (problem_of f) _ (rw (is, begins, means) refl) (by_octets f is begins means) refl
      characters_read (Ok cs) begins means = elim (cases_Bool (is_at_gap after_prefix)) [
        | inl e ↦ rw (gap_is after_prefix n ends, e) (declaration_end cs begins means e)
        | inr e ↦ declaration_refused TagDirectiveEnd _ (declares cs begins means ∙ rw (gap_missing after_prefix e) refl) (goes_on cs is begins means e) (rw (gap_is after_prefix n ends, e) refl)
      ]

      prefix_read : Told start l n (and_then (prefix_after start handle_is (blanks (after_handle ++ n) handle_position)) (λ t. after_value start t))
      prefix_read = rw (blanks_skipped after_handle handle_position) (elim (cases_Bool (begins_prefix from_prefix)) [
        | inl e ↦ rw (prefix_is (begins_with_prefix from_prefix ∙ e)) (characters_read (decoded prefix_text) e refl)
        | inr e ↦ declaration_refused GlobalTagCharacter _ (rw (is, e) refl) (no_prefix is e) (ap (λ x. and_then (and_then x (λ q. with_prefix start handle_is q)) (λ t. after_value start t)) (prefix_fails (begins_with_prefix from_prefix ∙ e)))
      ])

    declarations : Told start l n (and_then (value start tag (after_word ++ n) word_position) (λ t. after_value start t))
    unfolding tag_value
    declarations = rw (blanks_skipped after_word word_position) (elim (handle_sees start said_position said n ends) [
      | values.no_mark none without e ↦ rw e (declaration_refused TagStart _ (rw without refl) (no_mark none) refl)
      | values.open_name c name rest same lead none without e ↦ rw e (declaration_refused TagDirectiveHandle _ (rw without refl) (open_name c name rest same lead none) refl)
      | values.found is spelled e ↦ rw e (prefix_read is spelled)
    ])

  -- other directives
  ignored : (c : ℕ) (w : List ℕ) → leading classes.is_alpha l ≡ c ∷ w → is_same (c ∷ w) (codes "YAML") ≡ false → is_same (c ∷ w) (codes "TAG") ≡ false → is_at_gap after_word ≡ true
      → Told start l n (and_then (value start unknown (after_word ++ n) word_position) (λ t. after_value start t))
  unfolding directive_of
  ignored c w lead no_version no_tag gap =
      let in_line : has_no_break after_word ≡ true = no_break_after (leading classes.is_alpha l) after_word (ap has_no_break (sym (span_cut classes.is_alpha l)) ∙ line) in
      let says : directive_of (37 ∷ l) ≡ Some reserved = rw (lead, gap, no_version, no_tag) refl in
      let ignored_position : further (length after_word) word_position ≡ further (suc (length l)) start = let so_long : length l ≡ length (leading classes.is_alpha l) + length after_word = ap length (span_cut classes.is_alpha l) ∙ length-append (leading classes.is_alpha l) after_word in
      same_place start (suc (length l)) (omega (arith, so_long)) (omega (arith, so_long)) in
      rw (line_skipped after_word n word_position in_line ends) (finish l [] reserved (further (length after_word) word_position) (rw append-nil refl) ignored_position says (λ k e. absurd (cc e)) (λ none begins. absurd (cc none)))

  -- ---- the directive

  by_kind : (c : ℕ) (w : List ℕ) → leading classes.is_alpha l ≡ c ∷ w → is_at_gap after_word ≡ true → Told start l n (after_name start (record { rest = after_word ++ n; position = word_position; value = kind (l ++ n) }))
  by_kind c w lead gap = elim (cases_Bool (is_same (leading classes.is_alpha l) (codes "YAML"))) [
    | inl e ↦ rw (kind_is l n ends, e) (versions (same_text (leading classes.is_alpha l) (codes "YAML") e) gap)
    | inr e ↦ elim (cases_Bool (is_same (leading classes.is_alpha l) (codes "TAG"))) [
      | inl f ↦ rw (kind_is l n ends, e, f) (declarations (same_text (leading classes.is_alpha l) (codes "TAG") f) gap)
      | inr f ↦ rw (kind_is l n ends, e, f) (ignored c w lead (rw lead at e) (rw lead at f) gap)
    ]
  ]

  by_word : (w : List ℕ) → leading classes.is_alpha l ≡ w → Told start l n (directive (37 ∷ (l ++ n)) start)
  unfolding directive name directive_of classes.is_alpha is_decimal_digit is_letter
  by_word [] lead =
      let no_letter : is_alpha (slice_index (l ++ n) 0) ≡ false = not-true (is_alpha (slice_index (l ++ n) 0)) (spells_name [] l n refl ends ∙ rw lead refl) in
      fails (At DirectiveName (past start)) (rw lead refl) (no_name lead) (rw no_letter refl)
  by_word (c ∷ w) lead = let word_skipped : skip_while is_alpha (l ++ n) (past start) ≡ record { rest = after_word ++ n; position = word_position; value = tt } = let q = before_end classes.is_alpha l n (none_at_end classes.is_alpha refl refl n ends) in skipped classes.is_alpha is_alpha same_alpha (l ++ n) (past start) ∙ rw (q.0, q.1) refl in rw (not-false (is_alpha (slice_index (l ++ n) 0)) (spells_name [] l n refl ends ∙ rw lead refl), word_skipped, gap_is after_word n ends) (elim (cases_Bool (is_at_gap after_word)) [
    | inl e ↦ rw e (by_kind c w lead e)
    | inr e ↦ rw e (fails (At DirectiveNameEnd (past start)) (rw (lead, e) refl) (by_name (rw lead refl) e) refl)
  ])

-- ---- the laws

told : (start : Position) (l n : List ℕ) → has_no_break l ≡ true → ends_line n ≡ true → Told start l n (directive (37 ∷ (l ++ n)) start)
told start l n line ends = by_word start l n line ends (leading classes.is_alpha l) refl

pub directives_end : DirectivesEndAsTheirTextSays
directives_end a start =
    let z = first_line a in
    let cut = span_cut in_line a in
    elim (told start (leading in_line a) (after in_line a) z.0 z.1) [
      | is_directive d is e ↦ reads _ (whole_directive (leading in_line a) (after in_line a) d cut z.0 z.1 is) (ap (λ x. directive (37 ∷ x) start) cut ∙ e)
      | fails f none why e ↦ refuses f (no_directive (leading in_line a) (after in_line a) cut z.0 z.1 none why) (ap (λ x. directive (37 ∷ x) start) cut ∙ e)
    ]

pub directives_are_read : DirectivesAreRead
directives_are_read line next d p no_break ends is = grind (arith, told p line next no_break ends)
