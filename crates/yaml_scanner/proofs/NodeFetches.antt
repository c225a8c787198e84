-- What the model does at a key or another plain scalar of one line that is a simple text.
use Rattle.yaml_scanner.proofs.Common.{append-nil, Bool, Columns, FetchesTwice, moved, unrolled, Held, Indent, IsSimpleText, Key, List, None, Ok, Option, Position, RunsTwice, Some, Style, Tok, Token, [], along, ap, append_assoc, arith, begin_pair, check_value_space, cleared, deepen, drop_stale, ends_open, false, fetch, fetch_here, fetch_next, fetch_plain_scalar, fetch_rest, fetch_value, indented, insert, insert_key, is_blank, is_blank_or_breakz, is_break, is_far, key_tokens, length, level, lt-ltb, ltb-false, must_be_key, nat_lt, nat_tests, past, refl, roll_indent, save_implicit_key, skip_to_next_token, slice_index, stale, sym, token, top_needs_block_end, true, unroll_indent, unroll_non_block_indents, with_key, with_line, without_open, ℕ, ◌&&◌, ◌++◌, ◌+◌, ◌<◌, ◌==◌, ◌||◌, ◌∙◌, ◌∷◌, ◌≡◌, ◌≤◌}
use Rattle.yaml_scanner.specs.Fetched.{before as before_position}
use Rattle.model_scanner.specs.Indents.{placed}
use Rattle.yaml_scanner.proofs.HeldLemmas.{without_block}
use Rattle.yaml_scanner.proofs.LevelLemmas.{is_block}
use Rattle.yaml_scanner.proofs.PairTexts.{Simple, simple_text, same_place, along_is, plain_key, plain_value}
use Rattle.yaml_scanner.proofs.PairFetches.{after_space, at, kept_level, in_mapping, fetched, none_overdue, none_stale, near_stale, none_end, solid_here, plain_here, value_here, one_deeper, follows_blank, follows_visible, near_along}

-- ---- levels

-- the levels where a collection begins at a column, or stands there, and its start
abbrev rolled : (begins : Bool) → (col i : ℕ) → List Indent → Columns
rolled true col i ds = record { indent = col + 1; indents = level i true ∷ ds }
rolled false col i ds = record { indent = i; indents = ds }

abbrev starts : (begins : Bool) → Token → List Token
starts true t = t ∷ []
starts false t = []

-- the start goes in before the tokens of a number, or after all
rolls : (b : Bool) (col : ℕ) (n : Option ℕ) (t : Tok) (p : Position) (s : Held) (ts us : List Token) → s.flow ≡ [] → ends_open s.indents ≡ false
    → nat_lt s.indent (col + 1) ≡ b → s.tokens ≡ ts ++ us → placed n (token p t) (ts ++ us) ≡ ts ++ token p t ∷ us
    → roll_indent col n t p s ≡ record s {
      indents = (rolled b col s.indent s.indents).indents;
      indent = (rolled b col s.indent s.indents).indent;
      tokens = ts ++ (starts b (token p t) ++ us);
    }
unfolding roll_indent deepen
rolls true col n t p s ts us flow block left all place = rw (kept_level col s block, left, flow, all, place) refl
rolls false col n t p s ts us flow block left all place = rw (kept_level col s block, left, flow, ← all) refl

insert_start : (ts us : List Token) (t : Token) → insert (ts ++ us) (length ts) t ≡ ts ++ t ∷ us
insert_start [] us t = refl
insert_start (s ∷ ts) us t = ap (λ vs. s ∷ vs) (insert_start ts us t)

-- after what stands before a token
pub rest_of : (a b d : List ℕ) (h u v w x : Held) (n : ℕ) → skip_to_next_token (at a h) ≡ Ok (at b u) → stale u ≡ Ok v → n ≡ v.position.col + 1 → w ≡ unroll_indent n v → fetch_rest (at b w) ≡ Ok (at d x)
    → fetch_next (at a h) ≡ Ok (at d x)
unfolding fetch_next fetch_rest
rest_of a b d h u v w x n e f g i j = let j' = rw (i, g) at j in rw (e, f) j'

-- ---- a scalar of one line

-- after a scalar of one line that began at a position, and the spaces of the next
abbrev pub line_end : Position → List ℕ → ℕ → Position
line_end p w n = record { index = p.index + length w + 1 + n; line = p.line + 1; col = n }

-- it may be a key, where keys are allowed
line_here : (p : Position) (ts : List Token) (ks js : List (Option Key)) (l : ℕ) (ls : List Indent) (i : ℕ) (ds : List Indent) (allowed leading : Bool) (adjacent : ℕ)
    → l ≤ p.col + 1 → ((us : List Token) → without_open l ls us ≡ record { indent = i; indents = ds; tokens = us }) → i ≤ p.col + 1
    → save_implicit_key (in_mapping p ts ks l ls allowed leading adjacent) ≡ in_mapping p ts js l ls allowed leading adjacent
    → (text : List ℕ) (n : ℕ) (b : List ℕ) → IsSimpleText text → (nat_lt 32 (slice_index b 0) && nat_lt (slice_index b 0) 127) ≡ true → n < i
    → fetch_here (at (text ++ 10 ∷ indented n b) (in_mapping p ts ks l ls allowed leading adjacent))
    ≡ Ok (at b (in_mapping (line_end p text n) (ts ++ token p (Tok.scalar Style.plain text) ∷ []) js i ds true true adjacent))
unfolding fetch_plain_scalar unroll_non_block_indents
line_here p ts ks js l ls i ds allowed leading adjacent shallow outer deep saved text n [] simple visible low = absurd cc
line_here p ts ks js l ls i ds allowed leading adjacent shallow outer deep saved text n (e ∷ a) simple visible low =
    let z = simple_text text simple in
    let stands = follows_visible e visible in
    let scanned = plain_value i p z.head z.tail n e a z.chars z.close deep stands.0 stands.1 (lt-ltb n i low) in
    rw z.whole (plain_here z.head (z.tail ++ 10 ∷ indented n (e ∷ a)) (in_mapping p ts ks l ls allowed leading adjacent) z.opens shallow ∙ rw (saved, outer ts, scanned) refl)

-- ---- a node

module _ (p : Position) (ts : List Token) (ks : List (Option Key)) (l : ℕ) (ls : List Indent) (i : ℕ) (ds : List Indent) (leading : Bool) (adjacent : ℕ) (free : cleared ks ≡ ks) (shallow : l ≤ p.col + 1)
    (outer : (us : List Token) → without_open l ls us ≡ record { indent = i; indents = ds; tokens = us }) (deep : i ≤ p.col + 1) (block : ends_open ds ≡ false) (there : i ≡ p.col + 1 → top_needs_block_end ds ≡ true) where
  abbrev pub before : Held
  before = in_mapping p ts (None ∷ ks) l ls true leading adjacent

  abbrev key_here : Key
  key_here = record { required = must_be_key before; number = length ts; position = p }

  -- after the scalar of a key
  abbrev after_scalar : List ℕ → Held
  after_scalar w = in_mapping (along w p) (ts ++ token p (Tok.scalar Style.plain w) ∷ []) (Some key_here ∷ ks) i ds false false adjacent

  abbrev start : List ℕ → Token
  start w = token (along w p) Tok.block_mapping_start

  -- after the `:`, where a mapping begins there, or stands there
  abbrev levels : (begins : Bool) → Columns
  levels b = rolled b p.col i ds

  abbrev after_colon : (begins : Bool) → List ℕ → Held
  after_colon b w =
      in_mapping (past (along w p)) (ts ++ (starts b (start w) ++ key_tokens p w (along w p))) (None ∷ ks) ((levels b).indent + 1)
      (level (levels b).indent false ∷ (levels b).indents) false false adjacent

  in_block : (b : Bool) → nat_lt i (p.col + 1) ≡ b → top_needs_block_end (levels b).indents ≡ true
  in_block true left = refl
  in_block false left = there (omega (arith, deep, ltb-false i (p.col + 1) left))

  key_rest : (text : List ℕ) (d : ℕ) (a : List ℕ) → Simple text → length text ≤ 1024 → is_blank_or_breakz d ≡ true → fetch_rest (at (text ++ 58 ∷ d ∷ a) before) ≡ Ok (at (58 ∷ d ∷ a) (after_scalar text))
  unfolding fetch_rest fetch_plain_scalar save_implicit_key unroll_non_block_indents
  key_rest text d a z short blank =
      let scanned = plain_key i p z.head z.tail d a z.chars z.close deep blank in
      let here : fetch_here (at (text ++ 58 ∷ d ∷ a) before) ≡ Ok (at (58 ∷ d ∷ a) (after_scalar text)) =
      rw z.whole (plain_here z.head (z.tail ++ 58 ∷ d ∷ a) before z.opens shallow ∙ rw (outer ts, scanned) refl) in
      let after : stale (after_scalar text) ≡ Ok (after_scalar text) = near_stale (after_scalar text) key_here ks refl refl (near_along text p short) free in
      rw (here, after) refl

  abbrev key : Token
  key = token p Tok.key

  abbrev scalar : List ℕ → Token
  scalar w = token p (Tok.scalar Style.plain w)

  -- after the tokens of a key
  abbrev with_tokens : List ℕ → Held
  with_tokens w = record (after_scalar w) { position = past (along w p); tokens = ts ++ key ∷ scalar w ∷ [] }

  -- after the `:` was read, without open levels
  abbrev plainly : List ℕ → Held
  plainly w = record before { position = past (along w p); indent = i; indents = ds }

  key_value : (b : Bool) → nat_lt i (p.col + 1) ≡ b → (text : List ℕ) (d : ℕ) (a : List ℕ) → (d == 9) ≡ false → fetch_value (at (58 ∷ d ∷ a) (after_scalar text)) ≡ Ok (at (d ∷ a) (after_colon b text))
  unfolding fetch_value insert_key begin_pair check_value_space
  key_value b left text d a tab = rw (
    tab,
    insert_start ts (scalar text ∷ []) key,
    rolls b p.col (Some (length ts)) Tok.block_mapping_start (along text p) (with_tokens text) ts (key ∷ scalar text ∷ []) refl block left refl
        (insert_start ts (key ∷ scalar text ∷ []) (start text)),
    one_deeper (record (with_tokens text) { indents = (levels b).indents; indent = (levels b).indent; tokens = ts ++ (starts b (start text) ++ key ∷ scalar text ∷ []) }) refl (in_block b left),
  ) (simp append_assoc)

  -- what the code holds then
  pub colon_is : (b : Bool) → nat_lt i (p.col + 1) ≡ b → (text : List ℕ) → with_key p text (record before { position = past (along text p) }) ≡ after_colon b text
  unfolding unroll_non_block_indents
  colon_is b left text =
      let place : before_position (past (along text p)) ≡ along text p = same_place (omega arith) refl (omega arith) in
      rw (
        outer ts,
        place,
        rolls b p.col None Tok.block_mapping_start (along text p) (plainly text) ts [] refl block left (sym (append-nil ts)) (rw (append-nil ts) refl),
        one_deeper (record (plainly text) { indents = (levels b).indents; indent = (levels b).indent; tokens = ts ++ (starts b (start text) ++ []) }) refl (in_block b left),
      ) (simp (append_assoc, append-nil))

  pub key_runs_to : (c : Bool) → nat_lt i (p.col + 1) ≡ c → (text b : List ℕ) → IsSimpleText text → length text ≤ 1024 → ((slice_index b 0 == 32) || (slice_index b 0 == 10)) ≡ true → RunsTwice fetch_rest (at (text ++ 58 ∷ b) before) (at b (after_colon c text))
  unfolding is_break is_blank
  key_runs_to c left text [] simple short next = absurd cc
  key_runs_to c left text (d ∷ a) simple short next =
      let blank = follows_blank d next in
      let s = after_scalar text in
      let col : (along text p).col ≡ p.col + length text = ap (λ q. q.col) (along_is text p) in
      let some = simple.some in
      record {
        between = at (58 ∷ d ∷ a) s;
        first = key_rest text d a (simple_text text simple) short blank.0;
        going = refl;
        second = fetched (at (58 ∷ d ∷ a) s) (58 ∷ d ∷ a) s (at (d ∷ a) (after_colon c text)) refl (solid_here 58 (d ∷ a) s refl refl refl refl) (near_stale s key_here ks refl refl (near_along text p short) free) (none_end s refl (omega (arith, col, deep)))
            (value_here d a s blank.0 (omega (arith, col, some)) (omega (arith, col, deep)) ∙ key_value c left text d a blank.1)
            (none_stale (after_colon c text) refl (ap (λ l. None ∷ l) free));
      }

  pub key_runs : (text b : List ℕ) → IsSimpleText text → length text ≤ 1024 → ((slice_index b 0 == 32) || (slice_index b 0 == 10)) ≡ true
      → RunsTwice fetch_rest (at (text ++ 58 ∷ b) before) (at b (with_key p text (record before { position = past (along text p) })))
  key_runs text b simple short next = rw (colon_is (nat_lt i (p.col + 1)) refl text) (key_runs_to (nat_lt i (p.col + 1)) refl text b simple short next)

  -- ---- a scalar of one line

  -- after the scalar, which is no key then
  abbrev after_line : Option Key → List ℕ → ℕ → Held
  after_line k w n = in_mapping (line_end p w n) (ts ++ scalar w ∷ []) (k ∷ ks) i ds true true adjacent

  -- the scalar began on an earlier line, and need not be a key
  line_stale : (w : List ℕ) (n : ℕ) → must_be_key before ≡ false → stale (after_line (Some key_here) w n) ≡ Ok (after_line None w n)
  unfolding stale drop_stale is_far
  line_stale w n need = let z = none_overdue (line_end p w n) ks free in rw (lt-ltb p.line (p.line + 1) (omega arith), need, z.0, z.1) refl

  pub line_runs : (text : List ℕ) (n : ℕ) (b : List ℕ) → IsSimpleText text → (nat_lt 32 (slice_index b 0) && nat_lt (slice_index b 0) 127) ≡ true → n < i → must_be_key before ≡ false
      → fetch_rest (at (text ++ 10 ∷ indented n b) before) ≡ Ok (at b (with_line p text (record before { position = line_end p text n })))
  unfolding fetch_rest unroll_non_block_indents save_implicit_key
  line_runs text n b simple visible low need =
      rw (line_here p ts (None ∷ ks) (Some key_here ∷ ks) l ls i ds true leading adjacent shallow outer deep refl text n b simple visible low, line_stale text n need, outer ts) refl

-- ---- a key where the innermost block mapping stands

module _ (p : Position) (ts : List Token) (ks : List (Option Key)) (ds : List Indent) (leading : Bool) (adjacent : ℕ) (free : cleared ks ≡ ks) (block : top_needs_block_end ds ≡ true) where
  abbrev at_column : Held
  at_column = in_mapping p ts (None ∷ ks) (p.col + 1) ds true leading adjacent

  abbrev pub after_key : List ℕ → Held
  after_key w = in_mapping (past (along w p)) (ts ++ key_tokens p w (along w p)) (None ∷ ks) (p.col + 1 + 1) (level (p.col + 1) false ∷ ds) false false adjacent

  -- a key and its `:`, where the mapping stands once deeper levels ended
  pub key_fetched : (l : ℕ) (ls : List Indent) → unrolled (p.col + 1) p l ls ts ≡ record { indent = p.col + 1; indents = ds; tokens = ts } → (text b : List ℕ) → IsSimpleText text → length text ≤ 1024
      → ((slice_index b 0 == 32) || (slice_index b 0 == 10)) ≡ true → FetchesTwice (at (text ++ 58 ∷ b) (in_mapping p ts (None ∷ ks) l ls true leading adjacent)) (at b (after_key text))
  unfolding fetch unroll_indent
  key_fetched l ls ends text b simple short next = record { between = run.between; first = first; going = run.going; second = run.second }
    where
      a : List ℕ
      a = text ++ 58 ∷ b

      here : Held
      here = in_mapping p ts (None ∷ ks) l ls true leading adjacent

      run : RunsTwice fetch_rest (at a at_column) (at b (after_key text))
      run = key_runs_to p ts ks (p.col + 1) ds (p.col + 1) ds leading adjacent free (omega arith) (λ us. without_block (p.col + 1) ds us (is_block ds block)) (omega arith) (is_block ds block) (λ _. block) false (grind (arith, nat_tests)) text b simple short next

      none_before : skip_to_next_token (at a here) ≡ Ok (at a here)
      none_before = let z = simple_text text simple in let o = z.opens in rw z.whole (solid_here z.head (z.tail ++ 58 ∷ b) here o.break o.tab o.blank o.hash)

      first : fetch (at a here) ≡ Ok run.between
      first = rest_of a a _ here here here at_column _ _ none_before (none_stale here refl (ap (λ l. None ∷ l) free)) refl (rw ends refl) run.first

-- ---- a value

module _ (p : Position) (ts : List Token) (ks : List (Option Key)) (m i : ℕ) (ds : List Indent) (leading : Bool) (adjacent : ℕ) (free : cleared ks ≡ ks) (block : top_needs_block_end ds ≡ true) (deep : m ≤ p.col + 2) (limit : i ≤ p.col + 2) where
  abbrev waits : Held
  waits = in_mapping p ts ks m (level i false ∷ ds) false leading adjacent

  abbrev pub after_value : List ℕ → ℕ → Held
  after_value w n = in_mapping (line_end (past p) w n) (ts ++ token (past p) (Tok.scalar Style.plain w) ∷ []) ks i ds true true adjacent

  pub value_fetched : (text : List ℕ) (n : ℕ) (b : List ℕ) → IsSimpleText text → (nat_lt 32 (slice_index b 0) && nat_lt (slice_index b 0) 127) ≡ true → n < i → fetch (at (32 ∷ (text ++ 10 ∷ indented n b)) waits) ≡ Ok (at b (after_value text n))
  unfolding save_implicit_key without_open
  value_fetched text n b simple visible low =
      let z = simple_text text simple in
      let a : List ℕ = text ++ 10 ∷ indented n b in
      let skips : skip_to_next_token (at (32 ∷ a) waits) ≡ Ok (at a (moved waits)) = rw z.whole (after_space z.head (z.tail ++ 10 ∷ indented n b) waits z.opens) in
      let here = line_here (past p) ts ks ks m (level i false ∷ ds) i ds false leading adjacent (omega (arith, deep)) (λ us. without_block i ds us (is_block ds block)) (omega (arith, limit)) refl text n b simple visible low in
      fetched (at (32 ∷ a) waits) a (moved waits) (at b (after_value text n)) refl skips (none_stale (moved waits) refl free) (none_end (moved waits) refl (omega (arith, deep))) here (none_stale (after_value text n) refl free)
