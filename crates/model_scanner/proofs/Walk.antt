-- One walk over all functions of the model: a fetch keeps whatever each of its steps keeps.
use Rattle.model_scanner.proofs.Common.{[], adjacent_in_flow, allow_key, anchor_name, are_single, At, at_break, begin_flow, begin_key, begin_keyless_mapping, begin_keyless_value, begin_line, begin_pair, begin_stream, block, BlockStyle, Bool, check_after_quoted, check_after_tab, check_block_entry, check_dash, check_document_end, check_key_space, check_value_space, class_of, cleared, closed_key, Collection, context, decrease_flow_level, deepen, deepened_flow, directive, drop_open, drop_open_level, drop_stale, end_entry, end_flow, end_flow_pair, end_level, end_pair, end_stream, ended_flow, Err, false, Fault, fetch, fetch_anchor, fetch_block_entry, fetch_block_scalar, fetch_content, fetch_directive, fetch_document_end, fetch_document_marker, fetch_first_column, fetch_flow_collection_end, fetch_flow_collection_start, fetch_flow_entry, fetch_flow_scalar, fetch_here, fetch_indented, fetch_key, fetch_next, fetch_plain_scalar, fetch_stream_end, fetch_stream_start, fetch_tag, fetch_token, fetch_value, flow_end, flow_start, Gap, go_on, Held, here, if◌then◌else◌, in_block, in_flow, in_line, increase_flow_level, insert, insert_key, is_break, is_cr_lf, is_far, is_flow, is_literal, Key, length, Levels, lexed, List, map, NameKind, nat_lt, next_entry, next_line, node_start, None, not, Ok, on_held, opens_pair, Option, paired, pass_indicator, peek, placed, plain, pop, Position, push, put, quoted, Quotes, Reaches, Read, refl, remove_implicit_key, Result, roll_entry, roll_indent, roll_one_col_indent, save_implicit_key, ScannerState, skip, skip_indicator, skip_spaces, skip_to_next_token, skip_yaml_whitespace, SkipTabs, Some, space, stale, still, tab_line, tag, there, Tok, Token, token, token_by, top_key, true, unled, unroll_indent, unroll_non_block_indents, unrolled, value_of, white, white_end, with_held, with_keys, with_top, without_open, ℕ, ◌++◌, ◌+◌, ◌==◌, ◌||◌, ◌∷◌, ◌≡◌}
use Rattle.yaml_tokens.specs.declared.problem.Problem.TheVariants as problem
use Rattle.model_scanner.specs.declared.level.Indent.{Indent}
use Rattle.model_scanner.specs.declared.level.FlowLevel.{FlowLevel}
use Rattle.model_scanner.specs.declared.level.FlowLevel.TheVariants.{Mapping, Entry, Keyed, Pair}
use Rattle.model_scanner.specs.declared.kind.Collection.TheVariants as collection
use Rattle.model_scanner.specs.declared.kind.NameKind.TheVariants.{Alias, Anchor}
use Rattle.model_scanner.specs.declared.kind.Quotes.TheVariants.{Single, Double}
use Rattle.model_scanner.specs.declared.kind.BlockStyle.TheVariants.{Literal, Folded}
use Rattle.defs_text.specs.Text.{is_empty}
use Rattle.model_scanner.specs.declared.context.SkipTabs.TheVariants.{Yes, No}
use Rattle.model_scanner.specs.Space.{between, comment}
use Rattle.model_scanner.specs.declared.class.Class.{Class}
use Rattle.model_scanner.specs.declared.class.Class.TheVariants as class
use Rattle.model_scanner.proofs.Holds.{Holds, went, refused, held_of, chained, choice, passes, weakened}
use Rattle.model_scanner.proofs.Holds as rules
use Rattle.model_scanner.proofs.NoEnds.{IsNoEnd, anchor_is_no_end, directive_is_no_end}

-- What is watched of a run: the tokens so far, with whether the stream's start was met; the number of each open key; and all tokens, once the stream's end was met.
pub record Watched : Type 1 where
  pub tokens : List Token → (started : Bool) → Type 0
  pub number : ℕ → Type 0
  pub all : List Token → Type 0

-- What is watched is kept by each step that changes the tokens, the open keys or whether the stream's start or end was met.
pub record IsKept (w : Watched) : Type 0 where
  -- a token comes after the others
  pub pushed : (ts : List Token) (started : Bool) (t : Token) → IsNoEnd t.tok → w.tokens ts started → w.tokens (ts ++ t ∷ []) started
  -- a token goes in before those of an open key's number
  pub inserted : (ts : List Token) (started : Bool) (n : ℕ) (t : Token) → IsNoEnd t.tok → w.number n → w.tokens ts started → w.tokens (insert ts n t) started
  -- a key opens after all tokens
  pub opened : (ts : List Token) (started : Bool) → w.tokens ts started → w.number (length ts)
  -- the stream's start was met
  pub begun : (ts : List Token) (started : Bool) → w.tokens ts started → w.tokens ts true
  -- the stream's end comes after all tokens
  pub closed : (ts : List Token) (started : Bool) (t : Token) → w.tokens ts started → w.all (ts ++ t ∷ [])

-- p holds of an open key's number
abbrev pub KeyIs : (ℕ → Type 0) → Option Key → Type 0
KeyIs p None = Unit {0}
KeyIs p (Some k) = p k.number

-- and of each
abbrev pub KeysAre : (ℕ → Type 0) → List (Option Key) → Type 0
KeysAre p [] = Unit {0}
KeysAre p (k ∷ ks) = KeyIs p k × KeysAre p ks

-- while the stream goes on
pub record Stood (w : Watched) (ts : List Token) (ks : List (Option Key)) (started over : Bool) : Type 0 where
  pub tokens : w.tokens ts started
  pub keys : KeysAre w.number ks
  pub going : over ≡ false

pub record Stands (w : Watched) (h : Held) : Type 0 where
  pub stood : Stood w h.tokens h.keys h.started h.ended

-- after the stream's end
pub record IsOver (w : Watched) (h : Held) : Type 0 where
  pub all : w.all h.tokens
  pub keys : KeysAre w.number h.keys
  pub ended : h.ended ≡ true

pub data Fares (w : Watched) (h : Held) : Type 0 where
  goes : Stands w h → Fares w h
  over : IsOver w h → Fares w h

abbrev pub StandsAt : Watched → ScannerState → Type 0
StandsAt w t = Stands w t.held

abbrev pub FaresAt : Watched → ScannerState → Type 0
FaresAt w t = Fares w t.held

-- ---- rules

tried : {P : Held → Type 0} (t : ScannerState) (r : Result Held Fault) → Holds P r → Holds (λ u. P u.held) (with_held t r)
tried t r h = rules.tried t r h (λ s p. p)

-- of what was read something is known
read_as : {A : Type 0} {Q : A → Type 0} {w : Watched} (h : Held) (r : Result (Read A) Fault) (go : A → ScannerState → Result ScannerState Fault) → Stands w h → Holds (λ x. Q x.value) r → ((x : A) (u : ScannerState) → Q x → Stands w u.held → Holds (StandsAt w) (go x u)) → Holds (StandsAt w) (lexed r h go)
read_as h (Ok r) go s (went q) f = f r.value (go_on r h) q (record { stood = s.stood })
read_as h (Err e) go s refused f = refused

read : {A : Type 0} {w : Watched} (h : Held) (r : Result (Read A) Fault) (go : A → ScannerState → Result ScannerState Fault) → Stands w h → ((x : A) (u : ScannerState) → Stands w u.held → Holds (StandsAt w) (go x u)) → Holds (StandsAt w) (lexed r h go)
read h r go s f = rules.read h r go (λ x e. f x.value (go_on x h) (record { stood = s.stood }))

held_choice : {w : Watched} {h u : Held} (b : Bool) → Stands w h → Stands w u → Stands w (if b then h else u)
held_choice true s t = s
held_choice false s t = t

state_choice : {w : Watched} (b : Bool) (t u : ScannerState) → StandsAt w t → StandsAt w u → StandsAt w (if b then t else u)
state_choice true t u s k = s
state_choice false t u s k = k

-- ---- keys

topped : (p : ℕ → Type 0) (k : Option Key) (ks : List (Option Key)) → KeyIs p k → KeysAre p ks → KeysAre p (with_top k ks)
topped p k [] l h = h
topped p k (x ∷ ks) l h = (l, h.1)

popped : (p : ℕ → Type 0) (ks : List (Option Key)) → KeysAre p ks → KeysAre p (pop ks)
popped p [] h = h
popped p (x ∷ ks) h = h.1

all_still : (p : ℕ → Type 0) (position : Position) (ks : List (Option Key)) → KeysAre p ks → KeysAre p (map (still position) ks)
all_still p position [] h = tt
all_still p position (None ∷ ks) h = (tt, all_still p position ks h.1)
all_still p position (Some k ∷ ks) h = (by (is_far k.position position), all_still p position ks h.1)
  where
    by : (b : Bool) → KeyIs p (if b then None else Some k)
    by true = tt
    by false = h.0

all_cleared : (p : ℕ → Type 0) (ks : List (Option Key)) → KeysAre p (cleared ks)
all_cleared p [] = tt
all_cleared p (k ∷ ks) = (tt, all_cleared p ks)

top_is : (p : ℕ → Type 0) (ks : List (Option Key)) → KeysAre p ks → KeyIs p (top_key ks)
top_is p [] h = tt
top_is p (k ∷ ks) h = h.0

rekeyed : {w : Watched} {ts : List Token} {ks ls : List (Option Key)} {b o : Bool} → KeysAre w.number ls → Stood w ts ks b o → Stood w ts ls b o
rekeyed h s = record { tokens = s.tokens; keys = h; going = s.going }

dropped : (p : ℕ → Type 0) (position : Position) (ks : List (Option Key)) → KeysAre p ks → Holds (KeysAre p) (drop_stale position ks)
unfolding drop_stale
dropped p position ks h = passes _ _ (went (all_still p position ks h))

module _ (w : Watched) (kept : IsKept w) where
  kept_keys : (h : Held) (r : Result (List (Option Key)) Fault) → Stands w h → Holds (KeysAre w.number) r → Holds (Stands w) (with_keys h r)
  kept_keys h r s (went p) = went (record { stood = rekeyed p s.stood })
  kept_keys h r s refused = refused

  pub stale_dropped : (h : Held) → Stands w h → Holds (Stands w) (stale h)
  unfolding stale
  stale_dropped h s = choice (in_flow h) (went s) (kept_keys h _ s (dropped w.number h.position h.keys s.stood.keys))

  saved : (h : Held) → Stands w h → Stands w (save_implicit_key h)
  unfolding save_implicit_key
  saved h s = held_choice h.key_allowed (record { stood = rekeyed (topped w.number _ h.keys (kept.opened h.tokens h.started s.stood.tokens) s.stood.keys) s.stood }) s

  removed : (h : Held) → Stands w h → Holds (Stands w) (remove_implicit_key h)
  unfolding remove_implicit_key
  removed h s = passes _ _ (went (record { stood = rekeyed (topped w.number None h.keys tt s.stood.keys) s.stood }))

  -- ---- tokens

  pushed : (ts : List Token) (ks : List (Option Key)) (b o : Bool) (t : Token) → IsNoEnd t.tok → Stood w ts ks b o → Stood w (ts ++ t ∷ []) ks b o
  pushed ts ks b o t q s = record { tokens = kept.pushed ts b t q s.tokens; keys = s.keys; going = s.going }

  inserted : (ts : List Token) (ks : List (Option Key)) (b o : Bool) (n : ℕ) (t : Token) → IsNoEnd t.tok → w.number n → Stood w ts ks b o → Stood w (insert ts n t) ks b o
  inserted ts ks b o n t q l s = record { tokens = kept.inserted ts b n t q l s.tokens; keys = s.keys; going = s.going }

  -- a token more
  more : (p : Position) (t : Tok) (h : Held) → IsNoEnd t → Stands w h → Stands w (push p t h)
  more p t h q s = record { stood = pushed _ _ _ _ _ q s.stood }

  put_in : (n : ℕ) (p : Position) (t : Tok) (h : Held) → IsNoEnd t → w.number n → Stands w h → Stands w (put n p t h)
  put_in n p t h q l s = record { stood = inserted _ _ _ _ n _ q l s.stood }

  -- ---- levels of indentation

  open_dropped : (h : Held) (ds : List Indent) → Stands w h → Stands w (drop_open h ds)
  open_dropped h [] s = s
  open_dropped h (d ∷ ds) s = held_choice d.needs_block_end s (record { stood = s.stood })

  abbrev NumberIs : Option ℕ → Type 0
  NumberIs None = Unit {0}
  NumberIs (Some n) = w.number n

  placed_stood : (ts : List Token) (ks : List (Option Key)) (b o : Bool) (n : Option ℕ) (t : Token) → IsNoEnd t.tok → NumberIs n → Stood w ts ks b o → Stood w (placed n t ts) ks b o
  placed_stood ts ks b o None t q l s = pushed ts ks b o t q s
  placed_stood ts ks b o (Some n) t q l s = inserted ts ks b o n t q l s

  deepened : (col : ℕ) (n : Option ℕ) (t : Token) (h : Held) → IsNoEnd t.tok → NumberIs n → Stands w h → Stands w (deepen col n t h)
  unfolding deepen
  deepened col n t h q l s = held_choice (nat_lt h.indent (col + 1)) (record { stood = placed_stood h.tokens h.keys h.started h.ended n t q l s.stood }) s

  rolled : (col : ℕ) (n : Option ℕ) (t : Tok) (p : Position) (h : Held) → IsNoEnd t → NumberIs n → Stands w h → Stands w (roll_indent col n t p h)
  unfolding roll_indent drop_open_level
  rolled col n t p h q l s =
      held_choice (in_flow h) s (deepened col n (token p t) (drop_open_level col h) q l (held_choice _ (open_dropped h h.indents s) s))

  rolled_one : (h : Held) → Stands w h → Stands w (roll_one_col_indent h)
  unfolding roll_one_col_indent
  rolled_one h s = held_choice (in_block h) (record { stood = s.stood }) s

  ended : (ends : Bool) (p : Position) (ts : List Token) (ks : List (Option Key)) (b o : Bool) → Stood w ts ks b o → Stood w (end_level ends p ts) ks b o
  ended true p ts ks b o s = pushed ts ks b o _ tt s
  ended false p ts ks b o s = s

  record StoodLevels (ks : List (Option Key)) (b o : Bool) (l : Levels) : Type 0 where
    pub stood : Stood w l.tokens ks b o

  levels_choice : {ks : List (Option Key)} {b o : Bool} {l m : Levels} (c : Bool) → StoodLevels ks b o l → StoodLevels ks b o m → StoodLevels ks b o (if c then l else m)
  levels_choice true s t = s
  levels_choice false s t = t

  unrolled_stood : (ks : List (Option Key)) (b o : Bool) (limit : ℕ) (p : Position) (i : ℕ) (ds : List Indent) (ts : List Token) → Stood w ts ks b o → StoodLevels ks b o (unrolled limit p i ds ts)
  unfolding unrolled
  unrolled_stood ks b o limit p i [] ts s = record { stood = s }
  unrolled_stood ks b o limit p i (d ∷ ds) ts s = levels_choice (nat_lt limit i) (unrolled_stood ks b o limit p d.indent ds _ (ended d.needs_block_end p ts ks b o s)) (record { stood = s })

  pub unrolled_all : (limit : ℕ) (h : Held) → Stands w h → Stands w (unroll_indent limit h)
  unfolding unroll_indent
  unrolled_all limit h s = held_choice (in_flow h) s (record { stood = (unrolled_stood h.keys h.started h.ended limit h.position h.indent h.indents h.tokens s.stood).stood })

  without_stood : (ks : List (Option Key)) (b o : Bool) (i : ℕ) (ds : List Indent) (ts : List Token) → Stood w ts ks b o → StoodLevels ks b o (without_open i ds ts)
  unfolding without_open
  without_stood ks b o i [] ts s = record { stood = s }
  without_stood ks b o i (d ∷ ds) ts s = levels_choice d.needs_block_end (record { stood = s }) (without_stood ks b o d.indent ds ts s)

  unrolled_open : (h : Held) → Stands w h → Stands w (unroll_non_block_indents h)
  unfolding unroll_non_block_indents
  unrolled_open h s = record { stood = (without_stood h.keys h.started h.ended h.indent h.indents h.tokens s.stood).stood }

  -- ---- what stands between tokens

  line_passed : (c : ℕ) (a : List ℕ) (h : Held) → Stands w h → Stands w (at_break c a h)
  line_passed c a h s = held_choice (is_cr_lf c a) (record { stood = s.stood }) (record { stood = s.stood })

  in_line_passed : (m : Gap) (c : ℕ) (a : List ℕ) (h : Held) (go : Gap → Held → Result ScannerState Fault) → ((n : Gap) (u : Held) → Stands w u → Holds (StandsAt w) (go n u)) → Stands w h → Holds (StandsAt w) (in_line m c a h go)
  in_line_passed between c a h go f s =
      choice _ (f tab_line _ (record { stood = s.stood })) (choice _ (f between _ (record { stood = s.stood })) (choice _ (f comment _ (record { stood = s.stood })) (went s)))
  in_line_passed comment c a h go f s = f comment _ (record { stood = s.stood })
  in_line_passed tab_line c a h go f s = choice _ (f tab_line _ (record { stood = s.stood })) (choice _ (f comment _ (record { stood = s.stood })) refused)

  skipped : (m : Gap) (a : List ℕ) (h : Held) → Stands w h → Holds (StandsAt w) (skip m a h)
  unfolding skip
  skipped m [] h s = went s
  skipped m (c ∷ a) h s = choice _ (skipped between a _ (line_passed c a h s)) (in_line_passed m c a h (λ n u. skip n a u) (λ n u k. skipped n a u k) s)

  pub to_token : (t : ScannerState) → Stands w t.held → Holds (StandsAt w) (skip_to_next_token t)
  unfolding skip_to_next_token
  to_token t s = skipped between t.rest t.held s

  spaces_skipped : (tabs : SkipTabs) (t : ScannerState) → Stands w t.held → Holds (StandsAt w) (skip_spaces tabs t)
  unfolding skip_spaces
  spaces_skipped tabs t s = read t.held (space tabs t.rest t.held.position) _ s (λ x u k. went k)

  white_ended : (found : Bool) (a : List ℕ) (h : Held) → Stands w h → Holds (StandsAt w) (white_end found a h)
  white_ended true a h s = went s
  white_ended false a h s = refused

  white_skipped : (i f : Bool) (a : List ℕ) (h : Held) → Stands w h → Holds (StandsAt w) (white i f a h)
  unfolding white
  white_skipped i f [] h s = white_ended f [] h s
  white_skipped i f (c ∷ a) h s =
      choice (is_break c) (white_skipped false true a _ (line_passed c a h s)) (choice i (white_skipped true f a _ (record { stood = s.stood }))
      (choice (c == 32) (white_skipped false true a _ (record { stood = s.stood })) (choice (c == 35) (white_skipped true f a _ (record { stood = s.stood })) (white_ended f (c ∷ a) h s))))

  -- ---- flow collections

  flow_deeper : (kind : Collection) (h : Held) → Stands w h → Holds (Stands w) (increase_flow_level kind h)
  unfolding increase_flow_level
  flow_deeper kind h s = passes _ _ (went (record { stood = rekeyed (tt, s.stood.keys) s.stood }))

  deeper_allowed : (r : Result Held Fault) → Holds (Stands w) r → Holds (Stands w) (deepened_flow r)
  deeper_allowed r (went s) = went (record { stood = s.stood })
  deeper_allowed r refused = refused

  passed : (t : ScannerState) → Stands w t.held → Holds (StandsAt w) (pass_indicator t)
  unfolding pass_indicator
  passed t s = spaces_skipped Yes (skip_indicator t) (record { stood = s.stood })

  flow_started : (kind : Collection) (t : ScannerState) → IsNoEnd (flow_start kind) → Stands w t.held → Holds (StandsAt w) (fetch_flow_collection_start kind t)
  unfolding fetch_flow_collection_start begin_flow
  flow_started kind t q s =
      chained (tried t _ (deeper_allowed _ (flow_deeper kind _ (rolled_one _ (saved t.held s))))) (λ u k.
      chained (passed u k) (λ v l. went (more _ _ _ q l)))

  pair_ended : (fs : List FlowLevel) (h : Held) → Stands w h → Stands w (end_pair fs h)
  pair_ended [] h s = s
  pair_ended (Pair ∷ fs) h s = record { stood = pushed _ _ _ _ _ tt s.stood }
  pair_ended (Keyed ∷ fs) h s = record { stood = s.stood }
  pair_ended (Mapping ∷ fs) h s = s
  pair_ended (Entry ∷ fs) h s = s

  entry_over : (h : Held) → Stands w h → Stands w (end_flow_pair h)
  unfolding end_flow_pair
  entry_over h s = pair_ended h.flow h s

  flow_higher : (h : Held) → Stands w h → Stands w (decrease_flow_level h)
  unfolding decrease_flow_level
  flow_higher h s = held_choice (is_empty h.flow) s (record { stood = rekeyed (popped w.number h.keys s.stood.keys) s.stood })

  adjacent : (h : Held) → Stands w h → Stands w (adjacent_in_flow h)
  unfolding adjacent_in_flow
  adjacent h s = held_choice (in_flow h) (record { stood = s.stood }) s

  flow_closed : (r : Result Held Fault) → Holds (Stands w) r → Holds (Stands w) (ended_flow r)
  flow_closed r (went s) = went (let k = flow_higher _ (entry_over _ s) in record { stood = k.stood })
  flow_closed r refused = refused

  flow_ended : (kind : Collection) (t : ScannerState) → IsNoEnd (flow_end kind) → Stands w t.held → Holds (StandsAt w) (fetch_flow_collection_end kind t)
  unfolding fetch_flow_collection_end end_flow
  flow_ended kind t q s =
      chained (tried t _ (flow_closed _ (removed t.held s))) (λ u k. chained (passed u k) (λ v l. went (more _ _ _ q (adjacent v.held l))))

  next_begun : (r : Result Held Fault) → Holds (Stands w) r → Holds (Stands w) (next_entry r)
  next_begun r (went s) = went (entry_over _ (record { stood = s.stood }))
  next_begun r refused = refused

  entry_passed : (t : ScannerState) → Stands w t.held → Holds (StandsAt w) (fetch_flow_entry t)
  unfolding fetch_flow_entry end_entry
  entry_passed t s = chained (tried t _ (next_begun _ (removed t.held s))) (λ u k. chained (passed u k) (λ v l. went (more _ _ _ tt l)))

  -- ---- block collections

  entry_checked : (h : Held) → Stands w h → Holds (Stands w) (check_block_entry h)
  unfolding check_block_entry
  entry_checked h s = passes (in_flow h) (At problem.BlockEntryInFlow h.position) (passes (not h.key_allowed) (At problem.BlockEntryNotAllowed h.position) (went s))

  entry_rolled : (t : ScannerState) → Stands w t.held → StandsAt w (roll_entry t)
  unfolding roll_entry
  entry_rolled t s = state_choice (is_break (peek t.rest) || is_flow (peek t.rest)) (on_held roll_one_col_indent t) t (rolled_one t.held s) s

  block_entry : (t : ScannerState) → Stands w t.held → Holds (StandsAt w) (fetch_block_entry t)
  unfolding fetch_block_entry check_dash
  block_entry t s = chained (tried t _ (entry_checked t.held s)) (λ u k.
      let p = t.held.position in
      let v = on_held (roll_indent p.col None Tok.block_sequence_start p) (skip_indicator u) in
      chained (read v.held (space Yes v.rest v.held.position) check_dash
      (rolled p.col None _ p (skip_indicator u).held tt tt (record { stood = k.stood }))
      (λ z x l. passes _ _ (went l))) (λ z l.
      chained (spaces_skipped No z l) (λ x m.
      chained (tried (roll_entry x) _ (removed (roll_entry x).held (entry_rolled x m))) (λ y n. went (record { stood = pushed _ _ _ _ _ tt n.stood })))))

  key_begun : (h : Held) → Stands w h → Holds (Stands w) (begin_key h)
  unfolding begin_key
  key_begun h s = choice _ (went (record { stood = s.stood })) (passes _ _ (went (rolled h.position.col None _ h.position h tt tt s)))

  key_spaced : (t : ScannerState) → Stands w t.held → Holds (StandsAt w) (check_key_space t)
  unfolding check_key_space
  key_spaced t s = passes _ _ (went s)

  key_fetched : (t : ScannerState) → Stands w t.held → Holds (StandsAt w) (fetch_key t)
  unfolding fetch_key skip_yaml_whitespace
  key_fetched t s = chained (tried t _ (key_begun t.held s)) (λ u k. chained (tried u _ (removed u.held k)) (λ v l.
      chained (white_skipped false false _ _ (record { stood = l.stood })) (λ x m.
      chained (key_spaced x m) (λ y n. went (more _ _ _ tt n)))))

  -- ---- values

  value_spaced : (t : ScannerState) → Stands w t.held → Holds (StandsAt w) (check_value_space t)
  unfolding check_value_space check_after_tab
  value_spaced t s =
      choice (peek t.rest == 9) (read t.held (space Yes t.rest t.held.position) check_after_tab s (λ x u k. passes _ _ (went k))) (went s)

  key_inserted : (k : Key) (p : Position) (pair : Bool) (h : Held) → w.number k.number → Stands w h → Holds (Stands w) (insert_key k p pair h)
  unfolding insert_key begin_pair
  key_inserted k p pair h l s =
      let f = put_in k.number k.position Tok.key h tt l s in
      chained (choice pair (passes _ _ (went (put_in k.number h.position _ _ tt l f))) (went f)) (λ u m.
      let v = rolled_one _ (rolled k.position.col (Some k.number) Tok.block_mapping_start p u tt l m) in
      went (record { stood = rekeyed (topped w.number None _ tt v.stood.keys) v.stood }))

  keyless_mapped : (p : Position) (h : Held) → Stands w h → Holds (Stands w) (begin_keyless_mapping p h)
  unfolding begin_keyless_mapping
  keyless_mapped p h s = choice _ (went s) (passes _ _ (went (rolled p.col None _ p h tt tt s)))

  keyless_begun : (p : Position) (pair : Bool) (h : Held) → Stands w h → Holds (Stands w) (begin_keyless_value p pair h)
  unfolding begin_keyless_value
  keyless_begun p pair h s = chained (keyless_mapped p _ (held_choice pair (more h.position Tok.flow_mapping_start h tt s) s)) (λ u k.
      went (let l = rolled_one u k in record { stood = l.stood }))

  value_begun : (k : Option Key) (p : Position) (pair : Bool) (h : Held) → KeyIs w.number k → Stands w h → Holds (Stands w) (value_of k p pair h)
  value_begun None p pair h l s = keyless_begun p pair h s
  value_begun (Some k) p pair h l s = key_inserted k p pair h l s

  value_fetched : (t : ScannerState) → Stands w t.held → Holds (StandsAt w) (fetch_value t)
  unfolding fetch_value
  value_fetched t s = chained (value_spaced (skip_indicator (on_held (λ h. record h { flow = paired h.flow }) t)) (record { stood = s.stood })) (λ u k.
      chained (tried u _ (value_begun (top_key u.held.keys) t.held.position (opens_pair t.held.flow) u.held (top_is w.number u.held.keys k.stood.keys) k)) (λ v l. went (more _ _ _ tt l)))

  -- ---- streams and documents

  stream_begun : (h : Held) → Stands w h → Stands w (begin_stream h)
  stream_begun h s = record { stood = record { tokens = kept.begun _ h.started (kept.pushed _ h.started _ tt s.stood.tokens); keys = (tt, s.stood.keys); going = s.stood.going } }

  stream_over : (h : Held) → Stands w h → Holds (IsOver w) (end_stream h)
  stream_over h s = passes _ _ (went (
      let k = unrolled_all 0 (record h { keys = cleared h.keys }) (record { stood = rekeyed (all_cleared w.number h.keys) s.stood }) in
      record { all = kept.closed _ _ _ k.stood.tokens; keys = k.stood.keys; ended = refl }))

  stream_ended : (t : ScannerState) → Stands w t.held → Holds (λ u. IsOver w u.held) (fetch_stream_end t)
  unfolding fetch_stream_end
  stream_ended t s = tried t _ (stream_over (record t.held { position = next_line t.held.position }) (record { stood = s.stood }))

  key_closed : (r : Result Held Fault) → Holds (Stands w) r → Holds (Stands w) (closed_key r)
  key_closed r (went s) = went (record { stood = s.stood })
  key_closed r refused = refused

  line_begun : (h : Held) → Stands w h → Holds (Stands w) (begin_line h)
  unfolding begin_line
  line_begun h s = key_closed _ (removed _ (unrolled_all 0 h s))

  directive_fetched : (t : ScannerState) → Stands w t.held → Holds (StandsAt w) (fetch_directive t)
  unfolding fetch_directive
  directive_fetched t s = chained (tried t _ (line_begun t.held s)) (λ u k.
      read_as u.held (directive u.rest u.held.position) (λ tok v. Ok (on_held (λ s. push t.held.position tok (record s { leading = true })) v)) k (directive_is_no_end u.rest u.held.position) (λ tok v q l.
      went (record { stood = pushed _ _ _ _ _ q l.stood })))

  marker_fetched : (tok : Tok) (t : ScannerState) → IsNoEnd tok → Stands w t.held → Holds (StandsAt w) (fetch_document_marker tok t)
  unfolding fetch_document_marker
  marker_fetched tok t q s = chained (tried t _ (line_begun t.held s)) (λ u k. went (record { stood = pushed _ _ _ _ _ q k.stood }))

  document_ended : (t : ScannerState) → Stands w t.held → Holds (StandsAt w) (fetch_document_end t)
  unfolding fetch_document_end check_document_end
  document_ended t s = chained (marker_fetched Tok.document_end t tt s) (λ u k.
      chained (spaces_skipped Yes u k) (λ v l. choice _ (went l) refused))

  -- ---- nodes

  node_begun : (h : Held) → Stands w h → Stands w (node_start h)
  node_begun h s = let k = saved h s in record { stood = k.stood }

  anchor_fetched : (kind : NameKind) (t : ScannerState) → Stands w t.held → Holds (StandsAt w) (fetch_anchor kind t)
  unfolding fetch_anchor
  anchor_fetched kind t s = read (node_start t.held) (anchor_name t.rest t.held.position) _ (node_begun t.held s) (λ name u k. went (record { stood = pushed _ _ _ _ _ (anchor_is_no_end kind name) k.stood }))

  tag_fetched : (t : ScannerState) → Stands w t.held → Holds (StandsAt w) (fetch_tag t)
  unfolding fetch_tag
  tag_fetched t s = read (node_start t.held) (tag (in_flow t.held) t.rest t.held.position) _ (node_begun t.held s) (λ g u k. went (record { stood = pushed _ _ _ _ _ tt k.stood }))

  block_fetched : (style : BlockStyle) (t : ScannerState) → Stands w t.held → Holds (StandsAt w) (fetch_block_scalar style t)
  unfolding fetch_block_scalar
  block_fetched style t s =
      let h = unroll_non_block_indents (allow_key true (save_implicit_key t.held)) in
      let l = saved t.held s in
      read h (block (is_literal style) h.indent t.rest t.held.position) _ (unrolled_open _ (record { stood = l.stood })) (λ b u k. went (record { stood = pushed _ _ _ _ _ tt k.stood }))

  flow_scalar_fetched : (quotes : Quotes) (t : ScannerState) → Stands w t.held → Holds (StandsAt w) (fetch_flow_scalar quotes t)
  unfolding fetch_flow_scalar check_after_quoted
  flow_scalar_fetched quotes t s =
      let h = node_start t.held in
      read h (quoted (are_single quotes) (context h) t.rest t.held.position) _ (node_begun t.held s) (λ text u k.
      chained (chained (spaces_skipped Yes (on_held unled u) (record { stood = k.stood })) (λ v l. choice _ (went l) refused)) (λ v l.
      chained (to_token v l) (λ x m. went (record { stood = pushed _ _ _ _ _ tt m.stood }))))

  plain_fetched : (t : ScannerState) → Stands w t.held → Holds (StandsAt w) (fetch_plain_scalar t)
  unfolding fetch_plain_scalar
  plain_fetched t s =
      let h = unroll_non_block_indents (node_start t.held) in
      read h (plain (context h) t.rest t.held.position) _ (unrolled_open _ (node_begun t.held s)) (λ r u k. went (record { stood = pushed _ _ _ _ _ tt k.stood }))

  -- ---- the next token

  by_class : (c : Class) (t : ScannerState) → Stands w t.held → Holds (StandsAt w) (token_by c t)
  by_class class.OpenBracket t s = flow_started collection.Sequence t tt s
  by_class class.OpenBrace t s = flow_started collection.Mapping t tt s
  by_class class.CloseBracket t s = flow_ended collection.Sequence t tt s
  by_class class.CloseBrace t s = flow_ended collection.Mapping t tt s
  by_class class.Comma t s = entry_passed t s
  by_class class.Dash t s = choice _ (block_entry t s) (plain_fetched t s)
  by_class class.Question t s = choice _ (key_fetched t s) (plain_fetched t s)
  by_class class.Colon t s = choice _ (value_fetched t s) (plain_fetched t s)
  by_class class.Asterisk t s = anchor_fetched Alias t s
  by_class class.Ampersand t s = anchor_fetched Anchor t s
  by_class class.Exclamation t s = tag_fetched t s
  by_class class.Bar t s = choice _ (plain_fetched t s) (block_fetched Literal t s)
  by_class class.Greater t s = choice _ (plain_fetched t s) (block_fetched Folded t s)
  by_class class.SingleQuote t s = flow_scalar_fetched Single t s
  by_class class.DoubleQuote t s = flow_scalar_fetched Double t s
  by_class class.Percent t s = refused
  by_class class.AtSign t s = refused
  by_class class.Backtick t s = refused
  by_class _ t s = plain_fetched t s

  indented_fetched : (t : ScannerState) → Stands w t.held → Holds (StandsAt w) (fetch_indented t)
  unfolding fetch_indented fetch_token
  indented_fetched t s = passes _ _ (by_class (class_of (peek t.rest)) t s)

  pub content_fetched : (t : ScannerState) → Stands w t.held → Holds (StandsAt w) (fetch_content t)
  unfolding fetch_content fetch_first_column
  content_fetched t s =
      choice _ (choice _ (directive_fetched t s)
      (choice _ (marker_fetched Tok.document_start t tt s) (choice _ (document_ended t s) (indented_fetched t s))))
      (indented_fetched t s)

  fares_stale : (h : Held) → Fares w h → Holds (Fares w) (stale h)
  unfolding stale
  fares_stale h (goes s) = weakened (λ u p. goes p) (stale_dropped h s)
  fares_stale h (over s) = choice (in_flow h) (went (over s)) (by _ (dropped w.number h.position h.keys s.keys))
    where
      by : (r : Result (List (Option Key)) Fault) → Holds (KeysAre w.number) r → Holds (Fares w) (with_keys h r)
      by r (went p) = went (over (record { all = s.all; keys = p; ended = s.ended }))
      by r refused = refused

  next_fetched : (t : ScannerState) → Stands w t.held → Holds (FaresAt w) (fetch_next t)
  unfolding fetch_next fetch_here
  next_fetched t s = chained (to_token t s) (λ u k. chained (tried u _ (stale_dropped u.held k)) (λ v l.
      chained (choice _ (weakened (λ u p. over p) (stream_ended _ (unrolled_all _ v.held l)))
      (weakened (λ u p. goes p) (content_fetched _ (unrolled_all _ v.held l)))) (λ x m.
      tried x _ (fares_stale x.held m))))

  pub fetched : (t : ScannerState) → Stands w t.held → Holds (FaresAt w) (fetch t)
  unfolding fetch fetch_stream_start
  fetched t s = choice t.held.started (next_fetched t s) (went (goes (stream_begun t.held s)))

  -- ---- runs

  going_stands : (h : Held) → h.ended ≡ false → Fares w h → Stands w h
  going_stands h e (goes s) = s
  going_stands h e (over s) = let f = s.ended in absurd cc

  -- A run keeps what each fetch keeps.
  pub fares : (t u : ScannerState) → Reaches t u → Fares w t.held → Fares w u.held
  fares t u here s = s
  fares t u (there {u = v} going e run) s = fares v u run (held_of v (fetched t (going_stands t.held going s)) e)
