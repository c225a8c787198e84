-- Steps outside flow that begin at a column, after block collections that end there.
use Rattle.proof_loads.proofs.Common.{[], act_of, another, ap, arith, awaits_past, begins_free_line, begins_with, begins_with_space_or_break, begun_by, begun_outside, Bool, colon_may_precede, dash_may_precede, false, free, further_lines_stand, gives_node, has_break, has_no_break, has_tab_before_piece, has_tab_within, inl, innermost, inside, is_at_gap, is_blank, is_break, is_deeper, is_in_column, is_marker, is_nul, is_separation, is_waiting, IsShown, last_line, le-ltb, least_column, length, length-append, line_past, line_past_separation, List, may_precede, nat_lt, not, not_ended, opened, Position, position_after, Previous, previous_by, put, quoted_may_end, refl, replicate, Some, stops, suc, taken, Tok, Token, toks, true, ℕ, ◌&&◌, ◌++◌, ◌+◌, ◌-◌, ◌<◌, ◌∙◌, ◌∷◌, ◌≡◌, ◌≤◌, map, append_assoc, or_true, if◌then◌else◌}
use Rattle.proof_row.proofs.CutColumns.{column_grows}
use Rattle.proof_scanner.proofs.Cut.Positions.{index_after}
use Rattle.proof_loads.proofs.HasRows.Nodes.{deeper, Quiet, Reads, at, step_of, site_of, Steps, step, ended, HasNone, Line}

-- ---- columns

-- collections that end at a column
abbrev pub AreAbove : ℕ → List ℕ → Type 0
AreAbove c [] = Unit {0}
AreAbove c (n ∷ ns) = (c < n) × AreAbove c ns

-- those that do not
abbrev pub Stay : ℕ → List ℕ → Type 0
Stay c [] = Unit {0}
Stay c (n ∷ ns) = n ≤ c

left_open : (c : ℕ) (extra bs : List ℕ) → AreAbove c extra → Stay c bs → not_ended c (extra ++ bs) ≡ bs
left_open c [] bs above stay = grind (arith, le-ltb)
left_open c (n ∷ extra) bs above stay = let low = above.0 in let e : nat_lt c n ≡ true = grind (arith, low) in rw e (left_open c extra bs above.1 stay)

pub ends_are : (extra : List ℕ) (p : Position) (first : List Token) → toks (replicate (length extra) (put p Tok.block_end) ++ first) ≡ ended extra (toks first)
ends_are [] p first = refl
ends_are (n ∷ extra) p first = ap (λ o. Tok.block_end ∷ o) (ends_are extra p first)

-- ---- collections at a column

-- after a separation a rest stands at a column, and a key may begin there
pub record Here (c : ℕ) (text rest : List ℕ) (p : Position) (before : Previous) (l : Line) : Type 0 where
  pub by : List ℕ
  pub is : text ≡ by ++ rest
  pub separates : is_separation false by rest ≡ true
  pub tabless : (n : ℕ) → has_tab_within n (last_line by) ≡ false
  pub line : line_past_separation false (begins_free_line before by) l ≡ Some free
  pub column : (position_after p by rest).col ≡ c
  pub none : HasNone by

-- the collection of the column is open, or not yet
abbrev pub stood : (is_open : Bool) → ℕ → List ℕ → List ℕ
stood is_open c bs = if is_open then c ∷ bs else bs

abbrev pub starts : (is_open : Bool) → Tok → List Tok → List Tok
starts is_open t o = if is_open then o else t ∷ o

-- where it is not, the column is deeper than the others
abbrev pub MayBegin : (is_open : Bool) → ℕ → List ℕ → Type 0
MayBegin is_open c bs = is_open ≡ false → least_column bs true ≤ c

-- where a rest stands at the column, from any collections that end there, these tokens are read, after the start of one that isn't open
abbrev pub Comes : (c : ℕ) → (blocks rest : List ℕ) → (collection : Tok) → List Tok → Type 0
Comes c bs rest collection tokens =
    (is_open : Bool) (extra : List ℕ) (p : Position) (awaits : Bool) (before : Previous) (l : Line) (text : List ℕ) → AreAbove c extra → MayBegin is_open c bs → Here c text rest p before l
    → Reads (at p (extra ++ stood is_open c bs) awaits before l []) text (ended extra (starts is_open collection tokens))

stands : (is_open : Bool) (c : ℕ) (bs : List ℕ) → MayBegin is_open c bs → Stay c (stood is_open c bs)
stands a c bs h = grind arith

opens : (is_open : Bool) (c : ℕ) (bs : List ℕ) → MayBegin is_open c bs → opened c (stood is_open c bs) ≡ c ∷ bs
opens a c bs h = grind (arith, le-ltb, deeper)

start_more : (is_open : Bool) (t : Tok) (a b : List Tok) → starts is_open t a ++ b ≡ starts is_open t (a ++ b)
start_more is_open t a b = grind arith

-- what a piece at the column says, where these collections go on there
abbrev pub ShownAt : (bs w : List ℕ) → Tok → (key : Bool) → (next : List ℕ) → Type 0
ShownAt bs w t key next =
    (all : List ℕ) (p : Position) (awaits : Bool) (before : Previous) (l : Line) (f : List ℕ) → not_ended (position_after p f (w ++ next)).col all ≡ bs
    → IsShown (at p all awaits before l []) (site_of (at p all awaits before l []) (step_of f w t key) next) (step_of f w t key) next

module _ (c : ℕ) (bs w : List ℕ) (t : Tok) (key : Bool) (next : List ℕ) (collection : Tok) (own tokens : List Tok) (blocks : (is_open : Bool) → List ℕ) (after : Position → Line) where
  -- a piece at the column
  at_column : is_marker (act_of t) ≡ false → HasNone w → ((is_open : Bool) → ShownAt (stood is_open c bs) w t key next) → ((column : ℕ) → further_lines_stand column t w ≡ true)
      → ((is_open : Bool) → may_precede false (stood is_open c bs) t w next ≡ true)
      → ((is_open must : Bool) (here : Position) → here.col ≡ c → MayBegin is_open c bs → line_past must here (stood is_open c bs) (act_of t) key free ≡ Some (record { line = after here; blocks = blocks is_open }))
      → ((here : Position) → (has_break w && is_waiting (after here)) ≡ false)
      → ((is_open : Bool) (here colon : Position) → toks (begun_outside (not is_open) here colon (act_of t) key (Some free)) ≡ starts is_open collection own)
      → ((is_open : Bool) (here : Position) (awaits : Bool) → here.col ≡ c → MayBegin is_open c bs → Reads (at (position_after here w next) (blocks is_open) awaits (previous_by t) (after here) (begun_by t)) next tokens)
      → Comes c bs (w ++ next) collection (own ++ t ∷ tokens)
  at_column no_marker none shown further precede leads one_line begins rest is_open extra p awaits before l text above may here =
      let at_c = stood is_open c bs in
      let a = at p (extra ++ at_c) awaits before l [] in
      let w' = step_of here.by w t key in
      let there = position_after p here.by (w ++ next) in
      let stay : not_ended there.col (extra ++ at_c) ≡ at_c = rw (here.column) (left_open c extra at_c above (stands is_open c bs may)) in
      let waits = awaits_past false t (site_of a w' next).blocks (site_of a w' next).awaits next in
      let so_many : length (extra ++ at_c) - length at_c ≡ length extra = rw length-append (omega arith) in
      let deep : is_deeper there.col at_c ≡ not is_open = rw (here.column) (grind (arith, le-ltb, deeper)) in
      let s : Steps a w' next (at (position_after there w next) (blocks is_open) waits (previous_by t) (after there) (begun_by t)) (ended extra (starts is_open collection own)) = record {
        is_separated = here.separates;
        is_shown = shown is_open (extra ++ at_c) p awaits before l here.by stay;
        stands = rw (here.tabless, or_true, further, no_marker, stay, precede) refl;
        leads = rw (here.line, no_marker, stay, leads is_open (is_in_column there.col at_c) there here.column may, one_line) refl;
        begins = λ past colon. rw (here.line, no_marker, stay, so_many, deep) (ends_are extra there _ ∙ ap (ended extra) (begins is_open there colon.here));
        none = (here.none, none);
      } in
      rw (here.is, ← start_more is_open collection own (t ∷ tokens), ← append_assoc (map (λ n. Tok.block_end) extra) (starts is_open collection own) (t ∷ tokens)) (step w' next s (rest is_open there waits here.column may))

-- ---- entries

module _ (c : ℕ) (bs next : List ℕ) (tokens : List Tok) where
  -- from after an indicator at the column on
  abbrev pub Marked : Type 0
  Marked = (p : Position) (awaits : Bool) → p.col ≡ suc c → Reads (at p (c ∷ bs) awaits another free []) next tokens

  pub dash_reads : is_at_gap next ≡ true → dash_may_precede next ≡ true → Marked → Comes c bs (45 ∷ next) Tok.block_sequence_start (Tok.block_entry ∷ tokens)
  unfolding is_break
  dash_reads gap follows rest =
      at_column c bs (45 ∷ []) Tok.block_entry false next Tok.block_sequence_start [] tokens (λ o. c ∷ bs) (λ here. free) refl refl (λ o all p awaits before l f stay. (refl, (refl, gap, refl))) (λ column. refl) (λ o. follows)
      (λ o must here col may. rw (col, opens o c bs may) refl) (λ here. refl) (λ o here colon. grind arith) (λ o here awaits col may. rest _ awaits (ap suc col))

  pub question_reads : begins_with_space_or_break next ≡ true → has_tab_before_piece false next ≡ false → Marked → Comes c bs (63 ∷ next) Tok.block_mapping_start (Tok.key ∷ tokens)
  unfolding is_break
  question_reads gap follows rest =
      at_column c bs (63 ∷ []) Tok.key false next Tok.block_mapping_start [] tokens (λ o. c ∷ bs) (λ here. free) refl refl (λ o all p awaits before l f stay. (refl, inl (refl, gap))) (λ column. refl) (λ o. rw follows refl)
      (λ o must here col may. rw (col, opens o c bs may) refl) (λ here. refl) (λ o here colon. grind arith) (λ o here awaits col may. rest _ awaits (ap suc col))

  -- the colon of an explicit key, or of an empty one
  pub colon_reads : is_at_gap next ≡ true → colon_may_precede next ≡ true → Marked → Comes c bs (58 ∷ next) Tok.block_mapping_start (Tok.value ∷ tokens)
  unfolding is_break
  colon_reads gap follows rest =
      at_column c bs (58 ∷ []) Tok.value false next Tok.block_mapping_start [] tokens (λ o. c ∷ bs) (λ here. free) refl refl (λ o all p awaits before l f stay. (refl, (refl, rw gap refl))) (λ column. refl) (λ o. follows)
      (λ o must here col may. rw (col, opens o c bs may) refl) (λ here. refl) (λ o here colon. grind arith) (λ o here awaits col may. rest _ awaits (ap suc col))

-- ---- implicit keys

-- the colon right after a key
module _ (bs bs' next : List ℕ) (begin p : Position) (awaits : Bool) (before : Previous) (stay : Stay p.col bs) (near : p.index ≤ begin.index + 1024) (opens : opened begin.col bs ≡ bs') (gap : is_at_gap next ≡ true) (follows : colon_may_precede next ≡ true) (quiet : begins_free_line before [] ≡ false) where
  colon_step : Steps (at p bs awaits before (Line.waits begin) []) (step_of [] (58 ∷ []) Tok.value false) next (at (position_after p (58 ∷ []) next) bs' true another taken []) []
  colon_step = grind arith

-- what the piece of a scalar and its token say
pub record IsScalarPiece (w : List ℕ) (t : Tok) : Type 0 where
  pub node : (act_of t ≡ gives_node) × (begun_by t ≡ []) × Quiet (previous_by t)
  pub no_break : has_no_break w ≡ true
  pub none : HasNone w
  pub further : (column : ℕ) → further_lines_stand column t w ≡ true
  pub shown : (bs : List ℕ) (key : Bool) (r : List ℕ) → stops false (innermost bs) inside r ≡ true → begins_with 39 r ≡ false → ShownAt bs w t key r
  pub precedes : (bs r : List ℕ) → quoted_may_end false w r ≡ true → may_precede false bs t w r ≡ true

-- a key and its colon
pub key_reads : (c : ℕ) (bs w : List ℕ) (t : Tok) (next : List ℕ) (tokens : List Tok) → IsScalarPiece w t → length w ≤ 1024
    → is_at_gap next ≡ true → colon_may_precede next ≡ true → ((p : Position) → suc c ≤ p.col → Reads (at p (c ∷ bs) true another taken []) next tokens)
    → Comes c bs (w ++ 58 ∷ next) Tok.block_mapping_start (Tok.key ∷ t ∷ Tok.value ∷ tokens)
unfolding is_blank is_break is_nul
key_reads c bs w t next tokens z short gap follows rest =
    at_column c bs w t true (58 ∷ next) Tok.block_mapping_start (Tok.key ∷ []) (Tok.value ∷ tokens) (λ o. stood o c bs) Line.waits (rw (z.node.0) refl) z.none
    (λ o. z.shown (stood o c bs) true (58 ∷ next) (rw gap refl) refl) z.further (λ o. z.precedes (stood o c bs) (58 ∷ next) (rw (z.no_break) refl))
    (λ o must here col may. rw (z.node.0) refl) (λ here. rw (z.no_break) refl) (λ o here colon. grind arith)
    (λ o here awaits col may.
    let past = position_after here w (58 ∷ next) in
    let x = column_grows here w (58 ∷ next) z.no_break in
    let i = index_after here w (58 ∷ next) in
    let on : Stay past.col (stood o c bs) = let low = stands o c bs may in grind arith in
    let opened_at : opened here.col (stood o c bs) ≡ c ∷ bs = rw col (opens o c bs may) in
    rw (z.node.1) (step (step_of [] (58 ∷ []) Tok.value false) next (colon_step (stood o c bs) (c ∷ bs) next here past awaits (previous_by t) on (omega (arith, i, short)) opened_at gap follows (z.node.2 [])) (rest (position_after past (58 ∷ []) next) (omega (arith, x, col)))))
