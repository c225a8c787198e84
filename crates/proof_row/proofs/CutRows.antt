-- Each step of a row is a row of a cut: tokens without a piece, and the one that it shows.
use Rattle.proof_row.proofs.Common.{[], account_at_piece, account_past, account_past_separation, account_past_token, Act, act_of, ap, arith, Before, before_past, begins_free_line, begun_by, begun_inside, begun_outside, Bool, Colon, ends_at, entries_past, Entry, false, free, gives_node, has_break, has_no_break, if◌then◌else◌, inl, inr, is_deeper, is_in_column, is_in_line, is_marker, is_renewed, is_separation, is_waiting, IsPiece, IsWritten, key_end, length, level_of, Line, line_past, line_past_separation, List, map, may_stand, None, not_ended, on_one_line, Option, Outside, pair_position, past_inside, past_outside, past_piece, piece_with_blocks, Position, position_after, previous_by, put, refl, seen, shown_position, Site, site_at, site_past, Some, Step, subst, suc, sym, taken, takes_pair, Tok, Token, tokens_of_step, true, waits, ℕ, ◌&&◌, ◌++◌, ◌<◌, ◌∙◌, ◌∷◌, ◌≡◌, ◌≤◌}
use Rattle.std.proofs.Math.Bool.{and-false}
use Rattle.defs_token.specs.Account.{Account as PieceAccount}
use Rattle.defs_token.specs.Step as step
use Rattle.defs_token.specs.RowAccount.{Account, before_by as before_by_previous}
use Rattle.proof_row.proofs.CutColumns.{LeadTo, blocks_end, not_ended_twice, not_ended_further, column_grows, unbroken, no_directive}
use Rattle.proof_row.proofs.CutEntries.{EnteredBy, entered}
use Rattle.proof_row.proofs.CutPieces.{account_by, whatever_follows, indicator_with_blocks, piece_in_flow, begins_no_key}
use Rattle.proof_row.proofs.CutSteps.{somes, with_key, levels_in, in_cut, blocks_alike, settled_all, levels_outside, Sees, BegunBy, begun}
use Rattle.proof_row.proofs.Inserted.{written, spelled_written, tokens_written, past_all, AreEmpty, IsCutOf, written_so}

-- ---- a key that waits

-- Whether a key that waits is left of the position, on its line, and not left of the innermost block collection.
abbrev pub KeptBy : Line → Site → Type 0
KeptBy (waits begin) s = (not_ended begin.col s.blocks ≡ s.blocks) × (begin.col < s.position.col) × ((f : List ℕ) → begins_free_line s.before f ≡ has_break f)
KeptBy _ s = Unit {0}

abbrev pub IsKept : Account → Type 0
IsKept a = KeptBy a.line a.site

-- where none waits
pub idle_kept : (l : Line) (s : Site) → is_waiting l ≡ false → KeptBy l s
idle_kept a s h = grind arith

-- ---- what is shown of a step

-- A step as a row of a cut: its text, its tokens, and the account after it.
pub record IsCutStep (a : Account) (w : Step) (ws : List Step) (after : List ℕ) (b : Account) : Type 0 where
  pub cut : (let next : List ℕ = step.spelled ws after in
      IsCutOf (in_cut a) (w.separation ++ (w.piece ++ next)) (tokens_of_step a w ws after) next (in_cut b))
  pub kept : IsKept b

-- the piece and account of a step, from the account at its piece
stepped : (a : Account) (f : List ℕ) (c : ℕ) (r : List ℕ) (t : Tok) (key : Bool) (ws : List Step) (after : List ℕ) (b : Account) (us : List Token) (p : Position) (opened : PieceAccount) →
    (let w : Step = record { separation = f; piece = c ∷ r; shown = t; key = key } in let next : List ℕ = step.spelled ws after in let here : PieceAccount = account_past_separation (in_cut a) f ((c ∷ r) ++ next) in
    is_separation false f ((c ∷ r) ++ next) ≡ true → (tokens_of_step a w ws after ≡ us ++ (put p t ∷ [])) → AreEmpty here us ((c ∷ r) ++ next) t → account_at_piece (past_all here us) (c ∷ r) ≡ opened →
    IsPiece opened (c ∷ r) next None p t → account_past_token opened (c ∷ r) next t ≡ in_cut b → IsKept b → IsCutStep a w ws after b)
stepped a f c r t key ws after b us p opened fills tokens empty there piece same kept =
    let next : List ℕ = step.spelled ws after in
    let so = written_so (in_cut a) f us (c ∷ r) (put p t) next fills empty (λ last. rw there (whatever_follows opened c r next None last p t piece)) in
    record {
      cut = record {
        row = written f us (c ∷ r) (put p t);
        spells = spelled_written f us (c ∷ r) (put p t) next;
        tokens_are = tokens_written f us (c ∷ r) (put p t) ∙ sym tokens;
        is_row = record { is_row = so.is_row; past = so.past ∙ ap (λ d. account_past_token d (c ∷ r) next t) there ∙ same };
      };
      kept = kept;
    }

-- ---- outside flow

-- a key that waits, at a piece on its line
abbrev WaitsAt : Line → ℕ → List ℕ → Type 0
WaitsAt (waits begin) col bs = (not_ended begin.col bs ≡ bs) × (begin.col ≤ col)
WaitsAt _ col bs = Unit {0}

abbrev WaitsThen : Act → ℕ → Option Outside → Type 0
WaitsThen k col None = Unit {0}
WaitsThen k col (Some x) = WaitsAt x.line col x.blocks × (is_waiting x.line ≡ true → k ≡ gives_node)

waits_on : (k : Act) (must key : Bool) (l : Line) (here : Position) (bs : List ℕ) → WaitsAt l here.col bs → (k ≡ gives_node → not_ended here.col bs ≡ bs) → WaitsThen k here.col (line_past must here bs k key l)
waits_on a must b l d bs w n = grind arith

-- a key that waits still does after a piece
kept_on : (l : Line) (here : Position) (bs : List ℕ) (awaits : Bool) (c : ℕ) (r next : List ℕ) (t : Tok) → WaitsAt l here.col bs → (is_waiting l ≡ true → has_no_break (c ∷ r) ≡ true) → (is_waiting l ≡ true → (f : List ℕ) → begins_free_line (previous_by t) f ≡ has_break f) →
    KeptBy l (record { position = position_after here (c ∷ r) next; blocks = bs; awaits = awaits; before = previous_by t })
kept_on (waits begin) here bs awaits c r next t w h f = (w.0, omega (arith, column_grows here (c ∷ r) next (h refl), w.1), f refl)
kept_on _ here bs awaits c r next t w h f = tt

-- the separation before a piece, where a key may wait
abbrev Leads : Site → Line → (at : Site) → Line → Before → Type 0
Leads s line at l b = LeadTo (account_by at.position b (somes (with_key s.blocks line)) []) (ends_at at.position s.blocks at.blocks) (account_by at.position b (somes (with_key at.blocks l)) [])

-- after a piece outside flow, where a key must begin or not
abbrev pub past_by : (must : Bool) → Site → (piece : List ℕ) → Tok → (next : List ℕ) → (key : Bool) → Option Line → Option Account
past_by must at p t next key None = None
past_by must at p t next key (Some l) = past_outside at p t next (line_past must at.position at.blocks (act_of t) key l)

same_many : (es : List Entry) → length (map level_of es) ≡ length (levels_in es)
same_many [] = refl
same_many (e ∷ es) = ap suc (same_many es)

-- a step with its piece, and what is known of the account before it
module _ (s : Site) (line : Line) (f : List ℕ) (c : ℕ) (r : List ℕ) (t : Tok) (key : Bool) (ws : List Step) (after : List ℕ) (x : Account) where
  abbrev place : List Entry → Account
  place es = record { site = s; line = line; entries = es }

  abbrev shown_step : Step
  shown_step = record { separation = f; piece = c ∷ r; shown = t; key = key }

  abbrev further : List ℕ
  further = step.spelled ws after

  abbrev site_here : Site
  site_here = site_at false s f (c ∷ r) t further

  abbrev inner : Site
  inner = site_at true s f (c ∷ r) t further

  abbrev before_here : Before
  before_here = before_past (before_by_previous s.before) f

  abbrev colon : Site → Colon
  colon at = key_end t (position_after at.position (c ∷ r) further) ws after

  abbrev own : Site → Position
  own at = shown_position at (c ∷ r) t further

  abbrev IsCut : List Entry → Type 0
  IsCut es = IsCutStep (place es) shown_step ws after x

  -- ---- outside flow

  outside_so : (must : Bool) (l : Line) → IsWritten (place []) shown_step further → line_past_separation false (begins_free_line s.before f) line ≡ Some l
      → past_by must site_here (c ∷ r) t further key (line_past_separation false (begins_free_line s.before f) line) ≡ Some x
      → (has_break (c ∷ r) && is_waiting x.line) ≡ false → (IsKept x → is_waiting x.line ≡ true → is_in_line further ≡ true)
      → Leads s line site_here l before_here → WaitsAt l site_here.position.col site_here.blocks → IsCut []
  outside_so must l h same_line same on_line in_line leads waiting =
      by (line_past must site_here.position site_here.blocks (act_of t) key l) (rw same_line at same)
      (begun (act_of t) must key l site_here.position (colon site_here).here before_here ((c ∷ r) ++ further) t c r site_here.blocks refl)
      (waits_on (act_of t) must key l site_here.position site_here.blocks waiting on_node)
    where
      -- at a node the collections that go on are those that it does not end
      on_node : act_of t ≡ gives_node → not_ended site_here.position.col site_here.blocks ≡ site_here.blocks
      on_node k = grind (arith, not_ended_twice)

      more : Option Line → List Token
      more o = begun_outside (is_deeper site_here.position.col site_here.blocks) site_here.position (colon site_here).here (act_of t) key o

      by : (o : Option Outside) → past_outside site_here (c ∷ r) t further o ≡ Some x → BegunBy (account_by site_here.position before_here (somes (with_key site_here.blocks l)) []) (more (Some l)) ((c ∷ r) ++ further) t (act_of t) c r site_here.blocks o → WaitsThen (act_of t) site_here.position.col o → IsCut []
      by None e g k = absurd (cc e)
      by (Some o) e g k =
          let z : Account = record { site = site_past false site_here (c ∷ r) t further o.blocks; line = o.line; entries = begun_by t } in
          let to : z ≡ x = cc e in
          let line_is : o.line ≡ x.line = ap (λ y. y.line) to in
          let one_line : is_waiting o.line ≡ true → has_no_break (c ∷ r) ≡ true = λ h. (grind arith) in
          let us : List Token = ends_at site_here.position s.blocks site_here.blocks ++ more (Some l) in
          let lead = leads (more (Some l)) ((c ∷ r) ++ further) t g.are_empty in
          let opened : PieceAccount = account_by site_here.position before_here (somes (with_key o.blocks o.line)) [] in
          let there : account_at_piece (past_all (account_past_separation (in_cut (place [])) f ((c ∷ r) ++ further)) us) (c ∷ r) ≡ opened = ap (λ d. account_at_piece d (c ∷ r)) lead.1 ∙ g.blocks_are in
          let keeps : IsKept z = kept_on o.line site_here.position o.blocks z.site.awaits c r further t k.0 one_line (λ i. no_directive (seen (place []) site_here f) c r further None (own site_here) t h.1.1 (inl (k.1 i))) in
          let on : is_waiting o.line ≡ true → is_in_line further ≡ true = λ i. in_line (subst IsKept to keeps) (ap is_waiting (sym line_is) ∙ i) in
          let piece : IsPiece opened (c ∷ r) further None (own site_here) t = sees o one_line on g.sees in
          let alike = blocks_alike opened c r further None (own site_here) t (somes (with_key o.blocks o.line)) piece in
          let levels = levels_outside t c r in
          let past : account_past_token opened (c ∷ r) further t ≡ in_cut z = grind (arith, alike, levels) in
          rw (← to) (stepped (place []) f c r t key ws after z us (own site_here) opened h.0 (ap (λ o. (ends_at site_here.position s.blocks site_here.blocks ++ more o) ++ (put (own site_here) t ∷ [])) same_line) lead.0 there piece past keeps)
        where
          sees : (o : Outside) → (is_waiting o.line ≡ true → has_no_break (c ∷ r) ≡ true) → (is_waiting o.line ≡ true → is_in_line further ≡ true) → Sees (act_of t) site_here.blocks o → IsPiece (account_by site_here.position before_here (somes (with_key o.blocks o.line)) []) (c ∷ r) further None (own site_here) t
          sees o one on (inl e) = rw e h.1.1
          sees o one on (inr (inl k)) = piece_with_blocks (somes (with_key o.blocks o.line)) (account_by site_here.position before_here (somes site_here.blocks) []) (c ∷ r) further None (own site_here) t (grind arith) (one k.0) (on k.0) h.1.1
          sees o one on (inr (inr i)) = indicator_with_blocks (somes (with_key o.blocks o.line)) (account_by site_here.position before_here (somes site_here.blocks) []) c r further None (own site_here) t i h.1.1

  outside_step : (must : Bool) → IsWritten (place []) shown_step further → past_by must site_here (c ∷ r) t further key (line_past_separation false (begins_free_line s.before f) line) ≡ Some x
      → (has_break (c ∷ r) && is_waiting x.line) ≡ false → (IsKept x → is_waiting x.line ≡ true → is_in_line further ≡ true) → IsKept (place []) → IsCut []
  outside_step must h same on_line in_line kept = by (begins_free_line s.before f) line refl refl
    where
      lead : Leads s free site_here free before_here
      lead = blocks_end (act_of t) site_here.position site_here.position before_here s.blocks

      waiting_so : (begin : Position) → line ≡ waits begin → begins_free_line s.before f ≡ false → (m : Bool) → is_marker (act_of t) ≡ m → IsCut []
      waiting_so begin e g true k = grind (arith, same)
      waiting_so begin e g false k =
          let keeps : KeptBy (waits begin) s = subst (λ z. KeptBy z s) e kept in
          let right : begin.col ≤ site_here.position.col = omega (arith, keeps.1, column_grows s.position f ((c ∷ r) ++ further) (unbroken f (sym (keeps.2 f) ∙ g))) in
          let all : site_here.blocks ≡ s.blocks = ap (λ m. if m then [] else not_ended site_here.position.col s.blocks) k ∙ not_ended_further begin.col site_here.position.col s.blocks right keeps.0 in
          outside_so must (waits begin) h (rw (g, e) refl) same on_line in_line (rw e (λ us n u i. grind (arith, all))) (rw all keeps.0, right)

      by : (n : Bool) (m : Line) → begins_free_line s.before f ≡ n → line ≡ m → IsCut []
      by true free g e = outside_so must free h (rw (g, e) refl) same on_line in_line (rw e lead) tt
      by false free g e = outside_so must free h (rw (g, e) refl) same on_line in_line (rw e lead) tt
      by true taken g e = outside_so must free h (rw (g, e) refl) same on_line in_line (rw e lead) tt
      by false taken g e = outside_so must taken h (rw (g, e) refl) same on_line in_line (rw e lead) tt
      by false (waits begin) g e = waiting_so begin e g (is_marker (act_of t)) refl
      by true (waits begin) g e = absurd (cc (rw (g, e) at same))

  -- ---- in flow

  inside_step : (e : Entry) (es : List Entry) → IsWritten (place (e ∷ es)) shown_step further
      → past_piece inner (c ∷ r) t further (is_renewed s.before f) key (line_past_separation true (begins_free_line s.before f) line) (e ∷ es) ≡ Some x
      → (has_break (c ∷ r) && is_waiting x.line) ≡ false → IsKept (place (e ∷ es)) → IsCut (e ∷ es)
  inside_step e es h same on_line kept = by_line (line_past_separation true (begins_free_line s.before f) line) refl same
    where
      bs : List (Option ℕ)
      bs = somes (with_key s.blocks line)

      us : List Token
      us = begun_inside (takes_pair e.kind e.pair) e.pair inner.position (pair_position (colon inner).past (colon inner).next) (pair_position (position_after inner.position (c ∷ r) further) further) (act_of t) key e.had

      here : PieceAccount
      here = account_by inner.position before_here bs (levels_in (e ∷ es))

      by_entries : (l : Line) → line_past_separation true (begins_free_line s.before f) line ≡ Some l → (o : Option (List Entry)) → past_inside inner (c ∷ r) t further l o ≡ Some x → EnteredBy here us ((c ∷ r) ++ further) t c r es o → IsCut (e ∷ es)
      by_entries l g None i n = absurd (cc i)
      by_entries l g (Some zs) i n =
          let z : Account = record { site = site_past true inner (c ∷ r) t further inner.blocks; line = l; entries = zs } in
          let to : z ≡ x = cc i in
          let flow : (l ≡ line) × (is_waiting line ≡ true → begins_free_line s.before f ≡ false) = grind arith in
          let one_line : is_waiting line ≡ true → has_no_break (c ∷ r) ≡ true = λ j. (grind arith) in
          let after_all : PieceAccount = account_by inner.position before_here bs (n.level ∷ levels_in es) in
          let there : account_at_piece (past_all here us) (c ∷ r) ≡ after_all = ap (λ d. account_at_piece d (c ∷ r)) n.account_is ∙ ap (λ y. account_by inner.position before_here y (n.level ∷ levels_in es)) (settled_all inner.position.col (with_key s.blocks line)) in
          let piece : IsPiece after_all (c ∷ r) further None (own inner) t = piece_in_flow inner.position before_here (somes inner.blocks) bs (level_of e) n.level (map level_of es) (levels_in es) c r further None None (own inner) t (same_many es) n.has_no_pair h.1.1 in
          let alike = blocks_alike after_all c r further None (own inner) t bs piece in
          let past : account_past_token after_all (c ∷ r) further t ≡ in_cut z = (let levels = n.levels_are in let same = flow.0 in grind (arith, alike, levels, same)) in
          let waiting : KeptBy l z.site = subst (λ y. KeptBy y z.site) (sym flow.0) (keeps line kept flow.1 one_line piece) in
          rw (← to) (stepped (place (e ∷ es)) f c r t key ws after z us (own inner) after_all h.0 refl n.are_empty there piece past waiting)
        where
          keeps : (m : Line) → KeptBy m s → (is_waiting m ≡ true → begins_free_line s.before f ≡ false) → (is_waiting m ≡ true → has_no_break (c ∷ r) ≡ true) → IsPiece (account_by inner.position before_here bs (n.level ∷ levels_in es)) (c ∷ r) further None (own inner) t →
              KeptBy m (site_past true inner (c ∷ r) t further inner.blocks)
          keeps a k broken one p = grind (arith, column_grows, unbroken, kept_on, no_directive)

      by_line : (o : Option Line) → line_past_separation true (begins_free_line s.before f) line ≡ o → past_piece inner (c ∷ r) t further (is_renewed s.before f) key o (e ∷ es) ≡ Some x → IsCut (e ∷ es)
      by_line None g i = absurd (cc i)
      by_line (Some l) g i = by_entries l g (entries_past inner.position (is_renewed s.before f) (act_of t) (begun_by t) key e es) i
          (entered (act_of t) (is_renewed s.before f) key e.had e.kind e.pair inner.position (pair_position (colon inner).past (colon inner).next) (pair_position (position_after inner.position (c ∷ r) further) further) before_here bs ((c ∷ r) ++ further) t c r es refl
          (λ k. begins_no_key (seen (place (e ∷ es)) inner f) c r further None (own inner) t k h.1.1))

-- ---- all

stood : (may : Bool) (p : List ℕ) (o : Option Account) (x : Account) → (if may then on_one_line p o else None) ≡ Some x → (o ≡ Some x) × ((has_break p && is_waiting x.line) ≡ false)
stood a p o x e = grind arith

same_by : (at : Site) (p : List ℕ) (t : Tok) (next : List ℕ) (again key : Bool) (o : Option Line) → past_by (is_in_column at.position.col at.blocks) at p t next key o ≡ past_piece at p t next again key o []
same_by a p t b again d e = grind arith

-- A piece outside flow that begins no key is a row of a cut, also where a key must begin.
pub cut_no_key : (must : Bool) (a : Account) (w : Step) (ws : List Step) (after : List ℕ) (x : Account) → a.entries ≡ [] → is_waiting a.line ≡ false → is_waiting x.line ≡ false →
    (let next : List ℕ = step.spelled ws after in let at : Site = site_at false a.site w.separation w.piece w.shown next in
    IsWritten a w next → past_by must at w.piece w.shown next w.key (line_past_separation false (begins_free_line a.site.before w.separation) a.line) ≡ Some x → IsCutStep a w ws after x)
cut_no_key must a w ws after x none idle idle_then h same = by a.entries w.piece none h same
  where
    next : List ℕ
    next = step.spelled ws after

    by : (es : List Entry) (p : List ℕ) → es ≡ [] →
        (let b : Account = record { site = a.site; line = a.line; entries = es } in let v : Step = record { separation = w.separation; piece = p; shown = w.shown; key = w.key } in let at : Site = site_at false a.site w.separation p w.shown next in
        IsWritten b v next → past_by must at p w.shown next w.key (line_past_separation false (begins_free_line a.site.before w.separation) a.line) ≡ Some x → IsCutStep b v ws after x)
    by (e ∷ es) p i h same = absurd (cc i)
    by [] [] i h same = absurd (cc h.1.0)
    by [] (c ∷ r) i h same =
        outside_step a.site a.line w.separation c r w.shown w.key ws after x must h same (rw idle_then (and-false (has_break (c ∷ r))))
        (λ k j. absurd (cc (j, idle_then))) (idle_kept a.line a.site idle)

-- A step of a row is a row of a cut, if where a key waits the text after it goes on in the line.
pub cut_step : (a : Account) (w : Step) (ws : List Step) (after : List ℕ) (x : Account) → IsWritten a w (step.spelled ws after) → account_past a w (step.spelled ws after) ≡ Some x →
    (IsKept x → is_waiting x.line ≡ true → is_in_line (step.spelled ws after) ≡ true) → IsKept a → IsCutStep a w ws after x
cut_step a w ws after x h same in_line kept = by a.entries w.piece h same kept
  where
    next : List ℕ
    next = step.spelled ws after

    by : (es : List Entry) (p : List ℕ) →
        (let b : Account = record { site = a.site; line = a.line; entries = es } in let v : Step = record { separation = w.separation; piece = p; shown = w.shown; key = w.key } in
        IsWritten b v next → account_past b v next ≡ Some x → IsKept b → IsCutStep b v ws after x)
    by es [] h same kept = absurd (cc h.1.0)
    by [] (c ∷ r) h same kept =
        let at : Site = site_at false a.site w.separation (c ∷ r) w.shown next in
        let s = stood (may_stand false a.site at w.separation (c ∷ r) w.shown next) (c ∷ r) _ x same in
        outside_step a.site a.line w.separation c r w.shown w.key ws after x (is_in_column at.position.col at.blocks) h (same_by at (c ∷ r) w.shown next (is_renewed a.site.before w.separation) w.key (line_past_separation false (begins_free_line a.site.before w.separation) a.line) ∙ s.0) s.1 in_line kept
    by (e ∷ es) (c ∷ r) h same kept =
        let at : Site = site_at true a.site w.separation (c ∷ r) w.shown next in
        let s = stood (may_stand true a.site at w.separation (c ∷ r) w.shown next) (c ∷ r) _ x same in
        inside_step a.site a.line w.separation c r w.shown w.key ws after x e es h s.0 s.1 kept
