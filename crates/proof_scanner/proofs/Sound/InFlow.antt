-- A piece in flow was read: if the definition and the scanner agree on its entries and tokens, what holds where it begins holds between two fetches after it.
use Rattle.proof_scanner.proofs.Common.{[], Account, account_past, act_of, ap, AreNumbered, arith, begins_free_line, begun_by, begun_inside, Bool, chosen, colon_of, columns, entries_by, entries_past, Entry, entry_by, false, FlowLevel, has_break, HasHadHere, is_empty, is_renewed, is_waiting, IsEntryOf, IsPiece, Key, least_column, length, length-append, Line, line_by, line_past_separation, List, may_stand, MayChoose, nat_le, None, not, NotBefore, Option, outside_key, pair_position, pop, Position, position_after, previous_by, put, refl, ScannerState, seen, shown_position, Site, site_here, site_past, Some, spelled, Step, suc, sym, takes_pair, Tok, Token, tokens_at, tokens_up_to, true, with_keys, ℕ, ◌&&◌, ◌++◌, ◌∙◌, ◌∷◌, ◌≡◌, ◌≤◌, subst}
use Rattle.proof_scanner.proofs.Sound.Common.{among, ArrivesBy, but_for_key_past, goes_past, had_as_it_was, IsDeep, keys_along, line_taken, not_before_after, not_before_then, numbered_around, numbered_more, one_around, open_around, past_step, same_levels, some_rest, unbroken, unbroken_around, with_entries, keys_own}
use Rattle.proof_scanner.proofs.Known.Steps.{keyless, knows_inside}
use Rattle.proof_scanner.proofs.Sound.Reads.{Onward, Reads, stands_so, IsHeld}

module _ (text : List ℕ) (t u : ScannerState) (f : FlowLevel) (fs : List FlowLevel) (k : Option Key) (ks : List (Option Key)) (e : Entry) (es : List Entry) (a : ArrivesBy text t (f ∷ fs) (k ∷ ks) (e ∷ es)) (piece next : List ℕ) (tok : Tok) (ls : List (Option Key)) (es2 : List Entry) where
  -- the sites at the piece and after it, and the account after it in which no open key is one
  abbrev pub flow_at : Position → Site
  flow_at p = site_here true p a.site

  abbrev pub flow_past : Position → Site
  flow_past p = site_past true (flow_at p) piece tok next a.site.blocks

  abbrev pub account_then : Position → Account
  account_then p = with_entries (flow_past p) a.line es2

  abbrev pub flow_step : Bool → Step
  flow_step b = record { separation = a.separation; piece = piece; shown = tok; key = b }

  -- the scanner goes on so
  pub record Enters (gs : List FlowLevel) (gap : List ℕ) : Type 0 where
    pub fits : IsHeld u gs ls (account_then t.held.position) gap
    pub same_key : outside_key es2 ls ≡ outside_key es ks
    pub in_line : is_empty u.rest ≡ false → u.held.position.line ≤ t.held.position.line → has_break piece ≡ false

  -- the position, from the last piece
  abbrev piece_here : Position
  piece_here = position_after a.site.position a.separation (piece ++ next)

  -- For each choice after the piece there are one before it and a bit,
  module _ (choice : List Bool → Bool) (outer : List Bool → List Bool) (bit : List Bool → Bool) where
    -- by which the piece may stand there, and the entries are as the scanner holds them;
    pub record Steps (p : Position) : Type 0 where
      pub is_piece : IsPiece (seen (with_entries a.site a.line (e ∷ es)) (flow_at p) a.separation) piece next None (shown_position (flow_at p) piece tok next) tok
      pub stands : may_stand true a.site (flow_at p) a.separation piece tok next ≡ true
      pub entry_past : (cs : List Bool) → entries_past p (is_renewed a.site.before a.separation) (act_of tok) (begun_by tok) (bit cs) (entry_by (choice cs) k e) (entries_by (outer cs) ks es) ≡ Some (entries_by cs ls es2)

    -- and so are the tokens.
    abbrev pub TokensAre : Type 0
    TokensAre =
        (cs : List Bool) (l : Line) (ws : List Step) (last : List ℕ) → spelled ws last ≡ next →
        tokens_up_to (with_entries a.site l (entry_by (choice cs) k e ∷ entries_by (outer cs) ks es)) (k ∷ ks) a.tokens (flow_step (bit cs) ∷ ws) last ++
        tokens_at a.site (flow_at (position_after a.site.position a.separation (piece ++ spelled ws last))) (flow_step (bit cs)) ws last l (entry_by (choice cs) k e ∷ entries_by (outer cs) ks es) ≡
        with_keys 0 (past_step a.site.position (flow_step (bit cs)) ws last) ws last a.site.blocks l (entries_by cs ls es2) ls u.held.tokens

    steps_there : (gs : List FlowLevel) (gap : List ℕ) → Reads t u (flow_past t.held.position) piece next gap → Enters gs gap → Steps piece_here → TokensAre → t.held.position ≡ piece_here → Onward text t.rest u
    steps_there gs gap r g n tokens place = stands_so text t u piece next gap gs ls (account_then t.held.position) a.is_clean a.started a.going r (record {
      fits = g.fits;
      is_open = rw g.same_key
          (open_around text t f fs k ks e es a some u.held.position u.rest later (flow_past t.held.position).position (not_before_after t.held.position piece next));
      carries = λ cs key own must inside more. rw (sym r.is_rest)
          (rw place
          (but_for_key_past text (a.separation ++ t.rest) key.position (before false cs) (chosen false cs ls (account_then piece_here)) (flow_step (bit cs)) next (ap (λ r. a.separation ++ r) r.cut) (grind (arith, same_levels))
          (account false cs (grind arith) (grind arith))
          (a.carries (choice cs ∷ outer cs) key (sym g.same_key ∙ own) must refl some)));
      knows = rw g.same_key (knows_inside text t piece next tok r.cut u.held.position gap u.rest r.position_is r.is_rest f fs k ks e es a ((rw (sym r.cut) a.is_filled), (ap not r.is_solid, n.is_piece)));
      completes = λ strict c cs may.
          let was : MayChoose strict c (outside_key es ks) u.held.position u.rest = rw (sym g.same_key) may in
          rw (sym r.is_rest) (rw place
          (goes_past strict text (a.separation ++ t.rest) (before c cs) (chosen c cs ls (account_then piece_here)) (tokens_up_to (before c cs) (k ∷ ks) a.tokens) (tokens_up_to (chosen c cs ls (account_then piece_here)) ls u.held.tokens)
          (flow_step (bit cs)) next (ap (λ r. a.separation ++ r) r.cut) (grind (arith, same_levels))
          (account c cs (unbroken_around text t f fs k ks e es a some u.held.position u.rest later strict c was) (one_around text t f fs k ks e es a some u.held.position u.rest later piece g.in_line strict c was))
          (λ _ i. ap (λ y. is_waiting (line_by c y a.line)) g.same_key ∙ i) (grind (arith, tokens))
          (a.completes strict c (choice cs ∷ outer cs) (grind (arith, some, later, was)))));
    })
      where
        some : is_empty t.rest ≡ false
        some = some_rest t.rest piece next r.cut r.is_solid

        later : NotBefore t.held.position u.held.position
        later = grind (arith, not_before_then, not_before_after)

        before : Bool → List Bool → Account
        before c cs = chosen c (choice cs ∷ outer cs) (k ∷ ks) (with_entries a.site a.line (e ∷ es))

        account : (c : Bool) (cs : List Bool) → line_past_separation true (begins_free_line a.site.before a.separation) (line_by c (outside_key es ks) a.line) ≡ Some (line_by c (outside_key es ks) a.line) → (has_break piece && is_waiting (line_by c (outside_key es ks) a.line)) ≡ false →
            account_past (before c cs) (flow_step (bit cs)) next ≡ Some (chosen c cs ls (account_then piece_here))
        account c cs unbroken one = rw (n.stands, unbroken, n.entry_past cs, one) (ap (λ y. Some (with_entries (flow_past piece_here) (line_by c y a.line) (entries_by cs ls es2))) (sym g.same_key))

    -- What holds where the piece begins holds between two fetches after it.
    pub steps_in_flow : (gs : List FlowLevel) (gap : List ℕ) → Reads t u (flow_past t.held.position) piece next gap → Enters gs gap → Steps t.held.position → TokensAre → Onward text t.rest u
    steps_in_flow gs gap r g n tokens =
        let place : t.held.position ≡ piece_here = a.position_is ∙ ap (λ l. position_after a.site.position a.separation l) r.cut in steps_there gs gap r g (subst Steps place n) tokens place

-- ---- a piece in flow with which its entry goes on, and before and after which no key of the entry waits: `?`, a colon without a key, and a line for the document. What holds where it begins holds between two fetches after it

-- where a piece begins deep enough, the least column is not right of it
pub low_enough : (text : List ℕ) (t : ScannerState) (f : FlowLevel) (fs : List FlowLevel) (ks : List (Option Key)) (es : List Entry) (a : ArrivesBy text t (f ∷ fs) ks es) → IsDeep t.held → nat_le (least_column a.site.blocks a.site.awaits) t.held.position.col ≡ true
low_enough text t f fs ks es a deep = grind (arith, columns)

-- the tokens of the step: the start of a single pair, and the token that the piece shows
abbrev pub tokens_inside : Site → (piece : List ℕ) → Tok → (next : List ℕ) → Entry → List Token
tokens_inside x piece tok next e =
    let own : Position = pair_position (position_after x.position piece next) next in
    begun_inside (takes_pair e.kind e.pair) e.pair x.position own own (act_of tok) false e.had ++ (put (shown_position x piece tok next) tok ∷ [])

-- what an entry and the open keys around it ask of the tokens
pub numbered_then : (before after : List Token) (k : Option Key) (ks : List (Option Key)) (own : List Token) → after ≡ before ++ own → AreNumbered (length before) (k ∷ ks) → AreNumbered (length after) ks
numbered_then before after k ks own e h = grind (arith, length-append, numbered_more, numbered_around)

-- the tokens of such a step, before a key around the entry has its colon
module _ (text : List ℕ) (t : ScannerState) (f : FlowLevel) (fs : List FlowLevel) (k : Option Key) (ks : List (Option Key)) (e : Entry) (es : List Entry) (a : ArrivesBy text t (f ∷ fs) (k ∷ ks) (e ∷ es)) (piece next : List ℕ) (tok : Tok) (cut : t.rest ≡ piece ++ next) where
  pub keyless_tokens : (l : Line) (xs : List Entry) (ws : List Step) (last : List ℕ) → spelled ws last ≡ next →
      (let w : Step = keyless a.separation piece tok in tokens_up_to (with_entries a.site l (entry_by false k e ∷ xs)) (k ∷ ks) a.tokens (w ∷ ws) last ++ tokens_at a.site (site_here true (position_after a.site.position a.separation (piece ++ spelled ws last)) a.site) w ws last l (entry_by false k e ∷ xs) ≡
      with_keys 1 a.site.position (w ∷ ws) last a.site.blocks l xs ks (a.tokens ++ tokens_inside (site_here true t.held.position a.site) piece tok next e))
  keyless_tokens l xs ws last h =
      let w : Step = keyless a.separation piece tok in
      grind (arith, had_as_it_was, keys_own 0 a.site.position (w ∷ ws) last a.site.blocks l (entry_by false k e) xs k ks a.tokens, among (length a.tokens) (k ∷ ks) a.are_numbered, a.position_is, cut)

module _ (text : List ℕ) (t u : ScannerState) (f g : FlowLevel) (fs : List FlowLevel) (k : Option Key) (ks : List (Option Key)) (e e2 : Entry) (es : List Entry) (a : ArrivesBy text t (f ∷ fs) (k ∷ ks) (e ∷ es)) (piece next : List ℕ) (tok : Tok) where
  abbrev at_piece : Site
  at_piece = site_here true t.held.position a.site

  -- What is to be known of such a piece; no colon of a key around the entry is this piece, and it opens or closes no collection.
  pub record GoesInside (gap : List ℕ) : Type 0 where
    pub flow_is : u.held.flow ≡ g ∷ fs
    pub keys_are : u.held.keys ≡ None ∷ ks
    pub entry_is : IsEntryOf g None e2
    pub has_had : HasHadHere u.held.key_allowed (is_renewed (previous_by tok) gap) None e2.had
    pub in_line : has_break piece ≡ false
    pub begun : begun_by tok ≡ []
    pub is_piece : IsPiece (seen (with_entries a.site a.line (e ∷ es)) at_piece a.separation) piece next None (shown_position at_piece piece tok next) tok
    pub stands : may_stand true a.site at_piece a.separation piece tok next ≡ true
    pub entry_past : (xs : List Entry) → entries_past t.held.position (is_renewed a.site.before a.separation) (act_of tok) [] false e xs ≡ Some (e2 ∷ xs)
    pub colons : (n : ℕ) (p : Position) (ws : List Step) (last : List ℕ) → let w : Step = keyless a.separation piece tok in colon_of (suc n) p (w ∷ ws) last ≡ colon_of (suc n) (past_step p w ws last) ws last
    pub tokens_are : u.held.tokens ≡ a.tokens ++ tokens_inside at_piece piece tok next e

  pub goes_inside : (gap : List ℕ) → Reads t u (flow_past text t u f fs k ks e es a piece next tok (None ∷ ks) (e2 ∷ es) t.held.position) piece next gap → GoesInside gap → Onward text t.rest u
  goes_inside gap r n =
      steps_in_flow text t u f fs k ks e es a piece next tok (None ∷ ks) (e2 ∷ es) (λ _. false) pop (λ _. false) (g ∷ fs) gap r
      (record { fits = assumption (n, a, line_taken text t f fs k ks e es a, numbered_then a.tokens u.held.tokens k ks (tokens_inside at_piece piece tok next e) n.tokens_are a.are_numbered); same_key = refl; in_line = λ _ _. n.in_line })
      (record { is_piece = n.is_piece; stands = n.stands; entry_past = λ cs. rw (n.begun, had_as_it_was k e.had) (n.entry_past (entries_by (pop cs) ks es)) }) (λ cs l ws last h.
      let along = keys_along (λ m. suc m) (λ m. suc m) (λ m. refl) (λ m. refl) 0 a.site.position (past_step a.site.position (keyless a.separation piece tok) ws last)
      (keyless a.separation piece tok) ws last (λ m. n.colons m a.site.position ws last) a.site.blocks l (entries_by (pop cs) ks es) ks in
      grind (arith, keyless_tokens text t f fs k ks e es a piece next tok r.cut l (entries_by (pop cs) ks es) ws last h, n, along))
