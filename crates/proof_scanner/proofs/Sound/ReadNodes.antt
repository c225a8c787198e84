-- A part of a node was read where a piece begins, be it an opening bracket or no collection: what holds between two fetches holds after it.
use Rattle.proof_scanner.proofs.Common.{[], Account, AreEntries, Arrives, Bool, Entry, FlowLevel, IsCarriedOn, IsPairOf, IsPiece, Key, KnowsKey, Line, List, MayChoose, None, NotBefore, Option, Outside, Previous, ScannerState, Site, SoFar, Some, Tok, Token, act_of, ap, arith, begins_free_line, begun_by, chosen, entries_by, false, first_choice, further_lines_stand, gives_node, has_break, inl, is_deep_enough, is_empty, is_in_column, is_renewed, least_for, length, line_by, may_precede, may_stand, no_pair, not, outside_key, pop, position_after, previous_by, put, refl, seen, shown_position, site_here, site_in, site_past, subst, sym, taken, tokens_up_to, true, with_keys, ℕ, ◌++◌, ◌∙◌, ◌∷◌, ◌≡◌, ◌≤◌, must_be_key, IsLive}
use Rattle.proof_scanner.proofs.Sound.Common.{after_piece, among, by_sides, ArrivesBy, begun_numbered, bit_of, choice_before, choices_around, entry_past_node, Goes, IsDeep, levels_by, line_after_node, line_taken, node_in_entry, node_outer_tokens, node_tokens, not_before_after, not_before_then, Outer, outer_completes, past_step, saved, saved_keys, some_rest, tokens_before, with_begun, with_entries, with_no_key, is_written, outer_then}
use Rattle.proof_scanner.proofs.Known.Steps.{knows_saved, is_of_node}
use Rattle.proof_scanner.proofs.Sound.Outsides.{new_key, keys_saved, saved_numbered, must_be_here, one_node, taken_node, same_node, open_node}
use Rattle.proof_scanner.proofs.Sound.InFlow.{steps_in_flow}
use Rattle.proof_scanner.proofs.Sound.Reads.{Onward, Reads, stands_so}

-- the site at the piece, from that after the last one
abbrev pub site_of : ScannerState → List FlowLevel → Site → Site
site_of t fs s = site_here (not (is_empty fs)) t.held.position s

-- the site after the piece
abbrev pub site_then : ScannerState → List FlowLevel → Site → (piece : List ℕ) → Tok → (next : List ℕ) → Site
site_then t fs s piece tok next = site_past (not (is_empty fs)) (site_of t fs s) piece tok next (site_of t fs s).blocks

-- whether a key may begin after a separation after the piece, in flow and outside; in a flow level that begins it may
abbrev pub allowed_past : Option FlowLevel → (in_flow : Bool) → Previous → (gap : List ℕ) → Bool
allowed_past (Some level) fl before gap = true
allowed_past None true before gap = is_renewed before gap
allowed_past None false before gap = begins_free_line before gap

-- a flow level that begins has no pair, and what was read of it is on one line
abbrev pub IsBegun : Option FlowLevel → (t u : ScannerState) → Type 0
IsBegun None t u = Unit {0}
IsBegun (Some level) t u = IsPairOf level no_pair × (u.held.position.line ≤ t.held.position.line)

-- What is to be known of the scanner before and after a piece and a separation, where these are the flow levels, and this is the account after the last piece.
pub record IsRead (t u : ScannerState) (level : Option FlowLevel) (fs : List FlowLevel) (s : Site) (l : Line) (es : List Entry) (separation : List ℕ) (tok : Tok) (piece gap : List ℕ) : Type 0 where
  pub tokens_are : u.held.tokens ≡ t.held.tokens ++ (put t.held.position tok ∷ [])
  pub keys_are : u.held.keys ≡ with_no_key level (saved_keys t.held)
  pub flow_is : u.held.flow ≡ levels_by level fs
  pub reads : Reads t u (site_then t fs s piece tok (gap ++ u.rest)) piece (gap ++ u.rest) gap
  pub act : act_of tok ≡ gives_node
  pub begun : begun_by tok ≡ with_begun level []
  pub is_begun : IsBegun level t u
  pub shown : (x : Site) → shown_position x piece tok (gap ++ u.rest) ≡ x.position
  pub is_piece : IsPiece (seen (with_entries s l es) (site_of t fs s) separation) piece (gap ++ u.rest) None t.held.position tok
  pub is_deep : is_deep_enough (not (is_empty fs)) tok (site_of t fs s) ≡ true
  pub lines_stand : further_lines_stand (least_for tok (site_of t fs s)) tok piece ≡ true
  pub precedes : may_precede (not (is_empty fs)) (site_of t fs s).blocks tok piece (gap ++ u.rest) ≡ true
  pub allowed_is : u.held.key_allowed ≡ allowed_past level (not (is_empty fs)) (previous_by tok) gap
  pub one_line : is_empty u.rest ≡ false → u.held.position.line ≤ t.held.position.line → (has_break piece ≡ false) × (begins_free_line (previous_by tok) gap ≡ false)

module _ (text : List ℕ) (t u : ScannerState) (level : Option FlowLevel) (fs : List FlowLevel) (ks : List (Option Key)) (es : List Entry) (a : ArrivesBy text t fs ks es) (tok : Tok) (piece gap : List ℕ) (r : IsRead t u level fs a.site a.line es a.separation tok piece gap) where
  -- the position here, from the last piece
  here_is : t.held.position ≡ position_after a.site.position a.separation (piece ++ (gap ++ u.rest))
  here_is = a.position_is ∙ ap (λ x. position_after a.site.position a.separation x) r.reads.cut

  some_here : is_empty t.rest ≡ false
  some_here = some_rest t.rest piece (gap ++ u.rest) r.reads.cut r.reads.is_solid

  stands_here : may_stand (not (is_empty fs)) a.site (site_of t fs a.site) a.separation piece tok (gap ++ u.rest) ≡ true
  stands_here = rw (a.is_indented some_here, r.is_deep, r.lines_stand, r.precedes) refl

-- ---- outside flow

module _ (text : List ℕ) (t u : ScannerState) (level : Option FlowLevel) (k : Option Key) (a : ArrivesBy text t [] (k ∷ []) []) (tok : Tok) (piece gap : List ℕ) (within : t.held.flow ≡ []) (deep : IsDeep t.held)
    (r : IsRead t u level [] a.site a.line [] a.separation tok piece gap) where
  abbrev place : t.held.position ≡ position_after a.site.position a.separation (piece ++ (gap ++ u.rest))
  place = here_is text t u level [] (k ∷ []) [] a tok piece gap r

  abbrev some : is_empty t.rest ≡ false
  some = some_here text t u level [] (k ∷ []) [] a tok piece gap r

  abbrev later : NotBefore t.held.position u.held.position
  later = grind (arith, not_before_then, not_before_after)

  abbrev own : Token
  own = put t.held.position tok

  abbrev key_then : Option Key
  key_then = saved t.held.key_allowed (new_key t) k

  abbrev keys_then : List (Option Key)
  keys_then = with_no_key level (key_then ∷ [])

  abbrev base_then : Account
  base_then = with_entries (site_then t [] a.site piece tok (gap ++ u.rest)) taken (with_begun level [])

  abbrev x : Site
  x = site_of t [] a.site

  at_site : site_in false (act_of tok) t.held.position a.site ≡ x
  at_site = ap (λ y. site_in false y t.held.position a.site) r.act

  -- what may begin at it and after it, by a choice after it
  abbrev line_of : Bool → Line → Line
  line_of c l = line_by (choice_before t.held.key_allowed c) k l

  abbrev after_by : Bool → Outside
  after_by c = record { line = line_by c key_then taken; blocks = x.blocks }

  goes : (strict c : Bool) → MayChoose strict c key_then u.held.position u.rest → Goes text t k a piece (gap ++ u.rest) tok x r.reads.cut at_site strict (bit_of t.held.key_allowed c) (line_of c a.line) (line_of c a.line_here) (after_by c)
  goes strict c may =
      let after = line_after_node strict (is_in_column x.position.col x.blocks) t.held.key_allowed c k (new_key t) a.line_here t.held.position u.held.position x.blocks u.rest (grind (arith, some)) refl (must_be_here text t k a within deep) may in
      let one = one_node text t k a within deep some u.held.position u.rest later piece (λ x y. (r.one_line x y).0) strict c may in
      grind (arith, r, r.reads, a, stands_here text t u level [] (k ∷ []) [] a tok piece gap r, after, one)

  rows : (strict c : Bool) (cs : List Bool) → MayChoose strict c key_then u.held.position u.rest → SoFar strict text (gap ++ u.rest) (chosen c cs keys_then base_then) (tokens_up_to (chosen c cs keys_then base_then) keys_then u.held.tokens)
  rows strict c cs may =
      let same : outer_then text t k a piece (gap ++ u.rest) tok x r.reads.cut at_site (after_by c) ≡ chosen c cs keys_then base_then = grind (arith, r.begun) in
      subst (λ b. SoFar strict text (gap ++ u.rest) b (tokens_up_to b keys_then u.held.tokens)) same
      (outer_completes text t k a piece (gap ++ u.rest) tok x r.reads.cut at_site strict (bit_of t.held.key_allowed c) (line_of c a.line) (line_of c a.line_here) (after_by c) (tokens_up_to (Outer a.site (line_of c a.line)) (k ∷ []) a.tokens)
      (λ ws last. with_keys 0 (site_then t [] a.site piece tok (gap ++ u.rest)).position ws last x.blocks (line_by c key_then taken) (begun_by tok) keys_then u.held.tokens) (goes strict c may)
      (λ ws last h. rw r.tokens_are (node_outer_tokens level a.site a.separation piece (gap ++ u.rest) tok strict t.held.key_allowed c k (new_key t) a.line a.line_here t.held.position u.held.position u.rest
      a.tokens t.held.tokens ws last r.act r.begun (grind (arith, some)) may a.no_key (among (length a.tokens) (k ∷ []) a.are_numbered) h place
      a.tokens_are (r.shown x) refl refl (same_node text t k a within deep some u.held.position u.rest later)))
      (a.completes strict (choice_before t.held.key_allowed c) [] (grind arith)))

  -- where a flow level begins, a key that must be one is on this line
  carried : IsCarriedOn text (gap ++ u.rest) u.rest keys_then base_then
  carried cs y is must inner goes =
      let own : key_then ≡ Some y = grind arith in
      let live : IsLive y u.held.position u.rest = let begun = r.is_begun in let near = a.is_near refl in grind arith in
      let opens = open_node text t k a within deep some u.held.position u.rest later base_then.site.position (after_piece t.held.position piece (gap ++ u.rest) r.reads.is_solid) in
      record {
        account = chosen true cs keys_then base_then;
        steps = [];
        begins = (rows true true cs (rw own live)).0;
        is_inside = grind arith;
        line_is = ap (λ o. line_by true o taken) is;
        must_be = grind (arith, opens, own, live, must);
        leads = ap (λ l. with_entries base_then.site l (entries_by cs keys_then base_then.entries)) (sym (ap (λ o. line_by false o taken) is));
      }

  node_outside : t.held.keys ≡ k ∷ [] → KnowsKey text (a.separation ++ t.rest) t.held.position k → Onward text t.rest u
  node_outside keys known =
      let same : outside_key (with_begun level []) keys_then ≡ key_then = (grind arith) in
      stands_so text t u piece (gap ++ u.rest) gap (levels_by level []) keys_then base_then a.is_clean a.started a.going r.reads (record {
        fits = let numbered = begun_numbered level (length (t.held.tokens ++ (own ∷ []))) (key_then ∷ []) (saved_numbered t a.tokens _ k [] own a.tokens_are a.are_numbered t.held.key_allowed) in
            grind (arith, r, keys_saved t k [] keys, taken_node text t k a within deep some u.held.position u.rest later u.held.key_allowed, r.one_line, numbered);
        is_open = rw same (open_node text t k a within deep some u.held.position u.rest later (site_then t [] a.site piece tok (gap ++ u.rest)).position (after_piece t.held.position piece (gap ++ u.rest) r.reads.is_solid));
        carries = carried;
        knows = rw same
            (knows_saved text t piece (gap ++ u.rest) tok r.reads.cut u.held.position gap u.rest r.reads.position_is refl k a
            (is_written text t k a piece (gap ++ u.rest) tok x r.reads.cut at_site false a.line r.reads.is_solid (rw (r.shown x) r.is_piece)) within deep (ap is_of_node r.act) known);
        completes = λ strict c cs may. rows strict c cs (rw (sym same) may);
      })

-- ---- in flow

module _ (text : List ℕ) (t u : ScannerState) (level : Option FlowLevel) (f : FlowLevel) (fs : List FlowLevel) (k : Option Key) (ks : List (Option Key)) (e : Entry) (es : List Entry) (a : ArrivesBy text t (f ∷ fs) (k ∷ ks) (e ∷ es))
    (tok : Tok) (piece gap : List ℕ) (within : t.held.flow ≡ f ∷ fs) (r : IsRead t u level (f ∷ fs) a.site a.line (e ∷ es) a.separation tok piece gap) where
  abbrev key_past : Option Key
  key_past = saved t.held.key_allowed (new_key t) k

  abbrev shown_token : Token
  shown_token = put t.held.position tok

  entries_then : (lv : Option FlowLevel) → IsBegun lv t u → u.held.key_allowed ≡ allowed_past lv true (previous_by tok) gap →
      AreEntries u.held.key_allowed (is_renewed (previous_by tok) gap) (levels_by lv (f ∷ fs)) (with_no_key lv (key_past ∷ ks)) (with_begun lv (entry_past_node t.held.key_allowed e ∷ es))
  unfolding must_be_key
  entries_then None i h = ((grind arith), grind arith, a.are_entries.2)
  entries_then (Some lv) i h = (record { kind_is = refl; pair_is = i.0; key_is = tt }, (inl refl, h), ((grind arith), grind arith, a.are_entries.2))

  node_inside : t.held.keys ≡ k ∷ ks → Onward text t.rest u
  node_inside keys =
      let n : Entry = entry_past_node t.held.key_allowed e in
      let place = here_is text t u level (f ∷ fs) (k ∷ ks) (e ∷ es) a tok piece gap r in
      let own = saved_numbered t a.tokens [] k ks shown_token a.tokens_are a.are_numbered t.held.key_allowed in
      let numbered = begun_numbered level (length (t.held.tokens ++ (shown_token ∷ []))) (key_past ∷ ks) own in
      steps_in_flow text t u f fs k ks e es a piece (gap ++ u.rest) tok (with_no_key level (key_past ∷ ks)) (with_begun level (n ∷ es))
      (λ cs. choice_before t.held.key_allowed (first_choice (choices_around level cs))) (λ cs. pop (choices_around level cs)) (λ cs. bit_of t.held.key_allowed (first_choice (choices_around level cs))) (levels_by level (f ∷ fs)) gap r.reads
      (grind (arith, keys_saved t k ks keys, r, entries_then level r.is_begun r.allowed_is, line_taken text t f fs k ks e es a, r.one_line, numbered)) (record {
        is_piece = rw (r.shown (site_of t (f ∷ fs) a.site)) r.is_piece;
        stands = stands_here text t u level (f ∷ fs) (k ∷ ks) (e ∷ es) a tok piece gap r;
        entry_past = λ cs. rw (r.act, r.begun) (node_in_entry (is_renewed a.site.before a.separation) t.held.key_allowed (first_choice (choices_around level cs)) k (new_key t) e t.held.position (with_begun level []) (entries_by (pop (choices_around level cs)) ks es) a.are_entries.1 refl ∙
            ap (λ xs. Some xs) (grind arith));
      }) (λ cs l ws last h.
      let c : Bool = first_choice (choices_around level cs) in
      let xs : List Entry = entries_by (pop (choices_around level cs)) ks es in
      node_tokens level a.site a.separation piece (gap ++ u.rest) tok t.held.key_allowed c k (new_key t) e xs ks t.held.position a.tokens u.held.tokens l ws last r.act r.begun (grind arith)
      (ap length (tokens_before text t f fs k ks e es a)) (among (length a.tokens) (k ∷ ks) a.are_numbered) h place (r.shown (site_of t (f ∷ fs) a.site)) refl
      (r.tokens_are ∙ ap (λ ts. ts ++ (shown_token ∷ [])) (tokens_before text t f fs k ks e es a)) ∙
      ap (λ ys. with_keys 0 (past_step a.site.position (record { separation = a.separation; piece = piece; shown = tok; key = bit_of t.held.key_allowed c }) ws last) ws last a.site.blocks l ys (with_no_key level (key_past ∷ ks)) u.held.tokens) (grind arith))

-- ---- both

-- Where a piece begins, a part of a node was read: what holds between two fetches holds after it.
pub node_read : (text : List ℕ) (t u : ScannerState) (level : Option FlowLevel) (tok : Tok) (piece gap : List ℕ) → IsDeep t.held → Arrives text t →
    ((fs : List FlowLevel) (ks : List (Option Key)) (es : List Entry) → t.held.flow ≡ fs → (a : ArrivesBy text t fs ks es) → IsRead t u level fs a.site a.line es a.separation tok piece gap) → Onward text t.rest u
node_read text t u level tok piece gap deep arrives known =
    by_sides text t (λ v. ((fs : List FlowLevel) (ks : List (Option Key)) (es : List Entry) → v.held.flow ≡ fs → (a : ArrivesBy text v fs ks es) → IsRead v u level fs a.site a.line es a.separation tok piece gap) → Onward text v.rest u) arrives
    (λ k a n known. node_outside text _ u level k a tok piece gap refl deep (known [] (k ∷ []) [] refl a) refl n)
    (λ f fs k ks e es a known. node_inside text _ u level f fs k ks e es a tok piece gap refl (known (f ∷ fs) (k ∷ ks) (e ∷ es) refl a) refl) known
