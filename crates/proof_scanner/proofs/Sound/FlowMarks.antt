-- Commas and closing brackets: what holds where they begin holds between two fetches after them. Outside flow they close nothing.
use Rattle.proof_scanner.proofs.Common.{[], adjacent_in_flow, another, ap, append_assoc, arith, Arrives, before_by, before_past, begin_flow, begins_with, blanks_and_comment, Bool, Collection, end_entry, end_flow, ends_spaces, entries_by, Entry, eqb-true, false, fetch_flow_collection_end, fetch_flow_collection_start, fetch_flow_entry, first_entry, flow_collection, flow_end, flow_level, flow_start, FlowLevel, free, gives_closing, gives_comma, gives_node, has_no_nul, Held, Holds, if◌then◌else◌, increase_flow_level, Indent, is_blank, is_empty, is_required, IsAdjacent, IsPairOf, Key, length, level_of, Line, List, map, Mapping, nat_le, nat_lt, no_nul_after, no_pair, None, not, on_held, Option, other, pair_end, past, past_blanks_and_comment, past_line_rest, Position, position_after, position_in_line, Previous, previous_by, push, put, refl, refused, remove_implicit_key, roll_one_col_indent, ScannerState, seen, Site, site_here, site_in, Some, subst, suc, sym, taken, Tok, Token, top_key, true, went, with_top, Yes, ℕ, ◌++◌, ◌∙◌, ◌∷◌, ◌≡◌, ◌⊎◌, kind_of, length-map, inr, is_break, append-nil, IsPiece, has_room, is_pair_at, inl, begins_token, collection, decrease_flow_level, end_flow_pair, is_adjacent, is_separation, nat_tests, pop, token, ◌+◌, ◌==◌, Keyed}
use Rattle.proof_scanner.proofs.Sound.Steps.{exactly, held_exactly, Onward, adjacent_kept, ArrivesBy, by_sides, deep_for, indicator_end, indicator_passed, is_clear, IsDeep, IsRead, IsToken, key_gone, keyless, keyless_tokens, keys_along, line_rest_cut, line_rest_fills, line_rest_in_line, low_enough, many_around, node_read, numbered_then, past_it, past_rest_is_clear, past_step, quiet_before, read_outside, reads_before_none, reads_in_line, same_has_break, saved_is, saved_keys, site_of, site_then, steps_in_flow, tokens_before, with_entries, goes_inside, line_taken, Reads, OpensLevel, opens_level, blanks_alone, same_number}
use Rattle.defs_token.specs.Account.{Account as PieceAccount}
use Rattle.model_scanner.specs.State.{after}
use Rattle.model_scanner.specs.declared.level.FlowLevel.TheVariants.{Entry as InEntry, Pair as InPair}
use Rattle.proof_lexers.specs.PlainEnds as plains

-- ---- what the model leaves where an entry or a collection ends

-- the tokens with the end of a single-pair mapping, where one is open
abbrev pub closed_tokens : List FlowLevel → Position → List Token → List Token
closed_tokens (InPair ∷ fs) p ts = ts ++ token p Tok.flow_mapping_end ∷ []
closed_tokens _ p ts = ts

-- the flow levels once the entry has ended
abbrev pub entered : List FlowLevel → List FlowLevel
entered (InPair ∷ fs) = InEntry ∷ fs
entered (Keyed ∷ fs) = InEntry ∷ fs
entered fs = fs

abbrev pub higher_keys : List FlowLevel → List (Option Key) → List (Option Key)
higher_keys [] ks = with_top None ks
higher_keys (f ∷ fs) ks = pop (with_top None ks)

abbrev pub ended_now : List FlowLevel → Held → Held
ended_now fs s = record s { tokens = closed_tokens fs s.position s.tokens; keys = higher_keys fs s.keys; flow = pop fs; key_allowed = false }

abbrev pub entry_now : List FlowLevel → Held → Held
entry_now fs s = record s { tokens = closed_tokens fs s.position s.tokens; keys = with_top None s.keys; flow = entered fs; key_allowed = true }

-- after a flow collection and blanks
pub adjacent_collection : (p : Position) (f rest : List ℕ) → is_separation false f rest ≡ true → plains.has_break f ≡ false → ends_spaces Yes rest ≡ true → has_no_nul rest ≡ true → IsAdjacent (before_past collection f) p p.index rest
unfolding is_blank
adjacent_collection p f rest fills line ends clean = λ separation r e k t. by separation r e k t
  where
    by : (separation r : List ℕ) → rest ≡ separation ++ r → is_separation false separation r ≡ true → begins_token r ≡ true → is_adjacent (before_past (before_past collection f) separation) ≡ ((p.index + length separation) == p.index)
    by [] r e k t = grind (arith, nat_tests, eqb-true, blanks_alone, same_number)
    by (c ∷ g) r e k t = let none = rw e at ends in grind (arith, nat_tests, none)

-- ---- their tokens

-- what the last piece was, after one
abbrev pub previous_of : (closes : Bool) → Previous
previous_of closes = (if closes then flow_collection else another)

-- What is said of a closing bracket or a comma.
pub record IsCloser (closes : Bool) (tok : Tok) (c : ℕ) : Type 0 where
  pub in_line : is_break c ≡ false
  pub piece : (a : PieceAccount) (next : List ℕ) (last : Option Tok) → is_pair_at a.levels ≡ false → IsPiece a (c ∷ []) next last a.position tok
  pub token : IsToken tok (if closes then gives_closing else gives_comma) [] (previous_of closes) (λ _ _. true) (λ _ piece next. not (begins_with 35 next)) (λ _ _ b. b)
  pub open token use *

pub comma : IsCloser false Tok.flow_entry 44
unfolding is_break
comma = record { in_line = refl; piece = λ a next last h. ((refl, h), refl); token = grind arith }

pub closing_bracket : IsCloser true Tok.flow_sequence_end 93
unfolding is_break
closing_bracket = record { in_line = refl; piece = λ a next last h. ((refl, h), refl); token = grind arith }

pub closing_brace : IsCloser true Tok.flow_mapping_end 125
unfolding is_break
closing_brace = record { in_line = refl; piece = λ a next last h. inl ((refl, h), refl); token = grind arith }

pub is_previous : {before : Previous} (closes : Bool) → before ≡ previous_of closes → (before ≡ another) ⊎ (before ≡ flow_collection)
is_previous a e = grind arith

-- ---- outside flow

-- what may begin after it
abbrev pub line_then : (closes : Bool) → Line
line_then closes = (if closes then taken else free)

-- the scanner after a stray one
abbrev pub stray_past : (closes : Bool) → ScannerState → Tok → (more : List ℕ) → ScannerState
stray_past closes t tok more = record {
  rest = past_blanks_and_comment more;
  held = record t.held { position = past_line_rest (past t.held.position) more; leading = false; tokens = t.held.tokens ++ (put t.held.position tok ∷ []); keys = with_top None t.held.keys; flow = []; key_allowed = not closes };
}

pub stray_at : (text more : List ℕ) (closes : Bool) (tok : Tok) (c : ℕ) → IsCloser closes tok c → (t : ScannerState) (a : ArrivesBy text t [] (None ∷ []) []) → with_top None t.held.keys ≡ None ∷ [] → t.rest ≡ c ∷ more → begins_with 35 more ≡ false →
    Onward text t.rest (stray_past closes t tok more)
stray_at text more closes tok c k t a keys e hash =
    let at : Site = site_here false t.held.position a.site in
    read_outside text t (stray_past closes t tok more) a (c ∷ []) more (blanks_and_comment more) tok (record { line = line_then closes; blocks = at.blocks }) at (ap (λ x. site_in false x t.held.position a.site) k.act ∙ (grind arith))
    (reads_in_line t (stray_past closes t tok more) _ (c ∷ []) more (blanks_and_comment more) refl e (line_rest_cut more) (line_rest_fills more) (line_rest_in_line more) (indicator_end t.held.position c more k.in_line) refl (is_previous closes k.previous)
    a.blocks_are (k.awaits false at.blocks at.awaits more ∙ a.awaits_is) a.are_levels (λ some. absurd (cc some)) (adjacent_kept t (stray_past closes t tok more) other (c ∷ []) more (blanks_and_comment more) refl (indicator_end t.held.position c more k.in_line) a.was_adjacent refl refl).1 (refl, refl))
    (grind (arith, quiet_before (previous_by tok) t.held.position (blanks_and_comment more) [] (is_previous closes k.previous) (line_rest_in_line more)))
    (grind (arith, append_assoc, append-nil, k, a.is_indented (ap is_empty e), k.piece (seen (with_entries a.site a.line []) at a.separation) more None refl))

-- ---- a comma in flow: the entry ends, and with it a single pair

-- the flow level of the next entry
abbrev next_level : FlowLevel → FlowLevel
next_level Mapping = Mapping
next_level f = InEntry

comma_inside : (text more : List ℕ) (t : ScannerState) (f : FlowLevel) (fs : List FlowLevel) (k : Option Key) (ks : List (Option Key)) (e : Entry) (es : List Entry) (a : ArrivesBy text t (f ∷ fs) (k ∷ ks) (e ∷ es)) →
    t.held.flow ≡ f ∷ fs → t.held.keys ≡ k ∷ ks → t.rest ≡ 44 ∷ more → IsDeep t.held → begins_with 35 more ≡ false →
    Onward text t.rest (on_held (push t.held.position Tok.flow_entry) (past_it (record t { held = entry_now (f ∷ fs) t.held }) more))
unfolding is_break
comma_inside text more t f fs k ks e es a flow keys cut deep hash =
    goes_inside text t _ f (next_level f) fs k ks e (first_entry e.kind) es a (44 ∷ []) more Tok.flow_entry (blanks_and_comment more)
    (reads_before_none t _ _ (44 ∷ []) more (blanks_and_comment more) refl cut (line_rest_cut more) (line_rest_fills more) (line_rest_in_line more) refl
    (indicator_end t.held.position 44 more refl) refl refl a.blocks_are a.awaits_is a.are_levels a.was_adjacent (refl, refl, refl))
    (let piece = comma.piece (seen (with_entries a.site a.line (e ∷ es)) (site_here true t.held.position a.site) a.separation) more None refl in
    grind (arith, append_assoc, tokens_before, a.is_indented (ap is_empty cut), low_enough text t f fs (k ∷ ks) (e ∷ es) a deep, piece))

-- ---- a closing bracket in flow: the collection ends, with its last entry

clear_ends : (a : List ℕ) → is_clear a ≡ true → ends_spaces Yes a ≡ true
unfolding is_blank
clear_ends b h = grind arith

module _ (text more : List ℕ) (tok : Tok) (c : ℕ) (i : IsCloser true tok c) (t : ScannerState) (f : FlowLevel) (fs : List FlowLevel) (k : Option Key) (ks : List (Option Key)) (e : Entry) (es : List Entry)
    (a : ArrivesBy text t (f ∷ fs) (k ∷ ks) (e ∷ es)) (deep : IsDeep t.held) (cut : t.rest ≡ c ∷ more) (hash : begins_with 35 more ≡ false) where
  abbrev gap : List ℕ
  gap = blanks_and_comment more

  abbrev left : List ℕ
  left = past_blanks_and_comment more

  abbrev end : Position
  end = past_line_rest (past t.held.position) more

  abbrev x : Site
  x = site_here true t.held.position a.site

  -- the scanner after it
  abbrev pub past_closer : ScannerState
  past_closer = record {
    rest = left;
    held = record t.held {
      position = end;
      leading = false;
      tokens = closed_tokens (f ∷ fs) t.held.position t.held.tokens ++ (put t.held.position tok ∷ []);
      keys = ks;
      flow = fs;
      key_allowed = false;
      adjacent_value_at = (if not (is_empty fs) then end.index else t.held.adjacent_value_at);
    };
  }

  abbrev own_tokens : List Token
  own_tokens = pair_end t.held.position e.pair ++ (put t.held.position tok ∷ [])

  tokens_are : a.tokens ++ own_tokens ≡ past_closer.held.tokens
  tokens_are = grind (arith, append_assoc, tokens_before)

  clean : has_no_nul left ≡ true
  clean = grind (arith, no_nul_after, line_rest_cut more, a.is_clean, cut)

  -- where a colon may stand next
  adjacent_after : is_empty fs ≡ false → IsAdjacent (before_past (before_by (previous_by tok)) gap) end past_closer.held.adjacent_value_at left
  adjacent_after some = grind (arith, i, adjacent_collection end gap left (line_rest_fills more), same_has_break, line_rest_in_line, clear_ends left (past_rest_is_clear more), clean)

  -- What holds between two fetches holds after it.
  pub closer_stands : Onward text t.rest past_closer
  closer_stands =
      let q = quiet_before (previous_by tok) end gap left (inr i.previous) (line_rest_in_line more) in
      let far = adjacent_kept t (record past_closer { held = record past_closer.held { adjacent_value_at = t.held.adjacent_value_at } }) other (c ∷ []) more gap refl (indicator_end t.held.position c more i.in_line) a.was_adjacent refl refl in
      steps_in_flow text t past_closer f fs k ks e es a (c ∷ []) more tok ks es (λ _. false) (λ cs. cs) (λ _. false) fs gap
      (reads_in_line t past_closer _ (c ∷ []) more gap refl cut (line_rest_cut more) (line_rest_fills more) (line_rest_in_line more) (indicator_end t.held.position c more i.in_line) refl (inr i.previous) a.blocks_are
      (i.awaits true x.blocks x.awaits more ∙ a.awaits_is) a.are_levels adjacent_after (grind arith) (refl, refl))
      (grind (arith, q, line_taken text t f fs k ks e es a, numbered_then a.tokens past_closer.held.tokens k ks own_tokens (sym tokens_are) a.are_numbered))
      (let low = low_enough text t f fs (k ∷ ks) (e ∷ es) a deep in let piece = i.piece (seen (with_entries a.site a.line (e ∷ es)) x a.separation) more None refl in
      grind (arith, i, a.is_indented (ap is_empty cut), deep_for, low, hash, piece)) (λ cs l ws last h.
      let along = keys_along (λ n. suc n) (λ n. n) (λ n. refl) (λ n. refl) 0 a.site.position (past_step a.site.position (keyless a.separation (c ∷ []) tok) ws last)
      (keyless a.separation (c ∷ []) tok) ws last (λ n. rw i.act refl) a.site.blocks l (entries_by cs ks es) ks in
      grind (arith, keyless_tokens text t f fs k ks e es a (c ∷ []) more tok cut l (entries_by cs ks es) ws last h, tokens_are, i, along))

-- ---- the functions of the model that read commas and closing brackets keep what holds where they begin

-- the innermost key need not be one
pub flow_over : (s : Held) → Holds (λ u. (u ≡ ended_now s.flow s) × (is_required (top_key s.keys) ≡ false)) (end_flow s)
unfolding end_flow remove_implicit_key decrease_flow_level end_flow_pair
flow_over s = grind (arith, refused, went)

pub entry_over : (s : Held) → Holds (λ u. (u ≡ entry_now s.flow s) × (is_required (top_key s.keys) ≡ false)) (end_entry s)
unfolding end_entry remove_implicit_key end_flow_pair
entry_over s = grind (arith, refused, went)

-- ---- a comma

-- `,`
pub comma_keeps : (text more : List ℕ) (t : ScannerState) → t.rest ≡ 44 ∷ more → IsDeep t.held → Arrives text t → Holds (Onward text t.rest) (fetch_flow_entry t)
unfolding fetch_flow_entry
comma_keeps text more t e deep a =
    exactly _ (held_exactly t (entry_over t.held)) (λ optional. exactly _ (indicator_passed _ more (ap after e)) (λ hash. went
    (by_sides text t (λ u. is_required (top_key u.held.keys) ≡ false → Onward text u.rest (on_held (push u.held.position Tok.flow_entry) (past_it (record u { held = entry_now u.held.flow u.held }) more))) a
    (λ k x n optional. stray_at text more false Tok.flow_entry 44 comma _ (key_gone text _ k x (ap is_empty e) (grind arith)) refl e hash)
    (λ f fs k ks y es x optional. comma_inside text more _ f fs k ks y es x refl refl e deep hash) optional)))

-- ---- a closing bracket

-- `]` or `}`
pub closing_keeps : (text more : List ℕ) (kind : Collection) (c : ℕ) → IsCloser true (flow_end kind) c → (t : ScannerState) → t.rest ≡ c ∷ more → IsDeep t.held → Arrives text t → Holds (Onward text t.rest) (fetch_flow_collection_end kind t)
unfolding fetch_flow_collection_end adjacent_in_flow
closing_keeps text more kind c k t e deep a =
    exactly _ (held_exactly t (flow_over t.held)) (λ optional. exactly _ (indicator_passed _ more (ap after e)) (λ hash. went
    (by_sides text t (λ u. is_required (top_key u.held.keys) ≡ false → Onward text u.rest (on_held (λ s. push u.held.position (flow_end kind) (adjacent_in_flow s)) (past_it (record u { held = ended_now u.held.flow u.held }) more))) a
    (λ o x n optional. stray_at text more true (flow_end kind) c k _ (key_gone text _ o x (ap is_empty e) (grind arith)) refl e hash)
    (λ f fs o ks y es x optional.
    let now : ScannerState = past_it (record t { held = ended_now (f ∷ fs) (record t.held { flow = f ∷ fs; keys = o ∷ ks }) }) more in
    subst (λ h. Onward text t.rest (record now { held = push t.held.position (flow_end kind) h })) (sym (grind arith)) (closer_stands text more (flow_end kind) c k _ f fs o ks y es x deep e hash)) optional)))

-- ---- opening brackets: what holds where they begin holds between two fetches after them

-- What is said of an opening bracket.
pub record IsOpener (lv : FlowLevel) (tok : Tok) (c : ℕ) : Type 0 where
  pub in_line : is_break c ≡ false
  pub piece : (a : PieceAccount) (next : List ℕ) (last : Option Tok) → has_room a ≡ true → IsPiece a (c ∷ []) next last a.position tok
  pub no_pair_yet : IsPairOf lv no_pair
  pub token : IsToken tok gives_node (first_entry (kind_of lv) ∷ []) another (λ _ _. true) (λ _ piece next. not (begins_with 35 next)) (λ fl bs b. if fl then b else not (is_empty bs))
  pub open token use *

pub opening_bracket : IsOpener InEntry Tok.flow_sequence_start 91
unfolding is_break
opening_bracket = record { in_line = refl; piece = λ a next last h. ((refl, h), refl); no_pair_yet = refl; token = grind arith }

pub opening_brace : IsOpener Mapping Tok.flow_mapping_start 123
unfolding is_break
opening_brace = record { in_line = refl; piece = λ a next last h. inl ((refl, h), refl); no_pair_yet = tt; token = grind arith }

-- ---- the step

less : (m n : ℕ) → m ≡ n → nat_le 255 m ≡ false → nat_lt n 255 ≡ true
less m n same h = grind arith

-- with the key that may begin here
abbrev pub with_key : Held → Held
with_key s = record s { keys = saved_keys s }

-- in a flow level more, with these levels of indentation
abbrev pub begun_now : FlowLevel → Held → List Indent → ℕ → Held
begun_now lv s ds i = record s { keys = None ∷ saved_keys s; flow = lv ∷ s.flow; key_allowed = true; indents = ds; indent = i }

-- the scanner after it
abbrev pub past_opener : ScannerState → FlowLevel → Tok → (more : List ℕ) → List Indent → ℕ → ScannerState
past_opener t lv tok more ds i = on_held (push t.held.position tok) (past_it (record t { held = begun_now lv t.held ds i }) more)

pub opener_is_read : (text more : List ℕ) (lv : FlowLevel) (tok : Tok) (c : ℕ) → IsOpener lv tok c → (t : ScannerState) (h : Held) (r : OpensLevel (with_key t.held) h) → t.rest ≡ c ∷ more → IsDeep t.held → begins_with 35 more ≡ false → nat_le 255 (length t.held.flow) ≡ false →
    (fs : List FlowLevel) (ks : List (Option Key)) (es : List Entry) → t.held.flow ≡ fs → (a : ArrivesBy text t fs ks es) →
    IsRead t (past_opener t lv tok more r.indents r.indent) (Some lv) fs a.site a.line es a.separation tok (c ∷ []) (blanks_and_comment more)
opener_is_read text more lv tok c o t h r e deep hash few fs ks es flow a =
    let next : List ℕ = blanks_and_comment more ++ past_blanks_and_comment more in
    let u : ScannerState = past_opener t lv tok more r.indents r.indent in
    let fl : Bool = not (is_empty fs) in
    let x : Site = site_of t fs a.site in
    let cut : more ≡ next = line_rest_cut more in
    let stays = ap (λ q. q.line) (sym (position_in_line (past t.held.position) (blanks_and_comment more) [] (line_rest_in_line more))) in
    let reads : Reads t u (site_then t fs a.site (c ∷ []) tok next) (c ∷ []) next (blanks_and_comment more) =
    reads_before_none t u (site_then t fs a.site (c ∷ []) tok next) (c ∷ []) next (blanks_and_comment more) refl (e ∙ ap (λ l. c ∷ l) cut) refl (line_rest_fills more) (line_rest_in_line more) refl
    (indicator_end t.held.position c more o.in_line ∙ ap (λ l. position_after (position_after t.held.position (c ∷ []) l) (blanks_and_comment more) u.rest) cut) refl o.previous (a.blocks_are ∙ sym r.columns_are)
    (grind (arith, a.awaits_is, a.blocks_are, flow, r.awaits)) r.are_levels a.was_adjacent (refl, refl, refl) in
    let few_here = less (length fs) (length (map level_of es)) ((grind (arith, many_around, eqb-true)) ∙ sym (length-map es level_of)) (ap (λ f. nat_le 255 (length f)) (sym flow) ∙ few) in
    let piece = o.piece (seen (with_entries a.site a.line es) x a.separation) next None few_here in
    grind (arith, reads, o, stays, deep_for, line_rest_in_line, hash, piece)

-- ---- the function of the model that reads an opening bracket keeps what holds where it begins

flow_begun : (kind : Collection) (s : Held) (ds : List Indent) (i : ℕ) → roll_one_col_indent (with_key s) ≡ record (with_key s) { indents = ds; indent = i } → Holds (λ u. (u ≡ begun_now (flow_level kind) s ds i) × (nat_le 255 (length s.flow) ≡ false)) (begin_flow kind s)
unfolding begin_flow increase_flow_level
flow_begun kind s ds i rolled = grind (arith, saved_is, refused, went)

-- `[` or `{`
pub opening_keeps : (text more : List ℕ) (kind : Collection) (c : ℕ) → IsOpener (flow_level kind) (flow_start kind) c → (t : ScannerState) → t.rest ≡ c ∷ more → IsDeep t.held → Arrives text t → Holds (Onward text t.rest) (fetch_flow_collection_start kind t)
unfolding fetch_flow_collection_start
opening_keeps text more kind c o t e deep a =
    let r : OpensLevel (with_key t.held) (roll_one_col_indent (with_key t.held)) = opens_level (with_key t.held) a.are_levels in
    exactly _ (held_exactly t (flow_begun kind t.held r.indents r.indent r.is_held)) (λ few. exactly _ (indicator_passed _ more (ap after e)) (λ hash. went
    (node_read text t _ (Some (flow_level kind)) (flow_start kind) (c ∷ []) (blanks_and_comment more) deep a (opener_is_read text more (flow_level kind) (flow_start kind) c o t _ r e deep hash few))))
