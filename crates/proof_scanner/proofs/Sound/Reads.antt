-- What was read from one state to another: a piece at a site, and a separation after it; and what the scanner holds then that no key decides.
use Rattle.proof_scanner.proofs.Common.{Account, AreEntries, AreLevels, AreNumbered, Before, Bool, FlowLevel, HasNoTabs, IsAdjacent, IsCarriedOn, IsLeading, IsLine, IsOpenOutside, IsReadOn, Key, KnowsKey, List, MayChoose, Option, Position, Previous, ScannerState, Site, SoFar, Stands, another, arith, before_by, before_past, begins_free_line, begins_line, chosen, columns, false, flow_collection, has_no_break, has_no_nul, has_open_level, is_empty, is_renewed, is_separation, is_waiting, length, no_nul_after, not, ap, length-append, ◌<◌, other, outside_key, position_after, suc, tokens_up_to, true, ℕ, ◌++◌, ◌≡◌, ◌≤◌, ◌⊎◌, eqb-true, nat_tests, chained, tried, Holds, Result, Fault, Held, ◌>>=◌, with_held}
use Rattle.proof_scanner.proofs.Sound.Common.{adjacent_other, index_after, not_none, stands_by}

-- What a step leaves is known, if it goes on, with what else is so.
pub exactly : {A B C : Type 0} {x : A} {P : B → Type 0} {r : Result A Fault} (k : A → Result B Fault) → Holds (λ u. (u ≡ x) × C) r → (C → Holds P (k x)) → Holds P (r >>= k)
exactly {P = P} k h f = chained h (λ u d. rw d.0 (f d.1))

pub held_exactly : {C : Type 0} {x : Held} (t : ScannerState) {r : Result Held Fault} → Holds (λ h. (h ≡ x) × C) r → Holds (λ u. (u ≡ record t { held = x }) × C) (with_held t r)
held_exactly t {r = r} h = tried t r h (λ s d. (ap (λ y. record t { held = y }) d.0, d.1))

-- The site is that after the piece.
pub record Reads (t u : ScannerState) (y : Site) (piece next gap : List ℕ) : Type 0 where
  pub is_solid : is_empty piece ≡ false
  pub cut : t.rest ≡ piece ++ next
  pub is_rest : next ≡ gap ++ u.rest
  pub is_filled : is_separation false gap u.rest ≡ true
  pub position_is : u.held.position ≡ position_after y.position gap u.rest
  pub blocks_are : y.blocks ≡ columns u.held.indent u.held.indents
  pub awaits_is : y.awaits ≡ has_open_level u.held.indents
  pub are_levels : AreLevels u.held.indent u.held.indents
  pub has_no_tabs : HasNoTabs y gap u.rest
  pub is_leading : IsLeading u.held.leading y gap u.rest
  pub read_on : IsReadOn y.before y.position gap u.rest
  pub was_adjacent : is_empty u.held.flow ≡ false → IsAdjacent (before_past (before_by y.before) gap) u.held.position u.held.adjacent_value_at u.rest
  pub adjacent_before : u.held.adjacent_value_at ≤ u.held.position.index
  pub unchanged : (u.held.started ≡ t.held.started) × (u.held.ended ≡ t.held.ended)

-- What the scanner holds then fits an account, with the separation after the last piece.
pub record IsHeld (u : ScannerState) (gs : List FlowLevel) (ls : List (Option Key)) (base : Account) (gap : List ℕ) : Type 0 where
  pub flow_is : u.held.flow ≡ gs
  pub keys_are : u.held.keys ≡ ls
  pub one_each : length ls ≡ suc (length gs)
  pub are_entries : AreEntries u.held.key_allowed (is_renewed base.site.before gap) gs ls base.entries
  pub line_is : IsLine (not (is_empty gs)) u.held.key_allowed (begins_free_line base.site.before gap) u.held.position u.rest (outside_key base.entries ls) base.line
  pub no_key : is_waiting base.line ≡ false
  pub are_numbered : AreNumbered (length u.held.tokens) ls

-- What holds between two fetches of a state that was read so, by what a key decides.
pub record StandsThen (text : List ℕ) (u : ScannerState) (gs : List FlowLevel) (ls : List (Option Key)) (base : Account) (gap : List ℕ) : Type 0 where
  pub fits : IsHeld u gs ls base gap
  pub open fits use *
  pub is_open : IsOpenOutside (outside_key base.entries ls) base.site.position u.held.position u.rest base.site.blocks
  pub carries : IsCarriedOn text (gap ++ u.rest) u.rest ls base
  pub knows : KnowsKey text (gap ++ u.rest) u.held.position (outside_key base.entries ls)
  pub completes : (strict c : Bool) (cs : List Bool) → MayChoose strict c (outside_key base.entries ls) u.held.position u.rest → SoFar strict text (gap ++ u.rest) (chosen c cs ls base) (tokens_up_to (chosen c cs ls base) ls u.held.tokens)

-- What holds between two fetches holds, and less text is left than before.
pub record Onward (text before : List ℕ) (u : ScannerState) : Type 0 where
  pub stands : Stands text u
  pub less : length u.rest < length before

pub stands_so : (text : List ℕ) (t u : ScannerState) (piece next gap : List ℕ) (gs : List FlowLevel) (ls : List (Option Key)) (base : Account) → has_no_nul t.rest ≡ true → t.held.started ≡ true → t.held.ended ≡ false →
    Reads t u base.site piece next gap → StandsThen text u gs ls base gap → Onward text t.rest u
stands_so text t u piece next gap gs ls base clean started going r g = record {
  stands = grind (arith, no_nul_after, stands_by);
  less = let first = ap length r.cut in let second = ap length r.is_rest in let n = length-append piece next in let m = length-append gap u.rest in omega (arith, first, second, n, m, not_none piece r.is_solid);
}

-- ---- what is the same for many pieces

-- The model's place for a colon stays behind the piece, and so no colon stands next to it, unless a quoted scalar or a collection was read.
pub adjacent_kept : (t u : ScannerState) (before : Before) (piece next gap : List ℕ) → is_empty piece ≡ false → u.held.position ≡ position_after (position_after t.held.position piece next) gap u.rest → t.held.adjacent_value_at ≤ t.held.position.index →
    u.held.adjacent_value_at ≡ t.held.adjacent_value_at → before ≡ other → IsAdjacent (before_past before gap) u.held.position u.held.adjacent_value_at u.rest × (u.held.adjacent_value_at ≤ u.held.position.index)
adjacent_kept t u before piece next gap solid place was same plain_end = grind (arith, nat_tests, eqb-true, index_after, not_none, adjacent_other)

-- after an indicator or a bracket, and a separation on its line
pub quiet_before : (before : Previous) (q : Position) (gap rest : List ℕ) → (before ≡ another) ⊎ (before ≡ flow_collection) → has_no_break gap ≡ true →
    (begins_line before gap ≡ false) × (begins_free_line before gap ≡ false) × (is_renewed before gap ≡ false) × IsReadOn before q gap rest
quiet_before before q gap rest a h = grind arith

-- The separation is on the piece's line.
pub reads_in_line : (t u : ScannerState) (y : Site) (piece next gap : List ℕ) → is_empty piece ≡ false → t.rest ≡ piece ++ next → next ≡ gap ++ u.rest → is_separation false gap u.rest ≡ true → has_no_break gap ≡ true → u.held.position ≡ position_after y.position gap u.rest →
    u.held.leading ≡ false → (y.before ≡ another) ⊎ (y.before ≡ flow_collection) → y.blocks ≡ columns u.held.indent u.held.indents → y.awaits ≡ has_open_level u.held.indents → AreLevels u.held.indent u.held.indents →
    (is_empty u.held.flow ≡ false → IsAdjacent (before_past (before_by y.before) gap) u.held.position u.held.adjacent_value_at u.rest) → u.held.adjacent_value_at ≤ u.held.position.index → (u.held.started ≡ t.held.started) × (u.held.ended ≡ t.held.ended) → Reads t u y piece next gap
reads_in_line t u y piece next gap solid cut is_rest fills a place leads before columns_are awaits levels adjacent less same = grind (arith, quiet_before)

-- the same, where no colon may stand next to the piece
pub reads_before_none : (t u : ScannerState) (y : Site) (piece next gap : List ℕ) → is_empty piece ≡ false → t.rest ≡ piece ++ next → next ≡ gap ++ u.rest → is_separation false gap u.rest ≡ true → has_no_break gap ≡ true →
    y.position ≡ position_after t.held.position piece next → u.held.position ≡ position_after (position_after t.held.position piece next) gap u.rest →
    u.held.leading ≡ false → y.before ≡ another → y.blocks ≡ columns u.held.indent u.held.indents → y.awaits ≡ has_open_level u.held.indents → AreLevels u.held.indent u.held.indents → t.held.adjacent_value_at ≤ t.held.position.index →
    (u.held.adjacent_value_at ≡ t.held.adjacent_value_at) × (u.held.started ≡ t.held.started) × (u.held.ended ≡ t.held.ended) → Reads t u y piece next gap
reads_before_none t u y piece next gap solid cut is_rest fills a b place leads before columns_are awaits levels was same = grind (arith, adjacent_kept, reads_in_line)
