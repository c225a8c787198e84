-- A key that must be one waits in each row of the text; and while it waits no line ends. So no row goes on where a beginning has only gone on over a line's end by making no key of it.
use Rattle.proof_scanner.proofs.Common.{or-false, cases_Bool, innermost, IsNotRight, [], Account, account_past, Act, act_of, ap, arith, begins_free_line, begins_separation, BeginsButForKey, blocks_at, Bool, Entry, fails, false, first_account, free, gives_node, has_break, HasRow, inl, inr, is_empty, is_in_column, is_in_flow, is_marker, is_separation, IsWritten, key_waits, length, LikeEntries, LikeLine, Line, line_past, line_past_separation, List, no_key, no_nul_after, None, not, not-true, not_ended, Outside, Position, position_after, position_in_line, previous_by, refl, Row, same_flow, Site, site_at, Some, spelled, Step, subst, sym, taken, TextsWithARowAreNotStuck, Tok, true, waits, ℕ, ◌++◌, ◌+◌, ◌<◌, ◌∙◌, ◌∷◌, ◌≡◌, ◌≤◌, ◌⊎◌, eqb-true, nat_tests, append-nil, append_assoc, append_cancel_right, AreAround, AreEntries, Arrives, Begins, comma, first_position, FlowLevel, gives_closing, gives_comma, GoesThrough, has_no_nul, has_required, HasNoKey, in_flow, is_blank, is_blank_or_end, is_break, is_far, is_flow, is_nul, is_required, IsNear, IsPositionIn, Key, Leads, mapping_closing, MayChoose, Option, outside_key, position_append, ScannerState, sequence_closing, Stands, suc, top_key, ◌||◌, IsAt}
use Rattle.proof_scanner.proofs.Refusals.Common.{first_stays, IsRowless, Keeps, Same, Walked, With, account_by, at_end, cut_position, in_flow_is, index_after, no_entries, not_before_after, not_none, piece_ends, place, stands_cut, step_here, strictly, walk, whole_text, with_entries, same_of, waited, still_there, like_past, begun, kept, waits_past, Made, outside, inside, made}
use Rattle.proof_scanner.proofs.Refusals.PiecesRefused.{Here, marker_begins, whole_by}
use Rattle.proof_scanner.proofs.Refusals.OtherRows.{GoesNear, goes_near, keeps_on, row_begins, StepAt, RowAt, row_at, BeginsWith, begins_with_part}
use Rattle.proof_scanner.proofs.Refusals.NoRows.{failing_places_have_no_row, no_keyless_colon}
use Rattle.proof_row.proofs.CutColumns.{unbroken}

-- ---- the line of a key

-- a site on the line of a key that waits, and right of it, after a piece there that is no directive
pub record OnLine (q : Position) (s : Site) : Type 0 where
  unmarked : (f : List ℕ) → begins_free_line s.before f ≡ has_break f
  line_is : s.position.line ≡ q.line
  right : suc q.col ≤ s.position.col

stays : (p : Position) (text next : List ℕ) → has_break text ≡ false → ((position_after p text next).line ≡ p.line) × ((position_after p text next).col ≡ p.col + length text)
stays p text next h = let same = sym (position_in_line p text next (unbroken text h)) in (ap (λ (q : Position). q.line) same, ap (λ (q : Position). q.col) same)

-- after a piece on the line of a key that waits
line_after : (q here : Position) (piece : List ℕ) (t : Tok) (next : List ℕ) (s : Site) → s.position ≡ position_after here piece next → s.before ≡ previous_by t → here.line ≡ q.line → q.col ≤ here.col → not (is_empty piece) ≡ true → has_break piece ≡ false → is_marker (act_of t) ≡ false → OnLine q s
line_after q here piece t next s p b l r some none m = grind (arith, nat_tests, eqb-true, stays, not_none, not-true)

-- a site is on the line of the key that waits
abbrev pub Waiting : Line → Site → Type 0
Waiting l s = (q : Position) → l ≡ waits q → OnLine q s

pub here_on : (q : Position) (s : Site) (sep more : List ℕ) → OnLine q s → begins_free_line s.before sep ≡ false → ((position_after s.position sep more).line ≡ q.line) × (suc q.col ≤ (position_after s.position sep more).col)
here_on q s sep more on f = grind (arith, stays)

pub waiting_past : (s : Site) (l : Line) (es : List Entry) (w : Step) (next : List ℕ) (b : Account) → Waiting l s → IsWritten (with_entries s l es) w next → account_past (with_entries s l es) w next ≡ Some b → Waiting b.line b.site
waiting_past s l es w next b on is e q wt =
    let here : Position = position_after s.position w.separation (w.piece ++ next) in
    elim (made s l es w next b e) [
      | outside m o none sep past line site one ↦
          let unbroken : has_break w.piece ≡ false = grind (arith, wt, one) in
          elim (waits_past _ _ _ _ w.key m o q past (sym line ∙ wt)) [
            | begun k f h bs ↦ line_after q here w.piece w.shown next b.site (ap (λ (x : Site). x.position) site) (ap (λ (x : Site). x.before) site) (ap (λ (x : Position). x.line) h) (let col = ap (λ (x : Position). x.col) h in omega (arith, col)) is.1.0 unbroken (ap is_marker k)
            | kept k f bs ↦
                let was = waited false (begins_free_line s.before w.separation) l m q sep f in
                let far = here_on q s w.separation (w.piece ++ next) (on q was.0) was.1 in
                line_after q here w.piece w.shown next b.site (ap (λ (x : Site). x.position) site) (ap (λ (x : Site). x.before) site) far.0 (omega (arith, far.1)) is.1.0 unbroken (ap is_marker k)
          ]
      | inside some sep site one ↦
          let unmarked : (c : Bool) → is_marker (act_of w.shown) ≡ c → suc q.col ≤ here.col → is_marker (act_of w.shown) ≡ false = λ c h e. grind (arith, nat_tests, eqb-true, marker_begins, next, is) in
          let was = waited true (begins_free_line s.before w.separation) l b.line q sep wt in
          let far = here_on q s w.separation (w.piece ++ next) (on q was.0) was.1 in
          line_after q here w.piece w.shown next b.site (ap (λ (x : Site). x.position) site) (ap (λ (x : Site). x.before) site) far.0 (omega (arith, far.1)) is.1.0 (grind (arith, wt, one)) (unmarked (is_marker (act_of w.shown)) refl far.1)
    ]

-- ---- a beginning and a row

-- What is so of a beginning and a row that has come as far. Where a key waits in the beginning no collection is right of it; and if it must be one it waits in the row.
pub record Together (x y : Account) : Type 0 where
  pub known : (q : Position) → x.line ≡ waits q → IsNotRight (innermost x.site.blocks) q.col × (is_in_column q.col x.site.blocks ≡ true → y.line ≡ waits q)
  pub on_first : Waiting x.line x.site
  pub on : Waiting y.line y.site

-- A key of a beginning is made none: none waits in it, and in the row one waits.
pub record Apart (q : Position) (x y : Account) : Type 0 where
  pub none : x.line ≡ taken
  pub one : y.line ≡ waits q
  pub on : OnLine q y.site

known_after : (s : Site) (l m : Line) (ds es : List Entry) (w : Step) (c : Bool) (next : List ℕ) (a b : Account) → LikeLine l m → LikeEntries ds es → Waiting l s
    → ((q : Position) → l ≡ waits q → IsNotRight (innermost s.blocks) q.col × (is_in_column q.col s.blocks ≡ true → m ≡ waits q))
    → account_past (with_entries s l ds) w next ≡ Some a → account_past (with_entries s m es) (With w c) next ≡ Some b
    → (q : Position) → a.line ≡ waits q → IsNotRight (innermost a.site.blocks) q.col × (is_in_column q.col a.site.blocks ≡ true → b.line ≡ waits q)
known_after s l m ds es w c next a b i j on known e1 e2 q wt = by (made s l ds w next a e1) (made s m es (With w c) next b e2)
  where
    at : Site
    at = site_at false s w.separation w.piece w.shown next

    broken : Bool
    broken = begins_free_line s.before w.separation

    by : Made s l ds w next a → Made s m es (With w c) next b → IsNotRight (innermost a.site.blocks) q.col × (is_in_column q.col a.site.blocks ≡ true → b.line ≡ waits q)
    by (outside n u n1 sep1 past1 line1 site1 one1) (outside o v n2 sep2 past2 line2 site2 one2) =
        let r : IsNotRight (innermost u.blocks) q.col × (is_in_column q.col u.blocks ≡ true → v.line ≡ waits q) = elim (waits_past _ _ _ (act_of w.shown) w.key n u q past1 (sym line1 ∙ wt)) [
          | begun act fr h bs ↦
              -- a node that must be a key is one
              let must_wait : (must : Bool) (here : Position) (bs : List ℕ) (k : Act) (c : Bool) (n o : Line) (v : Outside) → LikeLine n o → n ≡ free → k ≡ gives_node → must ≡ true → line_past must here bs k c o ≡ Some v → v.line ≡ waits here = λ must here bs k a n o v i f g m e. grind arith in
              let going : at.blocks ≡ not_ended at.position.col s.blocks = ap (λ k. blocks_at false k at.position.col s.blocks) act in
              rw (bs, ← h) (rw going (first_stays at.position.col s.blocks), λ col. must_wait _ at.position at.blocks _ c n o v (like_past false broken l m n o i sep1 sep2) fr act col past2)
          | kept act is bs ↦
              -- after a node a key still waits
              let waits_on : (must : Bool) (here : Position) (bs : List ℕ) (k : Act) (c : Bool) (o : Line) (v : Outside) (q : Position) → o ≡ waits q → k ≡ gives_node → line_past must here bs k c o ≡ Some v → v.line ≡ waits q = λ must here bs k c o v q w g e. grind arith in
              -- where none is right of a column, none ends there or right of it
              let all_stay : (q c : ℕ) (bs : List ℕ) → IsNotRight (innermost bs) q → q ≤ c → not_ended c bs ≡ bs = λ q c a h l. grind (arith, nat_tests) in
              let was : (l ≡ waits q) × (broken ≡ false) = waited false broken l n q sep1 is in
              let right = (here_on q s w.separation (w.piece ++ next) (on q was.0) was.1).1 in
              let going : at.blocks ≡ s.blocks = ap (λ k. blocks_at false k at.position.col s.blocks) act ∙ all_stay q.col at.position.col s.blocks (known q was.0).0 (omega (arith, right)) in
              rw (bs, going) ((known q was.0).0, λ col. waits_on _ at.position at.blocks _ c o v q (still_there false broken m o q ((known q was.0).1 col) sep2).1 act past2)
        ] in
        rw site1 (r.0, λ col. line2 ∙ r.1 col)
    by (outside n u n1 sep1 past1 line1 site1 one1) (inside some sep2 site2 one2) = absurd (cc (sym (ap is_in_flow n1) ∙ same_flow ds es j ∙ some))
    by (inside some sep1 site1 one1) (outside o v n2 sep2 past2 line2 site2 one2) = absurd (cc (sym some ∙ same_flow ds es j ∙ ap is_in_flow n2))
    by (inside some1 sep1 site1 one1) (inside some2 sep2 site2 one2) =
        let was = waited true broken l a.line q sep1 wt in rw site1 ((known q was.0).0, λ col. (still_there true broken m b.line q ((known q was.0).1 col) sep2).1)

-- while none waits in the beginning and one in the row, this stays so
apart_after : (s : Site) (ds es : List Entry) (w : Step) (c : Bool) (next : List ℕ) (a b : Account) (q : Position) → LikeEntries ds es → account_past (with_entries s taken ds) w next ≡ Some a → account_past (with_entries s (waits q) es) (With w c) next ≡ Some b
    → (a.line ≡ taken) × (b.line ≡ waits q)
apart_after s ds es w c next a b q j e1 e2 = by (made s taken ds w next a e1) (made s (waits q) es (With w c) next b e2)
  where
    at : Site
    at = site_at false s w.separation w.piece w.shown next

    inside_line : (broken : Bool) (m : Line) → line_past_separation true broken taken ≡ Some m → m ≡ taken
    inside_line a m e = grind (arith, same_of, taken)

    both : (n o : Line) (u v : Outside) → n ≡ taken → o ≡ waits q → line_past (is_in_column at.position.col at.blocks) at.position at.blocks (act_of w.shown) w.key n ≡ Some u
        → line_past (is_in_column at.position.col at.blocks) at.position at.blocks (act_of w.shown) c o ≡ Some v → (u.line ≡ taken) × (v.line ≡ waits q)
    both n o u v nt ow p1 p2 = grind (arith, nat_tests, eqb-true)

    by : Made s taken ds w next a → Made s (waits q) es (With w c) next b → (a.line ≡ taken) × (b.line ≡ waits q)
    by (outside n u n1 sep1 past1 line1 site1 one1) (outside o v n2 sep2 past2 line2 site2 one2) =
        let was = still_there false (begins_free_line s.before w.separation) (waits q) o q refl sep2 in
        let n_is : n ≡ taken = sym (same_of taken n (subst (λ x. line_past_separation false x taken ≡ Some n) was.0 sep1)) in
        let r = both n o u v n_is was.1 past1 past2 in (line1 ∙ r.0, line2 ∙ r.1)
    by (outside n u n1 sep1 past1 line1 site1 one1) (inside some sep2 site2 one2) = absurd (cc (sym (ap is_in_flow n1) ∙ same_flow ds es j ∙ some))
    by (inside some sep1 site1 one1) (outside o v n2 sep2 past2 line2 site2 one2) = absurd (cc (sym some ∙ same_flow ds es j ∙ ap is_in_flow n2))
    by (inside some1 sep1 site1 one1) (inside some2 sep2 site2 one2) = (inside_line (begins_free_line s.before w.separation) a.line sep1, (still_there true (begins_free_line s.before w.separation) (waits q) b.line q refl sep2).1)

-- ---- as far as a beginning leads

pub together_keeps : Keeps (λ x y _. Together x y)
together_keeps x y a b v c next i p h k e f = search (
  known_after x.site x.line y.line x.entries y.entries v c next a b i.1 i.2 p.on_first p.known e (rw i.0 f),
  waiting_past x.site x.line x.entries v next a p.on_first h e,
  waiting_past y.site y.line y.entries (With v c) next b p.on k f,
)

pub apart_keeps : (q : Position) → Keeps (λ x y _. Apart q x y)
apart_keeps q x y a b v c next i p h k e f =
    let own : Waiting y.line y.site = λ z e. subst (λ u. OnLine u y.site) (cc (sym p.one ∙ e)) p.on in
    let lines : (a.line ≡ taken) × (b.line ≡ waits q) = apart_after x.site x.entries y.entries v c next a b q i.2
    (subst (λ l. account_past (with_entries x.site l x.entries) v next ≡ Some a) p.none e)
    (subst (λ l. account_past (with_entries x.site l y.entries) (With v c) next ≡ Some b) p.one (rw i.0 f)) in
    record { none = lines.0; one = lines.1; on = waiting_past y.site y.line y.entries (With v c) next b own k f q lines.1 }

pub first_together : Together first_account first_account
first_together = record { known = λ q h. absurd (cc h); on_first = λ q h. absurd (cc h); on = λ q h. absurd (cc h) }

-- Where a key that must be one waits in a beginning, no line ends before a place to which steps lead without it.
pub key_on_its_line : (text separation rest : List ℕ) (begin here : Position) (a : Account) (r : Row) → BeginsButForKey text (separation ++ rest) begin a → is_separation false separation rest ≡ true → here ≡ position_after a.site.position separation rest → begin.line < here.line
    → is_empty rest ≡ false → begins_separation rest ≡ false → HasRow text r → ⊥
key_on_its_line text separation rest begin here a r g filled here_is late some solid row =
    let s = goes_near second.steps second.last after z begin second.holds.one second.is_row second.spells in
    let n : GoesNear z s.0 s.1 begin = s.4 in
    let at : (s.0.separation ≡ separation) × (s.0.piece ++ s.1 ≡ rest) = step_here z s.0 s.1 separation rest s.2 s.3 filled solid (no_nul_after separation rest second.is_clean) in
    let unbroken : begins_free_line z.site.before separation ≡ false = subst (λ x. begins_free_line z.site.before x ≡ false) at.0 n.unbroken in
    let line : here.line ≡ begin.line = ap (λ (p : Position). p.line) here_is ∙ (ap (λ (s : Site). (position_after s.position separation rest).line) second.is_like.0 ∙ (here_on begin z.site separation rest second.holds.on unbroken).0) in
    omega (arith, late, line)
  where
    after : List ℕ
    after = separation ++ rest

    first : Walked (λ x y _. Together x y) g.account (spelled g.steps after)
    first = row_begins (λ x y _. Together x y) together_keeps text (spelled g.steps after) g.account r first_together g.begins row

    -- in the row the key waits
    waiting : first.account.line ≡ waits begin
    waiting = (first.holds.known begin g.line_is).1 g.must_be

    none : Account
    none = record { site = g.account.site; line = taken; entries = g.account.entries }

    second : Walked (λ x y _. Apart begin x y) a after
    second = walk Same (λ x y _. Apart begin x y) (keeps_on (λ x y _. Apart begin x y) (apart_keeps begin)) g.steps first.steps after first.last none first.account a
        (first.is_like.0, rw waiting tt, first.is_like.2) (record { none = refl; one = waiting; on = first.holds.on begin waiting }) (strictly g.steps after (Some none) a g.leads) first.is_row (sym first.spells) first.is_clean

    z : Account
    z = second.account

pub texts_with_a_row_are_not_stuck : TextsWithARowAreNotStuck
texts_with_a_row_are_not_stuck text why at r row (fails a separation rest why2 here at2 place some solid f) = failing_places_have_no_row text separation rest a here at why r place solid some f.fails row
texts_with_a_row_are_not_stuck text why at r row (no_key a separation more here place is out line none looked apart) = no_keyless_colon text separation more a here r place is out line none row
texts_with_a_row_are_not_stuck text why at r row (key_waits a separation rest why2 begin here at2 g flowing filled here_is late some solid f) = key_on_its_line text separation rest begin here a r g filled here_is late some solid row

-- ---- a row that goes through a place

-- what each step keeps, a beginning does
along : (P : Account → List ℕ → Type 0) → ((x y : Account) (w : Step) (next : List ℕ) → P x (w.separation ++ (w.piece ++ next)) → IsWritten x w next → account_past x w next ≡ Some y → P y next)
    → (ws : List Step) (after : List ℕ) (a b : Account) → P a (spelled ws after) → Leads (Some a) ws after b → P b after
along P keeps [] after a b p e = subst (λ x. P x after) e p
along P keeps (w ∷ ws) after a b p h =
    -- steps lead on from an account
    let some_past : (o : Option Account) (ws : List Step) (after : List ℕ) (b : Account) → Leads o ws after b → (c : Account) × (o ≡ Some c) × Leads (Some c) ws after b = λ o ws after b h. grind (arith, nat_tests, eqb-true) in
    let c = some_past (account_past a w (spelled ws after)) ws after b h.1 in
    along P keeps ws after c.0 b (keeps a c.0 w (spelled ws after) p h.0 c.1) c.2

-- each beginning of a row is on the line of its key that waits
begins_waiting : (text after : List ℕ) (b : Account) → Begins text after b → Waiting b.line b.site
begins_waiting text after b g = along (λ x _. Waiting x.line x.site) (λ x y w next p. waiting_past x.site x.line x.entries w next y p) g.steps after first_account b (λ q e. absurd (cc e)) g.leads

-- ---- positions

further_in : (text f rest : List ℕ) (p : Position) → IsPositionIn text (f ++ rest) p → IsPositionIn text rest (position_after p f rest)
further_in text f rest p at =
    search (at.is_text ∙ sym (append_assoc at.before f rest), ap (λ q. position_after q f rest) at.is_position ∙ sym (position_append first_position at.before f rest))

place_past : (text : List ℕ) (x y : Account) (w : Step) (next : List ℕ) → IsPositionIn text (w.separation ++ (w.piece ++ next)) x.site.position → account_past x w next ≡ Some y → IsPositionIn text next y.site.position
place_past text x y w next at e = grind (arith, (made x.site x.line x.entries w next y e), further_in)

-- A separation after a beginning of a row ends where the scanner is, before the same text.
same_place : (text separation rest : List ℕ) (p : Position) (b : Account) → has_no_nul text ≡ true → IsPositionIn text rest p → Begins text (separation ++ rest) b → p ≡ position_after b.site.position separation rest
same_place text separation rest p b nul at g =
    let begin : IsPositionIn text (spelled g.steps (separation ++ rest)) first_position = record { before = []; is_text = sym (whole_text text nul) ∙ sym g.spells; is_position = refl } in
    let there : IsPositionIn text rest (position_after b.site.position separation rest) = further_in text separation rest b.site.position
    (along (λ x next. IsPositionIn text next x.site.position) (λ x y w next h k e. place_past text x y w next h e) g.steps (separation ++ rest) first_account b begin g.leads) in
    at.is_position ∙ (ap (λ x. position_after first_position x rest) (append_cancel_right at.before there.before rest (sym at.is_text ∙ there.is_text)) ∙ sym there.is_position)

-- While a key waits in the row, each part of the separation there ends on the key's line, and near.
near_there : (text after : List ℕ) (q : Position) (g : GoesThrough text after) → g.account.line ≡ waits q → (separation rest : List ℕ) → after ≡ separation ++ rest → is_separation false separation rest ≡ true → is_far q (position_after g.account.site.position separation rest) ≡ false
unfolding is_far
near_there text after q g waiting separation rest cut filled =
    let s = goes_near g.steps g.last after g.account q waiting g.is_row g.spells in
    let w : Step = s.0 in
    let n : GoesNear g.account w s.1 q = s.4 in
    let next : List ℕ = w.piece ++ s.1 in
    let p : Position = g.account.site.position in
    let part : BeginsWith w.separation separation next rest = begins_with_part false w.separation separation next rest s.2.0 filled (piece_ends g.account w s.1 s.2) (s.3 ∙ cut) in
    let here : Position = position_after p separation rest in
    let on = here_on q g.account.site w.separation next (begins_waiting text after g.account g.begins q waiting) n.unbroken in
    let whole : position_after p w.separation next ≡ position_after here part.more next = ap (λ f. position_after p f next) part.whole_is ∙ (position_append p separation part.more next ∙ ap (λ r. position_after (position_after p separation r) part.more next) (sym part.rest_is)) in
    let later = (not_before_after here part.more next).0 in
    grind (arith, nat_tests, whole, on.0, n.near, later, index_after here part.more next)

-- At the text's end no key waits in the row.
none_at_end : (text separation rest : List ℕ) (q : Position) (g : GoesThrough text (separation ++ rest)) → g.account.line ≡ waits q → is_separation false separation rest ≡ true → rest ≡ [] → ⊥
none_at_end text separation rest q g waiting filled none =
    let s = goes_near g.steps g.last (separation ++ rest) g.account q waiting g.is_row g.spells in
    at_end g.account s.0 separation s.1 (rw (sym none) filled) s.2 (sym (append-nil separation) ∙ (ap (λ x. separation ++ x) (sym none) ∙ sym s.3))

-- ---- open keys

-- a key that must be one is the one outside flow
required_around : (fs : List FlowLevel) (ks : List (Option Key)) (es : List Entry) → AreAround fs ks es → length ks ≡ suc (length fs) → has_required ks ≡ is_required (outside_key es ks)
required_around [] (k ∷ []) [] a n = grind (arith, or-false)
required_around (f ∷ fs) (k ∷ ks) (e ∷ es) a n = grind (arith, required_around fs ks es)
required_around fs ks es a n = grind arith

required_outside : (allowed again : Bool) (fs : List FlowLevel) (ks : List (Option Key)) (es : List Entry) → AreEntries allowed again fs ks es → length ks ≡ suc (length fs) → has_required ks ≡ is_required (outside_key es ks)
required_outside allowed again [] ks [] a n = required_around [] ks [] tt n
required_outside allowed again (f ∷ fs) (k ∷ ks) (e ∷ es) a n = grind (arith, required_around fs ks es)
required_outside allowed again fs ks es a n = grind arith

found : (o k : Option Key) → o ≡ k → is_required k ≡ true → (x : Key) × (o ≡ Some x) × (x.required ≡ true)
found o a e m = grind arith

-- ---- between two fetches, and at the text's end

pub stale_rowless : (text : List ℕ) (u : ScannerState) (s : Stands text u) → has_no_nul text ≡ true → (k : Key) → outside_key s.base.entries u.held.keys ≡ Some k → k.required ≡ true → is_far k.position u.held.position ≡ true → IsRowless text
stale_rowless text u s nul k e must far r h =
    let g : GoesThrough text (s.separation ++ u.rest) = s.knows.rows r h in
    let near = near_there text (s.separation ++ u.rest) k.position g (s.knows.required g.account k g.begins e must) s.separation u.rest refl s.is_filled in
    cc (sym far ∙ (ap (λ p. is_far k.position p) (same_place text s.separation u.rest u.held.position g.account nul (cut_position text s.separation u.rest s.base u.held.tokens u.held.position (whole_text text nul) s.position_is (stands_cut text u s)) g.begins) ∙ near))

pub end_rowless : (text : List ℕ) (t : ScannerState) (a : Arrives text t) → t.rest ≡ [] → has_required t.held.keys ≡ true → IsRowless text
end_rowless text t a none must r h =
    let k = found _ (outside_key a.base.entries t.held.keys) refl (sym (required_outside t.held.key_allowed _ t.held.flow t.held.keys a.base.entries a.are_entries a.one_each) ∙ must) in
    let g : GoesThrough text (a.separation ++ t.rest) = a.knows.rows r h in
    none_at_end text a.separation t.rest k.0.position g (a.knows.required g.account k.0 g.begins k.1 k.2) a.is_filled none

-- ---- where a piece begins

-- The row's step at a place, while a key waits outside flow: no comma or closing bracket, and nothing in column 0.
module _ {a : Account} {separation rest : List ℕ} {here : Position} (s : StepAt a separation rest here) (q : Position) (waiting : s.account.line ≡ waits q) where
  made_here : Made s.account.site s.account.line s.account.entries s.step s.next s.past
  made_here = made s.account.site s.account.line s.account.entries s.step s.next s.past s.is_past

  pub not_first : Waiting s.account.line s.account.site → here.col ≡ 0 → ⊥
  not_first on col =
      let unbroken : begins_free_line s.account.site.before s.step.separation ≡ false = elim made_here [
        | outside m o none sep past line site one ↦ (still_there false _ s.account.line m q waiting sep).0
        | inside some sep site one ↦ (still_there true _ s.account.line s.past.line q waiting sep).0
      ] in
      let place = ap (λ (p : Position). p.col) s.position_is in
      omega (arith, (here_on q s.account.site s.step.separation (s.step.piece ++ s.next) (on q waiting) unbroken).1, place, col)

  pub not_closing : is_in_flow a.entries ≡ false → (act_of s.step.shown ≡ gives_comma) ⊎ (act_of s.step.shown ≡ gives_closing) → ⊥
  not_closing out act = elim made_here [
    | outside m o none sep past line site one ↦ grind (arith, (still_there false _ s.account.line m q waiting sep).1)
    | inside some sep site one ↦ cc (out, same_flow a.entries s.account.entries s.is_like.2, some)
  ]

  -- the text says so
  pub closes : (c : ℕ) (more : List ℕ) → rest ≡ c ∷ more → (c ≡ 44) ⊎ (c ≡ 93) ⊎ (c ≡ 125) → (act_of s.step.shown ≡ gives_comma) ⊎ (act_of s.step.shown ≡ gives_closing)
  unfolding is_blank_or_end is_blank is_break is_nul is_flow
  closes c more e (inl is) = let w : Here s comma = whole_by s 44 more (e ∙ ap (λ x. x ∷ more) is) in inl (ap act_of w.1)
  closes c more e (inr (inl is)) = let w : Here s sequence_closing = whole_by s 93 more (e ∙ ap (λ x. x ∷ more) is) in inr (ap act_of w.1)
  closes c more e (inr (inr is)) = let w : Here s mapping_closing = whole_by s 125 more (e ∙ ap (λ x. x ∷ more) is) in inr (ap act_of w.1)

-- in flow the innermost open key need not be one
free_inside : (allowed again : Bool) (fs : List FlowLevel) (ks : List (Option Key)) (es : List Entry) → is_empty fs ≡ false → AreEntries allowed again fs ks es → is_required (top_key ks) ≡ false
free_inside allowed again a ks es i b = grind arith

module _ {text : List ℕ} {t : ScannerState} (a : Arrives text t) (some : is_empty t.rest ≡ false) where
  -- outside flow the open key is that outside
  key_outside : is_empty t.held.flow ≡ true → outside_key a.base.entries t.held.keys ≡ top_key t.held.keys
  key_outside out = ap (λ es. outside_key es t.held.keys) (no_entries t.held.key_allowed _ t.held.flow t.held.keys a.base.entries out a.are_entries)

  -- A key that must be one has taken the line.
  pub not_required : (in_flow t.held || t.held.key_allowed) ≡ true → is_required (top_key t.held.keys) ≡ false
  not_required h = grind arith

  -- If the innermost open key must be one, it waits where the row goes on; so no row does where no such step stands.
  rowless : ((b : Account) (s : StepAt b a.separation t.rest t.held.position) (q : Position) → is_in_flow b.entries ≡ false → s.account.line ≡ waits q → Waiting s.account.line s.account.site → ⊥) → is_required (top_key t.held.keys) ≡ true → IsRowless text
  rowless refuted must r h =
      -- it is near
      let may : (k : Option Key) → IsNear k t.held.position → MayChoose true true k t.held.position t.rest = λ k near. grind (arith, some) in
      elim (cases_Bool (is_empty t.held.flow)) [
        | inl out ↦
            let k = found _ (top_key t.held.keys) (key_outside out) must in
            let at : RowAt text (account_by a some true []) a.separation t.rest t.held.position = row_at text a.separation t.rest (account_by a some true []) t.held.position r (place a some true [] (may _ (a.is_near out))) a.is_solid some h in
            refuted (account_by a some true []) at.step_at k.0.position (in_flow_is a some true [] ∙ ap not out) (a.knows.required at.step_at.account k.0 at.begins k.1 k.2) (begins_waiting text (a.separation ++ t.rest) at.step_at.account at.begins)
        | inr i ↦ cc (free_inside t.held.key_allowed _ t.held.flow t.held.keys a.base.entries i a.are_entries, must)
      ]

  pub line_rowless : t.held.position.col ≡ 0 → is_required (top_key t.held.keys) ≡ true → IsRowless text
  line_rowless col = rowless (λ b s q out waiting on. not_first s q waiting on col)

  pub closing_rowless : (c : ℕ) (more : List ℕ) → t.rest ≡ c ∷ more → (c ≡ 44) ⊎ (c ≡ 93) ⊎ (c ≡ 125) → is_required (top_key t.held.keys) ≡ true → IsRowless text
  closing_rowless c more e is = rowless (λ b s q out waiting on. not_closing s q waiting out (closes s q waiting c more e is))

  -- Where no key is open outside flow, none waits in any beginning of a row.
  pub none_waits : top_key t.held.keys ≡ None → is_empty t.held.flow ≡ true → HasNoKey text a.separation t.rest t.held.position
  none_waits top out b begin place waiting unbroken near spaces =
      let on = here_on begin b.site a.separation t.rest (begins_waiting text (a.separation ++ t.rest) b place.begins begin waiting) unbroken in
      let line = ap (λ (p : Position). p.line) place.is_here in
      let same = on.0 in
      subst (λ k. IsAt k begin) (key_outside out ∙ top) (a.knows.waiting b begin place.begins waiting (omega (arith, line, same)) (grind (arith, nat_tests, near)))
