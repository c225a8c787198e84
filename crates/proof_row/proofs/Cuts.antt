-- A row is a cut, and steps with which a row may begin are a cut of a beginning of the text.
use Rattle.proof_row.proofs.Common.{[], account_past, ap, append_assoc, append_cancel_right, Before, Begins, begins_free_line, block_end, Bool, ends_with_stream, Entry, false, first_account, first_position, has_break, have_no_key, if◌then◌else◌, is_closed, is_in_flow, is_in_line, is_renewed, is_separation, is_waiting, IsCut, IsRead, IsRowFrom, IsWritten, Leads, Line, line_past_separation, List, may_end, may_stand, nat_lt, None, not, on_one_line, Option, past_piece, Position, position_after, put, refl, Site, site_at, Some, spelled, start_token, Step, stream_end, stream_position, subst, sym, Tok, Token, tokens_from, tokens_of, tokens_of_step, true, up_to_nul, waits, Written, ℕ, ◌&&◌, ◌++◌, ◌∙◌, ◌∷◌, ◌≡◌, arith}
use Rattle.defs_token.specs.Account as cut
use Rattle.defs_token.specs.Step.{Row}
use Rattle.defs_token.specs.Step as step
use Rattle.defs_token.specs.RowAccount.{Account, before_by as before_by_previous}
use Rattle.proof_row.proofs.Begins.{separations_end_before}
use Rattle.proof_row.proofs.CutColumns.{in_line, unbroken}
use Rattle.proof_row.proofs.CutRows.{IsKept, KeptBy, idle_kept, past_by, IsCutStep, cut_no_key, cut_step}
use Rattle.proof_row.proofs.CutSteps.{in_cut, somes, with_key}
use Rattle.proof_row.proofs.Inserted.{before_again, cut_append, IsCutOf, IsRowTo, nothing_cut}
use Rattle.proof_row.proofs.CutPieces.{account_by}

-- ---- a key that waits

-- no break stands after a key that waits
line_stands : (may fl broken : Bool) (at : Site) (p : List ℕ) (t : Tok) (next : List ℕ) (again key : Bool) (begin : Position) (es : List Entry) (x : Account) →
    (if may then on_one_line p (past_piece at p t next again key (line_past_separation fl broken (waits begin)) es) else None) ≡ Some x → broken ≡ false
line_stands a fl broken at p t next again key begin es x e = grind arith

-- after a key that waits the text goes on in its line
waits_in_line : (a : Account) (ws : List Step) (after : List ℕ) (b : Account) → Leads (Some a) ws after b → may_end b ≡ true → IsKept a → is_waiting a.line ≡ true → is_in_line (step.spelled ws after) ≡ true
waits_in_line a [] after b h ends kept w = grind arith
waits_in_line a (w ∷ ws) after b h ends kept waiting = by a.line refl
  where
    next : List ℕ
    next = step.spelled ws after

    by_piece : (f p : List ℕ) (t : Tok) → IsWritten a (record { separation = f; piece = p; shown = t; key = w.key }) next → has_break f ≡ false → is_in_line (f ++ (p ++ next)) ≡ true
    by_piece f a t h e = grind (arith, in_line, unbroken, separations_end_before)

    free : (begin : Position) → a.line ≡ waits begin → (o : Option Account) → account_past a w next ≡ o → Leads o ws after b → begins_free_line a.site.before w.separation ≡ false
    free begin e None g k = absurd k
    free begin e (Some x) g k =
        let fl : Bool = is_in_flow a.entries in
        let at : Site = site_at fl a.site w.separation w.piece w.shown next in
        line_stands (may_stand fl a.site at w.separation w.piece w.shown next) fl (begins_free_line a.site.before w.separation) at w.piece w.shown next (is_renewed a.site.before w.separation) w.key begin a.entries x (rw e at g)

    by : (l : Line) → a.line ≡ l → is_in_line (step.spelled (w ∷ ws) after) ≡ true
    by (waits begin) e =
        let keeps : KeptBy (waits begin) a.site = subst (λ z. KeptBy z a.site) e kept in
        by_piece w.separation w.piece w.shown h.0 (sym (keeps.2 w.separation) ∙ free begin e _ refl h.1)
    by _ e = absurd (cc (e, waiting))

-- ---- steps

-- Steps as a row of a cut, before a text: the tokens up to there are those of the cut.
pub record IsCutTo (a : Account) (ws : List Step) (after : List ℕ) (b : Account) : Type 0 where
  pub tokens : List Token
  pub are : tokens_from (Some a) ws after ≡ tokens ++ tokens_from (Some b) [] after
  pub cut : IsCutOf (in_cut a) (step.spelled ws after) tokens after (in_cut b)

-- Steps that lead to an account at which no key waits are a row of a cut.
pub cut_to : (a : Account) (ws : List Step) (after : List ℕ) (b : Account) → Leads (Some a) ws after b → may_end b ≡ true → IsKept a → IsCutTo a ws after b
cut_to a [] after b h ends kept = let z : IsCutTo a [] after a = record { tokens = []; are = refl; cut = nothing_cut (in_cut a) after } in subst (λ y. IsCutTo a [] after y) h z
cut_to a (w ∷ ws) after b h ends kept = by (account_past a w next) refl h.1 (λ x. cut_to x ws after b)
  where
    next : List ℕ
    next = step.spelled ws after

    by : (o : Option Account) → account_past a w next ≡ o → Leads o ws after b → ((x : Account) → Leads (Some x) ws after b → may_end b ≡ true → IsKept x → IsCutTo x ws after b) → IsCutTo a (w ∷ ws) after b
    by None e l later = absurd l
    by (Some x) e l later =
        let s : IsCutStep a w ws after x = cut_step a w ws after x h.0 e (waits_in_line x ws after b l ends) kept in
        let r : IsCutTo x ws after b = later x l ends s.kept in
        record {
          tokens = tokens_of_step a w ws after ++ r.tokens;
          are = let more = r.are in grind (arith, append_assoc, e, more);
          cut = cut_append _ _ _ _ _ _ next after s.cut r.cut;
        }

-- ---- the text's end

-- all block collections end
ends_cut : (bs : List ℕ) (p end : Position) (b : Before) (after : List ℕ) → IsCutOf (account_by p b (somes bs) []) after (ends_with_stream end bs) after (account_by p b [] [])
ends_cut [] p end b after = nothing_cut (account_by p b [] []) after
ends_cut (n ∷ bs) p end b after =
    let z = ends_cut bs p end b after in
    let rows = z.is_row in
    let t : Token = put (if nat_lt end.col n then end else stream_position end) block_end in
    record {
      row = record { separation = []; piece = []; token = t } ∷ z.row;
      spells = z.spells;
      tokens_are = ap (λ ts. t ∷ ts) z.tokens_are;
      is_row = grind (arith, before_again, rows);
    }

-- the row after a text's last piece, which leaves nothing open
record IsEnd (a : Account) (last : List ℕ) : Type 0 where
  tokens : List Token
  are : tokens_from (Some a) [] last ≡ tokens ++ (put (stream_position (position_after a.site.position last [])) stream_end ∷ [])
  closed : cut.Account
  closes : is_closed closed ≡ true
  is_cut : IsCutOf (in_cut a) last tokens last closed

ends_so : (a : Account) (last : List ℕ) → may_end a ≡ true → IsEnd a last
ends_so a last h = by a.line a.entries h
  where
    by : (l : Line) (es : List Entry) → (not (is_waiting l) && have_no_key es) ≡ true → IsEnd (record { site = a.site; line = l; entries = es }) last
    by l (e ∷ es) h = record { tokens = []; are = refl; closed = in_cut (record { site = a.site; line = l; entries = e ∷ es }); closes = refl; is_cut = nothing_cut _ last }
    by l [] h =
        let none : with_key a.site.blocks l ≡ a.site.blocks = grind arith in
        let end : Position = position_after a.site.position last [] in
        let before : Before = before_by_previous a.site.before in
        record {
          tokens = ends_with_stream end a.site.blocks;
          are = refl;
          closed = account_by a.site.position before [] [];
          closes = refl;
          is_cut = rw none (ends_cut a.site.blocks a.site.position end before last);
        }

-- ---- laws

-- a row leads to where the text ends
row_leads : (o : Option Account) (ws : List Step) (last : List ℕ) → IsRowFrom o ws last → (b : Account) × Leads o ws last b × (is_separation false last [] ≡ true) × (may_end b ≡ true)
row_leads None ws last h = absurd h
row_leads (Some a) [] last h = (a, refl, h.0, h.1)
row_leads (Some a) (w ∷ ws) last h = grind (arith, row_leads (account_past a w (step.spelled ws last)) ws last h.1)

-- Tokens of a row of a text are a cut of it.
pub rows_are_cuts : (text : List ℕ) (ts : List Token) → IsRead text ts → IsCut ts text
rows_are_cuts text ts h =
    let r : Row = h.0 in
    let l : (b : Account) × Leads (Some first_account) r.steps r.last b × (is_separation false r.last [] ≡ true) × (may_end b ≡ true) = row_leads (Some first_account) r.steps r.last h.1.1 in
    let c : IsCutTo first_account r.steps r.last l.0 = cut_to first_account r.steps r.last l.0 l.1 l.3 tt in
    let e : IsEnd l.0 r.last = ends_so l.0 r.last l.3 in
    let end : Token = put (stream_position (position_after l.0.site.position r.last [])) stream_end in
    let u : IsCutOf cut.first_account (step.spelled r.steps r.last) (c.tokens ++ e.tokens) r.last e.closed = cut_append _ _ _ _ _ _ r.last r.last c.cut e.is_cut in
    record {
      begin = first_position;
      end = stream_position (position_after l.0.site.position r.last []);
      row = u.row;
      separation = r.last;
      are_tokens = let all = h.2 in let first = c.are in let more = e.are in let us = u.tokens_are in grind (arith, append_assoc, all, first, more, us);
      is_text = u.spells ∙ h.1.0;
      is_filled = l.2;
      is_row = u.is_row.is_row (Some stream_end);
      closes = ap is_closed u.is_row.past ∙ e.closes;
    }

-- Tokens of a text as a cut up to an account, before the text after it.
pub record IsCutUpTo (text after : List ℕ) (a : Account) (ts : List Token) : Type 0 where
  pub row : List Written
  pub are_tokens : ts ≡ start_token first_position ∷ tokens_of row
  pub is_text : spelled row after ≡ up_to_nul text
  pub is_row : IsRowTo cut.first_account row after (in_cut a)

-- The tokens up to an account at which no key waits are a cut of a beginning of the text.
pub beginnings_are_cuts : (text after : List ℕ) (a : Account) (ts : List Token) (g : Begins text after a) → may_end a ≡ true →
    start_token first_position ∷ tokens_from (Some first_account) g.steps after ≡ ts ++ tokens_from (Some a) [] after → IsCutUpTo text after a ts
beginnings_are_cuts text after a ts g ends same =
    let c : IsCutTo first_account g.steps after a = cut_to first_account g.steps after a g.leads ends tt in
    let are = append_cancel_right ts (start_token first_position ∷ c.tokens) (tokens_from (Some a) [] after) (sym same ∙ ap (λ us. start_token first_position ∷ us) c.are) in
    record { row = c.cut.row; are_tokens = are ∙ ap (λ us. start_token first_position ∷ us) (sym c.cut.tokens_are); is_text = c.cut.spells ∙ g.spells; is_row = c.cut.is_row }

-- A cut goes on with a step that is one.
goes_on : (text after : List ℕ) (a b : Account) (ts : List Token) (w : Step) (ws : List Step) (last : List ℕ) → after ≡ w.separation ++ (w.piece ++ step.spelled ws last) → IsCutStep a w ws last b → IsCutUpTo text after a ts →
    IsCutUpTo text (step.spelled ws last) b (ts ++ tokens_of_step a w ws last)
goes_on text after a b ts w ws last parts s c =
    let next : List ℕ = step.spelled ws last in
    let own : IsCutOf cut.first_account (up_to_nul text) (tokens_of c.row) after (in_cut a) = record { row = c.row; spells = c.is_text; tokens_are = refl; is_row = c.is_row } in
    let u = cut_append _ _ _ _ _ _ after next own (rw parts s.cut) in
    record {
      row = u.row;
      are_tokens = ap (λ us. us ++ tokens_of_step a w ws last) c.are_tokens ∙ ap (λ us. start_token first_position ∷ us) (sym u.tokens_are);
      is_text = u.spells;
      is_row = u.is_row;
    }

-- A cut goes on with a step of a row, where no key waits outside flow.
pub cut_past : (text after : List ℕ) (a b : Account) (ts : List Token) (w : Step) (ws : List Step) (last next : List ℕ) → after ≡ w.separation ++ (w.piece ++ next) → step.spelled ws last ≡ next → IsWritten a w next → account_past a w next ≡ Some b →
    is_waiting a.line ≡ false → is_waiting b.line ≡ false → IsCutUpTo text after a ts → IsCutUpTo text next b (ts ++ tokens_of_step a w ws last)
cut_past text after a b ts w ws last next cut e written stands idle idle_then c =
    rw (← e) (goes_on text after a b ts w ws last (rw e cut) (cut_step a w ws last b (rw e written) (rw e stands) (λ k j. absurd (cc (j, idle_then))) (idle_kept a.line a.site idle)) c)

-- The same with a piece outside flow that is no key, also where a key must begin.
pub cut_past_no_key : (must : Bool) (text after : List ℕ) (a b : Account) (ts : List Token) (w : Step) (ws : List Step) (last next : List ℕ) → after ≡ w.separation ++ (w.piece ++ next) → step.spelled ws last ≡ next → a.entries ≡ [] → IsWritten a w next →
    past_by must (site_at false a.site w.separation w.piece w.shown next) w.piece w.shown next w.key (line_past_separation false (begins_free_line a.site.before w.separation) a.line) ≡ Some b →
    is_waiting a.line ≡ false → is_waiting b.line ≡ false → IsCutUpTo text after a ts → IsCutUpTo text next b (ts ++ tokens_of_step a w ws last)
cut_past_no_key must text after a b ts w ws last next cut e none written stands idle idle_then c =
    rw (← e) (goes_on text after a b ts w ws last (rw e cut) (cut_no_key must a w ws last b none idle idle_then (rw e written) (rw e stands)) c)
