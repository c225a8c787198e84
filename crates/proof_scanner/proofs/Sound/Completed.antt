-- Rows that are begun and completed: where a text begins, over a step, and where it ends.
use Rattle.proof_scanner.proofs.Known.Ways.{spelled_append}
use Rattle.proof_scanner.proofs.Common.{Account, Begins, BeginsButForKey, Bool, Completes, IsRead, IsRowFrom, IsWritten, Key, Leads, List, MayChoose, Option, Position, SoFar, Some, Step, Token, [], account_past, ap, append-nil, append_assoc, arith, beginnings_are_cuts, cut_past, false, first_account, first_position, is_separation, is_waiting, may_end, position_after, put, refl, spelled, stream_start, subst, sym, taken, tokens_at_end, tokens_from, tokens_of_step, true, up_to_nul, ℕ, ◌++◌, ◌∙◌, ◌∷◌, ◌≡◌}

-- ---- beginnings of rows

pub begins_at_start : (text : List ℕ) → Begins text (up_to_nul text) first_account
begins_at_start text = record { steps = []; spells = refl; leads = refl }

leads_past : (o : Option Account) (ws : List Step) (w : Step) (next : List ℕ) (a b : Account) → Leads o ws (w.separation ++ (w.piece ++ next)) a → IsWritten a w next → account_past a w next ≡ Some b → Leads o (ws ++ w ∷ []) next b
leads_past (Some x) (v ∷ ws) w next a b h written stands = grind (arith, spelled_append, leads_past (account_past x v (spelled ws (w.separation ++ (w.piece ++ next)))) ws w next a b h.1 written stands)
leads_past o ws w next a b h written stands = grind arith

-- over a step that may stand
pub begins_past : (text after : List ℕ) (a b : Account) (w : Step) (next : List ℕ) → after ≡ w.separation ++ (w.piece ++ next) → IsWritten a w next → account_past a w next ≡ Some b → Begins text after a → Begins text next b
begins_past text after a b w next cut written stands g =
    search (spelled_append g.steps (w ∷ []) next ∙ ap (λ x. spelled g.steps x) (sym cut) ∙ g.spells, leads_past (Some first_account) g.steps w next a b (subst (λ x. Leads (Some first_account) g.steps x a) cut g.leads) written stands)

-- over a step that may stand, but for the key
pub but_for_key_past : (text after : List ℕ) (begin : Position) (a b : Account) (w : Step) (next : List ℕ) → after ≡ w.separation ++ (w.piece ++ next) → IsWritten a w next → account_past a w next ≡ Some b → BeginsButForKey text after begin a → BeginsButForKey text next begin b
but_for_key_past text after begin a b w next cut written stands g =
    let begins = subst (λ x. Begins text x g.account) (ap (λ x. spelled g.steps x) cut ∙ sym (spelled_append g.steps (w ∷ []) next)) g.begins in
    let leads = leads_past (Some (record g.account { line = taken })) g.steps w next a b (subst (λ x. Leads (Some (record g.account { line = taken })) g.steps x a) cut g.leads) written stands in
    record { account = g.account; steps = g.steps ++ w ∷ []; begins = begins; is_inside = g.is_inside; line_is = g.line_is; must_be = g.must_be; leads = leads }

-- an open key that need not be one may be none
pub may_be_no_key : (strict : Bool) (k : Option Key) (p : Position) (rest : List ℕ) → MayChoose true false k p rest → MayChoose strict false k p rest
may_be_no_key a k p rest h = grind arith

-- ---- rows

-- where a text begins, after the stream's start
pub completed_at_start : (text : List ℕ) → Completes text (up_to_nul text) first_account (λ ws last. put first_position stream_start ∷ [])
unfolding begins_at_start
completed_at_start text = (begins_at_start text, λ ws last e. refl)

-- A step that may stand, after which the tokens of the row up to there are these.
pub completed_past : (text after : List ℕ) (a b : Account) (before past : List Step → List ℕ → List Token) (w : Step) (next : List ℕ) →
    after ≡ w.separation ++ (w.piece ++ next) → IsWritten a w next → account_past a w next ≡ Some b →
    ((ws : List Step) (last : List ℕ) → spelled ws last ≡ next → before (w ∷ ws) last ++ tokens_of_step a w ws last ≡ past ws last) →
    Completes text after a before → Completes text next b past
unfolding begins_past
completed_past text after a b before past w next cut written stands tokens h = (
  begins_past text after a b w next cut written stands h.0,
  λ ws last e. grind (arith, append_assoc, cut, stands, e, tokens ws last e, h.1 (w ∷ ws) last, append_assoc h.0.steps (w ∷ []) ws),
)

-- The same of tokens that are a cut alone, if no key begins to wait outside flow.
pub goes_past : (strict : Bool) (text after : List ℕ) (a b : Account) (before past : List Step → List ℕ → List Token) (w : Step) (next : List ℕ) →
    after ≡ w.separation ++ (w.piece ++ next) → IsWritten a w next → account_past a w next ≡ Some b → (strict ≡ false → is_waiting a.line ≡ false → is_waiting b.line ≡ false) →
    ((ws : List Step) (last : List ℕ) → spelled ws last ≡ next → before (w ∷ ws) last ++ tokens_of_step a w ws last ≡ past ws last) →
    SoFar strict text after a before → SoFar strict text next b past
goes_past true text after a b before past w next cut written stands idle tokens h = completed_past text after a b before past w next cut written stands tokens h
goes_past false text after a b before past w next cut written stands idle tokens h = grind (arith, cut_past)

-- where no key waits, the tokens of a row so far are a cut
pub goes_of : (strict : Bool) (text after : List ℕ) (a : Account) (ts : List Token) → may_end a ≡ true → is_waiting a.line ≡ false → Completes text after a (λ ws last. ts) → SoFar strict text after a (λ ws last. ts)
goes_of true text after a ts ends idle h = h
goes_of false text after a ts ends idle h = (
  idle,
  λ ws last e. beginnings_are_cuts text after a ts h.0 ends (ap (λ vs. put first_position stream_start ∷ tokens_from (Some first_account) vs after) (sym (append-nil h.0.steps)) ∙ h.1 [] after refl),
)

-- steps to an account at which the text may end are a row
row_of_steps : (o : Option Account) (ws : List Step) (last : List ℕ) (a : Account) → Leads o ws last a → is_separation false last [] ≡ true → may_end a ≡ true → IsRowFrom o ws last
row_of_steps (Some b) (w ∷ ws) last a h fills ends = (h.0, row_of_steps (account_past b w (spelled ws last)) ws last a h.1 fills ends)
row_of_steps o ws last a h fills ends = grind arith

-- where a text ends
pub completed_at_end : (text last : List ℕ) (a : Account) (before : List Step → List ℕ → List Token) → is_separation false last [] ≡ true → may_end a ≡ true →
    Completes text last a before → IsRead text (before [] last ++ tokens_at_end (position_after a.site.position last []) a.site.blocks a.entries)
completed_at_end text last a before fills ends h = (
  record { steps = h.0.steps; last = last },
  (h.0.spells, row_of_steps (Some first_account) h.0.steps last a h.0.leads fills ends),
  ap (λ ws. put first_position stream_start ∷ tokens_from (Some first_account) ws last) (sym (append-nil h.0.steps)) ∙ h.1 [] last refl,
)
