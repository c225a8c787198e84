-- Keys that are too far back are dropped: what holds between two fetches still holds, without them.
use Rattle.proof_scanner.proofs.Common.{[], Account, ap, append_assoc, AreEntries, arith, Arrives, Bool, drop_stale, either, Entry, false, first_position, FlowLevel, Held, Holds, in_flow, is_empty, is_far, is_renewed, IsCarriedOn, IsCutUpTo, IsNear, IsPositionIn, Key, length, List, MayChoose, None, not-false, Option, Position, position_after, position_append, refl, refused, ScannerState, SoFar, Some, stale, Stands, StandsWith, subst, suc, sym, Token, true, up_to_nul, went, ℕ, ◌++◌, ◌∙◌, ◌∷◌, ◌≡◌}
use Rattle.proof_scanner.proofs.Known.Steps.{known_far}
use Rattle.proof_scanner.proofs.Sound.Common.{may_be_no_key, stands_by, with_entries, row_position, spelled_before, entries_no_key, none_completes}
use Rattle.defs_token.specs.Account.{first_account}
use Rattle.defs_token.specs.Cut.{spelled}

-- outside flow there is one open key or none, and no entry
pub no_entries : (allowed again : Bool) (fs : List FlowLevel) (ks : List (Option Key)) (es : List Entry) → is_empty fs ≡ true → AreEntries allowed again fs ks es → es ≡ []
no_entries allowed again a ks es o b = grind arith

pub one_key : (ks : List (Option Key)) (fs : List FlowLevel) → length ks ≡ suc (length fs) → is_empty fs ≡ true → (k : Option Key) × (ks ≡ k ∷ [])
one_key (k ∷ []) fs n o = (k, refl)
one_key ks fs n o = absurd (grind arith)

-- The open key outside flow is dropped, if it need not be one.
pub key_dropped : (text : List ℕ) (u : ScannerState) → (s : Stands text u) → is_empty u.held.flow ≡ true → (k : Key) → u.held.keys ≡ Some k ∷ [] → is_far k.position u.held.position ≡ true → k.required ≡ false → Stands text (record u { held = record u.held { keys = None ∷ [] } })
key_dropped text u s out k only far free = by u.held.flow u.held.keys s.base.entries refl only out s.known
  where
    by : (fs : List FlowLevel) (ks : List (Option Key)) (es : List Entry) → u.held.flow ≡ fs → ks ≡ Some k ∷ [] → is_empty fs ≡ true → StandsWith text u fs ks (with_entries s.base.site s.base.line es) →
        Stands text (record u { held = record u.held { keys = None ∷ [] } })
    by [] ks [] p q o w =
        let base : Account = with_entries s.base.site s.base.line [] in
        let v : StandsWith text u [] (Some k ∷ []) base = subst (λ x. StandsWith text u [] x base) q w in
        let carries : IsCarriedOn text (v.separation ++ u.rest) u.rest (None ∷ []) base = λ cs x key m inside some. absurd (cc inside) in
        let completes : (strict c : Bool) (cs : List Bool) → MayChoose strict c None u.held.position u.rest → SoFar strict text (v.separation ++ u.rest) base (λ ws last. u.held.tokens) =
        λ strict c cs may. none_completes strict text (v.separation ++ u.rest) base (Some k ∷ []) u.held.tokens v.no_key refl (v.completes strict false [] (may_be_no_key strict (Some k) u.held.position u.rest free)) in
        stands_by text _ [] (None ∷ []) base p refl
        (search (v.is_filled, v, carries, completes, known_far text (v.separation ++ u.rest) u.held.position k far v.knows, v.line_is.0, v.line_is.1))
    by fs ks es p q o w = absurd (let a = w.are_entries in grind arith)

-- ---- the step

-- Outside flow the open key is near.
pub record Nearer (text : List ℕ) (u : ScannerState) (h : Held) : Type 0 where
  pub stands : Stands text (record u { held = h })
  pub same : h ≡ record u.held { keys = h.keys }
  pub near : is_empty u.held.flow ≡ true → (k : Option Key) × (h.keys ≡ k ∷ []) × IsNear k u.held.position

pub stale_stands : (text : List ℕ) (u : ScannerState) → Stands text u → Holds (Nearer text u) (stale u.held)
unfolding stale drop_stale is_far
stale_stands text u s = grind (arith, either, went, not-false, one_key, key_dropped, refused)

-- The stale keys of a fetch are dropped.
pub keys_only : (s : Held) → Holds (λ h. h ≡ record s { keys = h.keys }) (stale s)
unfolding stale
keys_only s = either (in_flow s) (λ _. went refl) (λ _. (grind (arith, went, refused)))

-- ---- the tokens so far are a cut of the text up to the last piece, and the position is that after the text that was passed

-- between two fetches
pub stands_cut : (text : List ℕ) (t : ScannerState) → (s : Stands text t) → IsCutUpTo text (s.separation ++ t.rest) s.base t.held.tokens
stands_cut text t s =
    (none_completes false text (s.separation ++ t.rest) s.base t.held.keys t.held.tokens s.no_key (entries_no_key t.held.key_allowed (is_renewed s.base.site.before s.separation) t.held.flow t.held.keys s.base.entries s.are_entries)
    (s.completes false false [] (grind arith))).1 [] (s.separation ++ t.rest) refl

-- where a piece begins, or at the text's end
pub arrives_cut : (text : List ℕ) (t : ScannerState) → (a : Arrives text t) → IsCutUpTo text (a.separation ++ t.rest) a.base a.tokens
arrives_cut text t a =
    (none_completes false text (a.separation ++ t.rest) a.base t.held.keys a.tokens a.no_key (entries_no_key t.held.key_allowed (is_renewed a.base.site.before a.separation) t.held.flow t.held.keys a.base.entries a.are_entries)
    (a.completes false false [] (grind arith))).1 [] (a.separation ++ t.rest) refl

-- the position after a separation that was read after a cut
pub cut_position : (text separation rest : List ℕ) (a : Account) (ts : List Token) (p : Position) → up_to_nul text ≡ text → p ≡ position_after a.site.position separation rest → IsCutUpTo text (separation ++ rest) a ts → IsPositionIn text rest p
cut_position text separation rest a ts p whole e c = search (
  sym whole ∙ sym c.is_text ∙ spelled_before c.row (separation ++ rest) ∙ sym (append_assoc (spelled c.row []) separation rest),
  e ∙ ap (λ q. position_after q separation rest) (sym (ap (λ b. b.position) c.is_row.past) ∙ row_position first_account c.row (separation ++ rest)) ∙ sym (position_append first_position (spelled c.row []) separation rest),
)
