-- Like entries stay like over a piece in flow.
use Rattle.proof_row.proofs.Common.{Act, Bool, entries_past, Entry, entry_past, FlowKind, gives_closing, gives_comma, Had, List, Option, Pair, pair_past, Position, takes_pair, with_had, ◌∷◌, ◌≡◌, arith}
use Rattle.proof_row.proofs.Like.{LikeHad, LikeEntry, LikeEntries, Stepped, weaker, tails, both, like_after, same_after, same_entry}

-- ---- an entry that goes on

with_had_step : (kind : FlowKind) (pair : Pair) (begun ds es : List Entry) (Were : Type 0) (x y : Option Had) → LikeEntries ds es → Stepped LikeHad Were x y →
    Stepped LikeEntries (Were × (ds ≡ es)) (with_had kind pair begun ds x) (with_had kind pair begun es y)
with_had_step kind pair begun ds es a b y j t = grind (arith, like_after, tails, same_after)

goes_on : (k : Act) (here : Position) (again : Bool) (begun : List Entry) (b c : Bool) (d e : Entry) (ds es : List Entry) → LikeEntry d e → LikeEntries ds es →
    Stepped LikeEntries ((d ∷ ds ≡ e ∷ es) × (b ≡ c)) (entry_past here again k begun b d ds) (entry_past here again k begun c e es)
goes_on k here again begun b c d e ds es i j =
    let Were : Type 0 = ((d.had ≡ e.had) × (b ≡ c)) × (ds ≡ es) in
    weaker LikeEntries Were ((d ∷ ds ≡ e ∷ es) × (b ≡ c)) _ _ (λ h. (both d e ds es (same_entry d e i.0 i.1 h.0.0) h.1, h.0.1))
    (rw (← i.0, ← i.1) (with_had_step d.kind (pair_past (takes_pair d.kind d.pair) k d.pair) begun ds es ((d.had ≡ e.had) × (b ≡ c)) _ _ j (grind arith)))

-- Like entries are like again after a piece in flow.
pub entries_step : (k : Act) (here : Position) (again : Bool) (begun : List Entry) (b c : Bool) (d e : Entry) (ds es : List Entry) → LikeEntry d e → LikeEntries ds es →
    Stepped LikeEntries ((d ∷ ds ≡ e ∷ es) × (b ≡ c)) (entries_past here again k begun b d ds) (entries_past here again k begun c e es)
entries_step gives_closing here again begun b c d e ds es i j = grind (arith, weaker, both, same_entry)
entries_step gives_comma here again begun b c d e ds es i j = grind (arith, weaker, both, same_entry, tails)
entries_step k here again begun b c d e ds es i j = goes_on k here again begun b c d e ds es i j
