-- Like accounts stay like over a step with the same text; and where they are equal after it, they were, and so were the steps.
use Rattle.proof_row.proofs.Common.{[], account_past, act_of, begins_free_line, begun_by, Bool, Entry, have_no_key, is_in_flow, is_renewed, Line, List, may_end, may_stand, on_one_line, Option, past_inside, past_piece, refl, Site, site_at, Some, Step, Tok, true, ℕ, ◌∷◌, ◌≡◌, arith}
use Rattle.defs_token.specs.RowAccount.{Account}
use Rattle.proof_row.proofs.Like.{LikeLine, LikeEntries, IsLike, Stepped, weaker, where_both, both, same_entry}
use Rattle.proof_row.proofs.RowLines.{separation_step}
use Rattle.proof_row.proofs.Entries.{entries_step}
use Rattle.std.proofs.lemmas.Bool.{and_parts}

-- ---- after a piece

inside_step : (s : Site) (p : List ℕ) (t : Tok) (next : List ℕ) (l m : Line) (Were : Type 0) (x y : Option (List Entry)) → LikeLine l m → Stepped LikeEntries Were x y →
    Stepped IsLike ((l ≡ m) × Were) (past_inside s p t next l x) (past_inside s p t next m y)
inside_step s p t next l m a b y i h = grind arith

piece_step : (s : Site) (p : List ℕ) (t : Tok) (next : List ℕ) (again b c : Bool) (Were : Type 0) (x y : Option Line) (ds es : List Entry) →
    LikeEntries ds es → Stepped LikeLine Were x y →
    Stepped IsLike (Were × (ds ≡ es) × (b ≡ c)) (past_piece s p t next again b x ds) (past_piece s p t next again c y es)
piece_step s p t next again b c Were (Some l) (Some m) [] [] j h = grind (arith, weaker)
piece_step s p t next again b c Were (Some l) (Some m) (d ∷ ds) (e ∷ es) j h =
    weaker IsLike ((l ≡ m) × ((d ∷ ds ≡ e ∷ es) × (b ≡ c))) (Were × (d ∷ ds ≡ e ∷ es) × (b ≡ c)) _ _ (λ k. (h.1 k.0, k.1.0, k.1.1))
    (inside_step s p t next l m ((d ∷ ds ≡ e ∷ es) × (b ≡ c)) _ _ h.0 (entries_step (act_of t) s.position again (begun_by t) b c d e ds es j.0 j.1))
piece_step s p t next again b c Were x y ds es j h = grind arith

on_one_line_step : (p : List ℕ) (Were : Type 0) (x y : Option Account) → Stepped IsLike Were x y → Stepped IsLike Were (on_one_line p x) (on_one_line p y)
on_one_line_step p d e y h = grind arith

-- ---- a step

pub same_flow : (ds es : List Entry) → LikeEntries ds es → is_in_flow ds ≡ is_in_flow es
same_flow a b j = grind arith

-- Two like accounts are like again after steps with the same text, and where they are equal then, they were, and so were the steps.
pub account_step : (a b : Account) (w v : Step) (x y : List ℕ) → IsLike a b → w.separation ≡ v.separation → w.piece ≡ v.piece → w.shown ≡ v.shown → x ≡ y →
    Stepped IsLike ((a ≡ b) × (w ≡ v)) (account_past a w x) (account_past b v y)
account_step a b w v x y i f p t n =
    let Were : Type 0 = (a.line ≡ b.line) × (a.entries ≡ b.entries) × (w.key ≡ v.key) in
    let at : Site = site_at (is_in_flow a.entries) a.site w.separation w.piece w.shown x in
    weaker IsLike Were ((a ≡ b) × (w ≡ v)) (account_past a w x) (account_past b v y) (λ h. (grind arith, grind arith))
    (rw (← f, ← p, ← t, ← n, ← i.0, ← same_flow a.entries b.entries i.2) (where_both IsLike Were (may_stand (is_in_flow a.entries) a.site at w.separation w.piece w.shown x) _ _
    (on_one_line_step w.piece Were _ _
    (piece_step at w.piece w.shown x (is_renewed a.site.before w.separation) w.key v.key (a.line ≡ b.line) _ _ a.entries b.entries i.2 (separation_step (is_in_flow a.entries) (begins_free_line a.site.before w.separation) a.line b.line i.1)))))

-- ---- the text's end

same_entries : (ds es : List Entry) → LikeEntries ds es → have_no_key ds ≡ true → have_no_key es ≡ true → ds ≡ es
same_entries [] [] i h k = refl
same_entries (d ∷ ds) (e ∷ es) i h k = grind (arith, and_parts, both, same_entry, same_entries ds es i.1)
same_entries ds es i h k = absurd i

-- Like accounts at which a text may end are equal.
pub same_at_end : (a b : Account) → IsLike a b → may_end a ≡ true → may_end b ≡ true → a ≡ b
same_at_end a b i h k = grind (arith, and_parts, same_entries)
