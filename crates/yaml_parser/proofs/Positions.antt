-- Events at their positions, one more.
use Rattle.yaml_parser.proofs.Common.{[], all_shown, ap, arith, behind, Ev, length, List, map, map-append, None, Option, Position, positions_of, Raw, raws_of, refl, shown, Some, stood, Token, ◌++◌, ◌+◌, ◌∙◌, ◌∷◌, ◌≡◌}
use Rattle.defs_token.specs.Token as defs

pub stood_over : (es fs : List Raw) (xs ys : List (Ev × Position)) → length es ≡ length xs → stood (es ++ fs) (xs ++ ys) ≡ stood es xs ++ stood fs ys
stood_over [] fs [] ys h = refl
stood_over (e ∷ es) fs (x ∷ xs) ys h = ap (λ l. (e, x.1) ∷ l) (stood_over es fs xs ys (omega (arith, h)))
stood_over _ fs _ ys h = absurd (omega (arith, h))

pub stood_raws : (es : List Raw) (xs : List (Ev × Position)) → length es ≡ length xs → raws_of (stood es xs) ≡ es
stood_raws [] xs h = refl
stood_raws (e ∷ es) [] h = absurd (omega (arith, h))
stood_raws (e ∷ es) (x ∷ xs) h = ap (λ l. e ∷ l) (stood_raws es xs (omega (arith, h)))

pub stood_positions : (es : List Raw) (xs : List (Ev × Position)) → length es ≡ length xs → map (λ (e : Raw × Position). e.1) (stood es xs) ≡ positions_of xs
stood_positions [] [] h = refl
stood_positions (e ∷ es) (x ∷ xs) h = ap (λ l. x.1 ∷ l) (stood_positions es xs (omega (arith, h)))
stood_positions _ _ h = absurd (omega (arith, h))

-- the token that was taken last
behind_last : (b : Option Position) (ts : List defs.Token) (t : defs.Token) → behind b (ts ++ t ∷ []) ≡ Some t.position
behind_last b [] t = refl
behind_last b (u ∷ ts) t = behind_last (Some u.position) ts t

pub behind_more : (ts : List Token) (t : Token) (us : List Token) → us ≡ ts ++ t ∷ [] → behind None (all_shown us) ≡ Some t.0
behind_more ts t us h = ap (λ l. behind None (all_shown l)) h ∙ ap (behind None) (map-append shown ts (t ∷ [])) ∙ behind_last None (all_shown ts) (shown t)
