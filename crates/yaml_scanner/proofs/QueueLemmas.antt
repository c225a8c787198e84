-- Lemmas about the queue of tokens.
use Rattle.yaml_scanner.proofs.Common.{[], ap, append-nil, append_assoc, arith, drop, end_at, has_end, insert, is_end, length, length-append, length-map, List, map, map-append, Position, refl, sym, take, take-append-drop, take-append_seam, take_all, true, ℕ, ◌++◌, ◌+◌, ◌-◌, ◌||◌, ◌∙◌, ◌∷◌, ◌≡◌, ◌≤◌}
use Rattle.std.proofs.lemmas.List.{append_cancel_left, nil_from_length, take-map, drop-map, drop_all}
use Rattle.std.proofs.lemmas.List.Edits.{insert-append_right}
use Rattle.yaml_tokens.specs.declared.token.Token.{Token}
use Rattle.yaml_tokens.specs.Shown.{shown, tok_of}
use Rattle.defs_token.specs.Token as seen

pub waiting_len : (g w : List Token) → length g + length w ≡ length (map shown g ++ map shown w)
waiting_len g w = simp (length-append, length-map) refl

pub push_shown : (g w v : List Token) (t : Token) → v ≡ w ++ t ∷ [] → map shown g ++ map shown v ≡ (map shown g ++ map shown w) ++ shown t ∷ []
push_shown g w v t e = rw (e, map-append shown w (t ∷ [])) (sym (append_assoc (map shown g) (map shown w) (shown t ∷ [])))

pub one_shown : (g h : List Token) (t : Token) → h ≡ g ++ t ∷ [] → map shown h ≡ map shown g ++ shown t ∷ []
one_shown g h t e = rw (e, map-append shown g (t ∷ [])) refl

map_insert : (w : List Token) (i : ℕ) (t : Token) → map shown (insert w i t) ≡ insert (map shown w) i (shown t)
map_insert w i t = rw (take-map shown i w, drop-map shown i w) (map-append shown (take i w) (t ∷ drop i w))

pub insert_shown : (g w v : List Token) (i : ℕ) (t : Token) → v ≡ insert w i t → map shown g ++ map shown v ≡ insert (map shown g ++ map shown w) (length g + i) (shown t)
insert_shown g w v i t e = rw (e, map_insert w i t) (ap (λ x. map shown g ++ insert (map shown w) x (shown t)) (let same : i ≡ length g + i - length g = omega arith in same) ∙ sym (insert-append_right (map shown g) (map shown w) (length g) (length g + i) (shown t) (length-map g shown) (omega arith)))

pub give_shown : (g h w v : List Token) (t : Token) → w ≡ t ∷ v → h ≡ g ++ t ∷ [] → map shown h ++ map shown v ≡ map shown g ++ map shown w
give_shown g h w v t e f = rw (e, f, map-append shown g (t ∷ [])) (append_assoc (map shown g) (shown t ∷ []) (map shown v))

pub give_len : (g h : List Token) (t : Token) → h ≡ g ++ t ∷ [] → length h ≡ length g + 1
give_len g h t e = rw e (simp length-append refl)

pub has_end_append : (ts us : List seen.Token) → has_end (ts ++ us) ≡ has_end ts || has_end us
has_end_append [] us = refl
has_end_append (t ∷ ts) us = let rest = has_end_append ts us in grind arith

-- the end still waits after a push
pub push_keeps : (w v : List Token) (t : Token) → v ≡ w ++ t ∷ [] → has_end (map shown w) ≡ true → has_end (map shown v) ≡ true
push_keeps w v t e h = rw (e, map-append shown w (t ∷ []), has_end_append (map shown w) (map shown (t ∷ [])), h) refl

-- and after an insertion
pub insert_keeps : (w v : List Token) (i : ℕ) (t : Token) → v ≡ insert w i t → has_end (map shown w) ≡ true → has_end (map shown v) ≡ true
insert_keeps w v i t e h =
    let parts = rw (← take-append-drop i w, map-append shown (take i w) (drop i w), has_end_append (map shown (take i w)) (map shown (drop i w))) at h in
    rw (e, map-append shown (take i w) (t ∷ drop i w), has_end_append (map shown (take i w)) (map shown (t ∷ drop i w))) (grind (arith, parts))

-- the end waits once it was pushed
pub end_waits : (w v : List Token) (t : Token) (p : Position) → shown t ≡ end_at p → v ≡ w ++ t ∷ [] → has_end (map shown v) ≡ true
end_waits w v t p end e =
    let last : is_end (tok_of t.1) ≡ true = ap (λ (s : seen.Token). is_end s.tok) end in
    rw (e, map-append shown w (t ∷ []), has_end_append (map shown w) (map shown (t ∷ [])), last) (grind arith)

-- a token after all, at a position after all
pub past_shown : (g w v : List Token) (i : ℕ) (t : Token) → v ≡ w ++ t ∷ [] → length w ≤ i → map shown g ++ map shown v ≡ insert (map shown g ++ map shown w) (length g + i) (shown t)
past_shown g w v i t e h = let past : insert w i t ≡ w ++ t ∷ [] = rw (take_all i w h, drop_all i w h) refl in insert_shown g w v i t (e ∙ sym past)

-- a token before all, and how many wait before it
pub front_shown : (g w v : List Token) (i : ℕ) (t : Token) → v ≡ t ∷ w → i ≡ 0 → map shown g ++ map shown v ≡ insert (map shown g ++ map shown w) (length g + i) (shown t)
front_shown g w v i t e z = rw z (insert_shown g w v 0 t e)

pub front_keeps : (w v : List Token) (t : Token) → v ≡ t ∷ w → has_end (map shown w) ≡ true → has_end (map shown v) ≡ true
front_keeps w v t e h = insert_keeps w v 0 t e h

-- ---- two tokens are handed out at once

pub key_shown : (g k s w v : List Token) (t u : Token) (x : seen.Token) → length w ≡ 0 → k ≡ g ++ t ∷ [] → map shown s ≡ map shown k ++ x ∷ [] → v ≡ w ++ u ∷ []
    → map shown s ++ map shown v ≡ (map shown g ++ map shown w) ++ shown t ∷ x ∷ shown u ∷ []
key_shown g k s w v t u x n e f h = rw (h, f, e, nil_from_length w n, map-append shown g (t ∷ [])) (simp (append_assoc, append-nil) refl)

pub value_shown : (g k s w v : List Token) (t : Token) (x : seen.Token) → w ≡ t ∷ v → length v ≡ 0 → k ≡ g ++ t ∷ [] → map shown s ≡ map shown k ++ x ∷ []
    → map shown s ++ map shown v ≡ (map shown g ++ map shown w) ++ x ∷ []
value_shown g k s w v t x e n f h = rw (h, f, e, nil_from_length v n, map-append shown g (t ∷ [])) (simp (append_assoc, append-nil) refl)

pub two_more : (g k s : List Token) (t : Token) → k ≡ g ++ t ∷ [] → length s ≡ length k + 1 → length s ≡ length g + 2
two_more g k s t e f = let one = give_len g k t e in omega (arith, one, f)

take_given : (g w : List Token) → take (length g) (map shown g ++ map shown w) ≡ map shown g
take_given g w = rw (← length-map g shown) (take-append_seam (map shown g) (map shown w))

-- a token alone waits
pub alone_shown : (g w : List Token) (t : Token) → w ≡ t ∷ [] → map shown g ++ map shown w ≡ take (length g) (map shown g ++ map shown w) ++ shown t ∷ []
alone_shown g w t e = rw (take_given g w, e) refl

pub waits_alone : (g w : List Token) (x : seen.Token) → map shown g ++ map shown w ≡ take (length g) (map shown g ++ map shown w) ++ x ∷ [] → map shown w ≡ x ∷ []
waits_alone g w x e = append_cancel_left (map shown g) (map shown w) (x ∷ []) (e ∙ ap (λ xs. xs ++ x ∷ []) (take_given g w))
