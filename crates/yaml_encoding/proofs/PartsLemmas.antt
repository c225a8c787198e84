-- Lemmas about the parts of an input.
use Rattle.yaml_encoding.proofs.Common.{[], add-zero, ap, arith, big, drop, Encoding, front, length, List, little, None, Option, part_of, parts_from, pred, Range, reading, refl, Sequence, sequence_by, sequence_from, Some, Start, start_of, suc, utf_16_big, utf_16_little, utf_16_sequence, utf_8, zero, ℕ, ◌*◌, ◌+◌, ◌-◌, ◌<◌, ◌∙◌, ◌∷◌, ◌≡◌, ◌≤◌}

-- a sequence takes some bytes, and no more than there are
abbrev Takes : Sequence → List ℕ → Type 0
Takes s r = (1 ≤ s.bytes) × (s.bytes ≤ suc (length r))

trails_take : (n bits : ℕ) (ranges : List Range) (r : List ℕ) → 1 ≤ n → (1 ≤ (sequence_from n bits ranges r).bytes) × ((sequence_from n bits ranges r).bytes ≤ n + length r)
trails_take n bits [] r some = (some, omega arith)
trails_take n bits (range ∷ ranges) [] some = (some, omega arith)
trails_take n bits (range ∷ ranges) (b ∷ r) some =
    let h = trails_take (suc n) (bits * 64 + (b - 0x80)) ranges r (omega arith) in (grind arith, grind arith)

utf_8_takes : (s : Option Start) (r : List ℕ) → Takes (sequence_by s r) r
utf_8_takes None r = (omega arith, omega arith)
utf_8_takes (Some s) r = let h = trails_take 1 (s.bits) (s.after) r (omega arith) in (h.0, omega arith)

utf_16_takes : (unit : ℕ → ℕ → ℕ) (a : ℕ) (r : List ℕ) → Takes (utf_16_sequence unit a r) r
utf_16_takes unit a [] = (omega arith, omega arith)
utf_16_takes unit a (b ∷ []) = (grind arith, grind arith)
utf_16_takes unit a (b ∷ c ∷ []) = (grind arith, grind arith)
utf_16_takes unit a (b ∷ c ∷ d ∷ r) = (grind arith, grind arith)

reading_takes : (e : Encoding) (b : ℕ) (r : List ℕ) → Takes (reading e b r) r
reading_takes utf_8 b r = utf_8_takes (start_of b) r
reading_takes utf_16_little b r = utf_16_takes little b r
reading_takes utf_16_big b r = utf_16_takes big b r

-- bytes that belong to the part before
parts_from-after : (at : ℕ → List ℕ → Sequence) (n position : ℕ) (r : List ℕ) → n ≤ length r → parts_from at n position r ≡ parts_from at 0 (position + n) (drop n r)
parts_from-after at zero position [] h = refl
parts_from-after at zero position (b ∷ r) h = rw (add-zero position) refl
parts_from-after at (suc n) position [] h = absurd (omega arith)
parts_from-after at (suc n) position (b ∷ r) h =
    let p : suc position + n ≡ position + suc n = omega arith in
    parts_from-after at n (suc position) r (omega arith) ∙ ap (λ x. parts_from at 0 x (drop n r)) p

-- the first part, and those after it
parts_from-first : (e : Encoding) (position b : ℕ) (r : List ℕ) → parts_from (reading e) 0 position (b ∷ r)
    ≡ part_of position (b ∷ r) (reading e b r) ∷ parts_from (reading e) 0 (position + (reading e b r).bytes) (drop ((reading e b r).bytes) (b ∷ r))
parts_from-first e position b r = first ((reading e b r).bytes) (reading_takes e b r)
  where
    first : (n : ℕ) → (1 ≤ n) × (n ≤ suc (length r)) → part_of position (b ∷ r) (reading e b r) ∷ parts_from (reading e) (pred n) (suc position) r
        ≡ part_of position (b ∷ r) (reading e b r) ∷ parts_from (reading e) 0 (position + n) (drop n (b ∷ r))
    first zero h = absurd (omega arith)
    first (suc n) h =
        let p : suc position + n ≡ position + suc n = omega arith in
        ap (λ ps. part_of position (b ∷ r) (reading e b r) ∷ ps) (parts_from-after (reading e) n (suc position) r (omega arith) ∙ ap (λ x. parts_from (reading e) 0 x (drop n r)) p)

pub parts_from-front : (e : Encoding) (position : ℕ) (input : List ℕ) (s : Sequence) → 0 < length input → s ≡ front (reading e) input
    → parts_from (reading e) 0 position input ≡ part_of position input s ∷ parts_from (reading e) 0 (position + s.bytes) (drop (s.bytes) input)
parts_from-front e position [] s some eq = absurd (omega arith)
parts_from-front e position (b ∷ r) s some eq = rw eq (parts_from-first e position b r)

pub front-bytes : (e : Encoding) (input : List ℕ) (s : Sequence) → 0 < length input → s ≡ front (reading e) input → (1 ≤ s.bytes) × (s.bytes ≤ length input)
front-bytes e [] s some eq = absurd (omega arith)
front-bytes e (b ∷ r) s some eq = rw eq (reading_takes e b r)
