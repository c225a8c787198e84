-- What is left to write of levels, the innermost first.
use Rattle.yaml_json.proofs.Common.{[], add-one, ap, append-nil, append_assoc, ArePartsGiven, arith, Bool, closing, codes, deeper, depth, Ends, false, get_or, is_block, IsGiven, IsLeft, IsOnlyItem, IsTooWide, json_text, left_after, left_all, left_as, left_none, left_stopped, left_then, length, length-set, Level, List, max, mul-le-mul_left, nest_end, nesting, new_line, opening, Opens, Option, part_nodes, parts_left, refl, set, shallower, Stopped, stopped_at, stopped_early, stopped_for, Stops, suc, sym, Tree, tree_left, true, unwrap_or, Wrote, zero, ℕ, ◌*◌, ◌++◌, ◌+◌, ◌-◌, ◌<◌, ◌^◌, ◌∙◌, ◌∷◌, ◌≡◌, ◌≢◌, ◌≤◌}
use Rattle.yaml_json.proofs.LeftLemmas.{in_brackets, one_less, one_more, part_count, part_wide, passed_to, reach, so_many, trees, waiting, weight}

-- the text that is left: parts of the innermost level, its end, and what is left of the levels around it
abbrev pub levels_left : (first : Bool) → Option ℕ → ℕ → List Tree → List ℕ
levels_left first i m [] = []
levels_left first i m (t ∷ ts) = parts_left first i m t ++ ((new_line i (shallower i m) ++ closing t) ++ levels_left false i (shallower i m) ts)

abbrev pub AllGiven : List Tree → Type 0
AllGiven [] = Unit {0}
AllGiven (t ∷ ts) = ArePartsGiven t × AllGiven ts

-- how the writer stands in the innermost level
pub record Stands {W : Type 0} (gives : W → List ℕ → W → Type 0) (i : Option ℕ) (w : W) (root : Tree) (v : W) (first : Bool) (m : ℕ) (ts : List Tree) : Type 0 where
  pub left : IsLeft gives w (json_text i 0 root) v (levels_left first i m ts)
  pub margin : m ≡ unwrap_or i 0 * length ts
  pub no_higher : reach ts ≤ nesting root
  pub given : AllGiven ts → IsGiven root

-- a level in a part
in_part : (i : Option ℕ) (m inner : ℕ) (t : Tree) (ts : List Tree) → is_block t ≡ true → inner ≡ deeper i m
    → json_text i m t ++ levels_left false i m ts ≡ opening t ++ levels_left true i inner (t ∷ ts)
in_part i m inner t ts b e =
    let up : shallower i inner ≡ m = omega (arith, e) in
    rw (up, ← in_brackets i m inner t e b) (simp append_assoc)

-- a beginning of what is left was written in part
left_within : {W : Type 0} {gives : W → List ℕ → W → Type 0} {w v a : W} {text x more : List ℕ} (rest : List ℕ) → IsLeft gives w text v (x ++ rest) → IsLeft gives v x a more
    → IsLeft gives w text a (more ++ rest)
left_within {more = more} rest p q =
    left_then p (record { written = q.written; wrote = q.wrote; whole = cc (append_assoc q.written more rest) })

-- A part that has parts stands next, and behind it what is left of these levels.
pub record IsBefore {W : Type 0} (gives : W → List ℕ → W → Type 0) (i : Option ℕ) (w : W) (root : Tree) (v : W) (m : ℕ) (part : Tree)
    (ts : List Tree) : Type 0 where
  pub left : IsLeft gives w (json_text i 0 root) v (json_text i m part ++ levels_left false i m ts)
  pub has_parts : is_block part ≡ true
  pub margin : m ≡ unwrap_or i 0 * length ts
  pub no_higher : max (length ts + nesting part) (reach ts) ≤ nesting root
  pub given : IsGiven part → AllGiven ts → IsGiven root

-- the root, where nothing was written
pub root_next : {W : Type 0} {gives : W → List ℕ → W → Type 0} {i : Option ℕ} {w : W} (root : Tree) → is_block root ≡ true
    → IsBefore gives i w root w 0 root []
root_next root b = record {
  left = left_as (sym (append-nil _)) left_all;
  has_parts = b;
  margin = omega arith;
  no_higher = omega arith;
  given = λ g gs. g;
}

module _ {W : Type 0} {gives : W → List ℕ → W → Type 0} {i : Option ℕ} {w v : W} {root part : Tree} {m : ℕ} {ts : List Tree}
    (h : IsBefore gives i w root v m part ts) where
  -- its bracket was written
  pub stands_in : {b : W} {inner : ℕ} → (ArePartsGiven part → IsGiven part) → inner ≡ deeper i m → Wrote gives v (opening part) b
      → Stands gives i w root b true inner (part ∷ ts)
  stands_in g c p = record {
    left = left_after (left_as (in_part i m _ part ts h.has_parts c) h.left) p;
    margin = omega (arith, c, h.margin);
    no_higher = omega (arith, part_wide part h.has_parts, h.no_higher);
    given = λ gs. h.given (g gs.0) gs.1;
  }

  -- or refused
  pub opening_stopped : {leaves : W → List ℕ → W → Type 0} {b : W} → Stopped gives leaves (2 ^ 64 ≤ deeper i m) v (opening part) b
      → Stopped gives leaves (IsTooWide i 0 (nesting root)) w (json_text i 0 root) b
  opening_stopped q = left_stopped (left_as (in_part i m _ part ts h.has_parts refl) h.left) (stopped_early _ (stopped_for too_wide q))
    where
      too_wide : 2 ^ 64 ≤ deeper i m → IsTooWide i 0 (nesting root)
      too_wide wide =
          let levels : suc (length ts) ≤ nesting root = omega (arith, part_wide part h.has_parts, h.no_higher) in
          let more = mul-le-mul_left (unwrap_or i 0) levels in
          omega (arith, wide, h.margin, more)

module _ {W : Type 0} {gives : W → List ℕ → W → Type 0} {i : Option ℕ} {w v : W} {root t : Tree} {first : Bool} {m : ℕ} {ts : List Tree} (h : Stands gives i w root v first m (t ∷ ts)) where
  pub part_next : {a : W} {part u : Tree} → Stops gives i m v first t a part u → IsBefore gives i w root a m part (u ∷ ts)
  part_next {part = part} {u} s =
      let end = (new_line i (shallower i m) ++ closing t) ++ levels_left false i (shallower i m) ts in
      record {
        left = rw s.same (left_as (append_assoc (json_text i m part) (parts_left false i m u) end) (left_within end h.left s.left));
        has_parts = s.has_parts;
        margin = h.margin;
        no_higher = omega (arith, s.no_higher, h.no_higher);
        given = λ g gs. h.given (s.given g gs.0, gs.1);
      }

  -- the level's end was written
  pub stands_out : {a b : W} {outer : ℕ} → Ends gives i m v first t a → outer ≡ shallower i m
      → Wrote gives a (new_line i (shallower i m) ++ closing t) b → Stands gives i w root b false outer ts
  stands_out s c p = rw c (record {
    left = left_after (left_after h.left s.wrote) p;
    margin = omega (arith, h.margin);
    no_higher = omega (arith, h.no_higher);
    given = λ gs. h.given (s.given, gs);
  })

-- ---- levels that wait in places

-- how the writer stands, where so many levels wait in the first places
pub record Holds {W : Type 0} (gives : W → List ℕ → W → Type 0) (i : Option ℕ) (w : W) (root : Tree) (v : W) (first : Bool) (m : ℕ)
    (l : Level) (n : ℕ) (places : List Level) : Type 0 where
  pub stands : Stands gives i w root v first m (trees (l ∷ waiting n places))
  pub within : n ≤ length places

module _ {W : Type 0} {gives : W → List ℕ → W → Type 0} {i : Option ℕ} {w v : W} {root : Tree} {first : Bool} {m : ℕ} {l : Level} {n : ℕ}
    {places : List Level}
    (h : Holds gives i w root v first m l n places) where
  -- the level waits, while the part is written
  module _ {a : W} {part : Tree} (p : ℕ) (s : Stops gives i m v first (tree_left l) a part (tree_left (passed_to l p)))
      (room : nesting root ≤ length places + 1) where
    pub place : n < length places
    place = omega (arith, (part_next h.stands s).no_higher, part_wide part s.has_parts, so_many places n h.within, room)

    pub opened : {b : W} {inner : ℕ} (o : Level) → tree_left o ≡ part → (ArePartsGiven part → IsGiven part) → inner ≡ deeper i m → Wrote gives a (opening (tree_left o)) b
        → Holds gives i w root b true inner o (n + 1) (set places n (passed_to l p))
    opened o e g c wrote = record {
      stands = rw (one_more places n (passed_to l p) place, e) (stands_in (part_next h.stands s) g c (rw e at wrote));
      within = omega (arith, place, length-set places n (passed_to l p));
    }

    pub opened_smaller : (o : Level) → tree_left o ≡ part
        → weight (trees (o ∷ waiting (n + 1) (set places n (passed_to l p)))) < weight (trees (l ∷ waiting n places))
    opened_smaller o e = rw (one_more places n (passed_to l p) place) (omega (arith, s.fewer, part_count part s.has_parts, ap part_nodes e))

  -- the level was written, and goes on with the one around it
  module _ (o : Level) (some : n ≢ 0) (is : o ≡ get_or places (n - 1) o) where
    pub resumed : {a b : W} {outer : ℕ} → Ends gives i m v first (tree_left l) a → outer ≡ shallower i m → Wrote gives a (new_line i (shallower i m) ++ closing (tree_left l)) b
        → Holds gives i w root b false outer o (n - 1) places
    resumed s c p =
        record { stands = rw (← one_less places n o h.within some is) (stands_out h.stands s c p); within = omega (arith, h.within) }

    pub resumed_smaller : weight (trees (o ∷ waiting (n - 1) places)) < weight (trees (l ∷ waiting n places))
    resumed_smaller = omega (arith, ap weight (one_less places n o h.within some is))

  -- it was the outermost
  pub finished : {a b : W} → n ≡ 0 → Ends gives i m v first (tree_left l) a
      → Wrote gives a (new_line i (shallower i m) ++ closing (tree_left l)) b → Wrote gives w (json_text i 0 root) b × IsGiven root
  finished none s p = let out = rw none at (stands_out h.stands s refl p) in (left_none out.left, out.given tt)

-- ---- arrays of one item each, one within the other

up : (i : Option ℕ) (m : ℕ) → shallower i (deeper i m) ≡ m
up i m = omega arith

-- one array more
pub next_level : (i : Option ℕ) (m inner n : ℕ) (t s : Tree) → inner ≡ deeper i m → IsOnlyItem t s
    → json_text i m s ++ nest_end i m n ≡ codes "[" ++ (new_line i inner ++ (json_text i inner t ++ nest_end i inner (n + 1)))
next_level i m inner n t s e o = rw (o, e, add-one) (simp (up, append_assoc))

only_nesting : (t s : Tree) → IsOnlyItem t s → nesting s ≡ suc (nesting t)
only_nesting t s o = ap nesting o ∙ omega arith

module _ {W : Type 0} {gives : W → List ℕ → W → Type 0} {i : Option ℕ} {m : ℕ} {w v : W} {outer : Tree} {n d : ℕ} {s : Tree} where
  -- what is left, with the array that is opened next
  pub level_left : (inner : ℕ) (t : Tree) → inner ≡ deeper i d → IsOnlyItem t s → Opens gives i m w outer v n d s
      → IsLeft gives w (json_text i m outer) v (codes "[" ++ (new_line i inner ++ (json_text i inner t ++ nest_end i inner (n + 1))))
  level_left inner t e o p = left_as (next_level i d inner n t s e o) p.left

  -- it was opened
  pub opens_more : {u x : W} (inner : ℕ) (t : Tree) → inner ≡ deeper i d → IsOnlyItem t s → Opens gives i m w outer v n d s
      → Wrote gives v (codes "[") u → Wrote gives u (new_line i inner) x → Opens gives i m w outer x (n + 1) inner t
  opens_more inner t e o p a b = record {
    left = left_after (left_after (level_left inner t e o p) a) b;
    no_wider = λ h. p.no_wider (rw (only_nesting t s o) (omega arith));
    no_deeper = omega (arith, ap depth o, p.no_deeper);
    given = λ g. p.given (rw o (g, tt));
  }

  -- a line of it would be too wide
  pub margin_stops : {leaves : W → List ℕ → W → Type 0} (t : Tree) → 2 ^ 64 ≤ deeper i d → IsOnlyItem t s → Opens gives i m w outer v n d s
      → Stopped gives leaves (IsTooWide i m (nesting outer)) w (json_text i m outer) v
  margin_stops t h o p = stopped_at (p.no_wider (rw (only_nesting t s o) (omega arith))) p.left

-- the end of the innermost array, and those further out
pub next_end : (i : Option ℕ) (m n outer : ℕ) → 0 < n → outer ≡ shallower i m → nest_end i m n ≡ new_line i outer ++ (codes "]" ++ nest_end i outer (n - 1))
next_end i m zero outer h e = absurd (omega arith)
next_end i m (suc n) outer h e = let same : suc n - 1 ≡ n = omega arith in rw (e, same) refl
