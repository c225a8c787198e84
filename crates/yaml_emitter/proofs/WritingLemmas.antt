-- Writes after writes.
use Rattle.std.proofs.Common.{[], append-nil, append_assoc, arith, inl, inr, List, refl, subst, sym, ℕ, ◌++◌, ◌∙◌, ◌∷◌, ◌≡◌}
use Rattle.std.proofs.lemmas.List.Folds.{concat-append}
use Rattle.std.specs.List.{FoldsTo}
use Rattle.std.specs.Prelude.{IsErr, IsOk, Result}
use Rattle.yaml_emitter.specs.Writing.{IsLeft, Stopped, WritesUnless, Wrote}

calls_append : {W : Type 0} (gives : W → List ℕ → W → Type 0) (w : W) (xs : List (List ℕ)) (v : W) (ys : List (List ℕ)) (u : W)
    → FoldsTo gives w xs v → FoldsTo gives v ys u → FoldsTo gives w (xs ++ ys) u
calls_append gives w [] v ys u p q = subst (λ (x : _). FoldsTo gives x ys u) (sym p) q
calls_append gives w (x ∷ xs) v ys u p q = (p.0, p.1, calls_append gives p.0 xs v ys u p.2 q)

-- one call
pub wrote_one : {W : Type 0} (gives : W → List ℕ → W → Type 0) (w v : W) (a : List ℕ) → gives w a v → Wrote gives w a v
wrote_one gives w v a p = record { parts = a ∷ []; calls = (v, p, refl); whole = append-nil a }

pub not_both : {E : Type 0} (r : Result (Unit {0}) E) → IsErr r → IsOk r → ⊥
not_both a e k = grind arith

module _ {W : Type 0} {gives : W → List ℕ → W → Type 0} where
  -- nothing
  pub wrote_none : {w : W} → Wrote gives w [] w
  wrote_none = record { parts = []; calls = refl; whole = refl }

  -- two texts, one after the other
  pub wrote_then : {w v u : W} {a b : List ℕ} → Wrote gives w a v → Wrote gives v b u → Wrote gives w (a ++ b) u
  wrote_then {w} {v} {u} p q = record {
    parts = p.parts ++ q.parts;
    calls = calls_append gives w p.parts v q.parts u p.calls q.calls;
    whole = cc (concat-append p.parts q.parts);
  }

  -- ---- what is left of a text

  pub left_all : {w : W} {text : List ℕ} → IsLeft gives w text w text
  left_all = record { written = []; wrote = wrote_none; whole = refl }

  pub left_as : {w v : W} {text a b : List ℕ} → a ≡ b → IsLeft gives w text v a → IsLeft gives w text v b
  left_as {w} {v} {text} e = subst (λ t. IsLeft gives w text v t) e

  pub left_after : {w v u : W} {text a b : List ℕ} → IsLeft gives w text v (a ++ b) → Wrote gives v a u → IsLeft gives w text u b
  left_after {a = a} {b} p q =
      record { written = p.written ++ a; wrote = wrote_then p.wrote q; whole = append_assoc p.written a b ∙ p.whole }

  pub left_then : {w v u : W} {text a b : List ℕ} → IsLeft gives w text v a → IsLeft gives v a u b → IsLeft gives w text u b
  left_then {b = b} p q = record {
    written = p.written ++ q.written;
    wrote = wrote_then p.wrote q.wrote;
    whole = cc (append_assoc p.written q.written b);
  }

  pub left_none : {w v : W} {text : List ℕ} → IsLeft gives w text v [] → Wrote gives w text v
  left_none p = rw (sym (append-nil p.written) ∙ p.whole) at p.wrote

  module _ {leaves : W → List ℕ → W → Type 0} {reason : Type 0} where
    -- a stop before a call
    pub stopped_at : {w v : W} {text rest : List ℕ} → reason → IsLeft gives w text v rest → Stopped gives leaves reason w text v
    stopped_at {v = v} {rest = rest} e l =
        record { written = l.written; rest = rest; at = v; wrote = l.wrote; whole = l.whole; end = inr (e, refl) }

    -- a stop, where more was to be written
    pub stopped_early : {w v : W} {a : List ℕ} (b : List ℕ) → Stopped gives leaves reason w a v → Stopped gives leaves reason w (a ++ b) v
    stopped_early b p = record {
      written = p.written;
      rest = p.rest ++ b;
      at = p.at;
      wrote = p.wrote;
      whole = cc (append_assoc p.written p.rest b);
      end = elim p.end [
        | inl r ↦ inl (record { piece = r.piece; rest = r.rest ++ b; refused = r.refused; whole = cc (append_assoc r.piece r.rest b) })
        | inr e ↦ inr e
      ];
    }

    -- a stop after what was written
    pub stopped_late : {w v u : W} {a b : List ℕ} → Wrote gives w a v → Stopped gives leaves reason v b u
        → Stopped gives leaves reason w (a ++ b) u
    stopped_late {a = a} p q = record {
      written = a ++ q.written;
      rest = q.rest;
      at = q.at;
      wrote = wrote_then p q.wrote;
      whole = cc (append_assoc a q.written q.rest);
      end = q.end;
    }

    -- a stop for another reason
    pub stopped_for : {other : Type 0} {w v : W} {a : List ℕ} → (reason → other) → Stopped gives leaves reason w a v
        → Stopped gives leaves other w a v
    stopped_for f p = record {
      written = p.written;
      rest = p.rest;
      at = p.at;
      wrote = p.wrote;
      whole = p.whole;
      end = elim p.end [ inl r ↦ inl r | inr e ↦ inr (f e.0, e.1) ];
    }

    -- the same text in another form
    pub stopped_as : {w v : W} {a b : List ℕ} → a ≡ b → Stopped gives leaves reason w a v → Stopped gives leaves reason w b v
    stopped_as {w} {v} e = subst (λ t. Stopped gives leaves reason w t v) e

    pub left_stopped : {w v u : W} {text a : List ℕ} → IsLeft gives w text v a → Stopped gives leaves reason v a u
        → Stopped gives leaves reason w text u
    left_stopped p q = rw p.whole at (stopped_late p.wrote q)

    -- ---- the end of a function

    module _ {E : Type 0} {r : Result (Unit {0}) E} where
      -- a call after what was written
      pub writes_late : {w v u : W} {a b : List ℕ} → Wrote gives w a v → WritesUnless reason gives leaves v r b u
          → WritesUnless reason gives leaves w r (a ++ b) u
      writes_late p q = record { ok = λ k. wrote_then p (q.ok k); err = λ k. stopped_late p (q.err k) }

      -- the same call, with more reasons
      pub writes_for : {other : Type 0} {w v : W} {a : List ℕ} → (reason → other) → WritesUnless reason gives leaves w r a v
          → WritesUnless other gives leaves w r a v
      writes_for f q = record { ok = q.ok; err = λ k. stopped_for f (q.err k) }

      -- the same text in another form
      pub writes_as : {w v : W} {a b : List ℕ} → a ≡ b → WritesUnless reason gives leaves w r a v → WritesUnless reason gives leaves w r b v
      writes_as {w} {v} e = subst (λ t. WritesUnless reason gives leaves w r t v) e

      -- of a function that is stopped
      pub writes_err : {w v : W} {a : List ℕ} → IsErr r → Stopped gives leaves reason w a v → WritesUnless reason gives leaves w r a v
      writes_err e p = record { ok = λ k. absurd (not_both r e k); err = λ _. p }

      -- of a function that has written all
      pub writes_ok : {w v : W} {a : List ℕ} → IsOk r → Wrote gives w a v → WritesUnless reason gives leaves w r a v
      writes_ok e p = record { ok = λ _. p; err = λ k. absurd (not_both r k e) }

      pub left_writes : {w v u : W} {text a : List ℕ} → IsLeft gives w text v a → WritesUnless reason gives leaves v r a u
          → WritesUnless reason gives leaves w r text u
      left_writes p q = rw p.whole at (writes_late p.wrote q)

  -- a call that only a refusal stops, where more was to be written
  pub stopped_first : {leaves : W → List ℕ → W → Type 0} {reason : Type 0} {w v : W} {a : List ℕ} (b : List ℕ)
      → Stopped gives leaves ⊥ w a v → Stopped gives leaves reason w (a ++ b) v
  stopped_first b p = stopped_early b (stopped_for (λ b. absurd b) p)

-- of a function that ends as a call is refused, where more was to be written
pub writes_refused : {W E F : Type 0} {gives leaves : W → List ℕ → W → Type 0} {reason : Type 0} {r : Result (Unit {0}) E}
    {q : Result (Unit {0}) F} {w v : W} {a : List ℕ} (b : List ℕ) → IsErr r → WritesUnless ⊥ gives leaves w q a v → IsErr q
    → WritesUnless reason gives leaves w r (a ++ b) v
writes_refused b e p k = writes_err e (stopped_first b (p.err k))

-- one call after another
pub ruleset calls_in_a_row = (writes_late, writes_refused)

-- a call that is refused
pub stopped_one : {W : Type 0} {reason : Type 0} (gives leaves : W → List ℕ → W → Type 0) (w v : W) (a : List ℕ) → leaves w a v → Stopped gives leaves reason w a v
stopped_one gives leaves w v a p = record {
  written = [];
  rest = a;
  at = w;
  wrote = wrote_none;
  whole = refl;
  end = inl (record { piece = a; rest = []; refused = p; whole = append-nil a });
}
