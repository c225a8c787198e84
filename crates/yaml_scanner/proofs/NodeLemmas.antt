-- Where the next line begins, and how the stream ends.
use Rattle.yaml_scanner.proofs.Common.{after_line, arith, At, Bool, cleared, Err, false, fetch_stream_end, has_required, Held, Key, List, next_line, Ok, Option, Position, position_of, push, refl, Tok, true, unroll_indent, WindowView, ℕ, ◌≡◌}
use Rattle.yaml_tokens.specs.declared.problem.Problem.TheVariants as problem

pub next_position : {T : Type 0} (s u : WindowView T) → u ≡ after_line s → position_of u ≡ next_line (position_of s)
next_position s u e = rw e (grind arith)

pub stream_ended : (a : List ℕ) (h v w : Held) (b : Bool) (ks : List (Option Key)) (p m : Position) → p ≡ next_line h.position → b ≡ has_required h.keys → b ≡ false → ks ≡ cleared h.keys → v ≡ unroll_indent 0 (record h { position = p; keys = ks }) → m ≡ v.position
    → w ≡ record (push m Tok.stream_end v) { key_allowed = false; ended = true } → fetch_stream_end (record { rest = a; held = h }) ≡ Ok (record { rest = a; held = w })
unfolding fetch_stream_end
stream_ended a h v w b ks p m e f i k l n g = let l' = rw (k, e) at l in rw (← f, i, g, n, l') refl

pub stream_refused : (a : List ℕ) (h : Held) (b : Bool) (p : Position) → p ≡ next_line h.position → b ≡ has_required h.keys → b ≡ true → fetch_stream_end (record { rest = a; held = h }) ≡ Err (At problem.KeyExpected p)
unfolding fetch_stream_end
stream_refused a h b p e f i = rw (← f, i, e) refl
