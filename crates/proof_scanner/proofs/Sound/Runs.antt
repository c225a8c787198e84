-- What holds between two fetches holds after the stream's start, and so along a run.
use Rattle.proof_scanner.proofs.Common.{[], ap, arith, begins, false, Fares, fetch, fetch_stream_start, FetchKeeps, first_account, first_position, goes, has_no_nul, here, inl, inr, List, Ok, over, put, Reaches, refl, ScannerState, SoFar, Stands, start, stream_start, subst, sym, there, TokensAreOfARow, true, up_to_nul, ℕ, ◌∷◌, ◌≡◌}
use Rattle.proof_scanner.proofs.Sound.Steps.{completed_at_start, goes_of, known_at_start, whole_text}

unfoldable pub stream_started : (text : List ℕ) → has_no_nul text ≡ true → Stands text (fetch_stream_start (start text))
unfolding fetch_stream_start
stream_started text nul = record {
  base = first_account;
  known = record {
    separation = [];
    is_clean = nul;
    is_filled = refl;
    position_is = refl;
    blocks_are = refl;
    awaits_is = refl;
    are_levels = refl;
    has_no_tabs = inr refl;
    is_leading = λ e. absurd (cc e);
    read_on = tt;
    one_each = refl;
    are_entries = tt;
    line_is = (inl refl, refl, tt);
    is_open = tt;
    no_key = refl;
    are_numbered = (tt, tt);
    was_adjacent = λ e. absurd (cc e);
    adjacent_before = omega arith;
    started = refl;
    going = refl;
    carries = λ cs x key m inside some. absurd (cc inside);
    knows = known_at_start text text first_position (sym (whole_text text nul));
    completes = λ strict c cs may. subst (λ x. SoFar strict text x first_account (λ ws last. put first_position stream_start ∷ [])) (whole_text text nul) (goes_of strict text (up_to_nul text) first_account (put first_position stream_start ∷ []) refl refl (completed_at_start text));
  };
}

-- ---- a run keeps what each fetch keeps; at its end the tokens are those of a row

pub first_fetch : (text : List ℕ) → fetch (start text) ≡ Ok (fetch_stream_start (start text))
unfolding fetch
first_fetch text = refl

fared : FetchKeeps → (text : List ℕ) → has_no_nul text ≡ true → (t u : ScannerState) → t.held.ended ≡ false → fetch t ≡ Ok u → Fares text t → Fares text u
fared kept text nul t u going e (begins b) = goes (subst (λ x. Stands text x) (cc (first_fetch text, ap fetch b, e)) (stream_started text nul))
fared kept text nul t u going e (goes s) = kept text t u nul s e
fared kept text nul t u going e (over f r n) = absurd (cc (going, f))

-- What holds at one state of a run holds at the later ones.
pub reached : FetchKeeps → (text : List ℕ) → has_no_nul text ≡ true → (t u : ScannerState) → Reaches t u → Fares text t → Fares text u
reached kept text nul t u here s = s
reached kept text nul t u (there {u = v} going e run) s = reached kept text nul v u run (fared kept text nul t v going e s)

-- If each fetch keeps it, the tokens that the model gives a text are those of a row of it, positions included.
pub read_as_a_row : FetchKeeps → TokensAreOfARow
read_as_a_row kept text tokens nul h = let f = reached kept text nul (start text) h.end h.run (begins refl) in grind (arith, f, h)
