-- What the rows state of texts that are written out: their tokens are a cut, and those of a row of steps.
use Prim.Native.String.{String}
use Rattle.std.proofs.Common.{is_some}
use Rattle.defs_text.specs.Text.{is_empty}
use Rattle.defs_token.specs.RowAccount.{first_account as first_row_account}
use Rattle.defs_token.specs.Step.{spelled as spelled_steps}
use Rattle.defs_token.specs.Tokens.{tokens_of_row}
use Rattle.defs_token.proofs.Common.{[], account_past_row, Bool, codes, false, first_account, if◌then◌else◌, inr, is_closed, is_separation, IsCut, IsCutOfBeginning, IsRead, key, List, None, Option, Position, refl, Row, Some, spelled, start_token, Step, stream_end, Tok, tokens_of, true, up_to_nul, Written, ℕ, ◌∷◌, ◌≡◌}
use Rattle.defs_token.proofs.Decide.{cut_of, steps_of}
use Rattle.defs_token.proofs.RowShown.{step}
use Rattle.defs_token.proofs.Shown.{first, tokens_between}

-- whether a token is that of a key
abbrev is_key : Tok → Bool
is_key key = true
is_key _ = false

-- The steps of tokens as they are written, one for each piece. An implicit key begins with a piece if the token of a key stands right
-- before it without one.
abbrev pub steps_shown : (keyed : Bool) → List Written → List Step
steps_shown k [] = []
steps_shown k (w ∷ ws) =
    (if is_empty w.piece then steps_shown (is_key w.token.tok) ws else step w.separation w.piece w.token.tok k ∷ steps_shown false ws)

-- the row of tokens as they are written, with the separation after the last piece
abbrev pub row : List Written → (last : List ℕ) → Row
row ws last = record { steps = steps_shown false ws; last = last }

-- Whether tokens as they are written are those of a text, between the stream's start and its end: a cut of it, and the tokens of its row.
pub record Reads (text : String) (ws : List Written) (last : String) (end : Position) : Type 0 where
  pub is_cut : IsCut (tokens_between ws end) (codes text)
  pub is_read : IsRead (codes text) (tokens_between ws end)

found : {A : Type 0} (o : Option A) → is_some o ≡ true → A
found (Some x) e = x
found None e = absurd (cc e)

-- by computing
pub reads : {text : String} {ws : List Written} {last : String} {end : Position} → spelled ws (codes last) ≡ up_to_nul (codes text) →
    is_some (cut_of first_account ws (codes last) (Some stream_end)) ≡ true → is_separation false (codes last) [] ≡ true →
    is_closed (account_past_row first_account ws (codes last)) ≡ true →
    spelled_steps (steps_shown false ws) (codes last) ≡ up_to_nul (codes text) →
    is_some (steps_of (Some first_row_account) (steps_shown false ws) (codes last)) ≡ true →
    tokens_of_row (row ws (codes last)) ≡ tokens_between ws end → Reads text ws last end
reads {ws = ws} {last = last} {end = end} s c f z t r e = record {
  is_cut = record {
    begin = first;
    end = end;
    row = ws;
    separation = codes last;
    are_tokens = refl;
    is_text = s;
    is_filled = f;
    is_row = found (cut_of first_account ws (codes last) (Some stream_end)) c;
    closes = z;
  };
  is_read = (row ws (codes last), (t, found (steps_of (Some first_row_account) (steps_shown false ws) (codes last)) r), e);
}

-- Whether tokens as they are written are those of a beginning of a text, after the stream's start and before other text.
pub record Begins (text : String) (ws : List Written) (after : String) : Type 0 where
  pub is_cut : IsCutOfBeginning (start_token first ∷ tokens_of ws) (codes text)

-- by computing
pub begins : {text : String} {ws : List Written} {after : String} →
    spelled ws (codes after) ≡ up_to_nul (codes text) → is_some (cut_of first_account ws (codes after) None) ≡ true → Begins text ws after
begins {ws = ws} {after = after} s c = record {
  is_cut = inr (record {
    begin = first;
    row = ws;
    after = codes after;
    are_tokens = refl;
    is_text = s;
    is_row = found (cut_of first_account ws (codes after) None) c;
  });
}
