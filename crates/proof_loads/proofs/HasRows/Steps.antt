-- Rows from an account on, given from their last step to their first. A text that has a row has the row's tokens by the scanner's model.
use Rattle.proof_loads.proofs.Common.{[], Account, account_past, another, ap, append_assoc, begins_free_line, Bool, Colon, ends_with_stream, Entry, false, Fault, first_account, first_position, free, has_no_nul, HasTokens, HasToks, is_in_flow, is_renewed, is_separation, is_waiting, IsRefused, IsRowFrom, IsShown, line_past_separation, List, map-append, may_stand, not_refused, on_one_line, one_list, past_piece, Position, position_after, Previous, put, refl, Site, site_at, Some, spelled, Step, stream_position, subst, sym, Tok, Token, tokens_before, tokens_from, tokens_of_row, toks, true, up_to_nul, ℕ, ◌++◌, ◌∙◌, ◌∷◌, ◌≡◌, clean_up_to_end, texts_with_a_row_are_read, map}
pub use Rattle.defs_token.specs.Key.{Line}
use Rattle.proof_loads.proofs.Nul.{HasNone, both, whole}
use Rattle.defs_token.specs.Step.{Row}

-- From an account on a text has a row, with these tokens.
pub record Reads (a : Account) (text : List ℕ) (tokens : List Tok) : Type 0 where
  pub steps : List Step
  pub last : List ℕ
  pub is_text : spelled steps last ≡ text
  pub is_row : IsRowFrom (Some a) steps last
  pub are_tokens : toks (tokens_from (Some a) steps last) ≡ tokens
  pub none : HasNone text

-- an account by its parts
abbrev pub at : Position → (blocks : List ℕ) → (awaits : Bool) → Previous → Line → List Entry → Account
at p bs awaits before l es = record { site = record { position = p; blocks = bs; awaits = awaits; before = before }; line = l; entries = es }

abbrev pub step_of : (separation piece : List ℕ) → Tok → (key : Bool) → Step
step_of f p t k = record { separation = f; piece = p; shown = t; key = k }

-- the site of a step's piece
abbrev pub site_of : Account → Step → (next : List ℕ) → Site
site_of a w next = site_at (is_in_flow a.entries) a.site w.separation w.piece w.shown next

-- A step from an account before a text, to another account and with these tokens before the one that it shows.
pub record Steps (a : Account) (w : Step) (next : List ℕ) (b : Account) (first : List Tok) : Type 0 where
  pub is_separated : is_separation false w.separation (w.piece ++ next) ≡ true
  pub is_shown : IsShown a (site_of a w next) w next
  pub stands : may_stand (is_in_flow a.entries) a.site (site_of a w next) w.separation w.piece w.shown next ≡ true
  pub leads : on_one_line w.piece (past_piece (site_of a w next) w.piece w.shown next (is_renewed a.site.before w.separation) w.key
      (line_past_separation (is_in_flow a.entries) (begins_free_line a.site.before w.separation) a.line) a.entries) ≡ Some b
  pub begins : (past : Position) (colon : Colon) → toks (tokens_before a.site (site_of a w next) past colon w next a.line a.entries) ≡ first
  pub none : HasNone w.separation × HasNone w.piece

-- a step before a text that is read from the account after it
pub step : {a b : Account} (w : Step) (next : List ℕ) {first tokens : List Tok} → Steps a w next b first → Reads b next tokens → Reads a (w.separation ++ (w.piece ++ next)) (first ++ (w.shown ∷ tokens))
step {a} {b} w next {first} {tokens} s z =
    let h : Steps a w (spelled z.steps z.last) b first = subst (λ n. Steps a w n b first) (sym z.is_text) s in
    let past : account_past a w (spelled z.steps z.last) ≡ Some b = rw h.stands h.leads in
    record {
      steps = w ∷ z.steps;
      last = z.last;
      is_text = ap (λ n. w.separation ++ (w.piece ++ n)) z.is_text;
      is_row = ((h.is_separated, h.is_shown), subst (λ o. IsRowFrom o z.steps z.last) (sym past) z.is_row);
      are_tokens = rw (past, map-append, map-append, h.begins, z.are_tokens) (append_assoc first (w.shown ∷ []) tokens);
      none = both w.separation (w.piece ++ next) h.none.0 (both w.piece next h.none.1 z.none);
    }

pub has_tokens : (text : List ℕ) (tokens : List Tok) → Reads first_account text tokens → HasToks text (Tok.stream_start ∷ tokens)
has_tokens text tokens z =
    let without : up_to_nul text ≡ text = whole text z.none in
    let row : Row = record { steps = z.steps; last = z.last } in
    (tokens_of_row row, texts_with_a_row_are_read text (tokens_of_row row) (subst (λ a. has_no_nul a ≡ true) without (clean_up_to_end text)) (row, (z.is_text ∙ sym without, z.is_row), refl), ap (λ o. Tok.stream_start ∷ o) z.are_tokens)

-- the ends of block collections, before other tokens
abbrev pub ended : List ℕ → List Tok → List Tok
ended bs o = map (λ n. Tok.block_end) bs ++ o

-- the end of a text
pub read_end : (p : Position) (bs : List ℕ) (awaits : Bool) (before : Previous) (l : Line) (last : List ℕ) → is_waiting l ≡ false → is_separation false last [] ≡ true → HasNone last → Reads (at p bs awaits before l []) last (ended bs (Tok.stream_end ∷ []))
read_end p bs awaits before l last line separates none = record { steps = []; last = last; is_text = refl; is_row = (separates, rw line refl); are_tokens = told bs; none = none }
  where
    told : (bs : List ℕ) → toks (ends_with_stream (position_after p last []) bs ++ (put (stream_position (position_after p last [])) Tok.stream_end ∷ [])) ≡ ended bs (Tok.stream_end ∷ [])
    told [] = refl
    told (n ∷ bs) = ap (λ o. Tok.block_end ∷ o) (told bs)

-- ---- a text that has tokens has no others, and is not refused

pub no_other_tokens : (a : List ℕ) (want : List Tok) → HasToks a want → (ts : List Token) → HasTokens a ts → toks ts ≡ want
no_other_tokens a want y ts z = ap toks (one_list a ts y.0 z y.1) ∙ y.2

pub none_is_refused : (a : List ℕ) (want : List Tok) → HasToks a want → (f : Fault) → IsRefused a f → ⊥
none_is_refused a want y f refusal = not_refused a y.0 f y.1 refusal

pub nothing_has_its_tokens : HasToks [] (Tok.stream_start ∷ Tok.stream_end ∷ [])
nothing_has_its_tokens = has_tokens [] (Tok.stream_end ∷ []) (read_end first_position [] false another free [] refl refl refl)
