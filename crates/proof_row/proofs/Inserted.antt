-- Tokens without a piece before a token with its piece, as a cut has them: what each step of a row is there.
use Rattle.proof_row.proofs.Common.{[], Account, account_at_piece, account_past_row, account_past_separation, account_past_token, ap, Before, before_past, blocks_past, false, first_token, is_separation, IsPiece, IsRow, levels_past, List, Option, refl, Some, spelled, sym, Tok, Token, tokens_of, true, Written, ℕ, ◌++◌, ◌∙◌, ◌∷◌, ◌≡◌, arith}
use Rattle.defs_token.proofs.Append.{spelled_append, tokens_append, account_append, row_append}

-- ---- the row

-- tokens without a piece and one with its piece, the first of them after a separation
abbrev pub written : (separation : List ℕ) → List Token → (piece : List ℕ) → Token → List Written
written f [] p t = record { separation = f; piece = p; token = t } ∷ []
written f (u ∷ us) p t = record { separation = f; piece = []; token = u } ∷ written [] us p t

pub spelled_written : (f : List ℕ) (us : List Token) (p : List ℕ) (t : Token) (next : List ℕ) → spelled (written f us p t) next ≡ f ++ (p ++ next)
spelled_written f [] p t next = refl
spelled_written f (u ∷ us) p t next = ap (λ x. f ++ x) (spelled_written [] us p t next)

pub tokens_written : (f : List ℕ) (us : List Token) (p : List ℕ) (t : Token) → tokens_of (written f us p t) ≡ us ++ (t ∷ [])
tokens_written f [] p t = refl
tokens_written f (u ∷ us) p t = ap (λ x. u ∷ x) (tokens_written [] us p t)

-- what stands first of tokens before another one
abbrev pub first_of : List Token → Tok → Tok
first_of [] t = t
first_of (u ∷ us) t = u.tok

first_written : (f : List ℕ) (us : List Token) (p : List ℕ) (t : Token) (last : Option Tok) → first_token (written f us p t) last ≡ Some (first_of us t.tok)
first_written f a p t last = grind arith

-- ---- accounts

-- the account after a token without a piece
abbrev pub past_empty : Account → Tok → Account
past_empty a t = record a { blocks = blocks_past a.blocks t; levels = levels_past a.levels [] t }

abbrev pub past_all : Account → List Token → Account
past_all a [] = a
past_all a (u ∷ us) = past_all (past_empty a u.tok) us

-- whether tokens stand so without a piece, before a text and another token
abbrev pub AreEmpty : Account → List Token → (next : List ℕ) → (following : Tok) → Type 0
AreEmpty a [] next t = Unit {0}
AreEmpty a (u ∷ us) next t = IsPiece a [] next (Some (first_of us t)) u.position u.tok × AreEmpty (past_empty a u.tok) us next t

pub before_again : (b : Before) → before_past b [] ≡ b
before_again a = grind arith

-- ---- rows

-- a row before a text, whatever token follows, and the account after it
pub record IsRowTo (a : Account) (row : List Written) (next : List ℕ) (b : Account) : Type 0 where
  pub is_row : (last : Option Tok) → IsRow a row next last
  pub past : account_past_row a row next ≡ b

-- A text and its tokens as a row of a cut, before another text, and the accounts before and after it.
pub record IsCutOf (a : Account) (text : List ℕ) (ts : List Token) (next : List ℕ) (b : Account) : Type 0 where
  pub row : List Written
  pub spells : spelled row next ≡ text
  pub tokens_are : tokens_of row ≡ ts
  pub is_row : IsRowTo a row next b

-- nothing, before a text
pub nothing_cut : (a : Account) (next : List ℕ) → IsCutOf a next [] next a
nothing_cut a next = record { row = []; spells = refl; tokens_are = refl; is_row = record { is_row = λ last. tt; past = refl } }

-- Two of them after each other are one.
pub cut_append : (a b c : Account) (text : List ℕ) (ts us : List Token) (between next : List ℕ)
    → IsCutOf a text ts between b → IsCutOf b between us next c → IsCutOf a text (ts ++ us) next c
cut_append a b c text ts us between next r s =
    let past : account_past_row a r.row (spelled s.row next) ≡ b = ap (λ y. account_past_row a r.row y) s.spells ∙ r.is_row.past in
    record {
      row = r.row ++ s.row;
      spells = spelled_append r.row s.row next ∙ ap (λ y. spelled r.row y) s.spells ∙ r.spells;
      tokens_are = tokens_append r.row s.row ∙ ap (λ x. x ++ tokens_of s.row) r.tokens_are ∙ ap (λ x. ts ++ x) s.tokens_are;
      is_row = record {
        is_row = λ o. row_append a r.row s.row next o (rw (s.spells) (r.is_row.is_row (first_token s.row o))) (rw past (s.is_row.is_row o));
        past = account_append a r.row s.row next ∙ ap (λ y. account_past_row y s.row next) past ∙ s.is_row.past;
      };
    }

-- Such tokens are a row, if they stand so after the separation and the piece after them.
pub written_so : (a : Account) (f : List ℕ) (us : List Token) (p : List ℕ) (t : Token) (next : List ℕ) → is_separation false f (p ++ next) ≡ true →
    AreEmpty (account_past_separation a f (p ++ next)) us (p ++ next) t.tok →
    ((last : Option Tok) → IsPiece (account_at_piece (past_all (account_past_separation a f (p ++ next)) us) p) p next last t.position t.tok) →
    IsRowTo a (written f us p t) next (account_past_token (account_at_piece (past_all (account_past_separation a f (p ++ next)) us) p) p next t.tok)
written_so a f [] p t next fills empty piece = record { is_row = λ last. ((fills, piece last), tt); past = refl }
written_so a f (u ∷ us) p t next fills empty piece =
    let here : Account = account_past_separation a f (p ++ next) in
    let past : Account = past_empty here u.tok in
    let own : Written = record { separation = f; piece = []; token = u } in
    let more : List Written = written [] us p t in
    let same : past ≡ account_past_separation past [] (p ++ next) = sym (ap (λ b. record past { before = b }) (before_again past.before)) in
    let cut : p ++ next ≡ spelled more next = sym (spelled_written [] us p t next) in
    let later = written_so past [] us p t next refl (rw (← same) empty.1) (λ last. rw (← same) (piece last)) in
    record {
      is_row = λ last. rw (← cut, first_written [] us p t last) ((fills, empty.0), later.is_row last);
      past = let on = later.past in grind (arith, cut, on, same);
    }
