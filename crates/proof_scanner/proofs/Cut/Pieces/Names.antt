-- What the scan of an anchor's or an alias's name reads is its piece.
use Rattle.proof_scanner.proofs.Common.{[], all_of, anchor_name, anchor_token, and_parts, ap, arith, Bool, false, has_no_break, is_anchor_name, is_blank_or_end, is_break, IsPiece, List, mark_of, NameIsRead, NameKind, names_end, Ok, Option, Position, position_after, position_in_line, Read, read_as, ReadAs, refl, sym, Tok, true, ℕ, ◌++◌, ◌∙◌, ◌∷◌, ◌≡◌}
use Rattle.defs_token.specs.Account.{Account, is_in_flow}

-- ---- no break stands among the characters of a class that has none

pub all_in_line : (class : ℕ → Bool) → ((c : ℕ) → class c ≡ true → is_break c ≡ false) → (l : List ℕ) → all_of class l ≡ true → has_no_break l ≡ true
all_in_line class none [] h = refl
all_in_line class none (c ∷ l) h = let q = and_parts (class c) (all_of class l) h in rw (none c q.0) (all_in_line class none l q.1)

-- ---- the piece

-- A property or an alias that was read: its piece, which has no break, and nothing after it.
pub record IsProperty (fl : Bool) (tok : Tok) (p : Position) (text rest : List ℕ) (end : Position) : Type 0 where
  pub first : ℕ
  pub more : List ℕ
  pub cut : text ≡ (first ∷ more) ++ rest
  pub in_line : has_no_break (first ∷ more) ≡ true
  pub end_is : end ≡ position_after p (first ∷ more) rest
  pub is_piece : (a : Account) (following : Option Tok) → a.position ≡ p → is_in_flow a ≡ fl → IsPiece a (first ∷ more) rest following p tok

-- so it is a piece for each account, and no separation
pub property_read_as : (a : Account) (fl : Bool) (tok : Tok) (text rest : List ℕ) (end : Position) → is_in_flow a ≡ fl → IsProperty fl tok a.position text rest end → ReadAs a text tok a.position rest end
property_read_as a fl tok text rest end flow r = record { first = r.first; more = r.more; separation = []; is_text = r.cut; is_filled = refl; is_piece = λ following. r.is_piece a following refl flow; is_end = r.end_is }

pub name_property : (fl : Bool) (kind : NameKind) (p : Position) (text more : List ℕ) → text ≡ mark_of kind ∷ more → (x : Read (List ℕ)) → anchor_name text p ≡ Ok x → IsProperty fl (anchor_token kind x.value) p text x.rest x.position
unfolding is_break is_anchor_name is_blank_or_end
name_property fl kind p text more e x k =
    let r = read_as (ap (λ r. anchor_name r p) (sym e) ∙ k) (names_end (mark_of kind) more p) in grind (arith, r, all_in_line, position_in_line)

-- a name that was read is, with its indicator, the piece of its token
pub name_is_read : NameIsRead
name_is_read a kind more r nul e = property_read_as a (is_in_flow a) (anchor_token kind r.value) (mark_of kind ∷ more) r.rest r.position refl (name_property (is_in_flow a) kind a.position (mark_of kind ∷ more) more refl r e)
