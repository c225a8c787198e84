-- A step outside flow: if the definition and the scanner agree on what may begin after it and on its tokens, whatever completes the row after it completes it from before.
use Rattle.proof_scanner.proofs.Common.{Account, Bool, IsPiece, IsWritten, Line, List, None, Outside, Site, SoFar, Some, Step, Tok, Token, [], act_of, ap, arith, begins_free_line, begun_by, begun_outside, cut_past_no_key, ends_at, false, has_break, is_deeper, is_empty, is_in_column, is_waiting, line_past, line_past_separation, may_stand, not, put, refl, seen, shown_position, site_at, site_past, spelled, subst, sym, tokens_of_step, true, ℕ, ◌&&◌, ◌++◌, ◌∙◌, ◌∷◌, ◌≡◌, ScannerState, Option, Key, site_in, position_after, MayChoose}
use Rattle.proof_scanner.proofs.Sound.Arrivals.{ArrivesBy, with_entries}
use Rattle.proof_scanner.proofs.Sound.Completed.{completed_past}
use Rattle.proof_scanner.proofs.Sound.StreamEnds.{none_completes}

-- an account outside flow
abbrev pub Outer : Site → Line → Account
Outer s l = record { site = s; line = l; entries = [] }

-- the tokens of a step without a key: ends of block collections, the start of one, and the token that the piece shows
abbrev pub tokens_then : Site → Site → (piece : List ℕ) → Tok → (next : List ℕ) → Line → List Token
tokens_then s x piece tok next l =
    (ends_at x.position s.blocks x.blocks ++ begun_outside (is_deeper x.position.col x.blocks) x.position x.position (act_of tok) false (Some l)) ++ (put (shown_position x piece tok next) tok ∷ [])

-- a piece that stands where one begins, and the site at the piece, under another name
module _ (text : List ℕ) (t : ScannerState) (k : Option Key) (a : ArrivesBy text t [] (k ∷ []) []) (piece next : List ℕ) (tok : Tok) (x : Site) (cut : t.rest ≡ piece ++ next) (same : site_in false (act_of tok) t.held.position a.site ≡ x) where
  abbrev pub outer_step : Bool → Step
  outer_step b = record { separation = a.separation; piece = piece; shown = tok; key = b }

  abbrev pub outer_then : Outside → Account
  outer_then after = record { site = site_past false x piece tok next after.blocks; line = after.line; entries = begun_by tok }

  -- The piece may stand there, and so what may begin at it and after it is this. Of a cut it does not matter whether a key must begin.
  pub record Goes (strict bit : Bool) (l m : Line) (after : Outside) : Type 0 where
    pub is_solid : is_empty piece ≡ false
    pub is_piece : IsPiece (seen (Outer a.site l) x a.separation) piece next None (shown_position x piece tok next) tok
    pub stands : may_stand false a.site x a.separation piece tok next ≡ true
    pub line_is : line_past_separation false (begins_free_line a.site.before a.separation) l ≡ Some m
    pub after_is : line_past (strict && is_in_column x.position.col x.blocks) x.position x.blocks (act_of tok) bit m ≡ Some after
    pub in_line : (has_break piece && is_waiting after.line) ≡ false
    pub idle : strict ≡ false → is_waiting after.line ≡ false

  -- from the last piece
  from_last : a.separation ++ t.rest ≡ a.separation ++ (piece ++ next)
  from_last = ap (λ r. a.separation ++ r) cut

  same_site : site_at false a.site a.separation piece tok next ≡ x
  same_site = ap (λ p. site_in false (act_of tok) p a.site) (sym (a.position_is ∙ ap (λ r. position_after a.site.position a.separation r) cut)) ∙ same

  pub is_written : (bit : Bool) (l : Line) → is_empty piece ≡ false → IsPiece (seen (Outer a.site l) x a.separation) piece next None (shown_position x piece tok next) tok → IsWritten (Outer a.site l) (outer_step bit) next
  is_written bit l solid is = (rw (sym cut) a.is_filled, (ap not solid, subst (λ y. IsPiece (seen (Outer a.site l) y a.separation) piece next None (shown_position y piece tok next) tok) (sym same_site) is))

  pub outer_completes : (strict bit : Bool) (l m : Line) (after : Outside) (before past : List Step → List ℕ → List Token) → Goes strict bit l m after →
      ((ws : List Step) (last : List ℕ) → spelled ws last ≡ next → before (outer_step bit ∷ ws) last ++ tokens_of_step (Outer a.site l) (outer_step bit) ws last ≡ past ws last) →
      SoFar strict text (a.separation ++ t.rest) (Outer a.site l) before → SoFar strict text next (outer_then after) past
  outer_completes true bit l m after before past n tokens h =
      completed_past text (a.separation ++ t.rest) (Outer a.site l) (outer_then after) before past (outer_step bit) next from_last (is_written bit l n.is_solid n.is_piece) (grind (arith, n, same_site)) tokens h
  outer_completes false bit l m after before past n tokens h = (
    n.idle refl,
    λ ws last e. rw (sym (tokens ws last e))
        (cut_past_no_key false text (a.separation ++ t.rest) (Outer a.site l) (outer_then after) (before (outer_step bit ∷ ws) last) (outer_step bit) ws last next from_last e refl (is_written bit l n.is_solid n.is_piece)
        (rw (same_site, n.line_is, n.after_is) refl) h.0 (n.idle refl)
        (h.1 (outer_step bit ∷ ws) last (ap (λ y. a.separation ++ (piece ++ y)) e ∙ sym from_last))),
  )

  -- The same of a step without a key, where the open key is none: its tokens come after those so far.
  pub keyless_completes : (strict : Bool) (after : Outside) → Goes strict false a.line a.line_here after → MayChoose strict false k t.held.position t.rest →
      SoFar strict text next (outer_then after) (λ ws last. a.tokens ++ tokens_then a.site x piece tok next a.line_here)
  keyless_completes strict after n may =
      let tokens : (l m : Line) → line_past_separation false (begins_free_line a.site.before a.separation) l ≡ Some m → (ws : List Step) (last : List ℕ) → spelled ws last ≡ next →
      a.tokens ++ tokens_of_step (Outer a.site l) (outer_step false) ws last ≡ a.tokens ++ tokens_then a.site x piece tok next m = λ l m line_is ws last h. grind arith in
      outer_completes strict false a.line a.line_here after (λ ws last. a.tokens) (λ ws last. a.tokens ++ tokens_then a.site x piece tok next a.line_here) n
      (λ ws last h. tokens a.line a.line_here a.is_line ws last h)
      (none_completes strict text (a.separation ++ t.rest) (with_entries a.site a.line []) (k ∷ []) a.tokens a.no_key refl (a.completes strict false [] may))
