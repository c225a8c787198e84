-- A piece outside flow before and after which no key waits: what holds where it begins holds between two fetches after it.
use Rattle.proof_scanner.proofs.Common.{[], Account, act_of, ap, arith, begun_by, Bool, columns, Completes, false, free, has_break, if◌then◌else◌, is_deeper, is_empty, is_in_column, is_waiting, IsCarriedOn, IsLineHere, IsPiece, Key, Line, line_past, List, may_stand, MayChoose, None, not_ended, opened, Option, Outside, placed, Position, position_after, refl, ScannerState, seen, shown_position, Site, site_in, site_past, SoFar, Some, subst, sym, Tok, Token, token, true, ℕ, ◌++◌, ◌∙◌, ◌∷◌, ◌≡◌}
use Rattle.proof_scanner.proofs.Known.Steps.{knows_none, begins_key}
use Rattle.proof_scanner.proofs.Sound.Common.{ArrivesBy, goes_of, is_written, may_be_no_key, no_waiting, tokens_then, with_entries, keyless_completes, none_completes}
use Rattle.proof_scanner.proofs.Sound.Reads.{Onward, Reads, stands_so, IsHeld}

-- what may begin after an indicator that begins a block collection, if none has begun there
abbrev pub begun_after : (here : Position) → List ℕ → Outside
begun_after here bs = record { line = free; blocks = opened here.col (not_ended here.col bs) }

-- the tokens with the start of a block collection, if one begins here
abbrev pub with_start : Tok → ScannerState → List Token
with_start start t = (if is_deeper t.held.position.col (columns t.held.indent t.held.indents) then placed None (token t.held.position start) t.held.tokens else t.held.tokens)

-- the site after a piece at a site
abbrev pub site_then : Site → (piece : List ℕ) → Tok → (next : List ℕ) → Outside → Site
site_then x piece tok next after = site_past false x piece tok next after.blocks

-- If the account after it is one of a row, what holds between two fetches holds after it, with this account.
pub ends_outside : (text : List ℕ) (t u : ScannerState) (k : Option Key) (a : ArrivesBy text t [] (k ∷ []) []) (piece next gap : List ℕ) (tok : Tok) (after : Outside) (x : Site) → site_in false (act_of tok) t.held.position a.site ≡ x →
    Reads t u (site_then x piece tok next after) piece next gap → IsHeld u [] (None ∷ []) (with_entries (site_then x piece tok next after) after.line []) gap → IsPiece (seen (with_entries a.site a.line []) x a.separation) piece next None (shown_position x piece tok next) tok → begins_key (act_of tok) ≡ false →
    ((strict : Bool) → SoFar strict text next (with_entries (site_then x piece tok next after) after.line []) (λ ws last. u.held.tokens)) → Onward text t.rest u
ends_outside text t u k a piece next gap tok after x same r m is idle rows =
    let base : Account = with_entries (site_then x piece tok next after) after.line [] in
    let written = is_written text t k a piece next tok x r.cut same false a.line r.is_solid is in
    stands_so text t u piece next gap [] (None ∷ []) base a.is_clean a.started a.going r (
    let carries : IsCarriedOn text (gap ++ u.rest) u.rest (None ∷ []) base = λ cs x key m inside some. absurd (cc inside) in
    let completes : (strict c : Bool) (cs : List Bool) → MayChoose strict c None u.held.position u.rest → SoFar strict text (gap ++ u.rest) base (λ ws last. u.held.tokens) = λ strict c cs may. rw (sym r.is_rest) (rows strict) in
    assumption (m, carries, completes, knows_none text t piece next tok r.cut u.held.position gap u.rest (r.position_is ∙ ap (λ y. position_after (position_after y.position piece next) gap u.rest) (sym same)) r.is_rest k a written idle))

-- What was read where no key is open: a piece at a site, and what the scanner holds after it.
pub record ReadOutside (text : List ℕ) (t u : ScannerState) (a : ArrivesBy text t [] (None ∷ []) []) (piece next : List ℕ) (tok : Tok) (after : Outside) (x : Site) : Type 0 where
  pub is_piece : IsPiece (seen (with_entries a.site a.line []) x a.separation) piece next None (shown_position x piece tok next) tok
  pub stands : may_stand false a.site x a.separation piece tok next ≡ true
  pub after_is : line_past (is_in_column x.position.col x.blocks) x.position x.blocks (act_of tok) false a.line_here ≡ Some after
  pub begun : begun_by tok ≡ []
  pub begins_none : begins_key (act_of tok) ≡ false
  pub tokens_are : u.held.tokens ≡ a.tokens ++ tokens_then a.site x piece tok next a.line_here

-- What holds between two fetches holds after it, with the account after the piece; the site under another name.
pub read_outside : (text : List ℕ) (t u : ScannerState) (a : ArrivesBy text t [] (None ∷ []) []) (piece next gap : List ℕ) (tok : Tok) (after : Outside) (x : Site) → site_in false (act_of tok) t.held.position a.site ≡ x →
    Reads t u (site_then x piece tok next after) piece next gap → IsHeld u [] (None ∷ []) (with_entries (site_then x piece tok next after) after.line []) gap → ReadOutside text t u a piece next tok after x → Onward text t.rest u
read_outside text t u a piece next gap tok after x same r m n =
    ends_outside text t u None a piece next gap tok after x same r m n.is_piece n.begins_none
    (λ strict. goes_of strict text next (with_entries (site_then x piece tok next after) after.line []) u.held.tokens (rw m.no_key refl) m.no_key
    (rw n.tokens_are
    (subst (λ es. Completes text next (with_entries (site_then x piece tok next after) after.line es) (λ ws last. a.tokens ++ tokens_then a.site x piece tok next a.line_here)) n.begun
    (keyless_completes text t None a piece next tok x r.cut same true after (assumption (r, n, a, no_waiting (has_break piece) (is_waiting after.line) m.no_key, m)) tt))))

-- ---- parts of it

-- where a key may begin and none is open, the line is free
pub line_free : (allowed : Bool) (rest : List ℕ) (l : Line) → allowed ≡ true → IsLineHere false allowed rest None l → l ≡ free
line_free allowed rest l e h = grind arith

-- ---- an open key that need not be one is dropped where a piece begins

-- Outside flow what holds where a piece begins holds without the open key, unless that must be one.
unfoldable pub key_gone : (text : List ℕ) (t : ScannerState) (k : Option Key) → ArrivesBy text t [] (k ∷ []) [] → is_empty t.rest ≡ false → MayChoose true false k t.held.position t.rest → ArrivesBy text t [] (None ∷ []) []
key_gone text t k a some may =
    let base : Account = with_entries a.site a.line [] in
    let carries : IsCarriedOn text (a.separation ++ t.rest) t.rest (None ∷ []) base = λ cs x key m inside some. absurd (cc inside) in
    let completes : (strict c : Bool) (cs : List Bool) → MayChoose strict c None t.held.position t.rest → SoFar strict text (a.separation ++ t.rest) base (λ ws last. a.tokens) =
    λ strict c cs _. none_completes strict text (a.separation ++ t.rest) base (k ∷ []) a.tokens a.no_key refl (a.completes strict false [] (may_be_no_key strict k t.held.position t.rest may)) in
    let line : IsLineHere false t.held.key_allowed t.rest None a.line_here = grind arith in
    record { site = a.site; line = a.line; known = search (a.among, line, carries, completes); knows = λ e. absurd (cc e) }
