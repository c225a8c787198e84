-- The key that may begin with a node, among the open keys.
use Rattle.proof_scanner.proofs.Common.{[], After, after, ap, AreNumbered, arith, Bool, eqb-true, false, has_break, is_empty, is_in_column, is_waiting, IsLive, IsOpenHere, IsOpenOutside, IsTakenBy, Key, length, length-append, line_by, List, MayChoose, must_be_key, nat_tests, not, NotBefore, Option, Position, ScannerState, Site, site_here, Some, subst, sym, taken, Token, ℕ, ◌&&◌, ◌++◌, ◌∙◌, ◌∷◌, ◌≡◌, ◌≤◌}
use Rattle.proof_scanner.proofs.Sound.Common.{AreSame, ArrivesBy, first_not_right, IsDeep, must_be, no_waiting, not_before_after, not_before_same, not_before_then, numbered_around, numbered_more, saved, saved_keys, weaker}

-- the key that may begin here
abbrev pub new_key : ScannerState → Key
new_key t = record { required = must_be_key t.held; number = length t.held.tokens; position = t.held.position }

-- the open keys after a node's start
pub keys_saved : (t : ScannerState) (k : Option Key) (ks : List (Option Key)) → t.held.keys ≡ k ∷ ks → saved_keys t.held ≡ saved t.held.key_allowed (new_key t) k ∷ ks
keys_saved t k ks e = grind (arith, new_key)

-- the numbers of the open keys are those of tokens so far
pub saved_numbered : (t : ScannerState) (before more : List Token) (k : Option Key) (ks : List (Option Key)) (own : Token) → t.held.tokens ≡ before ++ more → AreNumbered (length before) (k ∷ ks) →
    (b : Bool) → AreNumbered (length (t.held.tokens ++ (own ∷ []))) (saved b (new_key t) k ∷ ks)
saved_numbered t before more k ks own e h b = grind (arith, length-append, numbered_more, numbered_around)

-- ---- a part of a node outside flow, and the open key: the one that was open, or the one that may begin with the node

module _ (text : List ℕ) (t : ScannerState) (k : Option Key) (a : ArrivesBy text t [] (k ∷ []) []) (out : t.held.flow ≡ []) (deep : IsDeep t.held) where
  abbrev here : Site
  here = site_here false t.held.position a.site

  open_of : (x : Key) → k ≡ Some x → After x.position a.site.position × (IsLive x t.held.position t.rest → IsOpenHere x t.held.position a.site.blocks)
  open_of x e = subst (λ y. IsOpenOutside y a.site.position t.held.position t.rest a.site.blocks) e a.is_open

  open_before : (x : Key) → k ≡ Some x → NotBefore x.position t.held.position
  open_before x e = not_before_then x.position a.site.position t.held.position (weaker x.position a.site.position (open_of x e).0) (rw a.position_is (not_before_after a.site.position a.separation t.rest))

  -- a key must begin here just in the column of the innermost collection
  pub must_be_here : must_be_key t.held ≡ is_in_column t.held.position.col here.blocks
  must_be_here = must_be t.held (ap (λ x. not (is_empty x)) out) a.are_levels deep ∙ ap (λ bs. is_in_column t.held.position.col bs) (sym a.blocks_are)

  -- to a later position, where other text is left
  module _ (some : is_empty t.rest ≡ false) (end : Position) (rest : List ℕ) (later : NotBefore t.held.position end) where
    pub one_node : (piece : List ℕ) → (is_empty rest ≡ false → end.line ≤ t.held.position.line → has_break piece ≡ false) → (strict c : Bool) → MayChoose strict c (saved t.held.key_allowed (new_key t) k) end rest →
        (has_break piece && is_waiting (line_by c (saved t.held.key_allowed (new_key t) k) taken)) ≡ false
    one_node piece one strict c may = grind (arith, not_before_same, open_before, no_waiting)

    -- after it a live key has taken the line, if no key may begin there
    pub taken_node : (allowed : Bool) → (is_empty rest ≡ false → end.line ≤ t.held.position.line → allowed ≡ false) → IsTakenBy allowed end rest (saved t.held.key_allowed (new_key t) k) taken
    taken_node allowed none = grind (arith, not_before_same, open_before)

    pub same_node : AreSame k end rest a.site.blocks here.blocks
    same_node = grind (arith, open_of, open_before)

    pub open_node : (q : Position) → After t.held.position q → IsOpenOutside (saved t.held.key_allowed (new_key t) k) q end rest here.blocks
    open_node q after = grind (arith, after, not_before_then, (subst (λ x. NotBefore a.site.position x) (sym a.position_is) (not_before_after a.site.position a.separation t.rest)), open_of, nat_tests, eqb-true, open_before, weaker, first_not_right, must_be_here)
