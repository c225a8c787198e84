-- Quoted scalars: what holds between two fetches holds after them.
use Rattle.proof_scanner.proofs.Common.{Arrives, Bool, Entry, FlowLevel, HasNoTabs, Held, Holds, Key, List, None, Ok, Option, Position, Quotes, ScannerState, Site, Tok, [], adjacent_here, allow_key, and_parts, ap, append_assoc, append_cancel_right, are_single, arith, between, both_hold, chained, columns, context, element_of, false, fetch_flow_scalar, gives_node, go_on, has_break, has_no_nul, has_open_level, in_flow, inr, is_break, is_empty, is_nul, least_column, no_nul_after, not, on_held, position_after, position_append, push, quote_of, quoted, quoted_lines_fit, quoted_may_end, quoted_scalar, quoted_style, read, refl, skip_to_next_token, subst, sym, true, unled, went, ℕ, ◌&&◌, ◌++◌, ◌||◌, ◌∙◌, ◌∷◌, ◌≡◌, ◌≤◌, eqb-true, nat_tests}
use Rattle.model_scanner.specs.Machine as machine
use Rattle.proof_lexers.specs.PlainEnds as plains
pub use Rattle.proof_scanner.proofs.Cut.Pieces.Quoted.{QuotedAs, piece_of, quoted_as}
use Rattle.proof_scanner.proofs.Sound.Steps.{ArrivesBy, Checked, Cleared, Exact, IsAt, IsDeep, IsRead, IsToken, Onward, break_append, deep_for, ends_in_line, exact, least_is, node_read, not_before_after, on_one_line, quoted_checked, same_has_break, saved_is, saved_keys, separation_append, site_of, site_then, skip_clears, some_levels, unbroken, adjacent_quoted}
use Rattle.proof_lexers.proofs.Bridges.{or_false}

-- a quote is no break
pub in_line : (single : Bool) (body : List ℕ) → ends_in_line (piece_of single body) ≡ true
unfolding is_break
in_line single body = last (quote_of single) body
  where
    last : (c : ℕ) (r : List ℕ) → ends_in_line (c ∷ (r ++ quote_of single ∷ [])) ≡ true
    last c [] = grind arith
    last c (d ∷ r) = last d r

-- ---- the step

module _ (text : List ℕ) (quotes : Quotes) (t : ScannerState) (a : Arrives text t) (deep : IsDeep t.held) (x : machine.Read (List ℕ)) (q : QuotedAs (are_single quotes) (context t.held) t.held.position t.rest x) where
  abbrev pub now : Held
  now = record t.held { keys = saved_keys t.held }

  -- after the closing quote
  abbrev pub closed : ScannerState
  closed = on_held unled (go_on x (allow_key false now))

  abbrev pub piece : List ℕ
  piece = piece_of (are_single quotes) q.body

  abbrev tok : Tok
  tok = Tok.scalar (quoted_style quotes) x.value

  abbrev pub least : ℕ
  least = least_column (columns t.held.indent t.held.indents) (has_open_level t.held.indents)

  k : IsToken tok gives_node [] quoted_scalar (λ column piece. quoted_lines_fit column (element_of (are_single quotes)) piece) quoted_may_end (λ _ _ b. b)
  k = grind arith

  module _ (v : ScannerState) (c : Checked piece closed v) where
    abbrev pub spaces : List ℕ
    spaces = c.spaces.blanks ++ c.spaces.comment

    no_break : has_break spaces ≡ false
    no_break = sym (same_has_break spaces) ∙ c.spaces.no_break

    skipped : Holds (Cleared quoted_scalar least spaces v.rest) (skip_to_next_token v)
    unfolding skip_to_next_token
    skipped = skip_clears quoted_scalar least v.rest between spaces v.held (rw c.spaces.is_held (least_is (columns t.held.indent t.held.indents) (has_open_level t.held.indents) now refl refl a.are_levels))
        (inr (record { leading_is = λ i. ap (λ h. h.leading) c.spaces.is_held ∙ sym no_break; col_is = λ b. absurd (cc (b, no_break)); spaced = λ b. absurd (cc (b, no_break)) }))

    module _ (w : ScannerState) (b : Exact v w) (z : Cleared quoted_scalar least spaces v.rest w) where
      abbrev gap : List ℕ
      gap = spaces ++ b.separation

      abbrev end : Position
      end = position_after x.position gap w.rest

      abbrev allowed_then : Bool
      allowed_then = (not (in_flow t.held) && plains.has_break b.separation) || false

      held_is : w.held ≡ record closed.held { position = end; leading = b.is_leading; key_allowed = allowed_then }
      held_is = grind (arith, position_append)

      at_token : is_empty w.rest ≡ false → IsAt quoted_scalar least gap w.held
      at_token some = rw (sym (append_cancel_right z.passed b.separation w.rest (sym z.cut ∙ b.cut))) (z.clear some)

      next_is : x.rest ≡ gap ++ w.rest
      next_is = c.spaces.is_rest ∙ (sym (append_assoc c.spaces.blanks c.spaces.comment v.rest) ∙ (ap (λ r. spaces ++ r) b.cut ∙ sym (append_assoc spaces b.separation w.rest)))

      end_is : end ≡ position_after (position_after t.held.position piece (gap ++ w.rest)) gap w.rest
      end_is = ap (λ p. position_after p gap w.rest) (q.end_is ∙ ap (λ r. position_after t.held.position piece r) next_is)

      -- the scanner after it
      abbrev u : ScannerState
      u = record { rest = w.rest; held = push t.held.position tok (record closed.held { position = end; leading = b.is_leading; key_allowed = allowed_then; adjacent_value_at = end.index }) }

      leads : is_empty t.held.indents ≡ false → is_empty w.rest ≡ false → b.is_leading ≡ has_break gap
      leads i some = sym (ap (λ h. h.leading) held_is) ∙ (at_token some).leading_is (ap (λ h. is_empty h.indents) held_is ∙ i)

      one_line_of : is_empty w.rest ≡ false → end.line ≤ t.held.position.line → (has_break piece ≡ false) × (has_break gap ≡ false)
      one_line_of some h =
          let past : Position = position_after t.held.position piece (gap ++ w.rest) in
          let up : past.line ≤ (position_after past gap w.rest).line = (not_before_after past gap w.rest).0 in
          let first : t.held.position.line ≤ past.line = (not_before_after t.held.position piece (gap ++ w.rest)).0 in
          let same : end.line ≡ (position_after past gap w.rest).line = ap (λ p. p.line) end_is in
          (on_one_line t.held.position piece (gap ++ w.rest) (in_line (are_single quotes) q.body) (omega (arith, h, up, same)), unbroken past gap w.rest some b.solid (omega (arith, h, first, same)))

      module _ (fs : List FlowLevel) (ks : List (Option Key)) (es : List Entry) (flow : t.held.flow ≡ fs) (r : ArrivesBy text t fs ks es) where
        abbrev at : Site
        at = site_of t fs r.site

        abbrev fl : Bool
        fl = not (is_empty fs)

        least_here : least_column at.blocks at.awaits ≡ least
        least_here = ap (λ bs. least_column bs at.awaits) r.blocks_are ∙ ap (λ y. least_column (columns t.held.indent t.held.indents) y) r.awaits_is

        no_tabs : HasNoTabs (site_then t fs r.site piece tok (gap ++ w.rest)) gap w.rest
        no_tabs = grind (arith, k, or_false, k.awaits fl at.blocks at.awaits (gap ++ w.rest), least_here, at_token)

        is_read : IsRead t u None fs r.site r.line es r.separation tok piece gap
        is_read =
            let filled = separation_append false spaces b.separation w.rest (rw (sym b.cut) c.spaces.is_filled) b.is_filled in
            let breaks = break_append spaces b.separation ∙ (ap (λ y. y || has_break b.separation) no_break ∙ sym (same_has_break b.separation)) in
            let awaits_then = k.awaits fl at.blocks at.awaits (gap ++ w.rest) in
            let inside = ap (λ f. not (is_empty f)) flow in
            grind (arith, nat_tests, eqb-true, next_is, end_is, awaits_then, no_tabs, k, leads, some_levels, adjacent_quoted, deep_for, least_here, inside, or_false, one_line_of, filled, breaks)

      node : Onward text t.rest (on_held (λ s. push t.held.position tok (adjacent_here s)) w)
      node = rw held_is (node_read text t u None tok piece gap deep a is_read)

-- `'` or `"`
pub quoted_keeps : (text : List ℕ) (quotes : Quotes) (t : ScannerState) (more : List ℕ) → t.rest ≡ quote_of (are_single quotes) ∷ more → IsDeep t.held → Arrives text t → Holds (Onward text t.rest) (fetch_flow_scalar quotes t)
unfolding fetch_flow_scalar
quoted_keeps text quotes t more e deep a =
    let read_as : (x : machine.Read (List ℕ)) → quoted (are_single quotes) (context t.held) t.rest t.held.position ≡ Ok x → QuotedAs (are_single quotes) (context t.held) t.held.position t.rest x = λ x i.
    rw e (quoted_as quotes (context t.held) t.held.position more x ((and_parts (not (is_nul (quote_of (are_single quotes)))) (has_no_nul more) (subst (λ r. has_no_nul r ≡ true) e a.is_clean)).1) (subst (λ r. quoted (are_single quotes) (context t.held) r t.held.position ≡ Ok x) e i)) in
    rw (saved_is t.held)
    (read (allow_key false (record t.held { keys = saved_keys t.held })) (quoted (are_single quotes) (context t.held) t.rest t.held.position) _
    (λ x i. let q : QuotedAs (are_single quotes) (context t.held) t.held.position t.rest x = read_as x i in
    chained (quoted_checked t.held.position (piece_of (are_single quotes) q.body) (closed text quotes t a deep x q) (in_line (are_single quotes) q.body) (no_nul_after (piece_of (are_single quotes) q.body) x.rest (subst (λ r. has_no_nul r ≡ true) q.cut a.is_clean)) q.end_is)
    (λ v c. chained (both_hold (exact v) (skipped text quotes t a deep x q v c)) (λ w z. went (node text quotes t a deep x q v c w z.0 z.1)))))
