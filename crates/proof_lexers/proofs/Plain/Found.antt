-- What a plain scalar's scan finds from a position in it on, and what one character before that adds.
use Rattle.proof_lexers.proofs.Common.{[], and_parts, ap, append_assoc, arith, At, begins_flow, begins_token, begins_white, Bool, cases_Bool, collection_of, Context, ends_plain, ends_with_content, Err, false, Fault, Folded, goes_on, has_break, if◌then◌else◌, inl, inr, is_apart, is_before_line_feed, is_gap, is_white, joined, List, nat_lt, not, Ok, on_line, Option, or-false, or-true, or_parts, Plain, Position, position_after, position_past, Read, refl, Result, Stand, stand_after, stops, sym, true, with_blank, with_break, with_char, ℕ, ◌++◌, ◌||◌, ◌∙◌, ◌∷◌, ◌≡◌, PlainDashInFlow, PlainTab}
use Rattle.defs_text.specs.Classes.{is_blank, is_break, is_flow}
use Rattle.defs_token.specs.Plain.{inside, past}

-- ---- the buffers, a character at a time

-- after a character, before the text after it; of CR LF the CR adds nothing
abbrev pub after_char : ℕ → List ℕ → Folded → Folded
after_char c r t = (if is_break c then (if is_before_line_feed c r then t else with_break t) else (if is_blank c then with_blank c t else with_char c (joined t)))

-- after a text
abbrev pub after_text : List ℕ → Folded → Folded
after_text [] t = t
after_text (c ∷ r) t = after_text r (after_char c r t)

-- whether a break stands before the gap's end: after content only in the gap itself
abbrev pub leads : (more : List ℕ) → Folded → (gap : List ℕ) → Bool
leads [] t gap = t.leading || has_break gap
leads (c ∷ r) t gap = has_break gap

-- what stands before the gap
abbrev pub after_more : Stand → List ℕ → Stand
after_more s [] = s
after_more s (c ∷ r) = inside

-- whether a text ends with content, where it isn't empty
abbrev pub is_solid_end : List ℕ → Bool
is_solid_end [] = true
is_solid_end (c ∷ r) = ends_with_content c r

-- what a scalar goes on over, by its first character
pub further_on : (flow : Bool) (collection : Option ℕ) (s : Stand) (d : ℕ) (q next : List ℕ) → goes_on flow collection s (d ∷ q) next ≡ true → ((is_white d || not (ends_plain flow collection s (d ∷ (q ++ next)))) ≡ true) × (goes_on flow collection (past s d) q next ≡ true)
further_on flow collection s d q next goes = and_parts (is_white d || not (ends_plain flow collection s (d ∷ (q ++ next)))) (goes_on flow collection (past s d) q next) goes

pub tab_blank : is_blank 9 ≡ true
unfolding is_blank
tab_blank = refl

pub flow_solid : (c : ℕ) → is_flow c ≡ true → is_white c ≡ false
unfolding is_flow is_blank is_break
flow_solid c h = grind (arith, h)

-- In flow a scalar does not go on over the start of a text that begins with a flow indicator, up to another character.
pub no_flow : (flow : Bool) (collection : Option ℕ) (s : Stand) (before : List ℕ) (c : ℕ) (more rest : List ℕ) → flow ≡ true → rest ≡ before ++ c ∷ more → is_flow c ≡ false → begins_flow rest ≡ true → goes_on flow collection s before (c ∷ more) ≡ true → ⊥
no_flow flow collection s [] c more rest e cut other begins goes = cc (ap begins_flow cut, begins, other)
no_flow flow collection s (d ∷ before) c more rest e cut other begins goes = grind (arith, further_on, or-true, flow_solid)

-- whether a text begins with a break
abbrev pub begins_break : List ℕ → Bool
begins_break [] = false
begins_break (c ∷ r) = is_break c

-- of CR LF the LF is a break
pub feed_breaks : (c : ℕ) (gap rest : List ℕ) → is_before_line_feed c (gap ++ rest) ≡ true → begins_break rest ≡ false → has_break gap ≡ true
unfolding is_break
feed_breaks c [] [] h ends = cc
feed_breaks c gap rest h ends = grind arith

-- whether a text begins with blanks and a token after them
abbrev pub token_ahead : List ℕ → Bool
token_ahead [] = false
token_ahead (c ∷ a) = (if is_blank c then token_ahead a else begins_token (c ∷ a))

module _ (ctx : Context) (start : Position) where
  -- The text after a position in a scalar has a TAB at a line's start and content after it.
  pub data Tabbed (s : Stand) (a : List ℕ) : Type 0 where
    tab : (before next : List ℕ) (column : ℕ) → a ≡ before ++ 9 ∷ next → goes_on ctx.flow (collection_of ctx.indent) s before (9 ∷ next) ≡ true → stand_after s before ≡ on_line column → nat_lt column ctx.indent ≡ true
        → token_ahead next ≡ true → Tabbed s a

  -- Why the text after a position in a scalar is refused: such a TAB; or, without one, a dash before a flow indicator.
  pub data Fails (s : Stand) (p : Position) (a : List ℕ) : Fault → Type 0 where
    tabbed : Tabbed s a → Fails s p a (At PlainTab start)
    dash : (before rest : List ℕ) → (Tabbed s a → ⊥) → ctx.flow ≡ true → a ≡ before ++ 45 ∷ rest → begins_flow rest ≡ true → goes_on ctx.flow (collection_of ctx.indent) s before (45 ∷ rest) ≡ true → is_apart (stand_after s before) ≡ true
        → Fails s p a (At PlainDashInFlow (position_after p before (45 ∷ rest)))

  abbrev pub left : Position → Folded → (more gap rest : List ℕ) → Read Plain
  left p t more gap rest = record { rest = rest; position = position_after p (more ++ gap) rest; value = record { text = (after_text more t).text; leading = leads more t gap } }

  -- What a scan finds: the scalar goes on over more of the text, a gap is after that, and there it ends; or the text is refused.
  pub data Found (s : Stand) (p : Position) (t : Folded) (a : List ℕ) (x : Result (Read Plain) Fault) : Type 0 where
    found : (more gap rest : List ℕ) → a ≡ more ++ (gap ++ rest) → goes_on ctx.flow (collection_of ctx.indent) s more (gap ++ rest) ≡ true → is_solid_end more ≡ true
        → stops ctx.flow (collection_of ctx.indent) (after_more s more) (gap ++ rest) ≡ true → is_gap gap ≡ true → begins_white rest ≡ false → x ≡ Ok (left p t more gap rest) → Found s p t a x
    fails : (f : Fault) → Fails s p a f → x ≡ Err f → Found s p t a x

  pub same_left : (rest u v : List ℕ) (p q : Position) (b d : Bool) → p ≡ q → u ≡ v → b ≡ d
      → ◌≡◌ {A = Result (Read Plain) Fault} (Ok (record { rest = rest; position = p; value = record { text = u; leading = b } })) (Ok (record { rest = rest; position = q; value = record { text = v; leading = d } }))
  same_left rest u v p q b d e f g = rw (e, f, g) refl

  same_position : (c : ℕ) (a more gap rest : List ℕ) (p : Position) → a ≡ more ++ (gap ++ rest) → position_after (position_past p c a) (more ++ gap) rest ≡ position_after p (c ∷ (more ++ gap)) rest
  same_position c a more gap rest p cut = ap (λ b. position_after (position_past p c b) (more ++ gap) rest) (cut ∙ sym (append_assoc more gap rest))

  -- no character here is such a TAB
  abbrev pub NoTab : ℕ → List ℕ → Stand → Type 0
  NoTab c a s = (column : ℕ) → c ≡ 9 → s ≡ on_line column → nat_lt column ctx.indent ≡ true → token_ahead a ≡ false

  -- such a TAB later in the text is told after the first character too
  pub later_tab : (c : ℕ) (a : List ℕ) (s : Stand) → NoTab c a s → Tabbed s (c ∷ a) → Tabbed (past s c) a
  later_tab c a s other (tab [] next column cut goes line less token) = absurd (cc (other column (cc cut) line less, cut, token))
  later_tab c a s other (tab (d ∷ before) next column cut goes line less token) =
      let same : c ≡ d = cc cut in
      tab before next column (cc cut) (rw same ((further_on ctx.flow (collection_of ctx.indent) s d before (9 ∷ next) goes).1)) (rw same line) less token

  -- the same refusal, told from one character before; that one is no end of the scalar
  further : (c : ℕ) (a : List ℕ) (s : Stand) (p : Position) (f : Fault) → (is_white c || not (ends_plain ctx.flow (collection_of ctx.indent) s (c ∷ a))) ≡ true → NoTab c a s → Fails (past s c) (position_past p c a) a f → Fails s p (c ∷ a) f
  further c a s p f on other (dash before rest free flow cut begins goes apart) =
      let place : position_after (position_past p c a) before (45 ∷ rest) ≡ position_after p (c ∷ before) (45 ∷ rest) = ap (λ b. position_after (position_past p c b) before (45 ∷ rest)) cut in
      rw place (dash (c ∷ before) rest (λ t. free (later_tab c a s other t)) flow (ap (λ r. c ∷ r) cut) begins (rw (rw cut at on) goes) apart)
  further c a s p f on other (tabbed (tab before next column cut goes line less token)) = tabbed (tab (c ∷ before) next column (ap (λ r. c ∷ r) cut) (rw (rw cut at on) goes) line less token)

  gap_text : (c : ℕ) (a : List ℕ) (t : Folded) → is_white c ≡ true → (after_char c a t).text ≡ t.text
  gap_text c a t h = grind arith

  -- What is found after a character that is no end of the scalar, told from before it.
  pub grown : (c : ℕ) (a : List ℕ) (s : Stand) (p : Position) (t : Folded) (x : Result (Read Plain) Fault) → (is_white c || not (ends_plain ctx.flow (collection_of ctx.indent) s (c ∷ a))) ≡ true → NoTab c a s
      → Found (past s c) (position_past p c a) (after_char c a t) a x → Found s p t (c ∷ a) x
  grown c a s p t x on other (found [] gap rest cut goes solid stop gaps ends is) = elim (cases_Bool (is_white c)) [
    | inl white ↦
        found [] (c ∷ gap) rest (ap (λ r. c ∷ r) cut) refl refl (rw white stop) (rw white gaps) ends
        (is ∙ same_left rest _ _ _ _ _ _ (same_position c a [] gap rest p cut) (gap_text c a t white) (ap (λ b. (after_char c b t).leading || has_break gap) cut ∙ (grind (arith, feed_breaks, or-false))))
    | inr white ↦
        let q = or_parts (is_blank c) (is_break c) white in
        found (c ∷ []) gap rest (ap (λ r. c ∷ r) cut) (rw (rw cut at on) refl) (rw (q.0, q.1) refl) (rw (q.0, q.1) at stop) gaps ends
        (is ∙ same_left rest _ _ _ _ _ _ (same_position c a [] gap rest p cut) (rw (q.0, q.1) refl) (rw (q.0, q.1) refl))
  ]
  grown c a s p t x on other (found (d ∷ more) gap rest cut goes solid stop gaps ends is) =
      found (c ∷ d ∷ more) gap rest (ap (λ r. c ∷ r) cut) (rw (rw cut at on) goes) solid stop gaps ends
      (is ∙ same_left rest _ _ _ _ _ _ (same_position c a (d ∷ more) gap rest p cut) (ap (λ b. (after_text (d ∷ more) (after_char c b t)).text) cut) refl)
  grown c a s p t x on other (fails f why is) = fails f (further c a s p f on other why) is

  -- Text that begins with a flow indicator has no TAB that is told from there.
  pub flow_untabbed : (a : List ℕ) (s : Stand) → ctx.flow ≡ true → begins_flow a ≡ true → Tabbed s a → ⊥
  unfolding is_flow
  flow_untabbed a s flow b d = grind (arith, no_flow, refl)

  pub dash_untabbed : (c : ℕ) (a : List ℕ) (s : Stand) → ctx.flow ≡ true → c ≡ 45 → begins_flow a ≡ true → Tabbed s (c ∷ a) → ⊥
  dash_untabbed c a s flow is begins t = flow_untabbed a (past s c) flow begins (later_tab c a s (λ column i l less. absurd (cc (is, i))) t)
