-- A key or a value that is taken at once with the token before it: as if both tokens were looked at and taken, one after the other.
use Rattle.yaml_parser.proofs.Common.{HasNoText, is_end, Kind, kind_of, names_at, Takes, tok_of, tok_of_kind, [], after_scalar, all_shown, answered, Answers, ap, append-nil, append_assoc, At, Err, Ev, EventSlot, false, Faulted, Goal, HandsOut, IfNone, indicator_of, is_over, IsHanded, List, mapping_under, Names, None, Ok, OnErr, OnOk, Option, OutOfMemory, pair_node_written, placed, Position, Reader, refl, Result, scalar_of, Scanned, scanned, shown, shown_list, Skips, Some, State, Stayed, string_chars, Style, subst, sym, TakesBoth, Token, Tokens, ◌++◌, ◌∙◌, ◌∷◌, ◌≡◌, arith}
use Rattle.yaml_tokens.specs.declared.token.TokenType.{TokenType}
use Rattle.yaml_scanner.specs.declared.key_value.PlainNode.{PlainNode}
use Rattle.yaml_parser.proofs.Arms.{Skipped, stays, stay, goes, answers_written, under_no_colon}
use Rattle.yaml_parser.proofs.NodeArms.{scalar_taken, bare}
use Rattle.yaml_parser.proofs.Steps.{looks_on, if_some_at}
use Rattle.yaml_tokens.specs.declared.token.TokenType.TheVariants as token
use Rattle.model_parser.specs.declared.context.NodeContext.TheVariants as context
use Rattle.model_parser.specs.declared.kind.Kind.TheVariants as kind
use Rattle.model_parser.specs.declared.state.State.TheVariants as state

-- ---- the tokens between

-- one token more is handed out and looked at
abbrev looking : {T : Type 0} → Tokens T → Scanned → Token → Tokens T
looking p s t = record p { scanner = record p.scanner { so_far = s }; peeked = Some t }

-- it is taken
abbrev taking : {T : Type 0} → Tokens T → Token → Tokens T
taking p t = record p { peeked = None; taken = record p.taken { items = p.taken.items ++ t ∷ [] } }

looking_handed : {T : Type 0} (p : Tokens T) {s : Scanned} (t : Token) → p.peeked ≡ None → HandsOut (scanned p.scanner) (shown t) s → IsHanded p → IsHanded (looking p s t)
looking_handed p {s} t none h a =
    h.given ∙ ap (λ ts. ts ++ shown t ∷ []) (a ∙ ap (λ o. all_shown p.taken.items ++ shown_list o) none ∙ append-nil (all_shown p.taken.items))

-- The next token is looked at.
looks : {T : Type 0} (p : Reader T) (s : Scanned) (t : Token) {g : Goal} {names : Names} {given : List (Ev × Position)}
    → p.tokens.peeked ≡ None → HandsOut (scanned p.tokens.scanner) (shown t) s → is_over g ≡ false → At g p names given → At g (record p { tokens = looking p.tokens s t }) names given
looks p s t none h going a = looks_on refl (λ u e. let no : None ≡ Some u = sym none ∙ e in cc) (looking_handed p.tokens t none h) (λ _. (h.ended, h.fault)) refl refl going a

-- It is taken, and a state more is awaited.
takes : {T : Type 0} (p : Reader T) (s : Scanned) (t : Token) (x : State)
    → Skipped (record p { tokens = looking p.tokens s t }) (record p { tokens = taking (looking p.tokens s t) t; stack = x ∷ p.stack }) (x ∷ p.stack)
takes p s t x = λ u e. record { tokens = if_some_at (λ v. Skips (looking p.tokens s t) v (taking (looking p.tokens s t) t)) {o = Some t} (record { peeked = refl; taken = refl; scanner = refl }) e; stack = refl; names = refl }

-- ---- the scalar

-- The scalar that comes next is looked at and taken.
part_scalar : {T : Type 0} (p r : Reader T) (s : Scanned) (n : PlainNode) {names : Names} {given : List (Ev × Position)}
    → p.tokens.peeked ≡ None → HandsOut (scanned p.tokens.scanner) (shown (scalar_of n)) s → Skips (looking p.tokens s (scalar_of n)) (scalar_of n) r.tokens → r.stack ≡ p.stack → r.names ≡ p.names
    → At Goal.pair_node p names given → (names' : Names) × At Goal.done r names' (given ++ (Ev.scalar (string_chars n.text) Style.plain 0 None, n.mark) ∷ [])
part_scalar {T} p r s n {names} {given} none h skips stack same a =
    let q : Reader T = record p { tokens = looking p.tokens s (scalar_of n) } in
    let one : At Goal.pair_node q names given = looks p s (scalar_of n) none h refl a in
    let two : At (Goal.node context.Pair) q names given = stays {k = kind.Scalar} refl stay (λ t e. pair_node_written _ t (grind arith)) refl tt (λ o. tt) refl one in
    let three = bare {k = kind.Scalar} context.Pair refl ((λ e. cc), (λ e. cc), (λ e. cc)) two in
    scalar_taken n.mark {p = q} {q = r} {r = r} {x = None} refl refl skips stack same refl (after_scalar _ _ None _ _)
    (λ _ c. record { value = (refl, refl); tokens = refl; stack = refl; keep = refl; code = c }) (under_no_colon p.stack (mapping_under p.stack a.stands.fits)) (record { both = refl; anchor = refl; tag = refl }) three

-- ---- both

-- where the reader stands after the first of two tokens, with a state more awaited
abbrev past_first : {T : Type 0} → Reader T → Scanned → Token → State → Reader T
past_first p s t x = record p { tokens = taking (looking p.tokens s t) t; stack = x ∷ p.stack }

both_taken : {T : Type 0} {old : Tokens T} {k : TokenType} {n : PlainNode} {new : Tokens T} (b : TakesBoth old k n new)
    → Skips (looking (taking (looking old b.hands.between (indicator_of k n)) (indicator_of k n)) (scanned new.scanner) (scalar_of n)) (scalar_of n) new
both_taken {T} {old} {k} {n} {new} b = record {
  peeked = b.peeked;
  taken = b.taken ∙ sym (append_assoc old.taken.items (indicator_of k n ∷ []) (scalar_of n ∷ []));
  scanner = ap (λ t. record new.scanner { start = t }) b.start;
}

-- What a key or a value comes to, with the scalar after it.
pub pair_taken : {T : Type 0} {p q r : Reader T} {k : TokenType} {n : PlainNode} {d : Kind} {x : State} {names : Names} {given : List (Ev × Position)} (g : Goal) → kind_of (tok_of k) ≡ d → HasNoText d → is_end (tok_of_kind d) ≡ false → is_over g ≡ false
    → names_at p.names.keeping.tags Goal.pair_node names ≡ names_at p.names.keeping.tags g names → Takes g p.stack (tok_of_kind d) None Goal.pair_node (x ∷ p.stack) → TakesBoth p.tokens k n q.tokens → q.stack ≡ p.stack → q.names ≡ p.names → Stayed q r (x ∷ q.stack)
    → At g p names given → (names' : Names) × At Goal.done r names' (given ++ (Ev.scalar (string_chars n.text) Style.plain 0 None, n.mark) ∷ [])
pair_taken {T} {p} {q} {r} {k} {n} {d} {x} {names} {given} g is plain no_end going seen turn b stack same s a =
    let t = indicator_of k n in
    let one : At g (record p { tokens = looking p.tokens b.hands.between t }) names given = looks p b.hands.between t b.none b.hands.first going a in
    let two : At Goal.pair_node (past_first p b.hands.between t x) names given = goes {k = d} is refl plain (takes p b.hands.between t x) turn seen tt going no_end (λ u i. tt) one in
    part_scalar (past_first p b.hands.between t x) r (scanned q.tokens.scanner) n refl b.hands.second
    (subst (λ u. Skips (looking (taking (looking p.tokens b.hands.between t) t) (scanned q.tokens.scanner) (scalar_of n)) (scalar_of n) u) (sym s.tokens) (both_taken b))
    (s.stack ∙ ap (λ ss. x ∷ ss) stack) (s.names ∙ same) two

-- ---- what is answered

pub if_none : {A : Type 0} {P : Type 0} {o : Option A} → IfNone o P → o ≡ None → P
if_none {A} {P} h e = subst (λ o. IfNone o P) e h

pub at_same : {T : Type 0} {p q : Reader T} {g : Goal} {names : Names} {given : List (Ev × Position)} → q ≡ p → At g p names given → At g q names given
at_same {g = g} {names} {given} same a = subst (λ r. At g r names given) (sym same) a

-- The scalar is written, and a state more is awaited; or memory was refused.
pub answers_plain : {T E : Type 0} {q : Reader T} (r : Reader T) {x : State} (n : PlainNode) (given : List (Ev × Position)) (res : Result (Unit {0}) E) (slot : EventSlot)
    → OnOk res (placed slot.next ≡ (Ev.scalar (string_chars n.text) Style.plain 0 None, n.mark)) → OnOk res (Stayed q r (x ∷ q.stack)) → OnErr res (slot.fault ≡ Some OutOfMemory)
    → (Stayed q r (x ∷ q.stack) → (names : Names) × At Goal.done r names (given ++ (Ev.scalar (string_chars n.text) Style.plain 0 None, n.mark) ∷ [])) → Answers r given (answered res slot)
answers_plain r n given (Ok u) slot event stayed err f = answers_written r given slot.next event (f stayed)
answers_plain r n given (Err e) slot event stayed err f = subst (Faulted r given) (sym err) tt
