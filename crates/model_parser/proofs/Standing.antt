-- Where a parser stands at first, after a look at the next token, at the next state of its stack, at the end, and after a turn.
use Rattle.model_parser.proofs.Common.{[], ap, append-nil, arith, as_tokens, at_directive, Derives, first_may, Goal, goal_of, goes_on, grammar, IsSettled, List, None, nothing_left, Option, Raw, refl, State, StreamSays, subst, sym, Tok, top, ◌++◌, ◌∙◌, ◌∷◌, ◌≡◌, alike, alike_after, append_assoc, before_directive, both_ways, Collection, event_then, is_after, is_directive_next, is_past_directives, Leaves, MayCome, Next, next_after, next_at, next_past, open_after, open_past, other_next, Settles, Some, Takes, then_event, true, without_node}
use Rattle.model_parser.specs.Stands.{IsOnTrack, GoesOn}
use Rattle.model_parser.proofs.StepRows.{first_any}
use Rattle.model_parser.specs.declared.state.State.TheVariants as state

pub begins : (p : Option Tok) → IsOnTrack Goal.done (state.Stream ∷ []) [] p []
begins p = record {
  nested = (tt, tt);
  fits = tt;
  opened = refl;
  settled = as_tokens refl;
  past = λ h. cc;
  sound = λ ts es a. a.0;
  exact = λ ts es u d. (es, refl, (d, first_any Goal.done (state.Stream ∷ []) ts (λ k. refl)));
}

-- The next token is looked at.
pub looks : {g : Goal} {ss : List State} {taken : List Tok} {given : List Raw} (o : Option Tok) → IsOnTrack g ss taken None given → IsOnTrack g ss taken o given
looks {g} {ss} {taken} o s = record {
  nested = s.nested;
  fits = s.fits;
  opened = s.opened;
  settled = let h = s.settled in grind (arith, as_tokens);
  past = λ h. absurd (s.past h);
  sound = s.sound;
  exact = λ ts es u d. s.exact ts es tt d;
}

-- What a state reads is read next.
pub top_of : (s : State) (ss : List State) → top (goal_of s) ss ≡ goal_of s
top_of s ss = grind arith

pub first_of : (s : State) (ss : List State) (ts : List Tok) → first_may Goal.done (s ∷ ss) ts ≡ first_may (goal_of s) ss ts
first_of s ss ts = grind arith

pub pops : {s : State} {ss : List State} {taken : List Tok} {p : Option Tok} {given : List Raw} → IsOnTrack Goal.done (s ∷ ss) taken p given → IsOnTrack (goal_of s) ss taken p given
pops {s} {ss} {taken} {p} h = record {
  nested = h.nested.1;
  fits = h.nested.0;
  opened = h.opened;
  settled = let e = h.settled in let same = top_of s ss in grind (arith, as_tokens, goes_on, at_directive);
  past = λ e. h.past (grind arith);
  sound = λ ts es a. h.sound ts es (a.0, first_of s ss ts ∙ a.1);
  exact = λ ts es u d. let x = h.exact ts es u d in (x.0, x.1, (x.2.0, sym (first_of s ss ts) ∙ x.2.1));
}

-- At the end the tokens taken are a stream, and begin no other.
read_out : (ts : List Tok) (es : List Raw) → Derives grammar [] ts es → (ts ≡ []) × (es ≡ [])
read_out ts es d = grind arith

pub ends : (ss : List State) (taken : List Tok) (given : List Raw) → IsOnTrack Goal.ended ss taken None given → StreamSays taken given × ((ts : List Tok) (es : List Raw) → StreamSays (taken ++ ts) es → (ts ≡ []) × (es ≡ given))
ends [] taken given s = (
  subst (λ ts. StreamSays ts given) (append-nil taken) (subst (λ es. StreamSays (taken ++ []) es) (append-nil given) (s.sound [] [] (nothing_left, refl))),
  λ ts es d. let x = s.exact ts es tt d in let y = read_out ts x.0 x.2.0 in (y.0, x.1 ∙ ap (λ fs. given ++ fs) y.1 ∙ append-nil given),
)
ends (s ∷ ss) taken given h = absurd h.fits

-- ---- after a turn

event_along : (given fs : List Raw) (e : Option Raw) → given ++ event_then e fs ≡ then_event given e ++ fs
event_along given fs e = grind (arith, append_assoc)

open_more : (cs : List Collection) (ts : List Tok) (t : Tok) → open_after cs (ts ++ t ∷ []) ≡ open_past t (open_after cs ts)
open_more cs [] t = refl
open_more cs (u ∷ ts) t = open_more (open_past u cs) ts t

pub next_more : (n : Next) (ts : List Tok) (t : Tok) → next_after n (ts ++ t ∷ []) ≡ next_past t
next_more n [] t = refl
next_more n (u ∷ ts) t = next_more (next_past u) ts t

pub stands_take : (g : Goal) (ss : List State) (t : Tok) (e : Option Raw) (g' : Goal) (ss' : List State) (taken : List Tok) (given : List Raw)
    → Takes g ss t e g' ss' → IsOnTrack g ss taken (Some t) given → IsOnTrack g' ss' (taken ++ t ∷ []) None (then_event given e)
stands_take g ss t e g' ss' taken given k s = record {
  nested = (k.nested s.nested s.fits).0;
  fits = (k.nested s.nested s.fits).1;
  opened = open_more [] taken t ∙ ap (open_past t) s.opened ∙ k.opened;
  settled = as_tokens (next_more other_next taken t ∙ k.next s.fits);
  past = λ h. absurd (both_ways (is_past_directives g' ss') (k.past s.fits) h);
  sound = λ ts es a.
      let d = s.sound (t ∷ ts) (event_then e es) (k.comes s.fits ts es a) in
      subst (λ us. StreamSays us (then_event given e ++ es)) (sym (append_assoc taken (t ∷ []) ts)) (subst (λ fs. StreamSays (taken ++ t ∷ ts) fs) (event_along given es e) d);
  exact = λ ts es u d.
      let x = s.exact (t ∷ ts) es refl (subst (λ us. StreamSays us es) (append_assoc taken (t ∷ []) ts) d) in
      let y = k.goes s.fits ts x.0 x.2 in
      (y.0, x.1 ∙ ap (λ fs. given ++ fs) y.1 ∙ event_along given y.0 e, y.2);
}

-- a token that may come here goes on
comes_on : (g : Goal) (ss : List State) (p : Option Tok) (taken : List Tok) (given : List Raw) → IsOnTrack g ss taken p given → MayCome g ss p → GoesOn taken p
comes_on g ss None taken given s m = m
comes_on g ss (Some t) taken given s m = (m.0, given ++ m.1, s.sound (t ∷ m.0) m.1 m.2)

as_before : (g : Goal) (ss : List State) (p : Option Tok) (g' : Goal) (ss' : List State) (taken : List Tok) → next_at g ss ≡ next_at g' ss'
    → (is_after (top g ss) ≡ true → is_directive_next p ≡ true → ⊥) → IsSettled g ss taken p → IsSettled g' ss' taken p
as_before g ss p g' ss' taken e never s = grind (arith, as_tokens, goes_on)

settled_on : (g : Goal) (ss : List State) (p : Option Tok) (g' : Goal) (ss' : List State) (taken : List Tok) (given : List Raw) → Settles g ss p g' ss' → IsOnTrack g ss taken p given → IsSettled g' ss' taken p
settled_on g ss p g' ss' taken given (alike e n) s = as_before g ss p g' ss' taken e (λ a d. both_ways (is_after (top g ss)) n a) s.settled
settled_on g ss p g' ss' taken given (alike_after e n) s = as_before g ss p g' ss' taken e (λ a d. both_ways (is_directive_next p) n d) s.settled
settled_on g ss p g' ss' taken given (without_node h m) s = goes_on h (comes_on g ss p taken given s m)
settled_on g ss p g' ss' taken given (before_directive a d) s = at_directive a d

pub stands_leave : (g : Goal) (ss : List State) (p : Option Tok) (e : Option Raw) (g' : Goal) (ss' : List State) (taken : List Tok) (given : List Raw)
    → Leaves g ss p e g' ss' → IsOnTrack g ss taken p given → IsOnTrack g' ss' taken p (then_event given e)
stands_leave g ss p e g' ss' taken given k s = record {
  nested = (k.nested s.nested s.fits).0;
  fits = (k.nested s.nested s.fits).1;
  opened = s.opened ∙ k.opened;
  settled = settled_on g ss p g' ss' taken given (k.settles s.fits) s;
  past = λ h. let q = k.past s.fits h in grind (arith, s.past);
  sound = λ ts es a. subst (λ fs. StreamSays (taken ++ ts) fs) (event_along given es e) (s.sound ts (event_then e es) (k.comes s.nested s.fits ts es a));
  exact = λ ts es u d.
      let x = s.exact ts es u d in
      let y = k.goes s.nested s.fits ts x.0 u x.2 in
      (y.0, x.1 ∙ ap (λ fs. given ++ fs) y.1 ∙ event_along given y.0 e, y.2);
}
