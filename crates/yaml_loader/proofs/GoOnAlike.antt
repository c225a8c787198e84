-- Loaders that stand alike stand alike after each event.
use Rattle.yaml_loader.proofs.Common.{[], ap, at_work, documents_of, Ev, List, Loader, loader_of, new_loader, no_event, noted, Ok, one_event, Position, Receives, refl, refused_at, StandAlike, subst, sym, Takes, with_event_at, with_events, YamlLoader, ◌++◌, ◌∙◌, ◌∷◌, ◌≡◌}
use Rattle.yaml_loader.specs.Reached.{Reaches, here, after}
use Rattle.yaml_loader.proofs.Beside.{beside_documents, beside_refused, event_at_beside, may_finish_same, noting, refusing, Same, StandBeside, suits_same, working}

pub alike_beside : {l m : Loader} → StandAlike l m → StandBeside Same [] l m
alike_beside {l = at_work u} {m = at_work v} h = working (record {
  is = λ i. record { documents = h.documents i; opened = h.opened i; root = h.root i; anchors = u.anchors };
  anchors = h.aliases;
  opened = may_finish_same v.opened;
})
alike_beside {l = noted documents key at} h = subst (StandBeside Same [] (noted documents key at)) h (noting refl)
alike_beside {l = Loader.refused documents at} h = subst (StandBeside Same [] (Loader.refused documents at)) h (refusing refl)
alike_beside {l = at_work u} h = absurd h

beside_alike : {l m : Loader} → StandBeside Same [] l m → StandAlike l m
beside_alike (working h) = record { documents = ap (λ u. u.documents) h.is; opened = ap (λ u. u.opened) h.is; root = ap (λ u. u.root) h.is; aliases = h.anchors }
beside_alike (noting {key = key} {p = p} e) = ap (λ ds. noted ds key p) e
beside_alike (refusing {p = p} e) = ap (λ ds. Loader.refused ds p) e

pub event_at_alike : (l m : Loader) (e : Ev) (p : Position) → StandAlike l m → StandAlike (with_event_at l e p) (with_event_at m e p)
event_at_alike l m e p h = beside_alike (event_at_beside e p (suits_same e) (alike_beside h))

alike_trans : {l m : Loader} (n : Loader) → StandBeside Same [] l m → StandAlike m n → StandAlike l n
alike_trans (at_work w) (working h) k = record {
  documents = ap (λ u. u.documents) h.is ∙ k.documents;
  opened = ap (λ u. u.opened) h.is ∙ k.opened;
  root = ap (λ u. u.root) h.is ∙ k.root;
  aliases = λ n. h.anchors n ∙ k.aliases n;
}
alike_trans n (working h) k = absurd k
alike_trans n (noting {key = key} {p = p} e) k = ap (λ ds. noted ds key p) e ∙ k
alike_trans n (refusing {p = p} e) k = ap (λ ds. Loader.refused ds p) e ∙ k

-- a loader that is reached stands as the definitions say
reached : {l n : YamlLoader} {es : List (Ev × Position)} (x : Loader) → StandAlike x (loader_of l) → Reaches l es n → StandAlike (with_events x es) (loader_of n)
reached x h (here l) = h
reached x h (after {m = m} {e = e} {p = p} takes rest) =
    reached (with_event_at x e p) (alike_trans (loader_of m) (event_at_beside e p (suits_same e) (alike_beside h)) takes.reads) rest

pub show_the_same : (l m : Loader) → StandAlike l m → (documents_of l ≡ documents_of m) × (refused_at l ≡ refused_at m)
show_the_same l m h = let b = alike_beside h in (beside_documents b, beside_refused b)

pub read_as_defined : (empty loader : YamlLoader) (events : List (Ev × Position)) → loader_of empty ≡ new_loader → Reaches empty events loader
    → StandAlike (with_events new_loader events) (loader_of loader)
read_as_defined empty loader events e h =
    reached new_loader (subst (StandAlike new_loader) (sym e) (record { documents = refl; opened = refl; root = refl; aliases = λ n. refl })) h

-- ---- what was taken is reached

reaches_and : {l m n : YamlLoader} {es : List (Ev × Position)} {e : Ev} {p : Position} → Reaches l es m → Takes m e p (Ok tt) n → Reaches l (es ++ (e, p) ∷ []) n
reaches_and {n = n} (here l) last = after last (here n)
reaches_and (after first rest) last = after first (reaches_and rest last)

pub reaches : {l n : YamlLoader} {es : List (Ev × Position)} → Receives Takes l es n → Reaches l es n
reaches {l} no_event = here l
reaches (one_event e p before last) = reaches_and (reaches before) last
