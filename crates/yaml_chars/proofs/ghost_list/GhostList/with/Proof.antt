-- `with` makes a value of no bytes, whose ghost field is what `before` shows, and one item more.
use Rattle.yaml_chars.proofs.LogicWords.{ !, [], agg, alive, alloc_all, and_then, done, ends_at, enter, Fml, free_all, get, join, keep, look_at, makes_shadow, move, no_more, nothing, owns, pass_all, proved, qed, raw, refl, Res, returns, says, sets, split, suffices, type_at, types_at, use0, Val, vcons, vnil, vstruct, walk_of, ‵, ◌$◌, ◌∵◌, ◌∷◌, ◌⊛◌, a_type, inst_fn, layouts, fjoin, Goes-dropped, param, plain, RefOf, shr_vals, Slot, stay_dropped, Stays, yes, ◌++◌}
use Rattle.yaml_chars.specs.contracts.ghost_list.GhostList as history
use Rattle.yaml_chars.specs.contracts.ghost_list.GhostList.with.{ended, clauses}
use Rattle.yaml_chars.specs.contracts.ghost_list.GhostList.with.Key.{name as #self}
use Rattle.yaml_chars.proofs.ghost_list.GhostList.with.Statement as stated
use Rattle.yaml_chars.proofs.ghost_list.GhostList.with.Code as code

pub with_spec : {M : Type 1} → stated.statement M
with_spec 𝓤 𝓛 𝓜 𝓡 wired Y laws =
    let T = ended Y in
    let before : Slot 3 = RefOf (0 ∷ []) tt (plain (λ _. history.the_row (param 0 Y))) (λ _. tt) in
    let item : Slot 3 = RefOf (1 ∷ []) tt (plain (λ _. param 0 Y)) (λ _. tt) in
    let hs : Stays T.signature.params T.kept = (stay_dropped before yes, (stay_dropped item yes, tt)) in
    let c = clauses Y 𝓛 𝓜.mem 𝓡.returns in
    let at = layouts (a_type ∷ []) (Y, tt) in
    proved 𝓛 T hs c 𝓜 𝓡 (Goes-dropped 𝓛 3 before yes (λ κs x f. refl), (Goes-dropped 𝓛 3 item yes (λ κs x f. refl), tt))
    (#self at) (inst_fn at code.function) (code.unfolded 𝓤 𝓛.H 𝓜 𝓡 wired (Y, tt))
    (λ κs. (shr_vals, (shr_vals, tt))) (λ κs. ((λ x vs p. p.0), ((λ x vs p. p.0), tt))) (λ κs qs bounds a g are.
    let y : (walk_of 𝓛 T hs c).Ghost = ((κs, qs, bounds, a, (shr_vals a.0, (shr_vals a.1.0, tt))), g) in
    let v : Val = vstruct (vcons (vstruct vnil) vnil) in
    let r : Res T.signature κs = record { marker = record {}; items = a.0.now.items ++ a.1.0.now ∷ [] } in
    let O : Fml = (type_at T.signature.result κs).own_val r (v ∷ []) in
    qed 𝓛 ((raw (alive 𝓛 T.signature κs qs) ⊛ ‵ (owns (types_at T.signature.params κs) a y.0.4)) ∷ raw ((c κs a).requires g) ∷ []) ∵
    split ! $ keep ! (0 ∷ []) $ enter ! _ _ _ _ _ $ alloc_all ! (λ l. pass_all ! refl ((tt, tt), ((tt, tt), tt)) $
    sets ! (agg ! (no_more !)) refl (tt, tt) $ sets ! (agg ! (and_then ! (get ! refl) (no_more !))) refl (tt, (tt, tt)) $
    returns ! (look_at ! 0 refl) $ free_all ! refl $
    use0 𝓛 (‵ O) (makes_shadow 𝓛 O ((λ vss. (tt, ((λ uss. (tt, tt)), tt))), tt)
    (((vstruct vnil ∷ [], tt), (refl, ((tt, (refl, tt)), tt))), tt)) $
    suffices ! _ (ends_at 𝓛 T hs c y v r (tt, (tt, tt)) (tt, (tt, tt))) $ says ! refl $
    nothing ! $ nothing ! $ fjoin ! $ nothing ! $ fjoin ! $ join ! $ move ! (1 ∷ 0 ∷ []) $ join ! $ done !))
