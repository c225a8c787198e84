-- `new` makes a value of no bytes, whose ghost field is the empty list.
use Rattle.yaml_chars.proofs.LogicWords.{ !, [], agg, alive, alloc_all, and_then, done, ends_at, enter, Fml, free_all, get, join, keep, look_at, makes_shadow, move, no_more, nothing, owns, pass_all, proved, qed, raw, refl, Res, returns, says, sets, split, suffices, type_at, types_at, use0, Val, vcons, vnil, vstruct, walk_of, ‵, ◌$◌, ◌∵◌, ◌∷◌, ◌⊛◌, a_type, inst_fn, layouts}
use Rattle.yaml_chars.specs.contracts.ghost_list.GhostList.new.{ended, clauses}
use Rattle.yaml_chars.specs.contracts.ghost_list.GhostList.new.Key.{name as #self}
use Rattle.yaml_chars.proofs.ghost_list.GhostList.new.Statement as stated
use Rattle.yaml_chars.proofs.ghost_list.GhostList.new.Code as code

pub new_spec : {M : Type 1} → stated.statement M
new_spec 𝓤 𝓛 𝓜 𝓡 wired Y laws =
    let T = ended Y in
    let c = clauses Y 𝓛 𝓜.mem 𝓡.returns in
    let at = layouts (a_type ∷ []) (Y, tt) in
    proved 𝓛 T tt c 𝓜 𝓡 tt (#self at) (inst_fn at code.function) (code.unfolded 𝓤 𝓛.H 𝓜 𝓡 wired (Y, tt)) (λ κs. tt) (λ κs. tt)
    (λ κs qs bounds a g are.
    let y : (walk_of 𝓛 T tt c).Ghost = ((κs, qs, bounds, a, tt), g) in
    let v : Val = vstruct (vcons (vstruct vnil) vnil) in
    let r : Res T.signature κs = record { marker = record {}; items = [] } in
    let O : Fml = (type_at T.signature.result κs).own_val r (v ∷ []) in
    qed 𝓛 ((raw (alive 𝓛 T.signature κs qs) ⊛ ‵ (owns (types_at T.signature.params κs) a y.0.4)) ∷ raw ((c κs a).requires g) ∷ []) ∵
    split ! $ keep ! (0 ∷ []) $ enter ! _ _ _ _ _ $ alloc_all ! (λ l. pass_all ! refl tt $
    sets ! (agg ! (no_more !)) refl (tt, tt) $ sets ! (agg ! (and_then ! (get ! refl) (no_more !))) refl (tt, (tt, tt)) $
    returns ! (look_at ! 0 refl) $ free_all ! refl $
    use0 𝓛 (‵ O) (makes_shadow 𝓛 O ((λ vss. (tt, ((λ uss. (tt, tt)), tt))), tt)
    (((vstruct vnil ∷ [], tt), (refl, ((tt, (refl, tt)), tt))), tt)) $
    suffices ! _ (ends_at 𝓛 T tt c y v r tt tt) $ says ! refl $
    nothing ! $ join ! $ move ! (1 ∷ 0 ∷ []) $ join ! $ done !))
