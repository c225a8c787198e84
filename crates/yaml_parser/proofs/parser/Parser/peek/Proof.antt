-- `peek` lends its reference for the look, and then shares it for all the time that it has left: so the parser rests at what the look left.
use mathlib.Core.Path.{◌≡◌, refl}
use mathlib.Core.List.{List, [], ◌∷◌}
use mathlib.Core.Option.{none}
use Prim.Native.Nat.{ℕ}
use seplogic.Ra.Ura.{Ura}
use base.Fraction.{full_share}
use base.FractionLaws.{common}
use base.Logic.{ent, sep, emp, wand, apply∗, id⊢}
use base.Fml.{GName, Share, ftrue, fdead, flft, fres}
use base.Share
use mir.MapTy.{inst_fn}
use mir.Syntax.{Args, Dict, Fn, a_type, dcons, dnil, named, erased}
use mir.Val.{Val}
use contract.BorrowLft.{◌⊑◌, ⊑_trans, meet_⊑_left, meet_⊑_right}
use contract.Monad.{fact, fact_i}
use contract.Running.{tables}
use types.Logic.{Logic, sem}
use types.Kit.{‵, raw, ◌⊛◌, some, later, ◌$◌, ◌∵◌, !, qed, done, move, keep, drop, use0, use1, use2, use3, split, split3, join, fsplit, fjoin, fpack, feq_l, feq_i, pick, await, suffices, frame, group}
use types.Run.{enter, of_opd, addr, stop, no_more, and_then, returns}
use types.ByLocal.{alloc_all, pass_all, free_all, look_at, get, through, sets, lands_as}
use types.Tokens.{lft_new, lft_end, lft-common}
use denote.Builtin.{unit}
use denote.Exit.{no}
use denote.Follow.{follows_so, such_by, follows_by}
use denote.Laws.{Is, shows}
use denote.Lend.{lends_again, comes_back, LentAgain}
use denote.Param.{param, bounded}
use denote.Param.Laws.{Laws, of_field, param_laws}
use denote.Param.Shared.{copy_shared}
use denote.RattleType.{RattleType}
use denote.Ref.{NamedLft, Bor, MutBor, MutRef, ShrRef, mut_vals, mut_Tells}
use denote.Shares.{Shares-less}
use denote.Signature.{plain}
use denote.Steps.{nothing, peeks, heard}
use denote.Struct.Field.{shr_ref_field, unit-field}
use denote.Struct.Laws.{shr_ref_laws, shr_ref_copy, unit-laws, unit-copy}
use denote.Struct.Tuple.{Tuple, tuple_laws}
use denote.Triple.Call.{calls_at}
use denote.Triple.Clauses.{Lasts, lasts, Ended}
use denote.Triple.Spec.{triple_of}
use denote.Triple.Table.{framed}
use denote.Triple.Walked.{Stays, says, stay_dropped, Goes-spent_ref, ends_at}
use borrow.Rule.Reshare.{ref_Share}
use borrow.Table.Owned as Owned
use Rattle.std.specs.Prelude.{⊤, IsSome, IfOk}
use Rattle.std.specs.Io.BufRead.{Rests}
use Rattle.yaml_chars.specs.declared.characters.Characters.{Ghosts}
use Rattle.std.specs.contracts.result.Result.{the_row as result_row}
use Rattle.std.proofs.raw_atomic.Walks.{proved}
use Rattle.std.proofs.result.Result.TheLaws.{the_row_laws as result_laws}
use Rattle.yaml_chars.specs.contracts.marker.Marker.{the_row as marker_row}
use Rattle.yaml_chars.proofs.marker.Marker.TheLaws.{the_row_laws as marker_laws}
use Rattle.yaml_tokens.specs.contracts.fault.ScanError.{the_row as error_row}
use Rattle.yaml_tokens.proofs.fault.ScanError.TheLaws.{the_row_laws as error_laws}
use Rattle.yaml_parser.specs.Parsed.{Parse, parsed}
use Rattle.yaml_parser.specs.Pulls.{Looks, PeekLeaves, ShowsLooked, ShowsNext}
use Rattle.yaml_parser.specs.Shown.{placed}
use Rattle.yaml_parser.specs.contracts.event.Event.{the_row as event_row}
use Rattle.yaml_parser.proofs.event.Event.TheLaws.{the_row_laws as event_laws}
use Rattle.yaml_parser.specs.contracts.parser.Parser.{the_row as parser_row}
use Rattle.yaml_parser.proofs.parser.Parser.TheLaws.{the_within, the_row_laws as parser_laws}
use Rattle.yaml_parser.proofs.Peeking as Peeking
use Rattle.yaml_parser.specs.contracts.parser.Parser.peek as f
use Rattle.yaml_parser.proofs.parser.Parser.peek.Statement.{statement}
use Rattle.yaml_parser.proofs.parser.Parser.peek.Code as code
use Rattle.yaml_parser.specs.contracts.parser.Parser.look as look
use Rattle.yaml_parser.proofs.parser.Parser.look.Met as look-thm
use Rattle.yaml_parser.specs.contracts.parser.Parser.shown as shown
use Rattle.yaml_parser.proofs.parser.Parser.shown.Met as shown-thm

-- an event and its position
abbrev Pair : RattleType
Pair = Tuple (event_row ∷ marker_row ∷ [])

-- what `look` answers
abbrev Looked : RattleType
Looked = result_row unit error_row

-- what `shown` answers
abbrev Shown : List ℕ → RattleType
Shown κ = result_row (ShrRef (named 0) κ Pair) error_row

Looked-laws : Laws Looked
Looked-laws = result_laws unit error_row (of_field unit-field unit-laws refl (copy_shared unit-field unit-copy)) error_laws

Shown-laws : (κ : List ℕ) → Laws (Shown κ)
Shown-laws κ =
    let a : NamedLft = record { mir = named 0; lft = κ } in
    let F = shr_ref_field a Pair tt in
    result_laws (ShrRef (named 0) κ Pair) error_row
    (of_field F (shr_ref_laws a Pair tt) refl (copy_shared F (shr_ref_copy a Pair tt (tuple_laws (event_row ∷ marker_row ∷ []) (event_laws, (marker_laws, tt))).shr_laws))) error_laws

-- what holds of the value that a reference is given up at holds once it rests
rests : {M : Type 1} {𝓤 : Ura M} (𝓛 : Logic 𝓤) (R : RattleType) (γ : GName) (P : R.Denot → Type 0) (v : R.Denot) → P v → ent 𝓤 (𝓛.A.res γ (R.coded.code v)) (sem 𝓛 (follows_so R R γ none (λ _ _. ⊤) P))
unfolding such_by follows_by
rests 𝓛 R γ P v p = qed 𝓛 (‵ (fres γ (R.coded.code v)) ∷ []) ∵ fpack ! ((s : (R.Denot → R.Denot) × R.Denot) × (R.Denot → ⊤) × P s.1) (λ s. fres γ (R.coded.code s.0.1)) ((((λ w. w), v)), (λ w. tt), p) $ done !

module _ (T : RattleType) (g : Ghosts T.Denot) (d dd : Dict) where
  abbrev args : Args
  args = bounded (a_type ∷ []) (T, tt) (dcons d (dcons dd dnil))

  abbrev function : Fn
  function = inst_fn args code.function

  abbrev R : RattleType
  R = parser_row (param 0 T) g

  abbrev ended : Ended
  ended = f.ended T g d dd

  abbrev stayed : Stays ended.signature.params ended.kept
  stayed = (stay_dropped _ no, tt)

pub peek_spec : {M : Type 1} → statement M
peek_spec 𝓤 𝓛 𝓜 𝓡 wired T L g d dd met md =
    let c = f.clauses T g d dd 𝓛 𝓜.mem 𝓡.returns in let P = R T g d dd in let P-laws = parser_laws (param 0 T) g (param_laws 0 T L) in
    proved 𝓛 (ended T g d dd) (stayed T g d dd) c 𝓜 𝓡 (Goes-spent_ref 𝓛 2 (0 ∷ []) tt (plain (λ _. P)), tt)
    (f.Key.name (args T g d dd)) (function T g d dd) (code.unfolded 𝓤 𝓛.H 𝓜 𝓡 wired (T, tt) d dd)
    (λ κs. (mut_vals, tt)) (λ κs. (mut_Tells (named 0) κs.0 P, tt)) (λ κs qs bounds a _ are.
    let κ = κs.0 in let q = qs.0 in let κT = κs.1.0 in let qT = qs.1.0 in
    let r = a.0 in let b = r.ref_ptr.0 in let o = r.ref_ptr.1 in let vs = mut_vals r in let old = r.now in
    let Ref = λ (κ' : List ℕ) (x : MutBor (Parse T.Denot)). (MutRef (named 0) κ' P).own_val x vs in
    qed 𝓛 (((‵ (flft κ q) ⊛ ‵ (flft κT qT) ⊛ ‵ ftrue) ⊛ ‵ (Ref κ r) ⊛ ‵ ftrue) ∷ raw (fact 𝓤 (κT ⊑ T.lives)) ∷ ‵ ftrue ∷ []) ∵
    move ! (1 ∷ []) $ heard ! _ (λ inside. split ! $ split ! $ move ! (1 ∷ []) $ split ! $ move ! (3 ∷ []) $ split ! $ keep ! (0 ∷ 4 ∷ 2 ∷ []) $
    enter ! _ _ _ _ _ $ alloc_all ! (λ l. pass_all ! refl ((tt, tt), tt) $
    -- [the reference; the token of κ; the token of κT]
    sets ! (addr ! (through ! refl (stop !))) refl (tt, tt) $
    move ! (2 ∷ []) $ use1 𝓛 (‵ (flft κT (Share.left qT)) ⊛ ‵ (flft κT (Share.right qT))) (𝓛.lfts.lft_split κT qT) $ split ! $
    -- the loan's lifetime, inside κT
    lft_new ! tt (λ α.
    let β : List ℕ = α ∷ κT in let s : Share = (common full_share (Share.left qT)).0 in
    let Back = wand 𝓤 (𝓛.A.lft β s) (sep 𝓤 (𝓛.A.lft (α ∷ []) full_share) (𝓛.A.lft κT (Share.left qT))) in
    use2 𝓛 (‵ (flft β s) ⊛ raw Back) (lft-common 𝓛 (α ∷ []) κT full_share (Share.left qT)) $ split ! $
    -- [the token of β; the way back from it; half the token of κT; the reference; the token of κ]
    move ! (3 ∷ 4 ∷ []) $
    use2 𝓛 (later (some (λ (δ : ℕ). ‵ (Ref β (record r { ghost_name = δ })) ⊛ ‵ (LentAgain P κ β q r.ghost_name b o δ old))))
    (lends_again 𝓛 P (named 0) κ β q r.ghost_name b o (named 0) old) $ await ! tt $ pick ! (λ δ. split ! $
    -- [the loan; what the lender keeps; the token of β; the way back from it; half the token of κT]
    let G = triple_of 𝓛 (look.signature T g d dd) (look.spec T g d dd 𝓛 𝓜.mem 𝓡.returns) in
    let z : G.Ghost = (((β, (κT, tt)), (s, (Share.right qT, tt)), (meet_⊑_right (α ∷ []) κT, tt), (record r { ghost_name = δ }, tt), (vs, tt)), tt) in
    nothing ! $ use0 𝓛 (raw (fact 𝓤 (κT ⊑ T.lives))) (fact_i 𝓤 (κT ⊑ T.lives) (emp 𝓤) inside) $ join ! $
    nothing ! $ move ! (2 ∷ 0 ∷ []) $ join ! $ nothing ! $ move ! (6 ∷ 0 ∷ []) $ join ! $ move ! (4 ∷ 0 ∷ []) $ join ! $ join ! $ use2 𝓛 (raw (G.pre z)) (id⊢ 𝓤 _) $
    calls_at ! (framed 𝓤 𝓛.H 𝓜 (tables 𝓤 𝓛.H 𝓜 𝓡 𝓡.env)) G (look-thm.met 𝓤 𝓛 𝓜 𝓡 (code.calls-yaml_parser::parser::Parser::look 𝓡.env wired) T L g d dd met md) z
    (and_then ! (get ! refl) (no_more !)) (λ v.
    use1 𝓛 (later (some (λ (u : Looked.Denot). ((‵ (flft β s) ⊛ ‵ (flft κT (Share.right qT)) ⊛ ‵ ftrue) ⊛ ‵ (Looked.own_val u (v ∷ []))) ⊛
    some (λ (ws : Parse T.Denot × Unit {0}). ‵ (lasts (look.ended T g d dd) z.0.0 z.0.3 ws) ⊛ raw (fact 𝓤 (Looks (parsed old) u (parsed ws.0))) ⊛ raw (fact 𝓤 (ws.0.start ≡ old.start)))))) (id⊢ 𝓤 _) $
    await ! tt $ pick ! (λ u. split ! $ split ! $ split ! $
    -- the loan's lifetime is over, and the token of κT is whole again
    move ! (0 ∷ 5 ∷ []) $ use2 𝓛 (‵ (flft (α ∷ []) full_share) ⊛ ‵ (flft κT (Share.left qT))) (apply∗ 𝓤 (𝓛.A.lft β s) _) $ split ! $ lft_end ! tt $
    use1 𝓛 (‵ (fdead β)) (𝓛.lfts.dead-incl β (α ∷ []) (meet_⊑_left (α ∷ []) κT)) $ move ! (2 ∷ []) $ split ! $
    move ! (3 ∷ 0 ∷ []) $ use2 𝓛 (‵ (flft κT qT)) (𝓛.lfts.lft_join κT qT) $
    -- [the token of κT; nothing; β is over; what `look` answered; what it left; what the lender keeps]
    move ! (3 ∷ []) $ peeks ! Looked (Is Looked) (shows 𝓛 Looked) u (v ∷ []) (λ is-u.
    let u-typed = ((Looked-laws.lawful 𝓛).typed u (v ∷ []) is-u).0 in
    lands_as ! refl refl u-typed $
    move ! (4 ∷ []) $ pick ! (λ ws. let new = ws.0 in split ! $ move ! (1 ∷ []) $ split ! $ heard ! _ (λ looks. heard ! _ (λ start. fsplit ! $ fsplit ! $
    -- [the loan's last value; its borrow; nothing; what `look` answered; the token of κT; nothing; β is over; what the lender keeps]
    move ! (6 ∷ 7 ∷ 0 ∷ []) $ use3 𝓛 (later (‵ (Ref κ (record r { now = new })) ⊛ ‵ (flft κ q)))
    (comes_back 𝓛 P (named 0) κ β q r.ghost_name b o δ old new) $ await ! tt $ split ! $
    sets ! (addr ! (through ! refl (stop !))) refl (tt, tt) $
    -- the reference is shared for all the time that it has left
    fsplit ! $ feq_l ! (λ _.
    let seen : Bor (Parse T.Denot) = record { ref_ptr = r.ref_ptr; now = new } in
    let within : κ ⊑ P.lives = the_within (param 0 T) g κ (⊑_trans κ κT T.lives bounds.0 inside) in
    use2 𝓛 (later (‵ ((Owned.ShrRef erased κ P).own_val seen) ⊛ ‵ (fres r.ghost_name (P.coded.code new)) ⊛ ‵ (flft κ q)))
    (ref_Share 𝓛 P b o r.ghost_name new P-laws.shr_laws κ q (Shares-less 𝓛 P P.lives κ within (P-laws.shares 𝓛))) $ await ! tt $ split3 ! $
    feq_i ! (List Val) vs vs refl $ fjoin ! $
    -- [the `&`; what the parser rests at; the token of κ; the borrow; nothing; what `look` answered; the token of κT; nothing]
    sets ! (of_opd ! (get ! refl)) refl u-typed $
    let H = triple_of 𝓛 (shown.signature T g d dd) (shown.spec T g d dd 𝓛 𝓜.mem 𝓡.returns) in
    let y : H.Ghost = ((κs, qs, bounds, (seen, (u, tt)), (vs, (v ∷ [], tt))), tt) in
    use0 𝓛 (raw (fact 𝓤 (IfOk u (λ _. IsSome (parsed new).ahead)))) (fact_i 𝓤 _ (emp 𝓤) (Peeking.waits_where_ok (parsed old) (parsed new) u looks)) $
    use0 𝓛 (raw (fact 𝓤 (κT ⊑ T.lives))) (fact_i 𝓤 (κT ⊑ T.lives) (emp 𝓤) inside) $ join ! $
    nothing ! $ move ! (7 ∷ 0 ∷ []) $ join ! $ move ! (2 ∷ 0 ∷ []) $ join ! $
    nothing ! $ move ! (7 ∷ 0 ∷ []) $ join ! $ move ! (4 ∷ 0 ∷ []) $ join ! $ join ! $ use2 𝓛 (raw (H.pre y)) (id⊢ 𝓤 _) $
    calls_at ! (framed 𝓤 𝓛.H 𝓜 (tables 𝓤 𝓛.H 𝓜 𝓡 𝓡.env)) H (shown-thm.met 𝓤 𝓛 𝓜 𝓡 (code.calls-yaml_parser::parser::Parser::shown 𝓡.env wired) T L g d dd met md) y
    (and_then ! (get ! refl) (and_then ! (get ! refl) (no_more !))) (λ w.
    use1 𝓛 (later (some (λ (e : (Shown κ).Denot). ((‵ (flft κ q) ⊛ ‵ (flft κT qT) ⊛ ‵ ftrue) ⊛ ‵ ((Shown κ).own_val e (w ∷ []))) ⊛
    some (λ (es : Lasts (shown.ended T g d dd) y.0.0 y.0.3). ‵ (lasts (shown.ended T g d dd) y.0.0 y.0.3 es) ⊛ raw (fact 𝓤 (ShowsLooked u (parsed new) e)))))) (id⊢ 𝓤 _) $
    await ! tt $ pick ! (λ e. split ! $ split ! $ move ! (2 ∷ []) $ pick ! (λ es. split ! $ drop ! $ heard ! _ (λ shows-it.
    let done-so = Peeking.peeks (parsed old) (parsed new) u e looks shows-it in
    -- [the tokens; what `shown` answered; what the parser rests at; ..]
    move ! (1 ∷ []) $ peeks ! (Shown κ) (Is (Shown κ)) (shows 𝓛 (Shown κ)) e (w ∷ []) (λ is-e.
    lands_as ! refl refl (((Shown-laws κ).lawful 𝓛).typed e (w ∷ []) is-e).0 $
    returns ! (look_at ! 0 refl) $ free_all ! refl $ keep ! (2 ∷ 1 ∷ 0 ∷ []) $
    let Left = PeekLeaves old e in
    use1 𝓛 (‵ (Rests P r Left)) (rests 𝓛 P r.ghost_name Left new (record { start = start; peeks = done-so })) $
    suffices ! _ (ends_at 𝓛 (ended T g d dd) (stayed T g d dd) c ((κs, qs, bounds, a, (vs, tt)), tt) w e (tt, tt) (tt, tt)) $
    nothing ! $ nothing ! $ join ! $ move ! (2 ∷ 0 ∷ 3 ∷ 1 ∷ []) $ group ! 3 $ frame ! $ frame ! $
    says ! (Peeking.meets_fault (parsed old) (parsed new) e done-so) $
    use0 𝓛 (raw (fact 𝓤 (IfOk e (λ x. ShowsNext (parsed old) (placed x.now))))) (fact_i 𝓤 _ (emp 𝓤) (Peeking.shows_next (parsed old) (parsed new) e done-so)) $ done !
    )))))))))))))))))
