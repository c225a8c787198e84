-- The node lends its pairs, and these lend the value: so the node follows the value.
use Rattle.yaml_tree.proofs.Common.{chars, Hash, is_hash, IsSome, lookup, Some, string, subst, Tree, true, value_at_text, view, with_text_value, with_value, Yaml}
use Rattle.yaml_tree.proofs.Walking.{◌≡◌, ◌∙◌, refl, sym, ap, List, [], ◌∷◌, emp, id⊢, ftrue, flft, named, fact, fact_i, tables, ‵, raw, ◌⊛◌, some, later, ◌$◌, ◌∵◌, !, qed, done, move, keep, drop, use0, use1, use2, rewrite, split, join, pick, await, suffices, frame, group, enter, addr, stop, no_more, and_then, returns, alloc_all, pass_all, free_all, look_at, get, through, sets, lands_as, no, yes, follows, follows_then, Is, shows, MutBor, MutRef, mut_vals, mut_Tells, mut_Lawful, plain, shr_slice_vals, nothing, peeks, heard, Str, StrRefOf, str-laws, calls_at, Lasts, lasts, triple_of, framed, Stays, says, stay_dropped, Goes-dropped, Goes-spent_ref, ends_at, proved}
use Rattle.yaml_tree.specs.contracts.yaml.Yaml.{the_row as node_row}
use Rattle.yaml_tree.specs.contracts.hash.Hash.{the_row as hash_row}
use Rattle.yaml_tree.proofs.Lending.{text_in_hash, text_value}
use Rattle.yaml_tree.specs.contracts.yaml.Yaml.key_mut as f
use Rattle.yaml_tree.proofs.yaml.Yaml.key_mut.Statement.{statement}
use Rattle.yaml_tree.proofs.yaml.Yaml.key_mut.Code as code
use Rattle.yaml_tree.specs.contracts.yaml.Yaml.pairs_mut as pairs_mut
use Rattle.yaml_tree.proofs.yaml.Yaml.pairs_mut.Met as pairs_mut-thm
use Rattle.yaml_tree.specs.contracts.hash.Hash.text_mut as text_mut
use Rattle.yaml_tree.proofs.hash.Hash.text_mut.Met as text_mut-thm

abbrev stayed : Stays f.ended.signature.params f.ended.kept
stayed = (stay_dropped _ no, (stay_dropped _ yes, tt))

pub key_mut_spec : {M : Type 1} → statement M
key_mut_spec 𝓤 𝓛 𝓜 𝓡 wired =
    let c = f.clauses 𝓛 𝓜.mem 𝓡.returns in let 𝓣 = tables 𝓤 𝓛.H 𝓜 𝓡 𝓡.env in
    proved 𝓛 f.ended stayed c 𝓜 𝓡 (Goes-spent_ref 𝓛 2 (0 ∷ []) tt (plain (λ _. node_row)), (Goes-dropped 𝓛 2 (StrRefOf (1 ∷ []) tt) yes (λ κs x w. refl), tt))
    f.Key.name code.function (code.unfolded 𝓤 𝓛.H 𝓜 𝓡 wired)
    (λ κs. (mut_vals, (shr_slice_vals, tt))) (λ κs. (mut_Tells (named 0) κs.0 node_row, ((str-laws (record { mir = named 1; lft = κs.1.0 })).tells, tt))) (λ κs qs bounds a _ are.
    let κ = κs.0 in let q = qs.0 in let κ' = κs.1.0 in let q' = qs.1.0 in let r = a.0 in let key = a.1.0 in let node = r.now in
    let text = chars key.now in let vs = mut_vals r in let ks = shr_slice_vals key in
    let Node = MutRef (named 0) κ node_row in let Pairs = MutRef (named 0) κ hash_row in let Text = Str (named 1) κ' in
    qed 𝓛 (((‵ (flft κ q) ⊛ ‵ (flft κ' q') ⊛ ‵ ftrue) ⊛ ‵ (Node.own_val r vs) ⊛ ‵ (Text.own_val key ks) ⊛ ‵ ftrue) ∷ raw (fact 𝓤 (IsSome (value_at_text text (view node)))) ∷ []) ∵
    move ! (1 ∷ []) $ heard ! _ (λ found. split ! $ split ! $ move ! (1 ∷ []) $ split ! $ move ! (3 ∷ []) $ split ! $ move ! (1 ∷ []) $ split ! $ keep ! (2 ∷ 5 ∷ 0 ∷ 3 ∷ []) $
    enter ! _ _ _ _ _ $ alloc_all ! (λ l. pass_all ! refl ((tt, tt), ((((str-laws (record { mir = named 1; lft = κ' })).lawful 𝓛).typed key ks are.1.0).0, tt)) $
    -- [the node's reference; the token of κ; the text; the token of κ']
    sets ! (addr ! (through ! refl (stop !))) refl (tt, tt) $
    let G = triple_of 𝓛 pairs_mut.signature (pairs_mut.spec 𝓛 𝓜.mem 𝓡.returns) in
    let z : G.Ghost = (((κ, tt), (q, tt), tt, (r, tt), (vs, tt)), tt) in
    use0 𝓛 (raw (fact 𝓤 (is_hash (view node) ≡ true))) (fact_i 𝓤 _ (emp 𝓤) (text_in_hash text node found)) $
    nothing ! $ move ! (2 ∷ 0 ∷ []) $ join ! $ nothing ! $ move ! (3 ∷ 0 ∷ []) $ join ! $ join ! $ use2 𝓛 (raw (G.pre z)) (id⊢ 𝓤 _) $
    calls_at ! (framed 𝓤 𝓛.H 𝓜 𝓣) G (pairs_mut-thm.met 𝓤 𝓛 𝓜 𝓡 (code.calls-yaml_tree::yaml::Yaml::pairs_mut 𝓡.env wired)) z (and_then ! (get ! refl) (no_more !)) (λ v.
    use1 𝓛 (later (some (λ (x : MutBor (List (Tree × Tree))). ((‵ (flft κ q) ⊛ ‵ ftrue) ⊛ ‵ (Pairs.own_val x (v ∷ []))) ⊛
    some (λ (ws : Lasts pairs_mut.ended z.0.0 z.0.3). ‵ (lasts pairs_mut.ended z.0.0 z.0.3 ws) ⊛ ‵ (follows node_row hash_row r.ghost_name x.ghost_name Hash) ⊛ raw (fact 𝓤 (node ≡ Hash x.now)))))) (id⊢ 𝓤 _) $
    await ! tt $ pick ! (λ x. split ! $ split ! $ split ! $ move ! (2 ∷ []) $
    peeks ! Pairs (Is Pairs) (shows 𝓛 Pairs) x (v ∷ []) (λ is-x. lands_as ! refl refl (((mut_Lawful 𝓛 (named 0) κ hash_row).typed x (v ∷ []) is-x).0) $
    move ! (3 ∷ []) $ pick ! (λ ws. split ! $ drop ! $ split ! $ move ! (1 ∷ []) $ heard ! _ (λ is-hash.
    -- [the node follows the pairs; the pairs' reference; the token of κ; nothing; the text; the token of κ']
    let G₂ = triple_of 𝓛 text_mut.signature (text_mut.spec 𝓛 𝓜.mem 𝓡.returns) in
    let z₂ : G₂.Ghost = (((κ, (κ', tt)), (q, (q', tt)), tt, (x, (key, tt)), (v ∷ [], (ks, tt))), tt) in
    use0 𝓛 (raw (fact 𝓤 (IsSome (lookup (string text) x.now))))
    (fact_i 𝓤 _ (emp 𝓤) (subst IsSome (text_value text node x.now is-hash) found)) $
    nothing ! $ move ! (6 ∷ 0 ∷ []) $ join ! $ move ! (3 ∷ 0 ∷ []) $ join ! $
    nothing ! $ move ! (6 ∷ 0 ∷ []) $ join ! $ move ! (4 ∷ 0 ∷ []) $ join ! $ join ! $ use2 𝓛 (raw (G₂.pre z₂)) (id⊢ 𝓤 _) $
    calls_at ! (framed 𝓤 𝓛.H 𝓜 𝓣) G₂ (text_mut-thm.met 𝓤 𝓛 𝓜 𝓡 (code.calls-yaml_tree::hash::Hash::text_mut 𝓡.env wired)) z₂ (and_then ! (get ! refl) (and_then ! (get ! refl) (no_more !))) (λ w.
    let Put : Yaml → List (Tree × Tree) = λ n. with_value (string text) (view n) x.now in
    use1 𝓛 (later (some (λ (y : MutBor Yaml). ((‵ (flft κ q) ⊛ ‵ (flft κ' q') ⊛ ‵ ftrue) ⊛ ‵ (Node.own_val y (w ∷ []))) ⊛
    some (λ (us : Lasts text_mut.ended z₂.0.0 z₂.0.3). ‵ (lasts text_mut.ended z₂.0.0 z₂.0.3 us) ⊛ ‵ (follows hash_row node_row x.ghost_name y.ghost_name Put) ⊛ raw (fact 𝓤 (Some (view y.now) ≡ lookup (string text) x.now)))))) (id⊢ 𝓤 _) $
    await ! tt $ pick ! (λ y. split ! $ split ! $ move ! (1 ∷ []) $
    peeks ! Node (Is Node) (shows 𝓛 Node) y (w ∷ []) (λ is-y. lands_as ! refl refl (((mut_Lawful 𝓛 (named 0) κ node_row).typed y (w ∷ []) is-y).0) $
    move ! (2 ∷ []) $ pick ! (λ us. split ! $ drop ! $ split ! $ move ! (1 ∷ []) $ heard ! _ (λ is-value.
    -- [the pairs follow the value; its reference; the tokens; the node follows the pairs; nothing]
    move ! (3 ∷ 0 ∷ []) $ use2 𝓛 (‵ (follows node_row node_row r.ghost_name y.ghost_name (λ n. Hash (Put n)))) (follows_then 𝓛 node_row hash_row node_row Hash Put r.ghost_name x.ghost_name y.ghost_name) $
    rewrite ! 0 (λ (F : Yaml → Yaml). ‵ (follows node_row node_row r.ghost_name y.ghost_name F)) (ap (with_text_value text) (sym is-hash)) refl $
    returns ! (look_at ! 0 refl) $ free_all ! refl $ keep ! (0 ∷ 1 ∷ 2 ∷ []) $
    suffices ! _ (ends_at 𝓛 f.ended stayed c ((κs, qs, bounds, a, (vs, (ks, tt))), tt) w y (tt, (tt, tt)) (tt, (tt, tt))) $
    nothing ! $ nothing ! $ join ! $ nothing ! $ join ! $ move ! (3 ∷ 0 ∷ 2 ∷ 1 ∷ []) $ group ! 3 $ frame ! $ says ! (is-value ∙ sym (text_value text node x.now is-hash)) $ done !
    )))))))))))))
