-- The node is shared for the question whether it is a hash. Then it lends its pairs or its items, and these lend the value: so the node follows the value.
use Rattle.yaml_tree.proofs.Common.{Array, Bool, Hash, integer, is_array, is_hash, IsSome, lookup, pos, slice_get, slice_set, Some, subst, Tree, true, value_at_index, view, with_index_value, with_value, Yaml, ◌<◌, ◌^◌}
use Rattle.yaml_tree.proofs.Walking.{◌≡◌, ◌∙◌, refl, sym, ap, List, [], ◌∷◌, full_share, emp, id⊢, ftrue, flft, flent, named, w64, Val, ⊑_static, fact, fact_i, tables, ‵, raw, ◌⊛◌, some, later, at_ret, ◌$◌, ◌∵◌, !, qed, done, move, keep, drop, use0, use1, use2, rewrite, split, join, fsplit3, fjoin3, feq_l, feq_i, pick, await, suffices, frame, group, enter, of_opd, addr, stop, no_more, and_then, first, branches, exec, returns, alloc_all, pass_all, free_all, look_at, get, through, sets, lands_as, lands_last, env, open_ref, close_ref, lft_new, lft_end, lent_back, bool, usize, no, yes, follows, follows_then, Is, shows, lends_shr, mem, part_at, bool_Tells, uint_vals, uint_Tells, Bor, MutBor, MutRef, ShrRef, mut_vals, mut_Tells, mut_Lawful, plain, nothing, only, peeks, heard, calls_at, calls_at_last, Lasts, lasts, triple_of, framed, Stays, walk_of, says, stay_dropped, Goes-dropped, Goes-spent_ref, ends_at, proved, after}
use Rattle.yaml_tree.specs.contracts.yaml.Yaml.{the_row as node_row}
use Rattle.yaml_tree.specs.contracts.array.Array.{the_row as array_row}
use Rattle.yaml_tree.specs.contracts.hash.Hash.{the_row as hash_row}
use Rattle.yaml_tree.proofs.yaml.Yaml.TheLaws.{the_row_laws as node_laws}
use Rattle.yaml_tree.proofs.Lending.{index_in_array, item_value, number_fits, number_value, held, failed}
use Rattle.yaml_tree.specs.contracts.yaml.Yaml.place_mut as f
use Rattle.yaml_tree.proofs.yaml.Yaml.place_mut.Statement.{statement}
use Rattle.yaml_tree.proofs.yaml.Yaml.place_mut.Code as code
use Rattle.yaml_tree.specs.contracts.yaml.Yaml.is_hash as asked
use Rattle.yaml_tree.proofs.yaml.Yaml.is_hash.Met as asked-thm
use Rattle.yaml_tree.specs.contracts.yaml.Yaml.pairs_mut as pairs_mut
use Rattle.yaml_tree.proofs.yaml.Yaml.pairs_mut.Met as pairs_mut-thm
use Rattle.yaml_tree.specs.contracts.yaml.Yaml.items_mut as items_mut
use Rattle.yaml_tree.proofs.yaml.Yaml.items_mut.Met as items_mut-thm
use Rattle.yaml_tree.specs.contracts.hash.Hash.number_mut as number_mut
use Rattle.yaml_tree.proofs.hash.Hash.number_mut.Met as number_mut-thm
use Rattle.yaml_tree.specs.contracts.array.Array.item_mut as item_mut
use Rattle.yaml_tree.proofs.array.Array.item_mut.Met as item_mut-thm

abbrev stayed : Stays f.ended.signature.params f.ended.kept
stayed = (stay_dropped _ no, (stay_dropped _ yes, tt))

pub place_mut_spec : {M : Type 1} → statement M
place_mut_spec 𝓤 𝓛 𝓜 𝓡 wired =
    let c = f.clauses 𝓛 𝓜.mem 𝓡.returns in let 𝓣 = tables 𝓤 𝓛.H 𝓜 𝓡 𝓡.env in let W = walk_of 𝓛 f.ended stayed c in
    proved 𝓛 f.ended stayed c 𝓜 𝓡 (Goes-spent_ref 𝓛 1 (0 ∷ []) tt (plain (λ _. node_row)), (Goes-dropped 𝓛 1 (plain (λ _. usize)) yes (λ κs x w. refl), tt))
    f.Key.name code.function (code.unfolded 𝓤 𝓛.H 𝓜 𝓡 wired)
    (λ κs. (mut_vals, (uint_vals w64, tt))) (λ κs. (mut_Tells (named 0) κs.0 node_row, (uint_Tells w64, tt))) (λ κs qs bounds a _ are.
    let κ = κs.0 in let q = qs.0 in let r = a.0 in let i = a.1.0 in let node = r.now in let b = r.ref_ptr.0 in let o = r.ref_ptr.1 in
    let vs = mut_vals r in let is = uint_vals w64 i in
    let Node = MutRef (named 0) κ node_row in let Items = MutRef (named 0) κ array_row in let Pairs = MutRef (named 0) κ hash_row in
    let y : W.Ghost = ((κs, qs, bounds, a, (vs, (is, tt))), tt) in
    qed 𝓛 (((‵ (flft κ q) ⊛ ‵ ftrue) ⊛ ‵ (Node.own_val r vs) ⊛ ‵ (usize.own_val i is) ⊛ ‵ ftrue) ∷ raw (fact 𝓤 (IsSome (value_at_index i (view node)))) ∷ []) ∵
    move ! (1 ∷ []) $ heard ! _ (λ found. split ! $ split ! $ move ! (2 ∷ []) $ split ! $ move ! (1 ∷ []) $ split ! $ keep ! (2 ∷ 3 ∷ 0 ∷ []) $
    enter ! _ _ _ _ _ $ alloc_all ! (λ l. pass_all ! refl ((tt, tt), ((tt, record { fits = are.1.0.1 }), tt)) $
    -- [the node's reference; the token of κ; the index]
    sets ! (addr ! (through ! refl (stop !))) refl (tt, tt) $
    -- the node is shared for the question whether it is a hash
    fsplit3 ! $ feq_l ! (λ _. open_ref ! tt (mem node_row) $ lft_new ! tt (λ α. move ! (1 ∷ 0 ∷ []) $
    let seen : Bor Yaml = record { ref_ptr = (b, o); now = node } in
    use2 𝓛 (later ((‵ ((ShrRef (named 0) (α ∷ []) node_row).own_val seen vs) ⊛ ‵ (flent (α ∷ []) (part_at node_row full_share node b o))) ⊛ ‵ (flft (α ∷ []) full_share)))
    (lends_shr 𝓛 node_row (named 0) (α ∷ []) full_share node b o node_row.lives (node_laws.shares 𝓛 node) ((α ∷ [], full_share) ∷ []) (⊑_static (α ∷ [])) (λ x m. m)) $ await ! tt $ split ! $ split ! $
    -- [the `&`; the lender's part; the token of α; the open borrow, in three entries; the index]
    let G = triple_of 𝓛 asked.signature (asked.spec 𝓛 𝓜.mem 𝓡.returns) in
    let z : G.Ghost = (((α ∷ [], tt), (full_share, tt), tt, (seen, tt), (vs, tt)), tt) in
    nothing ! $ move ! (1 ∷ 0 ∷ []) $ join ! $ nothing ! $ move ! (3 ∷ 0 ∷ []) $ join ! $ join ! $ nothing ! $ move ! (1 ∷ 0 ∷ []) $ use2 𝓛 (raw (G.pre z)) (id⊢ 𝓤 _) $
    calls_at ! (framed 𝓤 𝓛.H 𝓜 𝓣) G (asked-thm.met 𝓤 𝓛 𝓜 𝓡 (code.calls-yaml_tree::yaml::Yaml::is_hash 𝓡.env wired)) z (and_then ! (get ! refl) (no_more !)) (λ v.
    use1 𝓛 (later (some (λ (t : Bool). ((‵ (flft (α ∷ []) full_share) ⊛ ‵ ftrue) ⊛ ‵ (bool.own_val t (v ∷ []))) ⊛
    some (λ (ws : Lasts asked.ended z.0.0 z.0.3). ‵ (lasts asked.ended z.0.0 z.0.3 ws) ⊛ raw (fact 𝓤 (t ≡ is_hash (view node))))))) (id⊢ 𝓤 _) $
    await ! tt $ pick ! (λ t. split ! $ split ! $ split ! $ move ! (2 ∷ []) $
    peeks ! bool (Is bool) (shows 𝓛 bool) t (v ∷ []) (λ is-t. lands_as ! (ap only (bool_Tells t (v ∷ []) is-t)) refl (tt, tt) $ drop ! $
    lft_end ! tt $ move ! (2 ∷ []) $ pick ! (λ ws. split ! $ drop ! $ heard ! _ (λ is-kind. move ! (0 ∷ 2 ∷ []) $ lent_back ! tt $
    move ! (0 ∷ 2 ∷ 3 ∷ 4 ∷ []) $ close_ref ! tt (mem node_row) node $ feq_i ! (List Val) vs vs refl $ fjoin3 ! $
    -- [the node's reference; the token of κ; nothing; the index]
    first ! $ branches ! (get ! refl)
    (λ yes-hash.
    sets ! (addr ! (through ! refl (stop !))) refl (tt, tt) $
    let H = triple_of 𝓛 pairs_mut.signature (pairs_mut.spec 𝓛 𝓜.mem 𝓡.returns) in
    let z₁ : H.Ghost = (((κ, tt), (q, tt), tt, (r, tt), (vs, tt)), tt) in
    use0 𝓛 (raw (fact 𝓤 (is_hash (view node) ≡ true))) (fact_i 𝓤 _ (emp 𝓤) (held t (is_hash (view node)) is-kind yes-hash)) $
    nothing ! $ move ! (2 ∷ 0 ∷ []) $ join ! $ nothing ! $ move ! (3 ∷ 0 ∷ []) $ join ! $ join ! $ use2 𝓛 (raw (H.pre z₁)) (id⊢ 𝓤 _) $
    calls_at ! (framed 𝓤 𝓛.H 𝓜 𝓣) H (pairs_mut-thm.met 𝓤 𝓛 𝓜 𝓡 (code.calls-yaml_tree::yaml::Yaml::pairs_mut 𝓡.env wired)) z₁ (and_then ! (get ! refl) (no_more !)) (λ v₁.
    use1 𝓛 (later (some (λ (x : MutBor (List (Tree × Tree))). ((‵ (flft κ q) ⊛ ‵ ftrue) ⊛ ‵ (Pairs.own_val x (v₁ ∷ []))) ⊛
    some (λ (us : Lasts pairs_mut.ended z₁.0.0 z₁.0.3). ‵ (lasts pairs_mut.ended z₁.0.0 z₁.0.3 us) ⊛ ‵ (follows node_row hash_row r.ghost_name x.ghost_name Hash) ⊛ raw (fact 𝓤 (node ≡ Hash x.now)))))) (id⊢ 𝓤 _) $
    await ! tt $ pick ! (λ x. split ! $ split ! $ split ! $ move ! (2 ∷ []) $
    peeks ! Pairs (Is Pairs) (shows 𝓛 Pairs) x (v₁ ∷ []) (λ is-x. lands_as ! refl refl (((mut_Lawful 𝓛 (named 0) κ hash_row).typed x (v₁ ∷ []) is-x).0) $
    move ! (3 ∷ []) $ pick ! (λ us. split ! $ drop ! $ split ! $ move ! (1 ∷ []) $ heard ! _ (λ is-hash.
    -- [the node follows what it holds; the reference to that; the token of κ; nothing; nothing; the index]
    let H₂ = triple_of 𝓛 number_mut.signature (number_mut.spec 𝓛 𝓜.mem 𝓡.returns) in
    let z₂ : H₂.Ghost = (((κ, tt), (q, tt), tt, (x, (i, tt)), (v₁ ∷ [], (is, tt))), tt) in
    let fits = number_fits i node x.now is-hash found in
    use0 𝓛 (raw (fact 𝓤 (IsSome (lookup (integer (pos i)) x.now))))
    (fact_i 𝓤 _ (emp 𝓤) (subst IsSome (number_value i node x.now is-hash fits) found)) $
    use0 𝓛 (raw (fact 𝓤 (i < 2 ^ 63))) (fact_i 𝓤 _ (emp 𝓤) fits) $ join ! $
    nothing ! $ move ! (7 ∷ 0 ∷ []) $ join ! $ move ! (3 ∷ 0 ∷ []) $ join ! $ nothing ! $ move ! (4 ∷ 0 ∷ []) $ join ! $ join ! $ use2 𝓛 (raw (H₂.pre z₂)) (id⊢ 𝓤 _) $
    calls_at_last ! (framed 𝓤 𝓛.H 𝓜 𝓣) H₂ (number_mut-thm.met 𝓤 𝓛 𝓜 𝓡 (code.calls-yaml_tree::hash::Hash::number_mut 𝓡.env wired)) z₂ (and_then ! (get ! refl) (and_then ! (get ! refl) (no_more !))) (λ w.
    let Put : Yaml → List (Tree × Tree) = λ n. with_value (integer (pos i)) (view n) x.now in
    use1 𝓛 (later (some (λ (e : MutBor Yaml). ((‵ (flft κ q) ⊛ ‵ ftrue) ⊛ ‵ (Node.own_val e (w ∷ []))) ⊛
    some (λ (es : Lasts number_mut.ended z₂.0.0 z₂.0.3). ‵ (lasts number_mut.ended z₂.0.0 z₂.0.3 es) ⊛ ‵ (follows hash_row node_row x.ghost_name e.ghost_name Put) ⊛ raw (fact 𝓤 (Some (view e.now) ≡ lookup (integer (pos i)) x.now)))))) (id⊢ 𝓤 _) $
    await ! tt $ pick ! (λ e. split ! $ split ! $ move ! (1 ∷ []) $
    peeks ! Node (Is Node) (shows 𝓛 Node) e (w ∷ []) (λ is-e. let typed = ((mut_Lawful 𝓛 (named 0) κ node_row).typed e (w ∷ []) is-e).0 in lands_last ! refl typed $
    exec ! 𝓣.C 𝓣.Λ (env code.Mir.locals l) (after 3 (code.function).body) (at_ret _ (W.post y)) $
    move ! (2 ∷ []) $ pick ! (λ es. split ! $ drop ! $ split ! $ move ! (1 ∷ []) $ heard ! _ (λ is-value.
    -- [what the node holds follows the value; its reference; the token; the node follows what it holds; ..]
    move ! (3 ∷ 0 ∷ []) $ use2 𝓛 (‵ (follows node_row node_row r.ghost_name e.ghost_name (λ n. Hash (Put n)))) (follows_then 𝓛 node_row hash_row node_row Hash Put r.ghost_name x.ghost_name e.ghost_name) $
    rewrite ! 0 (λ (F : Yaml → Yaml). ‵ (follows node_row node_row r.ghost_name e.ghost_name F)) (ap (with_index_value i) (sym is-hash)) refl $
    sets ! (of_opd ! (get ! refl)) refl typed $ returns ! (look_at ! 0 refl) $ free_all ! refl $ keep ! (0 ∷ 1 ∷ 2 ∷ []) $
    suffices ! _ (ends_at 𝓛 f.ended stayed c y w e (tt, (tt, tt)) (tt, (tt, tt))) $
    nothing ! $ nothing ! $ join ! $ nothing ! $ join ! $ move ! (3 ∷ 0 ∷ 2 ∷ 1 ∷ []) $ group ! 3 $ frame ! $ says ! (is-value ∙ sym (number_value i node x.now is-hash fits)) $ done !
    )))))))))))
    (λ no-hash.
    sets ! (addr ! (through ! refl (stop !))) refl (tt, tt) $
    let H = triple_of 𝓛 items_mut.signature (items_mut.spec 𝓛 𝓜.mem 𝓡.returns) in
    let z₁ : H.Ghost = (((κ, tt), (q, tt), tt, (r, tt), (vs, tt)), tt) in
    use0 𝓛 (raw (fact 𝓤 (is_array (view node) ≡ true))) (fact_i 𝓤 _ (emp 𝓤) (index_in_array i node found (failed t (is_hash (view node)) is-kind no-hash))) $
    nothing ! $ move ! (2 ∷ 0 ∷ []) $ join ! $ nothing ! $ move ! (3 ∷ 0 ∷ []) $ join ! $ join ! $ use2 𝓛 (raw (H.pre z₁)) (id⊢ 𝓤 _) $
    calls_at ! (framed 𝓤 𝓛.H 𝓜 𝓣) H (items_mut-thm.met 𝓤 𝓛 𝓜 𝓡 (code.calls-yaml_tree::yaml::Yaml::items_mut 𝓡.env wired)) z₁ (and_then ! (get ! refl) (no_more !)) (λ v₁.
    use1 𝓛 (later (some (λ (x : MutBor (List Tree)). ((‵ (flft κ q) ⊛ ‵ ftrue) ⊛ ‵ (Items.own_val x (v₁ ∷ []))) ⊛
    some (λ (us : Lasts items_mut.ended z₁.0.0 z₁.0.3). ‵ (lasts items_mut.ended z₁.0.0 z₁.0.3 us) ⊛ ‵ (follows node_row array_row r.ghost_name x.ghost_name Array) ⊛ raw (fact 𝓤 (node ≡ Array x.now)))))) (id⊢ 𝓤 _) $
    await ! tt $ pick ! (λ x. split ! $ split ! $ split ! $ move ! (2 ∷ []) $
    peeks ! Items (Is Items) (shows 𝓛 Items) x (v₁ ∷ []) (λ is-x. lands_as ! refl refl (((mut_Lawful 𝓛 (named 0) κ array_row).typed x (v₁ ∷ []) is-x).0) $
    move ! (3 ∷ []) $ pick ! (λ us. split ! $ drop ! $ split ! $ move ! (1 ∷ []) $ heard ! _ (λ is-array.
    -- [the node follows what it holds; the reference to that; the token of κ; nothing; nothing; the index]
    let H₂ = triple_of 𝓛 item_mut.signature (item_mut.spec 𝓛 𝓜.mem 𝓡.returns) in
    let z₂ : H₂.Ghost = (((κ, tt), (q, tt), tt, (x, (i, tt)), (v₁ ∷ [], (is, tt))), tt) in
    use0 𝓛 (raw (fact 𝓤 (IsSome (slice_get x.now i)))) (fact_i 𝓤 _ (emp 𝓤) (subst IsSome (item_value i node x.now is-array) found)) $
    nothing ! $ move ! (7 ∷ 0 ∷ []) $ join ! $ move ! (3 ∷ 0 ∷ []) $ join ! $ nothing ! $ move ! (4 ∷ 0 ∷ []) $ join ! $ join ! $ use2 𝓛 (raw (H₂.pre z₂)) (id⊢ 𝓤 _) $
    calls_at_last ! (framed 𝓤 𝓛.H 𝓜 𝓣) H₂ (item_mut-thm.met 𝓤 𝓛 𝓜 𝓡 (code.calls-yaml_tree::array::Array::item_mut 𝓡.env wired)) z₂ (and_then ! (get ! refl) (and_then ! (get ! refl) (no_more !))) (λ w.
    let Put : Yaml → List Tree = λ n. slice_set x.now i (view n) in
    use1 𝓛 (later (some (λ (e : MutBor Yaml). ((‵ (flft κ q) ⊛ ‵ ftrue) ⊛ ‵ (Node.own_val e (w ∷ []))) ⊛
    some (λ (es : Lasts item_mut.ended z₂.0.0 z₂.0.3). ‵ (lasts item_mut.ended z₂.0.0 z₂.0.3 es) ⊛ ‵ (follows array_row node_row x.ghost_name e.ghost_name Put) ⊛ raw (fact 𝓤 (Some (view e.now) ≡ slice_get x.now i)))))) (id⊢ 𝓤 _) $
    await ! tt $ pick ! (λ e. split ! $ split ! $ move ! (1 ∷ []) $
    peeks ! Node (Is Node) (shows 𝓛 Node) e (w ∷ []) (λ is-e. let typed = ((mut_Lawful 𝓛 (named 0) κ node_row).typed e (w ∷ []) is-e).0 in lands_last ! refl typed $
    exec ! 𝓣.C 𝓣.Λ (env code.Mir.locals l) (after 3 (code.function).body) (at_ret _ (W.post y)) $
    move ! (2 ∷ []) $ pick ! (λ es. split ! $ drop ! $ split ! $ move ! (1 ∷ []) $ heard ! _ (λ is-value.
    -- [what the node holds follows the value; its reference; the token; the node follows what it holds; ..]
    move ! (3 ∷ 0 ∷ []) $ use2 𝓛 (‵ (follows node_row node_row r.ghost_name e.ghost_name (λ n. Array (Put n)))) (follows_then 𝓛 node_row array_row node_row Array Put r.ghost_name x.ghost_name e.ghost_name) $
    rewrite ! 0 (λ (F : Yaml → Yaml). ‵ (follows node_row node_row r.ghost_name e.ghost_name F)) (ap (with_index_value i) (sym is-array)) refl $
    sets ! (of_opd ! (get ! refl)) refl typed $ returns ! (look_at ! 0 refl) $ free_all ! refl $ keep ! (0 ∷ 1 ∷ 2 ∷ []) $
    suffices ! _ (ends_at 𝓛 f.ended stayed c y w e (tt, (tt, tt)) (tt, (tt, tt))) $
    nothing ! $ nothing ! $ join ! $ nothing ! $ join ! $ move ! (3 ∷ 0 ∷ 2 ∷ 1 ∷ []) $ group ! 3 $ frame ! $ says ! (is-value ∙ sym (item_value i node x.now is-array)) $ done !
    )))))))))))))))))))))
