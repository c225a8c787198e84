-- What a load answers of a JSON text that was read at once.
use Rattle.std.proofs.lemmas.List.Elements.{All-nil, All-cons}
use Rattle.yaml_loader.proofs.Common.{[], All, ap, Bool, element, Elements, Err, ErrorReport, false, fits_i64, Global, HasNoAlias, IfErr, IfOk, if◌then◌else◌, IsJsonText, items, items_view, Json, json_texts_are_read, json_texts_have_no_nul, last_element, last_member, List, LoadsText, Means, member, Members, NoneHasAlias, NoPairHasAlias, number, object, of_parser, Ok, pair_list, pairs_of, Result, subst, sym, Tree, tree_of, true, up_to_nul, Vec, wants_memory, WantsMemory, Yaml, ℕ, ◌∙◌, ◌∷◌, ◌≡◌}
use Rattle.defs_layout.specs.JsonNumber.{Number, no_fraction, no_exponent, number_tree, integer_value}

-- ---- no alias stands in its tree

-- P of an `if`, from P of both
pub either : {A : Type 0} (P : A → Type 0) (b : Bool) (t u : A) → P t → P u → P (if b then t else u)
either P true t u h r = h
either P false t u h r = r

number_no_alias : (n : Number) → HasNoAlias (number_tree n)
number_no_alias (Number.number b w no_fraction no_exponent) = either HasNoAlias (fits_i64 (integer_value b w)) _ _ tt tt
number_no_alias (Number.number b w f e) = tt

mutual
  value_no_alias : (v : Json) → HasNoAlias (tree_of v)
  value_no_alias (number n) = number_no_alias n
  value_no_alias (Json.array g es) = elements_no_alias es
  value_no_alias (object g ms) = members_no_alias ms
  value_no_alias v = tt

  elements_no_alias : (es : Elements) → NoneHasAlias (items es)
  elements_no_alias (last_element v a) = (value_no_alias v, tt)
  elements_no_alias (element v a b es) = (value_no_alias v, elements_no_alias es)

  members_no_alias : (ms : Members) → NoPairHasAlias (pairs_of (pair_list ms))
  members_no_alias (last_member k g h v a) = (tt, value_no_alias v, tt)
  members_no_alias (member k g h v a b ms) = (tt, value_no_alias v, members_no_alias ms)

-- ---- what a load answers

-- the one tree, or out of memory
pub json_given : (text : List ℕ) (tree : Tree) (result : Result (Vec Yaml Global) ErrorReport) → IsJsonText tree text → IfOk result (λ documents. items_view documents.items ≡ tree ∷ []) → IfErr result (λ f. WantsMemory f)
    → LoadsText false (up_to_nul text) result × IfOk result (λ documents. All HasNoAlias (items_view documents.items))
json_given text tree (Ok documents) (w, is, e, same) ok err =
    let reads = subst (λ a. Means false a (tree_of w.value ∷ [])) (sym (json_texts_have_no_nul w is) ∙ ap up_to_nul e) (json_texts_are_read false w is) in (
      subst (Means false (up_to_nul text)) (ap (λ t. t ∷ []) same ∙ sym ok) reads,
      subst (λ ts. All HasNoAlias ts) (sym ok) (All-cons HasNoAlias tree [] (subst HasNoAlias same (value_no_alias w.value)) (All-nil HasNoAlias)),
    )
json_given text tree (Err f) is ok err = (of_parser (wants_memory err), tt)
