-- The items of a list, one after the other.
use Rattle.std.proofs.Common.{◌≡◌, ◌≢◌, ℕ, List, [], ◌∷◌, ◌++◌, length, Bor, Bool, false, Ok, Err, Some, None, refl, sym, ap, ◌∙◌, subst}
use Rattle.std.specs.Prelude.{map, Result, if◌then◌else◌}
use Rattle.std.specs.Result.{is_ok, is_err}
use Rattle.std.proofs.lemmas.Bool.{true≢false}
use Rattle.std.proofs.lemmas.List.{length-map}
use Rattle.defs_tree.specs.Tree.{Tree}
use Rattle.yaml_paths.specs.Explained.{AreOf, IsFirstOf, IsOtherItem, ExplainsItem}
use Rattle.yaml_paths.specs.Kinds.{kind_of}
use Rattle.yaml_paths.specs.Path.{steps_of}
use Rattle.yaml_paths.specs.declared.error.ReadError.{ReadError}
use Rattle.yaml_paths.specs.declared.error.Reason.TheVariants.{Other, OutOfMemory}
use Rattle.yaml_paths.specs.declared.kind.Kind.{Kind}
use Rattle.yaml_paths.specs.declared.step.Step.{Step}

-- a push that was not refused
pub pushed : {A E X : Type 0} (r : Result A E) (b : Bool) (xs ys zs : List X) → zs ≡ (if is_ok r then ys else xs) → b ≡ is_err r → b ≡ false → zs ≡ ys
pushed (Ok x) b xs ys zs e v n = e
pushed (Err x) b xs ys zs e v n = absurd (true≢false (sym v ∙ n))

module _ {V : Type 0} (wanted : Kind) (tree : V → Tree) where
  -- one more item of that kind
  pub one_more : (vs ws : List V) (v : V) → ws ≡ vs ++ v ∷ [] → kind_of (tree v) ≡ wanted → AreOf wanted (map tree vs) → AreOf wanted (map tree ws)
  one_more vs ws v e h g = subst (λ us. AreOf wanted (map tree us)) (sym e) (go vs g)
    where
      go : (us : List V) → AreOf wanted (map tree us) → AreOf wanted (map tree (us ++ v ∷ []))
      go [] r = (h, tt)
      go (u ∷ us) r = (r.0, go us r.1)

  -- an item of that kind, behind others
  begins : (ts left rest : List Tree) (u : Tree) (vs : List V) → ts ≡ map tree vs ++ left → AreOf wanted (map tree vs) → left ≡ u ∷ rest → kind_of u ≡ wanted → IsFirstOf wanted ts
  begins ts left rest u vs a all b h = subst (IsFirstOf wanted) (sym (a ∙ ap (λ l. map tree vs ++ l) b)) (go vs all)
    where
      go : (us : List V) → AreOf wanted (map tree us) → IsFirstOf wanted (map tree us ++ u ∷ rest)
      go [] r = h
      go (v ∷ us) r = r.0

  pub no_room : (path : Bor (List Step)) (ts left rest : List Tree) (u : Tree) (vs : List V) (e : ReadError) → ts ≡ map tree vs ++ left → AreOf wanted (map tree vs) → left ≡ u ∷ rest
      → kind_of u ≡ wanted → e ≡ record { path = path; item = None; position = None; reason = OutOfMemory } → ExplainsItem wanted (steps_of path.now) ts e
  no_room path ts left rest u vs e a all b h g = subst (ExplainsItem wanted (steps_of path.now) ts) (sym g) (refl, begins ts left rest u vs a all b h)

  pub other_item : (path : Bor (List Step)) (ts left rest : List Tree) (u : Tree) (vs : List V) (n : ℕ) (k : Kind) (e : ReadError) → ts ≡ map tree vs ++ left → AreOf wanted (map tree vs)
      → left ≡ u ∷ rest → n ≡ length vs → kind_of u ≢ wanted → k ≡ wanted → e ≡ record { path = path; item = Some n; position = None; reason = Other k (kind_of u) }
      → ExplainsItem wanted (steps_of path.now) ts e
  other_item path ts left rest u vs n k e a all b c d f g =
      let first : IsOtherItem wanted ts n (kind_of u) =
      record {
        before = map tree vs;
        item = u;
        after = rest;
        whole = a ∙ ap (λ l. map tree vs ++ l) b;
        at = c ∙ sym (length-map vs tree);
        wanted_before = all;
        is = refl;
        other = d;
      } in
      subst (ExplainsItem wanted (steps_of path.now) ts) (sym g) (refl, f, first)
