-- The files that were done so far.
use Rattle.std.specs.Borrow.{Bor}
use Rattle.std.proofs.lemmas.List.Elements.{All-push}
use Rattle.yaml_programs.proofs.Common.{[], All, Err, get_or, IfOk, IsOk, length, List, map, map-append, Ok, Result, subst, sym, take, take_all, take_more, Text, text_view, ℕ, ◌+◌, ◌<◌, ◌∷◌, ◌≤◌}

pub done_more : (W : Text → Type 0) (files : List (Bor Text)) (i : ℕ) (d : Bor Text) → i < length files → W (get_or files i d).now
    → All W (map text_view (take i files)) → All W (map text_view (take (i + 1) files))
done_more W files i d below done before =
    let file = get_or files i d in
    subst (λ l. All W (map text_view l)) (sym (take_more files i d below))
    (subst (All W) (sym (map-append text_view (take i files) (file ∷ []))) (All-push W (map text_view (take i files)) file.now before done))

pub all_done : (W : Text → Type 0) (files : List (Bor Text)) (i : ℕ) → length files ≤ i
    → All W (map text_view (take i files)) → All W (map text_view files)
all_done W files i past done = subst (λ l. All W (map text_view l)) (take_all i files past) done

pub of_ok : {A E : Type 0} (P : Type 0) (r : Result A E) → IfOk r (λ _. P) → IsOk r → P
of_ok P (Ok a) h ok = h
of_ok P (Err e) h ok = cc
