-- A load of a text that means trees.
use Rattle.proof_loads.proofs.Common.{[], AnswersText, ap, Bool, ErrorReport, events_of, foretold_are_not_refused, IsFaultOf, IsStream, JsonTextsAreLoaded, List, Means, no_stream, no_token, ReadTextsAreLoaded, Result, spell_text, streams_are_loaded, streams_are_not_cut, subst, toks, Tree, tree_of, true, wants_memory, ℕ, ◌++◌, ◌∷◌, ◌≡◌}
use Rattle.proof_row.proofs.OneRow.{one_reading}
use Rattle.proof_loads.specs.LoadsAs.{LoadsAs, well, refused}
use Rattle.proof_loads.proofs.Texts.{goes_on}
use Rattle.proof_loads.proofs.Spelled.{json_texts_are_read}
use Rattle.proof_loads.proofs.Answers.{placed_stream, texts_are_answered, Takes}

-- A fault of such a text is out of memory.
pub memory_is_wanted : (keep_tags : Bool) (text : List ℕ) (trees : List Tree) (f : ErrorReport) → Means keep_tags text trees → IsFaultOf keep_tags text f → f.memory ≡ true
memory_is_wanted keep_tags text trees f x (wants_memory wants) = wants.memory
memory_is_wanted keep_tags text trees f x (no_token given events settled begins has r) = absurd (r.rowless.rowless x.tokens x.has)
memory_is_wanted keep_tags text trees f x (no_stream before last events first blames begins none) =
    let y = goes_on _ text trees _ x first in
    absurd (streams_are_not_cut _ _ y.more trees y.reads none)

loads_as : {R : Type 0} {takes : Takes R} {r s : R} {keep_tags : Bool} {text : List ℕ} {trees : List Tree} {result : Result (Unit {0}) ErrorReport}
    → Means keep_tags text trees → AnswersText takes keep_tags text r result s → LoadsAs takes trees r result s
loads_as {keep_tags = keep_tags} {text = text} {trees = trees} x (AnswersText.whole es h received) =
    let same = ap toks (one_reading text h.tokens x.tokens h.has x.has) in
    well es received (streams_are_loaded _ _ trees es x.read (subst (λ ts. IsStream keep_tags ts (events_of es)) same (placed_stream _ _ es h.stream)))
loads_as {keep_tags = keep_tags} {text = text} {trees = trees} x (AnswersText.faulted {f = f} es why after received) = LoadsAs.wants_memory es received (memory_is_wanted keep_tags text trees f x why)
loads_as {keep_tags = keep_tags} {text = text} {trees = trees} x (AnswersText.refused es e p b received takes) =
    let y = goes_on _ text trees _ x b.first in
    refused es e p received takes (foretold_are_not_refused _ _ y.more trees (es ++ (e, p) ∷ []) y.reads b.only)

pub texts_are_loaded : {R : Type 0} (takes : Takes R) → ReadTextsAreLoaded takes
texts_are_loaded takes old new r s result text trees start x scans l = loads_as x (texts_are_answered takes old new r s result text start scans l)

pub json_is_loaded : {R : Type 0} (takes : Takes R) → JsonTextsAreLoaded takes
json_is_loaded takes old new r s result w start is scans l =
    texts_are_loaded takes old new r s result (spell_text w) (tree_of w.value ∷ []) start (json_texts_are_read old.keep_tags w is) scans l
