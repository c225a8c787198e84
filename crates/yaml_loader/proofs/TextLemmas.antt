-- What a load answers of a text that means trees.
use Rattle.yaml_loader.proofs.Common.{[], Answers, ap, Begins-spelled, BeginsText, Bool, CameFrom, characters_are_the_text, chars, Chars-spelled, chars_steps, Err, ErrorReport, false, Global, has_no_nul, HasNoNul, IfOk, IsAtStart, IsUnread, IsUtf8, items_view, json_texts_are_read, json_texts_have_no_nul, List, LoadsOnly, LoadsText, MayBe, Means, memory_is_wanted, nested_is_stream, of_parser, OfBasic, OfGiven, OfJson, OfLayout, OfQuoted, OfTexts, Ok, one_meaning, one_reading, Option, Parsed, refl, Result, Scanned, subst, sym, Tree, tree_of, true, up_to_nul, Vec, Yaml, ℕ, ◌∙◌, ◌∷◌, ◌≡◌}
use Rattle.defs_layout.specs.Layout as layout
use Rattle.proof_loads.specs.Spelled.{IsWithoutNul}
use Rattle.proof_loads.proofs.LayoutNul.{layouts_have_no_nul}
use Rattle.proof_loads.proofs.LayoutTexts.{layouts_are_read}
use Rattle.proof_loads.proofs.QuotedTexts.{quoted_texts_are_read, quoted_texts_have_no_nul}
use Rattle.std.specs.Iterator.{AlwaysYields}
use Rattle.proof_row.proofs.Pieces.{clean_up_to_end}
use Rattle.yaml_chars.specs.InMemory.{text_rest}
use Rattle.yaml_chars.specs.declared.characters.TextInMemory.{TextInMemory}

-- A load of a text that means trees answers just these.
loads_only : {text : List ℕ} {trees : List Tree} (result : Result (Vec Yaml Global) ErrorReport) → LoadsText false text result → Means false text trees → LoadsOnly result trees
loads_only {text} {trees} (Ok documents) h x = one_meaning false text (items_view documents.items) trees h x
loads_only {text} {trees} (Err f) (of_parser why) x = memory_is_wanted false text trees f x why
loads_only (Err f) (IsUnread.repeated_key es h key twice at tells owned) x = let same = one_reading h.tokens h.documents h.has (nested_is_stream h) x in cc

-- ---- the text after an iterator

pub of_texts : (old new : Parsed) (text : List ℕ) (P : Bool → List ℕ → Type 0) → IsAtStart old → old.keep_tags ≡ false → MayBe new.scanner text → OfTexts old new (P old.keep_tags) → P false text
of_texts old new text P start keep may h = subst (λ b. P b text) keep (h start text may)

pub given_may_be : {S : Type 0} (steps : S → Option ℕ → S → Type 0) (source start : S) (s : Scanned) → start ≡ source → CameFrom steps start s.taken s.done → HasNoNul s.taken
    → OfGiven steps source (λ text. MayBe s (up_to_nul text))
given_may_be steps source start s same came no_nul = λ all always. characters_are_the_text steps source all s always (subst (λ i. CameFrom steps i s.taken s.done) same came) no_nul

-- What the iterator gave is the beginning of a text, of which P holds.
pub begins_given : {S : Type 0} {P : List ℕ → Type 0} (steps : S → Option ℕ → S → Type 0) (source start : S) (s : Scanned) → start ≡ source → CameFrom steps start s.taken s.done → HasNoNul s.taken
    → ((text : List ℕ) → MayBe s text → P text) → BeginsText steps source (λ text. has_no_nul text ≡ true → P text)
begins_given steps source start s same came no_nul holds = record {
  taken = s.taken;
  done = s.done;
  came = subst (λ i. CameFrom steps i s.taken s.done) same came;
  no_nul = no_nul;
  holds = λ text begins ends none. holds text (record { no_nul = none; begins = begins; ends = ends });
}

-- ---- texts whose trees are known

-- A text without NUL that is the one is the other, which was loaded.
module _ (text a : List ℕ) (is : (s : List ℕ) → IsWithoutNul s → s ≡ text → s ≡ a) (result : Result (Vec Yaml Global) ErrorReport) (h : LoadsText false a result) where
  of_spelt : (s : List ℕ) (trees : List Tree) → IsWithoutNul s → s ≡ text → Means false s trees → LoadsOnly result trees
  of_spelt s trees free e reads = loads_only result h (subst (λ x. Means false x trees) (is s free e) reads)

  of_json : OfJson text (LoadsOnly result)
  of_json tree (w, j, e, same) =
      subst (λ u. LoadsOnly result (u ∷ [])) same (of_spelt _ (tree_of w.value ∷ []) (json_texts_have_no_nul w j) e (json_texts_are_read false w j))

  of_layout : OfLayout text (LoadsOnly result)
  of_layout trees (w, l, e, same) =
      subst (LoadsOnly result) same (of_spelt _ (layout.trees_of w.documents) (layouts_have_no_nul w l) e (layouts_are_read false w l))

  of_basic : OfBasic text (LoadsOnly result)
  of_basic tree (w, l, basic, e, same) = of_layout (tree ∷ []) (w, l, e, same)

  of_quoted : OfQuoted text (LoadsOnly result)
  of_quoted value q = of_spelt text (Tree.string value ∷ []) (quoted_texts_have_no_nul text value q) refl (quoted_texts_are_read false text value q)

-- the documents are what the text means
pub of_row : (text : List ℕ) (result : Result (Vec Yaml Global) ErrorReport) → LoadsText false text result → IfOk result (λ documents. Means false text (items_view documents.items))
of_row text (Ok documents) h = h
of_row text (Err f) h = tt

-- all that a load answers of a text
pub answers : (text : List ℕ) (result : Result (Vec Yaml Global) ErrorReport) → LoadsText false text result → Answers text result
answers text result h =
    let same : (s : List ℕ) → IsWithoutNul s → s ≡ text → s ≡ text = λ s free e. e in
    record {
      reads = h;
      meant = λ trees x. loads_only result h x;
      json = of_json text text same result h;
      basic = of_basic text text same result h;
      laid_out = of_layout text text same result h;
      quoted = of_quoted text text same result h;
    }

-- the same of a text of which a load reads what stands before a NUL
pub of_whole : (text : List ℕ) (result : Result (Vec Yaml Global) ErrorReport) → LoadsText false (up_to_nul text) result
    → OfJson text (LoadsOnly result) × OfBasic text (LoadsOnly result) × OfLayout text (LoadsOnly result) × OfQuoted text (LoadsOnly result)
of_whole text result h =
    let all : (s : List ℕ) → IsWithoutNul s → s ≡ text → s ≡ up_to_nul text = λ s free e. sym free ∙ ap up_to_nul e in
    (of_json text (up_to_nul text) all result h, of_basic text (up_to_nul text) all result h, of_layout text (up_to_nul text) all result h, of_quoted text (up_to_nul text) all result h)

-- ---- what came from a text in memory is that text

abbrev steps : TextInMemory → Option ℕ → TextInMemory → Type 0
steps s r t = chars_steps s.chars r t.chars

always_so : (cs : List ℕ) (s : TextInMemory) → AlwaysYields chars_steps (λ c. c) s.chars cs → AlwaysYields steps (λ c. c) s cs
always_so [] s h = λ c t step. h c t.chars step
always_so (c ∷ cs) s h = (λ t step. h.0 t.chars step, λ d t step. let next = h.1 d t.chars step in (next.0, always_so cs t next.1))

-- what holds of each text that begins with what came from a text in memory holds of that text
pub of_memory : {P : List ℕ → Type 0} (source : TextInMemory) (bytes : List ℕ) → IsUtf8 bytes → text_rest source ≡ bytes → BeginsText steps source (λ a. has_no_nul a ≡ true → P a) → P (up_to_nul (chars bytes))
of_memory {P} source bytes utf8 rest begun =
    let always = always_so (chars bytes) source (Chars-spelled source.chars bytes utf8 rest) in
    Begins-spelled steps {P = λ a. has_no_nul a ≡ true → P a} (chars bytes) source always begun (clean_up_to_end (chars bytes))
