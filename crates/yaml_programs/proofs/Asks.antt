-- What words ask for, behind those that were taken.
use Rattle.std.specs.Result.{IsErrAnd}
use Rattle.yaml_programs.proofs.Common.{[], after_first, ap, append_assoc, Asked, asked, asked_behind, awaits, before_first, behind, ends_options, Err, false, is_equals_sign, List, MatchResult, None, NoSuchOption, Ok, option_named, option_word, position, reads, refl, refuses, Result, Row, sets, Setting, Some, stops, stops_at, StopsAt, subst, sym, takes_nothing, Text, true, with_file, with_files, with_setting, ◌++◌, ◌∙◌, ◌∷◌, ◌≡◌}
use Rattle.yaml_programs.specs.declared.words.Stop.{Stop}
use Rattle.yaml_programs.specs.declared.words.Stop.TheVariants as stop

pub behind_setting : (ss : List Setting) (fs : List Text) (s : Setting) (a : Asked) → behind (ss ++ (s ∷ [])) fs a ≡ behind ss fs (with_setting s a)
behind_setting ss fs s (reads more files) = ap (λ l. reads l (fs ++ files)) (append_assoc ss (s ∷ []) more)
behind_setting ss fs s (stops why) = refl

pub behind_file : (ss : List Setting) (fs : List Text) (f : Text) (a : Asked) → behind ss (fs ++ (f ∷ [])) a ≡ behind ss fs (with_file f a)
behind_file ss fs f (reads more files) = ap (λ l. reads (ss ++ more) l) (append_assoc fs (f ∷ []) files)
behind_file ss fs f (stops why) = refl

pub behind_nothing : (a : Asked) → behind [] [] a ≡ a
behind_nothing (reads ss fs) = refl
behind_nothing (stops why) = refl

-- an option without a `=`
pub bare_nothing : (options : List Row) (word : Text) (o : Row) → position is_equals_sign word ≡ None
    → option_named options word ≡ Some o → takes_nothing o ≡ true → option_word options word ≡ sets o.0 []
bare_nothing options word o none named nothing = rw (none, named, nothing)

pub bare_value : (options : List Row) (word : Text) (o : Row) → position is_equals_sign word ≡ None
    → option_named options word ≡ Some o → takes_nothing o ≡ false → option_word options word ≡ awaits o.0
bare_value options word o none named nothing = rw (none, named, nothing)

pub bare_unknown : (options : List Row) (word : Text) → position is_equals_sign word ≡ None
    → option_named options word ≡ None → option_word options word ≡ stops_at (refuses word NoSuchOption)
bare_unknown options word none named = rw (none, named)

stops_with : (more : List Text) (a : Asked) (s : Stop) → StopsAt a s → StopsAt (with_files more a) s
stops_with more a stop.Help h = ap (with_files more) h
stops_with more a stop.Version h = ap (with_files more) h
stops_with more a (stop.Refused w r) h = ap (with_files more) h
stops_with more a stop.OutOfMemory h = tt

-- a word before `--` at which the reading stops
pub stops_before_end : (options : List Row) (args words : List Text) (a : Asked) (s : Stop) → words ≡ before_first ends_options args
    → a ≡ asked_behind options None words → StopsAt a s → StopsAt (asked options args) s
stops_before_end options args words a s e h k =
    stops_with (after_first ends_options args) (asked_behind options None (before_first ends_options args)) s
    (subst (λ b. StopsAt b s) (h ∙ ap (asked_behind options None) e) k)

pub read_stops : {A : Type 0} (P : A → Type 0) (a : Asked) (x : Result A Stop) (s : Stop) → IsErrAnd x (λ e. e ≡ s) → StopsAt a s → MatchResult x P (StopsAt a)
read_stops P a (Ok y) s h k = absurd h
read_stops P a (Err e) s h k = subst (StopsAt a) (sym h) k
