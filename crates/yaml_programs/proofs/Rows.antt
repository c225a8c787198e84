-- What arguments ask for, computed: the options are those for limits.
use Rattle.yaml_programs.proofs.Common.{[], Asked, asked, codes, helps, List, NoSuchOption, reads, refl, refuses, stops, TakesNone, TakesOne, Text, ◌∷◌, ◌≡◌}
use Rattle.yaml_programs.specs.Bounds.{limit_options}

abbrev ask : List Text → Asked
ask words = asked limit_options words

no_file : ask [] ≡ reads [] (codes "-" ∷ [])
no_file = refl

option_before_a_file : ask (codes "--max-size" ∷ codes "3" ∷ codes "a" ∷ []) ≡ reads ((codes "--max-size", codes "3") ∷ []) (codes "a" ∷ [])
option_before_a_file = refl

option_behind_a_file : ask (codes "a" ∷ codes "--max-size=3=4" ∷ []) ≡ reads ((codes "--max-size", codes "3=4") ∷ []) (codes "a" ∷ [])
option_behind_a_file = refl

options_in_order : ask (codes "--no-limits" ∷ codes "-" ∷ codes "--max-levels" ∷ codes "-h" ∷ [])
    ≡ reads ((codes "--no-limits", []) ∷ (codes "--max-levels", codes "-h") ∷ []) (codes "-" ∷ [])
options_in_order = refl

files_behind_the_end : ask (codes "a" ∷ codes "--" ∷ codes "-h" ∷ codes "--" ∷ []) ≡ reads [] (codes "a" ∷ codes "-h" ∷ codes "--" ∷ [])
files_behind_the_end = refl

short_help : ask (codes "a" ∷ codes "-h" ∷ codes "-x" ∷ []) ≡ stops helps
short_help = refl

unknown : ask (codes "-x" ∷ codes "--help" ∷ []) ≡ stops (refuses (codes "-x") NoSuchOption)
unknown = refl

a_value_too_many : ask (codes "--no-limits=3" ∷ []) ≡ stops (refuses (codes "--no-limits=3") TakesNone)
a_value_too_many = refl

a_value_is_missing : ask (codes "--max-size" ∷ codes "--" ∷ codes "3" ∷ []) ≡ stops (refuses (codes "--max-size") TakesOne)
a_value_is_missing = refl
