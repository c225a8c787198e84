-- The text of a fault.
use Rattle.std.specs.Prelude.{ℕ, List, Bool, true, false, codes, string_bytes}
use Rattle.yaml_tokens.specs.declared.fault.Info.{Info}
use Rattle.yaml_tokens.specs.declared.fault.Info.TheVariants.{Fixed, Owned, Memory}

abbrev pub text_of : Info → List ℕ
text_of (Fixed s) = s.now
text_of (Owned s) = string_bytes s
text_of Memory = codes "out of memory"

abbrev pub is_memory : Info → Bool
is_memory (Fixed s) = false
is_memory (Owned s) = false
is_memory Memory = true

abbrev pub is_fixed : Info → Bool
is_fixed (Fixed s) = true
is_fixed (Owned s) = false
is_fixed Memory = true
