-- What the code of tags holds, as the model's states.
use Rattle.std.specs.Prelude.{ℕ, List}
use Rattle.yaml_chars.specs.WindowView.{WindowView, position_of}
use Rattle.model_scanner.specs.Uri.{Mode, UriState}
use Rattle.model_scanner.specs.Tag.{Tag}
use Rattle.model_scanner.specs.Directive.{Kind, version, tag, unknown}
use Rattle.yaml_lexers.specs.declared.directive.Directive.{Directive}
use Rattle.yaml_lexers.specs.declared.directive.Directive.TheVariants as code
use Rattle.yaml_lexers.specs.declared.directive.Directive.TheVariants.{Version, Unknown}

-- a text that a window's next characters go on with
abbrev pub at : {T : Type 0} → Mode → WindowView T → List ℕ → UriState
at mode w t = record { mode = mode; position = position_of w; text = t }

-- a tag's handle and suffix
abbrev pub tag_shown : List ℕ → List ℕ → Tag
tag_shown h s = record { handle = h; suffix = s }

abbrev pub kind_shown : Directive → Kind
kind_shown Version = version
kind_shown code.Tag = tag
kind_shown Unknown = unknown
