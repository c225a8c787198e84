-- What the scan of a flow scalar does with its body's elements, one by one.
use Rattle.std.specs.Prelude.{List, [], ◌∷◌}
use Rattle.defs_text.specs.FlowScalar.{Element, content, blank, line_break, escaped_break}
use Rattle.model_scanner.specs.Folding.{Folded, with_char, with_blank, with_break, with_escaped_break, joined}

-- after an element: content and an escaped break take the gap before them into the text
abbrev pub after_element : Element → Folded → Folded
after_element (content c) t = with_char c (joined t)
after_element (blank c) t = with_blank c t
after_element line_break t = with_break t
after_element escaped_break t = with_escaped_break (joined t)

-- after elements
abbrev pub after_elements : List Element → Folded → Folded
after_elements [] t = t
after_elements (e ∷ es) t = after_elements es (after_element e t)
