-- The buffers of a flow scalar's scan join the text of its lines, trimmed and folded.
use Rattle.proof_lexers.proofs.Common.{[], after_elements, ap, append-nil, append_assoc, before_break, begun_with, blank, Bool, content, Element, escaped_break, false, Folded, folded_after, folded_break, if◌then◌else◌, is_empty, joined, last_line, line, line_break, line_feed, lines_of, List, not, refl, replicate, suc, sym, trimmed_after, true, without_trailing_blanks, zero, ℕ, ◌&&◌, ◌++◌, ◌∙◌, ◌∷◌, ◌≡◌, arith}
use Rattle.defs_text.specs.Classes.{space}
use Rattle.defs_text.specs.FlowScalar.{Lines, text_of}
use Rattle.proof_lexers.specs.BufferLaws.{BuffersJoinFoldedLines}

-- blanks of a line, as elements before others
abbrev blanks : List ℕ → List Element → List Element
blanks [] l = l
blanks (c ∷ g) l = blank c ∷ blanks g l

one_more : (g : List ℕ) (c : ℕ) (l : List Element) → blanks (g ++ c ∷ []) l ≡ blanks g (blank c ∷ l)
one_more [] c l = refl
one_more (b ∷ g) c l = ap (λ k. blank b ∷ k) (one_more g c l)

text_after : (g : List ℕ) (l : List Element) → text_of (blanks g l) ≡ g ++ text_of l
text_after [] l = refl
text_after (b ∷ g) l = ap (λ k. b ∷ k) (text_after g l)

-- they go before a break that isn't escaped
all_trailing : (g : List ℕ) → without_trailing_blanks (blanks g []) ≡ []
all_trailing [] = refl
all_trailing (b ∷ g) = rw (all_trailing g) refl

-- and stay before content
none_trailing : (g : List ℕ) (c : ℕ) (l : List Element) → without_trailing_blanks (blanks g (content c ∷ l)) ≡ blanks g (content c ∷ without_trailing_blanks l)
none_trailing (b ∷ d ∷ g) c l = rw (none_trailing (d ∷ g) c l) refl
none_trailing g c l = refl

-- ---- the text of the lines left

-- within a line, after its trailing blanks
abbrev line_text : List ℕ → Lines → List ℕ
line_text g (last_line l) = text_of (blanks g l)
line_text g (line l escaped ls) = text_of (before_break escaped (blanks g l)) ++ folded_after escaped 0 (trimmed_after ls)

abbrev in_line : List ℕ → List ℕ → Folded
in_line text g = record { text = text; gap = g; leading = false; escaped = false }

-- after a break and so many empty lines
abbrev after_break : Bool → ℕ → List ℕ → Folded
after_break escaped n text = record { text = text; gap = replicate n line_feed; leading = true; escaped = escaped }

abbrev joined_text : List Element → Folded → List ℕ
joined_text es t = (joined (after_elements es t)).text

content_line : (g : List ℕ) (c : ℕ) (ls : Lines) → line_text g (begun_with (content c) ls) ≡ g ++ c ∷ line_text [] ls
content_line g c ls = grind (arith, text_after, none_trailing, append_assoc)

broken : (escaped : Bool) (n : ℕ) → (if true && not escaped && is_empty (replicate n line_feed) then space ∷ [] else replicate n line_feed) ≡ folded_break escaped n
broken escaped n = grind arith

pub more_breaks : (n : ℕ) → replicate n line_feed ++ line_feed ∷ [] ≡ replicate (suc n) line_feed
more_breaks zero = refl
more_breaks (suc n) = ap (λ r. line_feed ∷ r) (more_breaks n)

leading_blank : (escaped : Bool) (n : ℕ) (c : ℕ) (ls : Lines) → folded_after escaped n (trimmed_after (begun_with (blank c) ls)) ≡ folded_after escaped n (trimmed_after ls)
leading_blank escaped n c ls = grind arith

mutual
  line_joins : (es : List Element) (text g : List ℕ) → joined_text es (in_line text g) ≡ text ++ line_text g (lines_of es)
  line_joins [] text g = rw (text_after g [], append-nil) refl
  line_joins (content c ∷ es) text g = line_joins es ((text ++ g) ++ c ∷ []) [] ∙ rw (content_line g c (lines_of es), append_assoc, append_assoc) refl
  line_joins (blank c ∷ es) text g = line_joins es text (g ++ c ∷ []) ∙ ap (λ l. text ++ l) (grind (arith, one_more))
  line_joins (line_break ∷ es) text g = break_joins es false 0 text ∙ rw (all_trailing g) refl
  line_joins (escaped_break ∷ es) text g = break_joins es true 0 (text ++ g) ∙ rw (text_after g [], append-nil, append_assoc) refl

  break_joins : (es : List Element) (escaped : Bool) (n : ℕ) (text : List ℕ) → joined_text es (after_break escaped n text) ≡ text ++ folded_after escaped n (trimmed_after (lines_of es))
  break_joins [] escaped n text = ap (λ g. text ++ g) (broken escaped n) ∙ rw append-nil refl
  break_joins (content c ∷ es) escaped n text =
      grind (arith, broken, append_assoc, line_joins es ((text ++ folded_break escaped n) ++ c ∷ []) [])
  break_joins (blank c ∷ es) escaped n text = break_joins es escaped n text ∙ ap (λ l. text ++ l) (sym (leading_blank escaped n c (lines_of es)))
  break_joins (line_break ∷ es) escaped n text = ap (λ g. joined_text es (record { text = text; gap = g; leading = true; escaped = escaped })) (more_breaks n) ∙ break_joins es escaped (suc n) text
  break_joins (escaped_break ∷ es) escaped n text =
      grind (arith, broken, append-nil, append_assoc, break_joins es true 0 (text ++ folded_break escaped n))

pub buffers_join : BuffersJoinFoldedLines
buffers_join es = line_joins es [] [] ∙ (grind arith)
