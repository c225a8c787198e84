-- Where a plain scalar may begin, and where it ends. YAML 1.2, section 7.3.3.
use Rattle.std.specs.Prelude.{ℕ, suc, List, [], ◌∷◌, ◌++◌, Bool, true, false, ◌&&◌, ◌||◌, ◌==◌, not, nat_le, if◌then◌else◌, Option, Some, None, codes}
use Rattle.defs_text.specs.Classes.{is_one_of, is_blank, is_break, is_blank_or_end, is_flow, is_at_gap, is_at_end, is_document_marker}

-- whether a text begins with an indicator of flow collections
abbrev pub begins_flow : List ℕ → Bool
begins_flow [] = false
begins_flow (c ∷ r) = is_flow c

-- Whether a colon before this text is an indicator: before a blank, a break or the end; in flow also before a flow indicator, or next to a quoted scalar or a flow collection that ended.
abbrev pub is_value_indicator : (in_flow adjacent : Bool) → (after_colon : List ℕ) → Bool
is_value_indicator in_flow adjacent r = is_at_gap r || (in_flow && (begins_flow r || adjacent))

-- ---- where one begins

-- whether this character may begin a plain scalar before the text after it
abbrev pub may_begin : (in_flow adjacent : Bool) → ℕ → List ℕ → Bool
may_begin in_flow adjacent c r =
    (if c == 45 then not (is_at_gap r) && not (in_flow && begins_flow r) else
    (if c == 63 then not (is_at_gap r) else
    (if c == 58 then not (is_value_indicator in_flow adjacent r) else
    (if is_one_of (codes "|>") c then in_flow else
    not (is_blank_or_end c || is_flow c || is_one_of (codes "#&*!%@`'\"") c)))))

-- Whether a plain scalar may begin with this text, in this column: no token of another kind does.
abbrev pub begins_plain : (in_flow adjacent : Bool) → (column : ℕ) → List ℕ → Bool
begins_plain in_flow adjacent column [] = false
begins_plain in_flow adjacent column (c ∷ r) = may_begin in_flow adjacent c r && not ((column == 0) && is_document_marker (c ∷ r))

-- ---- where one ends

-- What stands directly before a position: a character of content, a blank after content, or a break and a number of blanks.
pub data Stand : Type 0 where
  inside : Stand
  after_blank : Stand
  on_line : (column : ℕ) → Stand

-- what stands before the position after a blank
abbrev pub past_blank : Stand → Stand
past_blank inside = after_blank
past_blank after_blank = after_blank
past_blank (on_line k) = on_line (suc k)

-- what stands before the position after a character
abbrev pub past : Stand → ℕ → Stand
past s c = (if is_break c then on_line 0 else (if is_blank c then past_blank s else inside))

-- a colon that is an indicator
abbrev pub ends_at_colon : (in_flow : Bool) → List ℕ → Bool
ends_at_colon in_flow [] = false
ends_at_colon in_flow (c ∷ r) = (c == 58) && is_value_indicator in_flow false r

-- a `#` after a blank or a break
abbrev pub ends_at_comment : Stand → List ℕ → Bool
ends_at_comment _ [] = false
ends_at_comment inside (c ∷ r) = false
ends_at_comment _ (c ∷ r) = c == 35

-- whether a column is deeper than that of the innermost open block collection
abbrev pub is_deeper : (collection : Option ℕ) → (column : ℕ) → Bool
is_deeper None k = true
is_deeper (Some n) k = nat_le (suc n) k

-- a later line: a document marker in column 0, and outside flow a line that is not deeper than the innermost open block collection
abbrev pub ends_at_line : (in_flow : Bool) → (collection : Option ℕ) → Stand → List ℕ → Bool
ends_at_line in_flow collection (on_line k) r = ((k == 0) && is_document_marker r) || (not in_flow && not (is_deeper collection k))
ends_at_line in_flow collection _ r = false

-- Whether a plain scalar ends at a text that is not at a blank or break; what stands before that text.
abbrev pub ends_plain : (in_flow : Bool) → (collection : Option ℕ) → Stand → List ℕ → Bool
ends_plain in_flow collection s r = is_at_end r || ends_at_colon in_flow r || ends_at_comment s r || ends_at_line in_flow collection s r || (in_flow && begins_flow r)

-- whether a plain scalar goes on over all of a piece of text
abbrev pub goes_on : (in_flow : Bool) → (collection : Option ℕ) → Stand → (piece next : List ℕ) → Bool
goes_on in_flow collection s [] next = true
goes_on in_flow collection s (c ∷ r) next = (is_blank c || is_break c || not (ends_plain in_flow collection s (c ∷ (r ++ next)))) && goes_on in_flow collection (past s c) r next

-- whether a plain scalar ends before a text, blanks and breaks left aside
abbrev pub stops : (in_flow : Bool) → (collection : Option ℕ) → Stand → (next : List ℕ) → Bool
stops in_flow collection s [] = true
stops in_flow collection s (c ∷ r) = (if is_blank c || is_break c then stops in_flow collection (past s c) r else ends_plain in_flow collection s (c ∷ r))

-- whether the last character of a text is neither a blank nor a break
abbrev pub ends_with_content : ℕ → List ℕ → Bool
ends_with_content c [] = not (is_blank c) && not (is_break c)
ends_with_content c (d ∷ r) = ends_with_content d r

-- Whether a piece of text is the whole of a plain scalar: it goes on up to its last character, which is no blank, and ends there.
abbrev pub is_whole_plain : (in_flow : Bool) → (collection : Option ℕ) → (piece next : List ℕ) → Bool
is_whole_plain in_flow collection [] next = false
is_whole_plain in_flow collection (c ∷ r) next = goes_on in_flow collection inside r next && ends_with_content c r && stops in_flow collection inside next
