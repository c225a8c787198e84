-- The accounts that fit what the scanner holds: for each open key the one in which it is a key that waits, and the one in which it is none.
use Rattle.std.specs.Prelude.{◌≡◌, ℕ, List, [], ◌∷◌, Bool, true, false, Option, Some, None}
use Rattle.defs_text.specs.Position.{Position}
use Rattle.defs_token.specs.Key.{Line, waits as waits_on_line}
use Rattle.defs_token.specs.FlowEntry.{Had, waits, Entry}
use Rattle.defs_token.specs.RowAccount.{Account}
use Rattle.defs_token.specs.Beginning.{BeginsButForKey}
use Rattle.defs_text.specs.Text.{is_empty}
use Rattle.model_scanner.specs.State.{Key, pop}
use Rattle.model_scanner.specs.Keys.{top_key}
use Rattle.proof_scanner.specs.Here.{IsLive}

-- what an entry has had, where its open key is chosen to be a key or not
abbrev pub had_by : (is_key : Bool) → Option Key → Had → Had
had_by c None h = h
had_by true (Some k) h = waits k.position
had_by false (Some k) h = h

-- the same outside flow
abbrev pub line_by : (is_key : Bool) → Option Key → Line → Line
line_by c None l = l
line_by true (Some k) l = waits_on_line k.position
line_by false (Some k) l = l

-- the choice for the innermost entry; none is none
abbrev pub first_choice : List Bool → Bool
first_choice [] = false
first_choice (c ∷ cs) = c

-- an entry by a choice
abbrev pub entry_by : Bool → Option Key → Entry → Entry
entry_by c k e = record { kind = e.kind; pair = e.pair; had = had_by c k e.had }

-- entries by their choices
abbrev pub entries_by : List Bool → List (Option Key) → List Entry → List Entry
entries_by cs ks [] = []
entries_by cs ks (e ∷ es) = entry_by (first_choice cs) (top_key ks) e ∷ entries_by (pop cs) (pop ks) es

-- the open key outside flow
abbrev pub outside_key : List Entry → List (Option Key) → Option Key
outside_key [] ks = top_key ks
outside_key (e ∷ es) ks = outside_key es (pop ks)

-- an account by choices for the key outside flow and for those of the entries, from the account in which no open key is one
abbrev pub chosen : (outside : Bool) → (inside : List Bool) → List (Option Key) → Account → Account
chosen c cs ks a = record { site = a.site; line = line_by c (outside_key a.entries ks) a.line; entries = entries_by cs ks a.entries }

-- Of a row: outside flow an open key may still be one on its line, where the text goes on; and one that must be a key is one. Of a cut alone: outside flow no open key is one.
abbrev pub MayChoose : (strict : Bool) → Bool → Option Key → Position → (rest : List ℕ) → Type 0
MayChoose strict c None p rest = Unit {0}
MayChoose true true (Some k) p rest = IsLive k p rest
MayChoose true false (Some k) p rest = k.required ≡ false
MayChoose false true (Some k) p rest = ⊥
MayChoose false false (Some k) p rest = Unit {0}

-- In flow, where the text goes on: the open key outside flow, if it must be one, has begun so that a row may begin so but for this key, whatever is chosen in the entries.
abbrev pub IsCarriedOn : (text after rest : List ℕ) → List (Option Key) → Account → Type 0
IsCarriedOn text after rest ks base =
    (cs : List Bool) (k : Key) → outside_key base.entries ks ≡ Some k → k.required ≡ true → is_empty base.entries ≡ false → is_empty rest ≡ false → BeginsButForKey text after k.position (chosen false cs ks base)
