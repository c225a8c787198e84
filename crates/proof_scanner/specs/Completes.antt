-- How what the scanner holds goes on to the tokens of a row: keys that wait are put in where their colons come.
use Rattle.std.specs.Prelude.{◌≡◌, ℕ, suc, List, [], ◌∷◌, ◌++◌, Bool, true, false, Option, Some, None}
use Rattle.std.specs.List.{insert}
use Rattle.defs_text.specs.Position.{Position, first_position}
use Rattle.defs_token.specs.Token.{Token, stream_start, block_mapping_start, flow_mapping_start, key}
use Rattle.defs_token.specs.Step.{Step, spelled}
use Rattle.defs_token.specs.Column.{is_deeper}
use Rattle.defs_token.specs.Key.{Line, is_waiting, waits as waits_on_line}
use Rattle.defs_token.specs.FlowEntry.{Had, waits, Entry, takes_pair}
use Rattle.defs_token.specs.RowAccount.{Account, first_account}
use Rattle.defs_token.specs.Tokens.{put, pair_position, Colon, colon_of, tokens_from}
use Rattle.defs_token.specs.Beginning.{Begins}
use Rattle.model_scanner.specs.State.{Key}
use Rattle.proof_row.proofs.Cuts.{IsCutUpTo}

-- ---- the tokens of a key that waits

-- a token goes in before those of a number, if it is there
abbrev pub put_if : (begins : Bool) → (number : ℕ) → Token → List Token → List Token
put_if true n t ts = insert ts n t
put_if false n t ts = ts

-- a key goes in before the tokens of its number, and before it the start of its mapping, if one begins
abbrev pub put_key : (begins : Bool) → (start : Token) → (number : ℕ) → (here : Position) → List Token → List Token
put_key begins start n here ts = put_if begins n start (insert ts n (put here key))

-- outside flow: the mapping of a key begins where the key is deeper than the block collections; its start stands at the colon
abbrev pub with_line : Colon → (collection : List ℕ) → Line → Option Key → List Token → List Token
with_line c bs l None ts = ts
with_line c bs (waits_on_line begin) (Some k) ts = put_key (is_deeper begin.col bs) (put c.here block_mapping_start) k.number begin ts
with_line c bs l (Some k) ts = ts

-- in flow: the key of a single pair has the start of its mapping
abbrev pub with_had : Colon → (single : Bool) → Had → Option Key → List Token → List Token
with_had c single h None ts = ts
with_had c single (waits begin) (Some k) ts = put_key single (put (pair_position c.past c.next) flow_mapping_start) k.number begin ts
with_had c single h (Some k) ts = ts

-- Tokens with those of all keys that wait, the innermost first; the colon of each is the first one at which so many flow collections are closed.
abbrev pub with_keys : (depth : ℕ) → Position → List Step → (last : List ℕ) → (collection : List ℕ) → Line → List Entry → List (Option Key) → List Token → List Token
with_keys d p ws last bs l es [] ts = ts
with_keys d p ws last bs l [] (k ∷ ks) ts = with_line (colon_of d p ws last) bs l k ts
with_keys d p ws last bs l (e ∷ es) (k ∷ ks) ts = with_keys (suc d) p ws last bs l es ks (with_had (colon_of d p ws last) (takes_pair e.kind e.pair) e.had k ts)

-- the tokens of the row up to an account, before further steps: those that the scanner holds, and those of keys that wait
abbrev pub tokens_up_to : Account → List (Option Key) → List Token → List Step → (last : List ℕ) → List Token
tokens_up_to a ks ts ws last = with_keys 0 a.site.position ws last a.site.blocks a.line a.entries ks ts

-- ---- rows

-- A row of the whole text may begin so that it leads to an account. Whatever steps spell the rest of the text, the tokens of all steps are those up to the account and those from there on.
abbrev pub Completes : (text after : List ℕ) → Account → (tokens : List Step → List ℕ → List Token) → Type 0
Completes text after a tokens = (g : Begins text after a) × ((ws : List Step) (last : List ℕ) → spelled ws last ≡ after → put first_position stream_start ∷ tokens_from (Some first_account) (g.steps ++ ws) last ≡ tokens ws last ++ tokens_from (Some a) ws last)

-- Tokens are a cut of the text up to an account at which no key waits outside flow, whatever steps spell the rest of the text.
abbrev pub Cuts : (text after : List ℕ) → Account → (tokens : List Step → List ℕ → List Token) → Type 0
Cuts text after a tokens = (is_waiting a.line ≡ false) × ((ws : List Step) (last : List ℕ) → spelled ws last ≡ after → IsCutUpTo text after a (tokens ws last))

-- of a row, or of a cut alone
abbrev pub SoFar : (strict : Bool) → (text after : List ℕ) → Account → (tokens : List Step → List ℕ → List Token) → Type 0
SoFar true text after a tokens = Completes text after a tokens
SoFar false text after a tokens = Cuts text after a tokens
