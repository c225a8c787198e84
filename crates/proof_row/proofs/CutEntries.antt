-- A step of a row in a flow collection, as a cut has it: keys, and starts and ends of single pairs, have no piece.
use Rattle.proof_row.proofs.Common.{Account, Act, act_of, Before, begins_with_key_indicator, begun_by, begun_inside, Bool, ends_entry, entries_past, Entry, false, flow_mapping_start, FlowKind, fresh, gives_closing, gives_colon, gives_comma, gives_node, Had, key_tokens, Level, levels_past, List, None, Option, Pair, pair_end, past_separation, Position, Some, takes_pair, Tok, Token, true, ℕ, ◌++◌, ◌∷◌, ◌≡◌, ◌⊎◌, arith}
use Rattle.defs_token.specs.FlowEntry.{waits}
use Rattle.proof_row.proofs.CutPieces.{account_by}
use Rattle.proof_row.proofs.CutSteps.{level_in, levels_in}
use Rattle.proof_row.proofs.Inserted.{past_all, AreEmpty}

-- What comes of a piece in flow: the tokens before the one it shows have no piece, and the cut has the levels of the row.
pub record Entered (d : Account) (us : List Token) (next : List ℕ) (t : Tok) (c : ℕ) (r : List ℕ) (es zs : List Entry) : Type 0 where
  pub level : Level
  pub are_empty : AreEmpty d us next t
  pub account_is : past_all d us ≡ record d { levels = level ∷ levels_in es }
  pub has_no_pair : ends_entry (Some t) ≡ true → level.pair ≡ false
  pub levels_are : levels_past (level ∷ levels_in es) (c ∷ r) t ≡ levels_in zs

abbrev pub EnteredBy : Account → List Token → (next : List ℕ) → Tok → ℕ → (r : List ℕ) → List Entry → Option (List Entry) → Type 0
EnteredBy d us next t c r es None = Unit {0}
EnteredBy d us next t c r es (Some zs) = Entered d us next t c r es zs

-- an entry
abbrev pub entry_by : FlowKind → Pair → Had → Entry
entry_by kind pair had = record { kind = kind; pair = pair; had = had }

abbrev pub Inner : Position → Before → List (Option ℕ) → Entry → List Entry → Account
Inner here b bs e es = account_by here b bs (levels_in (e ∷ es))

-- an entry goes on, with a piece that does not end it
in_entry : (d : Account) (us : List Token) (next : List ℕ) (t : Tok) (c : ℕ) (r : List ℕ) (es : List Entry) (e : Entry) (k : Act) → act_of t ≡ k → (k ≡ gives_comma → ⊥) → (k ≡ gives_closing → ⊥) →
    AreEmpty d us next t → past_all d us ≡ record d { levels = level_in e ∷ levels_in es } → Entered d us next t c r es (begun_by t ++ (e ∷ es))
in_entry d us next t c r es e k a no_comma no_close empty same = grind arith

-- ---- nodes

-- an entry without a key that waits
abbrev Unkeyed : Position → Before → List (Option ℕ) → FlowKind → Pair → List Entry → Account
Unkeyed here b bs kind pair es = Inner here b bs (entry_by kind pair fresh) es

-- a key begins, and in a sequence its single pair
key_enters : (kind : FlowKind) (pair : Pair) (here colon : Position) (b : Before) (bs : List (Option ℕ)) (next : List ℕ) (t : Tok) (c : ℕ) (r : List ℕ) (es : List Entry) → act_of t ≡ gives_node → begins_with_key_indicator (past_separation false next) ≡ false →
    Entered (Unkeyed here b bs kind pair es) (key_tokens (takes_pair kind pair) colon flow_mapping_start here) next t c r es (begun_by t ++ (entry_by kind pair (waits here) ∷ es))
key_enters kind pair here colon b bs next t c r es a q = grind (arith, in_entry)

-- ---- ends of entries

-- the end of a single pair, before a token that ends an entry
pair_ends : (pair : Pair) (kind : FlowKind) (here : Position) (b : Before) (bs : List (Option ℕ)) (next : List ℕ) (t : Tok) (c : ℕ) (r : List ℕ) (es zs : List Entry) → ends_entry (Some t) ≡ true →
    levels_past (record { kind = kind; pair = false } ∷ levels_in es) (c ∷ r) t ≡ levels_in zs → Entered (Unkeyed here b bs kind pair es) (pair_end here pair) next t c r es zs
pair_ends a kind here b bs next t c r es zs e l = grind arith

-- Every piece in flow.
pub entered : (k : Act) (again key : Bool) (had : Had) (kind : FlowKind) (pair : Pair) (here colon own : Position) (b : Before) (bs : List (Option ℕ)) (next : List ℕ) (t : Tok) (c : ℕ) (r : List ℕ) (es : List Entry) → act_of t ≡ k →
    ((act_of t ≡ gives_node) ⊎ (act_of t ≡ gives_colon) → begins_with_key_indicator (past_separation false next) ≡ false) →
    EnteredBy (Inner here b bs (entry_by kind pair had) es) (begun_inside (takes_pair kind pair) pair here colon own k key had) next t c r es (entries_past here again k (begun_by t) key (entry_by kind pair had) es)
entered k again key had kind pair here colon own b bs next t c r es a q = grind (arith, in_entry, pair_ends, key_enters)
