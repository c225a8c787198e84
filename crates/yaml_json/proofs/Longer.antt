-- What is read of a text stands before what is left.
use Rattle.yaml_json.proofs.ReadCommon.{[], ap, arith, Blank, Bool, IsGap, IsJson, IsKey, IsNumberPart, IsValue, itself, Json, length, levels, List, number, Piece, prefix_len, prefix_len-le-length, spell, spell_gap, spell_piece, spell_pieces, spell_string, stands, string, Tree, ℕ, ◌<◌, ◌∷◌, ◌≡◌, ◌≤◌}
use Rattle.yaml_json.proofs.ReadNumberLemmas.{number_longer}

pub gap_longer : (g : List Blank) (r : List ℕ) → length r ≤ length (spell_gap g r)
gap_longer [] r = omega arith
gap_longer (b ∷ g) r = omega (arith, gap_longer g r)

pub run_within : (text : List ℕ) (n : ℕ) → n ≡ prefix_len stands text → n ≤ length text
run_within text n e = omega (arith, e, prefix_len-le-length stands text)

piece_longer : (p : Piece) (r : List ℕ) → length r ≤ length (spell_piece p r)
piece_longer (itself c) r = omega arith
piece_longer p r = omega arith

pieces_longer : (ps : List Piece) (r : List ℕ) → length r ≤ length (spell_pieces ps r)
pieces_longer [] r = omega arith
pieces_longer (p ∷ ps) r = omega (arith, piece_longer p (spell_pieces ps r), pieces_longer ps r)

pub string_longer : (ps : List Piece) (r : List ℕ) → length r < length (spell_string ps r)
string_longer ps r = omega (arith, pieces_longer ps (34 ∷ r))

-- ---- values without parts

pub number_nearer : (text rest : List ℕ) → IsNumberPart text rest → length rest < length text
number_nearer text rest n = omega (arith, number_longer n.parts rest n.is, ap length n.spelled)

scalar_longer : (v : Json) (r : List ℕ) → IsJson v → levels v ≤ 0 → length r < length (spell v r)
scalar_longer (number n) r h low = number_longer n r h
scalar_longer (string ps) r h low = string_longer ps r
scalar_longer v r h low = omega arith

pub value_nearer : {tree : Tree} {text rest : List ℕ} → IsValue tree 0 text rest → length rest < length text
value_nearer {rest = rest} v = omega (arith, scalar_longer v.value rest v.is v.shallow, ap length v.spelled)

-- ---- keys and gaps

pub gap_nearer : {b : Bool} {text rest : List ℕ} → IsGap b text rest → length rest ≤ length text
gap_nearer {rest = rest} g = omega (arith, gap_longer g.gap rest, ap length g.spelled)

pub key_nearer : {key : Tree} {text rest : List ℕ} → IsKey key text rest → length rest < length text
key_nearer {rest = rest} k =
    let behind = 58 ∷ spell_gap k.after_colon rest in
    let first = string_longer k.pieces (spell_gap k.after_key behind) in
    omega (arith, first, gap_longer k.after_key behind, gap_longer k.after_colon rest, ap length k.spelled)
