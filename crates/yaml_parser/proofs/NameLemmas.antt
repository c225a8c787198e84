-- Names as bytes and as characters.
use Rattle.std.specs.Str.{chars}
use Rattle.std.specs.String.{string_cmp, string_len}
use Rattle.std.proofs.lemmas.Map.Text.{btree_map_updates_text}
use Rattle.std.proofs.lemmas.Str.{encodes-chars, IsUtf8-string_bytes}
use Rattle.yaml_parser.proofs.Common.{arith, [], ap, BTreeMap, bytes_eq, bytes_eq-Decides, codes, cond, Decides-like, Err, false, get_by_text, Global, if◌then◌else◌, is_empty, IsUndeclared, length, List, Names, None, Ok, Option, option_map, OutOfMemory, Position, prefix_or_undeclared, refl, resolved, Resolves, Result, rules, same_from_decides, Some, Fault, String, string_bytes, string_chars, sym, tag_of, true, undeclared, under_name, ℕ, ◌==◌, ◌∙◌, ◌∷◌, ◌≡◌, ◌≢◌}
use lib.Utf8.{encodes, encode}
use Rattle.yaml_chars.proofs.TextLemmas.{is_nil_chars}
use Rattle.yaml_parser.specs.declared.event.Tag.{Tag}
use Rattle.std.specs.BTreeMap as tree
use Rattle.yaml_tokens.specs.declared.problem.Fault.TheVariants as fault

nil_of : (xs : List ℕ) → is_empty xs ≡ true → xs ≡ []
nil_of xs h = grind arith

pub same_text : (a b : String Global) → bytes_eq (string_bytes a) (string_bytes b) ≡ bytes_eq (string_chars b) (string_chars a)
unfolding string_chars
same_text a b = same_from_decides _ _ (bytes_eq-Decides (string_bytes a) (string_bytes b))
    (Decides-like _ (λ h. (sym (encodes-chars (string_bytes a) (IsUtf8-string_bytes a)) ∙ ap encodes (sym h) ∙ encodes-chars (string_bytes b) (IsUtf8-string_bytes b))) (λ h. (ap chars (sym h))) (bytes_eq-Decides (string_chars b) (string_chars a)))

pub put_text : {V : Type 0} (m n : BTreeMap (String Global) V) (key : String Global) (v : V) → tree.Updates string_cmp m n key (Some v) → (x : String Global)
    → get_by_text n (string_bytes x) ≡ (if bytes_eq (string_chars x) (string_chars key) then Some v else get_by_text m (string_bytes x))
put_text m n key v u x = btree_map_updates_text (string_bytes key) m n (Some v) u (string_bytes x) ∙ ap (λ b. cond b (Some v) (get_by_text m (string_bytes x))) (same_text key x)

-- ---- handles

string_length : (s : String Global) → (length (string_bytes s) == 0) ≡ (string_len s == 0)
string_length s = search rules

pub empty_chars : (s : String Global) → (string_len s == 0) ≡ true → string_chars s ≡ []
unfolding string_chars
empty_chars s h = nil_of (chars (string_bytes s)) (is_nil_chars s ∙ string_length s ∙ h)

pub nonempty_chars : (s : String Global) → (string_len s == 0) ≡ false → string_chars s ≢ []
unfolding string_chars
nonempty_chars s h e = let f : true ≡ false = sym (ap is_empty e) ∙ is_nil_chars s ∙ string_length s ∙ h in cc

pub resolved_empty : (handles : List (List ℕ × List ℕ)) (h x : List ℕ) → h ≡ [] → resolved handles (record { handle = h; suffix = x }) ≡ Some (record { handle = h; suffix = x })
resolved_empty handles h x e = grind arith

pub resolved_nonempty : (handles : List (List ℕ × List ℕ)) (h x : List ℕ) (o : Option (List ℕ)) → h ≢ [] → under_name h handles ≡ o → resolved handles (record { handle = h; suffix = x }) ≡ option_map (λ p. record { handle = p; suffix = x }) (prefix_or_undeclared o h)
resolved_nonempty handles [] x o a e = absurd (a refl)
resolved_nonempty handles (c ∷ cs) x o a e = ap (λ u. option_map (λ p. record { handle = p; suffix = x }) (prefix_or_undeclared u (c ∷ cs))) e

-- an ASCII text by its bytes
pub same_codes : (s : String Global) (t : List ℕ) → chars t ≡ t → encodes t ≡ t → bytes_eq (string_bytes s) t ≡ bytes_eq (string_chars s) t
unfolding string_chars
same_codes s t c e = same_from_decides _ _ (bytes_eq-Decides (string_bytes s) t)
    (Decides-like _ (λ h. sym (encodes-chars (string_bytes s) (IsUtf8-string_bytes s)) ∙ ap encodes h ∙ e) (λ h. ap chars h ∙ c) (bytes_eq-Decides (chars (string_bytes s)) t))

pub secondary_is : (s : String Global) → bytes_eq (string_bytes s) (codes "!!") ≡ bytes_eq (string_chars s) (codes "!!")
unfolding chars encode
secondary_is s = same_codes s (codes "!!") refl refl

pub primary_is : (s : String Global) → bytes_eq (string_bytes s) (codes "!") ≡ bytes_eq (string_chars s) (codes "!")
unfolding chars encode
primary_is s = same_codes s (codes "!") refl refl

pub undeclared_secondary : (h : List ℕ) → bytes_eq h (codes "!!") ≡ true → undeclared h ≡ Some (codes "tag:yaml.org,2002:")
undeclared_secondary h e = ap (λ b. if b then Some (codes "tag:yaml.org,2002:") else (if bytes_eq h (codes "!") then Some (codes "!") else None)) e

pub undeclared_primary : (h : List ℕ) → bytes_eq h (codes "!!") ≡ false → bytes_eq h (codes "!") ≡ true → undeclared h ≡ Some h
undeclared_primary h a b = grind (arith, bytes_eq-Decides)

pub undeclared_other : (h : List ℕ) → bytes_eq h (codes "!!") ≡ false → bytes_eq h (codes "!") ≡ false → undeclared h ≡ None
undeclared_other h a b = grind arith

pub core_is : (s : String Global) → string_bytes s ≡ codes "tag:yaml.org,2002:" → string_chars s ≡ codes "tag:yaml.org,2002:"
unfolding string_chars chars
core_is s h = ap chars h

pub undeclared_resolves : (mark : Position) (names : Names) (h x : List ℕ) (r : Result Tag Fault) → h ≢ [] → under_name h names.handles ≡ None → IsUndeclared mark h x r → Resolves mark names (record { handle = h; suffix = x }) r
undeclared_resolves mark names h x (Ok t) a e u = resolved_nonempty names.handles h x None a e ∙ ap (option_map (λ p. record { handle = p; suffix = x })) u.0 ∙ ap (λ y. Some (record { handle = (tag_of t).handle; suffix = y })) (sym u.1)
undeclared_resolves mark names h x (Err OutOfMemory) a e u = tt
undeclared_resolves mark names h x (Err (fault.At q m)) a e u = (resolved_nonempty names.handles h x None a e ∙ ap (option_map (λ p. record { handle = p; suffix = x })) u.0, u.1, u.2)
