-- Texts of several trees, put together one by one.
use Rattle.std.proofs.Common.{◌≡◌, ℕ, zero, suc, ◌<◌, ◌≤◌, List, [], ◌∷◌, ◌++◌, Bool, false, All, refl, sym, ap, ◌∙◌, subst, arith, length, take, map, append_assoc}
use Rattle.std.specs.Prelude.{chars, string_bytes, String}
use Rattle.std.proofs.lemmas.Str.{chars-nil, chars-append, chars-encodes, IsUtf8-string_bytes}
use Rattle.std.proofs.lemmas.List.Elements.{All-nil, All-cons, All-head, All-tail}
use lib.ListN.{get_or}
use Rattle.yaml_rust2.specs.Text.{up_to_nul, string_chars}
use Rattle.yaml_rust2.specs.DumpIsInjective.{CanBeWritten}
use Rattle.yaml_rust2.specs.DumpText.{dump_text}
use Rattle.yaml_rust2.specs.DumpsInTurn.{dump_texts}
use Rattle.yaml_rust2.specs.Meaning.{Means}
use Rattle.yaml_rust2.specs.Tree.{Tree}
use Rattle.yaml_rust2.specs.ValidTree.{IsValid}
use Rattle.yaml_rust2.specs.Writable.{IsWritable}

-- ---- strings

pub holds_nothing : {A : Type 0} (s : String A) → string_bytes s ≡ [] → string_chars s ≡ []
unfolding string_chars
holds_nothing s e = ap chars e ∙ chars-nil

one_feed : chars (10 ∷ []) ≡ 10 ∷ []
unfolding lib.Utf8.encode
one_feed = chars-encodes (10 ∷ []) refl

pub line_ended : {A : Type 0} (s t : String A) (feed : List ℕ) → string_bytes t ≡ string_bytes s ++ feed → feed ≡ 10 ∷ [] → string_chars t ≡ string_chars s ++ 10 ∷ []
unfolding string_chars
line_ended s t feed e is =
    ap chars e ∙ ap (λ f. chars (string_bytes s ++ f)) is ∙ chars-append (string_bytes s) (10 ∷ []) (IsUtf8-string_bytes s) ∙ ap (λ f. chars (string_bytes s) ++ f) one_feed

-- a text was written appended what a writer held
pub appended : (start before after : List ℕ) (c d m n : Bool) (t : Tree) → after ≡ before ++ dump_text d n t → before ≡ start → d ≡ c → n ≡ m → after ≡ start ++ dump_text c m t
appended start before after c d m n t w e p q = w ∙ ap (λ b. b ++ dump_text d n t) e ∙ ap (λ x. start ++ dump_text x n t) p ∙ ap (λ x. start ++ dump_text c x t) q

pub held_at : {A : Type 0} (x y : String A) (all : List ℕ) → string_chars y ≡ all → x ≡ y → string_chars x ≡ all
held_at x y all t e = ap string_chars e ∙ t

-- ---- the first trees

module _ {Y : Type 0} (v : Y → Tree) (c m : Bool) where
  pub one_more : (xs : List Y) (i : ℕ) (x : Y) → i < length xs → x ≡ get_or xs i x
      → dump_texts c m (map v (take (suc i) xs)) ≡ (dump_texts c m (map v (take i xs)) ++ dump_text c m (v x)) ++ 10 ∷ []
  one_more [] i x h e = absurd (omega (arith, h))
  one_more (y ∷ ys) zero x h e = ap (λ z. dump_text c m (v z) ++ 10 ∷ []) (sym e)
  one_more (y ∷ ys) (suc i) x h e =
      let d = dump_text c m (v y) in
      let more = dump_texts c m (map v (take i ys)) in
      ap (λ l. d ++ 10 ∷ l) (one_more ys i x (omega (arith, h)) e) ∙ sym (append_assoc d (10 ∷ (more ++ dump_text c m (v x))) (10 ∷ []))
      ∙ ap (λ l. l ++ 10 ∷ []) (sym (append_assoc d (10 ∷ more) (dump_text c m (v x))))

  -- appended one more
  pub grown : (xs : List Y) (i j : ℕ) (x : Y) (before after : List ℕ) → j ≡ suc i → i < length xs → x ≡ get_or xs i x → before ≡ dump_texts c m (map v (take i xs))
      → after ≡ (before ++ dump_text c m (v x)) ++ 10 ∷ [] → after ≡ dump_texts c m (map v (take j xs))
  grown xs i j x before after n h e was now =
      now ∙ ap (λ b. (b ++ dump_text c m (v x)) ++ 10 ∷ []) was ∙ sym (one_more xs i x h e) ∙ ap (λ k. dump_texts c m (map v (take k xs))) (sym n)

pub none_taken : {Y : Type 0} (xs : List Y) → take 0 xs ≡ []
none_taken [] = refl
none_taken (y ∷ ys) = refl

pub all_taken : {Y : Type 0} (xs : List Y) (i : ℕ) → length xs ≤ i → take i xs ≡ xs
all_taken [] zero h = refl
all_taken [] (suc i) h = refl
all_taken (y ∷ ys) zero h = absurd (omega (arith, h))
all_taken (y ∷ ys) (suc i) h = ap (λ l. y ∷ l) (all_taken ys i (omega (arith, h)))

-- ---- each of the trees

pub all_views : {Y : Type 0} (v : Y → Tree) (xs : List Y) → All (λ y. IsValid (v y)) xs → All IsValid (map v xs)
all_views v [] h = All-nil IsValid
all_views v (y ∷ ys) h = All-cons IsValid (v y) (map v ys) (All-head (λ z. IsValid (v z)) y ys h) (all_views v ys (All-tail (λ z. IsValid (v z)) y ys h))

pub all_can : (ts : List Tree) → All IsValid ts → All IsWritable ts → All CanBeWritten ts
all_can [] v w = All-nil CanBeWritten
all_can (t ∷ ts) v w =
    let one = All-head IsValid t ts v in
    All-cons CanBeWritten t ts (one.0, one.1, All-head IsWritable t ts w) (all_can ts (All-tail IsValid t ts v) (All-tail IsWritable t ts w))

-- ---- the text that is loaded

pub read_as : {A : Type 0} (ts : List Tree) (text : String A) (bytes want : List ℕ) → bytes ≡ string_bytes text → string_chars text ≡ want → up_to_nul want ≡ want → Means false want ts
    → Means false (up_to_nul (chars bytes)) ts
unfolding string_chars
read_as ts text bytes want e same free read = subst (λ a. Means false (up_to_nul a) ts) (sym (ap chars e ∙ same)) (subst (λ a. Means false a ts) (sym free) read)
