-- Directives, one after the other.
use Rattle.yaml_parser.proofs.Common.{[], ap, append-nil, append_assoc, arith, at_document, Bool, bytes_eq, bytes_eq-Decides, declared, Directive, false, get_by_text, Global, HasRead, IfSome, if◌then◌else◌, is_each_once, is_own, is_some, IsNamed, IsOwn, List, nat_lt, nat_tests, None, Option, option_map, prefix_of, refl, Some, String, string_bytes, string_chars, subst, sym, tag, true, under_name, version, versions, ℕ, ◌++◌, ◌+◌, ◌∙◌, ◌∷◌, ◌≡◌, ◌≤◌}
use Rattle.yaml_parser.specs.declared.names.Declaration.{Declaration}
use Rattle.yaml_parser.specs.declared.names.Names.{Names}
use Rattle.defs_event.specs.Names as defs

-- ---- what is kept under a name

-- neither is there, where both are asked for
under_both : (b : Bool) (v : List ℕ) (o : Option (List ℕ)) → (if b then Some v else o) ≡ None → (b ≡ false) × (o ≡ None)
under_both b v o h = grind arith

-- A name that was not there counts wherever it is put in.
insert_under : (x h p : List ℕ) (xs more : List (List ℕ × List ℕ)) → under_name h xs ≡ None → under_name x (xs ++ (h, p) ∷ more) ≡ (if bytes_eq x h then Some p else under_name x (xs ++ more))
insert_under x h p [] more e = refl
insert_under x h p (q ∷ xs) more e =
    let b = under_both (bytes_eq h q.0) q.1 (under_name h xs) e in
    let i = insert_under x h p xs more b.1 in
    grind (arith, bytes_eq-Decides)

is_there : (h p : List ℕ) (xs more : List (List ℕ × List ℕ)) → is_some (under_name h (xs ++ (h, p) ∷ more)) ≡ true
is_there h p [] more = ap (λ b. is_some (if b then Some p else under_name h more)) ((bytes_eq-Decides h h).1 refl)
is_there h p (q ∷ xs) more = let i = is_there h p xs more in grind arith

-- ---- each once

once_more : (h p : List ℕ) (xs : List (List ℕ × List ℕ)) → under_name h xs ≡ None → is_each_once (xs ++ (h, p) ∷ []) ≡ is_each_once xs
once_more h p [] e = refl
once_more h p (q ∷ xs) e =
    let b = under_both (bytes_eq h q.0) q.1 (under_name h xs) e in
    let i = once_more h p xs b.1 in
    let j = insert_under q.0 h p xs [] b.1 in
    grind (arith, append-nil, bytes_eq-Decides)

once_twice : (h p : List ℕ) (xs more : List (List ℕ × List ℕ)) → is_some (under_name h xs) ≡ true → is_each_once (xs ++ (h, p) ∷ more) ≡ false
once_twice h p [] more e = cc
once_twice h p (q ∷ xs) more e = let there = is_there h p xs more in grind (arith, once_twice h p xs more, bytes_eq-Decides)

-- ---- what directives declare

declared_append : (ds es : List Directive) → declared (ds ++ es) ≡ declared ds ++ declared es
declared_append [] es = refl
declared_append (version m n ∷ ds) es = declared_append ds es
declared_append (tag h p ∷ ds) es = let i = declared_append ds es in grind arith

declared_one : (h p : List ℕ) (es : List Directive) → (h ≡ [] → p ≡ [] → ⊥) → declared (tag h p ∷ es) ≡ (h, p) ∷ declared es
declared_one h p es a = grind arith

pub version_ignored : (ds : List Directive) (m n : ℕ) → declared (ds ++ version m n ∷ []) ≡ declared ds
version_ignored ds m n = declared_append ds (version m n ∷ []) ∙ append-nil (declared ds)

-- A handle that was declared is not declared again.
pub repeated_handle : (ds : List Directive) (h p : List ℕ) (more : List Directive) → (h ≡ [] → p ≡ [] → ⊥) → is_some (under_name h (declared ds)) ≡ true → is_each_once (declared ((ds ++ tag h p ∷ []) ++ more)) ≡ false
repeated_handle ds h p more a e =
    ap is_each_once (ap declared (append_assoc ds (tag h p ∷ []) more) ∙ declared_append ds (tag h p ∷ more) ∙ ap (λ xs. declared ds ++ xs) (declared_one h p more a))
    ∙ once_twice h p (declared ds) (declared more) e

-- ---- the code's names after one more

pub some_map : {A B : Type 0} (f : A → B) (o : Option A) → is_some o ≡ true → is_some (option_map f o) ≡ true
some_map f o h = grind arith

pub none_if : {A : Type 0} (o : Option A) → is_some o ≡ false → o ≡ None
none_if o h = grind arith

-- A handle of which the code knows nothing of this document is declared now, under this number.
pub has_declared : {code new : Names} {keep : Bool} {names : defs.Names} {read : List Directive} (handle : String Global) (d : Declaration)
    → HasRead code keep names read → new.count ≡ code.count → new.anchors ≡ code.anchors → new.earlier ≡ code.earlier → new.declared ≡ code.declared + 1 → d.number ≡ code.declared + 1
    → ((x : String Global) → get_by_text new.handles (string_bytes x) ≡ (if bytes_eq (string_chars x) (string_chars handle) then Some d else get_by_text code.handles (string_bytes x)))
    → is_own code.earlier (get_by_text code.handles (string_bytes handle)) ≡ false → (string_chars handle ≡ [] → prefix_of d ≡ [] → ⊥)
    → HasRead new keep names (read ++ tag (string_chars handle) (prefix_of d) ∷ []) × (is_each_once (declared (read ++ tag (string_chars handle) (prefix_of d) ∷ [])) ≡ is_each_once (declared read))
has_declared {code} {new} {keep} {names} {read} handle d h count anchors earlier more number handles first named =
    let hs = string_chars handle in
    let ps = prefix_of d in
    let free : under_name hs (declared read) ≡ None = none_if (under_name hs (declared read)) (sym (h.own.own handle) ∙ first) in
    let all : declared (read ++ tag hs ps ∷ []) ≡ declared read ++ (hs, ps) ∷ [] = declared_append read (tag hs ps ∷ []) ∙ ap (λ xs. declared read ++ xs) (declared_one hs ps [] named) in
    let later : nat_lt code.earlier d.number ≡ true = grind (arith, nat_tests, h.own.earlier, number) in
    let older = (if keep then names.handles else []) in (
      record {
        named = record {
          count = count ∙ h.named.count;
          anchors = λ x. ap (λ m. get_by_text m (string_bytes x)) anchors ∙ h.named.anchors x;
          handles = λ x.
              let i = insert_under (string_chars x) hs ps (declared read) older free in
              let n = h.named.handles x in
              rw (handles x, all, append_assoc) (grind arith);
          numbers = λ x. subst (λ n. IfSome (get_by_text new.handles (string_bytes x)) (λ e. e.number ≤ n)) (sym more)
              (subst (λ o. IfSome o (λ e. e.number ≤ code.declared + 1)) (sym (handles x)) (grind arith));
        };
        own = record {
          own = λ x.
              let i = insert_under (string_chars x) hs ps (declared read) [] free in
              let n = h.own.own x in
              rw (earlier, handles x, all) (grind (arith, append-nil));
          earlier = omega (arith, earlier, more, h.own.earlier);
        };
      },
      ap is_each_once all ∙ once_more hs ps (declared read) free,
    )

-- Names depend on directives by what these declare.
pub named_alike : {code : Names} (keep : Bool) (names : defs.Names) (read more : List Directive) → declared more ≡ declared read → IsNamed code (at_document keep names read) → IsNamed code (at_document keep names more)
named_alike {code} keep names read more same x = rw same x

pub own_alike : {code : Names} (read more : List Directive) → declared more ≡ declared read → IsOwn code read → IsOwn code more
own_alike {code} read more same x = record { own = λ y. rw same (x.own y); earlier = x.earlier }

-- A directive of another name changes nothing.
pub has_ignored : {code : Names} {keep : Bool} {names : defs.Names} {read : List Directive} (h p : List ℕ) → h ≡ [] → p ≡ [] → HasRead code keep names read
    → HasRead code keep names (read ++ tag h p ∷ []) × (is_each_once (declared (read ++ tag h p ∷ [])) ≡ is_each_once (declared read))
has_ignored {code} {keep} {names} {read} h p a b x =
    let none : declared (read ++ tag h p ∷ []) ≡ declared read = ap (λ z. declared (read ++ tag z p ∷ [])) a ∙ ap (λ z. declared (read ++ tag [] z ∷ [])) b ∙ (declared_append read (tag [] [] ∷ []) ∙ append-nil (declared read)) in
    (record { named = named_alike keep names read (read ++ tag h p ∷ []) none x.named; own = own_alike read (read ++ tag h p ∷ []) none x.own }, ap is_each_once none)

-- ---- versions

pub versions_append : (ds es : List Directive) → versions (ds ++ es) ≡ versions ds + versions es
versions_append [] es = omega arith
versions_append (version m n ∷ ds) es = omega (arith, versions_append ds es)
versions_append (tag h p ∷ ds) es = versions_append ds es

pub version_snoc : (ds : List Directive) (m n : ℕ) → versions (ds ++ version m n ∷ []) ≡ versions ds + 1
version_snoc ds m n = versions_append ds (version m n ∷ [])

pub tag_snoc : (ds : List Directive) (h p : List ℕ) → versions (ds ++ tag h p ∷ []) ≡ versions ds
tag_snoc ds h p = omega (arith, versions_append ds (tag h p ∷ []))
