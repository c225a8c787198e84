-- The arms of the productions of documents.
use Rattle.yaml_parser.proofs.Common.{nat_tests, [], all_shown, and_right, ap, append-nil, append_assoc, are_allowed, arith, At, at_document, BeginAt, Bool, Carries, declared, Declares, Derives, directives_next, Directing, Directive, directive_token, directives_tokens, DirectsTo, documents_directives, Err, Ev, events_of, false, Faulted, fits, Goal, grammar, HasRead, IfSome, if◌then◌else◌, inl, is_directive, is_each_once, is_end, is_of_names, is_over, IsAfter, IsCause, IsNamed, IsOfKind, IsOwn, Kind, kind_of, last_position, Leaves, List, named, nat_le, needs_tokens, None, Ok, Option, option_map, OutOfMemory, Position, Problem, Raw, Reader, reading, refl, RepeatedHandle, rest_by, Result, said_by, SecondVersion, shown, Skips, Some, SpoilsDirectives, Stayed, Fault, subst, sym, taken_toks, Takes, Tok, tok_is, tok_of, Token, Tokens, toks, true, UndeclaredHandle, versions, with_directives, Works, works, ℕ, ◌++◌, ◌+◌, ◌∙◌, ◌∷◌, ◌≡◌, resolved_event, document_turns}
use Rattle.yaml_parser.specs.declared.names.Names.{Names}
use Rattle.yaml_parser.proofs.Steps.{looked, taken_snoc, took, left, if_some_at, gave, gave_none}
use Rattle.yaml_parser.proofs.Arms.{Skipped, here_at, faulted_as}
use Rattle.yaml_parser.proofs.NodeArms.{unnamed_at, unnameable_first}
use Rattle.yaml_parser.proofs.Ends.{StandsBeside}
use Rattle.yaml_parser.proofs.Ways.{apart_as, opens}
use Rattle.yaml_parser.proofs.DirectiveLemmas.{named_alike, own_alike, version_ignored, version_snoc, tag_snoc, versions_append}
use Rattle.yaml_tokens.specs.declared.problem.Fault.TheVariants as fault
use Rattle.defs_event.specs.Raw as raw
use Rattle.defs_event.specs.Names as defs
use Rattle.model_parser.specs.declared.kind.Kind.TheVariants as kind
use Rattle.model_parser.specs.declared.state.State.TheVariants as state
use Rattle.defs_event.specs.Grammar as table

-- ---- a document's start

-- what the start of a document does to the names
abbrev pub Starts : Names → Names → Type 0
Starts old new = (names : defs.Names) → IsNamed old names → IsNamed new (at_document old.keeping.tags names [])

-- A document that does without `---` begins at a token that stays.
pub bare_begins : {T : Type 0} (m : Position) {p q r : Reader T} {k : Kind} {names : defs.Names} {given : List (Ev × Position)}
    → IsOfKind k p.tokens.peeked → IfSome r.tokens.peeked (λ t. t.0 ≡ m) → ((t : Tok) → kind_of t ≡ k → Leaves Goal.documents p.stack (Some t) (Some (Raw.document_start [])) Goal.done (state.BlockNode ∷ state.DocumentEnd ∷ p.stack))
    → q.tokens ≡ p.tokens → q.names.keeping ≡ p.names.keeping → Starts p.names q.names → Stayed q r (state.BlockNode ∷ state.DocumentEnd ∷ p.stack)
    → At Goal.documents p names given → (names' : defs.Names) × At Goal.done r names' (given ++ (Ev.document_start, m) ∷ [])
bare_begins {T} m {p} {q} {r} {k} {names} {given} here mark turn tokens keep starts stayed a =
    let l = looked k p.tokens.peeked here in (
      at_document p.names.keeping.tags names [],
      left (ap (option_map (λ (x : Token). tok_of x.1)) l.1) (stayed.tokens ∙ tokens) stayed.stack (turn (tok_of l.0.1) l.2) a
          (gave m (record { resolves = refl; after_it = refl; keep = ap (λ n. n.keeping) stayed.names ∙ keep; code = subst (λ n. IsNamed n (at_document p.names.keeping.tags names [])) (sym stayed.names) (starts names a.code); pending = tt }) a)
          refl (λ j begins. here_at (last_position p.tokens) (Raw.document_start []) j m (λ b k. refl) (subst (λ o. BeginAt o (j ∷ [])) l.1 begins ∙ if_some_at (λ (u : Token). u.0 ≡ m) (subst (λ x. IfSome x.peeked (λ u. u.0 ≡ m)) (stayed.tokens ∙ tokens) mark) l.1)) tt,
    )

-- A document begins with `---`, after these directives.
pub marked_begins : {T : Type 0} (m : Position) {p q r : Reader T} {k : Kind} (g : Goal) (read : List Directive) {names : defs.Names} {given : List (Ev × Position)}
    → IsOfKind k p.tokens.peeked → k ≡ kind.DocumentStart → IfSome p.tokens.peeked (λ t. t.0 ≡ m) → q.tokens ≡ p.tokens → q.stack ≡ p.stack → q.names.keeping ≡ p.names.keeping → Skipped q r (state.DocumentContent ∷ q.stack)
    → Takes g p.stack Tok.document_start (Some (Raw.document_start read)) Goal.done (state.DocumentContent ∷ p.stack) → is_over g ≡ false → (a : At g p names given)
    → IsNamed q.names (at_document p.names.keeping.tags names read) → resolved_event names (Raw.document_start read) ≡ Some Ev.document_start → (names' : defs.Names) × At Goal.done r names' (given ++ (Ev.document_start, m) ∷ [])
marked_begins {T} m {p} {q} {r} {k} g read {names} {given} here h mark tokens stack keep skip turn over a code resolves =
    let l = looked k p.tokens.peeked here in
    let t = l.0 in
    let x = skip t (ap (λ y. y.peeked) tokens ∙ l.1) in
    let same : tok_of t.1 ≡ Tok.document_start = tok_is (l.2 ∙ h) refl in (
      at_document p.names.keeping.tags names read,
      took l.1 (subst (λ y. Skips y t r.tokens) tokens x.tokens) (x.stack ∙ ap (λ ss. state.DocumentContent ∷ ss) stack)
          (subst (λ u. Takes g p.stack u (Some (Raw.document_start read)) Goal.done (state.DocumentContent ∷ p.stack)) (sym same) turn) a
          (gave m (record { resolves = resolves; after_it = refl; keep = ap (λ n. n.keeping) x.names ∙ keep; code = subst (λ n. IsNamed n (at_document p.names.keeping.tags names read)) (sym x.names) code; pending = tt }) a)
          (λ b. (over, ap is_end same)) (here_at (last_position p.tokens) (Raw.document_start read) (shown t) m (λ b k. refl) (if_some_at (λ (u : Token). u.0 ≡ m) mark l.1)) tt,
    )

-- The stream ends.
pub stream_ends : {T : Type 0} (m : Position) {p r : Reader T} {k : Kind} {names : defs.Names} {given : List (Ev × Position)}
    → IsOfKind k p.tokens.peeked → k ≡ kind.StreamEnd → IfSome p.tokens.peeked (λ t. t.0 ≡ m) → Skipped p r p.stack → At Goal.explicit_document p names given → (names' : defs.Names) × At Goal.ended r names' (given ++ (Ev.stream_end, m) ∷ [])
stream_ends {T} m {p} {r} {k} {names} {given} here h mark skip a =
    let l = looked k p.tokens.peeked here in
    let t = l.0 in
    let x = skip t l.1 in
    let same : tok_of t.1 ≡ Tok.stream_end = tok_is (l.2 ∙ h) refl in (
      names,
      took l.1 x.tokens x.stack (subst (λ u. Takes Goal.explicit_document p.stack u (Some Raw.stream_end) Goal.ended p.stack) (sym same) (document_turns p.stack).explicit_document_end) a
          (gave m (record { resolves = refl; after_it = refl; keep = ap (λ n. n.keeping) x.names; code = subst (λ n. IsNamed n names) (sym x.names) a.code; pending = tt }) a)
          (λ b. let no : true ≡ false = b in cc) (here_at (last_position p.tokens) Raw.stream_end (shown t) m (λ b k. refl) (if_some_at (λ (u : Token). u.0 ≡ m) mark l.1)) tt,
    )

-- ---- directives

pub directives_begin : {T : Type 0} {p q : Reader T} (k : Kind) {names : defs.Names} {given : List (Ev × Position)}
    → IsOfKind k p.tokens.peeked → is_directive k ≡ true → q.tokens ≡ p.tokens → q.stack ≡ p.stack → q.names.keeping ≡ p.names.keeping → Starts p.names q.names → ((ns : defs.Names) → IsNamed p.names ns → IsOwn q.names [])
    → At Goal.documents p names given → Directing q names given false
directives_begin {T} {p} {q} k {names} {given} here h tokens stack keep starts own a =
    let l = looked k p.tokens.peeked here in
    let e : is_directive (kind_of (tok_of l.0.1)) ≡ true = ap is_directive l.2 ∙ h in
    record {
      read = [];
      here = left (ap (option_map (λ (x : Token). tok_of x.1)) l.1) tokens stack (documents_directives p.stack (tok_of l.0.1) e (grind arith)) a (gave_none keep
          (subst (λ b. IsNamed q.names (at_document b.tags names [])) (sym keep) (starts names a.code)) refl a) refl (λ k b. tt) tt;
      own = own names a.code;
      version = refl;
      taken = (taken_toks q.tokens, sym (append-nil (taken_toks q.tokens)));
    }

version_text : (t : Tok) → kind_of t ≡ kind.VersionDirective → (m : ℕ) × (n : ℕ) × (t ≡ Tok.version_directive m n)
version_text t h = grind arith

allowed_version : (read : List Directive) (m n : ℕ) → are_allowed read ≡ true → versions read ≡ 0 → are_allowed (read ++ raw.version m n ∷ []) ≡ true
allowed_version read m n h e = let v = version_snoc read m n in let d = version_ignored read m n in grind (arith, nat_tests)

second_version : (read : List Directive) (m n : ℕ) (more : List Directive) → versions read ≡ 1 → are_allowed ((read ++ raw.version m n ∷ []) ++ more) ≡ false
second_version read m n more e =
    let v = version_snoc read m n in let all = versions_append (read ++ raw.version m n ∷ []) more in grind (arith, nat_tests)

allowed_tag : (read : List Directive) (h p : List ℕ) → are_allowed read ≡ true → is_each_once (declared (read ++ raw.tag h p ∷ [])) ≡ is_each_once (declared read) → are_allowed (read ++ raw.tag h p ∷ []) ≡ true
allowed_tag read h p a e = let t = tag_snoc read h p in grind (arith, nat_tests)

directives_more : (ds : List Directive) (d : Directive) → directives_tokens (ds ++ d ∷ []) [] ≡ directives_tokens ds [] ++ directive_token d ∷ []
directives_more [] d = refl
directives_more (x ∷ ds) d = ap (λ ts. directive_token x ∷ ts) (directives_more ds d)

-- One more directive is taken.
read_more : {T : Type 0} {p r : Tokens T} {t : Token} (read : List Directive) (d : Directive) → Skips p t r → tok_of t.1 ≡ directive_token d → IsAfter read (taken_toks p) → IsAfter (read ++ d ∷ []) (taken_toks r)
read_more {T} {p} {r} {t} read d skips tok a = (
  a.0,
  ap (λ ts. toks (all_shown ts)) skips.taken ∙ taken_snoc p.taken.items t ∙ ap (λ us. us ++ tok_of t.1 ∷ []) a.1 ∙ append_assoc a.0 (directives_tokens read []) (tok_of t.1 ∷ [])
      ∙ ap (λ us. a.0 ++ us) (ap (λ u. directives_tokens read [] ++ u ∷ []) tok ∙ sym (directives_more read d)),
)

-- A version is taken, the first one.
pub version_taken : {T : Type 0} {p r : Reader T} {names : defs.Names} {given : List (Ev × Position)}
    → IsOfKind kind.VersionDirective p.tokens.peeked → Skipped p r p.stack → Directing p names given false → Directing r names given true
version_taken {T} {p} {r} {names} {given} here skip d =
    let l = looked kind.VersionDirective p.tokens.peeked here in
    let v = version_text (tok_of l.0.1) l.2 in
    let x = skip l.0 l.1 in
    let read = d.read ++ raw.version v.0 v.1 ∷ [] in
    let same = version_ignored d.read v.0 v.1 in
    record {
      read = read;
      here = took l.1 x.tokens x.stack (subst (λ u. Takes (Goal.directives d.read) p.stack u None (Goal.directives read) p.stack) (sym v.2) (directives_next p.stack d.read (raw.version v.0 v.1))) d.here
          (gave_none (ap (λ n. n.keeping) x.names) (subst (λ n. IsNamed n (at_document n.keeping.tags names read)) (sym x.names) (named_alike p.names.keeping.tags names d.read read same d.here.code))
          (allowed_version d.read v.0 v.1 d.here.pending d.version) d.here) (λ b. (refl, ap is_end v.2)) tt tt;
      own = subst (λ n. IsOwn n read) (sym x.names) (own_alike d.read read same d.own);
      version = version_snoc d.read v.0 v.1 ∙ ap (λ n. n + 1) d.version;
      taken = read_more d.read (raw.version v.0 v.1) x.tokens v.2 d.taken;
    }

more_of : (ds : List Directive) (d : Directive) (es : List Raw) → (more : List Directive) × (fs : List Raw) × (es ≡ Raw.document_start ((ds ++ d ∷ []) ++ more) ∷ fs) → (more : List Directive) × (fs : List Raw) × (es ≡ Raw.document_start (ds ++ more) ∷ fs)
more_of ds d es x = (d ∷ x.0, x.1, x.2 ∙ ap (λ y. Raw.document_start y ∷ x.1) (append_assoc ds (d ∷ []) x.0))

-- Where directives are read, a document's start comes with these and some more.
directives_say : (ds : List Directive) (w : Works) (ts : List Tok) (es : List Raw) → Derives grammar (reading table.directives (with_directives ds) ∷ w) ts es → (more : List Directive) × (fs : List Raw) × (es ≡ Raw.document_start (ds ++ more) ∷ fs)
directives_say ds w [] es d = absurd (needs_tokens (reading table.directives (with_directives ds) ∷ w) es refl d)
directives_say ds w (Tok.version_directive m n ∷ ts) es d =
    more_of ds (raw.version m n) es (directives_say (ds ++ raw.version m n ∷ []) w ts es (rest_by d _ refl))
directives_say ds w (Tok.tag_directive x y ∷ ts) es d =
    more_of ds (raw.tag x y) es (directives_say (ds ++ raw.tag x y ∷ []) w ts es (rest_by d _ refl))
directives_say ds w (Tok.document_start ∷ ts) es d =
    let s = said_by (rest_by d _ refl) in
    ([], s.0, s.1 ∙ ap (λ x. Raw.document_start x ∷ s.0) (sym (append-nil ds)))
directives_say ds w (t ∷ ts) es d = absurd (rest_by d _ refl)

-- Directives that are not allowed are refused with the last one.
refused_directive : {T : Type 0} {p r : Reader T} {t : Token} {m : Position} (q : Problem) (read : List Directive) (d : Directive) {names : defs.Names} {given : List (Ev × Position)}
    → fits q (kind_of (directive_token d)) ≡ true → is_of_names q ≡ true → (q ≡ UndeclaredHandle → ⊥) → t.0 ≡ m → p.tokens.peeked ≡ Some t → Skips p.tokens t r.tokens → r.names.keeping ≡ p.names.keeping → tok_of t.1 ≡ directive_token d → ((more : List Directive) → are_allowed ((read ++ d ∷ []) ++ more) ≡ false)
    → IsAfter read (taken_toks p.tokens) → ((before : List Tok) (last : Tok) → SpoilsDirectives before last → IsCause q names (events_of given) before last) → ((b : At (Goal.directives read) p names given) → StandsBeside q b)
    → At (Goal.directives read) p names given → Faulted r given (Some (fault.At q m))
refused_directive {T} {p} {r} {t} {m} q read d {names} {given} fit of_names other mark here skips keep tok bad taken cause apart a =
    unnamed_at q (ap (λ u. fits q (kind_of u)) tok ∙ fit) of_names (inl (sym mark, λ e. absurd (other e))) here skips keep (subst (λ u. Takes (Goal.directives read) p.stack u None (Goal.directives (read ++ d ∷ [])) p.stack) (sym tok) (directives_next p.stack read d))
    (λ ts es x.
    let s = directives_say (read ++ d ∷ []) (works p.stack) ts es x.0 in
    ap (named p.names.keeping.tags names) s.2 ∙ unnameable_first p.names.keeping.tags names (Raw.document_start ((read ++ d ∷ []) ++ s.0)) s.1 (ap (λ b. if b then Some Ev.document_start else None) (bad s.0)))
    (cause _ _ (record { earlier = taken.0; read = read; directive = d; before_are = taken.1; last_is = tok; allowed = a.pending; spoilt = ap are_allowed (sym (append-nil (read ++ d ∷ []))) ∙ bad [] })) apart a

-- A second version is refused.
pub version_refused : {T : Type 0} {p r : Reader T} {m : Position} {names : defs.Names} {given : List (Ev × Position)}
    → IsOfKind kind.VersionDirective p.tokens.peeked → IfSome p.tokens.peeked (λ t. t.0 ≡ m) → Skipped p r p.stack → Directing p names given true
    → Faulted r given (Some (fault.At SecondVersion m))
version_refused {T} {p} {r} {m} {names} {given} here mark skip d =
    let l = looked kind.VersionDirective p.tokens.peeked here in
    let v = version_text (tok_of l.0.1) l.2 in
    let x = skip l.0 l.1 in
    refused_directive SecondVersion d.read (raw.version v.0 v.1) refl refl (λ e. cc) (if_some_at (λ (t : Token). t.0 ≡ m) mark l.1) l.1 x.tokens (ap (λ n. n.keeping) x.names) v.2 (λ more. second_version d.read v.0 v.1 more d.version) d.taken (λ before last x. x) (apart_as (opens (Goal.directives d.read) _ refl) refl refl) d.here

abbrev pub own : {A : Type 0} → Result A Fault → Result A (Option Fault)
own (Ok x) = Ok x
own (Err f) = Err (Some f)

-- What declares a handle is taken.
pub tag_directive_taken : {T : Type 0} {p : Reader T} (r : Reader T) {t : Token} (m : Position) {h x : List ℕ} {versioned : Bool} {names : defs.Names} {given : List (Ev × Position)} (res : Result (Unit {0}) Fault)
    → t.0 ≡ m → p.tokens.peeked ≡ Some t → Skips p.tokens t r.tokens → r.stack ≡ p.stack → r.names.keeping ≡ p.names.keeping → tok_of t.1 ≡ Tok.tag_directive h x
    → ((keep : Bool) (names : defs.Names) (read : List Directive) → HasRead p.names keep names read → Declares m r.names keep names read h x res)
    → Directing p names given versioned → DirectsTo r names given versioned (own res)
tag_directive_taken {T} {p} r {t} m {h} {x} {versioned} {names} {given} (Ok u) mark here skips stack keep tok declares d =
    let k = declares p.names.keeping.tags names d.read (record { named = d.here.code; own = d.own }) in
    let read = d.read ++ raw.tag h x ∷ [] in
    record {
      read = read;
      here = took here skips stack (subst (λ u. Takes (Goal.directives d.read) p.stack u None (Goal.directives read) p.stack) (sym tok) (directives_next p.stack d.read (raw.tag h x))) d.here
          (gave_none keep (subst (λ b. IsNamed r.names (at_document b.tags names read)) (sym keep) k.0.named) (allowed_tag d.read h x d.here.pending k.1) d.here) (λ b. (refl, ap is_end tok)) tt tt;
      own = k.0.own;
      version = tag_snoc d.read h x ∙ d.version;
      taken = read_more d.read (raw.tag h x) skips tok d.taken;
    }
tag_directive_taken {T} {p} r {t} m {h} {x} {versioned} {names} {given} (Err OutOfMemory) mark here skips stack keep tok declares d = tt
tag_directive_taken {T} {p} r {t} m {h} {x} {versioned} {names} {given} (Err (fault.At q n)) mark here skips stack keep tok declares d =
    let k = declares p.names.keeping.tags names d.read (record { named = d.here.code; own = d.own }) in
    faulted_as r given (ap (λ y. Some (fault.At y n)) k.1 ∙ ap (λ y. Some (fault.At RepeatedHandle y)) k.2)
    (refused_directive RepeatedHandle d.read (raw.tag h x) refl refl (λ e. cc) mark here skips keep tok (λ more. and_right (nat_le (versions ((d.read ++ raw.tag h x ∷ []) ++ more)) 1) (is_each_once (declared ((d.read ++ raw.tag h x ∷ []) ++ more))) (k.0 more)) d.taken (λ before last x. x) (apart_as (opens (Goal.directives d.read) _ refl) refl refl) d.here)

-- a look at the next token
pub directing_on : {T : Type 0} {p r : Reader T} {versioned : Bool} {names : defs.Names} {given : List (Ev × Position)} → ((g : Goal) → is_over g ≡ false → Carries g p r) → r.names ≡ p.names → r.tokens.taken ≡ p.tokens.taken → Directing p names given versioned → Directing r names given versioned
directing_on {T} {p} {r} {versioned} {names} {given} carries same taken d = record {
  read = d.read;
  here = carries (Goal.directives d.read) refl names given d.here;
  own = subst (λ n. IsOwn n d.read) (sym same) d.own;
  version = d.version;
  taken = subst (IsAfter d.read) (ap (λ y. toks (all_shown y.items)) (sym taken)) d.taken;
}
