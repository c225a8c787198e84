-- Tokens that are settled stay; a text has one fault, and the events before it are one list.
use Rattle.proof_loads.proofs.Common.{[], AgreeAt, ap, append-nil, append_assoc, AreBehind, AreFirst, AreSettled, arith, BeginsPlaced, BeginsWith, Blames, Bool, both_ways, ComesAfter, Err, ErrorReport, Ev, events_of, false, Fault, fetch, fits, HasPlacedTo, here, inl, inr, is_of_names, IsFaultOf, IsReached, IsRefusal, IsStream, Key, length, length-append, List, map-append, named, no_names, no_stream, no_token, NoneBegins, one_run, OneListOfEventsBefore, OneListOfPushedEventsBefore, Option, Position, Problem, Raw, Reaches, refl, ScannerState, StandsAt, start, stood, stream_by, subst, sym, there, to_next, Tok, Token, toks, true, wants_memory, ℕ, ◌++◌, ◌+◌, ◌∙◌, ◌∷◌, ◌≡◌, ◌⊎◌, list_any, same_from_push, one_fault}
use Rattle.model_scanner.proofs.Given.{KeysFrom, reached}
use Rattle.yaml_scanner.specs.Waits.{comes_before}
use Rattle.yaml_tokens.specs.Problem.{fault_of}
use Rattle.model_parser.specs.declared.kind.Kind.{Kind}
use Rattle.model_parser.specs.Kinds.{kind_of}
use Rattle.model_parser.proofs.OnePlacing.{AreSame, one_stream, same_events, one_list_so_far}
use Rattle.model_scanner.specs.Document.{fetch_stream_start}
use Rattle.yaml_parser.specs.Apart.{StandsBefore}
use Rattle.yaml_parser.proofs.Holding.{many}
use Rattle.yaml_parser.proofs.Positions.{stood_raws, stood_positions}
use Rattle.proof_loads.proofs.Texts.{same_beginning}
use Rattle.proof_loads.proofs.Answers.{FaultAfter, fault_taken, placed_stream, Takes}

keys_from : (n : ℕ) (ks : List (Option Key)) → AreBehind n ks → KeysFrom n ks
keys_from n [] b = tt
keys_from n (k ∷ ks) b = grind (arith, keys_from n ks)

-- These tokens come first at a state, and no key may come before one of them.
pub record Stays (given : List Token) (t : ScannerState) : Type 0 where
  pub begins : BeginsWith given t.held.tokens
  pub keys : t.held.ended ≡ false → KeysFrom (length given) t.held.keys

pub stays : (given : List Token) (t u : ScannerState) → Reaches t u → BeginsWith given t.held.tokens → (t.held.ended ≡ false → AreBehind (length given) t.held.keys) → Stays given u
stays given t u here b k = record { begins = b; keys = λ going. keys_from (length given) t.held.keys (k going) }
stays given t u (there going e run) b k =
    let s = reached given t u (there going e run) (record { stood = record { more = b.more; tokens = b.whole; keys = keys_from (length given) t.held.keys (k going) } }) in
    record { begins = record { more = s.stood.more; whole = s.stood.tokens }; keys = λ _. s.stood.keys }

-- ---- beginnings of lists

pub one_begins : (xs ys us vs : List Token) → xs ++ us ≡ ys ++ vs → BeginsWith xs ys ⊎ BeginsWith ys xs
one_begins [] ys us vs e = inl (record { more = ys; whole = refl })
one_begins (x ∷ xs) [] us vs e = inr (record { more = x ∷ xs; whole = refl })
one_begins (x ∷ xs) (y ∷ ys) us vs e = elim (one_begins xs ys us vs cc) [
  | inl d ↦ inl (record { more = d.more; whole = cc (d.whole) })
  | inr d ↦ inr (record { more = d.more; whole = cc (d.whole) })
]

-- of two lists that begin a third, one begins the other
of_one : {xs ys zs : List Token} → BeginsWith xs zs → BeginsWith ys zs → BeginsWith xs ys ⊎ BeginsWith ys xs
of_one {xs} {ys} b c = one_begins xs ys b.more c.more (sym b.whole ∙ c.whole)

-- Settled tokens of one text, at any two points: one list begins the other.
pub settled_agree : (text : List ℕ) (xs ys : List Token) → IsReached text xs → IsReached text ys → BeginsWith xs ys ⊎ BeginsWith ys xs
settled_agree text xs ys r s = elim (one_run r.run s.run) [
  | inl run ↦ of_one (stays xs r.last s.last run r.begins r.behind).begins s.begins
  | inr run ↦ of_one r.begins (stays ys s.last r.last run s.begins s.behind).begins
]

-- ---- where a text is refused

stops : {t u : ScannerState} {f : Fault} → Reaches t u → fetch t ≡ Err f → u ≡ t
stops a e = grind arith

-- a key that stands behind more tokens comes before none of these
none_comes : (n m : ℕ) (ks : List (Option Key)) → KeysFrom (n + 1 + m) ks → list_any (comes_before n) ks ≡ false
none_comes n m [] k = refl
none_comes n m (x ∷ ks) k = grind (arith, none_comes n m ks)

-- All settled tokens begin with those that are settled anywhere.
pub settled_first : (text : List ℕ) (all given : List Token) → AreSettled text all → IsReached text given → BeginsWith given all
settled_first text all given s r = elim (of_one there_too.begins s.begins) [ inl b ↦ b | inr b ↦ no_more b.more b.whole ]
  where
    there_too : Stays given s.refused.last
    there_too = elim (one_run r.run s.refused.run) [
      | inl run ↦ stays given r.last _ run r.begins r.behind
      | inr run ↦ subst (Stays given) (stops run s.refused.refused) (record { begins = r.begins; keys = λ going. keys_from (length given) r.last.held.keys (r.behind going) })
    ]

    no_more : (more : List Token) → given ≡ all ++ more → BeginsWith given all
    no_more [] e = record { more = []; whole = sym (append-nil given ∙ e ∙ append-nil all) }
    no_more (t ∷ more) e =
        let count : length given ≡ length all + 1 + length more = ap length e ∙ length-append all (t ∷ more) ∙ omega arith in
        let keys : KeysFrom (length all + 1 + length more) s.refused.last.held.keys = subst (λ n. KeysFrom n s.refused.last.held.keys) count (there_too.keys s.refused.going) in
        let whole : s.refused.last.held.tokens ≡ all = s.all (none_comes (length all) (length more) s.refused.last.held.keys keys) in
        let b = there_too.begins in
        absurd (omega (arith, count, ap length whole, ap length b.whole, length-append given b.more))

-- ---- of the scanner

pub one_refusal : (text : List ℕ) (f g : ErrorReport) → IsRefusal text f → IsRefusal text g → f.memory ≡ false → f ≡ g
one_refusal text f g r s m =
    let same : r.fault ≡ s.fault = one_fault text r.fault s.fault r.refused s.refused in
    let none : (fault_of r.fault r.position).memory ≡ false = ap (λ x. x.memory) (sym r.shown) ∙ m in
    let placed : fault_of r.fault r.position ≡ fault_of r.fault s.position = grind (arith, none) in
    cc

-- ---- of the parser

-- the kind of a token says which problem of names it may have
abbrev name_problem : Kind → Problem
name_problem Kind.VersionDirective = Problem.SecondVersion
name_problem Kind.TagDirective = Problem.RepeatedHandle
name_problem Kind.Alias = Problem.UnknownAnchor
name_problem _ = Problem.UndeclaredHandle

fits_name : (p : Problem) (k : Kind) → is_of_names p ≡ true → fits p k ≡ true → p ≡ name_problem k
fits_name p k n f = grind arith

one_place : (p : Problem) (before : List Token) (last : Token) (x y : Position) → StandsAt p x before last → StandsAt p y before last → x ≡ y
one_place p before last x y s u = elim s [
  | inl a ↦ elim u [ inl b ↦ a.0 ∙ sym b.0 | inr b ↦ absurd (a.1 b.0 y b.1) ]
  | inr a ↦ elim u [
    | inl b ↦ absurd (b.1 a.0 x a.1)
    | inr b ↦
        cc (a.1.at, b.1.at, (same_from_push a.1.before b.1.before a.1.anchor b.1.anchor (sym a.1.whole ∙ b.1.whole)).1)
  ]
]

-- Two faults that refuse the same token are of one problem,
pub same_blame : (keep_tags : Bool) (tokens : List Token) (es fs : List (Ev × Position)) (f g : ErrorReport) (a : Blames f [] keep_tags tokens es) (b : Blames g [] keep_tags tokens fs) → (a.before ≡ b.before) × (a.last ≡ b.last) × (a.problem ≡ b.problem)
same_blame keep_tags tokens es fs f g a b =
    let same = same_from_push a.before b.before a.last b.last (sym a.whole ∙ b.whole) in
    (same.0, same.1, problems (is_of_names a.problem) (is_of_names b.problem) refl refl same)
  where
    problems : (m n : Bool) → is_of_names a.problem ≡ m → is_of_names b.problem ≡ n → (a.before ≡ b.before) × (a.last ≡ b.last) → a.problem ≡ b.problem
    problems true true c d same = cc (fits_name a.problem (kind_of a.last.tok) c a.fits_it, fits_name b.problem (kind_of b.last.tok) d b.fits_it)
    problems true false c d same = let s = a.some c in absurd (b.none d s.0 s.1 s.2)
    problems false true c d same = let s = b.some d in absurd (a.none c s.0 s.1 s.2)
    problems false false c d same = cc (a.says c, b.says d)

-- and are the same.
pub one_blame : (keep_tags : Bool) (tokens : List Token) (es fs : List (Ev × Position)) (f g : ErrorReport) → Blames f [] keep_tags tokens es → Blames g [] keep_tags tokens fs → f ≡ g
one_blame keep_tags tokens es fs f g a b =
    let same = same_blame keep_tags tokens es fs f g a b in
    let stands : StandsAt a.problem g.position a.before a.last = rw (same.2, same.0, same.1) (b.stands) in
    let place : f.position ≡ g.position = one_place a.problem a.before a.last f.position g.position a.stands stands in
    cc

-- ---- of both

-- where a token is refused, no stream begins with more tokens
pub refused_first : (keep_tags : Bool) (before ts : List Token) (last : Token) (events : List (Ev × Position)) → NoneBegins keep_tags (toks (before ++ last ∷ [])) → BeginsPlaced keep_tags ts events → BeginsWith (before ++ last ∷ []) ts → ⊥
refused_first keep_tags before ts last events none b w =
    let first = before ++ last ∷ [] in
    let c : BeginsPlaced keep_tags (first ++ w.more) events = subst (λ us. BeginsPlaced keep_tags us events) w.whole b in
    let rest = toks w.more ++ toks c.more_tokens in
    let all : toks ((first ++ w.more) ++ c.more_tokens) ≡ toks first ++ rest = simp (map-append, append_assoc) in
    none rest (events_of (events ++ c.more_events))
    (subst (λ ts. IsStream keep_tags ts (events_of (events ++ c.more_events))) all (placed_stream keep_tags _ (events ++ c.more_events) c.stream))

-- a list that begins another one with a last token begins what stands before it, or is all
pub last_or_before : (xs ys more : List Token) (u : Token) → ys ++ u ∷ [] ≡ xs ++ more → (xs ≡ ys ++ u ∷ []) ⊎ BeginsWith xs ys
last_or_before [] ys more u e = inr (record { more = ys; whole = refl })
last_or_before (x ∷ []) [] more u e = inl cc
last_or_before (x ∷ y ∷ xs) [] more u e = absurd cc
last_or_before (x ∷ xs) (y ∷ ys) more u e =
    let rest : ys ++ u ∷ [] ≡ xs ++ more = cc in
    elim (last_or_before xs ys more u rest) [ inl d ↦ inl (cc (d)) | inr d ↦ inr (record { more = d.more; whole = cc (d.whole) }) ]

-- ---- of the scanner

both_begin : (xs ys : List Token) → BeginsWith xs ys → BeginsWith ys xs → xs ≡ ys
both_begin xs ys b c =
    same_beginning xs ys b.more []
    (omega (arith, ap length b.whole, length-append xs b.more, ap length c.whole, length-append ys c.more)) (cc (append-nil ys))

reached_all : (text : List ℕ) (given : List Token) → AreSettled text given → IsReached text given
reached_all text given s = record { last = s.refused.last; run = s.refused.run; begins = s.begins; behind = λ going. s.behind }

first_is_start : (text : List ℕ) (t : Token) → IsReached text (t ∷ []) → t.tok ≡ Tok.stream_start
unfolding fetch_stream_start fetch
first_is_start text t r = by r.last r.run r.begins
  where
    by : (last : ScannerState) → Reaches (start text) last → BeginsWith (t ∷ []) last.held.tokens → t.tok ≡ Tok.stream_start
    by _ here b = let no : [] ≡ t ∷ b.more = b.whole in cc
    by last (there {u = u} going e run) b =
        let is : u ≡ fetch_stream_start (start text) = cc in
        let first : Token = record { position = record { index = 0; line = 1; col = 0 }; tok = Tok.stream_start } in
        let s = stays (first ∷ []) (fetch_stream_start (start text)) last (subst (λ v. Reaches v last) is run) (record { more = []; whole = refl }) (λ _. (tt, tt)) in
        let same : t ≡ first = cc (b.whole, s.begins.whole) in
        ap (λ (x : Token). x.tok) same

-- ---- of the parser

-- A stream begins so: it is not refused.
not_first : (keep_tags : Bool) (t : Token) → t.tok ≡ Tok.stream_start → NoneBegins keep_tags (toks (t ∷ [])) → ⊥
not_first keep_tags t is none =
    let stream : IsStream keep_tags (Tok.stream_start ∷ Tok.stream_end ∷ []) (Ev.stream_start ∷ Ev.stream_end ∷ []) = stream_by refl refl in
    none (Tok.stream_end ∷ []) (Ev.stream_start ∷ Ev.stream_end ∷ []) (subst (λ u. IsStream keep_tags (u ∷ Tok.stream_end ∷ []) (Ev.stream_start ∷ Ev.stream_end ∷ [])) (sym is) stream)

without_last : (xs ys : List (Raw × Position)) (e : Raw × Position) → AreSame (xs ++ e ∷ []) (ys ++ e ∷ []) → AreSame xs ys
without_last [] [] e a = tt
without_last [] (y ∷ []) e a = absurd a.2
without_last (x ∷ []) [] e a = absurd a.2
without_last (x ∷ xs) (y ∷ ys) e a = (a.0, a.1, without_last xs ys e a.2)
without_last xs ys e a = absurd a.2

-- What the same tokens say before the same problem is one list.
one_beside : (q : Problem) (tokens : List Token) (place : Position) (xs ys : List (Raw × Position)) → StandsBefore q tokens place xs → StandsBefore q tokens place ys → AreSame xs ys
one_beside q tokens place xs ys h e = grind (arith, without_last, one_stream)

beside_one : (keep_tags : Bool) (text : List ℕ) (tokens : List Token) (es fs : List (Ev × Position)) (f g : ErrorReport) → AreFirst text tokens → NoneBegins keep_tags (toks tokens) → Blames f [] keep_tags tokens es → Blames g [] keep_tags tokens fs → AgreeAt es fs
beside_one keep_tags text tokens es fs f g first none a b =
    let same = same_blame keep_tags tokens es fs f g a b in
    let going : toks b.before ≡ [] → ⊥ = λ nothing. alone b.before nothing b.whole in
    let one : StandsBefore b.problem b.before b.last.position (stood a.raw es) = rw (← same.2, ← same.0, ← same.1) (a.beside (λ nothing. going (ap toks (sym same.0) ∙ nothing))) in
    let count = many [] keep_tags a.raw es a.derived.named in
    let other_count = many [] keep_tags b.raw fs b.derived.named in
    same_events keep_tags no_names (stood a.raw es) (stood b.raw fs) es fs (one_beside b.problem b.before b.last.position (stood a.raw es) (stood b.raw fs) one (b.beside going))
    (ap (named keep_tags no_names) (stood_raws a.raw es count) ∙ a.derived.named) (stood_positions a.raw es count)
    (ap (named keep_tags no_names) (stood_raws b.raw fs other_count) ∙ b.derived.named) (stood_positions b.raw fs other_count)
  where
    alone : (before : List Token) → toks before ≡ [] → tokens ≡ before ++ b.last ∷ [] → ⊥
    alone [] nothing whole =
        not_first keep_tags b.last (first_is_start text b.last (subst (IsReached text) whole first.reached)) (subst (λ ts. NoneBegins keep_tags (toks ts)) whole none)
    alone (t ∷ ts) nothing whole = cc nothing

-- Where two tokens are refused of first tokens of a text, they are the same.
same_tokens : (keep_tags : Bool) (bs cs : List Token) (t u : Token) (fs : List (Ev × Position)) → NoneBegins keep_tags (toks (bs ++ t ∷ [])) → BeginsPlaced keep_tags cs fs → BeginsWith (bs ++ t ∷ []) (cs ++ u ∷ []) → bs ++ t ∷ [] ≡ cs ++ u ∷ []
same_tokens keep_tags bs cs t u fs none begins w = elim (last_or_before (bs ++ t ∷ []) cs w.more u w.whole) [ inl same ↦ same | inr x ↦ absurd (refused_first keep_tags bs cs t fs none begins x) ]

-- ---- of both

-- the events before a fault
abbrev events_before : {keep_tags : Bool} {text : List ℕ} {f : ErrorReport} → IsFaultOf keep_tags text f → List (Ev × Position)
events_before (wants_memory w) = []
events_before (no_token given es settled begins has r) = es
events_before (no_stream before last es first blames begins none) = es

come_before : {keep_tags : Bool} {text : List ℕ} {f : ErrorReport} (x : IsFaultOf keep_tags text f) (es : List (Ev × Position)) → f.memory ≡ false → ComesAfter x es → es ≡ events_before x
come_before x es m h = grind (arith, both_ways)

-- Two faults of a text are the same, and so are the events before them.
pub one_cause : (keep_tags : Bool) (text : List ℕ) (f g : ErrorReport) (x : IsFaultOf keep_tags text f) (y : IsFaultOf keep_tags text g) → f.memory ≡ false → g.memory ≡ false → (f ≡ g) × AgreeAt (events_before x) (events_before y)
one_cause keep_tags text f g (wants_memory w) y m n = absurd (both_ways f.memory m w.memory)
one_cause keep_tags text f g x (wants_memory w) m n = absurd (both_ways g.memory n w.memory)
one_cause keep_tags text f g (no_token given es settled begins has r) (no_token given' fs settled' begins' had s) m n =
    let same : given ≡ given' =
    both_begin _ _ (settled_first text _ _ settled' (reached_all text _ settled))
    (settled_first text _ _ settled (reached_all text _ settled')) in
    (one_refusal text f g r s m, one_list_so_far to_next keep_tags given' es fs (subst (λ ts. HasPlacedTo to_next keep_tags ts es) same has) had)
one_cause keep_tags text f g (no_token given es settled begins has r) (no_stream before last fs first b begins' none) m n =
    absurd (refused_first _ _ _ _ _ none begins (settled_first text _ _ settled first.reached))
one_cause keep_tags text f g (no_stream before last es first a begins none) (no_token given fs settled begins' has r) m n =
    absurd (refused_first _ _ _ _ _ none begins' (settled_first text _ _ settled first.reached))
one_cause keep_tags text f g (no_stream bs t es first a begins none) (no_stream cs u fs first' b begins' none') m n =
    let same : bs ++ t ∷ [] ≡ cs ++ u ∷ [] = elim (settled_agree text (bs ++ t ∷ []) (cs ++ u ∷ []) first.reached first'.reached) [
      | inl w ↦ same_tokens keep_tags bs cs t u fs none begins' w
      | inr w ↦ sym (same_tokens keep_tags cs bs u t es none' begins w)
    ] in
    let a' = subst (λ ts. Blames f [] keep_tags ts es) same a in
    (one_blame _ _ es fs f g a' b, beside_one _ text _ es fs f g first' none' a' b)

pub one_list_before : OneListOfEventsBefore
one_list_before keep_tags text f g xs ys x y m n a b = rw (come_before x xs m a, come_before y ys n b) (one_cause keep_tags text f g x y m n).1

-- the same of two parsers
pub agree_before : (k c : Bool) (text : List ℕ) (f g : ErrorReport) (es fs : List (Ev × Position)) → k ≡ c → FaultAfter k text f es → FaultAfter c text g fs → f.memory ≡ false → g.memory ≡ false → AgreeAt es fs
agree_before k c text f g es fs same x y m n =
    let z = subst (λ b. FaultAfter b text f es) same x in
    one_list_before c text f g es fs z.why y.why m n z.after y.after

pub one_pushed_list_before : {R S : Type 0} (takes : Takes R) (others : Takes S)
    → OneListOfPushedEventsBefore takes others
one_pushed_list_before takes others p p' q q' r r' s s' text f g start began setting scans scanned one other kept held m n =
    let x = fault_taken takes p p' r r' f text start scans one kept in
    let y = fault_taken others q q' s s' g text began scanned other held in
    record {
      events = x.events;
      other_events = y.events;
      took = x.took;
      other_took = y.took;
      agree = agree_before _ _ text f g _ _ setting x.why y.why m n;
    }
