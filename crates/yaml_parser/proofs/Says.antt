-- The tokens say which problem a refused token has.
use Rattle.yaml_parser.proofs.Common.{[], ap, Collection, Directive, directive_next, Ev, false, Goal, goes_so, if◌then◌else◌, is_after, is_directive, is_in_mapping, is_over_document, is_under, IsBottom, IsNested, IsNoDirective, Kind, kind_of, List, Names, Next, next_after, next_at, node_next, None, open_after, open_at, open_under, other_next, Position, Problem, problem_at, problem_for, problem_in, problem_of, Raw, Reader, refl, State, StreamSays, subst, sym, taken_toks, Tok, top, true, ◌++◌, ◌∙◌, ◌∷◌, ◌≡◌, ◌≢◌, arith}
use Rattle.yaml_parser.proofs.Ends.{Says}
use Rattle.yaml_tokens.specs.declared.problem.Problem.TheVariants as problem
use Rattle.model_parser.specs.declared.context.NodeContext.{NodeContext}

-- by what the tokens leave to come and leave open
by_tokens : (q : Problem) (ts : List Tok) (t : Tok) {n : Next} {cs : List Collection} → next_after other_next ts ≡ n → open_after [] ts ≡ cs → (ts ≡ [] → q ≡ problem.DocumentStartToken) → q ≡ problem_for (kind_of t) n cs → q ≡ problem_of ts t
by_tokens q ts t next opens none e = grind arith

-- An innermost collection is open here, in which no node may begin.
abbrev pub IsInside : Goal → Collection → Type 0
IsInside g c = (ss : List State) → (is_after (top g ss) ≡ false) × (next_at g ss ≡ other_next) × (open_at g ss ≡ c ∷ open_under ss)

pub says_inside : {T : Type 0} {k : Kind} {g : Goal} {p : Reader T} {names : Names} {given : List (Ev × Position)} (c : Collection) → IsInside g c → Says (problem_in (c ∷ [])) k g p names given
says_inside {T} {k} {g} {p} c inside a known t look kind =
    let i = inside p.stack in
    let opens : open_after [] (taken_toks p.tokens) ≡ c ∷ open_under p.stack = a.stands.opened ∙ i.2 in
    by_tokens (problem_in (c ∷ [])) (taken_toks p.tokens) t (known i.0 ∙ i.1) opens (λ e. let no : [] ≡ c ∷ open_under p.stack = sym (ap (open_after []) e) ∙ opens in cc) (any c (open_under p.stack))
  where
    any : (x : Collection) (cs : List Collection) → problem_in (x ∷ []) ≡ problem_in (x ∷ cs)
    any x cs = grind arith

-- ---- where nothing is open

bottom_open : (ss : List State) → IsBottom ss → open_under ss ≡ []
bottom_open ss h = grind arith

no_directive_for : (k : Kind) (n : Next) → is_directive k ≡ false → problem_at n [] ≡ problem_for k n []
no_directive_for k n h = ap (λ b. if b then problem.DirectiveWithoutDocumentEnd else problem_at n []) (sym h)

pub says_explicit : {T : Type 0} {k : Kind} {p : Reader T} {names : Names} {given : List (Ev × Position)} → Says problem.DocumentStartToken k Goal.explicit_document p names given
says_explicit {T} {k} {p} a known t look kind =
    by_tokens problem.DocumentStartToken (taken_toks p.tokens) t (known refl) (a.stands.opened ∙ bottom_open p.stack a.stands.fits) (λ e. refl)
    (no_directive_for (kind_of t) other_next (subst IsNoDirective look (a.stands.past refl)))

pub says_directed : {T : Type 0} {k : Kind} {p : Reader T} {names : Names} {given : List (Ev × Position)} (read : List Directive) → is_directive k ≡ false → Says problem.DocumentStartToken k (Goal.directives read) p names given
says_directed {T} {k} {p} read none a known t look kind =
    by_tokens problem.DocumentStartToken (taken_toks p.tokens) t (known refl) (a.stands.opened ∙ bottom_open p.stack a.stands.fits) (λ e. refl)
    (no_directive_for (kind_of t) directive_next (ap is_directive kind ∙ none))

-- Something was taken before a document's end.
taken_some : (ts us : List Tok) (es : List Raw) → StreamSays (ts ++ Tok.stream_end ∷ us) es → ts ≢ []
taken_some ts us es d e = grind arith

pub says_after : {T : Type 0} {k : Kind} {p : Reader T} {names : Names} {given : List (Ev × Position)} → is_directive k ≡ true → Says problem.DirectiveWithoutDocumentEnd k Goal.document_end p names given
says_after {T} {k} {p} is a known t look kind =
    let d = a.stands.sound _ _ (goes_so Goal.document_end p.stack Tok.stream_end [] refl refl) in
    by_tokens problem.DirectiveWithoutDocumentEnd (taken_toks p.tokens) t refl (a.stands.opened ∙ bottom_open p.stack a.stands.fits)
    (λ e. absurd (taken_some (taken_toks p.tokens) _ _ d e))
    (ap (λ b. if b then problem.DirectiveWithoutDocumentEnd else problem_at (next_after other_next (taken_toks p.tokens)) []) (sym (ap is_directive kind ∙ is)))

-- ---- where a node is read

mapping_opens : (ss : List State) → is_in_mapping ss ≡ true → open_under ss ≢ []
mapping_opens ss h e = grind arith

-- Where nothing is open, it is a document's.
over_document : (ss : List State) → IsNested ss → is_under ss ≡ true → open_under ss ≡ [] → is_over_document ss ≡ true
over_document ss n u e = grind (arith, mapping_opens)

node_for : (k : Kind) (cs : List Collection) → (cs ≡ [] → is_directive k ≡ false) → problem.NodeContent ≡ problem_for k node_next cs
node_for k cs none = grind (arith, no_directive_for)

pub says_node : {T : Type 0} {k : Kind} {c : NodeContext} {p : Reader T} {names : Names} {given : List (Ev × Position)} → Says problem.NodeContent k (Goal.content c None) p names given
says_node {T} {k} {c} {p} a known t look kind =
    let next : next_after other_next (taken_toks p.tokens) ≡ node_next = known refl in
    by_tokens problem.NodeContent (taken_toks p.tokens) t next a.stands.opened (λ e. let no : other_next ≡ node_next = sym (ap (next_after other_next) e) ∙ next in cc)
    (node_for (kind_of t) (open_under p.stack) (λ e. subst IsNoDirective look (a.stands.past (over_document p.stack a.stands.nested a.stands.fits.0 e))))
