-- Tokens that are not the stream's end.
use Rattle.model_scanner.proofs.Common.{[], after_major, after_name, after_value, anchor_token, and_then, blanks, directive, drop, Err, Fault, handle, is_blank_or_breakz, Kind, line_end, List, name, NameKind, number, Ok, past, Position, prefix, prefix_after, Read, Result, slice_index, tag_value, Tok, unknown, value, version, version_value, with_end, with_minor, with_prefix, ℕ, ◌==◌, ◌∷◌}
use Rattle.model_scanner.specs.Directive as kind
use Rattle.model_scanner.specs.declared.kind.NameKind.TheVariants.{Alias, Anchor}
use Rattle.model_scanner.proofs.Holds.{Holds, went, refused, choice}

abbrev pub IsNoEnd : Tok → Type 0
IsNoEnd Tok.stream_end = ⊥
IsNoEnd _ = Unit {0}

pub anchor_is_no_end : (kind : NameKind) (name : List ℕ) → IsNoEnd (anchor_token kind name)
anchor_is_no_end Alias name = tt
anchor_is_no_end Anchor name = tt

-- ---- directives

abbrev IsRead : Result (Read Tok) Fault → Type 0
IsRead r = Holds (λ x. IsNoEnd x.value) r

went_on : {A B : Type 0} {P : Read B → Type 0} (r : Result (Read A) Fault) (k : Read A → Result (Read B) Fault) → ((x : Read A) → Holds P (k x)) → Holds P (and_then r k)
went_on (Ok x) k f = f x
went_on (Err e) k f = refused

version_read : (start : Position) (a : List ℕ) (p : Position) → IsRead (version_value start a p)
unfolding version_value
version_read start a p = let b = blanks a p in went_on (number start b.rest b.position) (λ n. after_major start n) (λ r. choice (slice_index r.rest 0 == 46) (went_on (number start (drop 1 r.rest) (past r.position)) (λ n. Ok (with_minor r.value n)) (λ n. went tt)) refused)

tag_read : (start : Position) (a : List ℕ) (p : Position) → IsRead (tag_value start a p)
unfolding tag_value
tag_read start a p = let b = blanks a p in went_on (handle start b.rest b.position) (λ (h : Read (List ℕ)). prefix_after start h.value (blanks h.rest h.position)) (λ h.
    let c = blanks h.rest h.position in
    went_on (prefix start c.rest c.position) (λ q. with_prefix start h.value q) (λ q. choice (is_blank_or_breakz (slice_index q.rest 0)) (went tt) refused))

value_read : (start : Position) (k : Kind) (a : List ℕ) (p : Position) → IsRead (value start k a p)
value_read start version a p = version_read start a p
value_read start kind.tag a p = tag_read start a p
value_read start unknown a p = went tt

-- the rest of the line changes no token
line_read : (start : Position) (r : Result (Read Tok) Fault) → IsRead r → IsRead (and_then r (λ v. after_value start v))
line_read start (Ok v) (went q) = went_on (line_end start v.rest v.position) (λ r. Ok (with_end v r)) (λ r. went q)
line_read start (Err e) refused = refused

pub directive_is_no_end : (a : List ℕ) (p : Position) → Holds (λ r. IsNoEnd r.value) (directive a p)
unfolding directive
directive_is_no_end [] p = refused
directive_is_no_end (c ∷ a) p = went_on (name a (past p)) (λ n. after_name p n) (λ n. line_read p (value p n.value n.rest n.position) (value_read p n.value n.rest n.position))
