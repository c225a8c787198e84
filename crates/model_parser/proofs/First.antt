-- Tokens and their kinds.
use Rattle.model_parser.proofs.Common.{ap, HasNoText, Kind, kind_of, refl, subst, sym, Tok, tok_of_kind, ◌∙◌, ◌≡◌}

-- a token without texts is known by its kind
plain_tok : (t : Tok) → HasNoText (kind_of t) → tok_of_kind (kind_of t) ≡ t
plain_tok Tok.stream_start h = refl
plain_tok t h = cc

pub tok_is : {t : Tok} {k : Kind} → kind_of t ≡ k → HasNoText k → t ≡ tok_of_kind k
tok_is {t} {k} h e = sym (plain_tok t (subst HasNoText (sym h) e)) ∙ ap tok_of_kind h
