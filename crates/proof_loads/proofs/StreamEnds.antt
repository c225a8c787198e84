-- A stream's tokens hold the stream's end; so a text has no more tokens than a stream that it begins with.
use Rattle.proof_loads.proofs.Common.{[], ap, append-nil, append_assoc, arith, Bool, false, has_no_nul, IsReached, IsRead, List, None, Option, Raw, refl, Some, StreamSays, subst, Tok, Token, tokens_are_of_a_row, toks, true, whole_stream, ℕ, ◌++◌, ◌||◌, ◌∙◌, ◌∷◌, ◌≡◌, list_any, or_right, nil_from_length, length, length-append}
use Rattle.proof_loads.proofs.Tests.{by_test}
use Rattle.defs_event.specs.Kinds.{is_stream_end}
use Rattle.defs_event.specs.Table.{Part, Row, takes, leaves, row_of, Work, reading, saying, before, Derives, says, by_taking, by_leaving}
use Rattle.defs_event.specs.Grammar.{Held, Goal, stream, documents, directives, explicit_document, document_end, cases, grammar}
use Rattle.model_scanner.proofs.Ends.{end_is_last}

-- ---- by the table

-- whether a goal is read up to the stream's end
abbrev is_last : Goal → Bool
is_last stream = true
is_last documents = true
is_last directives = true
is_last explicit_document = true
is_last document_end = true
is_last _ = false

abbrev Works : Type 0
Works = List (Work Goal Raw Held)

-- whether one is still to be read
abbrev has_last : Works → Bool
has_last [] = false
has_last (saying e ∷ w) = has_last w
has_last (reading g h ∷ w) = is_last g || has_last w

kept : (h : Held) (t : Tok) (ps : List (Part Goal Raw)) (w : Works) → has_last w ≡ true → has_last (before grammar h t ps w) ≡ true
kept h t [] w k = k
kept h t (p ∷ ps) w k = grind (arith, or_right, kept h t ps w)

-- whether it is the token, or one is to be read after its row
abbrev after_row : Held → Tok → Works → Option (Row Goal Raw) → Bool
after_row h t w None = true
after_row h t w (Some (takes ps)) = is_stream_end t || has_last (before grammar h t ps w)
after_row h t w (Some (leaves ps)) = has_last (before grammar h t ps w)

row_keeps : (h : Held) (t : Tok) (w : Works) (r : Option (Row Goal Raw)) → has_last w ≡ true → after_row h t w r ≡ true
row_keeps h t w None k = refl
row_keeps h t w (Some (takes ps)) k = or_right _ _ (kept h t ps w k)
row_keeps h t w (Some (leaves ps)) k = kept h t ps w k

after : (g : Goal) (h : Held) (t : Tok) (w : Works) {r : Row Goal Raw} → row_of (cases g) t ≡ Some r → (is_last g || has_last w) ≡ true → after_row h t w (Some r) ≡ true
after g h t w {r} q k = subst (λ o. after_row h t w o ≡ true) q (grind (arith, row_keeps))

-- the stream's end is among the tokens
ends_at : (w : Works) (ts : List Tok) (es : List Raw) → Derives grammar w ts es → has_last w ≡ true → list_any is_stream_end ts ≡ true
ends_at [] ts es d k = cc
ends_at (saying e ∷ w) ts _ (says {es = es} d) k = ends_at w ts es d k
ends_at (reading g h ∷ w) [] es d k = elim d [ ]
ends_at (reading g h ∷ w) (t ∷ ts) es (by_taking ps q d) k = let next = after g h t w q k in grind (arith, ends_at (before grammar h t ps w) ts es d)
ends_at (reading g h ∷ w) (t ∷ ts) es (by_leaving ps q d) k = ends_at (before grammar h t ps w) (t ∷ ts) es d (after g h t w q k)

-- ---- among tokens with their positions

record EndAmong (given : List Token) : Type 0 where
  before : List Token
  end : Token
  more : List Token
  whole : given ≡ before ++ end ∷ more
  is_end : end.tok ≡ Tok.stream_end

end_among : (given : List Token) → list_any is_stream_end (toks given) ≡ true → EndAmong given
end_among [] h = cc
end_among (t ∷ given) h = by_test (is_stream_end t.tok)
    (λ e. record { before = []; end = t; more = given; whole = refl; is_end = grind (arith, e) })
    (λ e. let z = end_among given (rw e at h) in record { before = t ∷ z.before; end = z.end; more = z.more; whole = ap (λ xs. t ∷ xs) z.whole; is_end = z.is_end })

-- A text whose first tokens are a stream's is read as these.
pub all_tokens : (text : List ℕ) (given : List Token) (es : List Raw) → has_no_nul text ≡ true → IsReached text given → StreamSays (toks given) es → IsRead text given
all_tokens text given es nul reached d =
    let among = end_among given (ends_at whole_stream (toks given) es d refl) in
    let more = reached.begins.more in
    let at : reached.last.held.tokens ≡ among.before ++ among.end ∷ (among.more ++ more) =
    cc (append_assoc among.before (among.end ∷ among.more) more) in
    let last = end_is_last text reached.last among.before (among.more ++ more) among.end reached.run at among.is_end in
    tokens_are_of_a_row text given nul (record {
      end = reached.last;
      run = reached.run;
      ended = last.0;
      tokens = reached.begins.whole ∙ ap (λ xs. given ++ xs) (nil_from_length more (omega (arith, ap length last.1, length-append among.more more))) ∙ append-nil given;
    })
