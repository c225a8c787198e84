-- JSON texts and their tokens: what the theorem says of some, and what the model does at a tab that the definition leaves out.
use Rattle.proof_loads.proofs.Common.{[], arith, At, codes, Elements, Err, exponent, false, fraction, HasToks, is_unescaped, itself, Json, number, plus, refl, scan, scan_on_literals, Short, short, Style, Tok, true, unicode, ◌∷◌, ◌≡◌, Blank, Problem}
use Rattle.proof_loads.proofs.JsonTokens.Texts.{json_text_has_its_tokens}

-- `["a\u0041\n", -2.5e+3]`
array : HasToks (codes "[\"a\\u0041\\n\", -2.5e+3]")
    (Tok.stream_start ∷ Tok.flow_sequence_start ∷ Tok.scalar Style.double_quoted (codes "aA\n") ∷ Tok.flow_entry ∷ Tok.scalar Style.plain (codes "-2.5e+3") ∷ Tok.flow_sequence_end ∷ Tok.stream_end ∷ [])
unfolding is_unescaped
array = json_text_has_its_tokens
    (record {
      before = [];
      value = Json.array [] (Elements.element (Json.string (itself 97 ∷ unicode 48 48 52 49 ∷ short Short.new_line ∷ [])) [] (Blank.space ∷ [])
          (Elements.last_element (Json.number (number true (codes "2") (fraction (codes "5")) (exponent false plus (codes "3")))) []));
      after = [];
    })
    (record { before = tt; value = search; after = tt; depth = omega arith })

-- a tab after a colon and a number: `{"k":` TAB `1}`
tab_after_colon : scan 4 (codes "{\"k\":\t1}") ≡ Err (At Problem.TabAfterColon (record { index = 6; line = 1; col = 6 }))
unfolding scan_on_literals
tab_after_colon = refl
