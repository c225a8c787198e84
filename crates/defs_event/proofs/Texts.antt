-- Short forms for the examples.
use Rattle.defs_event.proofs.Common.{[], codes, Ev, List, map, None, Position, Raw, Style, Tag, Tok, ℕ, ◌∷◌}

abbrev pub tag_of_text : List ℕ → List ℕ → Tag
tag_of_text handle suffix = record { handle = handle; suffix = suffix }

-- `%TAG !prefix! tag:example.com,2011:` LF `--- !prefix!A` LF `a: b` LF `--- !prefix!B` LF `c: d` LF `--- !prefix!C` LF `e: f`
abbrev pub three_documents : List Tok
three_documents =
    Tok.stream_start ∷ Tok.tag_directive (codes "!prefix!") (codes "tag:example.com,2011:") ∷ Tok.document_start ∷
    Tok.tag (codes "!prefix!") (codes "A") ∷ Tok.block_mapping_start ∷ Tok.key ∷
    Tok.scalar Style.plain (codes "a") ∷ Tok.value ∷ Tok.scalar Style.plain (codes "b") ∷ Tok.block_end ∷
    Tok.document_start ∷ Tok.tag (codes "!prefix!") (codes "B") ∷ Tok.block_mapping_start ∷ Tok.key ∷
    Tok.scalar Style.plain (codes "c") ∷ Tok.value ∷ Tok.scalar Style.plain (codes "d") ∷ Tok.block_end ∷
    Tok.document_start ∷ Tok.tag (codes "!prefix!") (codes "C") ∷ Tok.block_mapping_start ∷ Tok.key ∷
    Tok.scalar Style.plain (codes "e") ∷ Tok.value ∷ Tok.scalar Style.plain (codes "f") ∷ Tok.block_end ∷
    Tok.stream_end ∷ []

-- a plain scalar without anchor and tag
abbrev pub plain_event : List ℕ → Ev
plain_event text = Ev.scalar text Style.plain 0 None

abbrev pub plain_raw : List ℕ → Raw
plain_raw text = Raw.scalar text Style.plain None None

abbrev pub here : Position
here = record { index = 0; line = 1; col = 0 }

-- a position further on
abbrev pub there : Position
there = record { index = 7; line = 2; col = 3 }

abbrev pub all_here : List Ev → List (Ev × Position)
all_here es = map (λ e. (e, here)) es
