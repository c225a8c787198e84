-- Inputs and what decoding makes of them, by computing.
use Rattle.std.specs.Fmt.{digits}
use Rattle.yaml_encoding.proofs.Common.{[], Answer, break, character, chosen, codes, go_on, ignored, inl, inr, is_lead, is_trail, IsDecodedByCalls, List, malformation, parts, refl, replaced, start_of, stopped, strict, text, unmarked, ℕ, ◌++◌, ◌∷◌, ◌≡◌}

-- a function that adds a question mark and goes on, at one byte with nothing looked at after it
data Asks : (bytes ahead : ℕ) → (input text_so_far : List ℕ) → Answer → Type 0 where
  ask : (so_far : List ℕ) → Asks 1 0 (0xFF ∷ []) so_far (go_on (so_far ++ codes "?"))

-- a function that stops with a text
data Stops : (bytes ahead : ℕ) → (input text_so_far : List ℕ) → Answer → Type 0 where
  stop : (n a : ℕ) → (input so_far : List ℕ) → Stops n a input so_far (break (codes "bad"))

-- a function that stops with the empty text
data Silent : (bytes ahead : ℕ) → (input text_so_far : List ℕ) → Answer → Type 0 where
  silent : (n a : ℕ) → (input so_far : List ℕ) → Silent n a input so_far (break [])

record Rows : Type 0 where
  -- a byte with which no sequence begins is left out
  ignores : ignored (parts (codes "---\na" ++ (0xA9 ∷ codes ": 1\n"))) ≡ codes "---\na: 1\n"
  -- and stops, its position counted from 0
  strict_stops : strict (parts (codes "---\na" ++ (0xA9 ∷ codes ": 1\n"))) ≡ stopped (codes "Invalid character sequence at 5: [169]")
  -- a lead surrogate before another unit; the unit is read anew
  lead_replaced : replaced (parts (0xFF ∷ 0xFE ∷ 0x00 ∷ 0xD8 ∷ 0x61 ∷ 0x00 ∷ [])) ≡ 0xFFFD ∷ 97 ∷ []
  -- its position is counted from the first byte of the mark
  lead_stops : strict (parts (0xFF ∷ 0xFE ∷ 0x00 ∷ 0xD8 ∷ 0x61 ∷ 0x00 ∷ [])) ≡ stopped (codes "Invalid character sequence at 2: [0, 216]")
  -- two first bytes that differ, the first being 0
  big_endian : replaced (parts (0x00 ∷ 0x61 ∷ [])) ≡ 97 ∷ []
  -- the second being 0
  little_endian : replaced (parts (0x61 ∷ 0x00 ∷ [])) ≡ 97 ∷ []
  -- two equal bytes are UTF-8
  two_zeros : replaced (parts (0x00 ∷ 0x00 ∷ [])) ≡ 0 ∷ 0 ∷ []
  -- one byte is UTF-8
  one_byte : replaced (parts (0x00 ∷ [])) ≡ 0 ∷ []
  -- no bytes
  nothing : replaced (parts ([])) ≡ []
  -- a sequence that is begun is one malformation
  begun_sequence : replaced (parts (0xE2 ∷ 0x82 ∷ 0x41 ∷ [])) ≡ 0xFFFD ∷ 65 ∷ []
  -- of two bytes
  begun_sequence_stops : strict (parts (0xE2 ∷ 0x82 ∷ 0x41 ∷ [])) ≡ stopped (codes "Invalid character sequence at 0: [226, 130]")
  -- E0 80 begins no sequence
  no_sequence : replaced (parts (0xE0 ∷ 0x80 ∷ 0x41 ∷ [])) ≡ 0xFFFD ∷ 0xFFFD ∷ 65 ∷ []
  -- nor does ED A0
  surrogate : replaced (parts (0xED ∷ 0xA0 ∷ 0x80 ∷ [])) ≡ 0xFFFD ∷ 0xFFFD ∷ 0xFFFD ∷ []
  -- nor F4 90
  above : replaced (parts (0xF4 ∷ 0x90 ∷ 0x80 ∷ 0x80 ∷ [])) ≡ 0xFFFD ∷ 0xFFFD ∷ 0xFFFD ∷ 0xFFFD ∷ []
  -- nor C0, nor F5
  overlong : replaced (parts (0xC0 ∷ 0x80 ∷ 0xF5 ∷ [])) ≡ 0xFFFD ∷ 0xFFFD ∷ 0xFFFD ∷ []
  -- three bytes of a sequence of four
  longest_beginning : replaced (parts (0xF0 ∷ 0x90 ∷ 0x80 ∷ 0x41 ∷ [])) ≡ 0xFFFD ∷ 65 ∷ []
  -- a sequence that the end cuts
  cut_at_end : replaced (parts (0xF0 ∷ 0x9F ∷ 0x98 ∷ [])) ≡ 0xFFFD ∷ []
  -- characters of two, three and four bytes
  characters : replaced (parts (0xC3 ∷ 0xA9 ∷ 0xE2 ∷ 0x82 ∷ 0xAC ∷ 0xF0 ∷ 0x9F ∷ 0x98 ∷ 0x80 ∷ [])) ≡ 233 ∷ 0x20AC ∷ 0x1F600 ∷ []
  -- a mark of UTF-8
  marked : strict (parts (0xEF ∷ 0xBB ∷ 0xBF ∷ 0x61 ∷ 0xFF ∷ [])) ≡ stopped (codes "Invalid character sequence at 4: [255]")
  -- an odd byte at the end
  odd_byte : strict (parts (0xFF ∷ 0xFE ∷ 0x61 ∷ 0x00 ∷ 0x62 ∷ [])) ≡ stopped (codes "Invalid character sequence at 4: [98]")
  -- a lead surrogate and an odd byte at the end are one
  lead_and_odd_byte : strict (parts (0xFF ∷ 0xFE ∷ 0x00 ∷ 0xD8 ∷ 0x61 ∷ []))
      ≡ stopped (codes "Invalid character sequence at 2: [0, 216, 97]")
  -- a lead surrogate at the end
  lead_at_end : strict (parts (0xFF ∷ 0xFE ∷ 0x61 ∷ 0x00 ∷ 0x00 ∷ 0xD8 ∷ [])) ≡ stopped (codes "Invalid character sequence at 4: [0, 216]")
  -- a lead surrogate before a pair
  lead_before_pair : replaced (parts (0xFF ∷ 0xFE ∷ 0x00 ∷ 0xD8 ∷ 0x01 ∷ 0xD8 ∷ 0x00 ∷ 0xDC ∷ [])) ≡ 0xFFFD ∷ 0x10400 ∷ []
  -- a trail surrogate alone
  trail_alone : replaced (parts (0xFE ∷ 0xFF ∷ 0xDC ∷ 0x00 ∷ 0x00 ∷ 0x61 ∷ [])) ≡ 0xFFFD ∷ 97 ∷ []
  -- a mark of UTF-16BE
  marked_big : replaced (parts (0xFE ∷ 0xFF ∷ 0x00 ∷ 0x61 ∷ [])) ≡ 97 ∷ []
  -- a lead surrogate before a whole unit: two bytes of length, two looked at
  looked_ahead : parts (0xFF ∷ 0xFE ∷ 0x00 ∷ 0xD8 ∷ 0x61 ∷ 0x00 ∷ [])
      ≡ malformation 2 2 2 (0x00 ∷ 0xD8 ∷ 0x61 ∷ 0x00 ∷ []) ∷ character 97 ∷ []
  -- without a malformation the function is not called
  not_called : IsDecodedByCalls Stops (0x61 ∷ []) (text (codes "a"))

rows : Rows
unfolding unmarked chosen start_of is_lead is_trail digits
rows = search

-- the function is called once and its text is taken
asked : IsDecodedByCalls Asks (0x61 ∷ 0xFF ∷ []) (text (codes "a?"))
unfolding unmarked chosen start_of is_lead is_trail digits
asked = inl (codes "a?", ask (codes "a"), refl)

-- the function's message is taken
broken : IsDecodedByCalls Stops (0x61 ∷ 0xFF ∷ []) (stopped (codes "bad"))
unfolding unmarked chosen start_of is_lead is_trail digits
broken = inr (codes "bad", stop 1 0 (0xFF ∷ []) (codes "a"), refl)

-- an empty message becomes that of the malformation
broken_silently : IsDecodedByCalls Silent (0x61 ∷ 0xFF ∷ []) (stopped (codes "Invalid character sequence at 1: [255]"))
unfolding unmarked chosen start_of is_lead is_trail digits
broken_silently = inr ([], silent 1 0 (0xFF ∷ []) (codes "a"), refl)

-- a malformation that is passed over without its call
not_passed_over : IsDecodedByCalls Asks (0x61 ∷ 0xFF ∷ []) (text (codes "a")) → ⊥
unfolding unmarked chosen start_of is_lead is_trail
not_passed_over (inl (next, ask so_far, e)) = cc e
not_passed_over (inr (m, s, e)) = cc e
