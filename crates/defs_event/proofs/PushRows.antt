-- What calls of `load` push.
use Rattle.defs_event.proofs.Common.{[], Answer, codes, drop, Ending, Ev, event, false, fault, faulted, IsSettled, List, load, Loaded, no_document, None, pulled_events, stopped, true, unfinished, well, ℕ, ◌++◌, ◌∷◌, ◌≡◌}
use Rattle.defs_event.specs.Push.{refused}
use Rattle.defs_event.proofs.Texts.{plain_event, here, there, all_here}

abbrev answers_of : List Ev → List (Answer ℕ)
answers_of [] = []
answers_of (e ∷ es) = event e here ∷ answers_of es

-- a fault, told by a number
abbrev broken : ℕ → Answer ℕ
broken n = fault n

abbrev pushes : List Ev → Ending ℕ → ℕ → Loaded ℕ
pushes es how n = record { pushed = all_here es; ending = how; taken = n }

abbrev document : List ℕ → List Ev
document text = Ev.document_start ∷ plain_event text ∷ Ev.document_end ∷ []

-- `--- 1` LF `--- 2`, asked on after the end
abbrev two_documents : List Ev
two_documents = Ev.stream_start ∷ (document (codes "1") ++ document (codes "2") ++ Ev.stream_end ∷ Ev.stream_end ∷ [])

record Rows : Type 0 where
  -- a document for each call, and then the end again and again
  one_by_one :
      (load false false (answers_of two_documents) ≡ pushes (Ev.stream_start ∷ document (codes "1")) well 4)
      × (load true false (drop 4 (answers_of two_documents)) ≡ pushes (document (codes "2")) well 3)
      × (load true false (drop 7 (answers_of two_documents)) ≡ pushes (Ev.stream_end ∷ []) well 1)
  -- all documents by one call where the start was pulled before
  multi_call_later : load true true (drop 1 (answers_of two_documents)) ≡ pushes (document (codes "1") ++ document (codes "2") ++ Ev.stream_end ∷ []) well 7
  -- A call in a document pushes nothing: `[1, 2]` after two pulls, and at the document's end.
  no_document_starts :
      (load true true (event (Ev.sequence_start 0 None) there ∷ answers_of (plain_event (codes "1") ∷ [])) ≡ pushes [] (no_document there) 1)
      × (load true false (answers_of (Ev.document_end ∷ Ev.stream_end ∷ [])) ≡ pushes [] (no_document here) 1)
  -- A fault ends the call, and is not pushed; a call that ends before it does not meet it.
  faults :
      (load false true (broken 5 ∷ broken 5 ∷ []) ≡ pushes [] (faulted 5) 1)
      × (load false true (answers_of (Ev.stream_start ∷ document (codes "1")) ++ broken 5 ∷ []) ≡ pushes (Ev.stream_start ∷ document (codes "1")) (faulted 5) 5)
      × (load false false (answers_of (Ev.stream_start ∷ document (codes "1")) ++ broken 5 ∷ []) ≡ pushes (Ev.stream_start ∷ document (codes "1")) well 4)
      × (load true true (answers_of (Ev.document_start ∷ [])) ≡ pushes (Ev.document_start ∷ []) unfinished 1)
  -- a receiver that refuses the third event
  refused_at_the_third : stopped 2 (load false true (answers_of two_documents)) ≡ pushes (Ev.stream_start ∷ Ev.document_start ∷ plain_event (codes "1") ∷ []) refused 3
  -- ---- what comes again
  comes_again : IsSettled (answers_of (Ev.stream_start ∷ Ev.stream_end ∷ Ev.stream_end ∷ [])) × IsSettled (event Ev.stream_start here ∷ broken 5 ∷ broken 5 ∷ [])
  up_to_the_fault : pulled_events (event Ev.stream_start here ∷ broken 5 ∷ broken 5 ∷ []) ≡ all_here (Ev.stream_start ∷ [])

rows : Rows
rows = search

nothing_else_after_the_end : IsSettled (event Ev.stream_end here ∷ broken 5 ∷ []) → ⊥
nothing_else_after_the_end h = h.0

another_fault : IsSettled (broken 5 ∷ broken 6 ∷ []) → ⊥
another_fault h = let e : broken 6 ≡ broken 5 = h.0 in cc

event_after_a_fault : IsSettled (broken 5 ∷ event Ev.stream_end here ∷ []) → ⊥
event_after_a_fault h = cc
