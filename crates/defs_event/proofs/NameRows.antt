-- Which events names have, and where they have none.
use Rattle.defs_event.proofs.Common.{[], are_allowed, codes, declared, Directive, Ev, false, List, named, no_names, None, Raw, resolved, Some, Style, true, ℕ, ◌++◌, ◌∷◌, ◌≡◌}
use Rattle.defs_event.proofs.Texts.{tag_of_text}

-- a document of these nodes
abbrev raw_document : List Directive → List Raw → List Raw → List Raw
raw_document ds nodes r = Raw.document_start ds ∷ (nodes ++ Raw.document_end ∷ r)

abbrev raw_stream : List Raw → List Raw
raw_stream documents = Raw.stream_start ∷ (documents ++ Raw.stream_end ∷ [])

abbrev anchored_raw : List ℕ → List ℕ → Raw
anchored_raw name text = Raw.scalar text Style.plain (Some name) None

abbrev tagged_raw : List ℕ → List ℕ → Raw
tagged_raw handle suffix = Raw.scalar (codes "x") Style.plain None (Some (tag_of_text handle suffix))

abbrev alias_a : Raw
alias_a = Raw.alias (codes "a")

abbrev twice_used : List Directive → List Raw
twice_used ds = raw_stream (raw_document (Directive.tag (codes "!q!") (codes "p") ∷ []) (tagged_raw (codes "!q!") (codes "s") ∷ [])
    (raw_document ds (tagged_raw (codes "!q!") (codes "t") ∷ []) []))

abbrev twice_resolved : List ℕ → List ℕ → List Ev
twice_resolved p q = Ev.stream_start ∷ Ev.document_start ∷ Ev.scalar (codes "x") Style.plain 0 (Some (tag_of_text p (codes "s"))) ∷ Ev.document_end
    ∷ Ev.document_start ∷ Ev.scalar (codes "x") Style.plain 0 (Some (tag_of_text q (codes "t"))) ∷ Ev.document_end ∷ Ev.stream_end ∷ []

record Rows : Type 0 where
  -- `--- &a 1` LF `--- *a`, where tags are kept too, and `[*a, &a 1]`
  aliases_without_anchor :
      (named true no_names (raw_stream (raw_document [] (anchored_raw (codes "a") (codes "1") ∷ []) (raw_document [] (alias_a ∷ []) []))) ≡ None)
      × (named false no_names
      (raw_stream (raw_document [] (Raw.flow_sequence_start None None ∷ alias_a ∷ anchored_raw (codes "a") (codes "1") ∷ Raw.flow_sequence_end ∷ []) [])) ≡ None)
  -- An anchor counts over the stream, and is 1 more than those before.
  numbers : named false no_names (raw_stream (raw_document [] (anchored_raw (codes "a") (codes "1") ∷ [])
      (raw_document [] (Raw.sequence_start (Some (codes "b")) None ∷ Raw.empty_scalar (Some (codes "a")) None ∷ alias_a ∷ Raw.sequence_end ∷ []) [])))
      ≡ Some (Ev.stream_start ∷ Ev.document_start ∷ Ev.scalar (codes "1") Style.plain 1 None ∷ Ev.document_end
      ∷ Ev.document_start ∷ Ev.sequence_start 2 None ∷ Ev.scalar [] Style.plain 3 None ∷ Ev.alias 3 ∷ Ev.sequence_end ∷ Ev.document_end ∷ Ev.stream_end ∷ [])
  -- A handle of an earlier document counts where tags are kept. A document may declare it again.
  handles :
      (named false no_names (twice_used []) ≡ None) × (named true no_names (twice_used []) ≡ Some (twice_resolved (codes "p") (codes "p")))
      × (named true no_names (twice_used (Directive.tag (codes "!q!") (codes "q") ∷ [])) ≡ Some (twice_resolved (codes "p") (codes "q")))
  -- A repeated handle in the directives of a document leaves it without events.
  repeated_handle :
      named true no_names (raw_stream (raw_document (Directive.tag (codes "!a!") (codes "x:") ∷ Directive.tag (codes "!a!") (codes "y:") ∷ []) [] [])) ≡ None
  -- ---- directives of one document
  -- none, one version, two handles of one prefix, and directives of other names
  allowed :
      (are_allowed [] ≡ true) × (are_allowed (Directive.version 1 2 ∷ []) ≡ true)
      × (are_allowed (Directive.tag (codes "!a!") (codes "x:") ∷ Directive.tag (codes "!b!") (codes "x:") ∷ []) ≡ true)
      × (are_allowed (Directive.tag [] [] ∷ Directive.version 1 2 ∷ Directive.tag [] [] ∷ []) ≡ true)
  -- two versions, and one handle twice with others between
  not_allowed :
      (are_allowed (Directive.version 1 2 ∷ Directive.version 1 2 ∷ []) ≡ false)
      × (are_allowed (Directive.tag (codes "!a!") (codes "x:") ∷ Directive.version 1 2 ∷
      Directive.tag (codes "!b!") (codes "x:") ∷ Directive.tag (codes "!a!") (codes "x:") ∷ []) ≡ false)
  others_declare_nothing : declared (Directive.tag [] [] ∷ Directive.tag (codes "!") (codes "p") ∷ []) ≡ (codes "!", codes "p") ∷ []
  -- ---- single tags
  -- verbatim, and `!` alone
  without_handle :
      (resolved [] (tag_of_text [] (codes "u")) ≡ Some (tag_of_text [] (codes "u")))
      × (resolved ((codes "!", codes "p") ∷ []) (tag_of_text [] (codes "!")) ≡ Some (tag_of_text [] (codes "!")))
  not_declared :
      (resolved [] (tag_of_text (codes "!") (codes "s")) ≡ Some (tag_of_text (codes "!") (codes "s")))
      × (resolved [] (tag_of_text (codes "!!") (codes "int")) ≡ Some (tag_of_text (codes "tag:yaml.org,2002:") (codes "int")))
      × (resolved ((codes "!b!", codes "q") ∷ []) (tag_of_text (codes "!a!") (codes "s")) ≡ None)
  by_their_prefix :
      (resolved ((codes "!", codes "p") ∷ []) (tag_of_text (codes "!") (codes "s")) ≡ Some (tag_of_text (codes "p") (codes "s")))
      × (resolved ((codes "!!", codes "p") ∷ []) (tag_of_text (codes "!!") (codes "int")) ≡ Some (tag_of_text (codes "p") (codes "int")))
      × (resolved ((codes "!b!", codes "q") ∷ (codes "!a!", codes "p") ∷ []) (tag_of_text (codes "!a!") (codes "s")) ≡ Some (tag_of_text (codes "p") (codes "s")))

rows : Rows
rows = search
