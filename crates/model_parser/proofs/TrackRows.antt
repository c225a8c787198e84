-- Short streams. Together they use each row of the table, say each of its events, and hold and keep what it holds.
-- A comment gives a text with these tokens.
use Prim.Native.String.{String}
use Rattle.model_parser.proofs.Common.{[], ap, Bool, codes, Directive, Ev, false, IsStream, List, named, no_names, None, nothing_written, plain_event, plain_raw, Raw, read_stream, reads, refl, Some, StreamSays, Style, Tag, tag_of_text, three_documents, Tok, true, ◌++◌, ◌∙◌, ◌∷◌, ◌≡◌}
use Rattle.defs_event.proofs.OneReading.{read_in_one_way}
use Rattle.defs_token.specs.Token.{block_end, block_entry, block_mapping_start, block_sequence_start, document_end, document_start, flow_entry, flow_mapping_end, flow_mapping_start, flow_sequence_end, flow_sequence_start, key, stream_end, stream_start, value}
use Rattle.model_parser.proofs.Streams.{says_by, stream_by}

abbrev word : String → Tok
word text = Tok.scalar Style.plain (codes text)

abbrev anchor : String → Tok
anchor name = Tok.anchor (codes name)

abbrev alias : String → Tok
alias name = Tok.alias (codes name)

-- a tag of the handle `!`
abbrev tag : String → Tok
tag suffix = Tok.tag (codes "!") (codes suffix)

abbrev tag_directive : (handle prefix : String) → Tok
tag_directive handle prefix = Tok.tag_directive (codes handle) (codes prefix)

abbrev plain : String → Raw
plain text = plain_raw (codes text)

-- a tag of the handle `!`, as it is said
abbrev tagged : String → Tag
tagged suffix = tag_of_text (codes "!") (codes suffix)

abbrev anchored : String → Raw
anchored name = Raw.empty_scalar (Some (codes name)) None

-- a document without directives
abbrev document : List Raw → List Raw
document raws = Raw.document_start [] ∷ raws ++ Raw.document_end ∷ []

abbrev TokensSay : List Tok → List Raw → Type 0
TokensSay tokens raws = StreamSays (stream_start ∷ tokens ++ stream_end ∷ []) (Raw.stream_start ∷ raws ++ Raw.stream_end ∷ [])

-- a stream of one document without marker
abbrev DocumentSays : List Tok → List Raw → Type 0
DocumentSays tokens raws = TokensSay tokens (document raws)

-- The goals whose rows they use: `documents` those of documents; `beginnings` what begins a document; `flow_sequence` those of nodes and
-- their properties, contents in flow, and flow sequences; `single_pairs` the pairs in these, and flow values; `flow_mapping` flow mappings;
-- `block_sequence` contents in blocks, and block sequences; `values` and `keys` contents in block mappings, sequences without indentation,
-- and block mappings.
record Streams : Type 0 where
  -- an empty text
  no_document : TokensSay [] []
  -- `...` LF `a` LF `...` LF `%TAG !t! x:` LF `%YAML 1.2` LF `%TAG !u! y:` LF `---` LF `--- b` LF `...` LF `--- c`
  documents : TokensSay
      (document_end ∷ word "a" ∷ document_end ∷
      tag_directive "!t!" "x:" ∷ Tok.version_directive 1 2 ∷ tag_directive "!u!" "y:" ∷ document_start ∷
      document_start ∷ word "b" ∷ document_end ∷ document_start ∷ word "c" ∷ [])
      (document (plain "a" ∷ []) ++
      Raw.document_start (Directive.tag (codes "!t!") (codes "x:") ∷ Directive.version 1 2 ∷ Directive.tag (codes "!u!") (codes "y:") ∷ []) ∷
      nothing_written ∷ Raw.document_end ∷ document (plain "b" ∷ []) ++ document (plain "c" ∷ []))
  -- what a document without marker begins with: `&a`, `!t`, `*a`, `x`, `[]`, `{}` and the starts of block collections, each with `...`
  beginnings : TokensSay
      (anchor "a" ∷ document_end ∷ tag "t" ∷ document_end ∷ alias "a" ∷ document_end ∷ word "x" ∷ document_end ∷
      flow_sequence_start ∷ flow_sequence_end ∷ document_end ∷ flow_mapping_start ∷ flow_mapping_end ∷ document_end ∷
      block_sequence_start ∷ block_end ∷ document_end ∷ block_mapping_start ∷ block_end ∷ document_end ∷ [])
      (document (anchored "a" ∷ []) ++ document (Raw.empty_scalar None (Some (tagged "t")) ∷ []) ++ document (Raw.alias (codes "a") ∷ []) ++
      document (plain "x" ∷ []) ++
      document (Raw.flow_sequence_start None None ∷ Raw.flow_sequence_end ∷ []) ++
      document (Raw.flow_mapping_start None None ∷ Raw.flow_mapping_end ∷ []) ++
      document (Raw.sequence_start None None ∷ Raw.sequence_end ∷ []) ++ document (Raw.mapping_start None None ∷ Raw.mapping_end ∷ []))
  -- ---- flow
  -- `[&a , !t , *a , &b !u x, !v &c [], !w {}, [y], ]`
  flow_sequence : DocumentSays
      (flow_sequence_start ∷ anchor "a" ∷ flow_entry ∷ tag "t" ∷ flow_entry ∷ alias "a" ∷ flow_entry ∷
      anchor "b" ∷ tag "u" ∷ word "x" ∷ flow_entry ∷ tag "v" ∷ anchor "c" ∷ flow_sequence_start ∷ flow_sequence_end ∷ flow_entry ∷
      tag "w" ∷ flow_mapping_start ∷ flow_mapping_end ∷ flow_entry ∷
      flow_sequence_start ∷ word "y" ∷ flow_sequence_end ∷ flow_entry ∷ flow_sequence_end ∷ [])
      (Raw.flow_sequence_start None None ∷ anchored "a" ∷ Raw.empty_scalar None (Some (tagged "t")) ∷ Raw.alias (codes "a") ∷
      Raw.scalar (codes "x") Style.plain (Some (codes "b")) (Some (tagged "u")) ∷
      Raw.flow_sequence_start (Some (codes "c")) (Some (tagged "v")) ∷ Raw.flow_sequence_end ∷
      Raw.flow_mapping_start None (Some (tagged "w")) ∷ Raw.flow_mapping_end ∷
      Raw.flow_sequence_start None None ∷ plain "y" ∷ Raw.flow_sequence_end ∷ Raw.flow_sequence_end ∷ [])
  -- `[? , ? a, ? b : c]`: pairs that begin with `?`, with and without key and value
  single_pairs : DocumentSays
      (flow_sequence_start ∷ key ∷ flow_entry ∷ key ∷ word "a" ∷ flow_entry ∷ key ∷ word "b" ∷ value ∷ word "c" ∷ flow_sequence_end ∷ [])
      (Raw.flow_sequence_start None None ∷ Raw.pair_start ∷ nothing_written ∷ nothing_written ∷ Raw.pair_end ∷
      Raw.pair_start ∷ plain "a" ∷ nothing_written ∷ Raw.pair_end ∷
      Raw.pair_start ∷ plain "b" ∷ plain "c" ∷ Raw.pair_end ∷ Raw.flow_sequence_end ∷ [])
  -- `{a, b: c, : d, ? , &e {f: }, }`: a single node, a pair, one without key, one without both, and a node in its place
  flow_mapping : DocumentSays
      (flow_mapping_start ∷ word "a" ∷ flow_entry ∷ key ∷ word "b" ∷ value ∷ word "c" ∷ flow_entry ∷ value ∷ word "d" ∷ flow_entry ∷
      key ∷ flow_entry ∷ anchor "e" ∷ flow_mapping_start ∷ key ∷ word "f" ∷ value ∷ flow_mapping_end ∷ flow_entry ∷ flow_mapping_end ∷ [])
      (Raw.flow_mapping_start None None ∷ plain "a" ∷ nothing_written ∷ plain "b" ∷ plain "c" ∷ nothing_written ∷ plain "d" ∷
      nothing_written ∷ nothing_written ∷ Raw.flow_mapping_start (Some (codes "e")) None ∷ plain "f" ∷ Raw.unwritten_value ∷
      Raw.flow_mapping_end ∷ nothing_written ∷ Raw.flow_mapping_end_at_comma ∷ [])
  -- ---- block
  -- `- x` LF `-` LF `- &a` LF `- *a` LF `- []` LF `- {}`, and entries that are block collections
  block_sequence : DocumentSays
      (block_sequence_start ∷ block_entry ∷ word "x" ∷ block_entry ∷ block_entry ∷ anchor "a" ∷ block_entry ∷ alias "a" ∷
      block_entry ∷ flow_sequence_start ∷ flow_sequence_end ∷ block_entry ∷ flow_mapping_start ∷ flow_mapping_end ∷
      block_entry ∷ anchor "b" ∷ tag "t" ∷ block_sequence_start ∷ block_entry ∷ word "y" ∷ block_end ∷
      block_entry ∷ tag "u" ∷ anchor "c" ∷ block_mapping_start ∷ block_end ∷ block_end ∷ [])
      (Raw.sequence_start None None ∷ plain "x" ∷ nothing_written ∷ anchored "a" ∷ Raw.alias (codes "a") ∷
      Raw.flow_sequence_start None None ∷ Raw.flow_sequence_end ∷ Raw.flow_mapping_start None None ∷ Raw.flow_mapping_end ∷
      Raw.sequence_start (Some (codes "b")) (Some (tagged "t")) ∷ plain "y" ∷ Raw.sequence_end ∷
      Raw.mapping_start (Some (codes "c")) (Some (tagged "u")) ∷ Raw.mapping_end ∷ Raw.sequence_end ∷ [])
  -- `? a` LF `: b`, and with each kind of value: an alias, flow and block collections, a sequence without indentation, nothing; then a
  -- value without key
  values : DocumentSays
      (block_mapping_start ∷ key ∷ word "a" ∷ value ∷ word "b" ∷ key ∷ word "c" ∷ value ∷ alias "d" ∷
      key ∷ word "e" ∷ value ∷ flow_sequence_start ∷ flow_sequence_end ∷ key ∷ word "f" ∷ value ∷ flow_mapping_start ∷ flow_mapping_end ∷
      key ∷ word "g" ∷ value ∷ block_sequence_start ∷ block_end ∷ key ∷ word "h" ∷ value ∷ block_mapping_start ∷ block_end ∷
      key ∷ word "i" ∷ value ∷ block_entry ∷ word "j" ∷ block_entry ∷ key ∷ word "k" ∷ value ∷ value ∷ word "l" ∷ block_end ∷ [])
      (Raw.mapping_start None None ∷ plain "a" ∷ plain "b" ∷ plain "c" ∷ Raw.alias (codes "d") ∷
      plain "e" ∷ Raw.flow_sequence_start None None ∷ Raw.flow_sequence_end ∷ plain "f" ∷ Raw.flow_mapping_start None None ∷
      Raw.flow_mapping_end ∷ plain "g" ∷ Raw.sequence_start None None ∷ Raw.sequence_end ∷
      plain "h" ∷ Raw.mapping_start None None ∷ Raw.mapping_end ∷
      plain "i" ∷ Raw.indentless_sequence_start None None ∷ plain "j" ∷ nothing_written ∷ Raw.indentless_sequence_end ∷
      plain "k" ∷ nothing_written ∷ nothing_written ∷ plain "l" ∷ Raw.mapping_end ∷ [])
  -- each kind of key, the first with a value, the others without; then nothing as key and value
  keys : DocumentSays
      (block_mapping_start ∷ key ∷ block_entry ∷ word "a" ∷ block_entry ∷ value ∷ word "b" ∷ key ∷ word "c" ∷ key ∷ alias "d" ∷
      key ∷ flow_sequence_start ∷ flow_sequence_end ∷ key ∷ flow_mapping_start ∷ flow_mapping_end ∷
      key ∷ block_sequence_start ∷ block_end ∷ key ∷ block_mapping_start ∷ block_end ∷ key ∷ value ∷ key ∷ block_end ∷ [])
      (Raw.mapping_start None None ∷ Raw.indentless_sequence_start None None ∷ plain "a" ∷ nothing_written ∷ Raw.indentless_sequence_end ∷
      plain "b" ∷ plain "c" ∷ nothing_written ∷ Raw.alias (codes "d") ∷ nothing_written ∷
      Raw.flow_sequence_start None None ∷ Raw.flow_sequence_end ∷ nothing_written ∷
      Raw.flow_mapping_start None None ∷ Raw.flow_mapping_end ∷ nothing_written ∷
      Raw.sequence_start None None ∷ Raw.sequence_end ∷ nothing_written ∷ Raw.mapping_start None None ∷ Raw.mapping_end ∷ nothing_written ∷
      nothing_written ∷ nothing_written ∷ nothing_written ∷ nothing_written ∷ Raw.mapping_end ∷ [])
  -- `k: !t &x` LF `- &y` LF `- b`: a `-` after properties begins a sequence, but in that sequence an entry
  indentless_of_properties : DocumentSays
      (block_mapping_start ∷ key ∷ word "k" ∷ value ∷ tag "t" ∷ anchor "x" ∷ block_entry ∷ anchor "y" ∷ block_entry ∷ word "b" ∷ block_end ∷ [])
      (Raw.mapping_start None None ∷ plain "k" ∷ Raw.indentless_sequence_start (Some (codes "x")) (Some (tagged "t")) ∷
      anchored "y" ∷ plain "b" ∷ Raw.indentless_sequence_end ∷ Raw.mapping_end ∷ [])

streams : Streams
streams = search says_by

-- ---- names in a stream

-- `&a [*a]`: an alias inside its own node has its number
alias_inside : IsStream false
    (stream_start ∷ anchor "a" ∷ flow_sequence_start ∷ alias "a" ∷ flow_sequence_end ∷ stream_end ∷ [])
    (Ev.stream_start ∷ Ev.document_start ∷ Ev.sequence_start 1 None ∷ Ev.alias 1 ∷ Ev.sequence_end ∷ Ev.document_end ∷ Ev.stream_end ∷ [])
alias_inside = stream_by refl refl

-- `%TAG !t! x:` LF `--- a` LF `--- !t!s b`: a handle of an earlier document, where tags are kept
tags_kept : IsStream true
    (stream_start ∷ tag_directive "!t!" "x:" ∷ document_start ∷ word "a" ∷
    document_start ∷ Tok.tag (codes "!t!") (codes "s") ∷ word "b" ∷ stream_end ∷ [])
    (Ev.stream_start ∷ Ev.document_start ∷ plain_event (codes "a") ∷ Ev.document_end ∷ Ev.document_start ∷
    Ev.scalar (codes "b") Style.plain 0 (Some (tag_of_text (codes "x:") (codes "s"))) ∷ Ev.document_end ∷ Ev.stream_end ∷ [])
tags_kept = stream_by refl refl

-- The tokens are read in no other way, and what they say has no events.
no_reading : {keep_tags : Bool} {tokens : List Tok} {raws : List Raw} → read_stream tokens ≡ reads raws → named keep_tags no_names raws ≡ None
    → (es : List Ev) → IsStream keep_tags tokens es → ⊥
no_reading {keep_tags} {tokens} {raws} h none es s =
    let same : s.raws ≡ raws = read_in_one_way tokens s.raws raws s.says (says_by h) in
    cc (ap (named keep_tags no_names) same ∙ none, s.has_events)

-- such a handle, where tags are not kept
handle_of_an_earlier_document : (es : List Ev) → IsStream false three_documents es → ⊥
handle_of_an_earlier_document = no_reading refl refl
