-- What was read, as clauses see it: the unfinished reading of the code as that of the definitions.
-- YAML 1.2, section 3.1 (construction from the serialization's events).
use Rattle.std.specs.Prelude.{◌≡◌, ℕ, List, [], ◌∷◌, Option, Some, None, option_map, map, Result, OnOk, OnErr, IfErr}
use Rattle.defs_tree.specs.Tree.{Tree, bad_value}
use Rattle.defs_tree.specs.Pairs.{last_of}
use Rattle.defs_event.specs.Anchors.{Anchors}
use Rattle.defs_event.specs.Unfinished.{Opened, opened_sequence, opened_mapping, Unfinished, Step, repeats, out_of_nesting, reads, with_tree}
use Rattle.yaml_tree.specs.View.{view, items_view}
use Rattle.yaml_tree.specs.declared.yaml.Yaml.{Yaml}
use Rattle.yaml_loader.specs.Alike.{ReadsTo}
use Rattle.yaml_loader.specs.declared.reading.Open.{Open}
use Rattle.yaml_loader.specs.declared.reading.Open.TheVariants as collection
use Rattle.yaml_loader.specs.declared.reading.TreeBuilder.{TreeBuilder}
use Rattle.yaml_loader.specs.declared.reading.Refusal.{Refusal}
use Rattle.yaml_loader.specs.declared.reading.Refusal.TheVariants as refusal

-- an open collection
abbrev pub opened_of : Open → Opened
opened_of (collection.Sequence a ts) = opened_sequence a ts
opened_of (collection.Mapping a ps k) = opened_mapping a ps (option_map view k)

-- open collections, of which the last is the innermost; the innermost first, before those further out
abbrev pub all_opened : List Open → List Opened → List Opened
all_opened [] outer = outer
all_opened (o ∷ os) outer = all_opened os (opened_of o ∷ outer)

-- the finished anchors
abbrev pub anchors_of : List (ℕ × Yaml) → Anchors
anchors_of es = map (λ e. (e.0, view e.1)) es

-- a reading that is not at its end
abbrev pub unfinished_of : TreeBuilder → Unfinished
unfinished_of r = record { documents = items_view r.documents.items; opened = all_opened r.opened.items []; root = option_map view r.root; anchors = anchors_of r.anchors.entries }

-- the key of the last pair
abbrev pub last_key : Option (Tree × Tree) → Tree
last_key None = bad_value
last_key (Some p) = p.0

-- the key that came twice in the innermost mapping: its last
abbrev pub repeated_key : List Opened → Tree
repeated_key (opened_mapping a ps k ∷ outer) = last_key (last_of ps)
repeated_key _ = bad_value

-- A complete tree goes into an open collection, which is another one then, whatever is open around it.
abbrev pub Inserts : Opened → Tree → Opened → Type 0
Inserts old t new = (u : Unfinished) (outer : List Opened) → with_tree t u (old ∷ outer) ≡ reads (record u { opened = new ∷ outer })

-- It is the value of a key that came twice, which is then the last in its mapping.
abbrev pub Repeats : Opened → Tree → Opened → Type 0
Repeats old t new = (u : Unfinished) (outer : List Opened) → with_tree t u (old ∷ outer) ≡ repeats (repeated_key (new ∷ outer))

-- What is known of a step that is refused, and of the open collections after it. Of refused memory nothing is known.
abbrev pub IsRefusedBy : Refusal → Step → List Opened → Type 0
IsRefusedBy refusal.OutOfMemory s opened = Unit {0}
IsRefusedBy refusal.OutOfNesting s opened = s ≡ out_of_nesting
IsRefusedBy refusal.RepeatedKey s opened = s ≡ repeats (repeated_key opened)

-- the same of a complete tree that goes into an open collection, which never stands out of nesting
abbrev pub IsNoInsert : Refusal → Opened → Tree → Opened → Type 0
IsNoInsert refusal.OutOfMemory old t new = Unit {0}
IsNoInsert refusal.OutOfNesting old t new = ⊥
IsNoInsert refusal.RepeatedKey old t new = Repeats old t new

-- ---- what a function on a reading answers and leaves, where this is the step of the definitions

-- Where the answer is good, the step reads, to a reading like the new one.
abbrev pub Reads : Step → Result (Unit {0}) Refusal → TreeBuilder → Type 0
Reads s result new = OnOk result (ReadsTo s (unfinished_of new))

-- A refusal is the step's, but for out of memory.
abbrev pub Refuses : Step → Result (Unit {0}) Refusal → TreeBuilder → Type 0
Refuses s result new = IfErr result (λ r. IsRefusedBy r s (unfinished_of new).opened)

-- After a refusal the documents are as they were.
abbrev pub KeepsDocuments : TreeBuilder → Result (Unit {0}) Refusal → TreeBuilder → Type 0
KeepsDocuments old result new = OnErr result ((unfinished_of new).documents ≡ (unfinished_of old).documents)
