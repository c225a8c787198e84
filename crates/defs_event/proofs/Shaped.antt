-- Events with names resolved have the shape of those before: only anchors, tags and numbers differ.
use Rattle.defs_event.proofs.Common.{[], Bool, Ev, List, named, Names, names_after, None, number, Option, option_map, Raw, resolved_event, Some, Style, Tag, ℕ, ◌∷◌, ◌≡◌, arith}
use Rattle.defs_event.proofs.NameLemmas.{both_some}

-- the event with no anchor and no tag
abbrev pub shape_of : Raw → Ev
shape_of Raw.stream_start = Ev.stream_start
shape_of Raw.stream_end = Ev.stream_end
shape_of (Raw.document_start ds) = Ev.document_start
shape_of Raw.document_end = Ev.document_end
shape_of (Raw.alias n) = Ev.alias 0
shape_of (Raw.scalar x s a t) = Ev.scalar x s 0 None
shape_of (Raw.empty_scalar a t) = Ev.scalar [] Style.plain 0 None
shape_of (Raw.flow_sequence_start a t) = Ev.sequence_start 0 None
shape_of (Raw.sequence_start a t) = Ev.sequence_start 0 None
shape_of (Raw.indentless_sequence_start a t) = Ev.sequence_start 0 None
shape_of Raw.flow_sequence_end = Ev.sequence_end
shape_of Raw.sequence_end = Ev.sequence_end
shape_of Raw.indentless_sequence_end = Ev.sequence_end
shape_of (Raw.flow_mapping_start a t) = Ev.mapping_start 0 None
shape_of (Raw.mapping_start a t) = Ev.mapping_start 0 None
shape_of Raw.pair_start = Ev.mapping_start 0 None
shape_of Raw.unwritten_value = Ev.scalar [] Style.plain 0 None
shape_of _ = Ev.mapping_end

abbrev pub Shaped : List Raw → List Ev → Type 0
Shaped [] es = es ≡ []
Shaped (Raw.alias name ∷ r) es = (n : ℕ) × (vs : List Ev) × (es ≡ Ev.alias n ∷ vs) × Shaped r vs
Shaped (Raw.scalar x s a t ∷ r) es = (n : ℕ) × (u : Option Tag) × (vs : List Ev) × (es ≡ Ev.scalar x s n u ∷ vs) × Shaped r vs
Shaped (Raw.empty_scalar a t ∷ r) es = (n : ℕ) × (u : Option Tag) × (vs : List Ev) × (es ≡ Ev.scalar [] Style.plain n u ∷ vs) × Shaped r vs
Shaped (Raw.flow_sequence_start a t ∷ r) es = (n : ℕ) × (u : Option Tag) × (vs : List Ev) × (es ≡ Ev.sequence_start n u ∷ vs) × Shaped r vs
Shaped (Raw.sequence_start a t ∷ r) es = (n : ℕ) × (u : Option Tag) × (vs : List Ev) × (es ≡ Ev.sequence_start n u ∷ vs) × Shaped r vs
Shaped (Raw.indentless_sequence_start a t ∷ r) es = (n : ℕ) × (u : Option Tag) × (vs : List Ev) × (es ≡ Ev.sequence_start n u ∷ vs) × Shaped r vs
Shaped (Raw.flow_mapping_start a t ∷ r) es = (n : ℕ) × (u : Option Tag) × (vs : List Ev) × (es ≡ Ev.mapping_start n u ∷ vs) × Shaped r vs
Shaped (Raw.mapping_start a t ∷ r) es = (n : ℕ) × (u : Option Tag) × (vs : List Ev) × (es ≡ Ev.mapping_start n u ∷ vs) × Shaped r vs
Shaped (e ∷ r) es = (vs : List Ev) × (es ≡ shape_of e ∷ vs) × Shaped r vs

-- with what is resolved
valued : {A : Type 0} (g : A → Ev) (o : Option A) (v : Ev) (vs : List Ev) → option_map g o ≡ Some v → (a : A) × (v ∷ vs ≡ g a ∷ vs)
valued g None v vs h = cc
valued g (Some a) v vs h = (a, cc)

-- The first event has its shape, and those after it theirs.
first_shaped : (s : Names) (e : Raw) (r : List Raw) (v : Ev) (vs : List Ev) → resolved_event s e ≡ Some v → Shaped r vs → Shaped (e ∷ r) (v ∷ vs)
first_shaped s (Raw.document_start ds) r v vs h k = (vs, grind arith, k)
first_shaped s (Raw.alias name) r v vs h k = let x = valued Ev.alias _ v vs h in (x.0, vs, x.1, k)
first_shaped s (Raw.scalar y z a t) r v vs h k = let x = valued (Ev.scalar y z (number s a)) _ v vs h in (number s a, x.0, vs, x.1, k)
first_shaped s (Raw.empty_scalar a t) r v vs h k =
    let x = valued (Ev.scalar [] Style.plain (number s a)) _ v vs h in (number s a, x.0, vs, x.1, k)
first_shaped s (Raw.flow_sequence_start a t) r v vs h k =
    let x = valued (Ev.sequence_start (number s a)) _ v vs h in (number s a, x.0, vs, x.1, k)
first_shaped s (Raw.sequence_start a t) r v vs h k =
    let x = valued (Ev.sequence_start (number s a)) _ v vs h in (number s a, x.0, vs, x.1, k)
first_shaped s (Raw.indentless_sequence_start a t) r v vs h k =
    let x = valued (Ev.sequence_start (number s a)) _ v vs h in (number s a, x.0, vs, x.1, k)
first_shaped s (Raw.flow_mapping_start a t) r v vs h k =
    let x = valued (Ev.mapping_start (number s a)) _ v vs h in (number s a, x.0, vs, x.1, k)
first_shaped s (Raw.mapping_start a t) r v vs h k = let x = valued (Ev.mapping_start (number s a)) _ v vs h in (number s a, x.0, vs, x.1, k)
first_shaped s e r v vs h k = (vs, cc, k)

pub named_shaped : (k : Bool) (s : Names) (raws : List Raw) (es : List Ev) → named k s raws ≡ Some es → Shaped raws es
named_shaped k s [] es h = cc
named_shaped k s (e ∷ r) es h =
    let f = both_some (resolved_event s e) (named k (names_after k s e) r) es h in
    rw f.whole (first_shaped s e r f.event f.more f.is_first (named_shaped k (names_after k s e) r f.more f.are_more))
