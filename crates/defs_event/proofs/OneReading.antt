-- By any table, tokens are read in one way only; so a stream has one list of events.
use Rattle.defs_event.proofs.Common.{[], ap, before, Bool, by_leaving, by_taking, Derives, Ev, grammar, IsStream, List, named, no_names, nothing_left, refl, saying, says, Table, Tok, TokensAreReadInOneWay, whole_stream, Work, ◌∷◌, ◌≡◌}
use Rattle.defs_event.specs.Table.{reading}

pub one_reading : {G T E H : Type 0} (a : Table G T E H) (w : List (Work G E H)) (ts : List T) (es fs : List E) → Derives a w ts es → Derives a w ts fs → es ≡ fs
one_reading a [] [] _ _ nothing_left nothing_left = refl
one_reading a [] (t ∷ ts) es fs d c = elim d [ ]
one_reading a (reading g h ∷ w) [] es fs d c = elim d [ ]
one_reading a (saying e ∷ w) ts _ _ (says {es = es} d) (says {es = fs} c) = ap (λ l. e ∷ l) (one_reading a w ts es fs d c)
one_reading a (reading g h ∷ w) (t ∷ ts) es fs (by_taking ps p d) (by_taking qs q c) =
    let same : qs ≡ ps = cc in one_reading a (before a h t ps w) ts es fs d (rw same at c)
one_reading a (reading g h ∷ w) (t ∷ ts) es fs (by_taking ps p d) (by_leaving qs q c) = cc
one_reading a (reading g h ∷ w) (t ∷ ts) es fs (by_leaving ps p d) (by_taking qs q c) = cc
one_reading a (reading g h ∷ w) (t ∷ ts) es fs (by_leaving ps p d) (by_leaving qs q c) =
    let same : qs ≡ ps = cc in one_reading a (before a h t ps w) (t ∷ ts) es fs d (rw same at c)

pub read_in_one_way : TokensAreReadInOneWay
read_in_one_way tokens raws others x y = one_reading grammar whole_stream tokens raws others x y

pub one_list : (keep_tags : Bool) (tokens : List Tok) (es fs : List Ev) → IsStream keep_tags tokens es → IsStream keep_tags tokens fs → es ≡ fs
one_list keep_tags tokens es fs x y =
    let same = read_in_one_way tokens x.raws y.raws x.says y.says in
    cc (x.has_events, y.has_events, ap (named keep_tags no_names) same)
