use Rattle.std.proofs.lemmas.List.{take_rest}
use Rattle.yaml_encoding.proofs.Common.{refl, rules}
use Rattle.yaml_encoding.proofs.ValidLemmas.{passes_text}
use Rattle.yaml_encoding.proofs.ReadLemmas.{takes, passes_character, passes_malformation, passes_stop}
use Rattle.yaml_encoding.proofs.text.read_some.Goals as goal

pub trapped-requires : goal.trapped-requires
trapped-requires g c = (takes _ _ _ _ _ (take_rest c.args.input.now c.args.position) c.requires c.sequence-sequence.ensures).1

pub returns-in-Ok : goal.returns-in-Ok
returns-in-Ok g c =
    passes_malformation _ _ _ _ _ _ _ (take_rest c.args.input.now c.args.position) c.requires c.sequence-sequence.ensures _ _
    (search rules) c.in-Ok.ensures (search rules)

pub returns-in-Err : goal.returns-in-Err
returns-in-Err g c =
    passes_stop _ _ _ _ _ _ _ (take_rest c.args.input.now c.args.position) c.requires c.sequence-sequence.ensures _
    (search rules) c.in-Err.ensures

pub returns : goal.returns
returns g c =
    passes_character _ _ _ _ _ _ _ (take_rest c.args.input.now c.args.position) c.requires c.sequence-sequence.ensures _ c.in-Some.c _
    (search rules) c.in_ok-push.ensures (search rules)

pub returns-then-input-position-lt128 : goal.returns-then-input-position-lt128
returns-then-input-position-lt128 g c =
    let ahead = c.text_ahead-valid.ensures in
    passes_text _ _ _ _ _ _ _ _ _ (c.is_utf_8.ensures (search rules)) (take_rest c.args.input.now c.args.position) c.requires ahead.some
    ahead.there ahead.value (search rules) c.in_ok-push_text.ensures refl
