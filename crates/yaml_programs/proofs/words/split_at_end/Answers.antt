use Rattle.yaml_programs.proofs.Common.{ap, arith, drop, drop_all, ends_options, length, length-drop, map, string_bytes, sym, take, take_all, ◌+◌, ◌-◌, ◌∙◌}
use Rattle.yaml_programs.proofs.Places.{placed, before-map, after-map}
use Rattle.yaml_programs.proofs.words.split_at_end.Goals as goal

pub returns-in-Some-clause-before : goal.returns-in-Some-clause-before
returns-in-Some-clause-before c =
    let at = placed (λ s. ends_options (string_bytes s)) c.args.args.now _ c.in-Some.ensures in
    sym (before-map string_bytes ends_options c.args.args.now ∙ ap (λ n. map string_bytes (take n c.args.args.now)) at.0)

pub returns-in-Some-clause-behind : goal.returns-in-Some-clause-behind
returns-in-Some-clause-behind c =
    let at = placed (λ s. ends_options (string_bytes s)) c.args.args.now _ c.in-Some.ensures in
    ap (map string_bytes) (take_all (length c.args.args.now - (c.in-Some.place + 1)) (drop (c.in-Some.place + 1) c.args.args.now) (rw length-drop (omega arith)))
    ∙ sym (after-map string_bytes ends_options c.args.args.now ∙ ap (λ n. map string_bytes (drop (n + 1) c.args.args.now)) at.0)

pub returns-in-None-clause-before : goal.returns-in-None-clause-before
returns-in-None-clause-before c =
    let at = placed (λ s. ends_options (string_bytes s)) c.args.args.now _ c.in-None.ensures in
    sym (before-map string_bytes ends_options c.args.args.now ∙ ap (map string_bytes) (take_all _ c.args.args.now at))

pub returns-in-None-clause-behind : goal.returns-in-None-clause-behind
returns-in-None-clause-behind c =
    let at = placed (λ s. ends_options (string_bytes s)) c.args.args.now _ c.in-None.ensures in
    sym (after-map string_bytes ends_options c.args.args.now ∙ ap (map string_bytes) (drop_all _ c.args.args.now (omega arith)))
