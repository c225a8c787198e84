use Rattle.yaml_programs.proofs.Common.{ap, asked, at_drop_more, drop, left, map, reads, row, setting_view, string_bytes, sym, text_view, ◌+◌, ◌∙◌, ◌∷◌, ◌≡◌}
use Rattle.yaml_programs.proofs.Asks.{stops_before_end, read_stops}
use Rattle.yaml_programs.proofs.words.Words.read.Goals as goal

pub returns-in_err-take : goal.returns-in_err-take
returns-in_err-take c =
    let words = c.split_at_end.result.0.now in
    let args = map string_bytes c.args.args.now in
    let more = map string_bytes (drop (c.words.word-index + 1) words) in
    let here : map string_bytes (drop c.words.word-index words) ≡ (c.as_str.result.now ∷ more) =
    at_drop_more (map string_bytes) words c.words.word-index c.word-item.result c.words-test.true
    ∙ ap (λ t. t ∷ more) (ap string_bytes (sym c.word-item.is) ∙ sym c.as_str.ensures.value) in
    read_stops (λ w. asked (map row c.args.options.now) args ≡ reads (map setting_view w.settings.items) (map text_view w.files.items))
    (asked (map row c.args.options.now) args) c.from_residual.result c.in_err-take.field-0.0 c.from_residual.ensures.1
    (stops_before_end (map row c.args.options.now) args (map string_bytes words) (left c.words.read (map row c.args.options.now) (c.as_str.result.now ∷ more)) c.in_err-take.field-0.0
    c.split_at_end.ensures.before (ap (left c.words.read (map row c.args.options.now)) (sym here) ∙ c.words.invariant) (c.in_err-take.ensures more))
