use Rattle.yaml_loader.proofs.Common.{LoadsText, parsed, ◌∙◌}
use Rattle.yaml_loader.proofs.TextLemmas.{begins_given, of_texts}
use Rattle.yaml_loader.proofs.load.load_known.Goals as goal

pub returns-clause-reads : goal.returns-clause-reads
returns-clause-reads g c =
    let e = c.new-known.ensures in
    let p = c.load_from_parser.ensures in
    let old = parsed c.new-known.result in
    let new = parsed c.load_from_parser.new.parser in
    begins_given g.S.Characters.next_gives c.args.source c.load_from_parser.new.parser.start new.scanner (p.start ∙ e.start) p.came p.no_nul
    (λ text may. of_texts old new text (λ keep a. LoadsText keep a c.load_from_parser.result)
    (record { given = e.given; fault = e.fault; started = e.started; ended = e.ended; steady = e.steady }) e.keep_tags may p.reads)
