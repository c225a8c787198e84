use Rattle.yaml_loader.proofs.Common.{false, IsAtStart, LoadsText, OfGiven, parsed, up_to_nul, ◌∙◌}
use Rattle.yaml_loader.proofs.TextLemmas.{given_may_be, begins_given, answers, of_texts, of_row, of_whole}
use Rattle.yaml_loader.proofs.loader.YamlLoader.load_from_iter.Goals as goal

pub returns : goal.returns
returns g c =
    let e = c.new-parser.ensures in
    let p = c.load_from_parser.ensures in
    let result = c.load_from_parser.result in
    let old = parsed c.new-parser.result in
    let parser = c.load_from_parser.new.parser in
    let new = parsed parser in
    let at_start : IsAtStart old = record { given = e.given; fault = e.fault; started = e.started; ended = e.ended; steady = e.steady } in
    let may = given_may_be g.I.Iterator.next_gives c.args.source parser.start new.scanner (p.start ∙ e.start) p.came p.no_nul in
    let reads : OfGiven g.I.Iterator.next_gives c.args.source (λ text. LoadsText false (up_to_nul text) result) =
    λ text always. of_texts old new (up_to_nul text) (λ keep a. LoadsText keep a result) at_start e.keep_tags (may text always) p.reads in
    record {
      given = begins_given g.I.Iterator.next_gives c.args.source parser.start new.scanner (p.start ∙ e.start) p.came p.no_nul
          (λ text may. answers text result (of_texts old new text (λ keep a. LoadsText keep a result) at_start e.keep_tags may p.reads));
      reads = reads;
      of_row = λ text always. of_row (up_to_nul text) result (reads text always);
      no_alias = p.no_alias;
      meant = λ text always. (answers (up_to_nul text) result (reads text always)).meant;
      json = λ text always. (of_whole text result (reads text always)).0;
      basic = λ text always. (of_whole text result (reads text always)).1;
      laid_out = λ text always. (of_whole text result (reads text always)).2;
      quoted = λ text always. (of_whole text result (reads text always)).3;
    }
