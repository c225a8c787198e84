use Rattle.yaml_loader.proofs.Common.{chars, rules, up_to_nul}
use Rattle.yaml_loader.proofs.TextLemmas.{answers, of_row, of_whole}
use Rattle.yaml_loader.proofs.loader.YamlLoader.load_from_str.Goals as goal

pub returns : goal.returns
returns c =
    let text = chars c.args.source.now in
    let reads = c.load_text.ensures.reads in
    let row = of_row (up_to_nul text) c.load_text.result reads in
    let whole = of_whole text c.load_text.result reads in
    let before_nul = answers (up_to_nul text) c.load_text.result reads in
    search rules
