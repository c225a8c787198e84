use Rattle.std.proofs.Common.{chars, codes, map, take, drop, sym, encode_utf8_all, ◌∙◌, ◌++◌, ap, rules}
use Rattle.std.proofs.lemmas.Grind.{put_six}
use Rattle.std.proofs.lemmas.List.{take-append-drop}
use Rattle.yaml_tokens.specs.Excerpt.{blank, shown_line}
use Rattle.yaml_tokens.proofs.ShownLemmas.{parts}
use Rattle.yaml_tokens.proofs.excerpt.ExcerptDisplay.fmt.Goals as goal

pub returns-clause-writes : goal.returns-clause-writes
returns-clause-writes g c =
    λ plain ok.
    let e = c.args.self.now in
    let line = chars e.line.now in
    let one = c.write_str.ensures.writes plain (search rules) in
    let two = c.write_line.ensures one.plain (search rules) in
    let three = c.write_str-2.ensures.writes two.plain (search rules) in
    let four = c.write_str-3.ensures.writes three.plain (search rules) in
    let five = c.write_blanks.ensures four.plain (search rules) in
    let six = c.write_str-4.ensures.writes five.plain ok in
    put_six _ _ _ _ _ _ _ _ _ _ _ _ _ _ _ one two three four five six (ap (λ x. c.mark.result.now ++ (encode_utf8_all (shown_line 80 x) ++ (codes "\n" ++ (c.below_mark.result.now ++ (encode_utf8_all (map blank (take e.column line)) ++ codes "^"))))) (sym (take-append-drop e.column line)) ∙ parts e.is_cut (take e.column line) (drop e.column line) _ _ c.mark.ensures c.below_mark.ensures)
