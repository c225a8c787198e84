use Rattle.std.proofs.Common.{sym, ◌∙◌}
use Rattle.std.proofs.lemmas.Str.{Chars-gives, encodes-chars}
use Rattle.std.specs.Str.{chars}
use Rattle.uses.proofs.agreement.load_by_characters.Goals as goal

pub returns-clause-of_row : goal.returns-clause-of_row
returns-clause-of_row c = c.load_from_iter.ensures.of_row (chars c.args.text.now) (Chars-gives (chars c.args.text.now) c.chars.result (encodes-chars c.args.text.now c.utf8.text ∙ sym c.chars.ensures.rest))

pub returns-clause-reads : goal.returns-clause-reads
returns-clause-reads c = c.load_from_iter.ensures.reads (chars c.args.text.now) (Chars-gives (chars c.args.text.now) c.chars.result (encodes-chars c.args.text.now c.utf8.text ∙ sym c.chars.ensures.rest))
