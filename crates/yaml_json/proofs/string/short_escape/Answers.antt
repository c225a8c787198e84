use Rattle.yaml_json.proofs.ReadCommon.{backspace, form_feed, new_line, quotation_mark, refl, return, reverse_solidus, solidus, sym, tabulator}
use Rattle.yaml_json.proofs.string.short_escape.Goals as goal

pub returns-in-34 : goal.returns-in-34
returns-in-34 c = record { short = quotation_mark; letter_is = sym c.in-34.is; character_is = refl }

pub returns-in-92 : goal.returns-in-92
returns-in-92 c = record { short = reverse_solidus; letter_is = sym c.in-92.is; character_is = refl }

pub returns-in-47 : goal.returns-in-47
returns-in-47 c = record { short = solidus; letter_is = sym c.in-47.is; character_is = refl }

pub returns-in-98 : goal.returns-in-98
returns-in-98 c = record { short = backspace; letter_is = sym c.in-98.is; character_is = refl }

pub returns-in-102 : goal.returns-in-102
returns-in-102 c = record { short = form_feed; letter_is = sym c.in-102.is; character_is = refl }

pub returns-in-110 : goal.returns-in-110
returns-in-110 c = record { short = new_line; letter_is = sym c.in-110.is; character_is = refl }

pub returns-in-114 : goal.returns-in-114
returns-in-114 c = record { short = return; letter_is = sym c.in-114.is; character_is = refl }

pub returns-in-116 : goal.returns-in-116
returns-in-116 c = record { short = tabulator; letter_is = sym c.in-116.is; character_is = refl }
