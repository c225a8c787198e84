-- The characters by which layouts and JSON texts are written, by name. YAML 1.2, section 5.3 (indicators).
use Rattle.std.specs.Prelude.{ℕ}

-- LF
abbrev pub line_feed : ℕ
line_feed = 10

-- CR
abbrev pub carriage_return : ℕ
carriage_return = 13

-- TAB
abbrev pub tab : ℕ
tab = 9

-- U+0020
abbrev pub space : ℕ
space = 32

-- `"`
abbrev pub double_quote : ℕ
double_quote = 34

-- `#`
abbrev pub number_sign : ℕ
number_sign = 35

-- `&`
abbrev pub ampersand : ℕ
ampersand = 38

-- `'`
abbrev pub single_quote : ℕ
single_quote = 39

-- `*`
abbrev pub asterisk : ℕ
asterisk = 42

-- `+`
abbrev pub plus_sign : ℕ
plus_sign = 43

-- `,`
abbrev pub comma : ℕ
comma = 44

-- `-`
abbrev pub dash : ℕ
dash = 45

-- `.`
abbrev pub point : ℕ
point = 46

-- `0`
abbrev pub digit_zero : ℕ
digit_zero = 48

-- `:`
abbrev pub colon : ℕ
colon = 58

-- `?`
abbrev pub question_mark : ℕ
question_mark = 63

-- `[`
abbrev pub left_bracket : ℕ
left_bracket = 91

-- `\`
abbrev pub backslash : ℕ
backslash = 92

-- `]`
abbrev pub right_bracket : ℕ
right_bracket = 93

-- `u`
abbrev pub letter_u : ℕ
letter_u = 117

-- `{`
abbrev pub left_brace : ℕ
left_brace = 123

-- `}`
abbrev pub right_brace : ℕ
right_brace = 125
