-- The class of a character.
use Rattle.std.specs.Prelude.{ℕ, cond, ◌==◌}
use Rattle.model_scanner.specs.declared.class.Class.{Class}
use Rattle.model_scanner.specs.declared.class.Class.TheVariants.{Nul, Space, Tab, LineFeed, CarriageReturn, Hash, Dash, Question, Colon, Comma, OpenBracket, CloseBracket, OpenBrace, CloseBrace, Asterisk, Ampersand, Exclamation, Bar, Greater, SingleQuote, DoubleQuote, Percent, AtSign, Backtick, Other}

unfoldable pub class_of : ℕ → Class
class_of c =
    cond (c == 0) Nul
    (cond (c == 32) Space
    (cond (c == 9) Tab
    (cond (c == 10) LineFeed
    (cond (c == 13) CarriageReturn
    (cond (c == 35) Hash
    (cond (c == 45) Dash
    (cond (c == 63) Question
    (cond (c == 58) Colon
    (cond (c == 44) Comma
    (cond (c == 91) OpenBracket
    (cond (c == 93) CloseBracket
    (cond (c == 123) OpenBrace
    (cond (c == 125) CloseBrace
    (cond (c == 42) Asterisk
    (cond (c == 38) Ampersand
    (cond (c == 33) Exclamation
    (cond (c == 124) Bar
    (cond (c == 62) Greater
    (cond (c == 39) SingleQuote
    (cond (c == 34) DoubleQuote
    (cond (c == 37) Percent
    (cond (c == 64) AtSign
    (cond (c == 96) Backtick Other)))))))))))))))))))))))
