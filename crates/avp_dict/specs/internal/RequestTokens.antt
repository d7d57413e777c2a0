-- What the code's tokens stand for.
use Rattle.std.specs.Prelude.{ℕ, Bool, true, false, not, ◌||◌, ◌==◌, List, [], ◌∷◌}
use Rattle.avp_dict.specs.Ascii.{double_quote, single_quote}
use Rattle.avp_dict.specs.declared.request.tokens.Side.{Side}
use Rattle.avp_dict.specs.declared.request.tokens.Side.TheVariants.{Name, Value}
use Rattle.avp_dict.specs.declared.request.tokens.Token.{Token as CodeToken}
use Rattle.avp_dict.specs.declared.request.tokens.Token.TheVariants as code
use Rattle.avp_dict.specs.Letters.{is_comma}
use Rattle.avp_dict.specs.RequestLines.{Token, Comma, Sign, Run, Quoted, Unended, is_sign}
use Rattle.avp_dict.specs.Words.{is_blank, is_hash}

-- a token without where it lies in memory
abbrev pub token_view : CodeToken → Token
token_view code.Comma = Comma
token_view code.Sign = Sign
token_view (code.Run octets) = Run octets.now
token_view (code.Quoted mark text) = Quoted mark text.now
token_view code.Unended = Unended

-- the side on which the next token is
abbrev pub side_after : Side → CodeToken → Side
side_after side code.Comma = Name
side_after side (code.Run octets) = side
side_after side _ = Value

abbrev pub begins_blank : List ℕ → Bool
begins_blank [] = false
begins_blank (o ∷ os) = is_blank o

-- what ends a run
abbrev pub ends_run : Side → ℕ → Bool
ends_run side o = is_hash o || is_blank o || is_comma o || o == double_quote || o == single_quote
    || is_sign side o

abbrev pub begins_run : Side → List ℕ → Bool
begins_run side [] = false
begins_run side (o ∷ os) = not (ends_run side o)

-- all but a quote that nothing ends
abbrev pub is_ended : Token → Bool
is_ended Unended = false
is_ended token = true
