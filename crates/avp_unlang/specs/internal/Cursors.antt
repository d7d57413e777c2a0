-- What a cursor keeps beside its place.
use Rattle.std.specs.Prelude.{◌≡◌, ◌≢◌, ◌≤◌, ◌<◌, ◌+◌, ◌^◌, ℕ, false, List, length}
use Rattle.avp_forms.specs.declared.profiles.Profile.{Profile}
use Rattle.avp_unlang.specs.Tokens.{skipped, token_in}
use Rattle.avp_unlang.specs.declared.text.tokens.Token.{Token}
use Rattle.avp_unlang.specs.declared.text.tokens.Token.TheVariants.{End}

-- the next token of a text that begins on this line, with the token's line, how many octets are left from there on, and
-- the text after it
pub record IsAhead (profile : Profile) (text : List ℕ) (line : ℕ) (token : Token)
    (token_line : ℕ) (left : ℕ) (rest : List ℕ) : Type 0 where
  pub found : (token, rest) ≡ token_in profile (skipped line false text).1
  pub on : token_line ≡ (skipped line false text).0
  pub from : left ≡ length (skipped line false text).1
  pub counted : token_line + length rest < 2 ^ 64
  pub within : length rest ≤ length text
  pub shorter : token ≢ End → length rest < length text
