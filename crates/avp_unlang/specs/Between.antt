-- What is read between the values of a policy text: a token, or a count of the policy's size.
use Rattle.std.specs.Prelude.{◌≡◌, ℕ, Some}
use Rattle.avp_unlang.specs.Forms.{Step}
use Rattle.avp_unlang.specs.Places.{Place, counted}
use Rattle.avp_unlang.specs.Tokens.{next_token}
use Rattle.avp_unlang.specs.declared.text.tokens.Token.{Token}

-- this token comes next
abbrev pub Follows : Token → Step Place
Follows token p rest = next_token p ≡ (token, rest)

-- so much is added to the size, which has room for it
abbrev pub Counts : ℕ → Step Place
Counts n p rest = counted n p ≡ Some rest
