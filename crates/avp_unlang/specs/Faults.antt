-- Where the tokens of a policy text begin.
use Rattle.std.specs.Prelude.{◌≡◌, ℕ, zero, suc, ◌+◌, false, List, length}
use Rattle.avp_forms.specs.Profiles.{profile_of}
use Rattle.avp_forms.specs.declared.profiles.Profile.{Profile}
use Rattle.avp_unlang.specs.Tokens.{skipped, token_in}

-- a text from its first token on: without the blanks and comments before it
abbrev pub from_token : List ℕ → List ℕ
from_token text = (skipped 1 false text).1

-- a text of a profile from the token on that so many tokens are before
abbrev pub from_token_after : Profile → ℕ → List ℕ → List ℕ
from_token_after profile zero text = from_token text
from_token_after profile (suc n) text =
    from_token (token_in profile (from_token_after profile n text)).1

-- one of the tokens begins after so many octets of the text; its end is the last
abbrev pub BeginsToken : ℕ → List ℕ → Type 0
BeginsToken offset text =
    (n : ℕ) × (offset + length (from_token_after (profile_of text) n text) ≡ length text)
