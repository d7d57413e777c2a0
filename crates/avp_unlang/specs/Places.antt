-- How far a policy text has been read.
use Rattle.avp_forms.specs.Profiles.{profile_of}
use Rattle.avp_forms.specs.declared.profiles.Profile.{Profile}
use Rattle.std.specs.Prelude.{ℕ, ◌-◌, nat_le, if◌then◌else◌, List, Option, Some, None}

-- the octets still to be read, the line that they begin on, how much may still be added to the policy's size, and the
-- profile of the text, by which its tokens are read
pub record Place : Type 0 where
  pub text : List ℕ
  pub line : ℕ
  pub room : ℕ
  pub profile : Profile

-- the greatest size of a policy
abbrev pub max_size : ℕ
max_size = 65535

-- the beginning of a text
abbrev pub start_of : List ℕ → Place
start_of text =
    record { text = text; line = 1; room = max_size; profile = profile_of text }

-- the same place after so much is added to the size
unfoldable pub counted : ℕ → Place → Option Place
counted n p = if nat_le n p.room then Some (record p { room = p.room - n }) else None
