-- Where the tokens of a text begin, by what is left of the text.
use Rattle.std.specs.Prelude.{◌≡◌, ℕ, List, length}
use Rattle.avp_forms.specs.declared.profiles.Profile.{Profile}
use Rattle.avp_unlang.specs.Faults.{from_token_after}

-- so many octets are left from one of the tokens on, or at the end
abbrev pub LeavesToken : Profile → ℕ → List ℕ → Type 0
LeavesToken profile left text =
    (n : ℕ) × (left ≡ length (from_token_after profile n text))
