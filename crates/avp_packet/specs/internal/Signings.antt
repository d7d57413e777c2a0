-- What a packet's Message-Authenticators say of it.
use Rattle.std.specs.Prelude.{Bool, true, false}
use Rattle.avp_packet.specs.declared.signing.Signing.{Signing}
use Rattle.avp_packet.specs.declared.signing.Signing.TheVariants.{Unsigned, Right, Wrong}

abbrev pub is_right : Signing → Bool
is_right Right = true
is_right _ = false

abbrev pub is_wrong : Signing → Bool
is_wrong Wrong = true
is_wrong _ = false

-- there is a Message-Authenticator
abbrev pub has_some : Signing → Bool
has_some Unsigned = false
has_some _ = true
