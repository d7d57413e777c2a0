-- The clients of a server, and which of them an address is of.
use Rattle.std.specs.Prelude.{◌≡◌, ℕ, ◌<◌, ◌≤◌, Bool, true, false, nat_lt, if◌then◌else◌, List, [], ◌∷◌, ◌++◌, Option, None, Some, All}
use Rattle.std.specs.Option.{option_map}
use Rattle.std.specs.declared.net.ip_addr.IpAddr.{IpAddr}
use Rattle.radpolicy_clients.specs.Addresses.{begins_as}

-- the addresses that begin as this one does, and the secret that is shared with them
pub record Client : Type 0 where
  pub address : IpAddr
  pub prefix_length : ℕ
  pub secret : List ℕ

-- the address is one of the client's
abbrev pub holds : IpAddr → Client → Bool
holds address client = begins_as client.prefix_length client.address address

-- ---- the client of an address

-- a client that comes before another is meant unless that has a longer prefix
abbrev pub before : Client → Option Client → Client
before client None = client
before client (Some other) =
    if nat_lt client.prefix_length other.prefix_length then other else client

-- of the clients that hold an address the one with the longest prefix, and of equally long ones the first
abbrev pub client_for : List Client → IpAddr → Option Client
client_for [] address = None
client_for (client ∷ clients) address =
    if holds address client then Some (before client (client_for clients address))
    else client_for clients address

abbrev pub secret_for : List Client → IpAddr → Option (List ℕ)
secret_for clients address = option_map (λ client. client.secret) (client_for clients address)

-- ---- the same as a relation

abbrev pub IsOther : IpAddr → Client → Type 0
IsOther address client = holds address client ≡ false

-- if the client holds the address, its prefix is shorter than this
abbrev pub IsShorter : IpAddr → ℕ → Client → Type 0
IsShorter address count client = holds address client ≡ true → client.prefix_length < count

-- if the client holds the address, its prefix is no longer than this
abbrev pub IsNoLonger : IpAddr → ℕ → Client → Type 0
IsNoLonger address count client = holds address client ≡ true → client.prefix_length ≤ count

-- this client holds the address, those before it that do have shorter prefixes, and those after it no longer ones
pub record IsMeant (clients : List Client) (address : IpAddr) (client : Client) : Type 0 where
  pub earlier : List Client
  pub later : List Client
  pub place : clients ≡ earlier ++ client ∷ later
  pub holds_it : holds address client ≡ true
  pub shorter : All (IsShorter address client.prefix_length) earlier
  pub no_longer : All (IsNoLonger address client.prefix_length) later
