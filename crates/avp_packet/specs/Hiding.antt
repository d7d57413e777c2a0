-- How a password is hidden in blocks of 16 octets, and how hidden octets are shown (RFC 2865, section 5.2).
use Rattle.std.specs.Prelude.{ℕ, zero, suc, ◌+◌, ◌-◌, ◌*◌, ◌/◌, bit_xor, if◌then◌else◌, List, [], ◌∷◌, ◌++◌, length, take, drop, replicate, Option, Some, None}
use Rattle.std.specs.List.{list_all}
use Rattle.md5.specs.Md5.{md5}
use Rattle.avp_dict.specs.Octets.{is_nul}
use Rattle.avp_dict.specs.Sent.{is_block_length}

-- each octet exclusive-or the mask's octet
abbrev pub masked : List ℕ → List ℕ → List ℕ
masked (m ∷ mask) (o ∷ os) = bit_xor m o ∷ masked mask os
masked _ _ = []

-- a password's blocks: at least one
abbrev pub block_count : ℕ → ℕ
block_count length = 1 + (length - 1) / 16

-- a password, with NULs up to whole blocks
abbrev pub padded : List ℕ → List ℕ
padded password = password ++ replicate (16 * block_count (length password) - length password) 0

-- so many blocks hidden: each by the digest of the secret and the hidden block before it
unfoldable pub hidden_blocks : ℕ → List ℕ → List ℕ → List ℕ → List ℕ
hidden_blocks zero secret before os = []
hidden_blocks (suc n) secret before os =
    let block = masked (md5 (secret ++ before)) (take 16 os) in
    block ++ hidden_blocks n secret block (drop 16 os)

-- a password hidden; before the first block comes the authenticator
unfoldable pub hidden : List ℕ → List ℕ → List ℕ → List ℕ
hidden secret authenticator password =
    hidden_blocks (block_count (length password)) secret authenticator (padded password)

-- so many hidden blocks, shown
unfoldable pub shown_blocks : ℕ → List ℕ → List ℕ → List ℕ → List ℕ
shown_blocks zero secret before os = []
shown_blocks (suc n) secret before os =
    masked (md5 (secret ++ before)) (take 16 os)
    ++ shown_blocks n secret (take 16 os) (drop 16 os)

-- octets without the NULs at their end
unfoldable pub without_last_nuls : List ℕ → List ℕ
without_last_nuls [] = []
without_last_nuls (o ∷ os) = if list_all is_nul (o ∷ os) then [] else (o ∷ without_last_nuls os)

-- hidden octets shown; none where their number is not 16, 32, .. 128
unfoldable pub shown : List ℕ → List ℕ → List ℕ → Option (List ℕ)
shown secret authenticator os =
    if is_block_length (length os)
    then Some (without_last_nuls (shown_blocks (length os / 16) secret authenticator os))
    else None

-- hidden octets shown by a secret, which has octets (RFC 2865, section 3): without one, none are
abbrev pub shown_by : List ℕ → List ℕ → List ℕ → Option (List ℕ)
shown_by [] authenticator os = None
shown_by (s ∷ secret) authenticator os = shown (s ∷ secret) authenticator os
