use Rattle.std.proofs.Common.{◌≡◌, ℕ, true, nat_le, length, refl, arith}
use Rattle.std.proofs.lemmas.Grind.{common_steps}
use Rattle.std.proofs.lemmas.List.{drop-replicate}
use Rattle.avp_packet.proofs.hmac.key_block.Goals as goal

pub returns-then-key-le-MD5_BLOCK_OCTETS : goal.returns-then-key-le-MD5_BLOCK_OCTETS
returns-then-key-le-MD5_BLOCK_OCTETS c =
    let key = c.args.key.now in
    let short : nat_le (length key) 64 ≡ true = grind (arith, common_steps) in
    rw (short, c.copy_from_slice.ensures.after, drop-replicate {X = ℕ} (length key) 64 0) refl
