use Rattle.std.proofs.Common.{◌≡◌, ◌≤◌, ◌<◌, ◌+◌, List, ℕ, Option, Some, None, length, arith}
use Rattle.std.specs.Prelude.{IfSome, IfNone}
use Rattle.avp_lists.specs.declared.pairs.Pair.{Pair}
use Rattle.avp_packet.specs.AttributeOctets.{attribute_octets}
use Rattle.avp_packet.specs.Packets.{zeros}
use Rattle.avp_packet.specs.Sending.{without_signatures}
use Rattle.avp_packet.specs.internal.Filling.{divided_octets, signature_if}
use Rattle.avp_packet.proofs.Lengths.{divided_size}
use Rattle.avp_packet.proofs.encoding.lengths.room_left.Goals as goal

no_room : (o : Option ℕ) (P : Type 0) → P → IfNone o P
no_room None P h = h
no_room (Some n) P h = tt

-- what the last list leaves, or not
last_some : (o : Option ℕ) (room size all : ℕ) → IfSome o (λ rest. room ≡ rest + size) → 4076 + size ≡ room + all → IfSome o (λ rest. all ≤ 4076)
last_some None room size all h e = tt
last_some (Some rest) room size all h e = omega (arith, h, e)

last_none : (o : Option ℕ) (room size all : ℕ) → IfNone o (room < size) → 4076 + size ≡ room + all → IfNone o (4076 < all)
last_none None room size all h e = omega (arith, h, e)
last_none (Some rest) room size all h e = tt

pub returns-in_err-room-clause-none : goal.returns-in_err-room-clause-none
returns-in_err-room-clause-none c =
    let size = λ (pairs : List Pair). length (attribute_octets c.args.keys.now.dictionary.now c.args.keys.now.secret.now c.args.keys.now.authenticator.now pairs) in
    let all = divided_size c.args.keys.now.dictionary.now c.args.keys.now.secret.now c.args.keys.now.authenticator.now c.args.division.now c.args.proxy_states.now zeros in
    let none : 4076 < size c.args.division.now.before.now = c.in_err-room.ensures.none in
    no_room c.from_residual.result _ (omega (arith, all, none))

pub returns-in_err-room-2-clause-none : goal.returns-in_err-room-2-clause-none
returns-in_err-room-2-clause-none c =
    let size = λ (pairs : List Pair). length (attribute_octets c.args.keys.now.dictionary.now c.args.keys.now.secret.now c.args.keys.now.authenticator.now pairs) in
    let all = divided_size c.args.keys.now.dictionary.now c.args.keys.now.secret.now c.args.keys.now.authenticator.now c.args.division.now c.args.proxy_states.now zeros in
    let first : 4076 ≡ c.in_ok-room.room + size c.args.division.now.before.now = c.in_ok-room.ensures.some in
    let none : c.in_ok-room.room < length (signature_if c.args.division.now.signed zeros) = c.in_err-room-2.ensures.none in
    no_room c.from_residual-in_err-room-2.result _ (omega (arith, all, first, none))

pub returns-in_err-room-3-clause-none : goal.returns-in_err-room-3-clause-none
returns-in_err-room-3-clause-none c =
    let size = λ (pairs : List Pair). length (attribute_octets c.args.keys.now.dictionary.now c.args.keys.now.secret.now c.args.keys.now.authenticator.now pairs) in
    let all = divided_size c.args.keys.now.dictionary.now c.args.keys.now.secret.now c.args.keys.now.authenticator.now c.args.division.now c.args.proxy_states.now zeros in
    let first : 4076 ≡ c.in_ok-room.room + size c.args.division.now.before.now = c.in_ok-room.ensures.some in
    let second : c.in_ok-room.room ≡ c.in_ok-room-2.room + length (signature_if c.args.division.now.signed zeros) = c.in_ok-room-2.ensures.some in
    let none : c.in_ok-room-2.room < size (without_signatures c.args.division.now.after.now) = c.in_err-room-3.ensures.none in
    no_room c.from_residual-in_err-room-3.result _ (omega (arith, all, first, second, none))

pub returns-clause-some : goal.returns-clause-some
returns-clause-some c =
    let size = λ (pairs : List Pair). length (attribute_octets c.args.keys.now.dictionary.now c.args.keys.now.secret.now c.args.keys.now.authenticator.now pairs) in
    let laid : List ℕ = divided_octets c.args.keys.now.dictionary.now c.args.keys.now.secret.now c.args.keys.now.authenticator.now c.args.division.now c.args.proxy_states.now zeros in
    let all = divided_size c.args.keys.now.dictionary.now c.args.keys.now.secret.now c.args.keys.now.authenticator.now c.args.division.now c.args.proxy_states.now zeros in
    let first : 4076 ≡ c.in_ok-room.room + size c.args.division.now.before.now = c.in_ok-room.ensures.some in
    let second : c.in_ok-room.room ≡ c.in_ok-room-2.room + length (signature_if c.args.division.now.signed zeros) = c.in_ok-room-2.ensures.some in
    let third : c.in_ok-room-2.room ≡ c.in_ok-room-3.room + size (without_signatures c.args.division.now.after.now) = c.in_ok-room-3.ensures.some in
    last_some c.room_after-3.result c.in_ok-room-3.room (size c.args.proxy_states.now) (length laid) c.room_after-3.ensures.some (omega (arith, all, first, second, third))

pub returns-clause-none : goal.returns-clause-none
returns-clause-none c =
    let size = λ (pairs : List Pair). length (attribute_octets c.args.keys.now.dictionary.now c.args.keys.now.secret.now c.args.keys.now.authenticator.now pairs) in
    let laid : List ℕ = divided_octets c.args.keys.now.dictionary.now c.args.keys.now.secret.now c.args.keys.now.authenticator.now c.args.division.now c.args.proxy_states.now zeros in
    let all = divided_size c.args.keys.now.dictionary.now c.args.keys.now.secret.now c.args.keys.now.authenticator.now c.args.division.now c.args.proxy_states.now zeros in
    let first : 4076 ≡ c.in_ok-room.room + size c.args.division.now.before.now = c.in_ok-room.ensures.some in
    let second : c.in_ok-room.room ≡ c.in_ok-room-2.room + length (signature_if c.args.division.now.signed zeros) = c.in_ok-room-2.ensures.some in
    let third : c.in_ok-room-2.room ≡ c.in_ok-room-3.room + size (without_signatures c.args.division.now.after.now) = c.in_ok-room-3.ensures.some in
    last_none c.room_after-3.result c.in_ok-room-3.room (size c.args.proxy_states.now) (length laid) c.room_after-3.ensures.none (omega (arith, all, first, second, third))
