use Rattle.std.proofs.Common.{◌≡◌, ◌∙◌, ◌++◌, ◌∷◌, [], List, ℕ, ap, append_assoc}
use Rattle.md5.specs.Md5.{md5}
use Rattle.avp_dict.specs.AttributeNumbers.{message_authenticator}
use Rattle.avp_packet.specs.AttributeOctets.{part}
use Rattle.avp_packet.specs.Hiding.{masked}
use Rattle.avp_packet.specs.Hmac.{hmac, inner_pad, key_block, outer_pad}
use Rattle.avp_packet.specs.Packets.{zeros}
use Rattle.avp_packet.specs.Splitting.{part_octets}
use Rattle.avp_packet.proofs.hmac.signature_between.Goals as goal

regrouped : (k a b d e f g : List ℕ) → k ++ a ++ b ++ d ++ e ++ f ++ g ≡ k ++ (a ++ b ++ d ++ (e ++ f) ++ g)
regrouped k a b d e f g = simp append_assoc

pub returns : goal.returns
unfolding hmac
returns c =
    let block = key_block c.args.secret.now in
    let inner = c.finalize.ensures _ (c.update-6.ensures _ (c.update-5.ensures _ (c.update-4.ensures _ (c.update-3.ensures _ (c.update-2.ensures _ (c.update.ensures _ c.keyed_hasher-inner.ensures)))))) in
    let outer = c.finalize-2.ensures _ (c.update-7.ensures _ c.keyed_hasher-outer.ensures) in
    let text : c.finalize.result ≡ md5 (masked inner_pad block ++ (c.args.code_id_length.now ++ c.args.authenticator.now ++ c.args.before.now ++ part_octets (part message_authenticator zeros) ++ c.args.after.now)) =
    inner ∙ rw c.key_block-key.ensures (ap md5 (regrouped (masked inner_pad block) c.args.code_id_length.now c.args.authenticator.now c.args.before.now (message_authenticator ∷ 18 ∷ []) zeros c.args.after.now)) in
    outer ∙ ap (λ (k : List ℕ). md5 (masked outer_pad k ++ c.finalize.result)) c.key_block-key.ensures
    ∙ ap (λ (os : List ℕ). md5 (masked outer_pad block ++ os)) text
