use Rattle.std.proofs.Common.{◌≡◌, ◌∙◌, ◌++◌, ℕ, List, [], Option, Some, None, IfSome, IfNone, is_some, sym}
use Rattle.std.specs.List.{list_any}
use Rattle.avp_dict.specs.AttributeNumbers.{message_authenticator}
use Rattle.avp_packet.specs.declared.signing.Found.{Found}
use Rattle.avp_packet.specs.AttributeOctets.{part}
use Rattle.avp_packet.specs.Signed.{is_signature, signatures}
use Rattle.avp_packet.specs.Splitting.{left, part_octets, parts}
use Rattle.avp_packet.proofs.Signatures.{any_found, any_none, found_first}
use Rattle.avp_packet.proofs.signing.has_signature.Goals as goal

any_by : (os : List ℕ) (o : Option Found) → IfSome o (λ f. os ≡ f.before.now ++ part_octets (part message_authenticator f.value.now) ++ f.after.now)
    → IfSome o (λ f. left f.before.now ≡ []) → IfSome o (λ f. signatures (parts f.before.now) ≡ []) → IfNone o (signatures (parts os) ≡ []) → is_some o ≡ list_any is_signature (parts os)
any_by os None is whole first none = sym (any_none (parts os) none)
any_by os (Some f) is whole first none =
    sym (any_found (parts os) (signatures (parts f.after.now)) (part message_authenticator f.value.now) (found_first os f.before.now f.value.now f.after.now is whole first))

pub returns : goal.returns
returns c =
    let found = c.find_signature.ensures in
    c.is_some.ensures ∙ any_by c.args.attributes.now c.find_signature.result found.octets found.whole found.first found.none
