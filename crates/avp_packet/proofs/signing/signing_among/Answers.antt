use Rattle.std.proofs.Common.{◌≡◌, ◌∙◌, ◌++◌, ℕ, List, [], true, false, map, refl, sym, ap}
use Rattle.std.specs.List.{flat_map, list_any}
use Rattle.std.specs.Str.{bytes_eq}
use Rattle.avp_dict.specs.AttributeNumbers.{message_authenticator}
use Rattle.avp_packet.specs.AttributeOctets.{part}
use Rattle.avp_packet.specs.Hmac.{hmac}
use Rattle.avp_packet.specs.Packets.{zeros}
use Rattle.avp_packet.specs.Signed.{blanked, is_only, is_signature, signatures}
use Rattle.avp_packet.specs.Splitting.{left, part_octets, parts}
use Rattle.avp_packet.proofs.Signatures.{any_found, any_none, blanked_text, found_first, no_more, not_only, regrouped}
use Rattle.avp_packet.proofs.signing.signing_among.Goals as goal

-- the only Message-Authenticator is tried against the digest
tried : (secret head octets before value after digest : List ℕ) → octets ≡ before ++ part_octets (part message_authenticator value) ++ after → left before ≡ [] → signatures (parts before) ≡ []
    → left octets ≡ [] → list_any is_signature (parts after) ≡ false → digest ≡ hmac secret (head ++ before ++ part_octets (part message_authenticator zeros) ++ after)
    → bytes_eq value digest ≡ is_only (hmac secret (head ++ flat_map part_octets (map blanked (parts octets)))) (signatures (parts octets))
tried secret head octets before value after digest e whole first all more made =
    let none = no_more (parts after) more in
    let found = found_first octets before value after e whole first in
    let text = blanked_text octets before value after e whole first all none in
    ap (bytes_eq value) (made ∙ ap (hmac secret) (regrouped head before (part_octets (part message_authenticator zeros)) after)) ∙ rw (found, none, text) refl

pub returns-in_default-clause-some : goal.returns-in_default-clause-some
returns-in_default-clause-some c = sym (any_none (parts c.args.attributes.now) c.in_default.ensures.none)

pub returns-then-has_signature-clause-right : goal.returns-then-has_signature-clause-right
returns-then-has_signature-clause-right c =
    let f = c.in-Some.found in
    let more : list_any is_signature (parts f.after.now) ≡ true = sym c.has_signature.ensures ∙ c.if-has_signature.true in
    let first = found_first c.args.attributes.now f.before.now f.value.now f.after.now c.in-Some.ensures.octets c.in-Some.ensures.whole c.in-Some.ensures.first in
    rw first (sym (not_only _ (part message_authenticator f.value.now) (parts f.after.now) more))

pub returns-then-has_signature-clause-some : goal.returns-then-has_signature-clause-some
returns-then-has_signature-clause-some c =
    let f = c.in-Some.found in
    sym (any_found (parts c.args.attributes.now) _ _ (found_first c.args.attributes.now f.before.now f.value.now f.after.now c.in-Some.ensures.octets c.in-Some.ensures.whole c.in-Some.ensures.first))

pub returns-then-are_equal-clause-right : goal.returns-then-are_equal-clause-right
returns-then-are_equal-clause-right c =
    let f = c.in-Some.found in
    sym c.if-are_equal.true ∙ c.are_equal.ensures
    ∙ tried c.args.secret.now (c.args.code_id_length.now ++ c.args.authenticator.now) c.args.attributes.now f.before.now f.value.now f.after.now c.signature_between-digest.result
    c.in-Some.ensures.octets c.in-Some.ensures.whole c.in-Some.ensures.first c.requires (sym c.has_signature.ensures ∙ c.if-has_signature.false) c.signature_between-digest.ensures

pub returns-then-are_equal-clause-some : goal.returns-then-are_equal-clause-some
returns-then-are_equal-clause-some c =
    let f = c.in-Some.found in
    sym (any_found (parts c.args.attributes.now) _ _ (found_first c.args.attributes.now f.before.now f.value.now f.after.now c.in-Some.ensures.octets c.in-Some.ensures.whole c.in-Some.ensures.first))

pub returns-else-are_equal-clause-right : goal.returns-else-are_equal-clause-right
returns-else-are_equal-clause-right c =
    let f = c.in-Some.found in
    sym c.if-are_equal.false ∙ c.are_equal.ensures
    ∙ tried c.args.secret.now (c.args.code_id_length.now ++ c.args.authenticator.now) c.args.attributes.now f.before.now f.value.now f.after.now c.signature_between-digest.result
    c.in-Some.ensures.octets c.in-Some.ensures.whole c.in-Some.ensures.first c.requires (sym c.has_signature.ensures ∙ c.if-has_signature.false) c.signature_between-digest.ensures

pub returns-else-are_equal-clause-some : goal.returns-else-are_equal-clause-some
returns-else-are_equal-clause-some c =
    let f = c.in-Some.found in
    sym (any_found (parts c.args.attributes.now) _ _ (found_first c.args.attributes.now f.before.now f.value.now f.after.now c.in-Some.ensures.octets c.in-Some.ensures.whole c.in-Some.ensures.first))
