use Rattle.std.proofs.Common.{◌≡◌, ◌∙◌, ℕ, List, [], ◌∷◌, ◌++◌, false, bytes_eq, take, drop, codes, refl, sym, ap, ap₂, append_assoc, arith}
use Rattle.std.proofs.lemmas.Slice.Eq.{bytes_eq-Decides}
use Rattle.std.specs.Net.Addr.{octets_of}
use Rattle.std.specs.Net.Text.{hex_groups_text, ipv4_text, ipv6_text}
use Rattle.avp_forms.specs.Ipv6Addresses.{ipv6_address_text}
use Rattle.avp_forms.proofs.ipv6_addresses.push_ipv6.Goals as goal

abbrev mapped : List ℕ
mapped = 0 ∷ 0 ∷ 0 ∷ 0 ∷ 0 ∷ 0xffff ∷ []

mapped_text : (segments : List ℕ) → take 6 segments ≡ mapped → ipv6_text segments ≡ codes "::ffff:" ++ ipv4_text (octets_of (drop 6 segments))
unfolding ipv6_text
mapped_text segments h = let e = (bytes_eq-Decides (take 6 segments) mapped).1 h in rw e refl

other_text : (segments : List ℕ) → bytes_eq (take 6 segments) mapped ≡ false → ipv6_text segments ≡ hex_groups_text segments
unfolding ipv6_text
other_text segments e = rw e refl

pub returns-in-Some-clause-items : goal.returns-in-Some-clause-items
unfolding ipv6_address_text
returns-in-Some-clause-items c =
    let old = c.args.text.now.items in
    let segments = c.from_octets-address.result.segments in
    let low = ipv4_text (octets_of (drop 6 segments)) in
    c.push_ipv4.ensures.items
    ∙ ap₂ (λ t o. t ++ ipv4_text o) c.push_all.ensures (c.octets.ensures ∙ c.in-Some.ensures.value)
    ∙ append_assoc old (codes "::ffff:") low
    ∙ ap (λ t. old ++ t) (sym (mapped_text segments (c.in-Some.ensures.found.0 refl)) ∙ ap ipv6_text c.from_octets-address.ensures)

pub returns-in-None-clause-items : goal.returns-in-None-clause-items
unfolding ipv6_address_text
returns-in-None-clause-items c =
    let old = c.args.text.now.items in
    let segments = c.from_octets-address.result.segments in
    let other : bytes_eq (take 6 segments) mapped ≡ false = grind (arith, bytes_eq-Decides (take 6 segments) mapped, c.in-None.ensures.found) in
    c.push_hex_groups.ensures.items
    ∙ ap (λ t. old ++ t) (ap hex_groups_text c.segments.ensures ∙ sym (other_text segments other) ∙ ap ipv6_text c.from_octets-address.ensures)
