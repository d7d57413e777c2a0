-- The address that a text writes is the one that it is parsed as.
use Rattle.std.proofs.Common.{◌≡◌, ◌∙◌, ◌==◌, ℕ, Bool, true, false, if◌then◌else◌, List, [], ◌∷◌, ◌++◌, Option, None, Some, Result, Ok, Err, append-nil, length, lit≤, option_map, ne_eqb, refl, sym, ap, subst, arith}
use Rattle.std.specs.Net.Grammar.{IsColonHex, IsDotted, IsIpText, Parses}
use Rattle.std.specs.Net.Reader.{Read, read_ipv4, read_ipv6, whole_value}
use Rattle.std.specs.declared.net.ip_addr.IpAddr.{IpAddr}
use Rattle.std.specs.declared.net.ip_addr.IpAddr.TheVariants.{V4, V6}
use Rattle.std.specs.declared.net.ipv4_addr.Ipv4Addr.{Ipv4Addr}
use Rattle.std.specs.declared.net.ipv6_addr.Ipv6Addr.{Ipv6Addr}
use Rattle.std.proofs.NetLemmas.Ipv4.{read_ipv4_complete, read_ipv4_sound}
use Rattle.std.proofs.NetLemmas.Ipv6.{EndsGroups-nil, IsDotted-not_colon_hex, read_ipv6_complete, read_ipv6_sound}
use Rattle.std.proofs.NetLemmas.Options.{and_then_some, cond_some}
use Rattle.radpolicy_clients.specs.Addresses.{address_of, of_octets, of_segments, or_else, v4_of, v6_of}

-- ---- what is read whole

empty : (os : List ℕ) → (length os == 0) ≡ true → os ≡ []
empty [] h = refl
empty (o ∷ os) h = let no : (length (o ∷ os) == 0) ≡ false = ne_eqb (length (o ∷ os)) 0 (omega arith) in cc

whole_is : {A : Type 0} (read : Read A) (a : A) → whole_value read ≡ Some a → read ≡ Some (a, [])
whole_is read a e =
    and_then_some (λ p. if length p.1 == 0 then Some p.0 else None) read a e λ p is kept.
    let (at_end, same) = cond_some (length p.1 == 0) p.0 a kept in
    is ∙ ap (λ x. Some (x, p.1)) same ∙ ap (λ (os : List ℕ). Some (a, os)) (empty p.1 at_end)

dotted_by : (text octets : List ℕ) → whole_value (read_ipv4 text) ≡ Some octets → IsDotted text octets
dotted_by text octets e =
    let (front, split, dotted) = read_ipv4_sound text octets [] (whole_is (read_ipv4 text) octets e) in
    subst (λ t. IsDotted t octets) (sym (split ∙ append-nil front)) dotted

colons_by : (text segments : List ℕ) → whole_value (read_ipv6 text) ≡ Some segments → IsColonHex text segments
colons_by text segments e =
    let (front, split, colons) = read_ipv6_sound text segments [] (whole_is (read_ipv6 text) segments e) in
    subst (λ t. IsColonHex t segments) (sym (split ∙ append-nil front)) colons

dotted_read : (text octets : List ℕ) → IsDotted text octets → whole_value (read_ipv4 text) ≡ Some octets
dotted_read text octets dotted =
    ap whole_value (subst (λ t. read_ipv4 t ≡ Some (octets, [])) (append-nil text) (read_ipv4_complete text octets [] dotted (lit≤ tt)))

colons_read : (text segments : List ℕ) → IsColonHex text segments → whole_value (read_ipv6 text) ≡ Some segments
colons_read text segments colons =
    ap whole_value (subst (λ t. read_ipv6 t ≡ Some (segments, [])) (append-nil text) (read_ipv6_complete text segments [] colons EndsGroups-nil))

no_v4 : (text : List ℕ) → ((octets : List ℕ) → IsDotted text octets → ⊥) → v4_of text ≡ None
no_v4 text none =
    elim (whole_value (read_ipv4 text)) as (λ r. whole_value (read_ipv4 text) ≡ r → option_map of_octets r ≡ None) [
      | None ↦ λ e. refl
      | Some octets ↦ λ e. absurd (none octets (dotted_by text octets e))
    ] refl

no_v6 : (text : List ℕ) → ((segments : List ℕ) → IsColonHex text segments → ⊥) → v6_of text ≡ None
no_v6 text none =
    elim (whole_value (read_ipv6 text)) as (λ r. whole_value (read_ipv6 text) ≡ r → option_map of_segments r ≡ None) [
      | None ↦ λ e. refl
      | Some segments ↦ λ e. absurd (none segments (colons_by text segments e))
    ] refl

-- ---- what is parsed

pub written : (text : List ℕ) (address : IpAddr) → IsIpText text address → Some address ≡ address_of text
unfolding address_of
written text (V4 a) dotted =
    sym (ap (λ r. or_else (option_map of_octets r) (v6_of text)) (dotted_read text a.octets dotted))
written text (V6 a) colons =
    sym (ap (λ r. or_else r (v6_of text)) (no_v4 text (λ octets dotted. IsDotted-not_colon_hex text octets a.segments dotted colons))
    ∙ ap (option_map of_segments) (colons_read text a.segments colons))

pub unwritten : (text : List ℕ) → ((address : IpAddr) → IsIpText text address → ⊥) → None ≡ address_of text
unfolding address_of
unwritten text none =
    sym (ap (λ r. or_else r (v6_of text)) (no_v4 text (λ octets dotted. none (of_octets octets) dotted))
    ∙ no_v6 text (λ segments colons. none (of_segments segments) colons))
