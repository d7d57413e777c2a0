-- std's reading of addresses on lists, and what its parsers say.
use Rattle.std.proofs.Common.{◌≡◌, ℕ, List, [], ◌∷◌, length, Option, Some, None, refl, sym, ap, ◌∙◌, subst, append-nil, arith, lit≤, ne_eqb}
use Rattle.std.proofs.lemmas.Option.{none-some}
use Rattle.std.specs.Net.Grammar.{IsColonHex, IsDotted}
use Rattle.std.specs.Net.Reader.{whole_value, read_ipv4, read_ipv6}
use Rattle.std.proofs.NetLemmas.Ipv4.{read_ipv4_complete, read_ipv4_sound}
use Rattle.std.proofs.NetLemmas.Ipv6.{read_ipv6_complete, read_ipv6_sound, EndsGroups-nil}

-- ---- IPv6

pub whole_ipv6 : (text segments : List ℕ) → IsColonHex text segments → whole_value (read_ipv6 text) ≡ Some segments
whole_ipv6 text segments is =
    ap whole_value (ap read_ipv6 (sym (append-nil text)) ∙ read_ipv6_complete text segments [] is EndsGroups-nil)

-- a whole value is one that the grammar has
ended_ipv6 : (text segments rest value : List ℕ) → read_ipv6 text ≡ Some (segments, rest) → whole_value (Some (segments, rest)) ≡ Some value → IsColonHex text value
ended_ipv6 text segments [] value e whole =
    let (front, split, is) = read_ipv6_sound text segments [] e in
    let same : segments ≡ value = cc in
    subst (λ t. IsColonHex t value) (sym (split ∙ append-nil front)) (subst (λ s. IsColonHex front s) same is)
ended_ipv6 text segments (o ∷ os) value e whole =
    let more = ne_eqb (length (o ∷ os)) 0 (omega arith) in
    absurd (none-some value (rw more at whole))

ipv6_of : (text value : List ℕ) (read : Option (List ℕ × List ℕ)) → read_ipv6 text ≡ read → whole_value read ≡ Some value → IsColonHex text value
ipv6_of text value None e whole = absurd (cc)
ipv6_of text value (Some p) e whole = ended_ipv6 text p.0 p.1 value e whole

pub ipv6_whole : (text value : List ℕ) → whole_value (read_ipv6 text) ≡ Some value → IsColonHex text value
ipv6_whole text value whole = ipv6_of text value (read_ipv6 text) refl whole

no_ipv6_of : (text : List ℕ) (whole : Option (List ℕ)) → whole_value (read_ipv6 text) ≡ whole → ((segments : List ℕ) → ¬ (IsColonHex text segments)) → whole ≡ None
no_ipv6_of text None e never = refl
no_ipv6_of text (Some value) e never = absurd (never value (ipv6_whole text value e))

pub no_ipv6 : (text : List ℕ) → ((segments : List ℕ) → ¬ (IsColonHex text segments)) → whole_value (read_ipv6 text) ≡ None
no_ipv6 text never = no_ipv6_of text _ refl never

-- ---- IPv4

pub whole_ipv4 : (text octets : List ℕ) → IsDotted text octets → whole_value (read_ipv4 text) ≡ Some octets
whole_ipv4 text octets is =
    ap whole_value (ap read_ipv4 (sym (append-nil text)) ∙ read_ipv4_complete text octets [] is (lit≤ tt))

ended_ipv4 : (text octets rest value : List ℕ) → read_ipv4 text ≡ Some (octets, rest) → whole_value (Some (octets, rest)) ≡ Some value → IsDotted text value
ended_ipv4 text octets [] value e whole =
    let (front, split, is) = read_ipv4_sound text octets [] e in
    let same : octets ≡ value = cc in
    subst (λ t. IsDotted t value) (sym (split ∙ append-nil front)) (subst (λ s. IsDotted front s) same is)
ended_ipv4 text octets (o ∷ os) value e whole =
    let more = ne_eqb (length (o ∷ os)) 0 (omega arith) in
    absurd (none-some value (rw more at whole))

ipv4_of : (text value : List ℕ) (read : Option (List ℕ × List ℕ)) → read_ipv4 text ≡ read → whole_value read ≡ Some value → IsDotted text value
ipv4_of text value None e whole = absurd (cc)
ipv4_of text value (Some p) e whole = ended_ipv4 text p.0 p.1 value e whole

no_ipv4_of : (text : List ℕ) (whole : Option (List ℕ)) → whole_value (read_ipv4 text) ≡ whole → ((octets : List ℕ) → ¬ (IsDotted text octets)) → whole ≡ None
no_ipv4_of text None e never = refl
no_ipv4_of text (Some value) e never = absurd (never value (ipv4_of text value (read_ipv4 text) refl e))

pub no_ipv4 : (text : List ℕ) → ((octets : List ℕ) → ¬ (IsDotted text octets)) → whole_value (read_ipv4 text) ≡ None
no_ipv4 text never = no_ipv4_of text _ refl never
