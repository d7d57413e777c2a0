-- Texts between quotes with no escape in them.
use Rattle.std.proofs.Common.{◌≡◌, ℕ, zero, suc, Bool, not, IsTrue, true, false, nat_eq, List, [], ◌∷◌, refl, sym, ap}
use Rattle.std.specs.List.{list_any}
use Rattle.avp_dict.specs.Ascii.{backslash}
use Rattle.avp_dict.specs.Quotes.{octets_between, unescaped}
use Rattle.avp_dict.specs.declared.value.quotes.QuoteMark.{QuoteMark}
use Rattle.avp_unlang.proofs.CaptureFree.{or_left, or_right}

pub not_so : (b : Bool) → IsTrue (not b) → b ≡ false
not_so false h = refl
not_so true h = sym h

unescaped_plain : (mark : QuoteMark) (text : List ℕ) → list_any (λ o. nat_eq o backslash) text ≡ false → unescaped mark 0 text ≡ text
unescaped_plain mark [] h = refl
unescaped_plain mark (o ∷ os) h =
    let first = or_left (nat_eq o backslash) (list_any (λ o. nat_eq o backslash) os) h in
    let rest = or_right (nat_eq o backslash) (list_any (λ o. nat_eq o backslash) os) h in
    rw first (ap (λ l. o ∷ l) (unescaped_plain mark os rest))

-- they stand for their own octets
pub plain_octets : (mark : QuoteMark) (text : List ℕ) → list_any (λ o. nat_eq o backslash) text ≡ false → octets_between mark text ≡ text
unfolding octets_between
plain_octets mark text h = unescaped_plain mark text h
