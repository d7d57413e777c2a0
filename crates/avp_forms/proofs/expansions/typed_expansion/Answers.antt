use Rattle.std.proofs.Common.{◌≡◌, ◌≤◌, ◌∙◌, ap, sym, subst, arith, rules, length, IsTrue, to_z, of_z, w32}
use Rattle.std.proofs.lemmas.Grind.{common_steps}
use Rattle.std.specs.Fmt.{signed_decimal}
use Rattle.avp_dict.specs.Printing.{hexadecimal}
use Rattle.avp_forms.specs.Expansions.{is_printed_by_type, max_expansion}
use Rattle.avp_forms.specs.Written.{typed_text_put}
use Rattle.avp_forms.proofs.ExpandedValues.{address_put, bytes_put, digits_within, ether_put, number_put, raw_put, short_bytes, short_raw, signed_put}
use Rattle.avp_forms.proofs.expansions.typed_expansion.Goals as goal

pub returns-in-Bytes-clause-text : goal.returns-in-Bytes-clause-text
returns-in-Bytes-clause-text c =
    ap hexadecimal c.as_slice-in-Bytes.ensures
    ∙ sym (ap (λ v. typed_text_put c.args.id v c.args.dictionary.now) c.in-Bytes.is ∙ bytes_put c.args.id c.args.dictionary.now c.in-Bytes.octets)

pub returns-in-Bytes-clause-length : goal.returns-in-Bytes-clause-length
returns-in-Bytes-clause-length c = λ names short.
    subst (λ os. length (hexadecimal os) ≤ max_expansion) (sym c.as_slice-in-Bytes.ensures) (digits_within c.in-Bytes.octets (short_bytes c.args.value.now c.in-Bytes.octets c.in-Bytes.is short))

pub returns-in-Raw-clause-text : goal.returns-in-Raw-clause-text
returns-in-Raw-clause-text c =
    ap hexadecimal c.as_slice-in-Raw.ensures
    ∙ sym (ap (λ v. typed_text_put c.args.id v c.args.dictionary.now) c.in-Raw.is ∙ raw_put c.args.id c.args.dictionary.now c.in-Raw.octets)

pub returns-in-Raw-clause-length : goal.returns-in-Raw-clause-length
returns-in-Raw-clause-length c = λ names short.
    subst (λ os. length (hexadecimal os) ≤ max_expansion) (sym c.as_slice-in-Raw.ensures) (digits_within c.in-Raw.octets (short_raw c.args.value.now c.in-Raw.octets c.in-Raw.is short))

pub returns-in-Some-clause-text : goal.returns-in-Some-clause-text
returns-in-Some-clause-text c =
    c.number_expansion.ensures.text
    ∙ sym (ap (λ v. typed_text_put c.args.id v c.args.dictionary.now) c.in-Int.is
    ∙ number_put c.args.id c.args.dictionary.now c.in-Int.number _ (sym c.in-Some.ensures) (subst (λ v. IsTrue (is_printed_by_type c.args.id v c.args.dictionary.now)) c.in-Int.is c.requires))

pub returns-in-Signed-clause-text : goal.returns-in-Signed-clause-text
returns-in-Signed-clause-text c =
    let same : to_z w32 (of_z w32 c.in-Signed.number) ≡ c.in-Signed.number = first_of (search rules, grind (arith, common_steps)) in
    c.signed_text.ensures ∙ ap signed_decimal same
    ∙ sym (ap (λ v. typed_text_put c.args.id v c.args.dictionary.now) c.in-Signed.is
    ∙ signed_put c.args.id c.args.dictionary.now c.in-Signed.number (subst (λ v. IsTrue (is_printed_by_type c.args.id v c.args.dictionary.now)) c.in-Signed.is c.requires))

pub returns-in-Addr-clause-text : goal.returns-in-Addr-clause-text
returns-in-Addr-clause-text c =
    c.address_text.ensures
    ∙ sym (ap (λ v. typed_text_put c.args.id v c.args.dictionary.now) c.in-Addr.is
    ∙ address_put c.args.id c.args.dictionary.now c.in-Addr.address (subst (λ v. IsTrue (is_printed_by_type c.args.id v c.args.dictionary.now)) c.in-Addr.is c.requires))

pub returns-in-Ether-clause-text : goal.returns-in-Ether-clause-text
returns-in-Ether-clause-text c =
    c.ether_text.ensures
    ∙ sym (ap (λ v. typed_text_put c.args.id v c.args.dictionary.now) c.in-Ether.is
    ∙ ether_put c.args.id c.args.dictionary.now c.in-Ether.address (subst (λ v. IsTrue (is_printed_by_type c.args.id v c.args.dictionary.now)) c.in-Ether.is c.requires))
