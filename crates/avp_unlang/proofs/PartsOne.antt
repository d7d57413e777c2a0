-- A text between double quotes has one list of parts.
use Rattle.std.proofs.Common.{◌≡◌, ℕ, ◌<◌, ◌⊎◌, inl, inr, Bool, true, false, List, length, Option, Some, None, refl, sym, ap, subst, ◌∙◌, arith}
use Rattle.std.specs.Prelude.{is_some, IsTrue, option_map}
use Rattle.avp_dict.specs.Dictionary.{Dictionary}
use Rattle.avp_forms.specs.declared.profiles.Profile.{Profile}
use Rattle.avp_forms.specs.declared.profiles.Profile.TheVariants.{Plain, Wider}
use Rattle.avp_unlang.specs.declared.text.references.Reference.{Reference}
use Rattle.avp_unlang.specs.declared.tree.Part.{Part}
use Rattle.avp_unlang.specs.declared.tree.Part.TheVariants.{Capture, Text, Instance, Meant}
use Rattle.avp_unlang.specs.Parts.{ExpansionIs, octet_at, begins_octet, OctetIs, braced, PartIs, PartsAre, group_named, is_left, part_named, part_of}
use Rattle.avp_unlang.specs.References.{readable}
use Rattle.avp_unlang.proofs.Determined.{IsOne, some_is}
use Rattle.avp_unlang.proofs.ValueRuns.{while_one}

pair_is : {A : Type 0} (o : Option (A × List ℕ)) (x y : A) (r s : List ℕ) → o ≡ Some (x, r) → o ≡ Some (y, s) → (x ≡ y) × (r ≡ s)
pair_is {A = A} o x y r s h g = let f = some_is (x, r) (y, s) (sym h ∙ g) in (ap (λ (z : A × List ℕ). z.0) f, ap (λ (z : A × List ℕ). z.1) f)

pub octet_one : IsOne OctetIs
octet_one p x y r s h g = pair_is (octet_at p) x y r s h g

not_both : (b : Bool) → b ≡ true → b ≡ false → ⊥
not_both b e f = cc

module _ (profile : Profile) (dictionary : Dictionary) where
  expansion_one : IsOne (ExpansionIs profile dictionary)
  expansion_one p x y r s h g =
      let inner = some_is h.0 g.0 (sym h.1 ∙ g.1) in
      let closed = pair_is (braced g.0) h.2 g.2 r s (subst (λ i. braced i ≡ Some (h.2, r)) inner h.3) g.3 in
      (some_is x y (sym (subst (λ w. part_named profile dictionary w ≡ Some x) closed.0 h.4) ∙ g.4), closed.1)

  pub part_one : IsOne (PartIs profile dictionary)
  part_one p (Text os) (Text qs) r s h g =
      let at = while_one begins_octet OctetIs octet_one p os qs r s h.1 g.1 in (ap Text at.0, at.1)
  part_one p (Text os) (Instance l i) r s h g = absurd (not_both (begins_octet p) h.0 g.0)
  part_one p (Text os) (Meant l i k) r s h g = absurd (not_both (begins_octet p) h.0 g.0)
  part_one p (Text os) (Capture n) r s h g = absurd (not_both (begins_octet p) h.0 g.0)
  part_one p (Instance l i) (Text qs) r s h g = absurd (not_both (begins_octet p) g.0 h.0)
  part_one p (Meant l i k) (Text qs) r s h g = absurd (not_both (begins_octet p) g.0 h.0)
  part_one p (Capture n) (Text qs) r s h g = absurd (not_both (begins_octet p) g.0 h.0)
  part_one p (Instance l i) (Instance m j) r s h g = expansion_one p (Instance l i) (Instance m j) r s h.1 g.1
  part_one p (Instance l i) (Meant m j d) r s h g = expansion_one p (Instance l i) (Meant m j d) r s h.1 g.1
  part_one p (Instance l i) (Capture o) r s h g = expansion_one p (Instance l i) (Capture o) r s h.1 g.1
  part_one p (Meant l i k) (Instance m j) r s h g = expansion_one p (Meant l i k) (Instance m j) r s h.1 g.1
  part_one p (Meant l i k) (Meant m j d) r s h g = expansion_one p (Meant l i k) (Meant m j d) r s h.1 g.1
  part_one p (Meant l i k) (Capture o) r s h g = expansion_one p (Meant l i k) (Capture o) r s h.1 g.1
  part_one p (Capture n) (Instance m j) r s h g = expansion_one p (Capture n) (Instance m j) r s h.1 g.1
  part_one p (Capture n) (Meant m j d) r s h g = expansion_one p (Capture n) (Meant m j d) r s h.1 g.1
  part_one p (Capture n) (Capture o) r s h g = expansion_one p (Capture n) (Capture o) r s h.1 g.1

  pub parts_one : (text : List ℕ) (xs ys : List Part) → PartsAre profile dictionary text xs → PartsAre profile dictionary text ys → xs ≡ ys
  parts_one text xs ys h g = (while_one is_left (PartIs profile dictionary) part_one text xs ys h.0 g.0 h.1 g.1).0

-- where no octet follows any more, the first one was passed
pub moved_on : (text rest : List ℕ) → (length rest < length text) ⊎ (rest ≡ text) → octet_at rest ≡ None → IsTrue (begins_octet text) → length rest < length text
moved_on text rest h none begins =
    elim h as (λ _. length rest < length text) [ inl moved ↦ moved | inr stays ↦ absurd (not_both true refl (sym (subst (λ o. IsTrue (is_some o)) (ap octet_at (sym stays) ∙ none) begins))) ]

pub moved_more : (text mid rest : List ℕ) → (length mid < length text) ⊎ (mid ≡ text) → length rest < length mid → (length rest < length text) ⊎ (rest ≡ text)
moved_more text mid rest h lt =
    inl (elim h as (λ _. length rest < length text) [ inl moved ↦ omega arith | inr stays ↦ subst (λ (k : List ℕ). length rest < length k) stays lt ])

-- a text that begins with no octet and no expansion has no first part
pub no_part : (profile : Profile) (dictionary : Dictionary) (text : List ℕ) → begins_octet text ≡ false → ((part : Part) (rest : List ℕ) → ExpansionIs profile dictionary text part rest → ⊥)
    → (part : Part) (rest : List ℕ) → PartIs profile dictionary text part rest → ⊥
no_part profile dictionary text none refused (Text os) rest h = not_both (begins_octet text) h.0 none
no_part profile dictionary text none refused (Instance l i) rest h = refused (Instance l i) rest h.1
no_part profile dictionary text none refused (Meant l i k) rest h = refused (Meant l i k) rest h.1
no_part profile dictionary text none refused (Capture n) rest h = refused (Capture n) rest h.1

-- no word stands for octets as they are
no_text_found : (profile : Profile) (dictionary : Dictionary) (o : Option Reference) (os : List ℕ) → option_map (part_of profile dictionary) o ≡ Some (Text os) → ⊥
no_text_found profile dictionary None os e = cc
no_text_found Plain dictionary (Some found) os e = cc
no_text_found Wider dictionary (Some found) os e = cc

no_text_named : (profile : Profile) (dictionary : Dictionary) (group : Option ℕ) (o : Option Reference) (os : List ℕ) → elim group [ None ↦ option_map (part_of profile dictionary) o | Some n ↦ Some (Capture n) ] ≡ Some (Text os) → ⊥
no_text_named profile dictionary None o os e = no_text_found profile dictionary o os e
no_text_named profile dictionary (Some n) o os e = cc

-- what is put in is a part of its own
pub expansion_reads : (profile : Profile) (dictionary : Dictionary) (text : List ℕ) (part : Part) (rest : List ℕ) → begins_octet text ≡ false → ExpansionIs profile dictionary text part rest
    → PartIs profile dictionary text part rest
expansion_reads profile dictionary text (Text os) rest none is = absurd (no_text_named profile dictionary (group_named profile is.2) (readable profile dictionary is.2) os is.4)
expansion_reads profile dictionary text (Instance l i) rest none is = (none, is)
expansion_reads profile dictionary text (Meant l i k) rest none is = (none, is)
expansion_reads profile dictionary text (Capture n) rest none is = (none, is)
