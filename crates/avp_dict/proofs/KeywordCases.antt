-- Keywords in capitals and in small letters are the same.
use Rattle.std.proofs.Common.{◌≡◌, ◌==◌, ℕ, List, [], ◌∷◌, codes, false, slice_index, refl, arith}
use Rattle.std.proofs.lemmas.Grind.{common_steps}
use Rattle.avp_dict.specs.Lines.{is_include}
use Rattle.avp_dict.specs.Words.{lower, same_name}
use Rattle.avp_dict.proofs.Folding.{same_as}

pub attribute_in_capitals : (word : List ℕ) → same_name word (codes "ATTRIBUTE") ≡ same_name word (codes "attribute")
attribute_in_capitals word = same_as (codes "ATTRIBUTE") (codes "attribute") word refl

pub value_in_capitals : (word : List ℕ) → same_name word (codes "VALUE") ≡ same_name word (codes "value")
value_in_capitals word = same_as (codes "VALUE") (codes "value") word refl

-- a word that does not begin with a dollar sign includes no file
pub no_include : (word : List ℕ) → (slice_index word 0 == 36) ≡ false → is_include word ≡ false
no_include [] is = refl
no_include (o ∷ os) is = let other : (lower o == 36) ≡ false = grind (arith, common_steps) in rw other refl
