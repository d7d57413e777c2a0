-- Texts of prefixes with more than one slash, and names with more than one colon.
use Rattle.std.proofs.Common.{◌≡◌, ℕ, ◌<◌, List, [], ◌∷◌, length, Option, None, refl, arith}
use Rattle.avp_dict.specs.Dictionary.{Dictionary}
use Rattle.avp_forms.specs.Prefixes.{prefix_of}
use Rattle.avp_forms.specs.Targets.{tagged_of}

pub more_parts : (address : List ℕ → Option (List ℕ)) (most : ℕ) (parts : List (List ℕ)) → 2 < length parts → prefix_of address most parts ≡ None
more_parts address most [] h = refl
more_parts address most (a ∷ []) h = refl
more_parts address most (a ∷ b ∷ []) h = absurd (omega arith)
more_parts address most (a ∷ b ∷ c ∷ parts) h = refl

pub more_tags : (dictionary : Dictionary) (parts : List (List ℕ)) → 2 < length parts → tagged_of dictionary parts ≡ None
more_tags dictionary [] h = refl
more_tags dictionary (a ∷ []) h = refl
more_tags dictionary (a ∷ b ∷ []) h = absurd (omega arith)
more_tags dictionary (a ∷ b ∷ c ∷ parts) h = refl
