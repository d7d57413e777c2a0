-- The attributes that names of a dictionary make secret, as they are found.
use Rattle.std.specs.Prelude.{◌≡◌, ℕ, Bool, ◌||◌, List}
use Rattle.std.specs.List.{list_any}
use Rattle.avp_lists.specs.declared.pairs.AttrId.{AttrId}
use Rattle.avp_lists.specs.Pairs.{id_eq}
use Rattle.avp_dict.specs.Dictionary.{Dictionary}
use Rattle.avp_dict.specs.Names.{is_marked_secret}
use Rattle.radpolicy_common.specs.SecretAttributes.{is_secret_id, is_undescribed, is_unsplit, makes_secret}

-- secret, the attribute's names aside
abbrev pub is_secret_alone : AttrId → Dictionary → Bool
is_secret_alone id dictionary =
    is_secret_id id || is_unsplit id || is_undescribed id dictionary
    || is_marked_secret id dictionary

-- of the others, these are the ids that the names make secret
abbrev pub AreFoundIn : Dictionary → List (List ℕ) → List AttrId → Type 0
AreFoundIn dictionary names ids =
    (id : AttrId) → is_secret_alone id dictionary || list_any (id_eq id) ids
    ≡ is_secret_alone id dictionary || list_any (makes_secret id dictionary) names
