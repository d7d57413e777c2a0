-- The names of the policies that a line was put in by.
use Rattle.std.proofs.Common.{◌≡◌, ◌++◌, ◌≤◌, ℕ, List, [], ◌∷◌, arith, codes, drop, get_or, length, refl}
use Rattle.std.specs.List.{flat_map}
use Rattle.server_configuration.specs.declared.items.Item.{Item}
use Rattle.radpolicy_import_policies.specs.OriginTexts.{inner_name, policies_text, policy_name}

pub shown : (items : List Item) (places : List ℕ) → 1 ≤ length places
    → policies_text items places
    ≡ codes " (" ++ policy_name items (get_or places 0 0) ++ flat_map (inner_name items) (drop 1 places) ++ codes ")"
shown items [] h = absurd (omega arith)
shown items (outermost ∷ others) h = refl
