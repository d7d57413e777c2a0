-- How long the first element is.
use Rattle.std.specs.Prelude.{ℕ, suc, if◌then◌else◌, List, [], ◌∷◌}
use Rattle.radpolicy_common.specs.Pieces.{Piece}
use Rattle.radpolicy_common.specs.PolicyTexts.{ends_element}
use Rattle.radpolicy_common.specs.declared.elements.Reading.{Reading}

abbrev pub element_length : Reading → List Piece → ℕ
element_length r [] = 0
element_length r (p ∷ ps) = if ends_element r p ps then 1 else suc (element_length r ps)
