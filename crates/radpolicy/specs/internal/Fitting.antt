-- Lists whose pairs fit a dictionary.
use Rattle.std.specs.Prelude.{IsTrue, All, List}
use Rattle.avp_lists.specs.declared.pairs.Pair.{Pair}
use Rattle.avp_dict.specs.Dictionary.{Dictionary}
use Rattle.avp_dict.specs.Limits.{fits}

-- each pair fits
abbrev pub AllFit : Dictionary → List Pair → Type 0
AllFit dictionary pairs = All (λ pair. IsTrue (fits pair dictionary)) pairs
