-- Targets of update lines after their `&`.
use Rattle.std.specs.Prelude.{◌≡◌, ℕ, List, Some}
use Rattle.avp_lists.specs.declared.lists.List.{List as Name}
use Rattle.avp_dict.specs.Dictionary.{Dictionary}
use Rattle.avp_forms.specs.declared.profiles.Profile.{Profile}
use Rattle.avp_unlang.specs.Between.{Follows}
use Rattle.avp_unlang.specs.Forms.{Form}
use Rattle.avp_unlang.specs.Places.{Place}
use Rattle.avp_unlang.specs.References.{reference_in}
use Rattle.avp_unlang.specs.declared.text.references.Reference.{Reference}
use Rattle.avp_unlang.specs.declared.text.tokens.Token.TheVariants.{Word}

abbrev pub NamedIs : Profile → Dictionary → Name → Form Place Reference
NamedIs profile dictionary own p target rest =
    (word : List ℕ) × Follows (Word word) p rest
    × (reference_in profile dictionary own word ≡ Some target)
