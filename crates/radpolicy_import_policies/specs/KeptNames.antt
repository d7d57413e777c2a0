-- A dictionary that keeps the names of another: each has the id that it had, and the id its name, type and form.
use Rattle.std.specs.Prelude.{◌≡◌, ℕ, All, List, Some}
use Rattle.avp_lists.specs.declared.pairs.AttrId.{AttrId}
use Rattle.avp_dict.specs.Dictionary.{Dictionary, first_names}
use Rattle.avp_dict.specs.Names.{described, form_of, named}
use Rattle.avp_dict.specs.declared.entries.Named.{Named}

-- an id is described as it was
pub record KeepsId (old new : Dictionary) (id : AttrId) : Type 0 where
  pub described : described id new ≡ described id old
  pub form : form_of id new ≡ form_of id old

-- a name that stands for an id stands for it still
abbrev pub KeepsName : Dictionary → Dictionary → List ℕ → Type 0
KeepsName old new name =
    (n : Named) → named name old ≡ Some n → (named name new ≡ Some n) × KeepsId old new n.id

abbrev pub KeepsNames : Dictionary → Dictionary → Type 0
KeepsNames old new = All (KeepsName old new) (first_names old.attributes)
