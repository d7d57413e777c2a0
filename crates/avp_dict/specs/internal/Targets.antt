-- What is known of the attribute that a VALUE line names.
use Rattle.std.specs.Prelude.{◌≡◌, List}
use Rattle.std.specs.Option.{option_and_then}
use Rattle.avp_dict.specs.declared.entries.AttributeLine.{AttributeLine}
use Rattle.avp_dict.specs.declared.file.values.Target.{Target}
use Rattle.avp_dict.specs.Dictionary.{id_named, typing_of_id}

-- its id and how its values are read, by these lines
abbrev pub IsTarget : List AttributeLine → Target → Type 0
IsTarget attributes t =
    (t.id ≡ id_named t.name.now attributes)
    × (t.typing ≡ option_and_then (λ i. typing_of_id i attributes) t.id)
