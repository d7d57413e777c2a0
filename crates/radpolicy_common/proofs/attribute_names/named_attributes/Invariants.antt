use Rattle.std.proofs.Common.{◌≡◌, map, take, Some}
use Rattle.std.specs.Option.{option_map}
use Rattle.avp_dict.specs.Names.{named}
use Rattle.radpolicy_common.proofs.attribute_names.named_attributes.Given as goal

abbrev pub invariant-loop-name : goal.invariant-loop-name
invariant-loop-name l =
    map (λ name. option_map (λ entry. entry.id) (named name.now l.dictionary)) (take l.name-index l.names)
    ≡ map (λ id. Some id) l.ids.items
