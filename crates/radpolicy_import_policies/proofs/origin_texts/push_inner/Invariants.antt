use Rattle.std.proofs.Common.{◌≡◌, ◌++◌, take}
use Rattle.std.specs.List.{flat_map}
use Rattle.radpolicy_import_policies.specs.OriginTexts.{inner_name}
use Rattle.radpolicy_import_policies.proofs.origin_texts.push_inner.Given as goal

abbrev pub invariant-loop-policy : goal.invariant-loop-policy
invariant-loop-policy l =
    l.out.items ≡ l.fn.out.items ++ flat_map (inner_name l.configuration.items.items) (take l.policy-index l.policies)
