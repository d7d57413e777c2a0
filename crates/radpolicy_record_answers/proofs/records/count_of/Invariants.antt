use Rattle.std.proofs.Common.{◌≡◌, ◌==◌, take}
use Rattle.std.specs.List.{count_by}
use Rattle.radpolicy_record_answers.proofs.records.count_of.Given as goal

abbrev pub invariant-loop-octet : goal.invariant-loop-octet
invariant-loop-octet l = l.count ≡ count_by (λ o. o == l.sign) (take l.octet-index l.word)
