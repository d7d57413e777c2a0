use Rattle.std.proofs.Common.{◌≡◌, ◌++◌, take}
use Rattle.std.specs.List.{flat_map}
use Rattle.radpolicy_record_answers.specs.Records.{octet_shown}
use Rattle.radpolicy_record_answers.proofs.records.push_word.Given as goal

abbrev pub invariant-loop-octet : goal.invariant-loop-octet
invariant-loop-octet l = l.text.items ≡ l.fn.text.items ++ flat_map octet_shown (take l.octet-index l.word)
