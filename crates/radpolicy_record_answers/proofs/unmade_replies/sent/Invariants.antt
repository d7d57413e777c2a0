use Rattle.std.proofs.Common.{◌≡◌, filter, take}
use Rattle.avp_dict.specs.Sent.{is_sent}
use Rattle.radpolicy_record_answers.proofs.unmade_replies.sent.Given as goal

abbrev pub invariant-loop-pair : goal.invariant-loop-pair
invariant-loop-pair l = l.kept.items ≡ filter (is_sent l.dictionary) (take l.pair-index l.pairs)
