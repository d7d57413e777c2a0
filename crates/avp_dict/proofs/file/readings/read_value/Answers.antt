use Rattle.std.proofs.Common.{◌≢◌, length, arith}
use Rattle.std.proofs.lemmas.Bool.Decides.{nat_tests}
use Rattle.avp_dict.proofs.OtherCounts.{no_value}
use Rattle.avp_dict.proofs.file.readings.read_value.Goals as goal
use Rattle.avp_dict.proofs.file.readings.read_value.Goals.{in_default-via-then-words-lt3, in_default-via-else-words-lt3+else-words-lt4}

pub returns-in_default : goal.returns-in_default
returns-in_default c =
    let three : length c.args.words.now ≢ 3 = elim c.in_default.branch [ in_default-via-then-words-lt3 w ↦ (λ e. grind (arith, nat_tests, w)) | in_default-via-else-words-lt3+else-words-lt4 w ↦ (λ e. grind (arith, nat_tests, w)) ] in
    rw c.miscounted.ensures (no_value c.args.words.now three)
