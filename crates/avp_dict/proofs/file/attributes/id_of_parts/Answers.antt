use Rattle.std.proofs.Common.{◌≢◌, length, arith}
use Rattle.std.proofs.lemmas.Bool.Decides.{nat_tests}
use Rattle.avp_dict.proofs.OtherCounts.{many_ids}
use Rattle.avp_dict.proofs.file.attributes.id_of_parts.Goals as goal
use Rattle.avp_dict.proofs.file.attributes.id_of_parts.Goals.{in_default-via-then-parts-lt1, in_default-via-else-parts-lt1+else-parts-lt2+else-parts-lt3}

pub returns-in_default : goal.returns-in_default
returns-in_default c =
    let one : length c.args.parts.now ≢ 1 = elim c.in_default.branch [ in_default-via-then-parts-lt1 w ↦ (λ e. grind (arith, nat_tests, w)) | in_default-via-else-parts-lt1+else-parts-lt2+else-parts-lt3 w ↦ (λ e. grind (arith, nat_tests, w)) ] in
    let two : length c.args.parts.now ≢ 2 = elim c.in_default.branch [ in_default-via-then-parts-lt1 w ↦ (λ e. grind (arith, nat_tests, w)) | in_default-via-else-parts-lt1+else-parts-lt2+else-parts-lt3 w ↦ (λ e. grind (arith, nat_tests, w)) ] in
    rw (many_ids c.args.vendors.now c.args.block c.args.parts.now one two) c.id_of_more.ensures
