use Rattle.std.proofs.Common.{ℕ, refl, arith, rules}
use Rattle.std.proofs.lemmas.Simd.{length-chunk, splat_is_map, zip2_of_maps, zip2_splat}
use lib.Lanes.{chunk}
use Rattle.avp_dict.specs.Words.{lower}
use Rattle.avp_dict.proofs.LaneRuns.{sixteen_put}
use Rattle.avp_dict.proofs.file.lanes.fold_sixteen.Goals as goal

pub returns : goal.returns
returns c =
    let text = c.args.text.now in
    let v = chunk 0 16 text in
    let long = length-chunk 0 16 text (omega (arith, c.requires)) in
    let from_a = zip2_splat {Y = ℕ} _ v 16 65 long in
    let capitals = zip2_of_maps _ _ _ v from_a (splat_is_map v 16 26 long) in
    let small = zip2_splat {Y = ℕ} _ v 16 32 long in
    sixteen_put _ _ lower text _ _ c.requires (search rules) capitals small refl
