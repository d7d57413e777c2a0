use Rattle.std.proofs.Common.{ℕ, leb, cond, bit_and, refl, arith}
use Rattle.std.proofs.lemmas.Simd.{length-chunk, splat_is_map, zip2_of_maps, zip2_splat}
use lib.Lanes.{chunk}
use Rattle.avp_dict.specs.Letters.{is_value_name_octet}
use Rattle.avp_dict.proofs.LaneRuns.{none_marked}
use Rattle.avp_dict.proofs.file.name_octets.OfValueNameOctets.has_sixteen.Goals as goal

pub returns : goal.returns
returns c =
    let text = c.args.text.now in
    let v = chunk 0 16 text in
    let long = length-chunk 0 16 text (omega (arith, c.requires)) in
    let from_a = zip2_of_maps _ _ _ v (zip2_splat {Y = ℕ} _ v 16 32 long) (splat_is_map v 16 97 long) in
    let from_dash = zip2_splat {Y = ℕ} _ v 16 45 long in
    let past_z = zip2_of_maps (λ a b. cond (leb a b) 255 0) _ _ v (splat_is_map v 16 26 long) from_a in
    let past_colon = zip2_of_maps (λ a b. cond (leb a b) 255 0) _ _ v (splat_is_map v 16 14 long) from_dash in
    let no_low_line = zip2_splat {Y = ℕ} _ v 16 95 long in
    let no_at = zip2_splat {Y = ℕ} _ v 16 64 long in
    none_marked is_value_name_octet _ text _ c.requires c.type_inv.text (zip2_of_maps bit_and _ _ v (zip2_of_maps bit_and _ _ v (zip2_of_maps bit_and _ _ v past_z past_colon) no_low_line) no_at) refl
