use Rattle.std.proofs.Common.{ℕ, ◌≡◌, ◌-◌, ◌≤◌, ◌++◌, length, replicate, ap₂, refl, ◌+◌, arith}
use Rattle.std.proofs.lemmas.List.{drop-replicate, length-append}
use Rattle.std.proofs.lemmas.Simd.{length-replicate}
use Rattle.avp_dict.proofs.FoldedNames.{folded_more, folded_name}
use Rattle.avp_dict.proofs.tables.keys.folded.Goals as goal

pub loop-i-init : goal.loop-i-init
loop-i-init c = record {
  whole = refl;
  within = omega arith;
  done = ap₂ (λ name after. name ++ after) c.copy_from_slice.ensures.after (drop-replicate (length c.args.name.now) 128 0);
}

pub loop-i-preserved : goal.loop-i-preserved
loop-i-preserved c =
    let name = c.args.name.now in
    let zero : ℕ = 0 in
    let after = replicate (128 - length name) zero in
    let long : length (name ++ after) ≡ 128 = omega (arith, length-append name after, length-replicate (128 - length name) zero, c.requires) in
    let within : c.loop-i.i + 16 ≤ 128 = omega (arith, c.loop-i.invariant.whole, c.loop-i-test.true, c.requires) in record {
      whole = omega (arith, c.loop-i.invariant.whole);
      within = within;
      done = folded_more (name ++ after) c.loop-i.octets c.fold_sixteen.new.text c.loop-i.i (128 - c.loop-i.i) (omega (arith, long, within)) (omega (arith, long)) c.loop-i.invariant.done c.fold_sixteen.ensures;
    }

pub returns : goal.returns
returns c =
    let name = c.args.name.now in
    let zero : ℕ = 0 in
    let after = replicate (128 - length name) zero in
    let long : length (name ++ after) ≡ 128 = omega (arith, length-append name after, length-replicate (128 - length name) zero, c.requires) in
    folded_name name after c.loop-i.octets c.loop-i.i (omega (arith, c.loop-i-test.false)) (omega (arith, long, c.loop-i.invariant.within)) c.loop-i.invariant.done
