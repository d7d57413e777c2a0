use Rattle.std.proofs.Common.{sym, ap, subst}
use Rattle.std.specs.Prelude.{is_some}
use Rattle.avp_unlang.specs.Forms.{While}
use Rattle.avp_unlang.specs.Parts.{begins_octet, OctetIs}
use Rattle.avp_unlang.proofs.PartsOne.{octet_one, moved_on, moved_more}
use Rattle.avp_unlang.proofs.ValueRuns.{run_more, run_done}
use Rattle.avp_unlang.proofs.text.parts.octets.Goals as goal

pub loop-found-preserved : goal.loop-found-preserved
loop-found-preserved c = record {
  run =
      run_more begins_octet OctetIs octet_one c.args.text c.loop-found.octets.items c.loop-found.rest c.in-Some.found c.in-Some.after
      c.loop-found.invariant.run (ap is_some (sym c.in-Some.ensures.same)) (sym c.in-Some.ensures.same) c.push.new.self.items c.in_ok-push.ensures.items;
  moved = moved_more c.args.text c.loop-found.rest c.in-Some.after c.loop-found.invariant.moved c.in-Some.ensures.shorter;
}

pub returns-clause-read : goal.returns-clause-read
returns-clause-read c =
    subst (λ found. While begins_octet OctetIs c.args.text found c.loop-found.rest) (sym c.from_vec.ensures)
    (run_done begins_octet OctetIs c.args.text c.loop-found.octets.items c.loop-found.rest c.loop-found.invariant.run (ap is_some (sym c.in_default.ensures.same)))

pub returns-clause-shorter : goal.returns-clause-shorter
returns-clause-shorter c = moved_on c.args.text c.loop-found.rest c.loop-found.invariant.moved (sym c.in_default.ensures.same)
