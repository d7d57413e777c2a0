use Rattle.std.proofs.Common.{◌∙◌, ◌<◌, List, ℕ, length, sym, arith, refl, subst}
use Rattle.avp_dict.specs.Lines.{texts_of}
use Rattle.avp_dict.specs.RefusedPlaces.{IsRefusedAfter}
use Rattle.avp_dict.specs.RequestLines.{is_idle_line, tokens_at}
use Rattle.avp_dict.specs.declared.request.tokens.Side.TheVariants.{Name}
use Rattle.avp_dict.proofs.FilledLines.{front_fails}
use Rattle.avp_dict.proofs.FirstRefusals.{after_no_memory}
use Rattle.avp_dict.proofs.PairSteps.{none_left, some_left}
use Rattle.avp_dict.proofs.request.lines.end_of_packet.Goals as goal

pub returns-in_default-clause-ok : goal.returns-in_default-clause-ok
returns-in_default-clause-ok c = none_left is_idle_line (texts_of c.args.rest.now) (sym c.without_idle_lines-rest.ensures.lines ∙ c.in_default.ensures.cut)

pub kind_after_packet-requires : goal.kind_after_packet-requires
kind_after_packet-requires c = front_fails is_idle_line (texts_of c.args.rest.now) c.in-Some.line.now _ (sym c.without_idle_lines-rest.ensures.lines ∙ c.in-Some.ensures.cut)

pub returns-clause-err : goal.returns-clause-err
returns-clause-err c = some_left is_idle_line (texts_of c.args.rest.now) _ _ (sym c.without_idle_lines-rest.ensures.lines ∙ c.in-Some.ensures.cut)

pub returns-clause-place : goal.returns-clause-place
returns-clause-place c =
    let rest : List ℕ = c.without_idle_lines-rest.result.now in
    let some : 0 < length rest = omega (arith, c.in-Some.ensures.shorter) in
    rw (c.at.ensures.kind, c.at.ensures.left)
    (record {
      rest = rest;
      idle = c.without_idle_lines-rest.ensures.idle;
      some = some;
      left_is = refl;
      refused = subst (λ (line : List ℕ). IsRefusedAfter c.kind_after_packet.result (tokens_at Name line)) c.in-Some.ensures.line c.kind_after_packet.ensures;
    })

pub returns-clause-kind : goal.returns-clause-kind
returns-clause-kind c = rw c.at.ensures.kind (after_no_memory c.kind_after_packet.result _ c.kind_after_packet.ensures)
