use Rattle.std.proofs.Common.{ap, sym, ◌∙◌}
use Rattle.avp_unlang.specs.Conditions.{reference_alone}
use Rattle.avp_unlang.proofs.TextsRead.{instance_reads, other_type_reads, other_type_tells, octets_read, octets_tell}
use Rattle.avp_unlang.proofs.text.operands.related_to_text.Goals as goal

pub returns-in-Some-clause-read : goal.returns-in-Some-clause-read
returns-in-Some-clause-read c =
    let d = c.args.dictionary.now in
    instance_reads d c.args.found c.args.relation c.args.at.now c.in-Some.other (ap (reference_alone d) (sym c.token.ensures) ∙ c.in-Some.ensures.alike.0) c.in-Some.ensures.alike.1 (sym c.if-is_barred.ensures)
    c.instance_related-cond.result c.after.result c.instance_related-cond.ensures (sym (ap (λ k. k.1) c.after.ensures.follows))

pub returns-then-is_beside_texts-clause-read : goal.returns-then-is_beside_texts-clause-read
returns-then-is_beside_texts-clause-read c =
    let d = c.args.dictionary.now in
    octets_read d c.args.found c.args.relation c.args.at.now (λ other is e. c.in_default.ensures.none other (ap (reference_alone d) c.token.ensures ∙ is) e) (sym c.if-is_beside_texts.ensures)
    (sym c.if-is_barred.ensures) c.instance_beside.result c.instance_beside.ensures.read

pub returns-then-is_beside_texts-clause-refused : goal.returns-then-is_beside_texts-clause-refused
returns-then-is_beside_texts-clause-refused c =
    let d = c.args.dictionary.now in
    octets_tell d c.args.found c.args.relation c.args.at.now (λ other is e. c.in_default.ensures.none other (ap (reference_alone d) c.token.ensures ∙ is) e) (sym c.if-is_beside_texts.ensures)
    c.args.name.left (sym c.if-is_barred.ensures) c.instance_beside.result c.instance_beside.ensures.refused

pub returns-else-is_beside_texts-clause-read : goal.returns-else-is_beside_texts-clause-read
returns-else-is_beside_texts-clause-read c = λ some x rest.
    let d = c.args.dictionary.now in
    other_type_reads d c.args.found c.args.relation c.args.at.now (λ other is e. c.in_default.ensures.none other (ap (reference_alone d) c.token.ensures ∙ is) e)
    (sym c.if-is_beside_texts.ensures) x rest

pub returns-else-is_beside_texts-clause-refused : goal.returns-else-is_beside_texts-clause-refused
returns-else-is_beside_texts-clause-refused c = λ some.
    let d = c.args.dictionary.now in
    other_type_tells d c.args.found c.args.relation c.args.at.now (λ other is e. c.in_default.ensures.none other (ap (reference_alone d) c.token.ensures ∙ is) e)
    (sym c.if-is_beside_texts.ensures) c.args.name.left (sym c.if-is_barred.ensures) c.refused.result.left c.refused.result.kind c.refused.ensures.place c.refused.ensures.kind
