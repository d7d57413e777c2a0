use Rattle.std.proofs.Common.{◌∷◌, ◌-◌, IsTrue, List, arith, ap, drop, length, subst, sym, take, ◌∙◌}
use Rattle.avp_forms.specs.Expansions.{expanded}
use Rattle.avp_unlang.specs.declared.tree.Part.{Part}
use Rattle.avp_unlang.specs.internal.UnreadTexts.{are_legible}
use Rattle.avp_unlang.proofs.UnreadOctets.{first_legible, front, next_part, read_on, read_out, rest_legible, still_legible}
use Rattle.avp_unlang.proofs.meaning.texts.Unread.next.Goals as goal

pub returns-in-Some-clause-legible : goal.returns-in-Some-clause-legible
returns-in-Some-clause-legible g c =
    still_legible c.args.around.now c.loop-octet.self c.next_here.new.self c.loop-octet.invariant.legible c.in-Some.ensures.few c.in-Some.ensures.parts

pub returns-in-Some-clause-read : goal.returns-in-Some-clause-read
returns-in-Some-clause-read g c =
    c.loop-octet.invariant.left ∙ read_on c.args.around.now c.loop-octet.self c.next_here.new.self c.in-Some.octet c.in-Some.ensures.read c.in-Some.ensures.parts

pub part_expansion-requires : goal.part_expansion-requires
part_expansion-requires g c =
    let parts = c.next_here.new.self.parts.now in
    let rest = take (length parts - 1) (drop 1 parts) in
    let split = sym c.in_default.ensures.parts ∙ front parts c.first-item.result c.in-len1-up.len_at_least c.first-item.is in
    first_legible c.args.around.now c.first-item.result rest (subst (λ (ps : List Part). IsTrue (are_legible c.args.around.now ps)) split c.loop-octet.invariant.legible.1)

pub loop-octet-preserved : goal.loop-octet-preserved
loop-octet-preserved g c =
    let a = c.args.around.now in
    let parts = c.next_here.new.self.parts.now in
    let first = c.first-item.result in
    let rest = take (length parts - 1) (drop 1 parts) in
    let split = sym c.in_default.ensures.parts ∙ front parts first c.in-len1-up.len_at_least c.first-item.is in record {
      legible = (c.part_expansion.ensures.few, rest_legible a first rest (subst (λ (ps : List Part). IsTrue (are_legible a ps)) split c.loop-octet.invariant.legible.1));
      left =
          c.loop-octet.invariant.left ∙ read_out a c.loop-octet.self (first ∷ rest) c.in_default.ensures.read split
          ∙ next_part a (expanded c.part_expansion.result) first rest c.part_expansion.ensures.text;
    }

pub loop-octet-smaller : goal.loop-octet-smaller
loop-octet-smaller g c =
    let parts = c.next_here.new.self.parts.now in
    let l = ap length (sym c.in_default.ensures.parts ∙ front parts c.first-item.result c.in-len1-up.len_at_least c.first-item.is) in
    omega (arith, l)
