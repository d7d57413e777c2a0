use Rattle.std.proofs.Common.{subst, sym}
use Rattle.radpolicy_traffic.specs.Growth.{no_texts, texts_of}
use Rattle.radpolicy_traffic.specs.internal.Marks.{IsMarkOf}
use Rattle.radpolicy_traffic.specs.declared.marks.Mark.{Mark}
use Rattle.radpolicy_traffic.proofs.Growing.{grown_after, new_is_grown}
use Rattle.radpolicy_traffic.proofs.open_records.OpenRecord.with_mark.Goals as goal

pub returns-in-Code : goal.returns-in-Code
returns-in-Code c = λ line is. new_is_grown line c.new.result c.new.ensures

pub returns-in_default : goal.returns-in_default
returns-in_default c = λ line is. new_is_grown line c.new-in_default.result c.new-in_default.ensures

pub returns-in_ok-add-in-Attribute : goal.returns-in_ok-add-in-Attribute
returns-in_ok-add-in-Attribute c = λ line is.
    let P : Mark → Type 0 = λ mark. IsMarkOf line mark in
    grown_after line no_texts (texts_of c.in_ok-begun-in-Attribute.begun.record) c.add.new.self.record
    (sym c.in_ok-begun-in-Attribute.ensures) (c.in_ok-add-in-Attribute.ensures line (subst P c.in-Attribute.is is))
