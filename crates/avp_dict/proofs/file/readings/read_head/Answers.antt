use Rattle.avp_dict.specs.Readings.{read_head}
use Rattle.avp_dict.proofs.file.readings.read_head.Goals as goal

pub returns-then-is_include : goal.returns-then-is_include
unfolding read_head
returns-then-is_include c = rw (← c.if-is_include.ensures) c.include.ensures

pub returns-then-same_name : goal.returns-then-same_name
unfolding read_head
returns-then-same_name c =
    rw (← c.if-is_include.ensures, ← c.if-same_name.ensures)
    (rw c.as_slice-opened.ensures.value at c.begin_vendor.ensures)

pub returns-then-same_name-2 : goal.returns-then-same_name-2
unfolding read_head
returns-then-same_name-2 c =
    rw (← c.if-is_include.ensures, ← c.if-same_name.ensures, ← c.if-same_name-2.ensures)
    (rw c.as_slice-opened.ensures.value at c.end_vendor.ensures)

pub returns-then-same_name-3 : goal.returns-then-same_name-3
unfolding read_head
returns-then-same_name-3 c =
    rw (← c.if-is_include.ensures, ← c.if-same_name.ensures, ← c.if-same_name-2.ensures, ← c.if-same_name-3.ensures)
    c.begin_tlv.ensures

pub returns-then-same_name-4 : goal.returns-then-same_name-4
unfolding read_head
returns-then-same_name-4 c =
    rw (← c.if-is_include.ensures, ← c.if-same_name.ensures, ← c.if-same_name-2.ensures, ← c.if-same_name-3.ensures, ← c.if-same_name-4.ensures)
    (rw c.as_slice-opened.ensures.value at c.end_tlv.ensures)
