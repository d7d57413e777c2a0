-- Which orders meet a relation.
use Rattle.std.specs.Prelude.{Bool}
use Rattle.std.specs.Ordering.{is_eq, is_ne, is_lt, is_le, is_gt, is_ge}
use Rattle.std.specs.declared.cmp.Ordering.{Ordering}
use Rattle.avp_unlang.specs.declared.tree.Relation.{Relation}
use Rattle.avp_unlang.specs.declared.tree.Relation.TheVariants.{Equal, Differs, Less, AtMost, Greater, AtLeast}

abbrev pub meets : Relation → Ordering → Bool
meets Equal o = is_eq o
meets Differs o = is_ne o
meets Less o = is_lt o
meets AtMost o = is_le o
meets Greater o = is_gt o
meets AtLeast o = is_ge o
