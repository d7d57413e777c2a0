use Rattle.std.proofs.Common.{arith, sym}
use Rattle.std.specs.List.{slice_split}
use Rattle.avp_dict.specs.Spellings.{is_colon}
use Rattle.avp_dict.proofs.Misspellings.{some_part}
use Rattle.avp_forms.proofs.TooManyParts.{more_tags}
use Rattle.avp_forms.proofs.targets.tagged_of.Goals as goal

pub returns-in-Some : goal.returns-in-Some
returns-in-Some c =
    let more = some_part is_colon c.in-Some.field-0.1.now in
    sym (more_tags c.args.dictionary.now (slice_split is_colon c.args.name.now) (rw (c.in_ok-before.ensures.cut, c.in-Some.ensures.cut) (omega arith)))
