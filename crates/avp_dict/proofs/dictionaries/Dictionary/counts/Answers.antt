use Rattle.avp_dict.specs.Counts.{counts_of}
use Rattle.avp_dict.proofs.CountedNames.{attributes_counted, values_counted, vendors_counted}
use Rattle.avp_dict.proofs.dictionaries.Dictionary.counts.Goals as goal

pub returns : goal.returns
unfolding counts_of
returns c =
    let held = c.self.inside.contents in
    rw (c.count.ensures, c.count-2.ensures, c.count-3.ensures, ← c.self.view_is, attributes_counted held.attributes, values_counted held.values, vendors_counted held.vendors)
