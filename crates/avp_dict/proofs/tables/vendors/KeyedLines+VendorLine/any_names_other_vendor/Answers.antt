use Rattle.std.proofs.Common.{◌==◌, ◌∙◌, sym, ap}
use Rattle.avp_dict.specs.internal.Agreeing.{differs}
use Rattle.avp_dict.proofs.AgreeingLines.{other_vendor_by_last}
use Rattle.avp_dict.proofs.tables.vendors.KeyedLines+VendorLine.any_names_other_vendor.Goals as goal

pub returns : goal.returns
returns c = c.differs.ensures ∙ ap (differs (λ a b. a == b) c.args.number) c.vendor_named.ensures ∙ sym (other_vendor_by_last c.args.self.now c.args.name.now c.args.number c.requires)
