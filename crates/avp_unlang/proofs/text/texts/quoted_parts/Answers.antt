use Rattle.std.proofs.Common.{sym, subst}
use Rattle.avp_unlang.specs.Conditions.{QuotedParts}
use Rattle.avp_dict.specs.declared.value.quotes.QuoteMark.TheVariants.{Double}
use Rattle.avp_forms.specs.declared.profiles.Profile.TheVariants.{Wider}
use Rattle.avp_unlang.specs.Forms.{ReadsAll}
use Rattle.avp_unlang.specs.Parts.{PartsAre}
use Rattle.avp_unlang.proofs.text.texts.quoted_parts.Goals as goal

pub returns-in-Double-clause-read : goal.returns-in-Double-clause-read
returns-in-Double-clause-read c =
    let read : ReadsAll (QuotedParts c.args.dictionary.now Double c.args.text.now) c.parts.result =
    subst (λ os. ReadsAll (PartsAre Wider c.args.dictionary.now os) c.parts.result) c.copy.ensures c.parts.ensures.read in
    subst (λ mark. ReadsAll (QuotedParts c.args.dictionary.now mark c.args.text.now) c.parts.result) (sym c.in-Double.is) read
