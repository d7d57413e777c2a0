use Rattle.std.proofs.Common.{◌≡◌, ◌∙◌, Err, Ok, ap, ap₂, subst, sym}
use Rattle.avp_lists.specs.Meets.{Unless}
use Rattle.avp_dict.specs.Values.{tagged_value, value_of, with_tagged}
use Rattle.avp_dict.specs.internal.Agreeing.{without_values}
use Rattle.avp_dict.specs.internal.Contents.{contents_view}
use Rattle.avp_dict.specs.internal.Meanings.{reading_view}
use Rattle.avp_dict.specs.internal.Refused.{is_memory_word}
use Rattle.avp_dict.proofs.LaterValues.{line_adds, line_disagrees, line_fails}
use Rattle.avp_dict.proofs.contents.Contents.add_number.Goals as goal

pub returns-in-Err-clause-refused : goal.returns-in-Err-clause-refused
returns-in-Err-clause-refused c =
    let d = contents_view c.args.self.now in
    let attribute = c.args.target.name.now in
    let name = c.args.name.now in
    let refused = c.in-Err.refused in
    let read = subst (λ id. Unless (is_memory_word refused) (value_of c.args.skipped.now (without_values d) attribute name c.args.number id ≡ Err refused)) c.requires.target.0 c.in-Err.ensures.value in
    line_fails c.args.skipped.now d (reading_view c.args.reading) attribute name c.args.number c.requires.reading refused c.at_line.result c.at_line.ensures read

pub returns-in_ok-add_tagged-in-Ok-add_value-clause-step : goal.returns-in_ok-add_tagged-in-Ok-add_value-clause-step
returns-in_ok-add_tagged-in-Ok-add_value-clause-step c =
    let d = contents_view c.args.self.now in
    let attribute = c.args.target.name.now in
    let name = c.args.name.now in
    let value = c.in-Ok.value in
    let read = subst (λ id. value_of c.args.skipped.now (without_values d) attribute name c.args.number id ≡ Ok value) c.requires.target.0 c.in-Ok.ensures.value in
    let tagged = c.in_ok-tagged.ensures.value ∙ ap (tagged_value d name c.args.number) c.requires.target.0 in
    line_adds c.args.skipped.now d (reading_view c.args.reading) attribute name c.args.number c.requires.reading value read c.in-Ok-add_value.ensures.agreed
    ∙ ap (λ x. Ok x) (sym (c.in_ok-add_tagged-in-Ok-add_value.ensures.tagged ∙ ap₂ with_tagged c.in-Ok-add_value.ensures.value tagged))

pub returns-in-Err-add_value-clause-refused : goal.returns-in-Err-add_value-clause-refused
returns-in-Err-add_value-clause-refused c =
    let d = contents_view c.args.self.now in
    let attribute = c.args.target.name.now in
    let name = c.args.name.now in
    let value = c.in-Ok.value in
    let read = subst (λ id. value_of c.args.skipped.now (without_values d) attribute name c.args.number id ≡ Ok value) c.requires.target.0 c.in-Ok.ensures.value in
    line_disagrees c.args.skipped.now d (reading_view c.args.reading) attribute name c.args.number c.requires.reading value c.in-Err-add_value.refused
    c.at_line-in-Err-add_value.result read c.at_line-in-Err-add_value.ensures c.in-Err-add_value.ensures.refused
