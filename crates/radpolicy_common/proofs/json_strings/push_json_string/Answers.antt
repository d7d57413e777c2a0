use Rattle.std.proofs.Common.{IsUtf8, subst, sym}
use Rattle.radpolicy_common.specs.JsonStrings.{json_octets, json_string}
use Rattle.radpolicy_common.proofs.Escapes.{added_has_no_separator, added_has_none, added_is_utf8, octets_are_text, octets_have_none, string_has_none, string_is_text}
use Rattle.radpolicy_common.proofs.json_strings.push_json_string.Goals as goal

pub returns-in-Ok-clause-no_markup : goal.returns-in-Ok-clause-no_markup
returns-in-Ok-clause-no_markup c = λ markup.
    added_has_none c.push_string.result c.args.text.now.items c.push_string.new.text.items (json_string c.args.escaping c.in-Ok.string.now) (string_has_none c.args.escaping c.in-Ok.string.now markup) c.push_string.ensures

pub returns-in-Err-clause-no_markup : goal.returns-in-Err-clause-no_markup
returns-in-Err-clause-no_markup c = λ markup.
    added_has_none c.push_octets.result c.args.text.now.items c.push_octets.new.text.items (json_octets c.args.octets.now) (octets_have_none c.args.octets.now) c.push_octets.ensures

pub returns-in-Ok-clause-no_separator : goal.returns-in-Ok-clause-no_separator
returns-in-Ok-clause-no_separator c = λ markup. (
    let utf8 : IsUtf8 c.in-Ok.string.now = subst IsUtf8 (sym c.in-Ok.ensures.cases.0) c.in-Ok.ensures.cases.1 in
    added_has_no_separator c.args.escaping c.push_string.result c.args.text.now.items c.push_string.new.text.items (json_string c.args.escaping c.in-Ok.string.now) markup (string_is_text c.args.escaping c.in-Ok.string.now utf8) c.push_string.ensures)

pub returns-in-Err-clause-no_separator : goal.returns-in-Err-clause-no_separator
returns-in-Err-clause-no_separator c = λ markup.
    added_has_no_separator c.args.escaping c.push_octets.result c.args.text.now.items c.push_octets.new.text.items (json_octets c.args.octets.now) markup (octets_are_text c.args.escaping c.args.octets.now) c.push_octets.ensures

pub returns-in-Ok-clause-utf8 : goal.returns-in-Ok-clause-utf8
returns-in-Ok-clause-utf8 c =
    let utf8 : IsUtf8 c.in-Ok.string.now = subst IsUtf8 (sym c.in-Ok.ensures.cases.0) c.in-Ok.ensures.cases.1 in
    added_is_utf8 c.args.escaping c.push_string.result c.args.text.now.items c.push_string.new.text.items (json_string c.args.escaping c.in-Ok.string.now) (string_is_text c.args.escaping c.in-Ok.string.now utf8) c.push_string.ensures

pub returns-in-Err-clause-utf8 : goal.returns-in-Err-clause-utf8
returns-in-Err-clause-utf8 c =
    added_is_utf8 c.args.escaping c.push_octets.result c.args.text.now.items c.push_octets.new.text.items (json_octets c.args.octets.now) (octets_are_text c.args.escaping c.args.octets.now) c.push_octets.ensures
