use Rattle.std.proofs.Common.{◌≡◌, map, rules, subst, sym, length, ◌≤◌, All}
use Rattle.std.proofs.lemmas.List.Elements.{All-push}
use Rattle.avp_dict.specs.Letters.{max_name}
use Rattle.avp_dict.proofs.LineTables.{last_before, line_added}
use Rattle.avp_dict.proofs.tables.keyed.add_line.Goals as goal

pub returns-clause-tables : goal.returns-clause-tables
returns-clause-tables g c =
    let tables = c.requires.tables in
    let lines = c.args.lines.now.items in
    let line = c.args.line in
    let spelled = g.L.Keyed.spelled in
    let at : c.len-place.result ≡ length lines = search rules in
    let grown = c.in_ok-push.ensures.items in
    record {
      by_name = line_added _ _ lines line c.in_ok-before.ensures.table tables.by_name at c.name_key.ensures grown;
      by_number = line_added _ _ lines line c.in_ok-put.ensures.table tables.by_number at c.number_key.ensures grown;
      short = subst (All (λ x. length (spelled x) ≤ max_name)) (sym grown) (All-push (λ x. length (spelled x) ≤ max_name) lines line tables.short c.requires.short);
    }

pub returns-clause-before : goal.returns-clause-before
returns-clause-before g c = λ test alike.
    let lines = c.args.lines.now.items in
    last_before g.L.NameKey.PartialEq.eq g.L.Keyed.name_of lines c.args.line c.name_key.result test c.in_ok-before.before c.name_key.ensures alike (c.in_ok-before.ensures.before (map g.L.Keyed.name_of lines) c.requires.tables.by_name)
