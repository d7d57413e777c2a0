use Rattle.std.proofs.Common.{◌+◌, ◌∙◌}
use Rattle.server_configuration.specs.Places.{line_feeds}
use Rattle.server_configuration.proofs.Readings.{begun, last_line_of_new}
use Rattle.server_configuration.proofs.includes.Reading.begin.Goals as goal

pub returns-in_ok-push-in-Ok-clause-reading : goal.returns-in_ok-push-in-Ok-clause-reading
returns-in_ok-push-in-Ok-clause-reading c =
    let given = c.args.self.now in
    begun given.files.items c.push.new.self.items given.items.items given.tasks.items c.push-in-Ok.new.self.items
    c.args.file c.deref.result.now
    record {
      file = c.len-place.result;
      statements = c.in-Ok.statements;
      section = c.args.section;
      outer = c.args.section;
    }
    c.requires.reading c.requires.room c.requires.size c.requires.depth c.requires.section c.requires.section
    (c.len-place.ensures ∙ given.files.ok.0) c.deref.ensures.value c.in-Ok.ensures.read c.in_ok-push.ensures.items
    c.in_ok-push-in-Ok.ensures.items

pub returns-in-Err-clause-placed : goal.returns-in-Err-clause-placed
returns-in-Err-clause-placed c =
    c.in_file.ensures c.push.new.self.items (1 + line_feeds c.deref.result.now)
    (last_line_of_new c.args.self.now.files.items c.push.new.self.items c.args.file c.deref.result.now
    c.len-place.result c.in_ok-push.ensures.items (c.len-place.ensures ∙ c.args.self.now.files.ok.0) c.deref.ensures.value)
    c.in-Err.ensures.refused
