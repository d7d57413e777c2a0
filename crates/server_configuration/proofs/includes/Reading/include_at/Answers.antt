use Rattle.std.proofs.Common.{◌+◌, ◌≤◌, arith}
use Rattle.server_configuration.proofs.Readings.{line_of_read, section_of_read}
use Rattle.server_configuration.proofs.includes.Reading.include_at.Goals as goal

pub returns-then-naming-ge-MAX_DEPTH-clause-placed : goal.returns-then-naming-ge-MAX_DEPTH-clause-placed
returns-then-naming-ge-MAX_DEPTH-clause-placed c =
    let given = c.args.self.now in
    let found = c.in-Some.ensures.lookup in
    c.refused.ensures given.files.items
    (line_of_read given.files.items given.items.items c.deref.result.now c.args.place c.in-Some.item.now
    c.deref.ensures.value found.3.0 found.1 c.requires.lines)

pub returns-in-Err-clause-placed : goal.returns-in-Err-clause-placed
returns-in-Err-clause-placed c =
    let given = c.args.self.now in
    let found = c.in-Some.ensures.lookup in
    c.refused-in-Err.ensures given.files.items
    (line_of_read given.files.items given.items.items c.deref.result.now c.args.place c.in-Some.item.now
    c.deref.ensures.value found.3.0 found.1 c.requires.lines)

pub returns-clause-found : goal.returns-clause-found
returns-clause-found c =
    let given = c.args.self.now in
    let found = c.in-Some.ensures.lookup in
    record {
      line = line_of_read given.files.items given.items.items c.deref.result.now c.args.place c.in-Some.item.now
          c.deref.ensures.value found.3.0 found.1 c.requires.lines;
      section = section_of_read given.items.items c.deref.result.now c.args.place c.in-Some.item.now
          c.deref.ensures.value found.3.0 found.1 c.requires.nested;
      depth = omega arith;
    }
