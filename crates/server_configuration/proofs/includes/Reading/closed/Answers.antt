use Rattle.server_configuration.proofs.Readings.{line_of_read}
use Rattle.server_configuration.proofs.includes.Reading.closed.Goals as goal

pub returns : goal.returns
returns c =
    let given = c.args.self.now in
    let found = c.in-Some-get.ensures.lookup in
    record {
      placed = line_of_read given.files.items given.items.items c.deref.result.now c.in-Some.place
          c.in-Some-get.item.now c.deref.ensures.value found.3.0 found.1 c.requires.lines;
    }
