use Rattle.server_configuration.proofs.Readings.{taken}
use Rattle.server_configuration.proofs.includes.Reading.next_task.Goals as goal

pub returns : goal.returns
returns c =
    let given = c.args.self.now in
    let rest = taken given.files.items given.items.items given.tasks.items c.pop.new.self.items c.pop.result
    c.requires c.pop.ensures.items in
    record { reading = rest.0; task = rest.1 }
