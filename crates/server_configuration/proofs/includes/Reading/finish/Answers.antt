use Rattle.server_configuration.proofs.includes.Reading.finish.Goals as goal

pub returns-in-Some-next_task-clause-placed : goal.returns-in-Some-next_task-clause-placed
returns-in-Some-next_task-clause-placed g c =
    let left = c.next_task-2.new.self in
    c.too_many.ensures left.files.items left.items.items c.in-Some-next_task.ensures.task
