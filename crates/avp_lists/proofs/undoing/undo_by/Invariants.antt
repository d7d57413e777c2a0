use Rattle.std.proofs.Common.{◌≡◌, ◌-◌, ◌+◌}
use Rattle.avp_lists.specs.History.{at_place}
use Rattle.avp_lists.proofs.undoing.undo_by.Given as goal

-- as many states back as turns
abbrev pub invariant-loop : goal.invariant-loop
invariant-loop g l =
    let history = g.S.Store.history in
    let room = g.S.Store.room in
    record {
      moved : history l.store ≡ at_place ((history l.fn.store).place - l.counter) (history l.fn.store);
      kept : (history l.store).place + room l.store ≡ (history l.fn.store).place + room l.fn.store;
    }
