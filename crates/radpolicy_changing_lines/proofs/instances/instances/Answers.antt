use Rattle.std.proofs.Common.{◌≡◌, ◌∙◌, ◌++◌, ◌+◌, List, take, ap, sym}
use Rattle.std.proofs.lemmas.List.{append-nil}
use Rattle.std.specs.Option.{option_copied}
use Rattle.avp_lists.specs.History.{present}
use Rattle.avp_lists.specs.Instances.{instances}
use Rattle.avp_lists.specs.States.{list_of}
use Rattle.avp_lists.specs.declared.pairs.Pair.{Pair}
use Rattle.radpolicy_changing_lines.proofs.Gathering.{joined, of_item, one_more}
use Rattle.radpolicy_changing_lines.proofs.instances.instances.Goals as goal
use Rattle.radpolicy_changing_lines.proofs.instances.instances.Goals.{in-Some+in_ok-push_instance, in_default}

pub loop-at-preserved : goal.loop-at-preserved
loop-at-preserved g c =
    let xs : List Pair = list_of c.args.list (present (g.S.Store.history c.args.store.now)) in
    let front : List Pair = instances c.args.id (take c.loop-at.at xs) in
    let more : instances c.args.id (take (c.loop-at.at + 1) xs) ≡ front ++ of_item c.args.id (option_copied c.pair.result) = one_more c.args.id xs c.loop-at.at ∙ ap (λ o. front ++ of_item c.args.id o) (sym c.pair.ensures) in
    elim c.match-pair.branch [
      | in-Some+in_ok-push_instance w ↦ rw (more, w.found-is, w.in-Some.is) (joined _ _ _ _ w.in_ok-push_instance.ensures c.loop-at.invariant)
      | in_default w ↦ rw (more, w.found-is, w.in_default.is) (c.loop-at.invariant ∙ sym (append-nil _))
    ]
