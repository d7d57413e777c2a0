use Rattle.std.proofs.Common.{◌∙◌, ◌++◌, ℕ, List, ap, sym}
use Rattle.std.specs.Option.{option_copied}
use Rattle.std.proofs.lemmas.List.{append-nil}
use Rattle.avp_lists.specs.declared.pairs.Pair.{Pair}
use Rattle.avp_lists.specs.History.{present}
use Rattle.avp_lists.specs.States.{list_of}
use Rattle.radpolicy_c.proofs.Records.{placed}
use Rattle.radpolicy_c.proofs.pairs.CollectedPairs.push_list.Goals as goal
use Rattle.radpolicy_c.proofs.pairs.CollectedPairs.push_list.Goals.{in-Some+in_ok-push, in_default}

pub loop-at-preserved : goal.loop-at-preserved
loop-at-preserved g c =
    let p = c.args.profile in let d = c.args.dictionary.now in
    let xs : List Pair = list_of c.args.list (present (g.S.Store.history c.args.store.now)) in
    elim c.match-pair.branch [
      | in-Some+in_ok-push w ↦ rw (w.self-is) (placed p d xs c.loop-at.at _ _ _ _ _ _ _ (sym c.pair.ensures ∙ ap option_copied w.in-Some.is)
          c.loop-at.invariant.0 c.loop-at.invariant.1
          (w.in_ok-push.ensures.octets ∙ ap (λ (t : List ℕ). c.loop-at.self.octets.items ++ t) (sym (append-nil _))) w.in_ok-push.ensures.pairs)
      | in_default w ↦ rw (w.self-is) (placed p d xs c.loop-at.at _ _ _ _ _ _ _ (sym c.pair.ensures ∙ ap option_copied w.in_default.is)
          c.loop-at.invariant.0 c.loop-at.invariant.1 (sym (append-nil _)) (sym (append-nil _)))
    ]
