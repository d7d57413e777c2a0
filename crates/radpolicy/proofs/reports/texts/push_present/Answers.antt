use Rattle.std.proofs.Common.{IsTrue, ◌≡◌, ◌∙◌, ◌++◌, ◌+◌, ℕ, List, codes, take, ap, sym}
use Rattle.std.specs.List.{flat_map}
use Rattle.std.proofs.lemmas.List.{append-nil}
use Rattle.std.specs.Option.{option_copied}
use Rattle.avp_lists.specs.declared.pairs.Pair.{Pair}
use Rattle.avp_lists.specs.History.{present}
use Rattle.avp_lists.specs.States.{list_of}
use Rattle.avp_dict.specs.Limits.{fits}
use Rattle.radpolicy.specs.Reports.{pair_line}
use Rattle.radpolicy.proofs.PresentLists.{at_place, one_more, of_item, joined}
use Rattle.radpolicy.proofs.reports.texts.push_present.Goals as goal
use Rattle.radpolicy.proofs.reports.texts.push_present.Goals.{in-Some+in_ok-push_pair, in_default}

pub loop-at-preserved : goal.loop-at-preserved
loop-at-preserved g c =
    let line : Pair → List ℕ = pair_line c.args.profile c.args.dictionary.now in
    let xs : List Pair = list_of c.args.list (present (g.S.Store.history c.args.store.now)) in
    let more : flat_map line (take (c.loop-at.at + 1) xs) ≡ flat_map line (take c.loop-at.at xs) ++ of_item line (option_copied c.pair.result) = one_more line xs c.loop-at.at ∙ ap (λ o. flat_map line (take c.loop-at.at xs) ++ of_item line o) (sym c.pair.ensures) in
    elim c.match-pair.branch [
      | in-Some+in_ok-push_pair w ↦ rw (more, w.text-is, w.in-Some.is) (joined _ _ _ _ _ w.in_ok-push_pair.ensures c.loop-at.invariant)
      | in_default w ↦ rw (more, w.text-is, w.in_default.is) (c.loop-at.invariant ∙ ap (λ (ys : List ℕ). c.args.text.now.items ++ c.args.name.now ++ codes "\n" ++ ys) (sym (append-nil _)))
    ]

pub push_pair-requires : goal.push_pair-requires
push_pair-requires g c = at_place (λ p. IsTrue (fits p c.args.dictionary.now)) _ c.loop-at.at _ c.requires (sym c.pair.ensures ∙ ap option_copied c.in-Some.is)
