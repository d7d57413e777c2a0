use Rattle.std.proofs.Common.{◌≡◌, ◌∙◌, List, [], subst, sym}
use Rattle.avp_lists.specs.declared.pairs.Pair.{Pair}
use Rattle.avp_dict.specs.Dictionary.{Dictionary}
use Rattle.avp_unlang.specs.Suiting.{IsSpelled}
use Rattle.avp_unlang.specs.declared.tree.Statement.{Statement}
use Rattle.radpolicy.specs.internal.Starting.{IsFittingList}
use Rattle.radpolicy.proofs.FittingLists.{nothing_fits}
use Rattle.radpolicy.proofs.starts.Start.new.Goals as goal

pub invariant_of-result : goal.invariant_of-result
invariant_of-result c =
    let d = c.dictionary.result.now in
    let nothing : (pairs : List Pair) → pairs ≡ [] → IsFittingList d pairs = λ pairs e. subst (λ (ps : List Pair). IsFittingList d ps) (sym e) (nothing_fits d) in
    record {
      policy =
          subst (λ (statements : List Statement). IsSpelled d statements) (sym c.policy.ensures.policy)
          (subst (λ (own : Dictionary). IsSpelled own c.args.prepared.now.statements) (sym c.dictionary.ensures) c.policy.ensures.spelled);
      code = c.requires.code;
      request = subst (λ (own : Dictionary). IsFittingList own c.args.request.list) (sym c.dictionary.ensures) c.requires.list;
      reply = nothing c.from_vec.result (c.from_vec.ensures ∙ c.new.ensures.items);
      control = nothing c.from_vec-2.result (c.from_vec-2.ensures ∙ c.new-2.ensures.items);
    }
