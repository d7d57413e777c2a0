use Rattle.std.proofs.Common.{◌≡◌, ◌∙◌, List, refl, ap, subst, sym}
use Rattle.std.specs.Prelude.{All}
use Rattle.avp_dict.specs.AttributeNumbers.{proxy_state}
use Rattle.avp_lists.specs.declared.pairs.AttrId.TheVariants.{Plain}
use Rattle.avp_lists.specs.declared.pairs.Pair.{Pair}
use Rattle.avp_lists.specs.Instances.{instances}
use Rattle.radpolicy.specs.internal.Fitting.{AllFit}
use Rattle.radpolicy.proofs.Replying.{head_answers, instances_are, instances_fit}
use Rattle.radpolicy.proofs.replies.reply_head.Goals as goal

pub returns-clause-made : goal.returns-clause-made
returns-clause-made c = record {
  secret = refl;
  code = refl;
  id = refl;
  authenticator = c.in_ok-answered_authenticator.ensures;
  signed = c.signs_reply.ensures.test;
  proxies = c.in_ok-proxy_states_of.ensures ∙ ap (instances (Plain proxy_state)) c.as_slice.ensures;
}

pub returns-clause-head : goal.returns-clause-head
returns-clause-head c = λ end.
    let proxies = c.in_ok-proxy_states_of.ensures ∙ ap (instances (Plain proxy_state)) c.as_slice.ensures in
    head_answers c.args.dictionary.now _ c.args.form c.args.request.now refl refl c.in_ok-answered_authenticator.ensures proxies c.signs_reply.ensures.test end

pub returns-clause-usable : goal.returns-clause-usable
returns-clause-usable c =
    let proxies = c.in_ok-proxy_states_of.ensures ∙ ap (instances (Plain proxy_state)) c.as_slice.ensures in
    record {
      proxies = subst (λ (pairs : List Pair). All (λ (p : Pair). p.id ≡ Plain proxy_state) pairs) (sym proxies) (instances_are (Plain proxy_state) c.args.request.now.list);
      fit = subst (λ (pairs : List Pair). AllFit c.args.dictionary.now pairs) (sym proxies) (instances_fit c.args.dictionary.now (Plain proxy_state) c.args.request.now.list c.requires.fit);
      signed = c.signs_reply.ensures.accounting;
    }
