use Rattle.std.proofs.Common.{◌∙◌, ap, subst, sym}
use Rattle.std.specs.Prelude.{List}
use Rattle.avp_lists.specs.declared.pairs.Pair.{Pair}
use Rattle.avp_dict.specs.Sent.{sent}
use Rattle.radpolicy_common.specs.ChangeTexts.{AllFit}
use Rattle.radpolicy_record_answers.proofs.Fitting.{plain_fit, reply_fits, sent_fit}
use Rattle.radpolicy_record_answers.proofs.unmade_replies.sent_pairs.Goals as goal

pub sent-requires : goal.sent-requires
sent-requires c =
    subst (λ (pairs : List Pair). AllFit c.args.dictionary.now pairs) (sym c.deref-2.ensures.value)
    (plain_fit c.args.dictionary.now c.reply_pairs.result.now c.in_ok-plain.plain.items c.in_ok-plain.ensures
    (reply_fits c.args.dictionary.now c.args.outcome.now.dictionary c.code.result _ c.args.outcome.now.end.state c.deref.result.now c.reply_pairs.result.now
    c.reply_pairs.ensures (c.deref.ensures.value ∙ c.in_ok-list.ensures) c.store.ensures.lists c.requires c.store.ensures.fits))

pub returns-clause-fit : goal.returns-clause-fit
returns-clause-fit c =
    sent_fit c.args.dictionary.now c.in_ok-plain.plain.items c.from_vec.result
    (c.from_vec.ensures ∙ c.in_ok-kept.ensures ∙ ap (λ (pairs : List Pair). sent pairs c.args.dictionary.now) c.deref-2.ensures.value)
    (plain_fit c.args.dictionary.now c.reply_pairs.result.now c.in_ok-plain.plain.items c.in_ok-plain.ensures
    (reply_fits c.args.dictionary.now c.args.outcome.now.dictionary c.code.result _ c.args.outcome.now.end.state c.deref.result.now c.reply_pairs.result.now
    c.reply_pairs.ensures (c.deref.ensures.value ∙ c.in_ok-list.ensures) c.store.ensures.lists c.requires c.store.ensures.fits))
