use Rattle.std.proofs.Common.{◌≡◌, ◌∙◌, List, subst, sym}
use Rattle.avp_lists.specs.History.{present}
use Rattle.avp_lists.specs.declared.lists.List.TheVariants.{Reply}
use Rattle.avp_lists.specs.declared.pairs.Pair.{Pair}
use Rattle.radpolicy.specs.internal.Fitting.{AllFit}
use Rattle.radpolicy.specs.internal.ReplyHeads.{AnswerIsRead, SentIsRead}
use Rattle.radpolicy.proofs.Replying.{head_read, none_read, ok_map}
use Rattle.radpolicy.proofs.replies.sent_by.Goals as goal

pub reply_of-requires-clause-reply : goal.reply_of-requires-clause-reply
reply_of-requires-clause-reply g c =
    let same : c.deref.result.now ≡ (present (g.S.Store.history c.args.store.now)).reply = c.deref.ensures.value ∙ c.in_ok-pairs-in-Some.ensures in
    subst (λ (pairs : List Pair). AllFit c.args.dictionary.now pairs) (sym same) (c.requires.fits Reply)

pub returns-in_ok-pairs-in-Some-clause-read : goal.returns-in_ok-pairs-in-Some-clause-read
returns-in_ok-pairs-in-Some-clause-read g c =
    let d = c.args.dictionary.now in
    let reply = (present (g.S.Store.history c.args.store.now)).reply in
    let same : c.deref.result.now ≡ reply = c.deref.ensures.value ∙ c.in_ok-pairs-in-Some.ensures in
    ok_map (AnswerIsRead d c.in-Some.head c.args.last c.deref.result.now) (SentIsRead d c.args.head.now c.args.last reply) c.reply_of.result
    (λ read. head_read d c.args.head.now c.in-Some.head c.args.last reply c.in-Some.is (subst (λ (pairs : List Pair). AnswerIsRead d c.in-Some.head c.args.last pairs) same read))
    c.reply_of.ensures.read

pub returns-in-None-clause-read : goal.returns-in-None-clause-read
returns-in-None-clause-read g c = none_read c.args.dictionary.now c.args.head.now c.args.last (present (g.S.Store.history c.args.store.now)).reply c.in-None.is
