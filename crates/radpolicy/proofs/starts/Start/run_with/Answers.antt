use Rattle.std.proofs.Common.{◌≡◌, ◌∙◌, true, ap, sym, subst}
use Rattle.avp_dict.specs.Sent.{is_clean}
use Rattle.avp_lists.specs.declared.lists.List.TheVariants.{Reply}
use Rattle.avp_lists.specs.declared.lists.State.{State}
use Rattle.avp_unlang.specs.Meaning.{Outcome as End}
use Rattle.avp_unlang.specs.declared.codes.Code.TheVariants as code
use Rattle.radpolicy.specs.RunOutcomes.{end_of}
use Rattle.radpolicy.specs.Starts.{entry_of}
use Rattle.radpolicy.specs.internal.Fitting.{AllFit}
use Rattle.radpolicy.proofs.Replying.{sent_read_by}
use Rattle.radpolicy.proofs.starts.Start.run_with.Goals as goal

pub returns-clause-read : goal.returns-clause-read
returns-clause-read c = λ clean proxies.
    let start = c.args.self in
    let d = start.prepared.dictionary in
    let end = end_of start in
    let state = (c.in_ok-ended.ensures.end) in
    let reply = ap (λ (e : End). e.state.reply) state in
    let fit = subst (λ (s : State). AllFit d s.reply) (sym (ap (λ (e : End). e.state) state)) (c.in_ok-ended.ensures.fits Reply) in
    let still_clean : is_clean end.state.reply d ≡ true = c.keeps_reply_clean.ensures (entry_of start) code.Ok clean fit in
    sent_read_by d c.in_ok-head.head start.form start.secret start.request end c.in_ok-ended.ended.code _ c.in_ok-head.ensures.made (ap (λ (e : End). e.code) state) (sym reply)
    (ap (λ pairs. is_clean pairs d) (sym reply) ∙ still_clean) proxies (rw c.dictionary-dictionary.ensures at c.in_ok-reply.ensures.read)
