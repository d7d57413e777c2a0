use Rattle.std.proofs.Common.{◌≡◌, ◌∙◌, sym, None, Some, true}
use Rattle.avp_dict.specs.Sent.{is_clean}
use Rattle.radpolicy.proofs.Replying.{reply_clean}
use Rattle.radpolicy.proofs.ReplyReads.{nothing_read, sent_read}
use Rattle.radpolicy.specs.Replies.{reply_code}
use Rattle.radpolicy.proofs.replies.answered_by.Goals as goal

pub returns-in_default-clause-read : goal.returns-in_default-clause-read
returns-in_default-clause-read c =
    let none : reply_code c.args.head.now.code c.args.last ≡ None = sym c.reply_code.ensures.code ∙ c.in_default.is in
    nothing_read c.args.dictionary.now c.args.head.now c.args.last c.args.reply.now none

pub returns-clause-read : goal.returns-clause-read
returns-clause-read c =
    let d = c.args.dictionary.now in
    let coded : reply_code c.args.head.now.code c.args.last ≡ Some c.in-Some.code = sym c.reply_code.ensures.code ∙ c.in-Some.is in
    let made = rw (c.reply_pairs.ensures, c.as_slice.ensures.octets, c.as_slice-2.ensures.value) at c.in_ok-octets.ensures.octets in
    let known = rw (c.reply_pairs.ensures, c.as_slice.ensures.octets, c.as_slice-2.ensures.value) at c.in_ok-octets.ensures.means in
    let accepted = rw c.as_slice.ensures.octets at c.in_ok-octets.ensures.accepted in
    let signed = rw c.as_slice.ensures.octets at c.in_ok-octets.ensures.signed in
    sent_read d c.args.head.now c.args.last c.args.reply.now c.in-Some.code c.in-Some-authenticator.authenticator c.in_ok-octets.octets.items coded c.in-Some-authenticator.is made accepted c.in_ok-octets.ensures.whole (λ (clean : is_clean c.args.reply.now d ≡ true) proxies. known (reply_clean d c.args.last c.args.reply.now clean) proxies) signed
