use Rattle.avp_unlang.proofs.CleanReplies as lemmas
use Rattle.avp_unlang.proofs.text.policies.keeps_reply_clean.Goals as goal

pub returns : goal.returns
returns c = lemmas.keeps_reply_clean c.args.dictionary.now c.args.policy.now c.requires c.is_sound.ensures.sound c.spelled_values_clean.ensures
