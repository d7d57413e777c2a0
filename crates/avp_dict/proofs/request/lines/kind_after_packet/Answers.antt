use Rattle.std.proofs.Common.{◌∙◌, sym}
use Rattle.avp_dict.specs.internal.RequestTokens.{token_view}
use Rattle.avp_dict.proofs.FilledLines.{no_token, refused_name, refused_other}
use Rattle.avp_dict.proofs.request.lines.kind_after_packet.Goals as goal

pub returns-then-is_run : goal.returns-then-is_run
returns-then-is_run c = refused_name (token_view c.in-Some.first) _ _ c.in-Some.ensures.token (sym c.is_run.ensures ∙ c.if-is_run.true)

pub returns-else-is_run : goal.returns-else-is_run
returns-else-is_run c = refused_other (token_view c.in-Some.first) _ _ c.in-Some.ensures.token (sym c.is_run.ensures ∙ c.if-is_run.false)

pub returns-in-None : goal.returns-in-None
returns-in-None c = absurd (let idle = sym (no_token c.args.line.now c.in-None.ensures.token) ∙ c.requires in cc)
