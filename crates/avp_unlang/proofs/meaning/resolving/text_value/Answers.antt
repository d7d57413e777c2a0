use Rattle.std.proofs.Common.{map, rules}
use Rattle.avp_lists.specs.History.{present}
use Rattle.avp_unlang.specs.Captures.{filled_part}
use Rattle.avp_unlang.specs.Resolutions.{parts_text}
use Rattle.avp_unlang.proofs.TypedValues.{spelled_fits}
use Rattle.avp_unlang.proofs.meaning.resolving.text_value.Goals as goal

pub returns-clause-fits : goal.returns-clause-fits
returns-clause-fits g c =
    spelled_fits c.args.dictionary.now c.args.name (parts_text c.args.dictionary.now (present (g.S.Store.history c.args.store.now)) (map (filled_part c.args.captured.now.captures) c.args.parts.now)) c.in_ok-value.value c.requires.known (search rules)
