use Rattle.std.proofs.Common.{IfSome, Option, subst}
use Rattle.server_configuration.specs.declared.includes.Include.{Include}
use Rattle.server_configuration.specs.internal.Readings.{IsIncludeIn}
use Rattle.server_configuration.proofs.includes.Reading.put_off_name.Goals as goal

pub put_off-requires-clause-include : goal.put_off-requires-clause-include
put_off-requires-clause-include g c =
    let files = c.args.self.now.files.items in
    let items = c.args.self.now.items.items in
    let Found : Option Include → Type 0 = λ found. IfSome found (IsIncludeIn files items) in
    subst Found c.in-Some.is (c.in_ok-file.ensures.found files items c.requires.include)
