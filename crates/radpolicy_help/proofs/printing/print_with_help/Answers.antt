use Rattle.std.proofs.Common.{◌≡◌, true, rules}
use Rattle.std.proofs.KnownBytes.{Appends-trans}
use Rattle.radpolicy_help.proofs.printing.print_with_help.Goals as goal

pub returns-in-Ok : goal.returns-in-Ok
returns-in-Ok g c = record {
  both = λ _.
      let printed : c.print_fault.result ≡ true = search rules in
      Appends-trans _ _ _ _ _ (c.print_fault.ensures.line printed) c.in-Ok.ensures.takes;
}
