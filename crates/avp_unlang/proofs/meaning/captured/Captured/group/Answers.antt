use Rattle.std.proofs.Common.{arith, ◌-◌, None, Some, get_or, take, drop, ap, sym, ◌∙◌}
use Rattle.avp_unlang.specs.Captures.{Kept, captured}
use Rattle.avp_unlang.proofs.CapturedTexts.{group_at}
use Rattle.avp_unlang.proofs.meaning.captured.Captured.group.Goals as goal

pub returns-in_default : goal.returns-in_default
returns-in_default c =
    group_at c.self.inside.octets.items c.self.inside.groups c.args.group None (c.in_default.ensures.lookup.4 (omega arith) None ∙ ap (λ i. get_or c.self.inside.groups i None) c.from.ensures)
    ∙ ap (λ (k : Kept). captured c.args.group k.captures) c.self.view_is

pub returns-in-Some-found : goal.returns-in-Some-found
returns-in-Some-found c =
    ap (λ os. take (c.in-Some-found.to - c.in-Some-found.from) (drop c.in-Some-found.from os)) c.deref.ensures.value
    ∙ group_at c.self.inside.octets.items c.self.inside.groups c.args.group (Some (c.in-Some-found.from, c.in-Some-found.to))
    (sym c.in-Some-found.is ∙ c.in-Some.ensures.lookup.4 (omega arith) None ∙ ap (λ i. get_or c.self.inside.groups i None) c.from.ensures)
    ∙ ap (λ (k : Kept). captured c.args.group k.captures) c.self.view_is

pub returns-in-None : goal.returns-in-None
returns-in-None c =
    group_at c.self.inside.octets.items c.self.inside.groups c.args.group None
    (sym c.in-None.is ∙ c.in-Some.ensures.lookup.4 (omega arith) None ∙ ap (λ i. get_or c.self.inside.groups i None) c.from.ensures)
    ∙ ap (λ (k : Kept). captured c.args.group k.captures) c.self.view_is
