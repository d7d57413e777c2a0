use Rattle.std.proofs.Common.{Bool, map, ap, ap₂, arith, subst, sym, ◌∙◌}
use Rattle.std.specs.List.{All}
use Rattle.avp_patterns.specs.Matching.{IsWithin}
use Rattle.avp_unlang.specs.Captures.{Captures, Kept, captured, texts_at}
use Rattle.avp_unlang.specs.internal.MovedGroups.{IsMovable, moved}
use Rattle.avp_unlang.proofs.MovedGroups.{all_movable, moved_texts, moved_within}
use Rattle.avp_unlang.proofs.meaning.captured.Captured.keep_within.Goals as goal

pub all_moved-self-inside-requires : goal.all_moved-self-inside-requires
all_moved-self-inside-requires c =
    let within = subst (λ (k : Kept). All (IsWithin (captured c.args.group k.captures)) c.args.groups) (sym c.self.view_is) c.requires in
    subst (λ n. All (IsMovable n) c.args.groups) (sym c.start_of-start.ensures) (all_movable c.self.inside.octets.items c.self.inside.groups c.args.group c.self.invariant.0 c.args.groups within (omega arith))

pub invariant_of-self : goal.invariant_of-self
invariant_of-self c =
    let within = subst (λ (k : Kept). All (IsWithin (captured c.args.group k.captures)) c.args.groups) (sym c.self.view_is) c.requires in (
      subst (λ gs. All (IsWithin c.self.inside.octets.items) gs) (sym (c.all_moved-self-inside.ensures ∙ ap (λ n. map (moved n) c.args.groups) c.start_of-start.ensures))
          (moved_within c.self.inside.octets.items c.self.inside.groups c.args.group c.self.invariant.0 c.args.groups within),
      c.self.invariant.1,
    )

pub returns : goal.returns
returns c =
    let within = subst (λ (k : Kept). All (IsWithin (captured c.args.group k.captures)) c.args.groups) (sym c.self.view_is) c.requires in
    ap₂ (λ (b : Bool) (t : Captures). record { keeps = b; captures = t }) (ap (λ (k : Kept). k.keeps) c.self.view_is)
    (ap (texts_at c.self.inside.octets.items) (c.all_moved-self-inside.ensures ∙ ap (λ n. map (moved n) c.args.groups) c.start_of-start.ensures)
    ∙ moved_texts c.self.inside.octets.items c.self.inside.groups c.args.group c.self.invariant.0 c.args.groups within ∙ ap (λ (k : Kept). texts_at (captured c.args.group k.captures) c.args.groups) c.self.view_is)
