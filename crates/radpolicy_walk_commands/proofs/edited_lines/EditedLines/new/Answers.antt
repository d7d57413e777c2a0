use Rattle.std.proofs.Common.{◌∙◌, Bor, List, ap, subst}
use Rattle.avp_unlang.specs.declared.tree.Line.{Line}
use Rattle.radpolicy_walk_commands.specs.Steps.{is_one_of}
use Rattle.radpolicy_walk_commands.specs.internal.EditedLines.{AreEffects, effect_in, has_any, line_numbers, lines_behind}
use Rattle.radpolicy_walk_commands.proofs.edited_lines.EditedLines.new.Goals as goal

pub returns-clause-numbers : goal.returns-clause-numbers
returns-clause-numbers c =
    let numbers =
    c.in_ok-numbers.ensures ∙ ap (λ (refs : List (Bor Line)). line_numbers c.args.list c.args.id (lines_behind refs)) c.as_slice.ensures.value
    ∙ ap (line_numbers c.args.list c.args.id) c.in_ok-lines.ensures in
    record {
      any = c.has_any.ensures ∙ ap has_any (c.as_slice-4.ensures.value ∙ numbers);
      each = λ n. c.in_ok-set_of.ensures n ∙ ap (λ ns. is_one_of ns n) (c.as_slice-3.ensures.value ∙ numbers);
    }

pub returns-clause-effects : goal.returns-clause-effects
returns-clause-effects c =
    subst (λ (lines : List Line). AreEffects c.args.list c.args.id lines (effect_in c.in_ok-effects.effects)) (ap lines_behind c.as_slice-2.ensures.value ∙ c.in_ok-lines.ensures) c.in_ok-effects.ensures
