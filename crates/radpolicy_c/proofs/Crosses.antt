-- A policy may go to another thread, and threads may share it: part by part, since all at once is too much for a search.
use denote.Param.Send.{IsSend, IsSync, sendable}
use Rattle.std.proofs.Crossing.{crosses}
use Rattle.avp_unlang.below.regex_hir.proofs.hir.Hir.TheLaws.TheKnot as knot
use Rattle.avp_unlang.below.regex_hir.specs.contracts.hir.Hir as hir
use Rattle.avp_unlang.below.regex.specs.contracts.bytes.regex.Regex as regex
use Rattle.avp_unlang.below.regex_meta.specs.contracts.plan.Plan as plan
use Rattle.avp_unlang.below.regex_meta.specs.contracts.plan.Plans as plans
use Rattle.avp_unlang.below.regex_meta.specs.contracts.signs.Signs as signs
use Rattle.avp_unlang.below.regex_meta.specs.contracts.program.Program as program
use Rattle.avp_unlang.below.regex.specs.contracts.pattern.Pattern as inner
use Rattle.avp_unlang.below.regex_class.proofs.Class.TheSendSync as class
use Rattle.avp_unlang.below.regex_dfa.proofs.dfa.Dfa.TheSendSync as dfa
use Rattle.avp_unlang.below.regex_extract.proofs.frames.Frame.TheSendSync as frame
use Rattle.avp_unlang.below.regex_literal.proofs.byte_set.ByteSet.TheSendSync as byteset
use Rattle.avp_unlang.below.regex_literal.proofs.caseless.Caseless.TheSendSync as caseless
use Rattle.avp_unlang.below.regex_literal.proofs.ladder.Ladder.TheSendSync as ladder
use Rattle.avp_unlang.below.regex_literal.proofs.prefilter.Prefilter.TheSendSync as prefilter
use Rattle.avp_unlang.below.regex_meta.proofs.plan.Role.TheSendSync as role
use Rattle.avp_unlang.below.regex_syntax.proofs.Config.TheSendSync as config
use Rattle.avp_unlang.below.regex_hir.proofs.look.Look.TheSendSync as look
use Rattle.std.proofs.alloc.Global.TheSendSync as global
use Rattle.std.proofs.boxed.Box.TheSendSync as box
use Rattle.std.proofs.option.Option.TheSendSync as option
use Rattle.std.proofs.rt.Memory.TheSendSync as memory
use Rattle.std.proofs.string.String.TheSendSync as string
use Rattle.std.proofs.vec.Vec.TheSendSync as vec
use Rattle.avp_dict.proofs.entries.Kind.TheSendSync as kind
use Rattle.avp_dict.proofs.forms.Form.TheSendSync as form
use Rattle.avp_lists.proofs.bytes.Octets.TheSendSync as octets
use Rattle.avp_lists.proofs.edits.Op.TheSendSync as op
use Rattle.avp_lists.proofs.lists.List.TheSendSync as which_list
use Rattle.avp_lists.proofs.pairs.AttrId.TheSendSync as attr_id
use Rattle.avp_lists.proofs.pairs.Value.TheSendSync as value
use Rattle.avp_lists.proofs.tags.Selection.TheSendSync as selection
use Rattle.avp_lists.proofs.tags.Tagging.TheSendSync as tagging
use Rattle.avp_unlang.below.avp_patterns.proofs.flags.PatternFlags.TheSendSync as pattern_flags
use Rattle.avp_unlang.proofs.boxed.Boxed.TheSendSync as boxed
use Rattle.avp_unlang.proofs.codes.Code.TheSendSync as code
use Rattle.avp_unlang.proofs.items.Items.TheSendSync as items
use Rattle.avp_unlang.proofs.tree.Comparand.TheSendSync as comparand
use Rattle.avp_unlang.proofs.tree.Comparison.TheSendSync as comparison
use Rattle.avp_unlang.proofs.tree.Line.TheSendSync as line
use Rattle.avp_unlang.proofs.tree.Matching.TheSendSync as matching
use Rattle.avp_unlang.proofs.tree.MeantComparand.TheSendSync as meant_comparand
use Rattle.avp_unlang.proofs.tree.MeantComparison.TheSendSync as meant_comparison
use Rattle.avp_unlang.proofs.tree.Part.TheSendSync as part
use Rattle.avp_unlang.proofs.tree.Relation.TheSendSync as relation
use Rattle.avp_unlang.proofs.tree.Source.TheSendSync as source
use Rattle.avp_unlang.proofs.tree.Cond.TheLaws.TheKnot as cond_knot
use Rattle.avp_unlang.proofs.tree.Statement.TheLaws.TheKnot as statement_knot
use Rattle.avp_unlang.specs.contracts.tree.Statement as statement
use Rattle.avp_unlang.specs.contracts.text.policies.Policy as policy
use Rattle.avp_unlang.below.avp_patterns.specs.contracts.patterns.Pattern as pattern
use Rattle.avp_dict.proofs.dictionaries.Dictionary.TheSendSync as dictionary
use Rattle.avp_forms.proofs.profiles.Profile.TheSendSync as profile
use Rattle.radpolicy.specs.contracts.prepared.OwnedPolicy as owned
use Rattle.radpolicy_c.specs.contracts.shared.SharedPolicy as shared

ruleset parts_of_trees = (class.the_field_send, class.the_send, class.the_field_sync, class.the_sync, look.the_field_send, look.the_send, look.the_field_sync, look.the_sync, global.the_field_send, global.the_send, global.the_field_sync, global.the_sync, memory.the_field_send, memory.the_send, memory.the_field_sync, memory.the_sync)

ruleset parts_of_patterns = (dfa.the_field_send, dfa.the_send, dfa.the_field_sync, dfa.the_sync, frame.the_field_send, frame.the_send, frame.the_field_sync, frame.the_sync, byteset.the_send, byteset.the_sync, caseless.the_send, caseless.the_sync, ladder.the_field_send, ladder.the_send, ladder.the_field_sync, ladder.the_sync, prefilter.the_send, prefilter.the_sync, role.the_field_send, role.the_send, role.the_field_sync, role.the_sync, config.the_field_send, config.the_send, config.the_field_sync, config.the_sync, global.the_field_send, global.the_send, global.the_field_sync, global.the_sync, box.the_send, box.the_sync, option.the_field_send, option.the_send, option.the_field_sync, option.the_sync, memory.the_field_send, memory.the_send, memory.the_field_sync, memory.the_sync, string.the_field_send, string.the_send, string.the_field_sync, string.the_sync, vec.the_send, vec.the_sync)

ruleset parts_of_std = (option.the_field_send, option.the_send, option.the_field_sync, option.the_sync, box.the_send, box.the_sync, vec.the_send, vec.the_sync, global.the_field_send, global.the_send, global.the_field_sync, global.the_sync, memory.the_field_send, memory.the_send, memory.the_field_sync, memory.the_sync)

ruleset parts_of_policies = (kind.the_field_send, kind.the_send, kind.the_field_sync, kind.the_sync, form.the_field_send, form.the_send, form.the_field_sync, form.the_sync, octets.the_send, octets.the_sync, op.the_field_send, op.the_send, op.the_field_sync, op.the_sync, which_list.the_field_send, which_list.the_send, which_list.the_field_sync, which_list.the_sync, attr_id.the_field_send, attr_id.the_send, attr_id.the_field_sync, attr_id.the_sync, value.the_field_send, value.the_send, value.the_field_sync, value.the_sync, selection.the_field_send, selection.the_send, selection.the_field_sync, selection.the_sync, tagging.the_field_send, tagging.the_send, tagging.the_field_sync, tagging.the_sync, pattern_flags.the_field_send, pattern_flags.the_send, pattern_flags.the_field_sync, pattern_flags.the_sync, boxed.the_send, boxed.the_sync, code.the_field_send, code.the_send, code.the_field_sync, code.the_sync, items.the_send, items.the_sync, comparand.the_field_send, comparand.the_send, comparand.the_field_sync, comparand.the_sync, comparison.the_field_send, comparison.the_send, comparison.the_field_sync, comparison.the_sync, line.the_field_send, line.the_send, line.the_field_sync, line.the_sync, matching.the_field_send, matching.the_send, matching.the_field_sync, matching.the_sync, meant_comparand.the_field_send, meant_comparand.the_send, meant_comparand.the_field_sync, meant_comparand.the_sync, meant_comparison.the_field_send, meant_comparison.the_send, meant_comparison.the_field_sync, meant_comparison.the_sync, part.the_field_send, part.the_send, part.the_field_sync, part.the_sync, relation.the_field_send, relation.the_send, relation.the_field_sync, relation.the_sync, source.the_field_send, source.the_send, source.the_field_sync, source.the_sync)

hir_send : IsSend hir.the_row
hir_send = first_of (search (parts_of_trees, crosses, knot.crosses, sendable) depth 60 fits 20000, search (parts_of_trees, crosses, knot.crosses_both, sendable) depth 60 fits 20000)

hir_sync : IsSync hir.the_row
hir_sync = first_of (search (parts_of_trees, crosses, knot.crosses, sendable) depth 60 fits 20000, search (parts_of_trees, crosses, knot.crosses_both, sendable) depth 60 fits 20000)

hir_field_send : IsSend hir.the_field.row
hir_field_send = first_of (search (hir_send, hir_sync, parts_of_trees, crosses, sendable) depth 60 fits 20000, search (hir_send, hir_sync, parts_of_trees, crosses, knot.crosses_both, sendable) depth 60 fits 20000)

plan_send : IsSend (plan.the_row)
plan_send = search (hir_send, hir_sync, parts_of_patterns, crosses, sendable) depth 60 fits 20000

plan_sync : IsSync (plan.the_row)
plan_sync = search (hir_send, hir_sync, parts_of_patterns, crosses, sendable) depth 60 fits 20000

plans_send : IsSend (plans.the_row)
plans_send = search (hir_send, hir_sync, plan_send, plan_sync, parts_of_patterns, crosses, sendable) depth 60 fits 20000

plans_sync : IsSync (plans.the_row)
plans_sync = search (hir_send, hir_sync, plan_send, plan_sync, parts_of_patterns, crosses, sendable) depth 60 fits 20000

plans_field_send : IsSend (plans.the_field.row)
plans_field_send = search (hir_send, hir_sync, plan_send, plan_sync, parts_of_patterns, crosses, sendable) depth 60 fits 20000

plans_field_sync : IsSync (plans.the_field.row)
plans_field_sync = search (hir_send, hir_sync, plan_send, plan_sync, parts_of_patterns, crosses, sendable) depth 60 fits 20000

signs_send : IsSend (signs.the_row)
signs_send = search (hir_send, hir_sync, plan_send, plan_sync, plans_send, plans_sync, plans_field_send, plans_field_sync, parts_of_patterns, crosses, sendable) depth 60 fits 20000

signs_sync : IsSync (signs.the_row)
signs_sync = search (hir_send, hir_sync, plan_send, plan_sync, plans_send, plans_sync, plans_field_send, plans_field_sync, parts_of_patterns, crosses, sendable) depth 60 fits 20000

signs_field_send : IsSend (signs.the_field.row)
signs_field_send = search (hir_send, hir_sync, plan_send, plan_sync, plans_send, plans_sync, plans_field_send, plans_field_sync, parts_of_patterns, crosses, sendable) depth 60 fits 20000

signs_field_sync : IsSync (signs.the_field.row)
signs_field_sync = search (hir_send, hir_sync, plan_send, plan_sync, plans_send, plans_sync, plans_field_send, plans_field_sync, parts_of_patterns, crosses, sendable) depth 60 fits 20000

program_send : IsSend (program.the_row)
program_send = search (hir_send, hir_sync, plan_send, plan_sync, plans_send, plans_sync, plans_field_send, plans_field_sync, signs_send, signs_sync, signs_field_send, signs_field_sync, parts_of_patterns, parts_of_trees, crosses, knot.crosses_both, sendable) depth 60 fits 20000

program_sync : IsSync (program.the_row)
program_sync = search (hir_send, hir_sync, plan_send, plan_sync, plans_send, plans_sync, plans_field_send, plans_field_sync, signs_send, signs_sync, signs_field_send, signs_field_sync, parts_of_patterns, parts_of_trees, crosses, knot.crosses_both, sendable) depth 60 fits 20000

program_field_send : IsSend (program.the_field.row)
program_field_send = search (hir_send, hir_sync, plan_send, plan_sync, plans_send, plans_sync, plans_field_send, plans_field_sync, signs_send, signs_sync, signs_field_send, signs_field_sync, parts_of_patterns, parts_of_trees, crosses, knot.crosses_both, sendable) depth 60 fits 20000

program_field_sync : IsSync (program.the_field.row)
program_field_sync = search (hir_send, hir_sync, plan_send, plan_sync, plans_send, plans_sync, plans_field_send, plans_field_sync, signs_send, signs_sync, signs_field_send, signs_field_sync, parts_of_patterns, parts_of_trees, crosses, knot.crosses_both, sendable) depth 60 fits 20000

inner_send : IsSend (inner.the_row)
inner_send = search (hir_send, hir_sync, plan_send, plan_sync, plans_send, plans_sync, plans_field_send, plans_field_sync, signs_send, signs_sync, signs_field_send, signs_field_sync, program_send, program_sync, program_field_send, program_field_sync, parts_of_patterns, crosses, sendable) depth 60 fits 20000

inner_sync : IsSync (inner.the_row)
inner_sync = search (hir_send, hir_sync, plan_send, plan_sync, plans_send, plans_sync, plans_field_send, plans_field_sync, signs_send, signs_sync, signs_field_send, signs_field_sync, program_send, program_sync, program_field_send, program_field_sync, parts_of_patterns, crosses, sendable) depth 60 fits 20000

inner_field_send : IsSend (inner.the_field.row)
inner_field_send = search (hir_send, hir_sync, plan_send, plan_sync, plans_send, plans_sync, plans_field_send, plans_field_sync, signs_send, signs_sync, signs_field_send, signs_field_sync, program_send, program_sync, program_field_send, program_field_sync, parts_of_patterns, crosses, sendable) depth 60 fits 20000

inner_field_sync : IsSync (inner.the_field.row)
inner_field_sync = search (hir_send, hir_sync, plan_send, plan_sync, plans_send, plans_sync, plans_field_send, plans_field_sync, signs_send, signs_sync, signs_field_send, signs_field_sync, program_send, program_sync, program_field_send, program_field_sync, parts_of_patterns, crosses, sendable) depth 60 fits 20000

regex_send : IsSend (regex.the_row)
regex_send = search (hir_send, hir_sync, plan_send, plan_sync, plans_send, plans_sync, plans_field_send, plans_field_sync, signs_send, signs_sync, signs_field_send, signs_field_sync, program_send, program_sync, program_field_send, program_field_sync, inner_send, inner_sync, inner_field_send, inner_field_sync, parts_of_patterns, crosses, sendable) depth 60 fits 20000

regex_sync : IsSync (regex.the_row)
regex_sync = search (hir_send, hir_sync, plan_send, plan_sync, plans_send, plans_sync, plans_field_send, plans_field_sync, signs_send, signs_sync, signs_field_send, signs_field_sync, program_send, program_sync, program_field_send, program_field_sync, inner_send, inner_sync, inner_field_send, inner_field_sync, parts_of_patterns, crosses, sendable) depth 60 fits 20000

regex_field_send : IsSend (regex.the_field.row)
regex_field_send = search (hir_send, hir_sync, plan_send, plan_sync, plans_send, plans_sync, plans_field_send, plans_field_sync, signs_send, signs_sync, signs_field_send, signs_field_sync, program_send, program_sync, program_field_send, program_field_sync, inner_send, inner_sync, inner_field_send, inner_field_sync, parts_of_patterns, crosses, sendable) depth 60 fits 20000

regex_field_sync : IsSync (regex.the_field.row)
regex_field_sync = search (hir_send, hir_sync, plan_send, plan_sync, plans_send, plans_sync, plans_field_send, plans_field_sync, signs_send, signs_sync, signs_field_send, signs_field_sync, program_send, program_sync, program_field_send, program_field_sync, inner_send, inner_sync, inner_field_send, inner_field_sync, parts_of_patterns, crosses, sendable) depth 60 fits 20000

pattern_send : IsSend pattern.the_row
pattern_send = search (regex_send, regex_sync, regex_field_send, regex_field_sync, parts_of_policies, parts_of_std, crosses, sendable) depth 60 fits 20000

pattern_sync : IsSync pattern.the_row
pattern_sync = search (regex_send, regex_sync, regex_field_send, regex_field_sync, parts_of_policies, parts_of_std, crosses, sendable) depth 60 fits 20000

statement_send : IsSend statement.the_row
statement_send = first_of (search (parts_of_policies, parts_of_std, crosses, cond_knot.crosses_both, statement_knot.crosses_both, sendable) depth 60 fits 20000, search (parts_of_policies, parts_of_std, crosses, cond_knot.crosses, statement_knot.crosses, sendable) depth 60 fits 20000)

statement_sync : IsSync statement.the_row
statement_sync = first_of (search (parts_of_policies, parts_of_std, crosses, cond_knot.crosses_both, statement_knot.crosses_both, sendable) depth 60 fits 20000, search (parts_of_policies, parts_of_std, crosses, cond_knot.crosses, statement_knot.crosses, sendable) depth 60 fits 20000)

policy_send : IsSend policy.the_row
policy_send = search (pattern_send, pattern_sync, statement_send, statement_sync, parts_of_policies, parts_of_std, crosses, sendable) depth 60 fits 20000

policy_sync : IsSync policy.the_row
policy_sync = search (pattern_send, pattern_sync, statement_send, statement_sync, parts_of_policies, parts_of_std, crosses, sendable) depth 60 fits 20000

owned_send : IsSend owned.the_row
owned_send = search (policy_send, policy_sync, dictionary.the_send, dictionary.the_sync, profile.the_field_send, profile.the_send, profile.the_field_sync, profile.the_sync, crosses, sendable) depth 60 fits 20000

owned_sync : IsSync owned.the_row
owned_sync = search (policy_send, policy_sync, dictionary.the_send, dictionary.the_sync, profile.the_field_send, profile.the_send, profile.the_field_sync, profile.the_sync, crosses, sendable) depth 60 fits 20000

pub shared_send : IsSend shared.the_row
shared_send = search (owned_send, owned_sync, crosses, sendable) depth 60 fits 20000
