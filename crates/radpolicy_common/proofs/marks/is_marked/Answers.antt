use Rattle.std.proofs.Common.{rules, ◌≡◌, ◌↔◌, IsTrue, Bool, true, List, ℕ, length}
use Rattle.radpolicy_common.specs.Marks.{IsMarked, mark, marked, without_mark}
use Rattle.radpolicy_common.proofs.MarkLaws.{marked_again}
use Rattle.radpolicy_common.proofs.marks.is_marked.Goals as goal

pub returns : goal.returns
returns c = (search rules, λ is. search (rules, marked_again c.args.comments c.args.program.now c.args.octets.now is))
