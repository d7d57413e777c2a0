use Rattle.std.proofs.Common.{◌∙◌, sym}
use Rattle.radpolicy_walk_commands.proofs.Followings.{none_there, words_shown}
use Rattle.radpolicy_walk_commands.proofs.histories.history_text.Goals as goal

pub returns-in_ok-extend_from_slice-in-empty-clause-told : goal.returns-in_ok-extend_from_slice-in-empty-clause-told
returns-in_ok-extend_from_slice-in-empty-clause-told c =
    let s = c.args.session.now in
    words_shown s.redaction c.args.id s.trace s.position c.in_ok-text.text.items c.push_name.new.text.items c.extend_from_slice.new.self.items c.in_ok-text.ensures.told
    (sym c.as_slice.ensures.value ∙ none_there c.as_slice.result.now c.in-empty.len_below) c.in_ok-push_name-in-empty.ensures c.in_ok-extend_from_slice-in-empty.ensures.items
