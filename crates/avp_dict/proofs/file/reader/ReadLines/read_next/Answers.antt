use Rattle.std.proofs.Common.{◌≡◌, ◌∙◌, Err, refl, sym, ap, subst}
use Rattle.std.proofs.lemmas.List.{map_push}
use Rattle.avp_lists.specs.Meets.{Unless}
use Rattle.avp_dict.specs.Meanings.{context_of}
use Rattle.avp_dict.specs.Readings.{read_line, read_lines, within}
use Rattle.avp_dict.specs.internal.Agreeing.{without_names}
use Rattle.avp_dict.specs.internal.LineViews.{line_view}
use Rattle.avp_dict.specs.internal.Meanings.{context_view, meaning_view, reading_view, reading_views}
use Rattle.avp_dict.specs.internal.Refused.{is_memory_word}
use Rattle.avp_dict.proofs.LaterNames.{read_agreeing, refused_agreeing, refused_before}
use Rattle.avp_dict.proofs.LinesRead.{context_after, read_lines_fails, read_lines_ok, read_within, refused_by}
use Rattle.avp_dict.proofs.SoundLines.{agreeing_after, short_read}
use Rattle.avp_dict.proofs.file.reader.ReadLines.read_next.Goals as goal

pub add-requires-clause-short : goal.add-requires-clause-short
add-requires-clause-short c = short_read (without_names (context_view c.args.self.now.context)) c.args.files.now (line_view c.args.line) c.in-Ok.meaning (read_within c.args.limit (reading_views c.args.self.now.readings.items) _ _ c.in-Ok.ensures).1

pub returns-in_ok-push-in-Ok-clause-tracked : goal.returns-in_ok-push-in-Ok-clause-tracked
returns-in_ok-push-in-Ok-clause-tracked c =
    let before = c.args.self.now.readings.items in
    context_after (reading_views before) (context_view c.args.self.now.context) (context_view c.add.new.self) _ (reading_views c.push.new.self.items)
    c.requires.tracked c.in_default.ensures.added (ap reading_views c.in_ok-push-in-Ok.ensures.items ∙ map_push reading_view before _)

pub returns-in_ok-push-in-Ok-clause-agreeing : goal.returns-in_ok-push-in-Ok-clause-agreeing
returns-in_ok-push-in-Ok-clause-agreeing c =
    let limit = c.args.limit in
    let before = reading_views c.args.self.now.readings.items in
    let context = context_view c.args.self.now.context in
    let read = read_agreeing context limit before c.args.files.now (line_view c.args.line) (meaning_view c.in-Ok.meaning) c.in-Ok.ensures c.in_default.ensures.agreed in
    agreeing_after context (context_view c.add.new.self) c.args.files.now (line_view c.args.line) (meaning_view c.in-Ok.meaning) _ c.requires.agreeing
    (read_within limit before _ _ read).1 refl c.in_default.ensures.added

pub returns-in_ok-push-in-Ok-clause-step : goal.returns-in_ok-push-in-Ok-clause-step
returns-in_ok-push-in-Ok-clause-step c = λ ls.
    let files = c.args.files.now in
    let limit = c.args.limit in
    let before = c.args.self.now.readings.items in
    let line = line_view c.args.line in
    let agreed = read_agreeing (context_view c.args.self.now.context) limit (reading_views before) files line (meaning_view c.in-Ok.meaning) c.in-Ok.ensures c.in_default.ensures.agreed in
    let read = ap (λ x. within limit (reading_views before) (read_line files x line)) (sym c.requires.tracked) ∙ agreed in
    read_lines_ok limit files (reading_views before) line ls (meaning_view c.in-Ok.meaning) read
    ∙ ap (λ rs. read_lines limit files rs ls) (sym (ap reading_views c.in_ok-push-in-Ok.ensures.items ∙ map_push reading_view before _))

pub returns-in-Err-add-clause-refused : goal.returns-in-Err-add-clause-refused
returns-in-Err-add-clause-refused c = λ ls.
    let files = c.args.files.now in
    let limit = c.args.limit in
    let before = reading_views c.args.self.now.readings.items in
    let line = line_view c.args.line in
    let context = context_view c.args.self.now.context in
    let refused = c.in-Err-add.refused in
    let other = refused_agreeing context limit before files line (is_memory_word refused) (meaning_view c.in-Ok.meaning) refused c.in-Ok.ensures c.in-Err-add.ensures.refused in
    let fails = subst (λ x. Unless (is_memory_word refused) (within limit before (read_line files x line) ≡ Err refused)) c.requires.tracked other in
    read_lines_fails limit files before line ls c.at_line.result (refused_by line.file line.number refused (within limit before (read_line files (context_of before) line)) c.at_line.result c.at_line.ensures fails)

pub returns-in-Err-clause-refused : goal.returns-in-Err-clause-refused
returns-in-Err-clause-refused c = λ ls.
    let files = c.args.files.now in
    let limit = c.args.limit in
    let before = reading_views c.args.self.now.readings.items in
    let line = line_view c.args.line in
    let context = context_view c.args.self.now.context in
    let refused = c.in-Err.refused in
    let first = refused_before context limit before files line (is_memory_word refused) refused c.in-Err.ensures in
    let fails = subst (λ x. Unless (is_memory_word refused) (within limit before (read_line files x line) ≡ Err refused)) c.requires.tracked first in
    read_lines_fails limit files before line ls c.at_line-in-Err.result (refused_by line.file line.number refused (within limit before (read_line files (context_of before) line)) c.at_line-in-Err.result c.at_line-in-Err.ensures fails)
