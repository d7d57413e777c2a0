use Rattle.std.proofs.Common.{◌≡◌, ◌∙◌, ◌+◌, ◌-◌, ◌<◌, ◌++◌, Err, List, Some, length, refl, sym, ap, subst, arith, rules, option_and_then}
use Rattle.std.proofs.lemmas.Result.{err_from_is_err_and}
use Rattle.avp_lists.specs.Meets.{Unless}
use Rattle.avp_dict.specs.Lines.{Line, expanded, file_included, file_named, included_by, lines_below, lines_in, texts_of}
use Rattle.avp_dict.specs.internal.Refused.{is_memory_refusal}
use Rattle.avp_dict.specs.Readings.{read_lines}
use Rattle.avp_dict.specs.Words.{words_of}
use Rattle.avp_dict.specs.internal.Meanings.{reading_views}
use Rattle.avp_dict.specs.internal.Views.{views}
use Rattle.avp_dict.proofs.Gathering.{begins, below_none, below_some, goes_on, lines_in_none, lines_in_open}
use Rattle.avp_dict.proofs.file.reader.ReadLines.+read_file.Goals as goal
use Rattle.avp_dict.proofs.file.reader.ReadLines.+read_file.Goals.{in-Some+in_ok-read_file, in_default}

pub returns-then-levels-eq0-clause-step : goal.returns-then-levels-eq0-clause-step
returns-then-levels-eq0-clause-step t c = λ ls. rw (lines_in_none c.args.files.now c.args.levels c.args.place (omega arith))

pub loop-rest-init : goal.loop-rest-init
loop-rest-init t c = record {
  tracked = c.requires.tracked;
  agreeing = c.requires.agreeing;
  room = c.requires.room;
  longer = omega arith;
  few = omega arith;
  deep = refl;
  so_far = λ ls. rw (c.octets_at-rest.ensures, lines_in_open c.args.files.now c.args.levels c.args.place (omega arith));
}

pub returns-in_err-read_next-clause-refused : goal.returns-in_err-read_next-clause-refused
returns-in_err-read_next-clause-refused t c = λ ls.
    let p = err_from_is_err_and c.from_residual-in_err-read_next.result c.from_residual-in_err-read_next.ensures.1 in
    let files = c.args.files.now in
    let below = lines_below files (lines_in files (c.args.levels - 1)) in
    let rest = c.loop-rest.rest.now in
    let more : 0 < length rest = search rules in
    let whole = begins (read_lines c.args.limit files (reading_views c.loop-rest.self.readings.items)) (λ xs. read_lines c.args.limit files (reading_views c.args.self.now.readings.items) (lines_in files c.args.levels c.args.place ++ xs))
    below c.args.place (9 - c.args.levels) c.loop-rest.number rest c.in_ok-text.text.now c.in_ok-text.after.now more c.in_ok-text.ensures.line c.in_ok-text.ensures.rest c.loop-rest.invariant.so_far ls in
    rw (p.1, p.2) (subst (λ read. Unless (is_memory_refusal c.in_err-read_next.field-0.0) (read ≡ Err c.in_err-read_next.field-0.0)) whole (c.in_err-read_next.ensures.refused _))

pub returns-in_err-read_file-clause-refused : goal.returns-in_err-read_file-clause-refused
returns-in_err-read_file-clause-refused t c = λ ls.
    let p = err_from_is_err_and c.from_residual-in_err-read_file.result c.from_residual-in_err-read_file.ensures.1 in
    let files = c.args.files.now in
    let below = lines_below files (lines_in files (c.args.levels - 1)) in
    let rest = c.loop-rest.rest.now in
    let text = c.in_ok-text.text.now in
    let more : 0 < length rest = search rules in
    let whole = begins (read_lines c.args.limit files (reading_views c.loop-rest.self.readings.items)) (λ xs. read_lines c.args.limit files (reading_views c.args.self.now.readings.items) (lines_in files c.args.levels c.args.place ++ xs))
    below c.args.place (9 - c.args.levels) c.loop-rest.number rest text c.in_ok-text.after.now more c.in_ok-text.ensures.line c.in_ok-text.ensures.rest c.loop-rest.invariant.so_far ls in
    let following : List Line = expanded below c.args.place (9 - c.args.levels) (c.loop-rest.number + 1) (texts_of c.in_ok-text.after.now) in
    let middle = read_lines c.args.limit files (reading_views c.read_next.new.self.readings.items) in
    let words = ap views c.deref.ensures.value ∙ c.in_ok-text.ensures.words ∙ ap words_of (sym c.in_ok-text.ensures.line) in
    let is : file_included files text ≡ Some c.in-Some.below = sym (c.place_included-included.ensures ∙ ap (λ ws. option_and_then (λ name. file_named name files) (included_by ws)) words) ∙ c.in-Some.is in
    let under = below_some files (c.args.levels - 1) text c.in-Some.below is in
    rw (p.1, p.2) (subst (λ read. Unless (is_memory_refusal c.in_err-read_file.field-0.0) (read ≡ Err c.in_err-read_file.field-0.0)) (ap (λ xs. middle (xs ++ (following ++ ls))) (sym under) ∙ (sym (c.in_ok-read_next.ensures.step _) ∙ whole)) (c.in_err-read_file.ensures.refused (following ++ ls)))

pub loop-rest-preserved : goal.loop-rest-preserved
loop-rest-preserved t c =
    let files = c.args.files.now in
    let below = lines_below files (lines_in files (c.args.levels - 1)) in
    let rest = c.loop-rest.rest.now in
    let text = c.in_ok-text.text.now in
    let more : 0 < length rest = search rules in
    let first = read_lines c.args.limit files (reading_views c.loop-rest.self.readings.items) in
    let all = λ (xs : List Line). read_lines c.args.limit files (reading_views c.args.self.now.readings.items) (lines_in files c.args.levels c.args.place ++ xs) in
    let middle = read_lines c.args.limit files (reading_views c.read_next.new.self.readings.items) in
    let words = ap views c.deref.ensures.value ∙ c.in_ok-text.ensures.words ∙ ap words_of (sym c.in_ok-text.ensures.line) in
    let included = sym (c.place_included-included.ensures ∙ ap (λ ws. option_and_then (λ name. file_named name files) (included_by ws)) words) in
    elim c.match-included.branch [
      | in-Some+in_ok-read_file w ↦ record {
        tracked = rw w.self-is w.in_ok-read_file.ensures.tracked;
        agreeing = rw w.self-is w.in_ok-read_file.ensures.agreeing;
        room = rw w.self-is w.in_ok-read_file.ensures.room;
        longer = rw w.self-is (omega (arith, w.in_ok-read_file.ensures.longer, c.in_ok-read_next.ensures.longer));
        few = rw w.self-is (omega (arith, w.in_ok-read_file.ensures.longer, c.in_ok-read_next.ensures.longer));
        deep = refl;
        so_far = λ ls. rw w.self-is (goes_on first all below c.args.place (9 - c.args.levels) c.loop-rest.number rest text c.in_ok-text.after.now more c.in_ok-text.ensures.line c.in_ok-text.ensures.rest c.loop-rest.invariant.so_far middle (read_lines c.args.limit files (reading_views w.read_file.new.self.readings.items)) c.in_ok-read_next.ensures.step
            (λ xs. ap (λ ys. middle (ys ++ xs)) (below_some files (c.args.levels - 1) text w.in-Some.below (included ∙ w.in-Some.is)) ∙ w.in_ok-read_file.ensures.step xs) ls);
      }
      | in_default w ↦ record {
        tracked = rw w.self-is c.in_ok-read_next.ensures.tracked;
        agreeing = rw w.self-is c.in_ok-read_next.ensures.agreeing;
        room = rw w.self-is c.in_ok-read_next.ensures.room;
        longer = rw w.self-is (omega (arith, c.in_ok-read_next.ensures.longer));
        few = rw w.self-is (omega (arith, c.in_ok-read_next.ensures.longer));
        deep = refl;
        so_far = λ ls. rw w.self-is (goes_on first all below c.args.place (9 - c.args.levels) c.loop-rest.number rest text c.in_ok-text.after.now more c.in_ok-text.ensures.line c.in_ok-text.ensures.rest c.loop-rest.invariant.so_far middle middle c.in_ok-read_next.ensures.step
            (λ xs. ap (λ ys. middle (ys ++ xs)) (below_none files (c.args.levels - 1) text (included ∙ w.in_default.is))) ls);
      }
    ]
