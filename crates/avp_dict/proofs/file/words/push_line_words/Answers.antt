use Rattle.std.proofs.Common.{◌∙◌, ◌++◌, ap}
use Rattle.avp_dict.specs.internal.Views.{views}
use Rattle.avp_dict.proofs.LineWords.{end_past_word, ended, pushed_word}
use Rattle.avp_dict.proofs.file.words.push_line_words.Goals as goal

pub loop-after-init : goal.loop-after-init
loop-after-init c =
    let text = c.args.text.now in
    let left = c.in_ok-left.left.now in
    let is = c.in_ok-left.ensures.left in record {
      words = pushed_word (views c.args.words.now.items) (views c.push_word.new.words.items) text left c.in_ok-left.ensures.word is;
      end = end_past_word text left is;
      over = ended text left is;
    }

pub loop-after-preserved : goal.loop-after-preserved
loop-after-preserved c =
    let words = views c.loop-after.words.items in
    let after = c.in-Some.after.now in
    let left = c.in_ok-left-2.left.now in
    let is = c.in_ok-left-2.ensures.left in record {
      words =
          pushed_word words (views c.push_word-in-Some.new.words.items) after left c.in_ok-left-2.ensures.word is
          ∙ ap (λ others. words ++ others) c.in-Some.ensures.words ∙ c.loop-after.invariant.words;
      end = end_past_word after left is ∙ c.in-Some.ensures.end ∙ c.loop-after.invariant.end;
      over = ended after left is;
    }
