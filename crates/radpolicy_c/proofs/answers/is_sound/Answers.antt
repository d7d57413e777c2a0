use Rattle.std.proofs.lemmas.Bool.{false≢true}
use Rattle.radpolicy_c.proofs.DistinctNames.{differing_names, distinct_names, no_files, some_files}
use Rattle.radpolicy_c.proofs.answers.is_sound.Goals as goal

pub returns-then-is_empty : goal.returns-then-is_empty
returns-then-is_empty c = (
  λ held. absurd (false≢true held),
  λ sound. absurd (no_files c.args.job.now.files sound.files (c.is_empty.ensures.0 c.if-is_empty.true)),
)

pub returns-then-not-has_distinct_names : goal.returns-then-not-has_distinct_names
returns-then-not-has_distinct_names c = (
  λ held. absurd (false≢true held),
  λ sound.
      let same = c.has_distinct_names.ensures.1 (differing_names c.args.job.now.files sound.distinct) in
      let other = c.if-not-has_distinct_names.true in
      cc (same, other),
)

pub returns : goal.returns
returns c = (
  λ kept. record {
    files = some_files c.args.job.now.files (λ none. cc (c.is_empty.ensures.1 none));
    distinct = distinct_names c.args.job.now.files (c.has_distinct_names.ensures.0 c.if-not-has_distinct_names.false);
    rules = c.keeps_rules.ensures.0 kept;
  },
  λ sound. c.keeps_rules.ensures.1 sound.rules,
)
