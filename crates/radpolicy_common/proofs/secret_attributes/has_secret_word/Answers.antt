use Rattle.std.proofs.Common.{rules, tests}
use Rattle.std.proofs.lemmas.Iterator.Search.{any_from_yields_List}
use Rattle.std.proofs.lemmas.Iterator.Splits.{YieldsList-from_slice_split}
use Rattle.radpolicy_common.specs.SecretAttributes.{is_no_letter, is_secret_word}
use Rattle.radpolicy_common.proofs.secret_attributes.has_secret_word.Goals as goal

pub returns : goal.returns
returns c = any_from_yields_List is_secret_word _ _ _ c.any.ensures.ran (YieldsList-from_slice_split _ is_no_letter c.args.name.now c.split.ensures.rest c.split.ensures.done c.split.ensures.closure (λ x b q k. search (rules, tests))) (λ x b q k. search (rules, tests))
