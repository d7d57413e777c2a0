use Rattle.std.proofs.Common.{rules, tests}
use Rattle.std.proofs.lemmas.Iterator.Search.{any_from_yields_List}
use Rattle.std.proofs.lemmas.Iterator.Splits.{YieldsList-from_slice_split}
use Rattle.radpolicy_import_texts.specs.SecretNames.{is_secret}
use Rattle.radpolicy_import_texts.specs.Words.{is_no_name_octet}
use Rattle.radpolicy_import_texts.proofs.names.SecretNames.names_secret.Goals as goal

pub returns : goal.returns
returns c = any_from_yields_List (is_secret c.args.self.now) _ _ _ c.any.ensures.ran (YieldsList-from_slice_split _ is_no_name_octet c.args.octets.now c.split.ensures.rest c.split.ensures.done c.split.ensures.closure (λ x b q k. search (rules, tests))) (λ x b q k. search (rules, tests))
