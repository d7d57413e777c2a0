-- The words of a script that are read so far, before those that are left.
use Rattle.std.specs.Prelude.{◌++◌, List, Option}
use Rattle.std.specs.Option.{option_map}
use Rattle.radpolicy.specs.declared.scripts.ScriptWord.{ScriptWord}

unfoldable pub after_named : List ScriptWord → Option (List ScriptWord) → Option (List ScriptWord)
after_named words others = option_map (λ more. words ++ more) others
