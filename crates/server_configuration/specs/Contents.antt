-- What an item is.
use Rattle.std.specs.Prelude.{Bool, true, false}
use Rattle.server_configuration.specs.declared.items.Content.{Content}
use Rattle.server_configuration.specs.declared.items.Content.TheVariants.{Section}

abbrev pub is_section : Content → Bool
is_section (Section name arguments) = true
is_section _ = false
