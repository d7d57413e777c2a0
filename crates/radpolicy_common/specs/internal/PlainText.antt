-- Characters of ASCII that are shown as they are.
use Rattle.std.specs.Prelude.{ℕ, Bool, nat_lt, ◌&&◌}
use Rattle.radpolicy_common.specs.declared.terminals.LineBreaks.{LineBreaks}
use Rattle.radpolicy_common.specs.VisibleText.{is_visible}

abbrev pub is_plain : LineBreaks → ℕ → Bool
is_plain breaks o = nat_lt o 128 && is_visible breaks o
