-- Texts beside tags.
use Rattle.std.specs.Prelude.{ℕ, Bool, true, false, List, []}
use Rattle.avp_forms.specs.declared.values.FormValue.{FormValue}
use Rattle.avp_forms.specs.declared.values.FormValue.TheVariants.{TaggedText}

abbrev pub is_text : FormValue → Bool
is_text (TaggedText tag os) = true
is_text _ = false

abbrev pub text_beside : FormValue → List ℕ
text_beside (TaggedText tag os) = os
text_beside _ = []
