-- What holds of a pair that is read: it is canonical, or an attribute that holds others.
use Rattle.std.specs.Prelude.{◌≡◌, true, false}
use Rattle.avp_lists.specs.declared.pairs.Pair.{Pair}
use Rattle.avp_dict.specs.Dictionary.{Dictionary}
use Rattle.avp_dict.specs.Sent.{is_canonical, is_container}

abbrev pub IsCanonicalOrContainer : Dictionary → Pair → Type 0
IsCanonicalOrContainer dictionary pair =
    is_container pair.id ≡ false → is_canonical pair dictionary ≡ true
