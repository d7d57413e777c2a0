-- Which open records a line belongs to.
use Rattle.std.specs.Prelude.{◌&&◌, Bool, true, false, not}
use Rattle.std.specs.Str.{bytes_eq}
use Rattle.radpolicy_traffic.specs.declared.headings.Key.{Key}
use Rattle.radpolicy_traffic.specs.declared.marks.Owner.{Owner}
use Rattle.radpolicy_traffic.specs.declared.marks.Owner.TheVariants.{Current, Identified, Keyed}
use Rattle.radpolicy_traffic.specs.declared.open_records.OpenRecord.{OpenRecord}
use Rattle.radpolicy_traffic.specs.declared.open_records.Part.{Part}
use Rattle.radpolicy_traffic.specs.declared.open_records.Part.TheVariants.{Nothing}

abbrev pub has_key : Key → OpenRecord → Bool
has_key key given = bytes_eq given.number.items key.number.now
    && bytes_eq given.client.items key.client.now && bytes_eq given.server.items key.server.now

abbrev pub is_read : Part → Bool
is_read Nothing = false
is_read _ = true

abbrev pub is_owned : Owner → OpenRecord → Bool
is_owned Current given = is_read given.part
is_owned (Keyed key) given = has_key key given
is_owned (Identified number) given = bytes_eq given.number.items number.now

-- A record that waits to be given out belongs to nothing more.
abbrev pub belongs_to : Owner → OpenRecord → Bool
belongs_to owner given = not given.is_done && is_owned owner given
