-- Attributes and keys without where they lie in memory, and what an iterator has left.
use Rattle.std.specs.Prelude.{ℕ, List, drop, Result, Ok, Err}
use Rattle.avp_dict.specs.Dictionary.{Dictionary}
use Rattle.avp_packet.specs.declared.attribute.splitting.Attribute.{Attribute}
use Rattle.avp_packet.specs.declared.attribute.splitting.Attributes.{Attributes}
use Rattle.avp_packet.specs.declared.attribute.splitting.BadLength.{BadLength}
use Rattle.avp_packet.specs.declared.attribute.splitting.Front.{Front}
use Rattle.avp_packet.specs.declared.decoding.fragments.Joined.{Joined}
use Rattle.avp_packet.specs.declared.decoding.fragments.Piece.{Piece}
use Rattle.avp_packet.specs.declared.attribute.subattributes.Subattribute.{Subattribute}
use Rattle.avp_packet.specs.declared.keys.Keys.{Keys}
use Rattle.avp_packet.specs.AttributeOctets.{part}
use Rattle.avp_packet.specs.Meanings as meanings
use Rattle.avp_packet.specs.Splitting.{Part, Placed, items_from, parts}

abbrev pub part_view : Front → Part
part_view front = part front.number front.value.now

abbrev pub item_view : Result Attribute BadLength → Result Placed BadLength
item_view (Ok a) = Ok (record { number = a.number; value = a.value.now; offset = a.offset })
item_view (Err bad) = Err bad

abbrev pub items_left : Attributes → List (Result Placed BadLength)
items_left s = items_from s.offset (drop s.offset s.octets.now)

abbrev pub subattribute_view : Subattribute → meanings.Subattribute
subattribute_view subattribute =
    record { number = subattribute.number; value = subattribute.value.now }

abbrev pub piece_view : Piece → meanings.Piece
piece_view piece = record { more = piece.more; os = piece.octets.now }

abbrev pub run_view : Joined → meanings.Run
run_view joined = record { os = joined.octets.items; rest = parts joined.rest.now }

-- what a definition gives under keys
abbrev pub under : {T : Type 0} → Keys → (Dictionary → List ℕ → List ℕ → T) → T
under keys given = given keys.dictionary.now keys.secret.now keys.authenticator.now
