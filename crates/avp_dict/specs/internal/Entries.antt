-- An entry without where its name lies in memory.
use Rattle.avp_dict.specs.declared.entries.Entry.{Entry}
use Rattle.avp_dict.specs.Names.{Described}

abbrev pub entry_view : Entry → Described
entry_view e = record { name = e.name.now; kind = e.kind; hidden = e.hidden }
