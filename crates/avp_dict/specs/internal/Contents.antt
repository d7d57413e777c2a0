-- What the code's dictionary stands for.
use Rattle.avp_dict.specs.declared.contents.Contents.{Contents}
use Rattle.avp_dict.specs.Dictionary.{Dictionary}

abbrev pub contents_view : Contents → Dictionary
contents_view c =
    record {
      attributes = c.attributes;
      values = c.values;
      tagged_values = c.tagged_values;
      vendors = c.vendors;
      notes = c.notes.items;
    }
