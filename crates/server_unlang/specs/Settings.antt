-- What a run hangs on beside the policy and the lists.
use Rattle.std.specs.Prelude.{List}
use Rattle.avp_dict.specs.Dictionary.{Dictionary}
use Rattle.avp_lists.specs.declared.pairs.AttrId.{AttrId}
use Rattle.server_unlang.specs.declared.codes.Section.{Section}

-- the dictionary, the attributes in the order in which the server keeps them, and the section
pub record Setting : Type 0 where
  pub dictionary : Dictionary
  pub order : List AttrId
  pub section : Section
