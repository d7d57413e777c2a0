-- The edits and the pairs of a store, as C gives and sees them.
use Rattle.std.specs.Prelude.{ℕ, ◌==◌, if◌then◌else◌, List, [], Option, None, Some, length}
use Rattle.avp_lists.specs.declared.edits.Edit.{Edit}
use Rattle.avp_lists.specs.declared.edits.Op.{Op}
use Rattle.avp_lists.specs.declared.edits.Op.TheVariants.{AddNew, Append, KeepEqual, Prepend, RemoveAll, RemoveEqual, Replace}
use Rattle.avp_lists.specs.declared.lists.List.{List as WhichList}
use Rattle.avp_lists.specs.declared.lists.List.TheVariants.{Control, Reply, Request}
use Rattle.avp_lists.specs.declared.pairs.AttrId.{AttrId}
use Rattle.avp_lists.specs.declared.pairs.Pair.{Pair}
use Rattle.avp_lists.specs.declared.pairs.Value.{Value}
use Rattle.avp_lists.specs.declared.pairs.Value.TheVariants.{Bytes}
use Rattle.radpolicy_c.specs.Attributes.{id_given, kind_number, own_number, within_number}
use Rattle.radpolicy_c.specs.declared.store_pairs.RadpolicyEdit.{RadpolicyEdit}
use Rattle.radpolicy_c.specs.declared.store_pairs.RadpolicyStorePair.{RadpolicyStorePair}

abbrev pub list_given : ℕ → Option WhichList
list_given n =
    if n == 0 then Some Request
    else if n == 1 then Some Reply
    else if n == 2 then Some Control
    else None

-- the operators of unlang(5): = := += ^= -= == !*
abbrev pub operator_given : ℕ → Option Op
operator_given n =
    if n == 0 then Some AddNew
    else if n == 1 then Some Replace
    else if n == 2 then Some Append
    else if n == 3 then Some Prepend
    else if n == 4 then Some RemoveEqual
    else if n == 5 then Some KeepEqual
    else if n == 6 then Some RemoveAll
    else None

abbrev pub edit_of : Option WhichList → Option Op → Option AttrId → List ℕ → Option Edit
edit_of (Some list) (Some op) (Some id) octets =
    Some (record { list = list; op = op; pair = record { id = id; value = Bytes octets } })
edit_of _ _ _ octets = None

-- the edit, where its numbers name a list, an operator and an attribute; its value is the octets
abbrev pub edit_given : RadpolicyEdit → Option Edit
edit_given asked =
    edit_of (list_given asked.list) (operator_given asked.op)
    (id_given asked.kind asked.within asked.number) asked.value.now

-- the octets of a value that C gave; no other is in its store
abbrev pub octets_held : Value → List ℕ
octets_held (Bytes octets) = octets
octets_held _ = []

-- a pair, but for the octets of its value
abbrev pub pair_shown : Pair → RadpolicyStorePair
pair_shown pair = record {
  value_length = length (octets_held pair.value);
  within = within_number pair.id;
  number = own_number pair.id;
  kind = kind_number pair.id;
}

abbrev pub no_pair : RadpolicyStorePair
no_pair = record { value_length = 0; within = 0; number = 0; kind = 0 }
