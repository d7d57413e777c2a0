-- What a server makes of a condition.
use Rattle.std.specs.Prelude.{Bool, true, false, not, Option, Some, None}
use Rattle.std.specs.Option.{option_map}
use Rattle.std.specs.Cmp.Lexicographic.{slice_cmp}
use Rattle.std.specs.Ordering.{nat_cmp, int_cmp, is_eq, is_ne}
use Rattle.std.specs.declared.cmp.Ordering.{Ordering}
use Rattle.avp_lists.specs.Instances.{has_instance}
use Rattle.avp_lists.specs.States.{list_of}
use Rattle.avp_lists.specs.declared.lists.State.{State}
use Rattle.avp_lists.specs.declared.pairs.AttrId.{AttrId}
use Rattle.avp_lists.specs.declared.pairs.Value.{Value}
use Rattle.avp_lists.specs.declared.pairs.Value.TheVariants as values
use Rattle.avp_unlang.specs.Relations.{meets}
use Rattle.avp_unlang.specs.Truth.{first_value}
use Rattle.avp_unlang.specs.declared.tree.Relation.{Relation}
use Rattle.avp_unlang.specs.declared.tree.Relation.TheVariants as relations
use Rattle.server_unlang.specs.Codes.{is_code}
use Rattle.server_unlang.specs.Settings.{Setting}
use Rattle.server_unlang.specs.Texts.{parts_text, text_value}
use Rattle.server_unlang.specs.declared.codes.ServerCode.{ServerCode}
use Rattle.server_unlang.specs.declared.conditions.ServerComparand.{ServerComparand}
use Rattle.server_unlang.specs.declared.conditions.ServerComparand.TheVariants.{Instance, Literal, Text}
use Rattle.server_unlang.specs.declared.conditions.ServerComparison.{ServerComparison}
use Rattle.server_unlang.specs.declared.conditions.ServerCondition.{ServerCondition, Constant, Code, Present, Compare, Not', And', Or'}
use Rattle.server_unlang.specs.declared.tree.TextType.TheVariants as types

-- true or false; nothing where a comparison met an absent attribute or a text that is no value, which ends the whole
-- condition (-1 of `radius_evaluate_cond`, evaluate.c)
abbrev pub Answer : Type 0
Answer = Option Bool

-- ---- comparisons

-- the order of two values of a type (`value_data_cmp`, lib/value.c)
abbrev pub value_order : Value → Value → Option Ordering
value_order (values.Text a) (values.Text b) = Some (slice_cmp nat_cmp a b)
value_order (values.Bytes a) (values.Bytes b) = Some (slice_cmp nat_cmp a b)
value_order (values.Int m) (values.Int n) = Some (nat_cmp m n)
value_order (values.Signed y) (values.Signed z) = Some (int_cmp y z)
value_order (values.Addr a) (values.Addr b) = Some (slice_cmp nat_cmp a b)
value_order (values.Ether a) (values.Ether b) = Some (slice_cmp nat_cmp a b)
value_order _ _ = None

-- what an instance is compared with, if it is there (`cond_normalise_and_cmp`, evaluate.c)
abbrev pub comparand_value : Setting → AttrId → ServerComparand → State → Option Value
comparand_value w id (Literal value) s = Some value
comparand_value w id (Instance list other) s = first_value list other s
comparand_value w id (Text type parts) s =
    text_value w.dictionary id type (parts_text w.dictionary s parts)

-- two values that are there (`value_data_cmp_op`, lib/value.c)
abbrev pub compared : Relation → Option Value → Option Value → Answer
compared relation (Some v) (Some x) = option_map (meets relation) (value_order v x)
compared relation _ _ = None

-- a prefix with all bits is within no other one: it is equal to it, or in no order (`value_data_cidr_cmp_op`,
-- lib/value.c)
abbrev pub meets_as_prefix : Relation → Ordering → Bool
meets_as_prefix relations.Equal o = is_eq o
meets_as_prefix relations.Differs o = is_ne o
meets_as_prefix relations.AtMost o = is_eq o
meets_as_prefix relations.AtLeast o = is_eq o
meets_as_prefix _ o = false

abbrev pub compared_as_prefixes : Relation → Option Value → Option Value → Answer
compared_as_prefixes relation (Some v) (Some x) =
    option_map (meets_as_prefix relation) (value_order v x)
compared_as_prefixes relation _ _ = None

-- beside a text with expansions an address is a prefix with all bits (`condition_tokenize`, parser.c)
abbrev pub compared_beside : ServerComparand → Relation → Option Value → Option Value → Answer
compared_beside (Text types.Address parts) = compared_as_prefixes
compared_beside _ = compared

-- the first instance is compared (`radius_evaluate_map`, evaluate.c)
abbrev pub comparison_answer : Setting → ServerComparison → State → Answer
comparison_answer w c s =
    compared_beside c.comparand c.relation (first_value c.list c.id s)
    (comparand_value w c.id c.comparand s)

-- ---- conditions (`radius_evaluate_cond`, evaluate.c)

-- `&&`: the next one is asked where the first is true
abbrev pub answer_both : Answer → Answer → Answer
answer_both None next = None
answer_both (Some false) next = Some false
answer_both (Some true) next = next

-- `||`: the next one is asked where the first is false
abbrev pub answer_either : Answer → Answer → Answer
answer_either None next = None
answer_either (Some true) next = Some true
answer_either (Some false) next = next

-- a condition, after this code; a code and a reference are asked for by `radius_evaluate_tmpl`
abbrev pub answer : Setting → ServerCondition → State → ServerCode → Answer
answer w (Constant value) s c = Some value
answer w (Code word) s c = Some (is_code c word)
answer w (Present list id) s c = Some (has_instance id (list_of list s))
answer w (Compare comparison) s c = comparison_answer w comparison s
answer w (Not' p inner) s c = option_map not (answer w inner s c)
answer w (And' p first q next) s c = answer_both (answer w first s c) (answer w next s c)
answer w (Or' p first q next) s c = answer_either (answer w first s c) (answer w next s c)

-- no answer counts as false (`MOD_IF` in `modcall_recurse`, modcall.c)
abbrev pub is_true : Answer → Bool
is_true None = false
is_true (Some value) = value

abbrev pub is_false : Answer → Bool
is_false None = false
is_false (Some value) = not value
