-- What a VALUE line adds, by what it would add alone and by the lines before it.
use Rattle.std.proofs.Common.{◌≡◌, ℕ, Bool, true, false, not, nat_le, List, [], Option, Some, None, Result, Ok, Err, refl, option_and_then, if◌then◌else◌}
use Rattle.std.specs.List.{list_any}
use Rattle.avp_lists.specs.Meets.{Unless}
use Rattle.avp_lists.specs.declared.pairs.AttrId.{AttrId}
use Rattle.avp_dict.specs.declared.entries.ValueLine.{ValueLine}
use Rattle.avp_dict.specs.declared.faults.DictKind.TheVariants.{OutOfRange, NoAttribute, OtherValue}
use Rattle.avp_dict.specs.declared.faults.RefusedLine.{RefusedLine}
use Rattle.avp_dict.specs.declared.faults.RefusedWord.{RefusedWord}
use Rattle.avp_dict.specs.Dictionary.{Dictionary, id_named, names_other_value, typing_of_id}
use Rattle.avp_dict.specs.Meanings.{Reading, Value}
use Rattle.avp_dict.specs.Refusals.{◌>>=◌, at_word, refused_at}
use Rattle.avp_dict.specs.Values.{is_same_name, is_value_name, max_of_typing, tagged_value, value_of, value_up_to, with_line, with_tagged, with_value}
use Rattle.avp_dict.specs.internal.Agreeing.{agreeing, without_values}
use Rattle.avp_dict.specs.internal.Refused.{is_memory_refusal, is_memory_word}
use Rattle.avp_dict.proofs.LinesRead.{refused_by, refuses_through}

up_to_agrees : (values : List ValueLine) (id : AttrId) (name : List ℕ) (number : ℕ) (most : Option ℕ) → value_up_to values id name number most ≡ (value_up_to [] id name number most >>= agreeing values)
unfolding value_up_to
up_to_agrees values id name number None = refl
up_to_agrees values id name number (Some most) = by (not (is_value_name name)) (not (nat_le number most))
  where
    by : (unnamed great : Bool)
        → (if unnamed then Ok None else if great then Err (at_word 3 OutOfRange) else agreeing values (Some (record { id = id; name = name; number = number })))
        ≡ ((if unnamed then Ok None else if great then Err (at_word 3 OutOfRange) else Ok (Some (record { id = id; name = name; number = number }))) >>= agreeing values)
    by true great = refl
    by false true = refl
    by false false = refl

pub value_agrees : (skipped : List (List ℕ)) (d : Dictionary) (attribute name : List ℕ) (number : ℕ) (id : Option AttrId) → value_of skipped d attribute name number id ≡ (value_of skipped (without_values d) attribute name number id >>= agreeing d.values)
unfolding value_of
value_agrees skipped d attribute name number (Some id) = up_to_agrees d.values id name number (option_and_then max_of_typing (typing_of_id id d.attributes))
value_agrees skipped d attribute name number None = by (list_any (is_same_name attribute) skipped)
  where
    by : (b : Bool) → (if b then Ok None else Err (at_word 1 NoAttribute)) ≡ ((if b then Ok None else Err (at_word 1 NoAttribute)) >>= agreeing d.values)
    by true = refl
    by false = refl

module _ (skipped : List (List ℕ)) (d : Dictionary) (r : Reading) (attribute name : List ℕ) (number : ℕ) (is : r.meaning ≡ Value attribute name number) where
  abbrev alone : Result (Option ValueLine) RefusedWord
  alone = value_of skipped (without_values d) attribute name number (id_named attribute d.attributes)

  pub line_adds : (value : Option ValueLine) → alone ≡ Ok value → agreeing d.values value ≡ Ok value
      → with_line skipped d r ≡ Ok (with_tagged (with_value d r value) (tagged_value d name number (id_named attribute d.attributes)))
  unfolding with_line
  line_adds value read agreed = rw (is, value_agrees skipped d attribute name number (id_named attribute d.attributes), read, agreed) refl

  by_value : (refusal : RefusedLine) → Unless (is_memory_refusal refusal) (refused_at r.file r.line (value_of skipped d attribute name number (id_named attribute d.attributes)) ≡ Err refusal) → Unless (is_memory_refusal refusal) (with_line skipped d r ≡ Err refusal)
  unfolding with_line
  by_value refusal h = rw is (refuses_through (is_memory_refusal refusal) refusal (refused_at r.file r.line (value_of skipped d attribute name number (id_named attribute d.attributes))) _ h)

  pub line_fails : (refused : RefusedWord) (refusal : RefusedLine) → refusal ≡ record { file = r.file; line = r.line; refused = refused } → Unless (is_memory_word refused) (alone ≡ Err refused) → Unless (is_memory_refusal refusal) (with_line skipped d r ≡ Err refusal)
  line_fails refused refusal at h =
      by_value refusal (refused_by r.file r.line refused _ refusal at
      (rw (value_agrees skipped d attribute name number (id_named attribute d.attributes)) (refuses_through (is_memory_word refused) refused alone (agreeing d.values) h)))

  pub line_disagrees : (value : Option ValueLine) (refused : RefusedWord) (refusal : RefusedLine) → alone ≡ Ok value → refusal ≡ record { file = r.file; line = r.line; refused = refused } → Unless (is_memory_word refused) (agreeing d.values value ≡ Err refused) → Unless (is_memory_refusal refusal) (with_line skipped d r ≡ Err refusal)
  line_disagrees value refused refusal read at h =
      by_value refusal (refused_by r.file r.line refused _ refusal at
      (rw (value_agrees skipped d attribute name number (id_named attribute d.attributes), read) h))
