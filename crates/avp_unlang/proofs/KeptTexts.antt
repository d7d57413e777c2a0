-- What is compared with a pattern has room where what it captures is kept.
use Rattle.std.proofs.Common.{◌≡◌, ◌≤◌, ℕ, true, ◌&&◌, List, length, arith, Option, None, Some, IsTrue, refl}
use Rattle.std.specs.Prelude.{IfSome}
use Rattle.std.specs.Option.{option_map_or}
use Rattle.avp_lists.specs.States.{list_of}
use Rattle.avp_lists.specs.Tags.{is_selected}
use Rattle.avp_lists.specs.declared.lists.State.{State}
use Rattle.avp_lists.specs.declared.pairs.Pair.{Pair}
use Rattle.avp_dict.specs.Dictionary.{Dictionary}
use Rattle.avp_dict.specs.Limits.{fits, is_known, is_typed, is_within}
use Rattle.avp_dict.specs.Printing.{hexadecimal}
use Rattle.avp_forms.specs.Expansions.{has_few_digits, is_printed_by_type, max_expansion}
use Rattle.hex.specs.Hex.{lower_digits}
use Rattle.hex.proofs.HexLemmas.{length-encode_with}
use Rattle.avp_unlang.specs.PatternTruth.{instance_in, is_matchable_by}
use Rattle.avp_unlang.specs.Resolutions.{StateFits}
use Rattle.avp_unlang.specs.declared.tree.Matching.{Matching}
use Rattle.avp_unlang.specs.internal.CaptureRoom.{is_keepable}
use Rattle.avp_unlang.proofs.Comparing.{and_right, value_short}
use Rattle.avp_unlang.proofs.FirstInstances.{first_of_holds}

-- octets whose digits have room are no more than an attribute may have
pub few_of_digits : (os : List ℕ) → length (hexadecimal os) ≤ max_expansion → length os ≤ 4012
few_of_digits os h = let e = length-encode_with lower_digits os in omega (arith, e, h)

module _ (dictionary : Dictionary) where
  pair_keepable : (p : Pair) → fits p dictionary ≡ true → is_matchable_by dictionary p ≡ true → is_keepable dictionary p ≡ true
  unfolding fits
  pair_keepable p fit matchable =
      let within = and_right (is_known p.id dictionary && is_typed p.id p.value dictionary) (is_within p.id p.value dictionary) fit in
      rw (value_short dictionary p.id p.value within, and_right (has_few_digits p.value) (is_printed_by_type p.id p.value dictionary) matchable) refl

  found_keepable : (o : Option Pair) → IfSome o (λ p. IsTrue (fits p dictionary)) → option_map_or (is_matchable_by dictionary) o true ≡ true → option_map_or (is_keepable dictionary) o true ≡ true
  found_keepable None fit matchable = refl
  found_keepable (Some p) fit matchable = pair_keepable p fit matchable

  pub first_keepable : (s : State) (m : Matching) → StateFits dictionary s → option_map_or (is_matchable_by dictionary) (instance_in m s) true ≡ true → option_map_or (is_keepable dictionary) (instance_in m s) true ≡ true
  first_keepable s m fit matchable =
      found_keepable (instance_in m s) (first_of_holds (λ p. IsTrue (fits p dictionary)) (is_selected m.selection m.id) (list_of m.list s) (fit m.list)) matchable
