use Rattle.std.proofs.Common.{rules, ◌≡◌, ◌∙◌, ◌<◌, ◌-◌, ◌≤◌, Bool, true, List, length, drop, take, sym, ap}
use Rattle.std.specs.List.{position_or_len}
use Rattle.std.proofs.lemmas.List.Elements.{All-take}
use Rattle.avp_lists.specs.Instances.{has_id}
use Rattle.avp_lists.specs.declared.pairs.Pair.{Pair}
use Rattle.avp_packet.specs.Sending.{message_authenticator_id, without_signatures}
use Rattle.avp_packet.proofs.Divided.{any_after, after_first_is, kept_after, none_before, none_after, nothing_after}
use Rattle.avp_packet.proofs.encoding.dividing.divide_access.Goals as goal

pub returns-in-len1-up-clause-divided : goal.returns-in-len1-up-clause-divided
returns-in-len1-up-clause-divided c =
    let f : Pair → Bool = has_id message_authenticator_id in
    let xs : List Pair = c.args.list.now in
    let rest : List Pair = c.split_at.result.1.now in
    let back : rest ≡ drop (position_or_len f xs) xs = c.split_at.ensures.back ∙ ap (λ n. drop n xs) c.signature_place.ensures.place in
    let some : 1 ≤ length (drop (position_or_len f xs) xs) = rw back at c.in-len1-up.len_at_least in
    record {
      before = c.split_at.ensures.front ∙ ap (λ n. take n xs) c.signature_place.ensures.place;
      signed = sym (any_after f xs some);
      after = ap without_signatures (after_first_is f xs rest back);
    }

pub returns-in_default-clause-divided : goal.returns-in_default-clause-divided
returns-in_default-clause-divided c =
    let f : Pair → Bool = has_id message_authenticator_id in
    let xs : List Pair = c.args.list.now in
    let rest : List Pair = c.split_at.result.1.now in
    let back : rest ≡ drop (position_or_len f xs) xs = c.split_at.ensures.back ∙ ap (λ n. drop n xs) c.signature_place.ensures.place in
    let none : length (drop (position_or_len f xs) xs) < 1 = rw back at c.in_default.len_below in
    record {
      before = c.split_at.ensures.front ∙ ap (λ n. take n xs) c.signature_place.ensures.place;
      signed = sym (none_after f xs none);
      after = sym (ap without_signatures (nothing_after f xs none));
    }

pub returns-in-len1-up-clause-kept : goal.returns-in-len1-up-clause-kept
returns-in-len1-up-clause-kept c = λ q h.
    let rest : List Pair = c.split_at.result.1.now in
    record {
      before = rw c.split_at.ensures.front (All-take (λ (p : Pair). q p ≡ true) c.signature_place.result c.args.list.now h);
      after = kept_after (λ p. q p ≡ true) c.args.list.now rest c.signature_place.result (length rest - 1) c.split_at.ensures.back h;
    }

pub returns-in-len1-up-clause-unsigned : goal.returns-in-len1-up-clause-unsigned
returns-in-len1-up-clause-unsigned c =
    let front = c.split_at.ensures.front ∙ ap (λ n. take n c.args.list.now) c.signature_place.ensures.place in
    rw front (none_before (has_id message_authenticator_id) c.args.list.now)

pub returns-in_default-clause-kept : goal.returns-in_default-clause-kept
returns-in_default-clause-kept c = λ q h. record {
  before = rw c.split_at.ensures.front (All-take (λ (p : Pair). q p ≡ true) c.signature_place.result c.args.list.now h);
  after = search rules;
}

pub returns-in_default-clause-unsigned : goal.returns-in_default-clause-unsigned
returns-in_default-clause-unsigned c =
    let front = c.split_at.ensures.front ∙ ap (λ n. take n c.args.list.now) c.signature_place.ensures.place in
    rw front (none_before (has_id message_authenticator_id) c.args.list.now)
