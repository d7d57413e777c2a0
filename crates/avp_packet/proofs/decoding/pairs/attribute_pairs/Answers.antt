use Rattle.std.proofs.Common.{◌≡◌, ◌∙◌, ◌++◌, ◌<◌, ℕ, List, get_or, sym, ap, append-nil, rules}
use Rattle.avp_lists.specs.declared.pairs.Pair.{Pair}
use Rattle.avp_dict.specs.Dictionary.{Dictionary}
use Rattle.avp_packet.specs.AttributeOctets.{part}
use Rattle.avp_packet.specs.Meanings.{first_pairs}
use Rattle.avp_packet.specs.Splitting.{Part, parts}
use Rattle.avp_packet.proofs.FittingLists.{octets_fit}
use Rattle.avp_packet.proofs.OctetRanges.{bytes_by_index}
use Rattle.avp_packet.proofs.Means.{none_left, one_read}
use Rattle.avp_packet.proofs.CanonicalOrContainer.{octets_own}
use Rattle.avp_packet.proofs.decoding.pairs.attribute_pairs.Goals as goal

-- keys that know more read the same
same_pairs : (d e : Dictionary) (s t a b : List ℕ) (p : Part) (ps : List Part) → d ≡ e → s ≡ t → a ≡ b → first_pairs d s a p ps ≡ first_pairs e t b p ps
same_pairs d e s t a b p ps dictionary secret authenticator = cc (dictionary, secret, authenticator)

pub loop-front-preserved : goal.loop-front-preserved
loop-front-preserved c =
    let f = c.in-Some.front in
    let old = c.loop-front.pairs.items in
    let k = c.know_first.new.keys in
    let dictionary : k.dictionary.now ≡ c.args.keys.now.dictionary.now = c.know_first.ensures.dictionary ∙ c.loop-front.invariant.dictionary in
    let secret : k.secret.now ≡ c.args.keys.now.secret.now = c.know_first.ensures.secret ∙ c.loop-front.invariant.secret in
    let authenticator : k.authenticator.now ≡ c.args.keys.now.authenticator.now = c.know_first.ensures.authenticator ∙ c.loop-front.invariant.authenticator in
    let same = same_pairs k.dictionary.now c.args.keys.now.dictionary.now k.secret.now c.args.keys.now.secret.now k.authenticator.now c.args.keys.now.authenticator.now (part f.number f.value.now) (parts f.rest.now) dictionary secret authenticator in
    let read = one_read c.args.keys.now.dictionary.now c.args.keys.now.secret.now c.args.keys.now.authenticator.now c.loop-front.pairs.items c.push_first.new.pairs.items c.loop-front.rest.now f.rest.now c.in_ok-rest.rest.now (part f.number f.value.now)
    c.in-Some.ensures.octets (c.in_ok-rest.ensures.pairs ∙ ap (λ (ps : List Pair). old ++ ps) same) c.in_ok-rest.ensures.rest
    ∙ c.loop-front.invariant.read in
    record {
      read = read;
      dictionary = dictionary;
      secret = secret;
      authenticator = authenticator;
    }

pub returns-clause-pairs : goal.returns-clause-pairs
returns-clause-pairs c =
    let old = c.loop-front.pairs.items in
    sym (append-nil old)
    ∙ ap (λ (pairs : List Pair). old ++ pairs) (sym (none_left c.args.keys.now.dictionary.now c.args.keys.now.secret.now c.args.keys.now.authenticator.now old c.loop-front.rest.now c.in_default.ensures.none))
    ∙ c.loop-front.invariant.read

pub returns-clause-fits : goal.returns-clause-fits
returns-clause-fits c =
    let below : (i : ℕ) → get_or c.args.octets.now i 0 < 256 = search rules in
    let bytes = bytes_by_index c.args.octets.now below in
    rw (returns-clause-pairs c) (octets_fit c.args.keys.now.dictionary.now c.args.keys.now.secret.now c.args.keys.now.authenticator.now c.args.octets.now bytes c.requires)

pub returns-clause-own : goal.returns-clause-own
returns-clause-own c = λ keyed.
    let below : (i : ℕ) → get_or c.args.octets.now i 0 < 256 = search rules in
    let bytes = bytes_by_index c.args.octets.now below in
    rw (returns-clause-pairs c) (octets_own c.args.keys.now.dictionary.now c.is_sound.ensures.sound c.args.keys.now.secret.now c.args.keys.now.authenticator.now keyed c.args.octets.now bytes c.requires)
