use Rattle.std.proofs.Common.{◌≡◌, ◌∙◌, ◌++◌, ◌∷◌, [], ℕ, ◌==◌, Bool, true, false, not, ◌&&◌, List, length, map, refl, sym, ap, append_assoc, append-nil}
use Rattle.avp_lists.specs.declared.pairs.Pair.{Pair}
use Rattle.avp_dict.specs.declared.entries.Format.{Format}
use Rattle.avp_packet.specs.Meanings.{Subattribute, are_subattributes_after, begins_subattribute, subattribute_pair, subattributes}
use Rattle.avp_packet.specs.internal.Views.{subattribute_view}
use Rattle.avp_packet.proofs.VendorAttributes.{are_subattributes_more, are_subattributes_none, begins_some, subattributes_more, subattributes_none}
use Rattle.avp_packet.proofs.attribute.subattributes.push_subattributes.Goals as goal

pub loop-subattribute-preserved : goal.loop-subattribute-preserved
loop-subattribute-preserved c =
    let f = c.args.found.now.format in
    let rest = c.loop-subattribute.rest.now in
    let after = c.in-Some.subattribute.rest.now in
    let b = c.in-Some.ensures.begins in
    let some = begins_some f rest c.requires b in
    let more = subattributes_more f rest c.requires some b in
    let same : subattributes f rest ≡ subattribute_view c.in-Some.subattribute ∷ subattributes f after = cc (more, c.in-Some.ensures.subattribute, c.in-Some.ensures.rest) in
    let pair = subattribute_pair c.args.keys.now.dictionary.now c.args.keys.now.secret.now c.args.keys.now.authenticator.now c.args.found.now.vendor in
    let old = c.loop-subattribute.pairs.items in
    record {
      written = rw c.in_ok-push_read.ensures
          (append_assoc old (pair (subattribute_view c.in-Some.subattribute) ∷ []) (map pair (subattributes f after))
          ∙ ap (λ (ss : List Subattribute). old ++ map pair ss) (sym same) ∙ c.loop-subattribute.invariant.written);
      whole = ap (are_subattributes_after f 0) c.in-Some.ensures.rest ∙ sym (are_subattributes_more f rest c.requires some b) ∙ c.loop-subattribute.invariant.whole;
    }

-- what is written where no attribute begins any more
all_written : (old written : List Pair) (pair : Subattribute → Pair) (f : Format) (os rest : List ℕ) → begins_subattribute f rest ≡ false → written ++ map pair (subattributes f rest) ≡ old ++ map pair (subattributes f os) → written ≡ old ++ map pair (subattributes f os)
all_written old written pair f os rest none e = sym (append-nil written) ∙ ap (λ (ss : List Subattribute). written ++ map pair ss) (sym (subattributes_none f rest none)) ∙ e

and_true : (b : Bool) → b ≡ b && true
and_true true = refl
and_true false = refl

and_false : (b : Bool) → false ≡ b && false
and_false true = refl
and_false false = refl

pub returns-then-is_empty-clause-pairs : goal.returns-then-is_empty-clause-pairs
returns-then-is_empty-clause-pairs c =
    let pair = subattribute_pair c.args.keys.now.dictionary.now c.args.keys.now.secret.now c.args.keys.now.authenticator.now c.args.found.now.vendor in
    all_written c.args.pairs.now.items c.loop-subattribute.pairs.items pair c.args.found.now.format c.args.found.now.octets.now c.loop-subattribute.rest.now c.in_default.ensures.none c.loop-subattribute.invariant.written

pub returns-else-is_empty-clause-pairs : goal.returns-else-is_empty-clause-pairs
returns-else-is_empty-clause-pairs c =
    let pair = subattribute_pair c.args.keys.now.dictionary.now c.args.keys.now.secret.now c.args.keys.now.authenticator.now c.args.found.now.vendor in
    all_written c.args.pairs.now.items c.loop-subattribute.pairs.items pair c.args.found.now.format c.args.found.now.octets.now c.loop-subattribute.rest.now c.in_default.ensures.none c.loop-subattribute.invariant.written

pub returns-then-is_empty-clause-whole : goal.returns-then-is_empty-clause-whole
returns-then-is_empty-clause-whole c =
    let f = c.args.found.now.format in
    let os = c.args.found.now.octets.now in
    let all : are_subattributes_after f 0 os ≡ true = sym c.loop-subattribute.invariant.whole ∙ are_subattributes_none f c.loop-subattribute.rest.now c.in_default.ensures.none ∙ sym c.is_empty.ensures ∙ c.if-is_empty.true in
    ap not c.is_empty-then-is_empty.ensures ∙ rw all (and_true (not (length os == 0)))

pub returns-else-is_empty-clause-whole : goal.returns-else-is_empty-clause-whole
returns-else-is_empty-clause-whole c =
    let f = c.args.found.now.format in
    let os = c.args.found.now.octets.now in
    let some : are_subattributes_after f 0 os ≡ false = sym c.loop-subattribute.invariant.whole ∙ are_subattributes_none f c.loop-subattribute.rest.now c.in_default.ensures.none ∙ sym c.is_empty.ensures ∙ c.if-is_empty.false in
    c.if-is_empty.false ∙ rw some (and_false (not (length os == 0)))
