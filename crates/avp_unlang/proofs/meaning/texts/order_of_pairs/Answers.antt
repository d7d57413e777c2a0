use Rattle.std.proofs.Common.{[], ℕ, List, Option, ap, ap₂, refl, sym, ◌∙◌}
use Rattle.std.specs.Cmp.Lexicographic.{slice_cmp}
use Rattle.std.specs.Option.{unwrap_or}
use Rattle.std.specs.Ordering.{nat_cmp}
use Rattle.avp_unlang.specs.internal.SpelledOctets.{before, octets_of_pairs}
use Rattle.avp_unlang.specs.internal.UnreadTexts.{unread}
use Rattle.avp_unlang.proofs.PairsRead.{more_pairs, no_pair, pairs_more}
use Rattle.avp_unlang.proofs.TextSteps.{octets_differ, octets_same}
use Rattle.avp_unlang.proofs.UnreadOctets.{shorter}
use Rattle.avp_unlang.proofs.meaning.texts.order_of_pairs.Goals as goal

pub loop-octet-init : goal.loop-octet-init
loop-octet-init g c = record {
  left = c.requires.left;
  digits = c.requires.digits;
  pairs = c.requires.pairs;
  so_far = refl;
}

pub next-requires : goal.next-requires
next-requires g c = c.loop-octet.invariant.left

pub next_pair-requires : goal.next_pair-requires
next_pair-requires g c = c.loop-octet.invariant.digits

pub returns-in_default-next_pair : goal.returns-in_default-next_pair
returns-in_default-next_pair g c =
    ap₂ (λ (xs : List ℕ) (o : Option (List ℕ)). slice_cmp nat_cmp xs (unwrap_or o [])) (sym c.in-Some.ensures.read) (sym c.in_default-next_pair.ensures.read) ∙ c.loop-octet.invariant.so_far

pub unreachable-requires : goal.unreachable-requires
unreachable-requires g c =
    let a = c.args.around.now in
    let old = octets_of_pairs (unread a c.loop-octet.digits) in
    let left = octets_of_pairs (unread a c.next_pair.new.self) in
    no_pair old left (c.in-Some-next_pair.ensures.read ∙ ap (λ o. before o left) c.in_default-spelled.is) c.loop-octet.invariant.pairs

pub returns-then-octet-beside : goal.returns-then-octet-beside
returns-then-octet-beside g c =
    let a = c.args.around.now in
    let old = octets_of_pairs (unread a c.loop-octet.digits) in
    let left = octets_of_pairs (unread a c.next_pair.new.self) in
    let more = pairs_more old left c.in-Some-spelled.beside (c.in-Some-next_pair.ensures.read ∙ ap (λ o. before o left) c.in-Some-spelled.is) c.loop-octet.invariant.pairs in
    c.cmp.ensures ∙ sym (octets_differ c.in-Some.octet c.in-Some-spelled.beside (unread a c.next.new.self) (unwrap_or left []) c.if-octet-beside.true)
    ∙ ap₂ (λ (xs ys : List ℕ). slice_cmp nat_cmp xs ys) (sym c.in-Some.ensures.read) (sym more.1) ∙ c.loop-octet.invariant.so_far

pub loop-octet-smaller : goal.loop-octet-smaller
loop-octet-smaller g c = shorter (unread c.args.around.now c.loop-octet.left) (unread c.args.around.now c.next.new.self) c.in-Some.octet c.in-Some.ensures.read

pub loop-octet-preserved : goal.loop-octet-preserved
loop-octet-preserved g c =
    let a = c.args.around.now in
    let old = octets_of_pairs (unread a c.loop-octet.digits) in
    let left = octets_of_pairs (unread a c.next_pair.new.self) in
    let more = pairs_more old left c.in-Some-spelled.beside (c.in-Some-next_pair.ensures.read ∙ ap (λ o. before o left) c.in-Some-spelled.is) c.loop-octet.invariant.pairs in record {
      left = c.in-Some.ensures.legible;
      digits = c.in-Some-next_pair.ensures.legible;
      pairs = more.0;
      so_far =
          sym (octets_same c.in-Some.octet c.in-Some-spelled.beside (unread a c.next.new.self) (unwrap_or left []) c.if-octet-beside.false)
          ∙ ap₂ (λ (xs ys : List ℕ). slice_cmp nat_cmp xs ys) (sym c.in-Some.ensures.read) (sym more.1) ∙ c.loop-octet.invariant.so_far;
    }

pub next_pair-requires-2 : goal.next_pair-requires-2
next_pair-requires-2 g c = c.loop-octet.invariant.digits

pub returns-in-Some-next_pair-2 : goal.returns-in-Some-next_pair-2
returns-in-Some-next_pair-2 g c =
    let a = c.args.around.now in
    more_pairs (octets_of_pairs (unread a c.loop-octet.digits)) (octets_of_pairs (unread a c.next_pair-2.new.self)) _ c.in-Some-next_pair-2.ensures.read c.loop-octet.invariant.pairs
    ∙ ap (λ (xs : List ℕ). slice_cmp nat_cmp xs (unwrap_or (octets_of_pairs (unread a c.loop-octet.digits)) [])) (sym c.in_default.ensures.read) ∙ c.loop-octet.invariant.so_far

pub returns-in-None : goal.returns-in-None
returns-in-None g c =
    ap₂ (λ (xs : List ℕ) (o : Option (List ℕ)). slice_cmp nat_cmp xs (unwrap_or o [])) (sym c.in_default.ensures.read) (sym c.in-None.ensures.read) ∙ c.loop-octet.invariant.so_far
