use Rattle.std.proofs.Common.{◌<◌, is_some, ap, length, refl, sym, ◌∙◌}
use Rattle.avp_unlang.specs.internal.SpelledOctets.{octets_of_pairs}
use Rattle.avp_unlang.specs.internal.UnreadTexts.{unread}
use Rattle.avp_unlang.proofs.PairsRead.{of_some, pair_missing, pair_there}
use Rattle.avp_unlang.proofs.meaning.texts.are_pairs.Goals as goal

pub loop-octet-init : goal.loop-octet-init
loop-octet-init g c = record {
  legible = c.requires;
  so_far = refl;
}

pub next_pair-requires : goal.next_pair-requires
next_pair-requires g c = c.loop-octet.invariant.legible

pub returns-then-is_none : goal.returns-then-is_none
returns-then-is_none g c =
    let left = octets_of_pairs (unread c.args.around.now c.next_pair.new.self) in
    sym (pair_missing c.in-Some.octet left c.if-is_none.ensures) ∙ ap is_some (sym c.in-Some.ensures.read) ∙ c.loop-octet.invariant.so_far

pub loop-octet-smaller : goal.loop-octet-smaller
loop-octet-smaller g c =
    let a = c.args.around.now in
    of_some c.in-Some.octet (length (unread a c.next_pair.new.self) < length (unread a c.loop-octet.digits)) c.if-is_none.ensures c.in-Some.ensures.shorter

pub loop-octet-preserved : goal.loop-octet-preserved
loop-octet-preserved g c =
    let left = octets_of_pairs (unread c.args.around.now c.next_pair.new.self) in record {
      legible = c.in-Some.ensures.legible;
      so_far = sym (pair_there c.in-Some.octet left c.if-is_none.ensures) ∙ ap is_some (sym c.in-Some.ensures.read) ∙ c.loop-octet.invariant.so_far;
    }

pub returns : goal.returns
returns g c = ap is_some (sym c.in_default.ensures.read) ∙ c.loop-octet.invariant.so_far
