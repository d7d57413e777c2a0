use Rattle.std.proofs.Common.{ap₂, sym, ◌∙◌, List, ℕ}
use Rattle.std.specs.Cmp.Lexicographic.{slice_cmp}
use Rattle.std.specs.Ordering.{nat_cmp}
use Rattle.avp_unlang.specs.internal.UnreadTexts.{unread}
use Rattle.avp_unlang.proofs.TextSteps.{octets_differ, octets_same}
use Rattle.avp_unlang.proofs.UnreadOctets.{shorter}
use Rattle.avp_unlang.proofs.meaning.texts.order_of_octets.Goals as goal

pub returns-in_default-next : goal.returns-in_default-next
returns-in_default-next g c =
    ap₂ (λ (xs ys : List ℕ). slice_cmp nat_cmp xs ys) (sym c.in-Some.ensures.read) (sym c.in_default-next.ensures.read) ∙ c.loop-octet.invariant.so_far

pub returns-in-None : goal.returns-in-None
returns-in-None g c =
    ap₂ (λ (xs ys : List ℕ). slice_cmp nat_cmp xs ys) (sym c.in_default.ensures.read) (sym c.in-None.ensures.read) ∙ c.loop-octet.invariant.so_far

pub returns-in-Some-next-2 : goal.returns-in-Some-next-2
returns-in-Some-next-2 g c =
    ap₂ (λ (xs ys : List ℕ). slice_cmp nat_cmp xs ys) (sym c.in_default.ensures.read) (sym c.in-Some-next-2.ensures.read) ∙ c.loop-octet.invariant.so_far

pub returns-then-octet-beside : goal.returns-then-octet-beside
returns-then-octet-beside g c =
    let a = c.args.around.now in
    c.cmp.ensures ∙ sym (octets_differ c.in-Some.octet c.in-Some-next.beside (unread a c.next.new.self) (unread a c.next-in-Some.new.self) c.if-octet-beside.true)
    ∙ ap₂ (λ (xs ys : List ℕ). slice_cmp nat_cmp xs ys) (sym c.in-Some.ensures.read) (sym c.in-Some-next.ensures.read) ∙ c.loop-octet.invariant.so_far

pub loop-octet-preserved : goal.loop-octet-preserved
loop-octet-preserved g c =
    let a = c.args.around.now in record {
      left = c.in-Some.ensures.legible;
      right = c.in-Some-next.ensures.legible;
      so_far =
          sym (octets_same c.in-Some.octet c.in-Some-next.beside (unread a c.next.new.self) (unread a c.next-in-Some.new.self) c.if-octet-beside.false)
          ∙ ap₂ (λ (xs ys : List ℕ). slice_cmp nat_cmp xs ys) (sym c.in-Some.ensures.read) (sym c.in-Some-next.ensures.read) ∙ c.loop-octet.invariant.so_far;
    }

pub loop-octet-smaller : goal.loop-octet-smaller
loop-octet-smaller g c = shorter (unread c.args.around.now c.loop-octet.left) (unread c.args.around.now c.next.new.self) c.in-Some.octet c.in-Some.ensures.read
