use Rattle.std.proofs.Common.{IsTrue, ap, subst, sym, ◌∙◌}
use Rattle.avp_unlang.specs.Texts.{is_met_by_texts}
use Rattle.avp_unlang.specs.Truth.{are_printable}
use Rattle.avp_unlang.specs.internal.UnreadTexts.{Around}
use Rattle.avp_unlang.proofs.meaning.matching.are_texts_met.Goals as goal

pub is_met_by_texts-requires : goal.is_met_by_texts-requires
is_met_by_texts-requires g c = subst (λ (a : Around). IsTrue (are_printable a.dictionary c.args.comparison.now a.state)) (sym c.new-around.ensures) c.requires

pub returns : goal.returns
returns g c = c.is_met_by_texts.ensures ∙ ap (λ (a : Around). is_met_by_texts a.dictionary c.args.comparison.now a.state a.captures) c.new-around.ensures
