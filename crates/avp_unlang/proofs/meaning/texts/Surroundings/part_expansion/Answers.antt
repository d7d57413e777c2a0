use Rattle.std.proofs.Common.{[], IsTrue, ap, subst, sym, ◌∙◌}
use Rattle.std.specs.Option.{option_map_or}
use Rattle.std.specs.Prelude.{true}
use Rattle.avp_lists.specs.History.{present}
use Rattle.avp_unlang.specs.PatternTruth.{is_matchable_by}
use Rattle.avp_unlang.specs.Resolutions.{meaning_put}
use Rattle.avp_unlang.specs.Truth.{part_printable}
use Rattle.avp_unlang.specs.declared.tree.Part.{Part}
use Rattle.avp_unlang.specs.declared.tree.Part.TheVariants.{Capture, Meant}
use Rattle.avp_unlang.specs.internal.UnreadTexts.{Around}
use Rattle.avp_unlang.proofs.UnreadOctets.{text_of_part}
use Rattle.avp_unlang.proofs.meaning.texts.Surroundings.part_expansion.Goals as goal

pub instance_expansion-requires : goal.instance_expansion-requires
instance_expansion-requires g c =
    let printable = subst (λ (a : Around). IsTrue (part_printable a.dictionary a.state c.args.part.now)) (sym c.self.view_is) c.requires in
    let meant = subst (λ (p : Part). IsTrue (part_printable c.self.inside.dictionary.now (present (g.S.Store.history c.self.inside.store.now)) p)) c.in-Meant.is printable in
    subst (λ o. IsTrue (option_map_or (is_matchable_by c.self.inside.dictionary.now) o true)) (sym c.first_selected-pair.ensures) meant

pub returns-in-Text-clause-text : goal.returns-in-Text-clause-text
returns-in-Text-clause-text g c =
    c.as_slice.ensures ∙ sym (ap (text_of_part c.args.self.now) c.in-Text.is)

pub returns-in-Meant-clause-text : goal.returns-in-Meant-clause-text
returns-in-Meant-clause-text g c =
    c.instance_expansion.ensures.text ∙ ap (λ o. option_map_or (meaning_put c.self.inside.dictionary.now) o []) c.first_selected-pair.ensures
    ∙ ap (λ (a : Around). text_of_part a (Meant c.in-Meant.list c.in-Meant.id c.in-Meant.selection)) c.self.view_is ∙ sym (ap (text_of_part c.args.self.now) c.in-Meant.is)

pub returns-in-Capture-clause-text : goal.returns-in-Capture-clause-text
returns-in-Capture-clause-text g c =
    c.group_expansion.ensures.text ∙ ap (λ (a : Around). text_of_part a (Capture c.in-Capture.group)) c.self.view_is ∙ sym (ap (text_of_part c.args.self.now) c.in-Capture.is)
