use Rattle.std.proofs.Common.{List, subst, sym}
use Rattle.std.specs.List.{All, Contains}
use Rattle.std.proofs.lemmas.List.Elements.{All-contains_itself}
use Rattle.radpolicy_traffic.specs.declared.open_records.OpenRecord.{OpenRecord}
use Rattle.radpolicy_traffic.proofs.Growing.{place_within, remove_among}
use Rattle.radpolicy_traffic.proofs.reader.Reader.take.Goals as goal

pub returns-in_err-place-clause-held : goal.returns-in_err-place-clause-held
returns-in_err-place-clause-held c = All-contains_itself c.args.self.now.records.items

pub returns-clause-held : goal.returns-clause-held
returns-clause-held c =
    let Among : List OpenRecord → Type 0 = λ news. All (Contains c.args.self.now.records.items) news in
    subst Among (sym c.remove-begun.ensures.items) (remove_among c.args.self.now.records.items c.in_ok-place.place)

pub returns-clause-taken : goal.returns-clause-taken
returns-clause-taken c = (
  c.in_ok-place.place,
  c.remove-begun.result,
  place_within c.args.self.now.records.items c.deref.result.now c.next_place.result c.in_ok-place.place
      c.deref.ensures.value c.next_place.ensures.place
      c.in_ok-place.was,
  sym c.remove-begun.ensures.value,
  sym c.into_record.ensures,
)
