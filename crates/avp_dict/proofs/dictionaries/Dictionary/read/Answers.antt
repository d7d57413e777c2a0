use Rattle.avp_dict.specs.DictionaryReading.{max_lines}
use Rattle.avp_dict.specs.internal.Contents.{contents_view}
use Rattle.avp_dict.proofs.FaultPlaces.{fault_in, fault_place, notes_in}
use Rattle.avp_dict.proofs.Passes.{read_gives, read_refuses}
use Rattle.avp_dict.proofs.SoundDictionary.{sound_of}
use Rattle.avp_dict.proofs.dictionaries.Dictionary.read.Goals as goal

pub invariant_of-result : goal.invariant_of-result
invariant_of-result c = sound_of max_lines c.args.files.now (contents_view c.in-Ok.contents) (rw c.as_slice.ensures at c.in-Ok.ensures)

pub returns-in-Ok-clause-read : goal.returns-in-Ok-clause-read
returns-in-Ok-clause-read c = read_gives max_lines c.args.files.now (contents_view c.in-Ok.contents) (rw c.as_slice.ensures at c.in-Ok.ensures)

pub returns-in-Ok-clause-noted : goal.returns-in-Ok-clause-noted
returns-in-Ok-clause-noted c = notes_in max_lines c.args.files.now (contents_view c.in-Ok.contents) c.requires.first (rw c.as_slice.ensures at c.in-Ok.ensures)

pub returns-in-Err-clause-read : goal.returns-in-Err-clause-read
returns-in-Err-clause-read c = read_refuses max_lines c.args.files.now c.in-Err.refused c.fault_for.result (rw c.as_slice-in-Err.ensures at c.fault_for.ensures) (rw c.as_slice.ensures at c.in-Err.ensures)

pub returns-in-Err-clause-placed : goal.returns-in-Err-clause-placed
returns-in-Err-clause-placed c = fault_in max_lines c.args.files.now c.in-Err.refused c.fault_for.result c.requires.first (rw c.as_slice-in-Err.ensures at c.fault_for.ensures) (rw c.as_slice.ensures at c.in-Err.ensures)

pub returns-in-Err-clause-place : goal.returns-in-Err-clause-place
returns-in-Err-clause-place c = fault_place max_lines c.args.files.now c.in-Err.refused c.fault_for.result c.requires.first (rw c.as_slice-in-Err.ensures at c.fault_for.ensures) (rw c.as_slice.ensures at c.in-Err.ensures)
