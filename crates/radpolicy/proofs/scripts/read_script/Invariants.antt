use Rattle.std.proofs.Common.{◌≡◌, ◌+◌, ◌≤◌, length}
use Rattle.avp_dict.specs.Lines.{texts_of}
use Rattle.radpolicy.specs.Scripts.{after_words, script_from}
use Rattle.radpolicy.proofs.scripts.read_script.Given as goal

abbrev pub invariant-loop-line : goal.invariant-loop-line
invariant-loop-line l = record {
  read : after_words l.script.items (script_from (l.number + 1) (texts_of l.rest)) ≡ script_from 1 (texts_of l.text);
  count : l.number + length l.rest ≤ length l.text;
}

abbrev pub decreases-loop-line : goal.decreases-loop-line
decreases-loop-line l = length l.rest
