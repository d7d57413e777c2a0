-- Which refusals of lines are want of memory.
use Rattle.std.specs.Prelude.{Bool}
use Rattle.avp_dict.specs.declared.faults.RefusedLine.{RefusedLine}
use Rattle.avp_dict.specs.declared.faults.RefusedWord.{RefusedWord}
use Rattle.avp_dict.specs.Outcomes.{is_memory_kind}

abbrev pub is_memory_word : RefusedWord → Bool
is_memory_word refused = is_memory_kind refused.kind

abbrev pub is_memory_refusal : RefusedLine → Bool
is_memory_refusal refused = is_memory_word refused.refused
