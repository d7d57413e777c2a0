use Rattle.std.proofs.Common.{◌≡◌, ◌+◌, drop}
use Rattle.server_configuration.specs.Files.{octets_in}
use Rattle.server_configuration.specs.declared.includes.TheConstants.{MAX_CONFIGURATION_OCTETS}
use Rattle.server_configuration.proofs.includes.octets_left.Given as goal

abbrev pub invariant-loop-file : goal.invariant-loop-file
invariant-loop-file l = l.left + octets_in l.files ≡ MAX_CONFIGURATION_OCTETS + octets_in (drop l.file-index l.files)
