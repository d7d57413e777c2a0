use Rattle.server_configuration.proofs.references.+fill.Given as goal

abbrev pub decreases-fill : goal.decreases-fill
decreases-fill l = l.depth
