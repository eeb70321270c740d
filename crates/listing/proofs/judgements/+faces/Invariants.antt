use Rattle.listing.proofs.judgements.+faces.Given as goal

abbrev pub decreases-faces : goal.decreases-faces
decreases-faces l = l.n
