use Rattle.root.proofs.digits.+draw.Given as goal

abbrev pub decreases-draw : goal.decreases-draw
decreases-draw l = l.left
