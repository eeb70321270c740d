use Rattle.std.proofs.Common.{length, ◌+◌, ◌-◌, ◌*◌}
use Rattle.search.proofs.covers.+search.Given as goal

abbrev pub decreases-and_left : goal.decreases-and_left
decreases-and_left l = 5 * (length l.g.faces.now + length l.goal.now) + 1

abbrev pub decreases-and_right : goal.decreases-and_right
decreases-and_right l = 5 * (length l.g.faces.now + length l.goal.now) + 1

abbrev pub decreases-branch : goal.decreases-branch
decreases-branch l = 5 * (length l.front.now + l.at + (length l.g.faces.now - l.end) + length l.goal.now) + 5

abbrev pub decreases-cover : goal.decreases-cover
decreases-cover l = 5 * (length l.g.faces.now + length l.goal.now) + 4

abbrev pub decreases-fresh : goal.decreases-fresh
decreases-fresh l = 5 * (length l.g.faces.now + length l.goal.now) + 3

abbrev pub decreases-or_left : goal.decreases-or_left
decreases-or_left l = 5 * (length l.g.faces.now + length l.goal.now) + 1

abbrev pub decreases-or_right : goal.decreases-or_right
decreases-or_right l = 5 * (length l.g.faces.now + length l.goal.now) + 1

abbrev pub decreases-take_turn : goal.decreases-take_turn
decreases-take_turn l = 5 * (length l.g.faces.now + length l.goal.now) + 2
