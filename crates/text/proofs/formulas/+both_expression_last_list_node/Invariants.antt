use Rattle.std.proofs.Common.{length, ◌+◌, ◌-◌, ◌*◌}
use Rattle.text.proofs.formulas.+both_expression_last_list_node.Given as goal

abbrev pub decreases-both : goal.decreases-both
decreases-both l = 4 * (length l.text.now - l.c.at) + 2

abbrev pub decreases-expression : goal.decreases-expression
decreases-expression l = 4 * (length l.text.now - l.c.at)

abbrev pub decreases-last : goal.decreases-last
decreases-last l = 4 * (length l.text.now - l.c.at) + 1

abbrev pub decreases-list : goal.decreases-list
decreases-list l = 4 * (length l.text.now - l.c.at)

abbrev pub decreases-node : goal.decreases-node
decreases-node l = 4 * (length l.text.now - l.c.at) + 3
