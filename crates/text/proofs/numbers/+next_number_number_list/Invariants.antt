use Rattle.std.proofs.Common.{length, ◌+◌, ◌-◌, ◌*◌}
use Rattle.text.proofs.numbers.+next_number_number_list.Given as goal

abbrev pub decreases-next : goal.decreases-next
decreases-next l = 2 * (length l.text.now - l.at) + 1

abbrev pub decreases-number : goal.decreases-number
decreases-number l = 2 * (length l.text.now - l.at)

abbrev pub decreases-number_list : goal.decreases-number_list
decreases-number_list l = 2 * (length l.text.now - l.at)
