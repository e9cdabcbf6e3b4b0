use Rattle.std.proofs.Common.{◌+◌, ◌*◌, ◌≡◌, ◌-◌, length}
use Rattle.qvtr_parser.specs.Lists.{behind_sign, comma_at, each_read, left}
use Rattle.qvtr_parser.specs.ScriptReadings.{item_read}
use Rattle.qvtr_parser.proofs.templates.+read_template.Given as goal

abbrev pub decreases-read_nested : goal.decreases-read_nested
decreases-read_nested l = 7 * l.levels + 2

abbrev pub decreases-read_value : goal.decreases-read_value
decreases-read_value l = 7 * l.levels + 3

abbrev pub decreases-read_item : goal.decreases-read_item
decreases-read_item l = 7 * l.levels + 4

abbrev pub decreases-read_more_items : goal.decreases-read_more_items
decreases-read_more_items l = 7 * l.levels + 5

abbrev pub decreases-read_items : goal.decreases-read_items
decreases-read_items l = 7 * l.levels + 6

abbrev pub decreases-read_template : goal.decreases-read_template
decreases-read_template l = 7 * l.levels + 1

abbrev pub decreases-read_braces : goal.decreases-read_braces
decreases-read_braces l = 7 * l.levels

abbrev pub invariant-read_more_items-loop-step : goal.invariant-read_more_items-loop-step
invariant-read_more_items-loop-step l = each_read (comma_at l.tokens.lexemes) (behind_sign (item_read l.tokens.lexemes l.levels)) (length l.tokens.lexemes - l._step) l.items l.end
    ≡ each_read (comma_at l.tokens.lexemes) (behind_sign (item_read l.tokens.lexemes l.levels)) (left l.tokens.lexemes l.at) l.fn.items l.at
