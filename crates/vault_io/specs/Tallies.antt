-- The calls of a vault or a sink in memory: which of them are to fail, and how often they did.
use Rattle.std.specs.Prelude.{Bool, ◌==◌, if◌then◌else◌}
use Rattle.std.specs.List.{list_any}
use Rattle.vault_io.specs.declared.tally.Tally.{Tally}
use Rattle.vault_io.specs.Counts.{next_count}

-- the number of the call that comes is listed
abbrev pub is_listed : Tally → Bool
is_listed tally = list_any (λ number. number == tally.calls) tally.failing

-- after one more call
abbrev pub called : Tally → Tally
called tally = record tally { calls = next_count tally.calls }

-- after one more fault
abbrev pub faulted : Tally → Tally
faulted tally = record tally { faults = next_count tally.faults }

-- after one more call that wanted memory, which is a fault
abbrev pub starved : Tally → Tally
starved tally = record (faulted tally) { starved = next_count tally.starved }

-- after a call that wants no memory: it is a fault exactly where its number is listed
abbrev pub answered : Tally → Tally
answered tally = if is_listed tally then faulted (called tally) else called tally
