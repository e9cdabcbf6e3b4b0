-- Relations that are no larger than numbers of 32 bits count.
use Rattle.std.specs.Prelude.{◌<◌, ◌≤◌, ◌^◌, length}
use Rattle.qv_syntax.specs.declared.program.Rel.{Rel}

-- there are no more variables, and fewer conjuncts
abbrev pub IsSmall : Rel → Type 0
IsSmall rel = (length rel.vars ≤ 2 ^ 32) × (length rel.wheres < 2 ^ 32)
