-- A word of `check` in memory.
use Rattle.qvtr_engine.specs.declared.check_words.Bound.{Bound as BoundWord}
use Rattle.qvtr_engine.specs.CheckWords.{Bound}

abbrev pub bound_view : BoundWord → Bound
bound_view b = record { name = b.name.now; path = b.path.now }
