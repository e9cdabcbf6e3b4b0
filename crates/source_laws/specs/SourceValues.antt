-- Values without objects of the target model.
use Rattle.std.specs.Prelude.{◌≢◌, ℕ}
use Rattle.std.specs.List.{AllByRecursion}
use Rattle.qvtr_semantics.specs.declared.datum.Datum.{Datum}
use Rattle.qvtr_semantics.specs.declared.datum.Datum.TheVariants.{Obj, Val}
use Rattle.qvtr_semantics.specs.declared.out.Out.{Out}
use Rattle.qvtr_semantics.specs.declared.out.Out.TheVariants as outs

-- a value of a data type, or an object of another model than the target
abbrev pub IsOfSources : ℕ → Datum → Type 0
IsOfSources target (Obj m o) = m ≢ target
IsOfSources target (Val m v) = Unit {0}

-- the value is no object of the target, and a collection has none among its elements
abbrev pub HasNoTarget : ℕ → Out → Type 0
HasNoTarget target (outs.One d) = IsOfSources target d
HasNoTarget target (outs.Many kind ds) = AllByRecursion (IsOfSources target) ds
HasNoTarget target outs.Null = Unit {0}
HasNoTarget target outs.Invalid = Unit {0}
