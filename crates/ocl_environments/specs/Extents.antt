-- Which models of a metamodel are met on the way through the models of a script.
use Rattle.std.specs.Prelude.{ℕ, List, Option, None, Some, fold, slice_index_or}
use Rattle.ocl_environments.specs.declared.extents.Met.{Met}
use Rattle.ocl_environments.specs.declared.extents.Met.TheVariants.{Nothing, One, Several}

-- with one more
abbrev pub next_met : Met → ℕ → Met
next_met Nothing i = One i
next_met (One j) i = Several
next_met Several i = Several

abbrev pub met_all : Met → List ℕ → Met
met_all met models = fold next_met met models

-- the one that was met alone
abbrev pub alone_of : Met → Option ℕ
alone_of Nothing = None
alone_of (One i) = Some i
alone_of Several = None

-- of the metamodel of this number
abbrev pub met_at : List Met → ℕ → Met
met_at table meta = slice_index_or table meta Nothing
