-- What a verdict says (QVT 1.3, sections 7.2.1 and 7.10.1).
use Rattle.std.specs.Prelude.{◌<◌, ℕ, List, Option, MatchOption}
use Rattle.object_tables.specs.Models.{ModelData}
use Rattle.qv_syntax.specs.declared.program.Program.{Program}
use Rattle.qv_syntax.specs.declared.program.Rel.{Rel}
use Rattle.qvtr_semantics.specs.declared.binding.Binding.{Binding}
use Rattle.qvtr_semantics.specs.Templates.{Values}
use Rattle.qvtr_semantics.specs.Calls.{RelationCall, free}
use Rattle.qvtr_semantics.specs.Satisfaction.{IsTop, Failing, Satisfied, LeastFailing}
use Rattle.relation_calls.specs.Founds.{IsLeastOf}
use Rattle.relation_calls.specs.Seen.{TopChain}
use Rattle.check_mode.specs.declared.verdict.Verdict.{Verdict}
use Rattle.check_mode.specs.declared.verdict.Verdict.TheVariants as verdicts

abbrev pub IsVerdict : Program → List ModelData → Verdict → Type 0
IsVerdict program models verdicts.Yes = Satisfied program models
IsVerdict program models (verdicts.No number b) = LeastFailing program models number b.values

-- the verdict where only so many relations are looked at
abbrev pub IsVerdictOf : Program → List ModelData → ℕ → Verdict → Type 0
IsVerdictOf program models count verdicts.Yes = (number : ℕ) (b : Values) → number < count → ¬ Failing program models number b
IsVerdictOf program models count (verdicts.No number b) = LeastFailing program models number b.values

-- what is found of one relation: nothing where none of its bindings fails, else the least
abbrev pub IsFoundOf : Program → List ModelData → ℕ → Option Binding → Type 0
IsFoundOf program models number found = MatchOption found ((b : Values) → ¬ Failing program models number b) (λ b. IsLeastOf program models number b.values)

-- a chain that is reached from the relation as a top relation
abbrev pub ChainOfTop : Program → List ModelData → ℕ → List RelationCall → Type 0
ChainOfTop program models number chain = (rel : Rel) × IsTop program number rel × TopChain program models (record { rel = number; roots = free rel }) chain

-- and from one of the first so many
abbrev pub ChainOfTops : Program → List ModelData → ℕ → List RelationCall → Type 0
ChainOfTops program models count chain = (number : ℕ) × (number < count) × ChainOfTop program models number chain
