-- Calls that differ in objects of the target alone (QVT 1.3, sections 7.3 and 7.10.2).
use Rattle.std.specs.Prelude.{◌≡◌, ℕ, List, Option, None, Some, is_some, slice_get}
use Rattle.std.specs.List.{AllZip}
use Rattle.qv_syntax.specs.declared.program.Program.{Program}
use Rattle.qv_syntax.specs.declared.program.Rel.{Rel}
use Rattle.qvtr_semantics.specs.Templates.{Values, value_at}
use Rattle.qvtr_semantics.specs.Calls.{RelationCall}
use Rattle.source_laws.specs.SourceRelations.{AgreeOnSources}

-- two bindings have values at the same variables, and the same ones but at the variables for objects of the target
pub record DifferInTargets (program : Program) (rel : Rel) (b c : Values) : Type 0 where
  pub sources : AgreeOnSources program rel b c
  pub bound : (v : ℕ) → is_some (value_at b v) ≡ is_some (value_at c v)

-- two calls are of one relation, with such roots
pub record AreAlike (program : Program) (x y : RelationCall) : Type 0 where
  pub rel : x.rel ≡ y.rel
  pub roots : (called : Rel) → slice_get program.rels x.rel ≡ Some called → DifferInTargets program called x.roots y.roots

-- both are made, or neither is
abbrev pub AreMadeAlike : Program → Option RelationCall → Option RelationCall → Type 0
AreMadeAlike program None None = Unit {0}
AreMadeAlike program None (Some y) = ⊥
AreMadeAlike program (Some x) None = ⊥
AreMadeAlike program (Some x) (Some y) = AreAlike program x y

abbrev pub AllMadeAlike : Program → List (Option RelationCall) → List (Option RelationCall) → Type 0
AllMadeAlike program = AllZip (AreMadeAlike program)
