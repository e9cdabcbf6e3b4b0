-- Relations by whose calls no chain is come to that is refused, whatever the models are (QVT 1.3, section 7.10.2; that a chain is refused
-- which comes back to one of its calls or grows too long is this engine's own).
use Rattle.std.specs.Prelude.{◌≡◌, ◌≤◌, ℕ, suc, List, Option, Some, IfSome, slice_get}
use Rattle.qvtr_semantics.specs.declared.limits.TheConstants.{MAX_CALLS}
use Rattle.qv_syntax.specs.declared.program.Program.{Program}
use Rattle.qv_syntax.specs.declared.program.Rel.{Rel}
use Rattle.qv_syntax.specs.declared.program.Conj.{Conj}
use Rattle.qv_syntax.specs.Relations.{CallsIn}

-- A chain that begins with a call of the relation has at most so many calls. Behind a call in a when clause chains begin anew: the
-- relation that is called is calm, and a chain behind its call has at most MAX_CALLS.
pub data IsCalm (program : Program) : ℕ → ℕ → Type 0 where
  calm : (n number : ℕ) (rel : Rel) → slice_get program.rels number ≡ Some rel
      → ((called : ℕ) → CallsIn rel.wheres called → IsCalm program n called)
      → ((called : ℕ) → CallsIn rel.whens called → IsCalm program (suc MAX_CALLS) called)
      → IsCalm program (suc n) number

-- the relations that a clause calls are calm, with chains of at most so many calls
abbrev pub CallCalm : Program → ℕ → List Conj → Type 0
CallCalm program n clause = (called : ℕ) → CallsIn clause called → IsCalm program n called

-- those of a when clause, so that no chain that is refused is come to by one of its calls
abbrev pub AreCalm : Program → List Conj → Type 0
AreCalm program clause = CallCalm program (suc MAX_CALLS) clause

-- a number of calls that the chains of a calm relation don't exceed, where one is known
abbrev pub IsHeightOf : Program → ℕ → Option ℕ → Type 0
IsHeightOf program number height = IfSome height (λ n. (n ≤ suc MAX_CALLS) × IsCalm program n number)

-- the same of all that a clause calls
abbrev pub IsHeightIn : Program → List Conj → Option ℕ → Type 0
IsHeightIn program clause height = IfSome height (λ n. (n ≤ suc MAX_CALLS) × CallCalm program n clause)
