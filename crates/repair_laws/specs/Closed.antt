-- Lists of terms that have the terms within their keys (QVT 1.3, section 7.10.2).
use Rattle.std.specs.Prelude.{◌≡◌, List, Some, Contains}
use Rattle.qv_syntax.specs.declared.program.Program.{Program}
use Rattle.repair_semantics.specs.declared.term.Term.{Term, out-Term}
use Rattle.repair_semantics.specs.declared.term.TermValue.{TermValue}
use Rattle.repair_semantics.specs.Terms.{term_in}
use Rattle.repair_semantics.specs.Deletions.{managed_classes}

-- each is of a class of which enforcement makes objects, and those within its key are in the list again
pub record AreClosed (program : Program) (terms : List Term) : Type 0 where
  pub managed : (t : Term) → Contains terms t → Contains (managed_classes program) (out-Term t).class.0
  pub within : (t : Term) (x : TermValue) (u : Term) → Contains terms t → Contains (out-Term t).keys x → term_in x ≡ Some u → Contains terms u
