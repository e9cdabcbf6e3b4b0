-- What calls between relations hand on of the target, as tests.
use Rattle.std.specs.Prelude.{ℕ, nat_eq, Bool, true, false, ◌&&◌, ◌||◌, not, List, [], ◌∷◌, ◌++◌, Option, None, Some, slice_get, if◌then◌else◌}
use Rattle.std.specs.Borrow.{Bor}
use Rattle.std.specs.List.{flat_map, list_any, list_all}
use Rattle.std.specs.Option.{option_to_list}
use Rattle.mof_metamodel.specs.declared.desc.MetaDesc.{MetaDesc}
use Rattle.qv_syntax.specs.declared.ty.Ty.{Ty}
use Rattle.qv_syntax.specs.declared.typed.Typed.{Typed}
use Rattle.qv_syntax.specs.declared.typed.Node.{out-Node}
use Rattle.qv_syntax.specs.declared.program.Program.{Program}
use Rattle.qv_syntax.specs.declared.program.Rel.{Rel}
use Rattle.qv_syntax.specs.declared.program.Var.{Var}
use Rattle.qv_syntax.specs.declared.program.Dom.{Dom}
use Rattle.qv_syntax.specs.declared.program.Conj.{Conj}
use Rattle.qv_syntax.specs.declared.program.Conj.TheVariants as conjuncts
use Rattle.ocl_environments.specs.Agreement.{same_type, fits}
use Rattle.enforcement_rules.specs.declared.clause.Clause.{Clause}
use Rattle.enforcement_rules.specs.declared.clause.Clause.TheVariants as clauses
use Rattle.enforcement_rules.specs.ExpressionTests.{variable_alone}
use Rattle.enforcement_rules.specs.NumberSets.{is_among}
use Rattle.enforcement_rules.specs.TargetTests.{is_target_variable}

-- an argument, with the domain of the called relation whose root it gives
abbrev pub Pair : Type 0
Pair = Dom × Typed

abbrev pub shown_pair : Bor Dom × Bor Typed → Pair
shown_pair p = (p.0.now, p.1.now)

abbrev pub argument_pairs : List Dom → List Typed → List Pair
argument_pairs [] args = []
argument_pairs (d ∷ ds) [] = []
argument_pairs (d ∷ ds) (e ∷ es) = (d, e) ∷ argument_pairs ds es

-- the root of the domain is this one
abbrev pub is_for_root : ℕ → Pair → Bool
is_for_root root p = nat_eq root p.0.root

-- the arguments that roots get, the last one first: of two for one root it is the later one
abbrev pub given_pairs : List Pair → List Pair
given_pairs [] = []
given_pairs (p ∷ ps) = if list_any (is_for_root p.0.root) ps then given_pairs ps else given_pairs ps ++ (p ∷ [])

abbrev pub root_pairs : Rel → List Typed → List Pair
root_pairs called args = given_pairs (argument_pairs called.domains args)

-- ---- E9

abbrev pub is_top_called : Option Rel → Bool
is_top_called None = true
is_top_called (Some called) = called.top && called.in_direction

abbrev pub is_right_call : Program → Conj → Bool
is_right_call program (conjuncts.Cond e) = true
is_right_call program (conjuncts.Equation v e) = true
is_right_call program (conjuncts.Call number args) = is_top_called (slice_get program.rels number)

abbrev pub taken_by_pair : Program → Rel → Pair → List ℕ
taken_by_pair program called p = if is_target_variable program called p.0.root then option_to_list (variable_alone (out-Node p.1.node)) else []

abbrev pub taken_by_called : Program → Option Rel → List Typed → List ℕ
taken_by_called program None args = []
taken_by_called program (Some called) args = flat_map (taken_by_pair program called) (root_pairs called args)

abbrev pub taken_by_call : Program → ℕ → List Typed → List ℕ
taken_by_call program number args = taken_by_called program (slice_get program.rels number) args

abbrev pub taken_by_conjunct : Program → Conj → List ℕ
taken_by_conjunct program (conjuncts.Cond e) = []
taken_by_conjunct program (conjuncts.Equation v e) = []
taken_by_conjunct program (conjuncts.Call number args) = taken_by_call program number args

abbrev pub taken_by_clause : Program → List Conj → List ℕ
taken_by_clause program clause = flat_map (taken_by_conjunct program) clause

abbrev pub is_untaken : Program → Rel → (ℕ → Bool) → ℕ → Bool
is_untaken program rel taken v = is_target_variable program rel v && not (taken v)

abbrev pub has_untaken : Program → Rel → List ℕ → Bool
has_untaken program rel taken = list_any (is_untaken program rel (is_among taken)) rel.universal

abbrev pub has_unmatched : Program → Rel → Bool
has_unmatched program rel = not (list_all (is_right_call program) rel.whens) || has_untaken program rel (taken_by_clause program rel.whens)

-- ---- E10

abbrev pub type_of_variable : Option Var → Option Ty
type_of_variable None = None
type_of_variable (Some var) = Some var.ty

abbrev pub type_at : Rel → ℕ → Option Ty
type_at rel v = type_of_variable (slice_get rel.vars v)

abbrev pub type_of_target : Program → Rel → Option ℕ → Option Ty
type_of_target program rel None = None
type_of_target program rel (Some v) = if is_target_variable program rel v then type_at rel v else None

abbrev pub target_type : Program → Rel → Typed → Option Ty
target_type program rel e = type_of_target program rel (variable_alone (out-Node e.node))

abbrev pub fits_in : List MetaDesc → Clause → Ty → Ty → Bool
fits_in metas clauses.When own asked = same_type own asked
fits_in metas clauses.Where own asked = fits metas own asked

abbrev pub is_passed_as : List MetaDesc → Clause → Option Ty → Option Ty → Bool
is_passed_as metas clause None asked = false
is_passed_as metas clause (Some own) None = false
is_passed_as metas clause (Some own) (Some asked) = fits_in metas clause own asked

module _ (metas : List MetaDesc) (program : Program) (rel : Rel) (clause : Clause) where
  abbrev pub is_passed : Rel → Pair → Bool
  is_passed called p = is_passed_as metas clause (target_type program rel p.1) (type_at called p.0.root)

  abbrev pub is_right_pair : Rel → Pair → Bool
  is_right_pair called p = not (is_target_variable program called p.0.root) || is_passed called p

  abbrev pub are_right_pairs : Option Rel → List Typed → Bool
  are_right_pairs None args = true
  are_right_pairs (Some called) args = list_all (is_right_pair called) (root_pairs called args)

  abbrev pub passes_conjunct : Conj → Bool
  passes_conjunct (conjuncts.Cond e) = true
  passes_conjunct (conjuncts.Equation v e) = true
  passes_conjunct (conjuncts.Call number args) = are_right_pairs (slice_get program.rels number) args
