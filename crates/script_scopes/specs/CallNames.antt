-- The names that a script calls where no relation may be called, and those that its relations call in a direction, as lists (QVT 1.3,
-- sections 7.2 and 7.11.1.4).
use Rattle.std.specs.Prelude.{◌≡◌, ℕ, ◌+◌, if◌then◌else◌, List, [], ◌∷◌, ◌++◌, Option, None, Some, Contains}
use Rattle.std.specs.List.{flat_map}
use Rattle.std.specs.Option.{option_map, option_to_list}
use Rattle.std.specs.Set.{is_member}
use Rattle.mof_metamodel.specs.Characters.{same_name}
use Rattle.qv_syntax.specs.declared.expr.Expr.{Expr}
use Rattle.qv_syntax.specs.declared.script.BlockTree.{BlockTree}
use Rattle.qv_syntax.specs.declared.script.DomainTree.{DomainTree}
use Rattle.qv_syntax.specs.declared.script.RelationTree.{RelationTree}
use Rattle.qv_syntax.specs.declared.script.Script.{Script}
use Rattle.ocl_environments.specs.declared.fault.TypeFault.{TypeFault}
use Rattle.ocl_environments.specs.declared.fault.TypeFault.TheVariants.{CallShape}
use Rattle.script_scopes.specs.Usages.{calls_in}
use Rattle.script_scopes.specs.Conjuncts.{clause_conjuncts, call_of}
use Rattle.script_scopes.specs.Occurrences.{Piece, relations_of, pieces_of, template_count}
use Rattle.script_scopes.specs.Occurrences.Piece.{begins, asks}
use Rattle.script_scopes.specs.Declarations.{queries_of}
use Rattle.script_scopes.specs.UniversalNames.{has_domain_of}

-- ---- pieces of a relation

-- the pieces of these domains; the first template of the first one has this number
abbrev pub all_pieces : ℕ → List DomainTree → List Piece
all_pieces k [] = []
all_pieces k (domain ∷ more) = pieces_of k domain ++ all_pieces (k + template_count domain) more

-- ---- where no relation may be called

-- what a piece calls
abbrev pub piece_calls : Piece → List (List ℕ)
piece_calls (begins at variable class) = []
piece_calls (asks at e) = calls_in e

-- what is called within a conjunct, by what the conjunct itself calls: in its arguments where that is a relation, else in the whole
abbrev pub within_call : List (List ℕ) → Expr → Option (List ℕ × List Expr) → List (List ℕ)
within_call relations conjunct None = calls_in conjunct
within_call relations conjunct (Some call) = if is_member same_name relations call.0 then flat_map calls_in call.1 else calls_in conjunct

abbrev pub called_within : List (List ℕ) → Expr → List (List ℕ)
called_within relations conjunct = within_call relations conjunct (call_of conjunct)

-- in a relation: by items, and within conjuncts
abbrev pub relation_calls : List (List ℕ) → RelationTree → List (List ℕ)
relation_calls relations r =
    flat_map piece_calls (all_pieces 1 r.domains) ++ flat_map (called_within relations) (clause_conjuncts r.when) ++ flat_map (called_within relations) (clause_conjuncts r.wheres)

-- in a script, where these are the names of its relations: in relations and in queries
abbrev pub script_calls : List (List ℕ) → Script → List (List ℕ)
script_calls relations script = flat_map (relation_calls relations) (relations_of script) ++ flat_map (λ q. calls_in q.body) (queries_of script)

-- ---- in a direction

-- what the conjuncts of a clause call
abbrev pub conjunct_call : Expr → List (List ℕ)
conjunct_call e = option_to_list (option_map (λ p. p.0) (call_of e))

abbrev pub clause_calls : Option BlockTree → List (List ℕ)
clause_calls clause = flat_map conjunct_call (clause_conjuncts clause)

-- what a relation calls, if it is part of the direction
abbrev pub inside_calls : List ℕ → RelationTree → List (List ℕ)
inside_calls target r = if has_domain_of target r.domains then clause_calls r.when ++ clause_calls r.wheres else []

-- the names of the relations that are no part of it
abbrev pub outside_name : List ℕ → RelationTree → List (List ℕ)
outside_name target r = if has_domain_of target r.domains then [] else r.name.text ∷ []

abbrev pub outside_names : List ℕ → List RelationTree → List (List ℕ)
outside_names target relations = flat_map (outside_name target) relations

-- ---- faults

-- the fault has a name that is among both
pub record IsCallFault (others names : List (List ℕ)) (fault : TypeFault) : Type 0 where
  pub name : List ℕ
  pub among : Contains names name
  pub other : Contains others name
  pub is : fault ≡ CallShape name
