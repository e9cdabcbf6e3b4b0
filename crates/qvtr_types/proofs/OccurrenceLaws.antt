-- What has a type, a root or a template in a relation is among its variables.
use Rattle.std.proofs.Common.{◌≡◌, ◌+◌, ℕ, zero, suc, List, [], ◌∷◌, ◌++◌, sym, subst, take, arith, refl}
use Rattle.std.specs.Prelude.{Option, Some, Contains, slice_get}
use Rattle.std.specs.List.{flat_map, sum_by}
use Rattle.std.proofs.lemmas.Option.{same_Some, none-some}
use Rattle.std.proofs.lemmas.List.Elements.{Contains-append_left, Contains-append_right}
use Rattle.mof_metamodel.specs.declared.desc.MetaDesc.{MetaDesc}
use Rattle.mof_metamodel.proofs.PropLemmas.{to_flat_map}
use Rattle.qv_syntax.specs.declared.name.Path.{Path}
use Rattle.qv_syntax.specs.declared.ty.Ty.{Ty}
use Rattle.qv_syntax.specs.declared.type_tree.TypeTree.{TypeTree}
use Rattle.qv_syntax.specs.declared.script.Script.{Script}
use Rattle.qv_syntax.specs.declared.script.DomainTree.{DomainTree}
use Rattle.qv_syntax.specs.declared.script.DomainTree.TheVariants as domains
use Rattle.qv_syntax.specs.declared.script.RelationTree.{RelationTree}
use Rattle.ocl_environments.specs.Environments.{Environment}
use Rattle.script_scopes.specs.Occurrences.{WrittenProperty, template_count, pieces_of, piece_variables, root_of, domain_variables, domains_variables, clause_variables, declared_names, occurrences, variables_of}
use Rattle.script_scopes.specs.Occurrences.Piece.{begins}
use Rattle.script_scopes.specs.Divisions.{first_template, HasPiece}
use Rattle.script_scopes.specs.Declarations.{IsWrittenFor, HasVariableType}
use Rattle.script_scopes.proofs.MemberLemmas.{once_has}
use Rattle.script_scopes.proofs.DivisionLaws.{first, past}
use Rattle.script_scopes.proofs.CallRowLaws.{among_some}

-- what occurs in the domain at a place occurs in the domains
occurs_from : (v : List ℕ) (k : ℕ) (doms : List DomainTree) (place : ℕ) (domain : DomainTree) → slice_get doms place ≡ Some domain
    → Contains (domain_variables (k + sum_by template_count (take place doms)) domain) v → Contains (domains_variables k doms) v
occurs_from v k [] place domain found has = absurd (none-some domain found)
occurs_from v k (d ∷ more) zero domain found has =
    let same : d ≡ domain = same_Some d domain found in
    Contains-append_left (domain_variables k d) (domains_variables (k + template_count d) more) v
    (subst (λ (n : ℕ). Contains (domain_variables n d) v) (sym (first k)) (subst (λ (x : DomainTree). Contains (domain_variables (k + 0) x) v) (sym same) has))
occurs_from v k (d ∷ more) (suc place) domain found has =
    Contains-append_right (domain_variables k d) (domains_variables (k + template_count d) more) v
    (occurs_from v (k + template_count d) more place domain found (subst (λ (n : ℕ). Contains (domain_variables n domain) v) (sym (past k d more place)) has))

module _ (r : RelationTree) (v : List ℕ) where
  abbrev declared : List (List ℕ)
  declared = flat_map declared_names r.vars

  abbrev within : List (List ℕ)
  within = domains_variables 1 r.domains

  in_domains : Contains within v → Contains (variables_of r) v
  in_domains c = once_has (occurrences r) v
      (Contains-append_left (declared ++ within ++ clause_variables r.when) (clause_variables r.wheres) v
      (Contains-append_left (declared ++ within) (clause_variables r.when) v (Contains-append_right declared within v c)))

  in_declared : Contains declared v → Contains (variables_of r) v
  in_declared c = once_has (occurrences r) v
      (Contains-append_left (declared ++ within ++ clause_variables r.when) (clause_variables r.wheres) v
      (Contains-append_left (declared ++ within) (clause_variables r.when) v (Contains-append_left declared within v c)))

  -- what occurs in the domain at a place, or in a clause
  pub domain_variable : (place : ℕ) (domain : DomainTree) → slice_get r.domains place ≡ Some domain → Contains (domain_variables (first_template r place) domain) v → Contains (variables_of r) v
  domain_variable place domain found has = in_domains (occurs_from v 1 r.domains place domain found has)

  pub when_variable : Contains (clause_variables r.when) v → Contains (variables_of r) v
  when_variable has = once_has (occurrences r) v
      (Contains-append_left (declared ++ within ++ clause_variables r.when) (clause_variables r.wheres) v (Contains-append_right (declared ++ within) (clause_variables r.when) v has))

  pub where_variable : Contains (clause_variables r.wheres) v → Contains (variables_of r) v
  where_variable has = once_has (occurrences r) v (Contains-append_right (declared ++ within ++ clause_variables r.when) (clause_variables r.wheres) v has)

  -- the root of a domain
  pub root_occurs : (place : ℕ) (domain : DomainTree) → slice_get r.domains place ≡ Some domain → root_of domain ≡ v → Contains (variables_of r) v
  root_occurs place domain found is = domain_variable place domain found (0, omega arith, is)

  -- the variable of a template
  pub template_occurs : (domain : DomainTree) (at : Option WrittenProperty) (path : Path) → HasPiece r domain (begins at v path) → Contains (variables_of r) v
  template_occurs domain at path piece =
      let k : ℕ = first_template r piece.place in
      let (j, l, is) = to_flat_map piece_variables (pieces_of k domain) (begins at v path) v piece.has (0, omega arith, refl) in
      domain_variable piece.place domain piece.found (suc j, omega (arith, l), is)

  written_occurs : (tree : TypeTree) → IsWrittenFor r v tree → Contains (variables_of r) v
  written_occurs tree (IsWrittenFor.variables vars among named is) = in_declared (to_flat_map declared_names r.vars vars v among named)
  written_occurs tree (IsWrittenFor.primitive root span among is) =
      let (place, found) = among_some r.domains (domains.Primitive root tree span) among in root_occurs place (domains.Primitive root tree span) found is

  -- a variable that has a type
  pub type_occurs : (metas : List MetaDesc) (script : Script) (env : Environment) (ty : Ty) → HasVariableType metas script env r v ty → Contains (variables_of r) v
  type_occurs metas script env ty (HasVariableType.is_written tree written is) = written_occurs tree written
  type_occurs metas script env ty (HasVariableType.template class) = template_occurs class.domain class.at class.path class.piece
