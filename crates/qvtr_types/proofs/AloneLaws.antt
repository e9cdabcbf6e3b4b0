-- Variables alone as arguments: what is refused of them stands, and where nothing is refused nothing stands.
use Rattle.std.proofs.Common.{◌≡◌, inl, inr, ℕ, List, [], sym, ◌∙◌, ap, subst}
use Rattle.std.specs.Prelude.{Option, Some, All, Contains, slice_get}
use Rattle.std.specs.List.{AllZip, position_or_len}
use Rattle.std.proofs.lemmas.Option.{same_Some}
use Rattle.std.proofs.lemmas.List.Elements.{All-contains}
use Rattle.mof_metamodel.specs.Characters.{same_name}
use Rattle.qv_syntax.specs.declared.program.Var.{Var}
use Rattle.qv_syntax.specs.declared.script.BlockTree.{BlockTree}
use Rattle.qv_syntax.specs.declared.script.DomainTree.{DomainTree}
use Rattle.qv_syntax.specs.declared.script.RelationTree.{RelationTree}
use Rattle.qv_syntax.specs.TypedTrees.{Typing}
use Rattle.qv_syntax.specs.ProgramTypes.{typing_of}
use Rattle.qv_syntax.specs.Types.{AreRelated}
use Rattle.ocl_environments.specs.declared.fault.TypeFault.{TypeFault}
use Rattle.script_scopes.specs.Conjuncts.{clause_conjuncts, call_of}
use Rattle.script_scopes.specs.Occurrences.{relations_of, occurrences, variables_of}
use Rattle.script_scopes.specs.Environments.{Setting}
use Rattle.script_scopes.specs.Declarations.{relation_names, IsRepeated}
use Rattle.script_scopes.specs.Faults.{IsRoot, StandsInExpressions}
use Rattle.qvtr_types.specs.PlacedFaults.{AreRoots, IsClauseOf, AreAloneRelated}
use Rattle.qvtr_types.specs.LoneArguments.{CallsRelated, IsUnrelatedFault}
use Rattle.qvtr_types.specs.ScriptScopes.{reach_before}
use Rattle.script_variables.proofs.BindingLaws.{number_at, number_had}
use Rattle.script_scopes.proofs.CallRowLaws.{named_by, number_by, among_some}
use Rattle.mof_metamodel.proofs.Facts.{contains_at}
use Rattle.script_scopes.proofs.OnceLemmas.{new_names-distinct}
use Rattle.qvtr_types.proofs.RootLaws.{one_place}
use Rattle.qvtr_types.proofs.ZipLemmas.{zip_left, zip_right}

module _ (s : Setting) (r : RelationTree) (vars : List Var) (roots : List (List Var)) (once : (name : List ℕ) → IsRepeated (relation_names s.script) name → ⊥)
    (all : AllZip (AreRoots s) (relations_of s.script) roots) where
  -- what is refused
  pub unrelated_stands : (clause : Option BlockTree) → IsClauseOf r clause → (f : TypeFault) → IsUnrelatedFault (reach_before s roots r) vars (clause_conjuncts clause) f → StandsInExpressions s r vars f
  unrelated_stands clause of f h =
      let calls = h.unrelated in
      let call = calls.unrelated in
      let one = call.unrelated in
      let (called, found, named) = named_by s.script once calls.name call.number call.called in
      let (its, has, are) = zip_right (AreRoots s) (relations_of s.script) roots call.number called all found in
      let same : call.roots ≡ its = same_Some call.roots its (sym call.has ∙ has) in
      let (domain, asked, root) = zip_left (λ domain x. IsRoot s called domain (typing_of x)) called.domains its one.place one.root are (subst (λ (rs : List Var). slice_get rs one.place ≡ Some one.root) same one.asked) in
      let var = one.unrelated.alone in
      subst (StandsInExpressions s r vars) (sym one.unrelated.is)
      (StandsInExpressions.alone clause called calls.args one.place one.arg domain var.named.place var.v one.unrelated.var (typing_of one.root) of
      (record {
        conjunct = h.conjunct;
        among = h.among;
        is = subst (λ (n : List ℕ). call_of h.conjunct ≡ Some (n, calls.args)) (sym named) calls.is_call;
        relation = contains_at (relations_of s.script) call.number called found;
      })
      one.given asked var.alone (number_at (variables_of r) var.v var.named.place var.named.named) var.named.found root one.unrelated.unrelated)

  -- where nothing is
  module _ (one_root : (called : RelationTree) (domain : DomainTree) (t u : Typing) → Contains (relations_of s.script) called → IsRoot s called domain t → IsRoot s called domain u → t ≡ u)
      (whens : All (CallsRelated (reach_before s roots r) vars) (clause_conjuncts r.when)) (wheres : All (CallsRelated (reach_before s roots r) vars) (clause_conjuncts r.wheres)) where
    related : (clause : Option BlockTree) → IsClauseOf r clause → All (CallsRelated (reach_before s roots r) vars) (clause_conjuncts clause)
    related clause (inl when) = subst (λ (c : Option BlockTree). All (CallsRelated (reach_before s roots r) vars) (clause_conjuncts c)) (sym when) whens
    related clause (inr is) = subst (λ (c : Option BlockTree). All (CallsRelated (reach_before s roots r) vars) (clause_conjuncts c)) (sym is) wheres

    pub alone_related : AreAloneRelated s r vars
    alone_related clause called args place e domain number v var wanted of call given asked is named found root =
        let (k, there) = among_some (relations_of s.script) called call.relation in
        let (its, has, are) = zip_right (AreRoots s) (relations_of s.script) roots k called all there in
        let (x, at, own) = zip_right (λ d y. IsRoot s called d (typing_of y)) called.domains its place domain are asked in
        let among = contains_at (variables_of r) number v named in
        let first = number_had (variables_of r) v among in
        let same : position_or_len (same_name v) (variables_of r) ≡ number =
        one_place (variables_of r) (position_or_len (same_name v) (variables_of r)) number v (new_names-distinct [] (occurrences r)) (number_at (variables_of r) v (position_or_len (same_name v) (variables_of r)) first) named in
        let fits : AreRelated s.metas var.ty x.ty =
        All-contains (CallsRelated (reach_before s roots r) vars) (clause_conjuncts clause) call.conjunct (related clause of) call.among called.name.text args call.is k its
        (number_by s.script once k called there) has place e x given at var (record { v = v; alone = is; named = record { place = number; named = first ∙ ap Some same; found = found } }) in
        subst (λ (t : Typing). AreRelated s.metas var.ty t.ty) (one_root called domain (typing_of x) wanted call.relation own root) fits
