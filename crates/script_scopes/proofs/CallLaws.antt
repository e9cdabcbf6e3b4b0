-- The names that are listed are those that are called in wrong places, and from a direction.
use Rattle.std.proofs.Common.{◌≡◌, ℕ, ◌+◌, zero, suc, List, [], ◌∷◌, ◌++◌, Bool, true, false, cond, refl, sym, ◌∙◌, ap, subst, map, take, arith, ⊎_elim}
use Rattle.std.specs.Prelude.{Option, Some, None, Contains, All, slice_get}
use Rattle.std.specs.List.{flat_map, sum_by}
use Rattle.std.specs.Set.{is_member}
use Rattle.std.proofs.lemmas.Option.{same_Some, none-some}
use Rattle.std.proofs.lemmas.List.Elements.{Contains-append_left, Contains-append_right, Contains-append_cases, All-contains}
use Rattle.mof_metamodel.specs.Characters.{same_name}
use Rattle.mof_metamodel.proofs.PropLemmas.{to_flat_map, from_flat_map}
use Rattle.qv_syntax.specs.declared.expr.Expr.{Expr}
use Rattle.qv_syntax.specs.declared.script.BlockTree.{BlockTree}
use Rattle.qv_syntax.specs.declared.script.DomainTree.{DomainTree}
use Rattle.qv_syntax.specs.declared.script.RelationTree.{RelationTree}
use Rattle.qv_syntax.specs.declared.script.Script.{Script}
use Rattle.ocl_environments.specs.declared.fault.TypeFault.{TypeFault}
use Rattle.ocl_environments.specs.declared.fault.TypeFault.TheVariants.{CallShape}
use Rattle.script_scopes.specs.ScriptNames.{each_once}
use Rattle.script_scopes.specs.Usages.{calls_in}
use Rattle.script_scopes.specs.Conjuncts.{clause_conjuncts, call_of}
use Rattle.script_scopes.specs.Occurrences.{Piece, relations_of, pieces_of, template_count}
use Rattle.script_scopes.specs.Occurrences.Piece.{begins, asks}
use Rattle.script_scopes.specs.Declarations.{queries_of, relation_names}
use Rattle.script_scopes.specs.Directions.{IsRelationName, IsCalledWithin, IsMisplaced}
use Rattle.script_scopes.specs.Environments.{Setting}
use Rattle.script_scopes.specs.Faults.{IsCalledInQuery, StandsInScript}
use Rattle.script_scopes.specs.CallNames.{all_pieces, piece_calls, within_call, called_within, relation_calls, script_calls, IsCallFault}
use Rattle.script_scopes.proofs.NameLemmas.{has_name, name_had, lacks_name}
use Rattle.script_scopes.proofs.MemberLemmas.{once_has, has_once}
use Rattle.script_scopes.proofs.DivisionLaws.{first, past}

-- ---- pieces

pub pieces_from : (k : ℕ) (doms : List DomainTree) (piece : Piece) → Contains (all_pieces k doms) piece
    → (place : ℕ) × (domain : DomainTree) × (slice_get doms place ≡ Some domain) × Contains (pieces_of (k + sum_by template_count (take place doms)) domain) piece
pieces_from k [] piece (i, l, at) = absurd (omega arith)
pieces_from k (domain ∷ more) piece c = ⊎_elim
    (λ left. (0, domain, refl, subst (λ (n : ℕ). Contains (pieces_of n domain) piece) (first k) left))
    (λ right. let (place, d, found, has) = pieces_from (k + template_count domain) more piece right in
    (suc place, d, found, subst (λ (n : ℕ). Contains (pieces_of n d) piece) (past k domain more place) has))
    (Contains-append_cases (pieces_of k domain) (all_pieces (k + template_count domain) more) piece c)

pub pieces_to : (k : ℕ) (doms : List DomainTree) (place : ℕ) (domain : DomainTree) (piece : Piece) → slice_get doms place ≡ Some domain
    → Contains (pieces_of (k + sum_by template_count (take place doms)) domain) piece → Contains (all_pieces k doms) piece
pieces_to k [] place domain piece found has = absurd (none-some domain found)
pieces_to k (d ∷ more) zero domain piece found has =
    let same : d ≡ domain = same_Some d domain found in
    Contains-append_left (pieces_of k d) (all_pieces (k + template_count d) more) piece
    (subst (λ (n : ℕ). Contains (pieces_of n d) piece) (sym (first k)) (subst (λ (x : DomainTree). Contains (pieces_of (k + 0) x) piece) (sym same) has))
pieces_to k (d ∷ more) (suc place) domain piece found has =
    Contains-append_right (pieces_of k d) (all_pieces (k + template_count d) more) piece
    (pieces_to (k + template_count d) more place domain piece found (subst (λ (n : ℕ). Contains (pieces_of n domain) piece) (sym (past k d more place)) has))

-- ---- names of relations

pub relation_named : (script : Script) (name : List ℕ) → IsRelationName script name → Contains (relation_names script) name
relation_named script name h = let (r, c, is) = h in name_in (relations_of script) r c is
  where
    name_in : (rs : List RelationTree) (r : RelationTree) → Contains rs r → r.name.text ≡ name → Contains (map (λ x. x.name.text) rs) name
    name_in [] r (k, l, at) is = absurd (omega arith)
    name_in (x ∷ rs) r (zero, l, at) is = (0, omega arith, ap (λ (y : RelationTree). y.name.text) at ∙ is)
    name_in (x ∷ rs) r (suc k, l, at) is = let (j, m, e) = name_in rs r (k, omega arith, at) is in (suc j, omega arith, e)

pub named_relation : (script : Script) (name : List ℕ) → Contains (relation_names script) name → IsRelationName script name
named_relation script name c = in_name (relations_of script) c
  where
    in_name : (rs : List RelationTree) → Contains (map (λ x. x.name.text) rs) name → (r : RelationTree) × Contains rs r × (r.name.text ≡ name)
    in_name [] (k, l, at) = absurd (omega arith)
    in_name (x ∷ rs) (zero, l, at) = (x, (0, omega arith, refl), at)
    in_name (x ∷ rs) (suc k, l, at) = let (r, (j, m, e), is) = in_name rs (k, omega arith, at) in (r, (suc j, omega arith, e), is)

-- ---- within conjuncts

module _ (script : Script) where
  abbrev names : List (List ℕ)
  names = each_once (relation_names script)

  member : (name : List ℕ) → is_member same_name names name ≡ true → IsRelationName script name
  member name h = named_relation script name (has_once (relation_names script) name (has_name names name h))

  no_member : (name : List ℕ) → is_member same_name names name ≡ false → ¬ IsRelationName script name
  no_member name h r = lacks_name names name h (once_has (relation_names script) name (relation_named script name r))

  within_from : (conjunct : Expr) (name : List ℕ) → Contains (called_within names conjunct) name → IsCalledWithin script conjunct name
  within_from conjunct name c = by (call_of conjunct) refl c
    where
      relation : (call : List ℕ × List Expr) → call_of conjunct ≡ Some call → (b : Bool) → is_member same_name names call.0 ≡ b
          → Contains (cond b (flat_map calls_in call.1) (calls_in conjunct)) name → IsCalledWithin script conjunct name
      relation call is true e d = let (arg, among, has) = from_flat_map calls_in call.1 name d in IsCalledWithin.argument call.0 call.1 arg is (member call.0 e) among has
      relation call is false e d = IsCalledWithin.part (λ called args other. λ r. no_member call.0 e (subst (IsRelationName script) (ap (λ p. p.0) (same_Some (called, args) call (sym other ∙ is))) r)) d

      by : (o : Option (List ℕ × List Expr)) → call_of conjunct ≡ o → Contains (within_call names conjunct o) name → IsCalledWithin script conjunct name
      by None is d = IsCalledWithin.part (λ called args other. absurd (none-some (called, args) (sym is ∙ other))) d
      by (Some call) is d = relation call is (is_member same_name names call.0) refl d

  within_to : (conjunct : Expr) (name : List ℕ) → IsCalledWithin script conjunct name → Contains (called_within names conjunct) name
  within_to conjunct name (IsCalledWithin.argument called args arg is r among has) =
      subst (λ (o : Option (List ℕ × List Expr)). Contains (within_call names conjunct o) name) (sym is)
      (subst (λ (b : Bool). Contains (cond b (flat_map calls_in args) (calls_in conjunct)) name) (sym (name_had names called (once_has (relation_names script) called (relation_named script called r))))
      (to_flat_map calls_in args arg name among has))
  within_to conjunct name (IsCalledWithin.part other has) = by (call_of conjunct) refl
    where
      none : (call : List ℕ × List Expr) → call_of conjunct ≡ Some call → (b : Bool) → is_member same_name names call.0 ≡ b → Contains (cond b (flat_map calls_in call.1) (calls_in conjunct)) name
      none call is true e = absurd (other call.0 call.1 is (member call.0 e))
      none call is false e = has

      by : (o : Option (List ℕ × List Expr)) → call_of conjunct ≡ o → Contains (within_call names conjunct o) name
      by None is = has
      by (Some call) is = none call is (is_member same_name names call.0) refl

  -- ---- misplaced calls

  abbrev items : RelationTree → List (List ℕ)
  items r = flat_map piece_calls (all_pieces 1 r.domains)

  abbrev in_clause : Option BlockTree → List (List ℕ)
  in_clause clause = flat_map (called_within names) (clause_conjuncts clause)

  abbrev in_relations : List (List ℕ)
  in_relations = flat_map (relation_calls names) (relations_of script)

  abbrev in_queries : List (List ℕ)
  in_queries = flat_map (λ q. calls_in q.body) (queries_of script)

  misplaced_from : (r : RelationTree) (name : List ℕ) → IsRelationName script name → Contains (relation_calls names r) name → IsMisplaced script r name
  misplaced_from r name is c = ⊎_elim
      (λ before. ⊎_elim
      (λ left. let (piece, among, has) = from_flat_map piece_calls (all_pieces 1 r.domains) name left in item piece among has)
      (λ when. let (conjunct, among, has) = from_flat_map (called_within names) (clause_conjuncts r.when) name when in IsMisplaced.when conjunct among (within_from conjunct name has) is)
      (Contains-append_cases (items r) (in_clause r.when) name before))
      (λ wheres. let (conjunct, among, has) = from_flat_map (called_within names) (clause_conjuncts r.wheres) name wheres in IsMisplaced.where_clause conjunct among (within_from conjunct name has) is)
      (Contains-append_cases (items r ++ in_clause r.when) (in_clause r.wheres) name c)
    where
      item : (piece : Piece) → Contains (all_pieces 1 r.domains) piece → Contains (piece_calls piece) name → IsMisplaced script r name
      item (begins at variable class) among (k, l, e) = absurd (omega arith)
      item (asks at e) among has =
          let (place, domain, found, piece) = pieces_from 1 r.domains (asks at e) among in
          IsMisplaced.item domain at e (record { place = place; found = found; has = piece }) has is

  misplaced_to : (r : RelationTree) (name : List ℕ) → IsMisplaced script r name → Contains (relation_calls names r) name
  misplaced_to r name (IsMisplaced.item domain at value piece has is) =
      Contains-append_left (items r ++ in_clause r.when) (in_clause r.wheres) name (Contains-append_left (items r) (in_clause r.when) name
      (to_flat_map piece_calls (all_pieces 1 r.domains) (asks at value) name (pieces_to 1 r.domains piece.place domain (asks at value) piece.found piece.has) has))
  misplaced_to r name (IsMisplaced.when conjunct among w is) =
      Contains-append_left (items r ++ in_clause r.when) (in_clause r.wheres) name (Contains-append_right (items r) (in_clause r.when) name
      (to_flat_map (called_within names) (clause_conjuncts r.when) conjunct name among (within_to conjunct name w)))
  misplaced_to r name (IsMisplaced.where_clause conjunct among w is) = Contains-append_right (items r ++ in_clause r.when) (in_clause r.wheres) name
      (to_flat_map (called_within names) (clause_conjuncts r.wheres) conjunct name among (within_to conjunct name w))

  misplaced_name : (r : RelationTree) (name : List ℕ) → IsMisplaced script r name → IsRelationName script name
  misplaced_name r name (IsMisplaced.item domain at value piece has is) = is
  misplaced_name r name (IsMisplaced.when conjunct among w is) = is
  misplaced_name r name (IsMisplaced.where_clause conjunct among w is) = is

  pub none_misplaced : All (λ name. ¬ Contains names name) (script_calls names script) → (r : RelationTree) (name : List ℕ) → Contains (relations_of script) r → ¬ IsMisplaced script r name
  none_misplaced all r name among m = All-contains (λ (n : List ℕ). ¬ Contains names n) (script_calls names script) name all
      (Contains-append_left in_relations in_queries name (to_flat_map (relation_calls names) (relations_of script) r name among (misplaced_to r name m)))
      (once_has (relation_names script) name (relation_named script name (misplaced_name r name m)))

  pub none_in_query : All (λ name. ¬ Contains names name) (script_calls names script) → (s : Setting) (name : List ℕ) → s.script ≡ script → ¬ IsCalledInQuery s name
  none_in_query all s name same h =
      let (query, among, has, is) = h in
      All-contains (λ (n : List ℕ). ¬ Contains names n) (script_calls names script) name all
      (Contains-append_right in_relations in_queries name (to_flat_map (λ q. calls_in q.body) (queries_of script) query name (subst (λ (x : Script). Contains (queries_of x) query) same among) has))
      (once_has (relation_names script) name (relation_named script name (subst (λ (x : Script). IsRelationName x name) same is)))

  -- a name that is listed and that a relation has stands
  call_stands : (s : Setting) → s.script ≡ script → (name : List ℕ) → Contains (script_calls names script) name → Contains names name → StandsInScript s (CallShape name)
  call_stands s same name c other = ⊎_elim
      (λ left. let (r, among, has) = from_flat_map (relation_calls names) (relations_of script) name left in
      StandsInScript.misplaced r name (subst (λ (x : Script). Contains (relations_of x) r) (sym same) among) (subst (λ (x : Script). IsMisplaced x r name) (sym same) (misplaced_from r name is has)))
      (λ right. let (query, among, has) = from_flat_map (λ q. calls_in q.body) (queries_of script) name right in
      StandsInScript.misplaced_in_query name (query, subst (λ (x : Script). Contains (queries_of x) query) (sym same) among, has, subst (λ (x : Script). IsRelationName x name) (sym same) is))
      (Contains-append_cases in_relations in_queries name c)
    where
      is : IsRelationName script name
      is = named_relation script name (has_once (relation_names script) name other)

  pub calls_stand : (target : List ℕ) (f : TypeFault) → IsCallFault names (script_calls names script) f → (s : Setting) → s.script ≡ script → s.target ≡ target → StandsInScript s f
  calls_stand target f h s same aimed = subst (StandsInScript s) (sym h.is) (call_stands s same h.name h.among h.other)
