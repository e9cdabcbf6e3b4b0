-- The calls and the strata of the relations that a script resolves to are those of its own relations.
use Rattle.std.proofs.Common.{◌≡◌, ℕ, List, refl, sym, ◌∙◌, ap, subst, arith}
use Rattle.std.specs.Prelude.{Option, Some, Contains, position, slice_get}
use Rattle.std.specs.List.{AllZip}
use Rattle.std.proofs.lemmas.Option.{same_Some, none-some, slice_get_within, slice_get-get_or}
use Rattle.mof_metamodel.specs.Characters.{same_name}
use Rattle.qv_syntax.specs.declared.expr.Expr.{Expr, out-Expr}
use Rattle.qv_syntax.specs.declared.expr.Args.TheOpen as of
use Rattle.qv_syntax.specs.declared.expr.Args.{Args}
use Rattle.qv_syntax.specs.declared.expr.Infix.{Infix}
use Rattle.qv_syntax.specs.declared.expr.Postfix.{Postfix}
use Rattle.qv_syntax.specs.declared.script.BlockTree.{BlockTree}
use Rattle.qv_syntax.specs.declared.script.RelationTree.{RelationTree}
use Rattle.qv_syntax.specs.declared.program.Program.{Program}
use Rattle.qv_syntax.specs.declared.program.Rel.{Rel}
use Rattle.qv_syntax.specs.declared.program.Var.{Var}
use Rattle.qv_syntax.specs.declared.program.Conj.{Conj}
use Rattle.qv_syntax.specs.declared.program.Conj.TheVariants as conjs
use Rattle.qv_syntax.specs.Relations as programs
use Rattle.qv_syntax.specs.Directions as meant
use Rattle.script_scopes.specs.Conjuncts.{clause_conjuncts, call_of, equation_of, call_in, equation_in}
use Rattle.script_scopes.specs.Divisions.{IsWhenEquation, IsWhereEquation}
use Rattle.script_scopes.specs.Occurrences.{relations_of}
use Rattle.script_scopes.specs.Declarations.{relation_names, IsRepeated}
use Rattle.script_scopes.specs.Directions.{CallsIn, IsPath}
use Rattle.script_scopes.specs.Environments.{Setting}
use Rattle.script_scopes.specs.Resolutions.{IsData, IsConjunct, AreConjuncts, IsRelation}
use Rattle.script_scopes.proofs.CallRowLaws.{within_some, among_some, named_by, number_by}
use Rattle.mof_metamodel.proofs.Facts.{contains_at}
use Rattle.qvtr_types.proofs.ZipLemmas.{zip_left, zip_right}

-- ---- conjuncts

-- no conjunct is both an equation and a call
pub apart : (layer : of.Expr-F Args Expr Postfix Infix) (p : List ℕ × Expr) (q : List ℕ × List Expr) → equation_in layer ≡ Some p → call_in layer ≡ Some q → ⊥
apart (of.Chain first rest span) p q e c = none-some q c
apart layer p q e c = none-some p e

module _ (s : Setting) (once : (name : List ℕ) → IsRepeated (relation_names s.script) name → ⊥) (r : RelationTree) (vars : List Var) (IsEquation : ℕ → List ℕ → Expr → Type 0) (clause : Option BlockTree) (cs : List Conj)
    (are : AreConjuncts s r vars IsEquation (clause_conjuncts clause) cs)
    (gives : (place : ℕ) (v : List ℕ) (e : Expr) → IsEquation place v e → (c : Expr) × (slice_get (clause_conjuncts clause) place ≡ Some c) × (equation_of c ≡ Some (v, e))) where
  -- what the program calls, the script calls
  call_from : (number : ℕ) → programs.CallsIn cs number → (called : RelationTree) × (slice_get (relations_of s.script) number ≡ Some called) × CallsIn s.script clause called
  call_from number (args, (k, below, at)) =
      let count = are.count in
      let e = within_some (clause_conjuncts clause) k (omega (arith, below, count)) in
      by k e.0 e.1 (conjs.Call number args) (are.each k e.0 (conjs.Call number args) e.1 (slice_get-get_or cs k (conjs.Call number args) below ∙ ap Some at)) refl
    where
      by : (k : ℕ) (e : Expr) → slice_get (clause_conjuncts clause) k ≡ Some e → (c : Conj) → IsConjunct s r vars IsEquation k e c → c ≡ conjs.Call number args
          → (called : RelationTree) × (slice_get (relations_of s.script) number ≡ Some called) × CallsIn s.script clause called
      by k e there _ (IsConjunct.call name given n trees is at zip) same =
          let number_is : n ≡ number = cc in
          let found = named_by s.script once name number (at ∙ ap Some number_is) in (
            found.0,
            found.1,
            (
              given,
              record {
                conjunct = e;
                among = contains_at (clause_conjuncts clause) k e there;
                is = is ∙ ap (λ (m : List ℕ). Some (m, given)) (sym found.2);
                relation = contains_at (relations_of s.script) number found.0 found.1;
              },
            ),
          )
      by k e there _ (IsConjunct.equation v f t is tree) same = absurd cc
      by k e there _ (IsConjunct.condition t none other tree) same = absurd cc

  -- and the other way round
  call_to : (number : ℕ) (called : RelationTree) → slice_get (relations_of s.script) number ≡ Some called → CallsIn s.script clause called → programs.CallsIn cs number
  call_to number called found (args, call) =
      let place = among_some (clause_conjuncts clause) call.conjunct call.among in
      let count = are.count in
      let below = slice_get_within (clause_conjuncts clause) place.0 call.conjunct place.1 in
      let c = within_some cs place.0 (omega (arith, below, count)) in
      by place.0 call.conjunct place.1 call.is c.0 (are.each place.0 call.conjunct c.0 place.1 c.1) c.1
    where
      by : (k : ℕ) (e : Expr) → slice_get (clause_conjuncts clause) k ≡ Some e → call_of e ≡ Some (called.name.text, args) → (c : Conj) → IsConjunct s r vars IsEquation k e c → slice_get cs k ≡ Some c → programs.CallsIn cs number
      by k e there is _ (IsConjunct.call name given n trees says at zip) stands =
          let name_is : name ≡ called.name.text = ap (λ p. p.0) (same_Some (name, given) (called.name.text, args) (sym says ∙ is)) in
          let number_is : n ≡ number = same_Some n number (sym at ∙ ap (λ (m : List ℕ). position (same_name m) (relation_names s.script)) name_is ∙ number_by s.script once number called found) in
          (trees, subst (λ m. Contains cs (conjs.Call m trees)) number_is (contains_at cs k (conjs.Call n trees) stands))
      by k e there is _ (IsConjunct.equation v f t given tree) stands =
          let says = gives k v f given in
          let same : says.0 ≡ e = same_Some says.0 e (sym says.1 ∙ there) in
          absurd (apart (out-Expr e) (v, f) (called.name.text, args) (ap equation_of (sym same) ∙ says.2) is)
      by k e there is _ (IsConjunct.condition t none other tree) stands = absurd (none called.name.text args is (called, call_relation, refl))
        where
          call_relation : Contains (relations_of s.script) called
          call_relation = contains_at (relations_of s.script) number called found

-- ---- paths and strata

module _ (s : Setting) (once : (name : List ℕ) → IsRepeated (relation_names s.script) name → ⊥) (program : Program) (are : AllZip (IsRelation s) (relations_of s.script) program.rels) where
  pub when_from : (r : RelationTree) (rel : Rel) → IsRelation s r rel → (number : ℕ) → programs.CallsIn rel.whens number → (called : RelationTree) × (slice_get (relations_of s.script) number ≡ Some called) × CallsIn s.script r.when called
  when_from r rel is = call_from s once r rel.vars (IsWhenEquation (IsData s r) s.target r) r.when rel.whens is.whens (λ place v e q. (q.given.conjunct, q.given.found, q.given.is))

  pub where_from : (r : RelationTree) (rel : Rel) → IsRelation s r rel → (number : ℕ) → programs.CallsIn rel.wheres number → (called : RelationTree) × (slice_get (relations_of s.script) number ≡ Some called) × CallsIn s.script r.wheres called
  where_from r rel is = call_from s once r rel.vars (IsWhereEquation (IsData s r) s.target r) r.wheres rel.wheres is.wheres (λ place v e q. (q.given.conjunct, q.given.found, q.given.is))

  when_to : (r : RelationTree) (rel : Rel) → IsRelation s r rel → (number : ℕ) (called : RelationTree) → slice_get (relations_of s.script) number ≡ Some called → CallsIn s.script r.when called → programs.CallsIn rel.whens number
  when_to r rel is = call_to s once r rel.vars (IsWhenEquation (IsData s r) s.target r) r.when rel.whens is.whens (λ place v e q. (q.given.conjunct, q.given.found, q.given.is))

  where_to : (r : RelationTree) (rel : Rel) → IsRelation s r rel → (number : ℕ) (called : RelationTree) → slice_get (relations_of s.script) number ≡ Some called → CallsIn s.script r.wheres called → programs.CallsIn rel.wheres number
  where_to r rel is = call_to s once r rel.vars (IsWhereEquation (IsData s r) s.target r) r.wheres rel.wheres is.wheres (λ place v e q. (q.given.conjunct, q.given.found, q.given.is))

  path_from : (number count : ℕ) → programs.IsCallPath program number count → (r : RelationTree) → slice_get (relations_of s.script) number ≡ Some r → (last : RelationTree) × IsPath s.script r last count
  path_from _ _ (programs.IsCallPath.end number) r found = (r, IsPath.end r (contains_at (relations_of s.script) number r found))
  path_from _ _ (programs.IsCallPath.by_when number rel called count at calls path) r found =
      let there = zip_right (IsRelation s) (relations_of s.script) program.rels number r are found in
      let same : there.0 ≡ rel = same_Some there.0 rel (sym there.1 ∙ at) in
      let call = when_from r rel (subst (IsRelation s r) same there.2) called calls in
      let rest = path_from called count path call.0 call.1 in
      (rest.0, IsPath.by_when r call.0 rest.0 count (contains_at (relations_of s.script) number r found) call.2 rest.1)
  path_from _ _ (programs.IsCallPath.by_where number rel called count at calls path) r found =
      let there = zip_right (IsRelation s) (relations_of s.script) program.rels number r are found in
      let same : there.0 ≡ rel = same_Some there.0 rel (sym there.1 ∙ at) in
      let call = where_from r rel (subst (IsRelation s r) same there.2) called calls in
      let rest = path_from called count path call.0 call.1 in
      (rest.0, IsPath.by_where r call.0 rest.0 count (contains_at (relations_of s.script) number r found) call.2 rest.1)

  path_to : (r last : RelationTree) (count : ℕ) → IsPath s.script r last count → (number : ℕ) → slice_get (relations_of s.script) number ≡ Some r → programs.IsCallPath program number count
  path_to _ _ _ (IsPath.end r among) number found = programs.IsCallPath.end number
  path_to _ _ _ (IsPath.by_when r called last count among calls path) number found =
      let there = zip_right (IsRelation s) (relations_of s.script) program.rels number r are found in
      let next = among_some (relations_of s.script) called calls.1.relation in
      programs.IsCallPath.by_when number there.0 next.0 count there.1 (when_to r there.0 there.2 next.0 called next.1 calls) (path_to called last count path next.0 next.1)
  path_to _ _ _ (IsPath.by_where r called last count among calls path) number found =
      let there = zip_right (IsRelation s) (relations_of s.script) program.rels number r are found in
      let next = among_some (relations_of s.script) called calls.1.relation in
      programs.IsCallPath.by_where number there.0 next.0 count there.1 (where_to r there.0 there.2 next.0 called next.1 calls) (path_to called last count path next.0 next.1)

  -- the stratum that a relation of the program has is its stratum there
  pub program_stratum : (number : ℕ) (rel : Rel) → slice_get program.rels number ≡ Some rel → meant.IsStratum program number rel.stratum
  program_stratum number rel at =
      let there = zip_left (IsRelation s) (relations_of s.script) program.rels number rel are at in
      let is = there.2.stratum in
      record {
        reached = path_to there.0 is.reached.0 rel.stratum is.reached.1 number there.1;
        greatest = λ count path. let found = path_from number count path there.0 there.1 in is.greatest found.0 count found.1;
      }
