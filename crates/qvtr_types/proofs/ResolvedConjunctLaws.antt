-- Conjuncts that are resolved one after another are those that `Resolutions` asks for, place by place.
use Rattle.std.proofs.Common.{◌≡◌, ◌<◌, ℕ, zero, suc, ◌+◌, get_or, Bor, List, [], ◌∷◌, ◌++◌, Bool, true, map, refl, sym, ◌∙◌, ap, subst, take, length, arith}
use Rattle.std.specs.Prelude.{Option, Some, None, position, slice_get}
use Rattle.std.specs.List.{AllZip, position_or_len}
use Rattle.std.specs.Option.{option_map}
use Rattle.std.proofs.lemmas.Option.{same_Some, none-some, slice_get_within, slice_get-map, slice_get-get_or}
use Rattle.std.proofs.lemmas.List.{length-map}
use Rattle.std.proofs.lemmas.List.Elements.{All-contains}
use Rattle.mof_metamodel.specs.Characters.{same_name}
use Rattle.qv_syntax.specs.declared.expr.Expr.{Expr}
use Rattle.qv_syntax.specs.declared.typed.Typed.{Typed}
use Rattle.qv_syntax.specs.declared.program.Var.{Var}
use Rattle.qv_syntax.specs.declared.program.Conj.{Conj}
use Rattle.qv_syntax.specs.declared.program.Conj.TheVariants as conjs
use Rattle.qv_syntax.specs.declared.script.BlockTree.{BlockTree}
use Rattle.qv_syntax.specs.declared.script.RelationTree.{RelationTree}
use Rattle.qv_syntax.specs.TypedTrees.{Typing}
use Rattle.ocl_environments.specs.Environments.{Environment}
use Rattle.ocl_types.specs.HasType.{HasTree}
use Rattle.script_scopes.specs.Conjuncts.{clause_conjuncts, call_of}
use Rattle.script_scopes.specs.Occurrences.{variables_of}
use Rattle.script_scopes.specs.Declarations.{relation_names}
use Rattle.script_scopes.specs.Divisions.{IsEquation}
use Rattle.script_scopes.specs.Directions.{IsRelationName}
use Rattle.script_scopes.specs.Environments.{Setting, in_relation, place_of}
use Rattle.script_scopes.specs.CallRows.{number_in}
use Rattle.script_scopes.specs.Resolutions.{IsData, IsConjunct, AreConjuncts}
use Rattle.qvtr_types.specs.Equations.{with_given, given_by, given_after, equation_behind}
use Rattle.qvtr_types.specs.Expressions.{HaveTypes, AreArguments, HasTyping, IsCondition}
use Rattle.qvtr_types.specs.declared.resolved_conjuncts.ClauseScope.{ClauseScope}
use Rattle.qvtr_types.specs.ResolvedConjuncts.{ClauseReach, reach_of, HasRootTypes, called_number, IsResolved, AreResolved}
use Rattle.script_scopes.proofs.CallRowLaws.{within_some}
use Rattle.mof_metamodel.proofs.Facts.{contains_at}
use Rattle.script_scopes.proofs.CallLaws.{relation_named}
use Rattle.script_variables.proofs.BindingLaws.{number_had}
use Rattle.qvtr_types.proofs.GivenLaws.{equation_from, equation_to}

-- ---- roots

module _ (scope : ClauseScope) (place : ℕ) (its : List (Bor Var)) (within : place < length scope.relations.now) (is : its ≡ get_or scope.roots.now place its) (h : HasRootTypes (reach_of scope)) where
  -- those of the relation at a place
  pub roots_at : slice_get (reach_of scope).roots place ≡ Some (map (λ r. r.now) its)
  roots_at =
      let count : length (reach_of scope).roots ≡ length (reach_of scope).relations = h.count in
      let relations : length (reach_of scope).relations ≡ length scope.relations.now = length-map scope.relations.now (λ e. e.0) in
      let roots : length (reach_of scope).roots ≡ length scope.roots.now = length-map scope.roots.now (map (λ r. r.now)) in
      let below : place < length scope.roots.now = omega (arith, within, count, relations, roots) in
      slice_get-map (map (λ (r : Bor Var). r.now)) scope.roots.now place ∙ ap (option_map (map (λ (r : Bor Var). r.now))) (slice_get-get_or scope.roots.now place its below ∙ ap Some (sym is))

  pub roots_typed : HaveTypes scope.env.now.metas (map (λ r. r.now) its)
  roots_typed = All-contains (HaveTypes scope.env.now.metas) (reach_of scope).roots (map (λ r. r.now) its) h.types (contains_at (reach_of scope).roots place (map (λ r. r.now) its) roots_at)

-- ---- one after another

module _ (reach : ClauseReach) (test : List ℕ → Bool) where
  pub resolved_push : (met : List (List ℕ)) (es : List Expr) (cs : List Conj) (e : Expr) (c : Conj) → AreResolved reach test met es cs
      → IsResolved reach (equation_behind test (given_after met es) e) e c → AreResolved reach test met (es ++ e ∷ []) (cs ++ c ∷ [])
  resolved_push met [] [] e c all h = (h, tt)
  resolved_push met [] (d ∷ cs) e c all h = absurd all
  resolved_push met (f ∷ es) [] e c all h = absurd all
  resolved_push met (f ∷ es) (d ∷ cs) e c all h = (all.0, resolved_push (with_given met (given_by f)) es cs e c all.1 h)

  pub resolved_count : (met : List (List ℕ)) (es : List Expr) (cs : List Conj) → AreResolved reach test met es cs → length es ≡ length cs
  resolved_count met [] [] all = refl
  resolved_count met [] (d ∷ cs) all = absurd all
  resolved_count met (f ∷ es) [] all = absurd all
  resolved_count met (f ∷ es) (d ∷ cs) all = let rest = resolved_count (with_given met (given_by f)) es cs all.1 in omega (arith, rest)

  pub resolved_at : (met : List (List ℕ)) (es : List Expr) (cs : List Conj) (k : ℕ) (e : Expr) (c : Conj) → AreResolved reach test met es cs → slice_get es k ≡ Some e → slice_get cs k ≡ Some c
      → IsResolved reach (equation_behind test (given_after met (take k es)) e) e c
  resolved_at met [] cs k e c all found there = absurd (none-some e found)
  resolved_at met (f ∷ es) [] k e c all found there = absurd all
  resolved_at met (f ∷ es) (d ∷ cs) zero e c all found there =
      subst (λ (x : Expr). IsResolved reach (equation_behind test met x) x c) (same_Some f e found)
      (subst (IsResolved reach (equation_behind test met f) f) (same_Some d c there) all.0)
  resolved_at met (f ∷ es) (d ∷ cs) (suc k) e c all found there = resolved_at (with_given met (given_by f)) es cs k e c all.1 found there

-- ---- place by place

pub zip_places : {X Y : Type 0} (R : X → Y → Type 0) (xs : List X) (ys : List Y) → length xs ≡ length ys
    → ((k : ℕ) (x : X) (y : Y) → slice_get xs k ≡ Some x → slice_get ys k ≡ Some y → R x y) → AllZip R xs ys
zip_places R [] [] count each = tt
zip_places R [] (y ∷ ys) count each = absurd (omega (arith, count))
zip_places R (x ∷ xs) [] count each = absurd (omega (arith, count))
zip_places R (x ∷ xs) (y ∷ ys) count each = (each 0 x y refl refl, zip_places R xs ys (omega (arith, count)) (λ k. each (suc k)))

-- an expression with a type has a tree
has_tree : (env : Environment) (e : Expr) (tree : Typed) (t : Typing) → HasTyping env e tree t → HasTree env e tree
has_tree env e tree t h = (h.part, h.has, h.is)

-- arguments have their trees
argument_trees : (env : Environment) (roots : List Var) (args : List Expr) (trees : List Typed) → AreArguments env roots args trees → AllZip (HasTree env) args trees
argument_trees env roots args trees are = zip_places (HasTree env) args trees (sym are.given) (λ k e tree found there.
    let below = slice_get_within args k e found in
    let (root, asked) = within_some roots k (let count = are.asked in omega (arith, below, count)) in
    let given = are.each k root e tree asked found there in
    has_tree env e tree given.typing given.has)

-- ---- of a relation

module _ (s : Setting) (r : RelationTree) (vars : List Var) (roots : List (List Var)) where
  -- what its clauses are resolved over
  abbrev pub reach_in : ClauseReach
  reach_in = record { env = in_relation s r vars; variables = variables_of r; relations = relation_names s.script; roots = roots }

  pub calls_number : (c : Expr) (name : List ℕ) (args : List Expr) (number : ℕ) → call_of c ≡ Some (name, args) → called_number reach_in c ≡ Some number
      → position (same_name name) (relation_names s.script) ≡ Some number
  calls_number c name args number is h = ap (number_in (relation_names s.script)) (sym is) ∙ h

  pub calls_none : (c : Expr) → called_number reach_in c ≡ None → (name : List ℕ) (args : List Expr) → call_of c ≡ Some (name, args) → IsRelationName s.script name → ⊥
  calls_none c h name args is known =
      none-some (position_or_len (same_name name) (relation_names s.script)) (sym h ∙ ap (number_in (relation_names s.script)) is
      ∙ number_had (relation_names s.script) name (relation_named s.script name known))

  module _ (IsSought : List ℕ → Type 0) (clause : Option BlockTree) (test : List ℕ → Bool)
      (passes : (v : List ℕ) → test v ≡ true → IsData s r v × IsSought v) (passed : (v : List ℕ) → IsData s r v → IsSought v → test v ≡ true) where
    abbrev IsOne : ℕ → List ℕ → Expr → Type 0
    IsOne k v e = IsEquation (IsData s r) s.target r IsSought clause k v e

    is_conjunct : (k : ℕ) (e : Expr) (c : Conj) → slice_get (clause_conjuncts clause) k ≡ Some e
        → (o : Option (List ℕ × Expr)) → equation_behind test (given_after [] (take k (clause_conjuncts clause))) e ≡ o → IsResolved reach_in o e c → IsConjunct s r vars IsOne k e c
    is_conjunct k e _ found o is (IsResolved.call name args number asked trees called number_is asked_is fit) =
        IsConjunct.call name args number trees called (calls_number e name args number called number_is) (argument_trees (in_relation s r vars) asked args trees fit)
    is_conjunct k e _ found o is (IsResolved.equation v value t whole uncalled one has boolean) =
        IsConjunct.equation v value t (equation_from (IsData s r) s.target r IsSought clause test passes k e v value found (is ∙ one)) has
    is_conjunct k e _ found o is (IsResolved.condition t uncalled none boolean) =
        IsConjunct.condition t (calls_none e uncalled)
        (λ v value one. none-some (v, value) (sym none ∙ sym is ∙ equation_to (IsData s r) s.target r IsSought clause test passed k e v value found one))
        (has_tree (in_relation s r vars) e t boolean.typing boolean.has)

    pub are_conjuncts : (cs : List Conj) → AreResolved reach_in test [] (clause_conjuncts clause) cs → AreConjuncts s r vars IsOne (clause_conjuncts clause) cs
    are_conjuncts cs all = record {
      count = resolved_count reach_in test [] (clause_conjuncts clause) cs all;
      each = λ k e c found there.
          is_conjunct k e c found (equation_behind test (given_after [] (take k (clause_conjuncts clause))) e) refl
          (resolved_at reach_in test [] (clause_conjuncts clause) cs k e c all found there);
    }
