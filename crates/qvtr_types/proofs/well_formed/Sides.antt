-- The equations of a clause are those of what it resolves to, and all that it says of data variables is said there.
use Rattle.std.proofs.Common.{◌≡◌, ◌<◌, ◌⊎◌, ℕ, zero, suc, List, Bool, true, false, refl, sym, ◌∙◌, ap, subst, arith, inl, inr, true≢false}
use Rattle.std.specs.Prelude.{Option, Some, None, Contains, slice_get}
use Rattle.std.specs.Set.{is_member}
use Rattle.std.proofs.lemmas.Bool.{cases_order}
use Rattle.std.proofs.lemmas.Option.{same_Some, none-some}
use Rattle.mof_metamodel.specs.Characters.{same_name}
use Rattle.qv_syntax.specs.declared.ty.Ty.{Ty}
use Rattle.qv_syntax.specs.declared.expr.Expr.{Expr}
use Rattle.qv_syntax.specs.declared.typed.Typed.{Typed}
use Rattle.qv_syntax.specs.declared.typed.Node.TheVariants as nodes
use Rattle.qv_syntax.specs.declared.script.BlockTree.{BlockTree}
use Rattle.qv_syntax.specs.declared.script.RelationTree.{RelationTree}
use Rattle.qv_syntax.specs.declared.program.Program.{Program}
use Rattle.qv_syntax.specs.declared.program.Rel.{Rel}
use Rattle.qv_syntax.specs.declared.program.Var.{Var}
use Rattle.qv_syntax.specs.declared.program.Conj.{Conj}
use Rattle.qv_syntax.specs.declared.program.Conj.TheVariants as conjs
use Rattle.qv_syntax.specs.Parts.{Names}
use Rattle.qv_syntax.specs.Relations.{IsDataVariable, Says}
use Rattle.qv_syntax.specs.Directions.{IsGivenBefore, HasEquations}
use Rattle.ocl_types.specs.HasType.{HasTree}
use Rattle.script_scopes.specs.ScriptNames.{model_names}
use Rattle.script_scopes.specs.Usages.{variables_in}
use Rattle.script_scopes.specs.Conjuncts.{clause_conjuncts, equation_of}
use Rattle.script_scopes.specs.Occurrences.{clause_variables, variables_of}
use Rattle.script_scopes.specs.Divisions.{IsGivenAt, IsEquation}
use Rattle.script_scopes.specs.Environments.{Setting, in_relation, place_of}
use Rattle.script_scopes.specs.Resolutions.{IsData, IsConjunct, AreConjuncts, IsRelation}
use Rattle.script_variables.specs.SettledRelations.{HasOneType, HaveOneType}
use Rattle.script_scopes.proofs.NameLemmas.{same_is, is_same, has_name, lacks_name}
use Rattle.mof_metamodel.proofs.Facts.{contains_at}
use Rattle.script_variables.proofs.PlaceLaws.{at_place}
use Rattle.qvtr_types.proofs.ZipLemmas.{zip_right}
use Rattle.qvtr_types.proofs.well_formed.Numbers.{AreApart, name_at, number_at}
use Rattle.qvtr_types.proofs.well_formed.Equations.{equation_subject, equals}
use Rattle.qvtr_types.proofs.well_formed.Domains.{tree_names, names_tree}
use Rattle.qvtr_types.proofs.well_formed.Clauses.{conjunct_from, equation_at, named_in_clause}
use Rattle.qvtr_types.proofs.well_formed.Universal.{data_from, said_at}
use Rattle.qvtr_types.proofs.well_formed.Trees.{clause_closed, equation_from}

below_or : (k n : ℕ) → k < suc n → (k < n) ⊎ (k ≡ n)
below_or k n below = elim (cases_order k n) [
  | inl same ↦ inr same
  | inr apart ↦ elim apart [ inl less ↦ inl less | inr more ↦ absurd (omega (arith, below, more)) ]
]

-- what says that a variable equals an expression
says_forms : (c : Conj) (v : ℕ) (e : Typed) → Says c v e → (c ≡ conjs.Equation v e)
    ⊎ ((ty : Ty) × (own : Ty) × (link : Ty) × (c ≡ conjs.Cond (record { ty = ty; node = nodes.Chain (record { ty = own; node = nodes.Variable v }) (equals e link) })))
says_forms _ _ _ (Says.equation v e) = inl refl
says_forms _ _ _ (Says.condition v e ty own link) = inr (ty, own, link, refl)

module _ (s : Setting) (program : Program) (aimed : slice_get (model_names s.script.models) program.target ≡ Some s.target) (models_apart : AreApart (model_names s.script.models))
    (r : RelationTree) (rel : Rel) (is : IsRelation s r rel) (one : HaveOneType s r rel.vars) where
  pub data_to : (v : ℕ) (name : List ℕ) → slice_get (variables_of r) v ≡ Some name → IsData s r name → IsDataVariable rel v
  data_to v name at d =
      let own = zip_right (HasOneType s r) (variables_of r) rel.vars v name one at in
      record { var = own.0; found = own.1; data_type = λ m class e. d.data_type m class (own.2 d.ty d.has ∙ e) }

  module _ (IsSoughtName : List ℕ → Type 0) (IsSought : ℕ → Type 0)
      (sought_to : (v : ℕ) (name : List ℕ) → slice_get (variables_of r) v ≡ Some name → (var : Var) → slice_get rel.vars v ≡ Some var → IsSoughtName name → IsSought v)
      (sought_from : (v : ℕ) (name : List ℕ) → slice_get (variables_of r) v ≡ Some name → (var : Var) → slice_get rel.vars v ≡ Some var → IsSought v → IsSoughtName name)
      (clause : Option BlockTree) (cs : List Conj) (known : (w : List ℕ) → Contains (clause_variables clause) w → Contains (variables_of r) w)
      (are : AreConjuncts s r rel.vars (IsEquation (IsData s r) s.target r IsSoughtName clause) (clause_conjuncts clause) cs) where
    abbrev IsEq : ℕ → List ℕ → Expr → Type 0
    IsEq = IsEquation (IsData s r) s.target r IsSoughtName clause

    abbrev Given : ℕ → List ℕ → Expr → Type 0
    Given = IsGivenAt (IsData s r) s.target r clause

    gives : (place : ℕ) (v : List ℕ) (e : Expr) → IsEq place v e → (c : Expr) × (slice_get (clause_conjuncts clause) place ≡ Some c) × (equation_of c ≡ Some (v, e))
    gives place v e q = (q.given.conjunct, q.given.found, q.given.is)

    known_in : (place : ℕ) (x : Expr) (w : List ℕ) (y : Expr) → slice_get (clause_conjuncts clause) place ≡ Some x → equation_of x ≡ Some (w, y) → Contains (variables_of r) w
    known_in place x w y found eq = known w (named_in_clause clause x w (contains_at (clause_conjuncts clause) place x found) (equation_subject x w y eq))

    -- ---- what gives a variable

    module _ (v : ℕ) (name : List ℕ) (at : slice_get (variables_of r) v ≡ Some name) (var : Var) (at_var : slice_get rel.vars v ≡ Some var) where
      said_from : (k : ℕ) (x : Expr) → slice_get (clause_conjuncts clause) k ≡ Some x → (c : Conj) → IsConjunct s r rel.vars IsEq k x c → (e : Typed) → Says c v e
          → (y : Expr) × (equation_of x ≡ Some (name, y)) × HasTree (in_relation s r rel.vars) y e
      said_from k x found _ (IsConjunct.call n args number trees calls position all) e says = absurd (by (says_forms _ v e says))
        where
          by : (conjs.Call number trees ≡ conjs.Equation v e) ⊎ ((ty : Ty) × (own : Ty) × (link : Ty) × (conjs.Call number trees ≡ conjs.Cond (record { ty = ty; node = nodes.Chain (record { ty = own; node = nodes.Variable v }) (equals e link) }))) → ⊥
          by (inl same) = cc
          by (inr (ty, own, link, same)) = cc
      said_from k x found _ (IsConjunct.equation w y t eq tree) e says = by (says_forms _ v e says)
        where
          by : (conjs.Equation (place_of w (variables_of r)) t ≡ conjs.Equation v e)
              ⊎ ((ty : Ty) × (own : Ty) × (link : Ty) × (conjs.Equation (place_of w (variables_of r)) t ≡ conjs.Cond (record { ty = ty; node = nodes.Chain (record { ty = own; node = nodes.Variable v }) (equals e link) })))
              → (y : Expr) × (equation_of x ≡ Some (name, y)) × HasTree (in_relation s r rel.vars) y e
          by (inl same) =
              let number : place_of w (variables_of r) ≡ v = cc in
              let is_e : t ≡ e = cc in
              let own = equation_at s r rel.vars IsEq clause cs are gives k x w y found eq in
              let is_name : w ≡ name = name_at (variables_of r) v w name (known_in k x w y found own) number at in
              (y, own ∙ ap (λ (n : List ℕ). Some (n, y)) is_name, subst (HasTree (in_relation s r rel.vars) y) is_e tree)
          by (inr (ty, own, link, same)) = absurd cc
      said_from k x found _ (IsConjunct.condition t none other tree) e says = by (says_forms _ v e says)
        where
          by : (conjs.Cond t ≡ conjs.Equation v e) ⊎ ((ty : Ty) × (own : Ty) × (link : Ty) × (conjs.Cond t ≡ conjs.Cond (record { ty = ty; node = nodes.Chain (record { ty = own; node = nodes.Variable v }) (equals e link) })))
              → (y : Expr) × (equation_of x ≡ Some (name, y)) × HasTree (in_relation s r rel.vars) y e
          by (inl same) = absurd cc
          by (inr (ty, own, link, same)) =
              let is_t : t ≡ record { ty = ty; node = nodes.Chain (record { ty = own; node = nodes.Variable v }) (equals e link) } = cc in
              let from = equation_from (in_relation s r rel.vars) x (clause_closed clause x (contains_at (clause_conjuncts clause) k x found)) t tree v ty own link e is_t in
              let is_name : from.v ≡ name = same_Some from.v name (sym (number_at s r rel.vars from.v v from.named) ∙ at) in
              (from.right, from.is ∙ ap (λ (n : List ℕ). Some (n, from.right)) is_name, from.has)

      given_from : (k : ℕ) (c : Conj) → slice_get cs k ≡ Some c → (e : Typed) → Says c v e → (¬ Names e v) → (y : Expr) × Given k name y
      given_from k c found e says other =
          let x = conjunct_from s r rel.vars IsEq clause cs are gives k c found in
          let y = said_from k x.e x.found c x.is e says in
          (y.0, record { conjunct = x.e; found = x.found; is = y.1; other = λ has. other (names_tree s r rel.vars v name at var at_var y.0 e y.2 has) })

      -- ---- the first

      one_given : (k : ℕ) → ((f : Expr) × Given k name f) ⊎ ((f : Expr) → ¬ Given k name f)
      one_given k = by (slice_get (clause_conjuncts clause) k) refl
        where
          whether : (x : Expr) → slice_get (clause_conjuncts clause) k ≡ Some x → (w : List ℕ) (y : Expr) → equation_of x ≡ Some (w, y) → (a : Bool) → same_name w name ≡ a → (b : Bool) → is_member same_name (variables_in y) name ≡ b
              → ((f : Expr) × Given k name f) ⊎ ((f : Expr) → ¬ Given k name f)
          whether x found w y eq true same false lacks =
              inl (y, record { conjunct = x; found = found; is = eq ∙ ap (λ (n : List ℕ). Some (n, y)) (same_is w name same); other = lacks_name (variables_in y) name lacks })
          whether x found w y eq true same true has = inr (λ f g.
              let is_x : x ≡ g.conjunct = same_Some x g.conjunct (sym found ∙ g.found) in
              let pair : (w, y) ≡ (name, f) = same_Some (w, y) (name, f) (sym eq ∙ ap equation_of is_x ∙ g.is) in
              g.other (subst (λ (p : List ℕ × Expr). Contains (variables_in p.1) name) pair (has_name (variables_in y) name has)))
          whether x found w y eq false apart b c = inr (λ f g.
              let is_x : x ≡ g.conjunct = same_Some x g.conjunct (sym found ∙ g.found) in
              let pair : (w, y) ≡ (name, f) = same_Some (w, y) (name, f) (sym eq ∙ ap equation_of is_x ∙ g.is) in
              true≢false (sym (is_same w name (ap (λ (p : List ℕ × Expr). p.0) pair)) ∙ apart))

          of_equation : (x : Expr) → slice_get (clause_conjuncts clause) k ≡ Some x → (o : Option (List ℕ × Expr)) → equation_of x ≡ o → ((f : Expr) × Given k name f) ⊎ ((f : Expr) → ¬ Given k name f)
          of_equation x found None eq = inr (λ f g.
              let is_x : x ≡ g.conjunct = same_Some x g.conjunct (sym found ∙ g.found) in
              none-some (name, f) (sym eq ∙ ap equation_of is_x ∙ g.is))
          of_equation x found (Some (w, y)) eq = whether x found w y eq (same_name w name) refl (is_member same_name (variables_in y) name) refl

          by : (o : Option Expr) → slice_get (clause_conjuncts clause) k ≡ o → ((f : Expr) × Given k name f) ⊎ ((f : Expr) → ¬ Given k name f)
          by None found = inr (λ f g. none-some g.conjunct (sym found ∙ g.found))
          by (Some x) found = of_equation x found (equation_of x) refl

      given_before : (n : ℕ) → ((k : ℕ) × (k < n) × (f : Expr) × Given k name f) ⊎ ((k : ℕ) (f : Expr) → k < n → ¬ Given k name f)
      given_before zero = inr (λ k f below g. absurd (omega (arith, below)))
      given_before (suc n) = elim (given_before n) [
        | inl found ↦ inl (found.0, let below = found.1 in omega (arith, below), found.2, found.3)
        | inr none ↦ elim (one_given n) [
          | inl here ↦ inl (n, omega arith, here.0, here.1)
          | inr absent ↦ inr (λ k f below g. elim (below_or k n below) [
            | inl less ↦ none k f less g
            | inr same ↦ absent f (subst (λ (i : ℕ). Given i name f) same g)
          ])
        ]
      ]

      before_to : (place k : ℕ) → k < place → (f : Expr) → Given k name f → IsGivenBefore cs place v
      before_to place k below f g =
          let c = said_at s program aimed models_apart r rel is IsEq clause cs are gives k g.conjunct g.found v name f at g.is in
          record { earlier = k; before = below; c = c.c; found = c.found; e = c.tree; says = c.says; other = λ names. g.other (tree_names s r rel.vars v name at var at_var f c.tree c.has names) }

    -- ---- the equations

    -- the conjunct that is an equation of the program is one of the script
    equation_is : (place : ℕ) (x : Expr) (c : Conj) → IsConjunct s r rel.vars IsEq place x c → (v : ℕ) (e : Typed) → c ≡ conjs.Equation v e
        → (w : List ℕ) × (y : Expr) × IsEq place w y × (place_of w (variables_of r) ≡ v) × HasTree (in_relation s r rel.vars) y e
    equation_is place x _ (IsConjunct.call n args number trees calls position all) v e same = absurd cc
    equation_is place x _ (IsConjunct.equation w y t eq tree) v e same =
        let number : place_of w (variables_of r) ≡ v = cc in
        let is_e : t ≡ e = cc in
        (w, y, eq, number, subst (HasTree (in_relation s r rel.vars) y) is_e tree)
    equation_is place x _ (IsConjunct.condition t none other tree) v e same = absurd cc

    condition_is : (place : ℕ) (x : Expr) (c : Conj) → IsConjunct s r rel.vars IsEq place x c → (e : Typed) → c ≡ conjs.Cond e → (w : List ℕ) (y : Expr) → ¬ IsEq place w y
    condition_is place x _ (IsConjunct.call n args number trees calls position all) e same w y = absurd cc
    condition_is place x _ (IsConjunct.equation v f t eq tree) e same w y = absurd cc
    condition_is place x _ (IsConjunct.condition t none other tree) e same w y = other w y

    equations_are : (place v : ℕ) (e : Typed) → slice_get cs place ≡ Some (conjs.Equation v e) → IsDataVariable rel v × IsSought v × (¬ Names e v) × (¬ IsGivenBefore cs place v)
    equations_are place v e found =
        let x = conjunct_from s r rel.vars IsEq clause cs are gives place (conjs.Equation v e) found in
        let q = equation_is place x.e (conjs.Equation v e) x.is v e refl in
        let eq : IsEq place q.0 q.1 = q.2 in
        let among : Contains (variables_of r) q.0 = known_in place eq.given.conjunct q.0 q.1 eq.given.found eq.given.is in
        let at : slice_get (variables_of r) v ≡ Some q.0 = subst (λ (n : ℕ). slice_get (variables_of r) n ≡ Some q.0) q.3 (at_place q.0 (variables_of r) among) in
        let d : IsDataVariable rel v = data_to v q.0 at eq.single in (
          d,
          sought_to v q.0 at d.var d.found eq.sought,
          λ names. eq.given.other (tree_names s r rel.vars v q.0 at d.var d.found q.1 e q.4 names),
          λ before.
              let g = given_from v q.0 at d.var d.found before.earlier before.c before.found before.e before.says before.other in
              eq.first before.earlier g.0 before.before g.1,
        )

    equations_all : (place v : ℕ) (c e : Typed) → slice_get cs place ≡ Some (conjs.Cond c) → Says (conjs.Cond c) v e → IsDataVariable rel v → IsSought v → (¬ Names e v) → IsGivenBefore cs place v
    equations_all place v c e found says d sought other =
        let n = data_from s program aimed models_apart r rel is v d in
        let x = conjunct_from s r rel.vars IsEq clause cs are gives place (conjs.Cond c) found in
        let g = given_from v n.0 n.1 d.var d.found place (conjs.Cond c) found e says other in
        elim (given_before v n.0 n.1 d.var d.found place) [
          | inl earlier ↦ before_to v n.0 n.1 d.var d.found place earlier.0 earlier.1 earlier.2 earlier.3
          | inr none ↦ absurd (condition_is place x.e (conjs.Cond c) x.is c refl n.0 g.0
              (record { single = n.2; sought = sought_from v n.0 n.1 d.var d.found sought; given = g.1; first = λ k f below. none k f below }))
        ]

    pub has_equations : HasEquations rel IsSought cs
    has_equations = record { are = equations_are; all = equations_all }
