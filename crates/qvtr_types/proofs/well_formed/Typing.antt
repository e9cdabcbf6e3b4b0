-- What typing gives in a relation whose variables are in order: types of variables and of expressions, what is told of types, and
-- properties of classes.
use Rattle.std.proofs.Common.{◌≡◌, ◌≢◌, ◌<◌, ◌⊎◌, ℕ, List, [], ◌∷◌, Bool, true, false, ◌&&◌, map, length, refl, sym, ◌∙◌, ap, subst, arith, inl, inr}
use Rattle.std.specs.Prelude.{Option, Some, None, Contains, IsSome, ◌==◌, slice_get, nat_lt}
use Rattle.std.proofs.lemmas.Bool.{eqb-true, ltb-true, false≢true}
use Rattle.std.proofs.lemmas.Option.{same_Some, none-some, slice_get_within, slice_get-get_or, get_or_from_slice_get}
use Rattle.std.specs.Option.{option_map_or}
use Rattle.mof_metamodel.specs.declared.desc.MetaDesc.{MetaDesc}
use Rattle.mof_metamodel.specs.declared.desc.ClassId.{ClassId}
use Rattle.mof_metamodel.specs.declared.desc.PropId.{PropId}
use Rattle.mof_metamodel.specs.declared.desc.PropType.{PropType}
use Rattle.mof_metamodel.specs.Metamodels.{class_count, prop_number, type_of, prop_at, props_of}
use Rattle.mof_metamodel.proofs.SearchLemmas.{passes_each}
use Rattle.mof_metamodel.proofs.PropLemmas.{prop_known}
use Rattle.mof_metamodel.proofs.MetaLaws.{prop_named}
use Rattle.qv_syntax.specs.declared.ty.Ty.{Ty, fold-roll-Ty}
use Rattle.qv_syntax.specs.declared.ty.Ty.TheVariants as types
use Rattle.qv_syntax.specs.declared.ty.Ty.TheOpen as of
use Rattle.qv_syntax.specs.declared.expr.Expr.{Expr}
use Rattle.qv_syntax.specs.declared.typed.Values.{Values}
use Rattle.qv_syntax.specs.declared.query.Query.{Query}
use Rattle.qv_syntax.specs.declared.query.ModelSlot.{ModelSlot}
use Rattle.qv_syntax.specs.declared.script.RelationTree.{RelationTree}
use Rattle.qv_syntax.specs.declared.program.Program.{Program}
use Rattle.qv_syntax.specs.declared.program.Var.{Var}
use Rattle.qv_syntax.specs.Types.{IsClassIn, ConformsTo, AreRelated}
use Rattle.qv_syntax.specs.TypeRules.{HasProperty}
use Rattle.qv_syntax.specs.TypedTrees.{QueryType, Context, Variables, IsTyped}
use Rattle.qv_syntax.specs.ProgramTypes as programs
use Rattle.ocl_environments.specs.declared.part.TypedPart.{TypedPart}
use Rattle.ocl_environments.specs.Environments.{Environment, IsInOrder, AreWell, no_meta, meta_at, is_over, is_over_step, is_flat, is_type, class_of, slot_at, is_object_type, is_variable}
use Rattle.ocl_environments.specs.Agreement.{same_type, fits}
use Rattle.ocl_environments.specs.Navigation.{value_type, values_of}
use Rattle.ocl_environments.specs.Parts.{tree_of}
use Rattle.ocl_types.specs.HasType.{HasType}
use Rattle.ocl_types.specs.QueryTyping.{signed}
use Rattle.ocl_types.specs.TypedContext as context
use Rattle.ocl_types.proofs.LayerLaws.{class_of_class}
use Rattle.ocl_types.proofs.DemandLaws.{conforming_is}
use Rattle.ocl_environments.proofs.TypeLaws.{same_is_one}
use Rattle.std.proofs.lemmas.Bool.{and_parts}
use Rattle.ocl_types.proofs.TypedTrees.{tree_typed, type_within}
use Rattle.script_scopes.specs.Occurrences.{variables_of}
use Rattle.script_scopes.specs.Environments.{Setting, in_script, in_relation, named_variables, slots_of}
use Rattle.mof_metamodel.proofs.Facts.{contains_at}
use Rattle.qvtr_types.proofs.well_formed.Numbers.{at_named}

-- ---- what is told

pub same_or : (a b : Ty) → (a ≡ b) ⊎ (a ≢ b)
same_or a b = by (same_type a b) refl
  where
    by : (t : Bool) → same_type a b ≡ t → (a ≡ b) ⊎ (a ≢ b)
    by true is = inl ((same_is_one a b).0 is)
    by false is = inr (λ same. false≢true (sym is ∙ (same_is_one a b).1 same))

module _ (metas : List MetaDesc) (well : AreWell metas) where
  conforms_or : (a b : Ty) → is_over metas a ≡ true → ConformsTo metas a b ⊎ (ConformsTo metas a b → ⊥)
  conforms_or a b over = by (fits metas a b) refl
    where
      by : (t : Bool) → fits metas a b ≡ t → ConformsTo metas a b ⊎ (ConformsTo metas a b → ⊥)
      by true is = inl ((conforming_is metas well a b over).0 is)
      by false is = inr (λ conforms. false≢true (sym is ∙ (conforming_is metas well a b over).1 conforms))

  pub related_or : (a b : Ty) → is_over metas a ≡ true → is_over metas b ≡ true → AreRelated metas a b ⊎ (AreRelated metas a b → ⊥)
  related_or a b one other = elim (conforms_or a b one) [
    | inl is ↦ inl (inl is)
    | inr not_first ↦ elim (conforms_or b a other) [
      | inl is ↦ inl (inr is)
      | inr not_second ↦ inr (λ r. elim r [ inl x ↦ not_first x | inr y ↦ not_second y ])
    ]
  ]

  -- ---- classes and properties

  pub class_over : (m : ℕ) (c : ClassId) → is_over metas (types.Class m c) ≡ true → (m < length metas) × (c.0 < class_count (meta_at metas m))
  class_over m c over =
      let both = and_parts (nat_lt m (length metas)) (nat_lt c.0 (class_count (meta_at metas m))) (sym (fold-roll-Ty Bool (is_over_step metas) (of.Class m c)) ∙ ap (is_over metas) (types.rolls-Class m c) ∙ over) in
      (ltb-true _ _ both.0, ltb-true _ _ both.1)

  pub class_in : (m : ℕ) (c : ClassId) → is_over metas (types.Class m c) ≡ true → IsClassIn metas m c
  class_in m c over =
      let at = class_over m c over in
      record { meta = meta_at metas m; found = slice_get-get_or metas m no_meta at.0; within = at.1 }

  pub property_has : (m : ℕ) (c : ClassId) (has : IsClassIn metas m c) (name : List ℕ) (p : PropId) → prop_number (meta_at metas m) c.0 name ≡ Some p.0
      → (gives : Values) × (of : Ty) × HasProperty metas (types.Class m c) p gives of
  property_has m c has name p found =
      let desc : MetaDesc = meta_at metas m in
      let named = prop_named desc c.0 name (Some p) (sym found) in
      let within : m < length metas = slice_get_within metas m has.meta has.found in
      by (type_of desc p.0) refl ((well m no_meta within).known.types p.0 (prop_known desc c.0 p.0 named.has))
    where
      same : has.meta ≡ meta_at metas m
      same = sym (get_or_from_slice_get metas m has.meta no_meta has.found)

      by : (o : Option PropType) → type_of (meta_at metas m) p.0 ≡ o → IsSome o → (gives : Values) × (of : Ty) × HasProperty metas (types.Class m c) p gives of
      by None at some = absurd (false≢true some)
      by (Some ty) at some = (
        values_of (prop_at (meta_at metas m) p.0),
        value_type m ty,
        record {
          m = m;
          class = c;
          is = refl;
          has = has;
          own = subst (λ (d : MetaDesc). Contains (props_of d c.0) p.0) (sym same) (prop_named (meta_at metas m) c.0 name (Some p) (sym found)).has;
          of = ty;
          typed = ap (λ (d : MetaDesc). type_of d p.0) same ∙ at;
          value = refl;
          many = ap (λ (d : MetaDesc). values_of (prop_at d p.0)) (sym same);
        },
      )

-- ---- what is in reach in a program

pub typings_are : (names : List (List ℕ)) (vars : List Var) → length names ≡ length vars → map context.variable_typing (named_variables names vars) ≡ map programs.typing_of vars
typings_are [] [] count = refl
typings_are [] (v ∷ vars) count = absurd (omega (arith, count))
typings_are (n ∷ names) [] count = absurd (omega (arith, count))
typings_are (n ∷ names) (v ∷ vars) count = ap (λ ts. programs.typing_of v ∷ ts) (typings_are names vars (omega (arith, count)))

queries_are : (qs : List Query) → map context.query_type (map signed qs) ≡ map programs.query_type qs
queries_are [] = refl
queries_are (q ∷ qs) = ap (λ ts. programs.query_type q ∷ ts) (queries_are qs)

pub context_is : (s : Setting) (program : Program) → program.models ≡ slots_of s.script → program.queries ≡ s.queries → context.context_of (in_script s) ≡ programs.context_of s.metas program
context_is s program models queries =
    ap (λ (qs : List QueryType). record { metas = s.metas; slots = slots_of s.script; queries = qs }) (queries_are s.queries ∙ ap (map programs.query_type) (sym queries))
    ∙ ap (λ (slots : List ModelSlot). record { metas = s.metas; slots = slots; queries = map programs.query_type program.queries }) (sym models)

-- ---- in a relation

module _ (s : Setting) (r : RelationTree) (vars : List Var) (order : IsInOrder (in_relation s r vars)) where
  abbrev env : Environment
  env = in_relation s r vars

  variable_fits : (v : ℕ) (name : List ℕ) (var : Var) → slice_get (variables_of r) v ≡ Some name → slice_get vars v ≡ Some var
      → is_variable env (name, record { ty = var.ty; model = var.model }) ≡ true
  variable_fits v name var at at_var =
      passes_each (is_variable env) env.variables order.typed (name, record { ty = var.ty; model = var.model })
      (contains_at env.variables v (name, record { ty = var.ty; model = var.model }) (at_named (variables_of r) vars v name var at at_var))

  -- the type of a variable, and the model of its objects
  pub record IsFitting (var : Var) : Type 0 where
    pub over : is_over s.metas var.ty ≡ true
    pub flat : is_flat var.ty ≡ true
    pub object : (m : ℕ) → var.model ≡ Some m → (slot : ModelSlot) × (slice_get (slots_of s.script) m ≡ Some slot) × ((meta : ℕ) (class : ClassId) → var.ty ≡ types.Class meta class → slot.meta ≡ meta)

  pub fitting : (v : ℕ) (name : List ℕ) (var : Var) → slice_get (variables_of r) v ≡ Some name → slice_get vars v ≡ Some var → IsFitting var
  fitting v name var at at_var = by var.model refl (variable_fits v name var at at_var)
    where
      of_type : is_type s.metas var.ty ≡ true → (is_over s.metas var.ty ≡ true) × (is_flat var.ty ≡ true)
      of_type is = and_parts (is_over s.metas var.ty) (is_flat var.ty) is

      by : (o : Option ℕ) → var.model ≡ o → option_map_or (is_object_type env var.ty) o (is_type s.metas var.ty) ≡ true → IsFitting var
      by None none is = record { over = (of_type is).0; flat = (of_type is).1; object = λ m has. absurd (none-some m (sym none ∙ has)) }
      by (Some n) some is =
          let within : Bool = nat_lt n (length (slots_of s.script)) in
          let of_meta : Bool = option_map_or (λ (c : ℕ × ClassId). c.0 == (slot_at (slots_of s.script) n).meta) (class_of var.ty) false in
          let told = and_parts (within && of_meta) (is_type s.metas var.ty) is in
          let object = and_parts within of_meta told.0 in
          record {
            over = (of_type told.1).0;
            flat = (of_type told.1).1;
            object = λ m has.
                let same : n ≡ m = same_Some n m (sym some ∙ has) in
                let inside : m < length (slots_of s.script) = subst (λ (k : ℕ). k < length (slots_of s.script)) same (ltb-true _ _ object.0) in (
                  slot_at (slots_of s.script) m,
                  slice_get-get_or (slots_of s.script) m (record { name = []; meta = 0 }) inside,
                  λ meta class is_class.
                      let test : (meta == (slot_at (slots_of s.script) n).meta) ≡ true =
                      sym (ap (λ (o : Option (ℕ × ClassId)). option_map_or (λ (c : ℕ × ClassId). c.0 == (slot_at (slots_of s.script) n).meta) o false) (ap class_of is_class ∙ class_of_class meta class)) ∙ object.1 in
                      ap (λ (k : ℕ). (slot_at (slots_of s.script) k).meta) (sym same) ∙ sym (eqb-true meta (slot_at (slots_of s.script) n).meta test),
                );
          }

  -- ---- expressions

  -- the typing of an expression, in the words of the program
  pub typed_tree : (program : Program) → program.models ≡ slots_of s.script → program.queries ≡ s.queries → length (variables_of r) ≡ length vars → (e : Expr) (p : TypedPart) → HasType env e p
      → IsTyped (programs.context_of s.metas program) (map programs.typing_of vars) (tree_of p) (context.typing_of p)
  typed_tree program models queries count e p has =
      subst (λ (c : Context). IsTyped c (map programs.typing_of vars) (tree_of p) (context.typing_of p)) (context_is s program models queries)
      (subst (λ (vs : Variables). IsTyped (context.context_of (in_script s)) vs (tree_of p) (context.typing_of p)) (typings_are (variables_of r) vars count) (tree_typed env order e p has))

  pub over_type : (e : Expr) (p : TypedPart) → HasType env e p → is_over s.metas p.ty ≡ true
  over_type e p has = type_within env order e p has
