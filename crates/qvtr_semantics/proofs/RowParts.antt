-- What small templates and calls ask, for any program and any models.
use Rattle.std.specs.Prelude.{◌≡◌, ℕ, Bool, true, false, ◌&&◌, ◌||◌, ◌==◌, nat_eq, List, [], ◌∷◌, length, Option, None, Some, slice_get}
use Rattle.std.proofs.Common.{refl, ap, sym, ◌∙◌, subst, arith, true≢false}
use Rattle.std.specs.Cmp.Lexicographic.{pointwise, bytes_decides}
use Rattle.std.proofs.lemmas.Bool.Decides.{nat_tests}
use Rattle.object_tables.specs.declared.value.Value.TheVariants as values
use Rattle.object_tables.specs.declared.value.ObjId.{ObjId}
use Rattle.object_tables.specs.Models.{ModelData}
use Rattle.qv_syntax.specs.declared.program.Program.{Program}
use Rattle.qv_syntax.specs.declared.program.ItemValue.{roll-ItemValue}
use Rattle.qv_syntax.specs.declared.program.ItemValue.TheOpen as items
use Rattle.qv_syntax.specs.declared.ty.Ty.{Ty}
use Rattle.qv_syntax.specs.declared.ty.Ty.TheVariants as types
use Rattle.qv_syntax.specs.declared.typed.Node.{roll-Node}
use Rattle.qv_syntax.specs.declared.typed.Call.TheOpen as nodes
use Rattle.qvtr_semantics.specs.declared.datum.Datum.{Datum}
use Rattle.qvtr_semantics.specs.declared.datum.Datum.TheVariants.{Obj, Val}
use Rattle.qvtr_semantics.specs.Outs.{datum_of, all_given}
use Rattle.qvtr_semantics.specs.Data.{is_among}
use Rattle.qvtr_semantics.specs.Objects.{Setting}
use Rattle.qvtr_semantics.specs.Expressions.{Meaning, Queries, setting, queries_within, meaning, scope_of, node_meaning, variable, value_for}
use Rattle.qvtr_semantics.specs.Templates.{Values, SlotMeaning, ItemMeaning, Pattern, has, item_meaning, tmpl_meaning, pattern, is_of_class}
use Rattle.qvtr_semantics.specs.Bindings.{is_value_for}
use Rattle.qvtr_semantics.specs.Calls.{call_of, call_with}
use Rattle.qvtr_semantics.proofs.TemplateLaws.{item_of, template_is, item_is, slot_expr}
use Rattle.qvtr_semantics.proofs.ExpressionLaws.{typed_is, variable_is}
use Rattle.qvtr_semantics.specs.SmallModels.{var, name_item, template, data_var, object_var}
use Rattle.mof_metamodel.proofs.Facts.{first_true, second_true}

pub same_number : (a b : ℕ) → (a == b) ≡ true → a ≡ b
same_number a b e = grind (arith, nat_tests)

module _ (program : Program) (models : List ModelData) where
  abbrev pub sets : Setting
  sets = setting program models

  abbrev pub queries : Queries
  queries = queries_within program.queries sets (length program.queries)

  abbrev pub held : Meaning → SlotMeaning
  held m values slot = has slot (datum_of (m (scope_of values)))

  pub variable_means : (number : ℕ) (ty : Ty) → meaning sets queries (var number ty) ≡ node_meaning sets queries (nodes.Variable number)
  variable_means number ty = typed_is sets queries ty (roll-Node (nodes.Variable number)) ∙ variable_is sets queries number

  -- ---- templates that ask for a name, or for nothing

  abbrev pub named : ℕ → ItemMeaning
  named number = item_meaning sets (record { prop = record { 0 = 0 }; value = held (node_meaning sets queries (nodes.Variable number)) })

  names : (number : ℕ) → item_of program models (name_item number) ≡ named number
  names number =
      item_is program models (record { 0 = 0 }) (roll-ItemValue (items.Expr (var number types.Str)))
      ∙ ap (λ m. item_meaning sets (record { prop = record { 0 = 0 }; value = m }))
      (slot_expr program models (var number types.Str) ∙ ap held (variable_means number types.Str))

  abbrev pub matching : ℕ → ℕ → List ItemMeaning → Pattern
  matching number c ms = tmpl_meaning sets (record { var = number; class = record { 0 = c }; items = ms })

  pub named_template : (number c name : ℕ) → pattern program models (template number c (name_item name ∷ [])) ≡ matching number c (named name ∷ [])
  named_template number c name = template_is program models number (record { 0 = c }) (name_item name ∷ []) ∙ ap (λ m. matching number c (m ∷ [])) (names name)

  pub bare_template : (number c : ℕ) → pattern program models (template number c []) ≡ matching number c []
  bare_template number c = template_is program models number (record { 0 = c }) []

  -- ---- a call whose arguments are two variables

  pub call_by_variables : (number i j : ℕ) (s t : Ty) (b : Values)
      → call_of program models b number (var i s ∷ var j t ∷ [])
      ≡ call_with number (slice_get program.rels number) (all_given (datum_of (variable (scope_of b) i) ∷ datum_of (variable (scope_of b) j) ∷ []))
  call_by_variables number i j s t b =
      ap (λ m. call_with number (slice_get program.rels number) (all_given (datum_of (m (scope_of b)) ∷ datum_of (value_for program models (var j t) b) ∷ []))) (variable_means i s)
      ∙ ap (λ m. call_with number (slice_get program.rels number) (all_given (datum_of (variable (scope_of b) i) ∷ datum_of (m (scope_of b)) ∷ []))) (variable_means j t)

  -- ---- values that variables may have

  -- a variable of type String has a text
  pub text_value : (name : List ℕ) (x : Option Datum) → is_value_for sets (Some (data_var name)) x ≡ true → (s : List ℕ) × (x ≡ Some (Val 0 (values.Str s)))
  text_value name None e = absurd (true≢false (sym e))
  text_value name (Some (Obj m o)) e = absurd (true≢false (sym e))
  text_value name (Some (Val m (values.Str s))) e = (s, ap (λ n. Some (Val n (values.Str s))) (same_number m 0 (first_true (m == 0) true e)))
  text_value name (Some (Val m (values.Int i))) e = absurd (true≢false (sym (second_true (m == 0) false e)))
  text_value name (Some (Val m (values.Bool c))) e = absurd (true≢false (sym (second_true (m == 0) false e)))
  text_value name (Some (Val m (values.Lit f n))) e = absurd (true≢false (sym (second_true (m == 0) false e)))

  -- an object variable has a live object of its model and class
  pub object_value : (name : List ℕ) (model c : ℕ) (y : Option Datum) → is_value_for sets (Some (object_var name model c)) y ≡ true
      → (o : ObjId) × (y ≡ Some (Obj model o)) × (is_of_class sets c (Obj model o) ≡ true)
  object_value name model c None e = absurd (true≢false (sym e))
  object_value name model c (Some (Val m (values.Str s))) e = absurd (true≢false (sym (second_true (m == 0) false e)))
  object_value name model c (Some (Val m (values.Int i))) e = absurd (true≢false (sym (second_true (m == 0) false e)))
  object_value name model c (Some (Val m (values.Bool b))) e = absurd (true≢false (sym (second_true (m == 0) false e)))
  object_value name model c (Some (Val m (values.Lit f n))) e = absurd (true≢false (sym (second_true (m == 0) false e)))
  object_value name model c (Some (Obj m o)) e =
      let is : model ≡ m = same_number model m (first_true (model == m) (is_of_class sets c (Obj m o)) e) in
      (o, ap (λ n. Some (Obj n o)) (sym is), subst (λ n. is_of_class sets c (Obj n o) ≡ true) (sym is) (second_true (model == m) (is_of_class sets c (Obj m o)) e))

-- a slot of one text holds a text only where they are the same
pub text_among : (s t : List ℕ) → is_among (Val 0 (values.Str s)) (Val 0 (values.Str t) ∷ []) ≡ true → s ≡ t
text_among s t e = by (pointwise nat_eq s t) refl e
  where
    by : (r : Bool) → pointwise nat_eq s t ≡ r → (r || false) ≡ true → s ≡ t
    by true is h = (bytes_decides s t).0 is
    by false is h = absurd (true≢false (sym h))
