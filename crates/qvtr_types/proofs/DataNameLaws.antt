-- The names that have an equation in a clause: those of data variables that are universal, or else existential.
use Rattle.std.proofs.Common.{◌≡◌, ℕ, zero, suc, List, [], ◌∷◌, Bool, true, false, not, ◌&&◌, refl, sym, ◌∙◌, ap, subst, arith, true≢false}
use Rattle.std.specs.Prelude.{Option, Some, None, is_some, position, slice_get}
use Rattle.std.specs.List.{AllZip, position_or_len}
use Rattle.std.specs.Option.{option_map_or}
use Rattle.std.proofs.lemmas.Bool.{not-true, and_parts, and_from}
use Rattle.std.proofs.lemmas.Option.{same_Some, none-some, slice_get_within}
use Rattle.mof_metamodel.specs.declared.desc.ClassId.{ClassId}
use Rattle.mof_metamodel.specs.Characters.{same_name}
use Rattle.qv_syntax.specs.declared.ty.Ty.{Ty}
use Rattle.qv_syntax.specs.declared.program.Var.{Var}
use Rattle.qv_syntax.specs.declared.script.RelationTree.{RelationTree}
use Rattle.ocl_environments.specs.Environments.{class_of}
use Rattle.script_scopes.specs.ScriptNames.{each_once}
use Rattle.script_scopes.specs.Occurrences.{variables_of}
use Rattle.script_scopes.specs.Divisions.{IsUniversal}
use Rattle.script_scopes.specs.UniversalNames.{universal_names, is_among}
use Rattle.script_scopes.specs.Environments.{Setting, in_script}
use Rattle.script_scopes.specs.Resolutions.{IsVariable, IsData}
use Rattle.script_scopes.specs.Faults.{AreVariables}
use Rattle.script_variables.specs.Variables.{is_class}
use Rattle.qvtr_types.specs.Equations.{is_data_at, is_data_named, has_equation}
use Rattle.script_variables.specs.SettledRelations.{HasOneType, HaveOneType}
use Rattle.script_scopes.proofs.CallRowLaws.{within_some}
use Rattle.script_variables.proofs.BindingLaws.{number_at, number_had, among_universal, universal_among, among_existential, existential_among}
use Rattle.script_variables.proofs.VariableLaws.{no_class, not_class}
use Rattle.qvtr_types.proofs.OccurrenceLaws.{type_occurs}
use Rattle.qvtr_types.proofs.ZipLemmas.{zip_length}

-- ---- place by place

pub zip_here : {X Y : Type 0} (R : X → Y → Type 0) (xs : List X) (ys : List Y) (k : ℕ) (x : X) (y : Y) → AllZip R xs ys → slice_get xs k ≡ Some x → slice_get ys k ≡ Some y → R x y
zip_here R [] ys k x y all found there = absurd (none-some x found)
zip_here R (w ∷ xs) [] k x y all found there = absurd all
zip_here R (w ∷ xs) (z ∷ ys) zero x y all found there = subst (λ v. R v y) (same_Some w x found) (subst (R w) (same_Some z y there) all.0)
zip_here R (w ∷ xs) (z ∷ ys) (suc k) x y all found there = zip_here R xs ys k x y all.1 found there

-- ---- data variables

record IsPlaced (names : List (List ℕ)) (vars : List Var) (v : List ℕ) : Type 0 where
  pub place : ℕ
  pub var : Var
  pub named : slice_get names place ≡ Some v
  pub found : slice_get vars place ≡ Some var
  pub no_class : is_class var.ty ≡ false

placed : (names : List (List ℕ)) (vars : List Var) (v : List ℕ) → is_data_named names vars v ≡ true → IsPlaced names vars v
placed names vars v h = by (position (same_name v) names) refl h
  where
    there : (n : ℕ) → position (same_name v) names ≡ Some n → (o : Option Var) → slice_get vars n ≡ o → option_map_or (λ var. not (is_class var.ty)) o false ≡ true → IsPlaced names vars v
    there n at None found g = absurd (true≢false (sym g))
    there n at (Some var) found g = record { place = n; var = var; named = number_at names v n at; found = found; no_class = not-true (is_class var.ty) g }

    by : (o : Option ℕ) → position (same_name v) names ≡ o → is_data_at vars o ≡ true → IsPlaced names vars v
    by None at g = absurd (true≢false (sym g))
    by (Some n) at g = there n at (slice_get vars n) refl g

none_there : (o : Option (ℕ × ClassId)) → is_some o ≡ false → o ≡ None
none_there None h = refl
none_there (Some c) h = absurd (true≢false h)

module _ (s : Setting) (r : RelationTree) (vars : List Var) (are : AreVariables s r vars) (one : HaveOneType s r vars) where
  pub named_data : (v : List ℕ) → is_data_named (variables_of r) vars v ≡ true → IsData s r v
  named_data v h =
      let p = placed (variables_of r) vars v h in
      record {
        ty = p.var.ty;
        has = (zip_here (IsVariable s r) (variables_of r) vars p.place v p.var are p.named p.found).typed;
        data_type = not_class p.var.ty (none_there (class_of p.var.ty) p.no_class);
      }

  pub data_named : (v : List ℕ) → IsData s r v → is_data_named (variables_of r) vars v ≡ true
  data_named v d =
      let among = type_occurs r v s.metas s.script (in_script s) d.ty d.has in
      let n : ℕ = position_or_len (same_name v) (variables_of r) in
      let at : position (same_name v) (variables_of r) ≡ Some n = number_had (variables_of r) v among in
      let named : slice_get (variables_of r) n ≡ Some v = number_at (variables_of r) v n at in
      let below = slice_get_within (variables_of r) n v named in
      let long = zip_length (IsVariable s r) (variables_of r) vars are in
      let (var, found) = within_some vars n (omega (arith, below, long)) in
      let same : d.ty ≡ var.ty = zip_here (HasOneType s r) (variables_of r) vars n v var one named found d.ty d.has in
      ap (is_data_at vars) at ∙ ap (λ (o : Option Var). option_map_or (λ x. not (is_class x.ty)) o false) found
      ∙ ap (λ (ty : Ty). not (is_class ty)) (sym same) ∙ ap (λ (o : Option (ℕ × ClassId)). not (is_some o)) (no_class d.ty d.data_type)

  -- ---- equations of both clauses

  abbrev universal : List (List ℕ)
  universal = each_once (universal_names s.target r)

  pub when_passes : (v : List ℕ) → has_equation (variables_of r) vars universal true v ≡ true → IsData s r v × IsUniversal s.target r v
  when_passes v h =
      let p = and_parts (is_data_named (variables_of r) vars v) (is_among universal true v) h in (named_data v p.0, among_universal s.target r v p.1)

  pub when_passed : (v : List ℕ) → IsData s r v → IsUniversal s.target r v → has_equation (variables_of r) vars universal true v ≡ true
  when_passed v d u = and_from (is_data_named (variables_of r) vars v) (is_among universal true v) (data_named v d) (universal_among s.target r v u)

  pub where_passes : (v : List ℕ) → has_equation (variables_of r) vars universal false v ≡ true → IsData s r v × (IsUniversal s.target r v → ⊥)
  where_passes v h =
      let p = and_parts (is_data_named (variables_of r) vars v) (is_among universal false v) h in (named_data v p.0, among_existential s.target r v p.1)

  pub where_passed : (v : List ℕ) → IsData s r v → (IsUniversal s.target r v → ⊥) → has_equation (variables_of r) vars universal false v ≡ true
  where_passed v d u = and_from (is_data_named (variables_of r) vars v) (is_among universal false v) (data_named v d) (existential_among s.target r v u)
