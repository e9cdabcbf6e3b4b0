-- The variables of a relation that is told plainly, and classes of the two metamodels.
use Rattle.std.proofs.Common.{◌≡◌, ◌≢◌, ◌<◌, ℕ, zero, suc, Bool, true, false, ◌&&◌, List, [], ◌∷◌, map, length, refl, sym, ap, ◌∙◌, subst, arith, true≢false}
use Rattle.std.specs.Prelude.{nat_lt, nat_eq, Option, None, Some, slice_get, Contains}
use Rattle.std.specs.List.{list_all}
use Rattle.std.proofs.lemmas.Bool.{eqb-true, ltb-true, false≢true}
use Rattle.std.proofs.lemmas.Option.{same_Some, none-some, slice_get_within}
use Rattle.mof_metamodel.specs.declared.desc.MetaDesc.{MetaDesc}
use Rattle.mof_metamodel.specs.declared.desc.ClassId.{ClassId}
use Rattle.mof_metamodel.specs.Metamodels.{class_count}
use Rattle.mof_metamodel.proofs.Facts.{first_true, second_true, contains_at}
use Rattle.qv_syntax.specs.declared.ty.Ty.{Ty}
use Rattle.qv_syntax.specs.declared.ty.Ty.TheVariants as types
use Rattle.qv_syntax.specs.declared.program.Rel.{Rel}
use Rattle.qv_syntax.specs.declared.program.Var.{Var}
use Rattle.qv_syntax.specs.Types.{IsClassIn, IsSingleType}
use Rattle.qv_syntax.specs.TypedTrees.{Typing}
use Rattle.qv_syntax.specs.ProgramTypes.{typing_of}
use Rattle.qv_syntax.specs.Relations.{IsDataVariable}
use Rattle.example_models.specs.ClsTable.{cls_desc}
use Rattle.example_models.specs.RdbTable.{rdb_desc}
use Rattle.example_program.specs.Words.{text_variable, object_variable, class_of}
use Rattle.example_program.proofs.Tests.{image_at, at_image}
use Rattle.example_program.proofs.Plain.{Kind, texts, objects, var_of, Relation, rel_of}
use Rattle.example_program.proofs.Checks.{desc_of, is_class, same_kind, is_kind_of, is_kind}

abbrev pub metas : List MetaDesc
metas = cls_desc ∷ rdb_desc ∷ []

-- ---- classes

pub found_desc : (m : ℕ) → m < 2 → slice_get metas m ≡ Some (desc_of m)
found_desc zero less = refl
found_desc (suc zero) less = refl
found_desc (suc (suc m)) less = absurd (omega (arith, less))

abbrev pub class_in : (m c : ℕ) → is_class m c ≡ true → IsClassIn metas m (record { 0 = c })
class_in m c e = record {
  meta = desc_of m;
  found = found_desc m (ltb-true m 2 (first_true (nat_lt m 2) (nat_lt c (class_count (desc_of m))) e));
  within = ltb-true c (class_count (desc_of m)) (second_true (nat_lt m 2) (nat_lt c (class_count (desc_of m))) e);
}

-- ---- kinds

pub same_kinds : (k l : Kind) → same_kind k l ≡ true → k ≡ l
same_kinds texts texts e = refl
same_kinds texts (objects n d) e = absurd (false≢true e)
same_kinds (objects m c) texts e = absurd (false≢true e)
same_kinds (objects m c) (objects n d) e =
    ap (λ x. objects x c) (eqb-true m n (first_true (nat_eq m n) (nat_eq c d) e)) ∙ ap (λ x. objects n x) (eqb-true c d (second_true (nat_eq m n) (nat_eq c d) e))

abbrev pub type_of_kind : Kind → Ty
type_of_kind texts = types.Str
type_of_kind (objects m c) = class_of m c

abbrev pub model_of_kind : Kind → Option ℕ
model_of_kind texts = None
model_of_kind (objects m c) = Some m

abbrev pub typing_of_kind : Kind → Typing
typing_of_kind kind = record { ty = type_of_kind kind; model = model_of_kind kind }

abbrev pub var_with : List ℕ → Kind → Var
var_with name kind = record { name = name; ty = type_of_kind kind; model = model_of_kind kind }

pub var_is : (var : List ℕ × Kind) → var_of var ≡ var_with var.0 var.1
var_is (name, texts) = refl
var_is (name, objects m c) = refl

-- the variable of the number is one of the kind
pub record HasKind (r : Relation) (v : ℕ) (kind : Kind) : Type 0 where
  pub name : List ℕ
  pub plain : slice_get r.vars v ≡ Some (name, kind)
  pub found : slice_get (rel_of r).vars v ≡ Some (var_with name kind)

kind_by : (r : Relation) (v : ℕ) (kind : Kind) (o : Option (List ℕ × Kind)) → slice_get r.vars v ≡ o → is_kind_of o kind ≡ true → HasKind r v kind
kind_by r v kind None is e = absurd (false≢true e)
kind_by r v kind (Some var) is e =
    let same : var.1 ≡ kind = same_kinds var.1 kind e in
    let named : slice_get r.vars v ≡ Some (var.0, kind) = is ∙ ap (λ k. let x : List ℕ × Kind = (var.0, k) in Some x) same in
    record { name = var.0; plain = named; found = at_image var_of r.vars v (var.0, kind) named ∙ ap (λ x. Some x) (var_is (var.0, kind)) }

pub has_kind : (r : Relation) (v : ℕ) (kind : Kind) → is_kind r v kind ≡ true → HasKind r v kind
has_kind r v kind e = kind_by r v kind (slice_get r.vars v) refl e

-- the other way round, from the relation's variables
pub record IsOfKind (r : Relation) (v : ℕ) (var : Var) : Type 0 where
  pub kind : Kind
  pub name : List ℕ
  pub plain : slice_get r.vars v ≡ Some (name, kind)
  pub is : var_with name kind ≡ var

pub of_kind : (r : Relation) (v : ℕ) (var : Var) → slice_get (rel_of r).vars v ≡ Some var → IsOfKind r v var
of_kind r v var found =
    let x = image_at var_of r.vars v var found in
    record { kind = x.0.1; name = x.0.0; plain = x.1; is = sym (var_is x.0) ∙ x.2 }

-- ---- types

class_model : Ty → Option ℕ
class_model (types.Class m c) = Some m
class_model ty = None

class_number : Ty → Option ClassId
class_number (types.Class m c) = Some c
class_number ty = None

pub text_is_no_class : (m : ℕ) (c : ClassId) → types.Str ≢ types.Class m c
unfolding class_model
text_is_no_class m c e = none-some m (ap class_model e)

pub same_model : (m n : ℕ) (c d : ClassId) → types.Class m c ≡ types.Class n d → m ≡ n
unfolding class_model
same_model m n c d e = same_Some m n (ap class_model e)

pub same_class : (m n : ℕ) (c d : ClassId) → types.Class m c ≡ types.Class n d → c ≡ d
unfolding class_number
same_class m n c d e = same_Some c d (ap class_number e)

text_by : (r : Relation) (v : ℕ) (d : IsDataVariable (rel_of r) v) (k : IsOfKind r v d.var) (kind : Kind) → kind ≡ k.kind → is_kind r v texts ≡ true
text_by r v d k texts is = ap (λ o. is_kind_of o texts) (k.plain ∙ ap (λ x. let y : List ℕ × Kind = (k.name, x) in Some y) (sym is))
text_by r v d k (objects m c) is = absurd (d.data_type m (record { 0 = c }) (sym (ap (λ (x : Var). x.ty) k.is) ∙ ap type_of_kind (sym is)))

-- a variable of a data type is one of texts
pub data_is_text : (r : Relation) (v : ℕ) → IsDataVariable (rel_of r) v → is_kind r v texts ≡ true
data_is_text r v d = text_by r v d (of_kind r v d.var d.found) (of_kind r v d.var d.found).kind refl

pub text_is_data : (r : Relation) (v : ℕ) → is_kind r v texts ≡ true → IsDataVariable (rel_of r) v
text_is_data r v e =
    let h = has_kind r v texts e in
    record { var = var_with h.name texts; found = h.found; data_type = λ m c. text_is_no_class m c }
