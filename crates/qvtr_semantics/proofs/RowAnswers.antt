-- Two packages, `a` and `b`: with two schemas of these names the relations are satisfied; with the schema `a` alone the package `b` is
-- the least failing binding.
use Rattle.std.specs.Prelude.{◌≡◌, ◌⊎◌, ℕ, zero, suc, Bool, true, false, ◌&&◌, List, [], ◌∷◌, length, codes, Option, None, Some, slice_get, replicate, Contains, IsTrue}
use Rattle.std.specs.Option.{unwrap_or}
use Rattle.std.proofs.Common.{refl, ap, sym, ◌∙◌, subst, arith, inl, inr, true≢false}
use Rattle.object_tables.specs.declared.value.Value.TheVariants as values
use Rattle.object_tables.specs.Models.{ModelData}
use Rattle.qv_syntax.specs.declared.program.Rel.{Rel}
use Rattle.qvtr_semantics.specs.declared.datum.Datum.{Datum}
use Rattle.qvtr_semantics.specs.declared.datum.Datum.TheVariants.{Obj, Val}
use Rattle.qvtr_semantics.specs.Data.{is_among}
use Rattle.qvtr_semantics.specs.Templates.{Values, Pattern, value_at, is_of_class}
use Rattle.qvtr_semantics.specs.Bindings.{have_values, meets_source, meets_target, is_value_for, Source, Target}
use Rattle.qvtr_semantics.specs.Calls.{SourceMatches, TargetHolds, Match, Holds, free}
use Rattle.qvtr_semantics.specs.Satisfaction.{Failing, Satisfied, IsLess, LeastFailing}
use Rattle.qvtr_semantics.specs.SmallModels.{packages, two_schemas, one_schema, both, one_only, b_alone, text, object, program, package_to_schema, class_to_table}
use Rattle.qvtr_semantics.proofs.RowParts.{sets, named, matching, named_template, text_value, object_value, text_among}
use Rattle.mof_metamodel.proofs.Facts.{second_true}
use Rattle.mof_metamodel.proofs.Facts.{first_true}
use Rattle.std.proofs.lemmas.Option.{none-some}

-- ---- values of bindings

is_none : {X : Type 0} → Option X → Bool
is_none None = true
is_none (Some x) = false

pub nothing_free : (n v : ℕ) (d : Datum) → value_at (replicate n None) v ≡ Some d → ⊥
nothing_free zero v d e = none-some d e
nothing_free (suc n) zero d e = none-some d e
nothing_free (suc n) (suc v) d e = nothing_free n v d e

-- three values, since there are three variables
pub data IsThree : Values → Type 0 where
  three : (x y z : Option Datum) → IsThree (x ∷ y ∷ z ∷ [])

pub three_of : (b : Values) → length b ≡ 3 → IsThree b
three_of [] e = absurd (omega (arith, e))
three_of (x ∷ []) e = absurd (omega (arith, e))
three_of (x ∷ y ∷ []) e = absurd (omega (arith, e))
three_of (x ∷ y ∷ z ∷ []) e = IsThree.three x y z
three_of (x ∷ y ∷ z ∷ w ∷ more) e = absurd (omega (arith, e))

-- ---- sources: the two packages with their names

abbrev pub source_by : Pattern → List ModelData → Values → Bool
source_by p models b = have_values program models package_to_schema package_to_schema.universal b && (p.matches b && true) && true

abbrev pub target_by : Pattern → List ModelData → Values → Bool
target_by p models g = have_values program models package_to_schema package_to_schema.existential g && (p.matches g && true) && true

-- the package of this number has this name
pub data IsPackage : Option Datum → Option Datum → Type 0 where
  first : IsPackage (text (codes "a")) (object 0 0)
  second : IsPackage (text (codes "b")) (object 0 1)

module _ (schemas : ModelData) where
  abbrev models : List ModelData
  models = packages ∷ schemas ∷ []

  package_named : (s : List ℕ) (o : ℕ) (z : Option Datum) → is_of_class (sets program models) 1 (Obj 0 (record { 0 = o })) ≡ true
      → (matching program models 1 1 (named program models 0 ∷ [])).matches (text s ∷ object 0 o ∷ z ∷ []) ≡ true → IsPackage (text s) (object 0 o)
  package_named s zero z c m =
      subst (λ t. IsPackage (text t) (object 0 0)) (sym (text_among s (codes "a") (first_true (is_among (Val 0 (values.Str s)) (Val 0 (values.Str (codes "a")) ∷ [])) true m))) IsPackage.first
  package_named s (suc zero) z c m =
      subst (λ t. IsPackage (text t) (object 0 1)) (sym (text_among s (codes "b") (first_true (is_among (Val 0 (values.Str s)) (Val 0 (values.Str (codes "b")) ∷ [])) true m))) IsPackage.second
  package_named s (suc (suc o)) z c m = absurd (true≢false (sym c))

  pub source_is : (x y z : Option Datum) → meets_source program models package_to_schema (x ∷ y ∷ z ∷ []) ≡ true → IsPackage x y
  source_is x y z meets =
      let b : Values = x ∷ y ∷ z ∷ [] in
      let p : Pattern = matching program models 1 1 (named program models 0 ∷ []) in
      let h : source_by p models b ≡ true = sym (ap (λ q. source_by q models b) (named_template program models 1 1 0)) ∙ meets in
      let one = is_value_for (sets program models) (slice_get package_to_schema.vars 0) x in
      let two = is_value_for (sets program models) (slice_get package_to_schema.vars 1) y in
      let both = first_true ((one && (two && true)) && (p.matches b && true)) true h in
      let values_hold = first_true (one && (two && true)) (p.matches b && true) both in
      let matches = first_true (p.matches b) true (second_true (one && (two && true)) (p.matches b && true) both) in
      let (s, is_text) = text_value program models (codes "pn") x (first_true one (two && true) values_hold) in
      let (o, is_object, of_class) = object_value program models (codes "p") 0 1 y (first_true two true (second_true one (two && true) values_hold)) in
      subst (λ v. IsPackage v y) (sym is_text)
      (subst (λ v. IsPackage (text s) v) (sym is_object)
      (package_named s o.0 z of_class (subst (λ v. p.matches (text s ∷ v ∷ z ∷ []) ≡ true) is_object (subst (λ v. p.matches (v ∷ y ∷ z ∷ []) ≡ true) is_text matches))))

  -- ---- no other relation of the program is failing: there is no class

  no_class : (o : ℕ) → is_of_class (sets program models) 2 (Obj 0 (record { 0 = o })) ≡ true → ⊥
  no_class zero c = true≢false (sym c)
  no_class (suc zero) c = true≢false (sym c)
  no_class (suc (suc o)) c = true≢false (sym c)

  class_of_values : (b : Values) → have_values program models class_to_table class_to_table.universal b ≡ true → ⊥
  class_of_values b h =
      let one = is_value_for (sets program models) (slice_get class_to_table.vars 0) (value_at b 0) in
      let two = is_value_for (sets program models) (slice_get class_to_table.vars 1) (value_at b 1) in
      let three = is_value_for (sets program models) (slice_get class_to_table.vars 2) (value_at b 2) in
      let four = is_value_for (sets program models) (slice_get class_to_table.vars 4) (value_at b 4) in
      let (o, is_object, of_class) = object_value program models (codes "c") 0 2 (value_at b 1) (first_true two (three && (four && true)) (second_true one (two && (three && (four && true))) h)) in
      no_class o.0 of_class

  class_has_no_source : (roots b : Values) → Source program models class_to_table roots b → ⊥
  class_has_no_source roots b source =
      let h = have_values program models class_to_table class_to_table.universal b in
      class_of_values b (first_true h _ (first_true _ _ source.meets))

-- ---- partners

no_extension : (x y z w : Option Datum) (v : ℕ) (d : Datum) → z ≡ None → value_at (x ∷ y ∷ z ∷ []) v ≡ Some d → value_at (x ∷ y ∷ w ∷ []) v ≡ Some d
no_extension x y z w zero d n e = e
no_extension x y z w (suc zero) d n e = e
no_extension x y z w (suc (suc zero)) d n e = absurd (none-some d (sym n ∙ e))
no_extension x y z w (suc (suc (suc v))) d n e = absurd (none-some d e)

-- the target root of a source binding with free roots has no value
third_is_free : (ms : List ModelData) (x y z : Option Datum) → Source program ms package_to_schema (free package_to_schema) (x ∷ y ∷ z ∷ []) → z ≡ None
third_is_free ms x y None source = refl
third_is_free ms x y (Some d) source = elim (source.no_others 2 d refl) [
  | inl (zero, within, is) ↦ absurd (omega (arith, is))
  | inl (suc zero, within, is) ↦ absurd (omega (arith, is))
  | inl (suc (suc k), within, is) ↦ absurd (omega (arith, within))
  | inr e ↦ absurd (nothing_free 3 2 d e)
]

others : (x y w : Option Datum) (v : ℕ) (d : Datum) → value_at (x ∷ y ∷ w ∷ []) v ≡ Some d → Contains package_to_schema.existential v ⊎ (value_at (x ∷ y ∷ None ∷ []) v ≡ Some d)
others x y w zero d e = inr e
others x y w (suc zero) d e = inr e
others x y w (suc (suc zero)) d e = inl (0, omega arith, refl)
others x y w (suc (suc (suc v))) d e = absurd (none-some d e)

partner : (ms : List ModelData) (x y w : Option Datum) → IsTrue (meets_target program ms package_to_schema (x ∷ y ∷ w ∷ [])) → TargetHolds (Holds program ms) program ms package_to_schema (x ∷ y ∷ None ∷ []) (x ∷ y ∷ w ∷ [])
partner ms x y w meets = record {
  target = record { places = refl; extends = λ v d e. no_extension x y None w v d refl e; no_others = others x y w; meets = meets };
  wheres = tt;
}

pub schema_named : (ms : List ModelData) (g : Values) → target_by (matching program ms 2 1 (named program ms 0 ∷ [])) ms g ≡ true → meets_target program ms package_to_schema g ≡ true
schema_named ms g h = ap (λ q. target_by q ms g) (named_template program ms 2 1 0) ∙ h

-- ---- row 1: satisfied

package_has_partner : (x y : Option Datum) → IsPackage x y → (g : Values) × TargetHolds (Holds program both) program both package_to_schema (x ∷ y ∷ None ∷ []) g
package_has_partner _ _ IsPackage.first =
    (text (codes "a") ∷ object 0 0 ∷ object 1 0 ∷ [], partner both (text (codes "a")) (object 0 0) (object 1 0) (schema_named both (text (codes "a") ∷ object 0 0 ∷ object 1 0 ∷ []) refl))
package_has_partner _ _ IsPackage.second =
    (text (codes "b") ∷ object 0 1 ∷ object 1 1 ∷ [], partner both (text (codes "b")) (object 0 1) (object 1 1) (schema_named both (text (codes "b") ∷ object 0 1 ∷ object 1 1 ∷ []) refl))

-- each source binding of the first relation has a partner
no_package_alone : (b : Values) → IsThree b → SourceMatches (Match program both) program both package_to_schema (free package_to_schema) b
    → ((g : Values) → ¬ TargetHolds (Holds program both) program both package_to_schema b g) → ⊥
no_package_alone _ (IsThree.three x y z) m alone =
    let is_free : z ≡ None = third_is_free both x y z m.source in
    let (g, holds) = package_has_partner x y (source_is two_schemas x y z m.source.meets) in
    alone g (subst (λ v. TargetHolds (Holds program both) program both package_to_schema (x ∷ y ∷ v ∷ []) g) (sym is_free) holds)

relation_is : (a b : Rel) → Some a ≡ Some b → a ≡ b
relation_is a b e = ap (λ o. unwrap_or o a) e

pub packages_and_schemas_are_satisfied : Satisfied program both
packages_and_schemas_are_satisfied zero b f =
    subst (λ rel. (c : Values) → SourceMatches (Match program both) program both rel (free rel) c → ((g : Values) → ¬ TargetHolds (Holds program both) program both rel c g) → ⊥)
    (relation_is package_to_schema f.rel f.top.is) (λ c m alone. no_package_alone c (three_of c m.source.places) m alone) b f.source f.alone
packages_and_schemas_are_satisfied (suc zero) b f =
    subst (λ rel. (c : Values) → SourceMatches (Match program both) program both rel (free rel) c → ⊥)
    (relation_is class_to_table f.rel f.top.is) (λ c m. class_has_no_source two_schemas (free class_to_table) c m.source) b f.source
packages_and_schemas_are_satisfied (suc (suc n)) b f = none-some f.rel f.top.is

-- ---- row 2: the package `b` fails, and no binding before it does

no_schema_b : (o : ℕ) → is_of_class (sets program one_only) 1 (Obj 1 (record { 0 = o })) ≡ true
    → (matching program one_only 2 1 (named program one_only 0 ∷ [])).matches (text (codes "b") ∷ object 0 1 ∷ object 1 o ∷ []) ≡ true → ⊥
no_schema_b zero c m = true≢false (sym m)
no_schema_b (suc o) c m = true≢false (sym c)

no_partner : (w : Option Datum) → meets_target program one_only package_to_schema (text (codes "b") ∷ object 0 1 ∷ w ∷ []) ≡ true → ⊥
no_partner w meets =
    let g : Values = text (codes "b") ∷ object 0 1 ∷ w ∷ [] in
    let p : Pattern = matching program one_only 2 1 (named program one_only 0 ∷ []) in
    let h : target_by p one_only g ≡ true = sym (ap (λ q. target_by q one_only g) (named_template program one_only 2 1 0)) ∙ meets in
    let has = is_value_for (sets program one_only) (slice_get package_to_schema.vars 2) w in
    let found = first_true ((has && true) && (p.matches g && true)) true h in
    let (o, is_object, of_class) = object_value program one_only (codes "s") 1 1 w (first_true has true (first_true (has && true) (p.matches g && true) found)) in
    let matches = first_true (p.matches g) true (second_true (has && true) (p.matches g && true) found) in
    no_schema_b o.0 of_class (subst (λ v. p.matches (text (codes "b") ∷ object 0 1 ∷ v ∷ []) ≡ true) is_object matches)

no_partner_of_b : (g : Values) → IsThree g → Target program one_only package_to_schema b_alone g → ⊥
no_partner_of_b _ (IsThree.three x y w) t =
    no_partner w (subst (λ v. meets_target program one_only package_to_schema (text (codes "b") ∷ v ∷ w ∷ []) ≡ true) (t.extends 1 (Obj 0 (record { 0 = 1 })) refl)
    (subst (λ v. meets_target program one_only package_to_schema (v ∷ y ∷ w ∷ []) ≡ true) (t.extends 0 (Val 0 (values.Str (codes "b"))) refl) t.meets))

some_universal : (x y : Option Datum) (v : ℕ) (d : Datum) → value_at (x ∷ y ∷ None ∷ []) v ≡ Some d
    → Contains package_to_schema.universal v ⊎ (value_at (free package_to_schema) v ≡ Some d)
some_universal x y zero d e = inl (0, omega arith, refl)
some_universal x y (suc zero) d e = inl (1, omega arith, refl)
some_universal x y (suc (suc zero)) d e = absurd (none-some d e)
some_universal x y (suc (suc (suc v))) d e = absurd (none-some d e)

abbrev b_fails : Failing program one_only 0 b_alone
b_fails = record {
  rel = package_to_schema;
  top = record { is = refl; top = refl; in_direction = refl };
  source = record {
    source = record {
      places = refl;
      extends = λ v d e. absurd (nothing_free 3 v d e);
      no_others = some_universal (text (codes "b")) (object 0 1);
      meets = ap (λ q. source_by q one_only b_alone) (named_template program one_only 1 1 0);
    };
    whens = tt;
  };
  alone = λ g t. no_partner_of_b g (three_of g t.target.places) t.target;
}

a_has_partner : TargetHolds (Holds program one_only) program one_only package_to_schema (text (codes "a") ∷ object 0 0 ∷ None ∷ []) (text (codes "a") ∷ object 0 0 ∷ object 1 0 ∷ [])
a_has_partner = partner one_only (text (codes "a")) (object 0 0) (object 1 0) (schema_named one_only (text (codes "a") ∷ object 0 0 ∷ object 1 0 ∷ []) refl)

not_before_b : (x y z : Option Datum) → IsPackage x y → z ≡ None → ((g : Values) → ¬ TargetHolds (Holds program one_only) program one_only package_to_schema (x ∷ y ∷ z ∷ []) g)
    → IsLess package_to_schema.universal (x ∷ y ∷ z ∷ []) b_alone → ⊥
unfolding lib.Utf8.encode
not_before_b _ _ z IsPackage.first is_free alone less =
    subst (λ v. ((g : Values) → ¬ TargetHolds (Holds program one_only) program one_only package_to_schema (text (codes "a") ∷ object 0 0 ∷ v ∷ []) g) → ⊥) (sym is_free)
    (λ none. none (text (codes "a") ∷ object 0 0 ∷ object 1 0 ∷ []) a_has_partner) alone
not_before_b _ _ z IsPackage.second is_free alone (inl h) = true≢false (sym h)
not_before_b _ _ z IsPackage.second is_free alone (inr (e, inl h)) = true≢false (sym h)
not_before_b _ _ z IsPackage.second is_free alone (inr (e, inr (k, never))) = never

none_before_b : (c : Values) → IsThree c → SourceMatches (Match program one_only) program one_only package_to_schema (free package_to_schema) c
    → ((g : Values) → ¬ TargetHolds (Holds program one_only) program one_only package_to_schema c g) → IsLess package_to_schema.universal c b_alone → ⊥
none_before_b _ (IsThree.three x y z) m alone less =
    not_before_b x y z (source_is one_schema x y z m.source.meets) (third_is_free one_only x y z m.source) alone less

pub package_b_is_the_least : LeastFailing program one_only 0 b_alone
package_b_is_the_least = record {
  failing = b_fails;
  first = λ n c before. absurd (omega (arith, before));
  least = λ c f less.
      subst (λ rel. SourceMatches (Match program one_only) program one_only rel (free rel) c → ((g : Values) → ¬ TargetHolds (Holds program one_only) program one_only rel c g) → ⊥)
      (relation_is package_to_schema f.rel f.top.is) (λ m alone. none_before_b c (three_of c m.source.places) m alone less) f.source f.alone;
}
