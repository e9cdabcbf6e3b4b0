-- A call in a where clause holds for a package and the schema of its name, and not for the other schema.
use Rattle.std.specs.Prelude.{◌≡◌, ◌⊎◌, ℕ, zero, suc, Bool, true, false, List, [], ◌∷◌, codes, Option, None, Some, Contains}
use Rattle.std.specs.Option.{unwrap_or}
use Rattle.std.proofs.Common.{refl, ap, sym, ◌∙◌, subst, arith, inl, inr, true≢false}
use Rattle.object_tables.specs.declared.value.Value.TheVariants as values
use Rattle.qvtr_semantics.specs.declared.datum.Datum.{Datum}
use Rattle.qvtr_semantics.specs.declared.datum.Datum.TheVariants.{Obj, Val}
use Rattle.qvtr_semantics.specs.Templates.{Values, value_at}
use Rattle.qvtr_semantics.specs.Bindings.{meets_target, Source, Target}
use Rattle.qvtr_semantics.specs.Calls.{Asked, SourceMatches, TargetHolds, Match, Holds}
use Rattle.qvtr_semantics.specs.SmallModels.{package_to_schema, program, both, two_schemas, text, object, package_call, other_call}
use Rattle.qvtr_semantics.proofs.RowParts.{matching, named, named_template}
use Rattle.qvtr_semantics.proofs.RowAnswers.{IsThree, three_of, IsPackage, source_is, source_by, target_by, schema_named}
use Rattle.std.proofs.lemmas.Option.{none-some}

object_number : Option Datum → ℕ
object_number None = 0
object_number (Some (Obj m o)) = o.0
object_number (Some (Val m v)) = 0

-- a partner of what a call with the roots p1 and s1 can be bound to
partner_by : (H : Asked) (x y z : Option Datum) → IsPackage x y → y ≡ object 0 0 → z ≡ object 1 0
    → (g : Values) × TargetHolds H program both package_to_schema (x ∷ y ∷ z ∷ []) g
unfolding object_number
partner_by H _ _ z IsPackage.first e f =
    subst (λ v. (g : Values) × TargetHolds H program both package_to_schema (text (codes "a") ∷ object 0 0 ∷ v ∷ []) g) (sym f) (
      text (codes "a") ∷ object 0 0 ∷ object 1 0 ∷ [],
      record {
        target = record { places = refl; extends = λ v d is. is; no_others = λ v d is. inr is; meets = schema_named both (text (codes "a") ∷ object 0 0 ∷ object 1 0 ∷ []) refl };
        wheres = tt;
      },
    )
partner_by H _ _ z IsPackage.second e f = let no_one : 1 ≡ 0 = ap object_number e in absurd (omega (arith, no_one))

bound_by_call : (H : Asked) (b : Values) → IsThree b → SourceMatches (Match program both) program both package_to_schema package_call.roots b
    → (g : Values) × TargetHolds H program both package_to_schema b g
bound_by_call H _ (IsThree.three x y z) m =
    partner_by H x y z (source_is two_schemas x y z m.source.meets) (m.source.extends 1 (Obj 0 (record { 0 = 0 })) refl) (m.source.extends 2 (Obj 1 (record { 0 = 0 })) refl)

pub package_call_holds : Holds program both package_call
package_call_holds = λ b m. bound_by_call _ b (three_of b m.source.places) m

-- ---- the schema of another name

abbrev a_and_second : Values
a_and_second = text (codes "a") ∷ object 0 0 ∷ object 1 1 ∷ []

roots_kept : (v : ℕ) (d : Datum) → value_at other_call.roots v ≡ Some d → value_at a_and_second v ≡ Some d
roots_kept zero d e = absurd (none-some d e)
roots_kept (suc v) d e = e

universal_or_root : (v : ℕ) (d : Datum) → value_at a_and_second v ≡ Some d → Contains package_to_schema.universal v ⊎ (value_at other_call.roots v ≡ Some d)
universal_or_root zero d e = inl (0, omega arith, refl)
universal_or_root (suc v) d e = inr e

a_is_bound : SourceMatches (Match program both) program both package_to_schema other_call.roots a_and_second
a_is_bound = record {
  source = record { places = refl; extends = roots_kept; no_others = universal_or_root; meets = ap (λ q. source_by q both a_and_second) (named_template program both 1 1 0) };
  whens = tt;
}

no_target : meets_target program both package_to_schema a_and_second ≡ true → ⊥
no_target e = true≢false (sym e ∙ ap (λ q. target_by q both a_and_second) (named_template program both 2 1 0))

no_partner : (g : Values) → IsThree g → Target program both package_to_schema a_and_second g → ⊥
no_partner _ (IsThree.three x y z) t =
    no_target (subst (λ v. meets_target program both package_to_schema (text (codes "a") ∷ object 0 0 ∷ v ∷ []) ≡ true) (t.extends 2 (Obj 1 (record { 0 = 1 })) refl)
    (subst (λ v. meets_target program both package_to_schema (text (codes "a") ∷ v ∷ z ∷ []) ≡ true) (t.extends 1 (Obj 0 (record { 0 = 0 })) refl)
    (subst (λ v. meets_target program both package_to_schema (v ∷ y ∷ z ∷ []) ≡ true) (t.extends 0 (Val 0 (values.Str (codes "a"))) refl) t.meets)))

pub other_call_fails : ¬ Holds program both other_call
other_call_fails h = let (g, t) = h a_and_second a_is_bound in no_partner g (three_of g t.target.places) t.target
