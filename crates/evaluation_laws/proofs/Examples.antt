-- Small values and their types.
use Rattle.std.proofs.Common.{◌≡◌, ◌<◌, ℕ, Bool, true, false, [], ◌∷◌, Option, Some, length, refl, sym, ap, ◌∙◌, subst, arith}
use Rattle.std.specs.Prelude.{codes}
use Rattle.std.proofs.lemmas.Bool.{true≢false, false≢true}
use Rattle.std.proofs.lemmas.Option.{none-some, same_Some}
use Rattle.std.proofs.lemmas.List.Elements.{All-nil, All-cons}
use Rattle.mof_metamodel.specs.declared.desc.MetaDesc.{MetaDesc}
use Rattle.mof_metamodel.specs.Metamodels.{enum_at}
use Rattle.mof_metamodel.specs.Characters.{is_storable_text}
use Rattle.object_tables.specs.declared.value.Value.{Value}
use Rattle.object_tables.specs.declared.value.Value.TheVariants as values
use Rattle.qv_syntax.specs.declared.type_tree.Kind.{Kind}
use Rattle.qv_syntax.specs.declared.type_tree.Kind.TheVariants as kinds
use Rattle.qv_syntax.specs.declared.ty.Ty.TheVariants as types
use Rattle.qvtr_semantics.specs.declared.datum.Datum.{Datum}
use Rattle.qvtr_semantics.specs.declared.out.Out.TheVariants as outs
use Rattle.qvtr_semantics.specs.Outs.{integer_of, string_of, value_of_datum}
use Rattle.evaluation_laws.specs.TypedValues.{IsDatumOf, IsValueOf}
use Rattle.evaluation_laws.specs.SmallValues.{colors, no_models, color, color_of, text_of, number_of}
use Rattle.evaluation_laws.proofs.ValueLaws.{same_kind_of}

pub text_is : IsDatumOf colors no_models types.Str (text_of (codes "a"))
text_is = (codes "a", refl, refl)

pub unstorable_is_none : IsDatumOf colors no_models types.Str (text_of (0 ∷ [])) → ⊥
unstorable_is_none (text, same, storable) =
    let one : 0 ∷ [] ≡ text = same_Some (0 ∷ []) text (ap (λ d. string_of (outs.One d)) same) in
    true≢false (sym storable ∙ ap is_storable_text (sym one))

pub text_is_no_number : IsDatumOf colors no_models types.Int (text_of (codes "1")) → ⊥
text_is_no_number (i, same) = none-some i (ap (λ d. integer_of (outs.One d)) same)

pub literal_is : IsDatumOf colors no_models color (color_of 1)
literal_is = (1, refl, record { has = record { meta = record { name = codes "Colors"; classes = []; enums = record { name = codes "Color"; literals = codes "red" ∷ codes "green" ∷ [] } ∷ [] }; found = refl; within = omega arith }; within = omega arith })

abbrev literal_in : Datum → ℕ
literal_in d = place (value_of_datum d)
  where
    place : Option Value → ℕ
    place (Some (values.Lit e n)) = n
    place o = 0

pub third_color_is_none : IsDatumOf colors no_models color (color_of 2) → ⊥
third_color_is_none (literal, same, there) =
    let two : 2 ≡ literal = ap literal_in same in
    let one : record { name = codes "Colors"; classes = []; enums = record { name = codes "Color"; literals = codes "red" ∷ codes "green" ∷ [] } ∷ [] } ≡ there.has.meta = same_Some _ there.has.meta there.has.found in
    let below : literal < 2 = subst (λ (meta : MetaDesc). literal < length (enum_at meta 0).literals) (sym one) there.within in
    absurd (omega arith)

pub set_is : IsValueOf colors no_models (types.Coll kinds.Set types.Int) (outs.Many kinds.Set (number_of 1 ∷ number_of 2 ∷ []))
set_is = (
  types.Int,
  refl,
  All-cons (IsDatumOf colors no_models types.Int) (number_of 1) (number_of 2 ∷ []) (_, refl)
      (All-cons (IsDatumOf colors no_models types.Int) (number_of 2) [] (_, refl) (All-nil (IsDatumOf colors no_models types.Int))),
)

abbrev is_set : Kind → Bool
is_set kinds.Set = true
is_set kind = false

pub set_is_no_bag : IsValueOf colors no_models (types.Coll kinds.Bag types.Int) (outs.Many kinds.Set []) → ⊥
set_is_no_bag (inner, same, all) = false≢true (ap is_set (same_kind_of kinds.Bag kinds.Set types.Int inner same))

pub empty_set_is : IsValueOf colors no_models (types.Coll kinds.Set types.Null) (outs.Many kinds.Set [])
empty_set_is = (types.Null, refl, All-nil (IsDatumOf colors no_models types.Null))
