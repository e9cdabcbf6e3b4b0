-- Types of values, and data as values of expressions.
use Rattle.std.specs.Prelude.{◌≡◌, ◌⊎◌, ℕ, Bool, true, false, List, Option, None, Some}
use Rattle.std.specs.Option.{option_map}
use Rattle.std.proofs.Common.{refl, ap, sym, ◌∙◌, inl, inr, true≢false}
use Rattle.std.proofs.lemmas.Option.{none-some, same_Some}
use Rattle.mof_metamodel.specs.declared.desc.MetaDesc.{MetaDesc}
use Rattle.mof_metamodel.specs.declared.desc.ClassId.{ClassId}
use Rattle.mof_metamodel.specs.declared.desc.PropType.{PropType}
use Rattle.mof_metamodel.specs.declared.desc.PropType.TheVariants as props
use Rattle.object_tables.specs.declared.value.Value.{Value}
use Rattle.object_tables.specs.declared.value.Value.TheVariants as data_values
use Rattle.object_tables.specs.Models.{is_class_type, is_value_of}
use Rattle.qv_syntax.specs.declared.ty.Ty.{Ty}
use Rattle.qv_syntax.specs.declared.ty.Ty.TheVariants as types
use Rattle.qv_syntax.specs.declared.typed.Typed.{Typed}
use Rattle.qv_syntax.specs.declared.program.Tmpl.{Tmpl}
use Rattle.qv_syntax.specs.declared.program.Item.{Item}
use Rattle.qv_syntax.specs.declared.program.ItemValue.{ItemValue, out-ItemValue, out-roll-ItemValue}
use Rattle.qv_syntax.specs.declared.program.ItemValue.TheVariants as items
use Rattle.qv_syntax.specs.declared.program.ItemValue.TheOpen as layers
use Rattle.qv_syntax.specs.Types.{AreRelated}
use Rattle.qv_syntax.specs.TypeRules.{value_type}
use Rattle.qv_syntax.specs.TypedTrees.{Context, Typing, Variables, IsTyped}
use Rattle.qvtr_semantics.specs.declared.datum.Datum.{Datum}
use Rattle.qvtr_semantics.specs.declared.out.Out.{Out}
use Rattle.qvtr_semantics.specs.declared.out.Out.TheVariants as outs
use Rattle.qvtr_semantics.specs.Outs.{datum_of, value_of_datum}
use Rattle.qvtr_semantics.specs.Objects.{Setting}
use Rattle.qvtr_semantics.specs.Expressions.{value}
use Rattle.evaluation_laws.specs.TypedValues.{IsDatumIn}
use Rattle.evaluation_laws.proofs.SlotLaws.{IsNoClass, one_type}
use Rattle.enforcement_rules.specs.TargetTests.{has_class}
use Rattle.enforcement_rules.proofs.ClassLaws.{there_class, no_class}
use Rattle.repair_semantics.specs.declared.term.TermValue.{TermValue}
use Rattle.repair_semantics.specs.declared.term.TermValue.TheVariants as values
use Rattle.repair_semantics.specs.Terms.{datum_part, datum_in}
use Rattle.repair_laws.proofs.EntryTerms.{out_datum}

-- ---- types

abbrev pub class_number : Ty → ℕ
class_number (types.Class n class) = n
class_number ty = 0

pub class_value : (m : ℕ) (of : PropType) (n : ℕ) (c : ClassId) → value_type m of ≡ types.Class n c → is_class_type (Some of) ≡ true
class_value m (props.Class d) n c h = refl
class_value m props.Str n c h = absurd (cc)
class_value m props.Int n c h = absurd (cc)
class_value m props.Bool n c h = absurd (cc)
class_value m (props.Enum e) n c h = absurd (cc)

-- a value may stand at no reference
pub no_reference : (meta : MetaDesc) (of : Option PropType) (v : Value) → is_value_of meta of v ≡ true → is_class_type of ≡ false
no_reference meta (Some (props.Class c)) v h = absurd (true≢false (sym h))
no_reference meta (Some props.Str) v h = refl
no_reference meta (Some props.Int) v h = refl
no_reference meta (Some props.Bool) v h = refl
no_reference meta (Some (props.Enum e)) v h = refl
no_reference meta None v h = refl

-- an object is of no data type
pub object_class : (metas : List MetaDesc) (s : Setting) (In : ℕ → Type 0) (ty : Ty) (d : Datum) → value_of_datum d ≡ None → IsNoClass ty → IsDatumIn metas s In ty d → ⊥
object_class metas s In types.Str d none plain (text, is, storable) = none-some (data_values.Str text) (sym none ∙ ap value_of_datum is)
object_class metas s In types.Int d none plain (i, is) = none-some (data_values.Int i) (sym none ∙ ap value_of_datum is)
object_class metas s In types.Bool d none plain (b, is) = none-some (data_values.Bool b) (sym none ∙ ap value_of_datum is)
object_class metas s In (types.Enum m e) d none plain (literal, is, there) = none-some (data_values.Lit e literal) (sym none ∙ ap value_of_datum is)
object_class metas s In (types.Class m class) d none plain is = plain m class refl
object_class metas s In ty d none plain is = is

pub typed_type : (context : Context) (vars : Variables) (e : Typed) (t : Typing) → IsTyped context vars e t → t.ty ≡ e.ty
typed_type context _ _ _ (IsTyped.number vars value) = refl
typed_type context _ _ _ (IsTyped.string vars text) = refl
typed_type context _ _ _ (IsTyped.boolean vars value) = refl
typed_type context _ _ _ (IsTyped.null vars) = refl
typed_type context _ _ _ (IsTyped.invalid vars) = refl
typed_type context _ _ _ (IsTyped.enum_literal vars m enumeration literal is) = refl
typed_type context _ _ _ (IsTyped.variable vars number v at) = refl
typed_type context _ _ _ (IsTyped.let_in vars ty value body v b written typed conforms inner) = refl
typed_type context _ _ _ (IsTyped.chain vars first rest a t typed chained) = refl
typed_type context _ _ _ (IsTyped.negation vars operand a typed is) = refl
typed_type context _ _ _ (IsTyped.negated vars operand a typed is) = refl
typed_type context _ _ _ (IsTyped.called vars part steps a b typed are) = refl
typed_type context _ _ _ (IsTyped.branches vars condition one other c a b t model x y z w q p) = refl
typed_type context _ _ _ (IsTyped.literal vars kind elements parts t model are of one) = refl
typed_type context _ _ _ (IsTyped.extent vars m model class only) = refl
typed_type context _ _ _ (IsTyped.query vars number args parts q at are conform) = refl

pub turned : (metas : List MetaDesc) (a c : Ty) → AreRelated metas a c → AreRelated metas c a
turned metas a c (inl one) = inr one
turned metas a c (inr other) = inl other

pub class_or_none : (ty : Ty) → ((m : ℕ) × (class : ClassId) × (ty ≡ types.Class m class)) ⊎ IsNoClass ty
class_or_none ty = by (has_class ty) refl
  where
    by : (b : Bool) → has_class ty ≡ b → ((m : ℕ) × (class : ClassId) × (ty ≡ types.Class m class)) ⊎ IsNoClass ty
    by true is = inl (there_class ty is)
    by false is = inr (no_class ty is)

-- what is related to a class is one
pub related_class : (metas : List MetaDesc) (n : ℕ) (c : ClassId) (of : Ty) → AreRelated metas (types.Class n c) of → (m : ℕ) × (class : ClassId) × (of ≡ types.Class m class)
related_class metas n c of related = by (class_or_none of)
  where
    by : ((m : ℕ) × (class : ClassId) × (of ≡ types.Class m class)) ⊎ IsNoClass of → (m : ℕ) × (class : ClassId) × (of ≡ types.Class m class)
    by (inl is) = is
    by (inr none) = absurd (none n c (one_type metas of (types.Class n c) none (turned metas (types.Class n c) of related)))

-- an empty slot is no template
abbrev pub is_nested : layers.ItemValue-F ItemValue Item Tmpl → Bool
is_nested (layers.Nested t) = true
is_nested y = false

pub empty_nested : (t : Tmpl) → items.Null ≡ items.Nested t → ⊥
empty_nested t h =
    true≢false (sym (ap is_nested (ap out-ItemValue (sym (items.rolls-Nested t)) ∙ out-roll-ItemValue (layers.Nested t)))
    ∙ sym (ap (λ v. is_nested (out-ItemValue v)) h) ∙ ap is_nested (ap out-ItemValue (sym items.rolls-Null) ∙ out-roll-ItemValue layers.Null))

-- ---- the scope of an entry has its data

pub one_out : (x : Out) (d : Datum) → datum_of x ≡ Some d → x ≡ outs.One d
one_out (outs.One e) d h = ap (λ z. outs.One z) (same_Some e d h)
one_out (outs.Many kind ds) d h = absurd (none-some d h)
one_out outs.Null d h = absurd (none-some d h)
one_out outs.Invalid d h = absurd (none-some d h)

pub datum_itself : (d : Datum) → datum_in (values.Val d) ≡ Some d
datum_itself d = ap datum_part (out_datum d)

pub given_is : (o : Option Datum) (x : TermValue) (d : Datum) → option_map (λ z. values.Val z) o ≡ Some x → datum_in x ≡ Some d → o ≡ Some d
given_is None x d h is = absurd (none-some x h)
given_is (Some e) x d h is = ap (λ z. Some z) (same_Some e d (sym (datum_itself e) ∙ ap datum_in (same_Some (values.Val e) x h) ∙ is))
