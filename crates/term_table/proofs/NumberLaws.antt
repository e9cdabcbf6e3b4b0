-- Numbered values and terms that tie are one.
use Rattle.std.specs.Prelude.{◌≡◌, ◌↔◌, true}
use Rattle.std.specs.Cmp.{Equal-is}
use Rattle.std.specs.FinMap.{IsAntisymmetric, nat_cmp-IsAntisymmetric, slice_cmp-IsAntisymmetric}
use Rattle.std.specs.Ordering.{nat_cmp, ordering_then, eq_by_cmp, is_eq}
use Rattle.std.specs.Cmp.Lexicographic.{slice_cmp}
use Rattle.std.specs.declared.cmp.Ordering.{Ordering}
use Rattle.std.specs.declared.cmp.Ordering.TheVariants.{Less, Equal, Greater}
use Rattle.std.proofs.Common.{refl, ap, ◌∙◌, subst}
use Rattle.mof_metamodel.specs.declared.desc.ClassId.{ClassId}
use Rattle.ocl_eval.specs.OrderLaws.{ties_where_same, same_decides}
use Rattle.term_table.specs.declared.numbered.NumberedValue.{NumberedValue}
use Rattle.term_table.specs.declared.numbered.NumberedValue.TheVariants.{Val, Term}
use Rattle.term_table.specs.declared.numbered.NumberedTerm.{NumberedTerm}
use Rattle.term_table.specs.NumberOrder.{numbered_value_order, numbered_term_order, same_numbered_value_equiv}

then_equal : (o q : Ordering) → ordering_then o q ≡ Equal → (o ≡ Equal) × (q ≡ Equal)
then_equal Equal q h = (refl, h)
then_equal Less q h = absurd (cc)
then_equal Greater q h = absurd (cc)

pub values_exact : IsAntisymmetric numbered_value_order
values_exact (Val d) (Val e) h = ap Val ((same_decides d e).0 (ties_where_same d e ∙ ap is_eq h))
values_exact (Val d) (Term n) h = absurd (cc)
values_exact (Term m) (Val e) h = absurd (cc)
values_exact (Term m) (Term n) h = ap Term (nat_cmp-IsAntisymmetric m n h)

pub terms_exact : IsAntisymmetric numbered_term_order
terms_exact t u h =
    let both = then_equal (nat_cmp t.class.0 u.class.0) (slice_cmp numbered_value_order t.keys u.keys) h in
    let make : ClassId → NumberedTerm = λ c. record { class = c; keys = t.keys } in
    ap (λ n. make (record { 0 = n })) (nat_cmp-IsAntisymmetric t.class.0 u.class.0 both.0)
    ∙ ap (λ ks. record { class = u.class; keys = ks }) (slice_cmp-IsAntisymmetric values_exact t.keys u.keys both.1)

-- two values tie exactly where they are one
pub ties_are_one : (v w : NumberedValue) → eq_by_cmp numbered_value_order v w ≡ true ↔ (v ≡ w)
ties_are_one v w = (
  λ h. values_exact v w ((Equal-is (numbered_value_order v w)).0 h),
  λ e. subst (λ x. eq_by_cmp numbered_value_order v x ≡ true) e (same_numbered_value_equiv.refl v),
)
