-- Calls that tie are one.
use Rattle.std.specs.Prelude.{◌≡◌, ◌↔◌, true}
use Rattle.std.specs.Cmp.{Equal-is}
use Rattle.std.specs.FinMap.{IsAntisymmetric, nat_cmp-IsAntisymmetric, slice_cmp-IsAntisymmetric}
use Rattle.std.specs.Ordering.{nat_cmp, ordering_then, eq_by_cmp}
use Rattle.std.specs.Cmp.Lexicographic.{slice_cmp}
use Rattle.std.specs.declared.cmp.Ordering.{Ordering}
use Rattle.std.specs.declared.cmp.Ordering.TheVariants.{Less, Equal, Greater}
use Rattle.std.proofs.Common.{refl, ap, ◌∙◌, subst}
use Rattle.std.proofs.lemmas.Cmp.{eq_by_cmp_equiv}
use Rattle.term_table.specs.NumberOrder.{numbered_value_order}
use Rattle.term_table.proofs.NumberLaws.{values_exact}
use Rattle.entry_making.specs.declared.numbered_call.NumberedCall.{NumberedCall}
use Rattle.entry_walk.specs.CallOrder.{call_order, key_order, calls_total}

then_equal : (o q : Ordering) → ordering_then o q ≡ Equal → (o ≡ Equal) × (q ≡ Equal)
then_equal Equal q h = (refl, h)
then_equal Less q h = absurd (cc)
then_equal Greater q h = absurd (cc)

pub calls_exact : IsAntisymmetric call_order
calls_exact c d h =
    let both = then_equal (nat_cmp c.rel d.rel) (slice_cmp numbered_value_order c.roots d.roots) h in
    ap (λ n. record c { rel = n }) (nat_cmp-IsAntisymmetric c.rel d.rel both.0)
    ∙ ap (λ rs. record d { roots = rs }) (slice_cmp-IsAntisymmetric values_exact c.roots d.roots both.1)

-- two calls tie exactly where they are one
pub calls_tie : (c d : NumberedCall) → eq_by_cmp call_order c d ≡ true ↔ (c ≡ d)
calls_tie c d = (
  λ h. calls_exact c d ((Equal-is (call_order c d)).0 h),
  λ e. subst (λ x. eq_by_cmp call_order c x ≡ true) e ((eq_by_cmp_equiv calls_total).refl c),
)

pub keys_exact : IsAntisymmetric key_order
keys_exact k l h = ap (λ (c : NumberedCall). record { call = c }) (calls_exact k.call l.call h)
