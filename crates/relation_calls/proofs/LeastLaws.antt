-- The least of bindings by the values of the universal variables: the lesser of two, and of those that are found one part after another.
use Rattle.std.specs.Prelude.{◌≡◌, ◌⊎◌, ℕ, true, List, [], ◌∷◌, Option, None, Some, IsTrue, if◌then◌else◌}
use Rattle.std.specs.Cmp.{IsTotalOrder}
use Rattle.std.specs.Ordering.{ordering_then, ordering_reverse, is_lt}
use Rattle.std.specs.declared.cmp.Ordering.{Ordering}
use Rattle.std.specs.declared.cmp.Ordering.TheVariants.{Less, Equal, Greater}
use Rattle.std.proofs.Common.{refl, sym, ap, ◌∙◌, inl, inr}
use Rattle.std.proofs.lemmas.Bool.{true≢false}
use Rattle.qvtr_semantics.specs.declared.datum.Datum.{Datum}
use Rattle.qvtr_semantics.specs.declared.binding.Binding.{Binding}
use Rattle.qvtr_semantics.specs.Templates.{Values, value_at}
use Rattle.qvtr_semantics.specs.Satisfaction.{comes_before, IsLess}
use Rattle.ocl_eval.specs.Order.{datum_order}
use Rattle.ocl_eval.specs.OrderLaws.{before_by_order, order_total}
use Rattle.template_match.specs.Order.{optional_order, values_order}
use Rattle.template_match.proofs.OrderLaws.{AreBound, values_total, less_is}
use Rattle.relation_calls.specs.Seeds.{lesser, IsLeastIn, IsLeastFound}

-- ---- a binding that is less stands before

is_less : (o : Ordering) → is_lt o ≡ true → o ≡ Less
is_less Less h = refl
is_less Equal h = absurd (true≢false (sym h))
is_less Greater h = absurd (true≢false (sym h))

option_less : (x y : Option Datum) → IsTrue (comes_before x y) → optional_order x y ≡ Less
option_less None y h = absurd (true≢false (sym h))
option_less (Some d) None h = absurd (true≢false (sym h))
option_less (Some d) (Some e) h = is_less (datum_order d e) (before_by_order d e ∙ h)

ties_itself : (o : Ordering) → o ≡ ordering_reverse o → o ≡ Equal
ties_itself Less h = absurd (cc)
ties_itself Equal h = refl
ties_itself Greater h = absurd (cc)

option_itself : (x : Option Datum) → optional_order x x ≡ Equal
option_itself None = refl
option_itself (Some d) = ties_itself (datum_order d d) (order_total.antisymm d d)

less_order : (vars : List ℕ) (a b : Values) → IsLess vars a b → values_order vars a b ≡ Less
less_order [] a b h = absurd h
less_order (v ∷ vs) a b (inl h) = ap (λ o. ordering_then o (values_order vs a b)) (option_less (value_at a v) (value_at b v) h)
less_order (v ∷ vs) a b (inr h) =
    ap (λ o. ordering_then o (values_order vs a b)) (ap (λ x. optional_order x (value_at b v)) h.0 ∙ option_itself (value_at b v)) ∙ less_order vs a b h.1

-- ---- the lesser of two

module _ (vars : List ℕ) (P Q : Values → Type 0) (bound_first : (b : Values) → P b → AreBound vars b) (bound_second : (b : Values) → Q b → AreBound vars b) where
  abbrev Either : Values → Type 0
  Either b = P b ⊎ Q b

  total : IsTotalOrder (values_order vars)
  total = values_total vars

  module _ (old new : Binding) (one : IsLeastIn vars P old.values) (other : IsLeastIn vars Q new.values) where
    new_least : values_order vars new.values old.values ≡ Less → IsLeastIn vars Either new.values
    new_least before =
        record {
          among = inr other.among;
          least = λ c h less. elim h [
            | inl x ↦ one.least c x (less_is vars c old.values (bound_first c x) (bound_first old.values one.among) (total.trans c new.values old.values (less_order vars c new.values less) before))
            | inr y ↦ other.least c y less
          ];
        }

    old_least : ((c : Values) → values_order vars c old.values ≡ Less → values_order vars c new.values ≡ Less) → IsLeastIn vars Either old.values
    old_least through =
        record {
          among = inl one.among;
          least = λ c h less. elim h [
            | inl x ↦ one.least c x less
            | inr y ↦ other.least c y (less_is vars c new.values (bound_second c y) (bound_second new.values other.among) (through c (less_order vars c old.values less)))
          ];
        }

    by_order : (o : Ordering) → values_order vars new.values old.values ≡ o → IsLeastFound vars Either (if is_lt o then Some new else Some old)
    by_order Less is = new_least is
    by_order Equal is = old_least (λ c before.
        total.antisymm c new.values ∙ ap ordering_reverse (total.congr new.values old.values c is) ∙ sym (total.antisymm c old.values) ∙ before)
    by_order Greater is = old_least (λ c before. total.trans c old.values new.values before (total.antisymm old.values new.values ∙ ap ordering_reverse is))

  -- the lesser of the least of each is the least of both
  pub lesser_least : (o p : Option Binding) → IsLeastFound vars P o → IsLeastFound vars Q p → IsLeastFound vars Either (lesser vars o p)
  lesser_least None None none never = λ b h. elim h [
    | inl x ↦ none b x
    | inr y ↦ never b y
  ]
  lesser_least (Some old) None one never = record {
    among = inl one.among;
    least = λ c h less. elim h [
      | inl x ↦ one.least c x less
      | inr y ↦ never c y
    ];
  }
  lesser_least None (Some new) none other = record {
    among = inr other.among;
    least = λ c h less. elim h [
      | inl x ↦ none c x
      | inr y ↦ other.least c y less
    ];
  }
  lesser_least (Some old) (Some new) one other = by_order old new one other (values_order vars new.values old.values) refl

pub least_same : (vars : List ℕ) (P Q : Values → Type 0) (o : Option Binding) → ((b : Values) → P b → Q b) → ((b : Values) → Q b → P b) → IsLeastFound vars P o → IsLeastFound vars Q o
least_same vars P Q None to from none = λ b h. none b (from b h)
least_same vars P Q (Some b) to from least = record { among = to b.values least.among; least = λ c h less. least.least c (from c h) less }
