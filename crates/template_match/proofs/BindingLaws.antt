-- Sorted, each once, what the search finds is what is looked for; and what is looked for is what meets the source or the target.
use Rattle.std.specs.Prelude.{◌≡◌, ◌⊎◌, ◌↔◌, List, [], ◌∷◌, Contains, AllPairs}
use Rattle.std.specs.Ordering.{ordering_reverse}
use Rattle.std.specs.declared.cmp.Ordering.{Ordering}
use Rattle.std.specs.declared.cmp.Ordering.TheVariants.{Less, Equal, Greater}
use Rattle.std.proofs.Common.{refl, sym, subst, ◌∙◌, arith, inl, inr, zero, suc}
use Rattle.qvtr_semantics.specs.declared.binding.Binding.{Binding}
use Rattle.qvtr_semantics.specs.Templates.{Values}
use Rattle.qvtr_semantics.specs.Satisfaction.{IsLess}
use Rattle.template_match.proofs.ListLaws.{contains_later}
use Rattle.template_match.specs.Order.{values_order, binding_order}
use Rattle.template_match.specs.Each.{IsEachOnce}
use Rattle.template_match.specs.Problems.{Problem}
use Rattle.template_match.specs.Branches.{IsFound}
use Rattle.template_match.specs.Search.{sought, values_of}
use Rattle.template_match.specs.Posed.{IsSought}
use Rattle.mof_metamodel.proofs.Facts.{contains_map}
use Rattle.template_match.proofs.SideLaws.{meets_parts, valued}
use Rattle.template_match.proofs.OrderLaws.{AreBound, values_total, less_is, ties_are, in_pairs}
use Rattle.template_match.proofs.SearchLaws.{one_binding}

-- a binding whose values are these
pub binding_of : (bs : List Binding) (v : Values) → Contains (values_of bs) v → (b : Binding) × Contains bs b × (b.values ≡ v)
binding_of [] v (k, within, is) = absurd (omega (arith, within))
binding_of (b ∷ bs) v (zero, within, is) = (b, (zero, omega arith, refl), is)
binding_of (b ∷ bs) v (suc k, within, is) =
    let more = binding_of bs v (k, omega (arith, within), is) in
    (more.0, contains_later more.0 b bs more.1, more.2)

pub bound_in : (p : Problem) (roots b : Values) → IsSought p roots b → AreBound (sought p) b
bound_in p roots b whole v c =
    let val = valued p.program p.models p.rel (sought p) b v (meets_parts p.side (sought p) p.program p.models p.rel b whole.meets).have c in
    (val.value, val.at)

-- two bindings that are looked for are one, or one of them is less
pub one_or_less : (p : Problem) (roots a b : Values) → IsSought p roots a → IsSought p roots b → (a ≡ b) ⊎ (IsLess (sought p) a b ⊎ IsLess (sought p) b a)
one_or_less p roots a b one other = by (values_order (sought p) a b) (values_order (sought p) b a) ((values_total (sought p)).antisymm a b) refl refl
  where
    by : (o r : Ordering) → o ≡ ordering_reverse r → values_order (sought p) a b ≡ o → values_order (sought p) b a ≡ r → (a ≡ b) ⊎ (IsLess (sought p) a b ⊎ IsLess (sought p) b a)
    by o Less is e f = inr (inr (less_is (sought p) b a (bound_in p roots b other) (bound_in p roots a one) f))
    by o Equal is e f = inl (one_binding p roots a b one other (ties_are (sought p) a b (e ∙ is)))
    by o Greater is e f = inr (inl (less_is (sought p) a b (bound_in p roots a one) (bound_in p roots b other) (e ∙ is)))

module _ (p : Problem) (roots : Values) (xs ys : List Binding) (is : IsFound p roots [] (values_of xs)) (each : IsEachOnce (binding_order (sought p)) xs ys) where
  found_sought : (x : Binding) → Contains xs x → IsSought p roots x.values
  found_sought x c = by ((is x.values).0 (contains_map (λ b. b.values) xs x c))
    where
      by : Contains [] x.values ⊎ IsSought p roots x.values → IsSought p roots x.values
      by (inl (k, within, e)) = absurd (omega (arith, within))
      by (inr whole) = whole

  kept : (b : Values) → IsSought p roots b → Contains (values_of ys) b
  kept b whole =
      let x = binding_of xs b ((is b).1 (inr whole)) in
      let y = each.all x.0 x.1 in
      let same : x.0.values ≡ y.0.values = one_binding p roots x.0.values y.0.values (found_sought x.0 x.1) (found_sought y.0 (each.only y.0 y.1))
      (ties_are (sought p) x.0.values y.0.values y.2) in
      subst (Contains (values_of ys)) (sym same ∙ x.2) (contains_map (λ b. b.values) ys y.0 y.1)

  pub all_exact : (b : Values) → Contains (values_of ys) b ↔ IsSought p roots b
  all_exact b = (
    λ c. let y = binding_of ys b c in subst (IsSought p roots) y.2 (found_sought y.0 (each.only y.0 y.1)),
    kept b,
  )

  pub all_sorted : AllPairs (IsLess (sought p)) (values_of ys)
  all_sorted = in_pairs (sought p) ys each.sorted (λ b c. bound_in p roots b.values (found_sought b (each.only b c)))
