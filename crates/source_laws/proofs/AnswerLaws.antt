-- Two lists in the order of bindings with the same members are one; so the bindings of the source are one list.
use Rattle.std.specs.Prelude.{◌≡◌, ◌⊎◌, ℕ, zero, suc, true, List, [], ◌∷◌, Option, None, Some, Contains, AllPairs, IsTrue, slice_get}
use Rattle.std.specs.Ordering.{is_lt, ordering_reverse}
use Rattle.std.specs.declared.cmp.Ordering.{Ordering}
use Rattle.std.specs.declared.cmp.Ordering.TheVariants.{Less, Equal, Greater}
use Rattle.std.proofs.Common.{refl, sym, ap, subst, ◌∙◌, arith, inl, inr}
use Rattle.std.proofs.lemmas.Bool.{true≢false}
use Rattle.object_tables.specs.Models.{ModelData}
use Rattle.qv_syntax.specs.declared.program.Program.{Program}
use Rattle.qv_syntax.specs.declared.program.Rel.{Rel}
use Rattle.qv_syntax.specs.Directions.{AreMeant}
use Rattle.qvtr_semantics.specs.declared.datum.Datum.{Datum}
use Rattle.qvtr_semantics.specs.Data.{is_before}
use Rattle.qvtr_semantics.specs.Templates.{Values, value_at}
use Rattle.qvtr_semantics.specs.Satisfaction.{comes_before, IsLess}
use Rattle.ocl_eval.specs.Order.{datum_order}
use Rattle.ocl_eval.specs.OrderLaws.{before_by_order, order_total}
use Rattle.template_match.specs.Sources.{source_variables}
use Rattle.template_match.proofs.ListLaws.{contains_later}
use Rattle.mof_metamodel.proofs.Facts.{contains_first}
use Rattle.source_laws.specs.Agreement.{AgreeBut}
use Rattle.source_laws.specs.SourceRelations.{KeepsToSources, AreSourceBindings}
use Rattle.source_laws.proofs.BindingLaws.{source_kept, opposite}

-- ---- the order

before_once : (o p : Ordering) → o ≡ ordering_reverse p → is_lt o ≡ true → is_lt p ≡ true → ⊥
before_once Less Less is h k = absurd (cc)
before_once Less Equal is h k = absurd (cc)
before_once Less Greater is h k = true≢false (sym k)
before_once Equal p is h k = true≢false (sym h)
before_once Greater p is h k = true≢false (sym h)

datum_once : (d e : Datum) → is_before d e ≡ true → is_before e d ≡ true → ⊥
datum_once d e h k = before_once (datum_order d e) (datum_order e d) (order_total.antisymm d e) (before_by_order d e ∙ h) (before_by_order e d ∙ k)

value_once : (x y : Option Datum) → IsTrue (comes_before x y) → IsTrue (comes_before y x) → ⊥
value_once None y h k = true≢false (sym h)
value_once (Some d) None h k = true≢false (sym h)
value_once (Some d) (Some e) h k = datum_once d e h k

-- no binding comes before one that comes before it
less_once : (vars : List ℕ) (a b : Values) → IsLess vars a b → IsLess vars b a → ⊥
less_once [] a b h k = h
less_once (v ∷ vs) a b (inl h) (inl k) = value_once (value_at a v) (value_at b v) h k
less_once (v ∷ vs) a b (inl h) (inr k) = let same : IsTrue (comes_before (value_at a v) (value_at a v)) = subst (λ x. IsTrue (comes_before (value_at a v) x)) k.0 h in value_once (value_at a v) (value_at a v) same same
less_once (v ∷ vs) a b (inr h) (inl k) = let same : IsTrue (comes_before (value_at b v) (value_at b v)) = subst (λ x. IsTrue (comes_before (value_at b v) x)) h.0 k in value_once (value_at b v) (value_at b v) same same
less_once (v ∷ vs) a b (inr h) (inr k) = less_once vs a b h.1 k.1

-- ---- lists

module _ (vars : List ℕ) where
  -- each element comes before those behind it
  Sorted : List Values → Type 0
  Sorted [] = Unit {0}
  Sorted (x ∷ xs) = ((y : Values) → Contains xs y → IsLess vars x y) × Sorted xs

  sorted_of : (xs : List Values) → AllPairs (IsLess vars) xs → Sorted xs
  unfolding Sorted
  sorted_of [] up = tt
  sorted_of (x ∷ xs) up = (
    λ y c. let (k, within, is) = c in subst (λ w. IsLess vars x w) is (up zero (suc k) y (omega arith) (omega (arith, within))),
    sorted_of xs (λ i j d before within. up (suc i) (suc j) d (omega (arith, before)) (omega (arith, within))),
  )

  among : (x y : Values) (ys : List Values) → Contains (y ∷ ys) x → (y ≡ x) ⊎ Contains ys x
  among x y ys (zero, within, is) = inl is
  among x y ys (suc k, within, is) = inr (k, omega (arith, within), is)

  heads_by : (x y : Values) (xs ys : List Values) → Sorted (x ∷ xs) → Sorted (y ∷ ys) → (y ≡ x) ⊎ Contains ys x → (x ≡ y) ⊎ Contains xs y → x ≡ y
  unfolding Sorted
  heads_by x y xs ys p q (inl h) k = sym h
  heads_by x y xs ys p q (inr h) (inl k) = k
  heads_by x y xs ys p q (inr h) (inr k) = absurd (less_once vars x y (p.0 y k) (q.0 x h))

  tail_by : (x z : Values) (xs ys : List Values) → Sorted (x ∷ xs) → Contains xs z → (x ≡ z) ⊎ Contains ys z → Contains ys z
  unfolding Sorted
  tail_by x z xs ys p c (inl h) = let self : IsLess vars x x = subst (λ w. IsLess vars x w) (sym h) (p.0 z c) in absurd (less_once vars x x self self)
  tail_by x z xs ys p c (inr h) = h

  same_by : (xs ys : List Values) → Sorted xs → Sorted ys → ((b : Values) → Contains xs b → Contains ys b) → ((b : Values) → Contains ys b → Contains xs b) → xs ≡ ys
  unfolding Sorted
  same_by [] [] p q f g = refl
  same_by [] (y ∷ ys) p q f g = let c = g y (contains_first y ys) in absurd (omega (arith, c.1))
  same_by (x ∷ xs) [] p q f g = let c = f x (contains_first x xs) in absurd (omega (arith, c.1))
  same_by (x ∷ xs) (y ∷ ys) p q f g =
      let head : x ≡ y = heads_by x y xs ys p q (among x y ys (f x (contains_first x xs))) (among y x xs (g y (contains_first y ys))) in
      let there : (b : Values) → Contains xs b → Contains ys b =
      λ b c. tail_by x b xs ys p c (among b x ys (subst (λ w. Contains (w ∷ ys) b) (sym head) (f b (contains_later b x xs c)))) in
      let back : (b : Values) → Contains ys b → Contains xs b =
      λ b c. tail_by y b ys xs q c (among b y xs (subst (λ w. Contains (w ∷ xs) b) head (g b (contains_later b y ys c)))) in
      ap (λ w. w ∷ xs) head ∙ ap (λ ws. y ∷ ws) (same_by xs ys p.1 q.1 there back)

  pub same_lists : (xs ys : List Values) → AllPairs (IsLess vars) xs → AllPairs (IsLess vars) ys → ((b : Values) → Contains xs b → Contains ys b)
      → ((b : Values) → Contains ys b → Contains xs b) → xs ≡ ys
  same_lists xs ys p q f g = same_by xs ys (sorted_of xs p) (sorted_of ys q) f g

-- what the source of a relation gives over models that agree but for the target is one list
pub same_bindings : (program : Program) (ms ns : List ModelData) (agree : AgreeBut program.target ms ns) (number : ℕ) (rel : Rel) → AreMeant program
    → slice_get program.rels number ≡ Some rel → KeepsToSources program rel → (roots : Values) (xs ys : List Values)
    → AreSourceBindings program ms rel roots xs → AreSourceBindings program ns rel roots ys → xs ≡ ys
same_bindings program ms ns agree number rel meant found keeps roots xs ys one other =
    same_lists (source_variables program rel) xs ys one.sorted other.sorted
    (λ b c. (other.exact b).1 (source_kept program ms ns agree number rel meant found keeps roots b ((one.exact b).0 c)))
    (λ b c. (one.exact b).1 (source_kept program ns ms (opposite program.target ms ns agree) number rel meant found keeps roots b ((other.exact b).0 c)))
