-- Which binding fails first: of bindings in their order, the first that is alone is the least that fails.
use Rattle.std.specs.Prelude.{◌≡◌, ◌⊎◌, ℕ, zero, suc, true, List, [], ◌∷◌, Option, None, Some, Contains, AllPairs, IsTrue}
use Rattle.std.specs.Option.{option_map}
use Rattle.std.specs.Ordering.{ordering_reverse, is_lt}
use Rattle.std.specs.declared.cmp.Ordering.{Ordering}
use Rattle.std.specs.declared.cmp.Ordering.TheVariants.{Less, Equal, Greater}
use Rattle.std.proofs.Common.{sym, ap, subst, ◌∙◌, arith, inl, inr}
use Rattle.std.proofs.lemmas.Bool.{true≢false}
use Rattle.std.proofs.lemmas.Bool.Decides.{leb_tells, eqb_tells}
use Rattle.std.proofs.lemmas.Option.{same_Some}
use Rattle.object_tables.specs.Models.{ModelData}
use Rattle.qv_syntax.specs.declared.program.Program.{Program}
use Rattle.qv_syntax.specs.declared.program.Rel.{Rel}
use Rattle.qvtr_semantics.specs.declared.datum.Datum.{Datum}
use Rattle.qvtr_semantics.specs.declared.binding.Binding.{Binding}
use Rattle.qvtr_semantics.specs.Data.{is_before}
use Rattle.qvtr_semantics.specs.Templates.{Values, value_at}
use Rattle.qvtr_semantics.specs.Bindings.{Source}
use Rattle.qvtr_semantics.specs.Calls.{SourceMatches, Match, free}
use Rattle.qvtr_semantics.specs.Satisfaction.{IsTop, Failing, LeastFailing, comes_before, IsLess}
use Rattle.ocl_eval.specs.Order.{datum_order}
use Rattle.ocl_eval.specs.OrderLaws.{before_by_order, order_total}
use Rattle.template_match.proofs.ListLaws.{contains_later}
use Rattle.mof_metamodel.proofs.Facts.{contains_first}
use Rattle.template_match.proofs.PublicLaws.{one_source_or_less}
use Rattle.relation_calls.specs.declared.outcome.Outcome.{Outcome}
use Rattle.relation_calls.specs.declared.outcome.Outcome.TheVariants as outcomes
use Rattle.relation_calls.specs.Outcomes.{IsOutcome, AreOutcomes, first_alone}
use Rattle.relation_calls.specs.Founds.{AreEnough, IsLeastOf}
use Rattle.relation_calls.specs.Seeds.{IsLeastFound}

-- ---- the order is strict

before_twice : (d e : Datum) → is_before d e ≡ true → is_before e d ≡ true → ⊥
before_twice d e p q = by (datum_order d e) (datum_order e d) (order_total.antisymm d e) (before_by_order d e ∙ p) (before_by_order e d ∙ q)
  where
    by : (o r : Ordering) → o ≡ ordering_reverse r → is_lt o ≡ true → is_lt r ≡ true → ⊥
    by o Less is h k = true≢false (sym h ∙ ap is_lt is)
    by o Equal is h k = true≢false (sym k)
    by o Greater is h k = true≢false (sym k)

option_twice : (x y : Option Datum) → IsTrue (comes_before x y) → IsTrue (comes_before y x) → ⊥
option_twice (Some d) (Some e) p q = before_twice d e p q
option_twice (Some d) None p q = true≢false (sym p)
option_twice None (Some e) p q = true≢false (sym p)
option_twice None None p q = true≢false (sym p)

never_itself : (x y : Option Datum) → x ≡ y → IsTrue (comes_before x y) → ⊥
never_itself x y same h = let k = subst (λ z. IsTrue (comes_before x z)) (sym same) h in option_twice x x k k

-- of two bindings at most one is less than the other
pub less_twice : (vars : List ℕ) (a b : Values) → IsLess vars a b → IsLess vars b a → ⊥
less_twice [] a b p q = p
less_twice (v ∷ vs) a b (inl p) (inl q) = option_twice (value_at a v) (value_at b v) p q
less_twice (v ∷ vs) a b (inl p) (inr q) = never_itself (value_at a v) (value_at b v) (sym q.0) p
less_twice (v ∷ vs) a b (inr p) (inl q) = never_itself (value_at b v) (value_at a v) (sym p.0) q
less_twice (v ∷ vs) a b (inr p) (inr q) = less_twice vs a b p.1 q.1

-- ---- the first that is alone

pairs_later : (R : Values → Values → Type 0) (x : Values) (xs : List Values) → AllPairs R (x ∷ xs) → AllPairs R xs
pairs_later R x xs all i j d before within = all (suc i) (suc j) d (omega (arith, before)) (omega (arith, within))

first_pair : (R : Values → Values → Type 0) (x : Values) (xs : List Values) (c : Values) → AllPairs R (x ∷ xs) → Contains xs c → R x c
first_pair R x xs c all (k, within, is) = subst (R x) is (all 0 (suc k) c (omega arith) (omega (arith, within)))

module _ (program : Program) (models : List ModelData) (n : ℕ) (rel : Rel) where
  abbrev IsAlone : Values → Type 0
  IsAlone b = IsOutcome program models n rel b outcomes.Alone

  -- where there is none, none is alone
  none_first : (bs : List Values) (os : List Outcome) → AreOutcomes program models n rel bs os → first_alone bs os ≡ None → (b : Values) → Contains bs b → IsAlone b → ⊥
  none_first [] os all e b (k, within, is) alone = absurd (omega (arith, within))
  none_first (x ∷ bs) [] all e b c alone = absurd all
  none_first (x ∷ bs) (outcomes.Alone ∷ os) all e b c alone = absurd (cc)
  none_first (x ∷ bs) (outcomes.Unmatched ∷ os) all e b (zero, within, is) alone = all.0 (subst IsAlone (sym is) alone).0
  none_first (x ∷ bs) (outcomes.Unmatched ∷ os) all e b (suc k, within, is) alone = none_first bs os all.1 e b (k, omega (arith, within), is) alone
  none_first (x ∷ bs) (outcomes.Partnered ∷ os) all e b (zero, within, is) alone = let own = subst IsAlone (sym is) alone in own.1 all.0.1 all.0.2
  none_first (x ∷ bs) (outcomes.Partnered ∷ os) all e b (suc k, within, is) alone = none_first bs os all.1 e b (k, omega (arith, within), is) alone

  -- all others that are alone come behind it
  record IsFirst (R : Values → Values → Type 0) (bs : List Values) (b : Values) : Type 0 where
    among : Contains bs b
    alone : IsAlone b
    others : (c : Values) → Contains bs c → IsAlone c → (c ≡ b) ⊎ R b c

  at_first : (R : Values → Values → Type 0) (x : Values) (bs : List Values) (c : Values) → AllPairs R (x ∷ bs) → Contains (x ∷ bs) c → (c ≡ x) ⊎ R x c
  at_first R x bs c pairs (zero, within, is) = inl (sym is)
  at_first R x bs c pairs (suc k, within, is) = inr (first_pair R x bs c pairs (k, omega (arith, within), is))

  further : (R : Values → Values → Type 0) (x : Values) (bs : List Values) (b : Values) → (IsAlone x → ⊥) → IsFirst R bs b → IsFirst R (x ∷ bs) b
  further R x bs b never first = record { among = contains_later b x bs first.among; alone = first.alone; others = others }
    where
      others : (c : Values) → Contains (x ∷ bs) c → IsAlone c → (c ≡ b) ⊎ R b c
      others c (zero, within, is) alone = absurd (never (subst IsAlone (sym is) alone))
      others c (suc k, within, is) alone = first.others c (k, omega (arith, within), is) alone

  is_first : (R : Values → Values → Type 0) (bs : List Values) (os : List Outcome) (b : Values) → AllPairs R bs → AreOutcomes program models n rel bs os → first_alone bs os ≡ Some b → IsFirst R bs b
  is_first R [] [] b pairs all e = absurd (cc)
  is_first R [] (o ∷ os) b pairs all e = absurd all
  is_first R (x ∷ bs) [] b pairs all e = absurd all
  is_first R (x ∷ bs) (outcomes.Unmatched ∷ os) b pairs all e = further R x bs b (λ alone. all.0 alone.0) (is_first R bs os b (pairs_later R x bs pairs) all.1 e)
  is_first R (x ∷ bs) (outcomes.Alone ∷ os) b pairs all e =
      subst (IsFirst R (x ∷ bs)) (same_Some x b e) (record { among = contains_first x bs; alone = all.0; others = λ c has alone. at_first R x bs c pairs has })
  is_first R (x ∷ bs) (outcomes.Partnered ∷ os) b pairs all e =
      further R x bs b (λ alone. alone.1 all.0.1 all.0.2) (is_first R bs os b (pairs_later R x bs pairs) all.1 e)

-- ---- of those with the same roots

module _ (program : Program) (models : List ModelData) (n : ℕ) (rel : Rel) (roots : Values) (bs : List Values) (os : List Outcome) (enough : AreEnough program models rel roots bs)
    (sorted : AllPairs (IsLess rel.universal) bs) (outcomes_are : AreOutcomes program models n rel bs os)
  where
    -- a binding that meets the source and is alone
    abbrev AloneHere : Values → Type 0
    AloneHere b = Source program models rel roots b × IsOutcome program models n rel b outcomes.Alone

    -- the first that is alone is the least of them
    pub first_least : (o : Option Binding) → option_map (λ (b : Binding). b.values) o ≡ first_alone bs os → IsLeastFound rel.universal AloneHere o
    first_least None e = λ b h. none_first program models n rel bs os outcomes_are (sym e) b (enough.matched b h.0 h.1.0) h.1
    first_least (Some b) e =
        let first = is_first program models n rel (IsLess rel.universal) bs os b.values sorted outcomes_are (sym e) in
        record {
          among = (enough.only b.values first.among, first.alone);
          least = λ c h less. elim (first.others c (enough.matched c h.0 h.1.0) h.1) [
            | inl same ↦ let twice : IsLess rel.universal b.values b.values = subst (λ x. IsLess rel.universal x b.values) same less in less_twice rel.universal b.values b.values twice twice
            | inr later ↦ less_twice rel.universal c b.values less later
          ];
        }

-- ---- at most one is the least

matches_at : (program : Program) (models : List ModelData) (number : ℕ) (rel : Rel) → IsTop program number rel → (c : Values) (f : Failing program models number c)
    → SourceMatches (Match program models) program models rel (free rel) c
matches_at program models number rel top c f = subst (λ (r : Rel). SourceMatches (Match program models) program models r (free r) c) (same_Some f.rel rel (sym f.top.is ∙ top.is)) f.source

-- two failing bindings of a relation are one, or one of them is less
one_failing_or_less : (program : Program) (models : List ModelData) (number : ℕ) (b c : Values) (f : Failing program models number b) → Failing program models number c
    → (b ≡ c) ⊎ (IsLess f.rel.universal b c ⊎ IsLess f.rel.universal c b)
one_failing_or_less program models number b c f g =
    one_source_or_less program models f.rel (free f.rel) b c f.source.source (matches_at program models number f.rel f.top c g).source

-- of the failing bindings of one relation at most one is the least
pub one_least : (program : Program) (models : List ModelData) (number : ℕ) (b c : Values) → IsLeastOf program models number b → IsLeastOf program models number c → b ≡ c
one_least program models number b c one other = by (one_failing_or_less program models number b c one.failing other.failing)
  where
    same : one.failing.rel ≡ other.failing.rel
    same = same_Some one.failing.rel other.failing.rel (sym one.failing.top.is ∙ other.failing.top.is)

    by : (b ≡ c) ⊎ (IsLess one.failing.rel.universal b c ⊎ IsLess one.failing.rel.universal c b) → b ≡ c
    by (inl is) = is
    by (inr (inl less)) = absurd (other.least b one.failing (subst (λ (r : Rel). IsLess r.universal b c) same less))
    by (inr (inr less)) = absurd (one.least c other.failing less)

-- at most one relation is the first that fails
pub first_is_one : (program : Program) (models : List ModelData) (number other : ℕ) (b c : Values) → LeastFailing program models number b → LeastFailing program models other c → number ≡ other
first_is_one program models number other b c one two = elim (eqb_tells number other) [
  | inl here ↦ here.1
  | inr apart ↦ elim (leb_tells number other) [
    | inl up ↦ absurd (two.first number b (omega (arith, up.1, apart.1)) one.failing)
    | inr down ↦ absurd (one.first other c down.1 two.failing)
  ]
]

pub least_is_one : (program : Program) (models : List ModelData) (number : ℕ) (b c : Values) → LeastFailing program models number b → LeastFailing program models number c → b ≡ c
least_is_one program models number b c one other =
    one_least program models number b c (record { failing = one.failing; least = one.least }) (record { failing = other.failing; least = other.least })
