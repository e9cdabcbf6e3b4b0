-- The values that the arguments of a call give to the roots of domains: of two for one root the last.
use Rattle.std.specs.Prelude.{◌≡◌, ◌≢◌, ◌<◌, ◌⊎◌, ℕ, zero, suc, List, [], ◌∷◌, map, length, replicate, Option, None, Some, slice_get, slice_set, Contains}
use Rattle.std.specs.List.{filter_map, cons_option}
use Rattle.std.proofs.Common.{refl, ap, sym, ◌∙◌, subst, arith, inl, inr}
use Rattle.std.proofs.lemmas.Bool.{cases_eq}
use Rattle.std.proofs.lemmas.Option.{none-some, same_Some, slice_get_within}
use Rattle.qv_syntax.specs.declared.program.Rel.{Rel}
use Rattle.qv_syntax.specs.declared.program.Dom.{Dom}
use Rattle.repair_semantics.specs.declared.term.TermValue.{TermValue}
use Rattle.repair_semantics.specs.EntryValues.{TermValues, value_of, no_values, with_roots, root_values}
use Rattle.repair_semantics.specs.Entries.{bound_roots}

-- ---- values that are set

set_length : (b : TermValues) (i : ℕ) (x : Option TermValue) → length (slice_set b i x) ≡ length b
set_length [] i x = refl
set_length (y ∷ b) zero x = refl
set_length (y ∷ b) (suc i) x = ap suc (set_length b i x)

set_here : (b : TermValues) (i : ℕ) (x : Option TermValue) → i < length b → value_of (slice_set b i x) i ≡ x
set_here [] i x within = absurd (omega (arith, within))
set_here (y ∷ b) zero x within = refl
set_here (y ∷ b) (suc i) x within = set_here b i x (omega (arith, within))

set_elsewhere : (b : TermValues) (i v : ℕ) (x : Option TermValue) → i ≢ v → value_of (slice_set b i x) v ≡ value_of b v
set_elsewhere [] i v x other = refl
set_elsewhere (y ∷ b) zero zero x other = absurd (other refl)
set_elsewhere (y ∷ b) zero (suc v) x other = refl
set_elsewhere (y ∷ b) (suc i) zero x other = refl
set_elsewhere (y ∷ b) (suc i) (suc v) x other = set_elsewhere b i v x (λ same. other (ap suc same))

pub none_at : (n v : ℕ) → value_of (replicate n None) v ≡ None
none_at zero v = refl
none_at (suc n) zero = refl
none_at (suc n) (suc v) = none_at n v

replicate_length : (n : ℕ) (x : Option TermValue) → length (replicate n x) ≡ n
replicate_length zero x = refl
replicate_length (suc n) x = ap suc (replicate_length n x)

-- ---- roots

-- no argument is given for the root
abbrev pub AreApart : List Dom → List TermValue → ℕ → Type 0
AreApart doms xs v = (j : ℕ) (other : Dom) (more : TermValue) → slice_get doms j ≡ Some other → slice_get xs j ≡ Some more → other.root ≢ v

-- none is given behind this place
abbrev pub IsLast : List Dom → List TermValue → ℕ → ℕ → Type 0
IsLast doms xs v i = (j : ℕ) (other : Dom) (more : TermValue) → i < j → slice_get doms j ≡ Some other → slice_get xs j ≡ Some more → other.root ≢ v

-- the last argument for the root is the value
pub record HasRoot (doms : List Dom) (xs : List TermValue) (v : ℕ) (x : TermValue) : Type 0 where
  pub at : ℕ
  pub dom : Dom
  pub dom_is : slice_get doms at ≡ Some dom
  pub value_is : slice_get xs at ≡ Some x
  pub root : dom.root ≡ v
  pub last : IsLast doms xs v at

abbrev AreBelow : List Dom → TermValues → Type 0
AreBelow doms b = (j : ℕ) (other : Dom) → slice_get doms j ≡ Some other → other.root < length b

below_set : (doms : List Dom) (b : TermValues) (i : ℕ) (x : Option TermValue) → AreBelow doms b → AreBelow doms (slice_set b i x)
below_set doms b i x below j other is = subst (λ n. other.root < n) (sym (set_length b i x)) (below j other is)

roots_elsewhere : (b : TermValues) (doms : List Dom) (xs : List TermValue) (v : ℕ) → AreApart doms xs v → value_of (with_roots b doms xs) v ≡ value_of b v
roots_elsewhere b [] xs v apart = refl
roots_elsewhere b (dom ∷ doms) [] v apart = refl
roots_elsewhere b (dom ∷ doms) (x ∷ xs) v apart =
    roots_elsewhere (slice_set b dom.root (Some x)) doms xs v (λ j other more is at. apart (suc j) other more is at) ∙ set_elsewhere b dom.root v (Some x) (apart 0 dom x refl refl)

roots_at : (b : TermValues) (doms : List Dom) (xs : List TermValue) (i : ℕ) (dom : Dom) (x : TermValue) → slice_get doms i ≡ Some dom → slice_get xs i ≡ Some x → dom.root < length b
    → IsLast doms xs dom.root i → value_of (with_roots b doms xs) dom.root ≡ Some x
roots_at b [] xs i dom x one two within last = absurd (none-some dom one)
roots_at b (d ∷ doms) [] i dom x one two within last = absurd (none-some x two)
roots_at b (d ∷ doms) (y ∷ xs) zero dom x one two within last =
    let same : d ≡ dom = same_Some d dom one in
    let value : y ≡ x = same_Some y x two in
    let place : dom.root ≡ d.root = ap (λ (z : Dom). z.root) (sym same) in
    roots_elsewhere (slice_set b d.root (Some y)) doms xs dom.root (λ j other more is at. last (suc j) other more (omega arith) is at)
    ∙ ap (value_of (slice_set b d.root (Some y))) place ∙ set_here b d.root (Some y) (subst (λ n. n < length b) place within) ∙ ap (λ z. Some z) value
roots_at b (d ∷ doms) (y ∷ xs) (suc i) dom x one two within last =
    roots_at (slice_set b d.root (Some y)) doms xs i dom x one two (subst (λ n. dom.root < n) (sym (set_length b d.root (Some y))) within)
    (λ j other more less is at. last (suc j) other more (omega (arith, less)) is at)

-- a value stays one, or another one comes
set_keep : (b : TermValues) (i v : ℕ) (x y : TermValue) → value_of b v ≡ Some y → (z : TermValue) × (value_of (slice_set b i (Some x)) v ≡ Some z)
set_keep [] i v x y h = (y, h)
set_keep (w ∷ b) zero zero x y h = (x, refl)
set_keep (w ∷ b) zero (suc v) x y h = (y, h)
set_keep (w ∷ b) (suc i) zero x y h = (y, h)
set_keep (w ∷ b) (suc i) (suc v) x y h = set_keep b i v x y h

roots_keep : (b : TermValues) (doms : List Dom) (xs : List TermValue) (v : ℕ) (y : TermValue) → value_of b v ≡ Some y → (z : TermValue) × (value_of (with_roots b doms xs) v ≡ Some z)
roots_keep b [] xs v y h = (y, h)
roots_keep b (d ∷ doms) [] v y h = (y, h)
roots_keep b (d ∷ doms) (x ∷ xs) v y h = let r = set_keep b d.root v x y h in roots_keep (slice_set b d.root (Some x)) doms xs v r.0 r.1

roots_some : (b : TermValues) (doms : List Dom) (xs : List TermValue) (i : ℕ) (dom : Dom) → slice_get doms i ≡ Some dom → i < length xs → dom.root < length b
    → (z : TermValue) × (value_of (with_roots b doms xs) dom.root ≡ Some z)
roots_some b [] xs i dom one few within = absurd (none-some dom one)
roots_some b (d ∷ doms) [] i dom one few within = absurd (omega (arith, few))
roots_some b (d ∷ doms) (x ∷ xs) zero dom one few within =
    let place : d.root ≡ dom.root = ap (λ (z : Dom). z.root) (same_Some d dom one) in
    roots_keep (slice_set b d.root (Some x)) doms xs dom.root x
    (ap (value_of (slice_set b d.root (Some x))) (sym place) ∙ set_here b d.root (Some x) (subst (λ n. n < length b) (sym place) within))
roots_some b (d ∷ doms) (x ∷ xs) (suc i) dom one few within =
    roots_some (slice_set b d.root (Some x)) doms xs i dom one (omega (arith, few)) (subst (λ n. dom.root < n) (sym (set_length b d.root (Some x))) within)

roots_from : (b : TermValues) (doms : List Dom) (xs : List TermValue) (v : ℕ) (x : TermValue) → AreBelow doms b → value_of (with_roots b doms xs) v ≡ Some x
    → ((value_of b v ≡ Some x) × AreApart doms xs v) ⊎ HasRoot doms xs v x
roots_from b [] xs v x below h = inl (h, λ j other more is at. absurd (none-some other is))
roots_from b (d ∷ doms) [] v x below h = inl (h, λ j other more is at. absurd (none-some more at))
roots_from b (d ∷ doms) (y ∷ xs) v x below h =
    by (cases_eq d.root v) (roots_from (slice_set b d.root (Some y)) doms xs v x (below_set doms b d.root (Some y) (λ j other is. below (suc j) other is)) h)
  where
    behind : AreApart doms xs v → (j : ℕ) (other : Dom) (more : TermValue) → 0 < j → slice_get (d ∷ doms) j ≡ Some other → slice_get (y ∷ xs) j ≡ Some more → other.root ≢ v
    behind apart zero other more above is at = absurd (omega (arith, above))
    behind apart (suc j) other more above is at = apart j other more is at

    first : d.root ≡ v → value_of (slice_set b d.root (Some y)) v ≡ Some x → AreApart doms xs v → HasRoot (d ∷ doms) (y ∷ xs) v x
    first same is apart = record {
      at = 0;
      dom = d;
      dom_is = refl;
      value_is = sym (set_here b d.root (Some y) (below 0 d refl)) ∙ ap (value_of (slice_set b d.root (Some y))) same ∙ is;
      root = same;
      last = behind apart;
    }

    wider : (i : ℕ) → IsLast doms xs v i → (j : ℕ) (other : Dom) (more : TermValue) → suc i < j → slice_get (d ∷ doms) j ≡ Some other → slice_get (y ∷ xs) j ≡ Some more → other.root ≢ v
    wider i last zero other more above is at = absurd (omega (arith, above))
    wider i last (suc j) other more above is at = last j other more (omega (arith, above)) is at

    none : d.root ≢ v → AreApart doms xs v → AreApart (d ∷ doms) (y ∷ xs) v
    none differs apart zero other more is at = λ same. differs (ap (λ (z : Dom). z.root) (same_Some d other is) ∙ same)
    none differs apart (suc j) other more is at = apart j other more is at

    by : (d.root ≡ v) ⊎ (d.root ≢ v) → ((value_of (slice_set b d.root (Some y)) v ≡ Some x) × AreApart doms xs v) ⊎ HasRoot doms xs v x
        → ((value_of b v ≡ Some x) × AreApart (d ∷ doms) (y ∷ xs) v) ⊎ HasRoot (d ∷ doms) (y ∷ xs) v x
    by c (inr r) = inr (record { at = suc r.at; dom = r.dom; dom_is = r.dom_is; value_is = r.value_is; root = r.root; last = wider r.at r.last })
    by (inl same) (inl (is, apart)) = inr (first same is apart)
    by (inr differs) (inl (is, apart)) = inl (sym (set_elsewhere b d.root v (Some y) differs) ∙ is, none differs apart)

-- the roots again, by the values that they have
module _ (all : TermValues) where
  abbrev root_in : Dom → Option TermValue
  root_in dom = value_of all dom.root

  abbrev HaveRoots : List Dom → Type 0
  HaveRoots doms = (j : ℕ) (other : Dom) → slice_get doms j ≡ Some other → (y : TermValue) × (root_in other ≡ Some y)

  mapped_again : (doms : List Dom) → HaveRoots doms → map (λ y. Some y) (filter_map root_in doms) ≡ map root_in doms
  mapped_again [] some = refl
  mapped_again (d ∷ doms) some =
      let y = some 0 d refl in
      ap (λ o. map (λ z. Some z) (cons_option o (filter_map root_in doms))) y.1 ∙ ap (λ l. Some y.0 ∷ l) (mapped_again doms (λ j other is. some (suc j) other is)) ∙ ap (λ o. o ∷ map root_in doms) (sym y.1)

  roots_again : (b : TermValues) (doms : List Dom) → HaveRoots doms → AreBelow doms b → (v : ℕ)
      → (value_of b v ≡ value_of all v) ⊎ ((i : ℕ) × (dom : Dom) × (slice_get doms i ≡ Some dom) × (dom.root ≡ v))
      → value_of (with_roots b doms (filter_map root_in doms)) v ≡ value_of all v
  roots_again b [] some below v (inl h) = h
  roots_again b [] some below v (inr (i, dom, is, root)) = absurd (none-some dom is)
  roots_again b (d ∷ doms) some below v at =
      let y = some 0 d refl in
      subst (λ o. value_of (with_roots b (d ∷ doms) (cons_option o (filter_map root_in doms))) v ≡ value_of all v) (sym y.1)
      (roots_again (slice_set b d.root (Some y.0)) doms (λ j other is. some (suc j) other is) (below_set doms b d.root (Some y.0) (λ j other is. below (suc j) other is)) v
      (next y.0 y.1 (cases_eq d.root v) at))
    where
      next : (y : TermValue) → root_in d ≡ Some y → (d.root ≡ v) ⊎ (d.root ≢ v)
          → (value_of b v ≡ value_of all v) ⊎ ((i : ℕ) × (dom : Dom) × (slice_get (d ∷ doms) i ≡ Some dom) × (dom.root ≡ v))
          → (value_of (slice_set b d.root (Some y)) v ≡ value_of all v) ⊎ ((i : ℕ) × (dom : Dom) × (slice_get doms i ≡ Some dom) × (dom.root ≡ v))
      next y is (inl same) place =
          inl (ap (value_of (slice_set b d.root (Some y))) (sym same) ∙ set_here b d.root (Some y) (below 0 d refl) ∙ sym is ∙ ap (value_of all) same)
      next y is (inr differs) (inl h) = inl (set_elsewhere b d.root v (Some y) differs ∙ h)
      next y is (inr differs) (inr (zero, dom, dom_is, root)) = absurd (differs (ap (λ (z : Dom). z.root) (same_Some d dom dom_is) ∙ root))
      next y is (inr differs) (inr (suc i, dom, dom_is, root)) = inr (i, dom, dom_is, root)

module _ (rel : Rel) (within : (dom : Dom) → Contains rel.domains dom → dom.root < length rel.vars) (among : (i : ℕ) (dom : Dom) → slice_get rel.domains i ≡ Some dom → Contains rel.domains dom) where
  all_below : AreBelow rel.domains (no_values rel)
  all_below j other is = subst (λ n. other.root < n) (sym (replicate_length (length rel.vars) None)) (within other (among j other is))

  -- the root of a domain has its last argument
  pub root_at : (xs : List TermValue) (i : ℕ) (dom : Dom) (x : TermValue) → slice_get rel.domains i ≡ Some dom → slice_get xs i ≡ Some x → IsLast rel.domains xs dom.root i
      → value_of (root_values rel xs) dom.root ≡ Some x
  root_at xs i dom x one two last = roots_at (no_values rel) rel.domains xs i dom x one two (all_below i dom one) last

  pub root_from : (xs : List TermValue) (v : ℕ) (x : TermValue) → value_of (root_values rel xs) v ≡ Some x → HasRoot rel.domains xs v x
  root_from xs v x h = by (roots_from (no_values rel) rel.domains xs v x all_below h)
    where
      by : ((value_of (no_values rel) v ≡ Some x) × AreApart rel.domains xs v) ⊎ HasRoot rel.domains xs v x → HasRoot rel.domains xs v x
      by (inl (is, apart)) = absurd (none-some x (sym (none_at (length rel.vars) v) ∙ is))
      by (inr r) = r

  module _ (xs : List TermValue) (many : length xs ≡ length rel.domains) where
    have_roots : HaveRoots (root_values rel xs) rel.domains
    have_roots j other is =
        let short : j < length rel.domains = slice_get_within rel.domains j other is in
        roots_some (no_values rel) rel.domains xs j other is (omega (arith, short, many)) (all_below j other is)

    -- what the roots are bound to are the values that the arguments give them
    pub bound_mapped : map (λ y. Some y) (bound_roots rel xs) ≡ map (λ (dom : Dom). value_of (root_values rel xs) dom.root) rel.domains
    bound_mapped = mapped_again (root_values rel xs) rel.domains have_roots

    pub bound_at : (i : ℕ) (dom : Dom) → slice_get rel.domains i ≡ Some dom → value_of (root_values rel (bound_roots rel xs)) dom.root ≡ value_of (root_values rel xs) dom.root
    bound_at i dom is = roots_again (root_values rel xs) (no_values rel) rel.domains have_roots all_below dom.root (inr (i, dom, is, refl))

    pub bound_some : (i : ℕ) (dom : Dom) → slice_get rel.domains i ≡ Some dom → (x : TermValue) × (value_of (root_values rel (bound_roots rel xs)) dom.root ≡ Some x)
    bound_some i dom is =
        let short : i < length rel.domains = slice_get_within rel.domains i dom is in
        let r = roots_some (no_values rel) rel.domains xs i dom is (omega (arith, short, many)) (all_below i dom is) in
        (r.0, bound_at i dom is ∙ r.1)

    pub bound_from : (v : ℕ) (x : TermValue) → value_of (root_values rel (bound_roots rel xs)) v ≡ Some x → value_of (root_values rel xs) v ≡ Some x
    bound_from v x h =
        let r = root_from (bound_roots rel xs) v x h in
        ap (value_of (root_values rel xs)) (sym r.root) ∙ sym (bound_at r.at r.dom r.dom_is) ∙ ap (value_of (root_values rel (bound_roots rel xs))) r.root ∙ h
