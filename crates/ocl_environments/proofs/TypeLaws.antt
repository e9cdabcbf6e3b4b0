-- One type as a test and as an equation.
use Rattle.std.proofs.Common.{◌≡◌, Bool, true, false, ◌&&◌, refl, sym, ◌∙◌, ap, subst, eq-eqb}
use Rattle.std.specs.Prelude.{◌==◌, IsTrue, ◌↔◌}
use Rattle.std.proofs.lemmas.Bool.{eqb-true, false≢true, and_parts, and_from}
use Rattle.qv_syntax.specs.declared.type_tree.Kind.{Kind}
use Rattle.qv_syntax.specs.declared.type_tree.Kind.TheVariants as kinds
use Rattle.qv_syntax.specs.declared.ty.Ty.{Ty, Ty-F, ind-Ty, map-Ty, roll-Ty, out-Ty, fold-roll-Ty, roll-out-Ty, out-roll-Ty}
use Rattle.qv_syntax.specs.declared.ty.Ty.TheOpen as of
use Rattle.ocl_environments.specs.Agreement.{same_kind, same_type, same_step, same_layer}

pub same_kinds : (a b : Kind) → same_kind a b ≡ true → a ≡ b
same_kinds kinds.Set kinds.Set is = refl
same_kinds kinds.Bag kinds.Bag is = refl
same_kinds kinds.Sequence kinds.Sequence is = refl
same_kinds kinds.OrderedSet kinds.OrderedSet is = refl
same_kinds a b is = absurd (false≢true is)

-- this type is no other than those that the test takes for it
abbrev IsToldApart : Ty → Type 0
IsToldApart a = (b : Ty) → same_type a b ≡ true → a ≡ b

module _ (X : Type 0) (type : X → Ty) (told : (x : X) → IsToldApart (type x)) where
  same_layers : (y : of.Ty-F X) (l : of.Ty-F Ty) → same_layer (map-Ty Ty (Ty → Bool) same_type (map-Ty X Ty type y)) l ≡ true → map-Ty X Ty type y ≡ l
  same_layers of.Str of.Str is = refl
  same_layers of.Int of.Int is = refl
  same_layers of.Bool of.Bool is = refl
  same_layers (of.Enum m e) (of.Enum n f) is =
      let both = and_parts (m == n) (e.0 == f.0) is in
      let meta : m ≡ n = eqb-true m n both.0 in
      let id : e.0 ≡ f.0 = eqb-true e.0 f.0 both.1 in
      λ i. of.Enum (meta i) (record { 0 = id i })
  same_layers (of.Class m c) (of.Class n d) is =
      let both = and_parts (m == n) (c.0 == d.0) is in
      let meta : m ≡ n = eqb-true m n both.0 in
      let id : c.0 ≡ d.0 = eqb-true c.0 d.0 both.1 in
      λ i. of.Class (meta i) (record { 0 = id i })
  same_layers (of.Coll kind x) (of.Coll other inner) is =
      let both = and_parts (same_kind kind other) (same_type (type x) inner) is in
      let kinds_same : kind ≡ other = same_kinds kind other both.0 in
      let inner_same : type x ≡ inner = told x inner both.1 in
      λ i. of.Coll (kinds_same i) (inner_same i)
  same_layers of.Null of.Null is = refl
  same_layers y l is = absurd (false≢true is)

pub same_types : (a : Ty) → IsToldApart a
same_types = ind-Ty IsToldApart (λ x y made b is.
    let layer : same_layer (map-Ty Ty (Ty → Bool) same_type x) (out-Ty b) ≡ true = sym (ap (λ f. f b) (fold-roll-Ty (Ty → Bool) same_step x)) ∙ is in
    ap roll-Ty (subst (λ v. same_layer (map-Ty Ty (Ty → Bool) same_type v) (out-Ty b) ≡ true → v ≡ out-Ty b) made (same_layers _ (λ e. e.0) (λ e. e.1) y (out-Ty b)) layer)
    ∙ roll-out-Ty b)

pub same_kind_itself : (kind : Kind) → same_kind kind kind ≡ true
same_kind_itself kinds.Set = refl
same_kind_itself kinds.Bag = refl
same_kind_itself kinds.Sequence = refl
same_kind_itself kinds.OrderedSet = refl

module _ (X : Type 0) (type : X → Ty) (itself : (x : X) → same_type (type x) (type x) ≡ true) where
  layer_itself : (y : of.Ty-F X) → same_layer (map-Ty Ty (Ty → Bool) same_type (map-Ty X Ty type y)) (map-Ty X Ty type y) ≡ true
  layer_itself of.Str = refl
  layer_itself of.Int = refl
  layer_itself of.Bool = refl
  layer_itself (of.Enum m e) = and_from _ _ (eq-eqb m m refl) (eq-eqb e.0 e.0 refl)
  layer_itself (of.Class m c) = and_from _ _ (eq-eqb m m refl) (eq-eqb c.0 c.0 refl)
  layer_itself (of.Coll kind x) = and_from _ _ (same_kind_itself kind) (itself x)
  layer_itself of.Null = refl

pub same_itself : (a : Ty) → same_type a a ≡ true
same_itself = ind-Ty (λ a. same_type a a ≡ true) (λ x y made.
    ap (λ f. f (roll-Ty x)) (fold-roll-Ty (Ty → Bool) same_step x)
    ∙ ap (same_layer (map-Ty Ty (Ty → Bool) same_type x)) (out-roll-Ty x)
    ∙ subst (λ v. same_layer (map-Ty Ty (Ty → Bool) same_type v) v ≡ true) made (layer_itself _ (λ e. e.0) (λ e. e.1) y))

pub same_is_one : (a b : Ty) → IsTrue (same_type a b) ↔ (a ≡ b)
same_is_one a b = (same_types a b, λ same. subst (λ c. same_type a c ≡ true) same (same_itself a))

-- of what a function answers that is proved to be the test
pub same_told : (r : Bool) (a b : Ty) → r ≡ same_type a b → IsTrue r ↔ (a ≡ b)
same_told r a b is = subst (λ t. IsTrue t ↔ (a ≡ b)) (sym is) (same_is_one a b)

-- of two that are one
pub same_here : (a b c : Ty) → a ≡ c → b ≡ c → IsTrue true ↔ (a ≡ b)
same_here a b c one other = (λ is. one ∙ sym other, λ is. refl)

-- the test asks the layers
pub same_rolled : (x y : of.Ty-F Ty) (a b : Ty) → roll-Ty x ≡ a → roll-Ty y ≡ b → same_type a b ≡ same_layer (map-Ty Ty (Ty → Bool) same_type x) y
same_rolled x y a b one other =
    ap (λ t. same_type t b) (sym one) ∙ ap (same_type (roll-Ty x)) (sym other) ∙ ap (λ f. f (roll-Ty y)) (fold-roll-Ty (Ty → Bool) same_step x)
    ∙ ap (same_layer (map-Ty Ty (Ty → Bool) same_type x)) (out-roll-Ty y)

pub and_second : (a b : Bool) → a ≡ true → b ≡ (a && b)
and_second true b is = refl
and_second false b is = absurd (false≢true is)

pub and_first : (a b : Bool) → a ≡ false → a ≡ (a && b)
and_first true b is = absurd (false≢true (sym is))
and_first false b is = refl
