-- Of two faults of references that are told of one tree, both are one.
use Rattle.std.proofs.Common.{◌≡◌, ℕ, ◌<◌, true, List, sym, ◌∙◌, ap, arith, subst, Some, inl, inr, true≢false}
use Rattle.std.specs.Prelude.{slice_get}
use Rattle.std.proofs.lemmas.Bool.{cases_lt}
use Rattle.mof_metamodel.specs.Metamodels.{prop_at, opposite_of}
use Rattle.mof_metamodel.specs.WellMeta.{WellMeta}
use Rattle.model_assembly.specs.declared.fault.ModelFault.{ModelFault}
use Rattle.model_assembly.specs.declared.fault.ModelFault.TheVariants as faults
use Rattle.model_assembly.specs.Faults.{Spot, IsBefore, ByObject, ByProperty, ByTarget, StandsBy, IsWritten, IsDangling, MakesPart, IsContainedTwice, IsMismatch}
use Rattle.model_assembly.specs.FirstFault.{rank, IsFirstBy}
use Rattle.model_assembly.specs.Profile.{prop_name}
use Rattle.model_assembly.specs.declared.target.Target.{Target}
use Rattle.model_assembly.specs.References.{target_text}
use Rattle.model_assembly.specs.Source.{Source, id_of, target_number, targets_at}
use Rattle.std.proofs.lemmas.Option.{same_Some}
use Rattle.model_assembly.proofs.assembling.PartLaws.{not_both}

-- ---- spots

no_less : (n m : ℕ) → (n < m → ⊥) → (m < n → ⊥) → n ≡ m
no_less n m f g = elim (cases_lt n m) [
  | inl l ↦ absurd (f l)
  | inr le ↦ elim (cases_lt m n) [
    | inl l ↦ absurd (g l)
    | inr ge ↦ omega (arith, le, ge)
  ]
]

-- spots of which none is before the other are one
same_spot : (a b : Spot) → (IsBefore a b → ⊥) → (IsBefore b a → ⊥) → a ≡ b
same_spot a b f g = λ i. record { object = object i; property = property i; target = target i }
  where
    object : a.object ≡ b.object
    object = no_less a.object b.object (λ l. f (ByObject l)) (λ l. g (ByObject l))

    property : a.property ≡ b.property
    property = no_less a.property b.property (λ l. f (ByProperty object l)) (λ l. g (ByProperty (sym object) l))

    target : a.target ≡ b.target
    target = no_less a.target b.target (λ l. f (ByTarget object property l)) (λ l. g (ByTarget (sym object) (sym property) l))

module _ (s : Source) (spot : Spot) where
  -- what is written at a spot
  written_property : (p q : ℕ) (t u : Target) → IsWritten s spot p t → IsWritten s spot q u → p ≡ q
  written_property p q t u x y = same_Some p q (sym x.property ∙ y.property)

  written_target : (p q : ℕ) (t u : Target) → IsWritten s spot p t → IsWritten s spot q u → t ≡ u
  written_target p q t u x y =
      same_Some t u (sym x.target_is ∙ ap (λ r. slice_get (targets_at s spot.object r) spot.target) (written_property p q t u x y) ∙ y.target_is)

  -- ---- faults at a spot

  one_dangling : (id prop reference id' prop' reference' : List ℕ) → IsDangling s spot id prop reference → IsDangling s spot id' prop' reference'
      → faults.Dangling id prop reference ≡ faults.Dangling id' prop' reference'
  one_dangling id prop reference id' prop' reference' x y = λ i. faults.Dangling (ids i) (props i) (references i)
    where
      ids : id ≡ id'
      ids = x.id_is ∙ sym y.id_is

      props : prop ≡ prop'
      props = x.prop_is ∙ ap (prop_name s.meta) (written_property x.p y.p x.target y.target x.written y.written) ∙ sym y.prop_is

      references : reference ≡ reference'
      references = x.reference_is ∙ ap (target_text (id_of s)) (written_target x.p y.p x.target y.target x.written y.written) ∙ sym y.reference_is

  one_mismatch : (id prop other other_prop id' prop' other' other_prop' : List ℕ) → IsMismatch s spot id prop other other_prop → IsMismatch s spot id' prop' other' other_prop'
      → faults.Mismatch id prop other other_prop ≡ faults.Mismatch id' prop' other' other_prop'
  one_mismatch id prop other other_prop id' prop' other' other_prop' x y = λ i. faults.Mismatch (ids i) (props i) (others i) (other_props i)
    where
      near : x.p ≡ y.p
      near = written_property x.p y.p x.target y.target x.written y.written

      named : x.b ≡ y.b
      named = same_Some x.b y.b (sym x.named ∙ ap (target_number s) (written_target x.p y.p x.target y.target x.written y.written) ∙ y.named)

      far : x.q ≡ y.q
      far = same_Some x.q y.q (sym x.disputed.opposite ∙ ap (opposite_of s.meta) near ∙ y.disputed.opposite)

      ids : id ≡ id'
      ids = x.id_is ∙ sym y.id_is

      props : prop ≡ prop'
      props = x.prop_is ∙ ap (prop_name s.meta) near ∙ sym y.prop_is

      others : other ≡ other'
      others = x.other_is ∙ ap (id_of s) named ∙ sym y.other_is

      other_props : other_prop ≡ other_prop'
      other_props = x.other_prop_is ∙ ap (prop_name s.meta) far ∙ sym y.other_prop_is

  module _ (well : WellMeta s.meta) where
    -- a composite property whose opposite is composite there is none
    never : (p q : ℕ) → opposite_of s.meta p ≡ Some q → (prop_at s.meta p).composite ≡ true → (prop_at s.meta q).composite ≡ true → ⊥
    never p q o c d = true≢false (sym d ∙ not_both s.meta p q well o c)

    -- what is written makes one object a part
    one_part : (r r' c c' a b p a' b' p' : ℕ) → r ≡ r' → c ≡ c' → (prop_at s.meta p).composite ≡ true → (prop_at s.meta p').composite ≡ true → MakesPart s spot r c a b p → MakesPart s spot r' c' a' b' p' → b ≡ b'
    one_part r r' c c' a b p a' b' p' e f k k' (inl x) (inl y) = sym x.2 ∙ f ∙ y.2
    one_part r r' c c' a b p a' b' p' e f k k' (inr x) (inr y) = sym x.1 ∙ y.1
    one_part r r' c c' a b p a' b' p' e f k k' (inl x) (inr y) = absurd (never p' p (y.0 ∙ ap (λ n. Some n) (sym e ∙ x.0)) k' k)
    one_part r r' c c' a b p a' b' p' e f k k' (inr x) (inl y) = absurd (never p p' (x.0 ∙ ap (λ n. Some n) (e ∙ y.0)) k k')

    one_contained : (id id' : List ℕ) → IsContainedTwice s spot id → IsContainedTwice s spot id' → faults.TwoContainers id ≡ faults.TwoContainers id'
    one_contained id id' x y = ap (λ n. faults.TwoContainers n) (x.id_is ∙ ap (id_of s) object ∙ sym y.id_is)
      where
        near : x.part.r ≡ y.part.r
        near = written_property x.part.r y.part.r x.part.target y.part.target x.part.written y.part.written

        named : x.part.c ≡ y.part.c
        named = same_Some x.part.c y.part.c (sym x.part.named ∙ ap (target_number s) (written_target x.part.r y.part.r x.part.target y.part.target x.part.written y.part.written) ∙ y.part.named)

        object : x.object ≡ y.object
        object = one_part x.part.r y.part.r x.part.c y.part.c x.a x.object x.p y.a y.object y.p near named x.part.composite y.part.composite x.part.part y.part.part

    -- faults of one kind at a spot
    one_by : (f g : ModelFault) → rank f ≡ rank g → StandsBy s f spot → StandsBy s g spot → f ≡ g
    one_by (faults.Dangling id prop reference) (faults.Dangling id' prop' reference') e x y = one_dangling id prop reference id' prop' reference' x y
    one_by (faults.Dangling id prop reference) (faults.TwoContainers id') e x y = absurd (omega (arith, e))
    one_by (faults.Dangling id prop reference) (faults.Mismatch id' prop' other' other_prop') e x y = absurd (omega (arith, e))
    one_by (faults.Dangling id prop reference) (faults.UnknownClass name) e x y = absurd y
    one_by (faults.Dangling id prop reference) (faults.UnknownProperty id' prop') e x y = absurd y
    one_by (faults.Dangling id prop reference) (faults.WrongValue id' prop') e x y = absurd y
    one_by (faults.Dangling id prop reference) (faults.DuplicateId id') e x y = absurd y
    one_by (faults.Dangling id prop reference) (faults.Invalid breach id') e x y = absurd y
    one_by (faults.Dangling id prop reference) (faults.Limit kind) e x y = absurd y
    one_by (faults.TwoContainers id) (faults.Dangling id' prop' reference') e x y = absurd (omega (arith, e))
    one_by (faults.TwoContainers id) (faults.TwoContainers id') e x y = one_contained id id' x y
    one_by (faults.TwoContainers id) (faults.Mismatch id' prop' other' other_prop') e x y = absurd (omega (arith, e))
    one_by (faults.TwoContainers id) (faults.UnknownClass name) e x y = absurd y
    one_by (faults.TwoContainers id) (faults.UnknownProperty id' prop') e x y = absurd y
    one_by (faults.TwoContainers id) (faults.WrongValue id' prop') e x y = absurd y
    one_by (faults.TwoContainers id) (faults.DuplicateId id') e x y = absurd y
    one_by (faults.TwoContainers id) (faults.Invalid breach id') e x y = absurd y
    one_by (faults.TwoContainers id) (faults.Limit kind) e x y = absurd y
    one_by (faults.Mismatch id prop other other_prop) (faults.Dangling id' prop' reference') e x y = absurd (omega (arith, e))
    one_by (faults.Mismatch id prop other other_prop) (faults.TwoContainers id') e x y = absurd (omega (arith, e))
    one_by (faults.Mismatch id prop other other_prop) (faults.Mismatch id' prop' other' other_prop') e x y = one_mismatch id prop other other_prop id' prop' other' other_prop' x y
    one_by (faults.Mismatch id prop other other_prop) (faults.UnknownClass name) e x y = absurd y
    one_by (faults.Mismatch id prop other other_prop) (faults.UnknownProperty id' prop') e x y = absurd y
    one_by (faults.Mismatch id prop other other_prop) (faults.WrongValue id' prop') e x y = absurd y
    one_by (faults.Mismatch id prop other other_prop) (faults.DuplicateId id') e x y = absurd y
    one_by (faults.Mismatch id prop other other_prop) (faults.Invalid breach id') e x y = absurd y
    one_by (faults.Mismatch id prop other other_prop) (faults.Limit kind) e x y = absurd y
    one_by (faults.UnknownClass name) g e x y = absurd x
    one_by (faults.UnknownProperty id prop) g e x y = absurd x
    one_by (faults.WrongValue id prop) g e x y = absurd x
    one_by (faults.DuplicateId id) g e x y = absurd x
    one_by (faults.Invalid breach id) g e x y = absurd x
    one_by (faults.Limit kind) g e x y = absurd x

-- the first fault of references is one
pub one_first_by : (s : Source) (f g : ModelFault) → WellMeta s.meta → IsFirstBy s f → IsFirstBy s g → f ≡ g
one_first_by s f g well x y = one_by s x.spot well f g kinds x.stands (subst (StandsBy s g) (sym spots) y.stands)
  where
    kinds : rank f ≡ rank g
    kinds = let up = x.least g y.spot y.stands in let down = y.least f x.spot x.stands in omega (arith, up, down)

    spots : x.spot ≡ y.spot
    spots = same_spot x.spot y.spot (λ b. y.first f x.spot x.stands kinds b) (λ b. x.first g y.spot y.stands (sym kinds) b)
