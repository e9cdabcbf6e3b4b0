-- A tree of elements that is a model has no fault, and a limit is told only where no other fault is.
-- A tree of elements that is a model has no fault.
use Rattle.std.proofs.Common.{◌≡◌, ℕ, ◌≤◌, Bool, true, false, List, refl, sym, ◌∙◌, subst, arith, true≢false, Option, None, Some}
use Rattle.std.specs.Option.{option_map}
use Rattle.object_tables.specs.declared.limit.TheConstants.{MAX_OBJECTS}
use Rattle.object_tables.specs.declared.breach.Breach.{Breach}
use Rattle.object_tables.specs.declared.breach.BreachKind.{BreachKind}
use Rattle.object_tables.specs.declared.breach.BreachKind.TheVariants as kinds
use Rattle.object_tables.specs.declared.limit.LimitKind.{LimitKind}
use Rattle.object_tables.specs.declared.limit.LimitKind.TheVariants as limits
use Rattle.object_tables.specs.Models.{ModelData}
use Rattle.object_tables.specs.Validity.{Valid, IsFirst, IsFirstBreach}
use Rattle.model_assembly.specs.declared.fault.ModelFault.{ModelFault}
use Rattle.model_assembly.specs.declared.fault.ModelFault.TheVariants as faults
use Rattle.model_assembly.specs.Content.{Content}
use Rattle.model_assembly.specs.FirstFault.{IsFirstAt, IsFirstBy, IsInvalid, IsLimit, IsFirstFault, IsModel}
use Rattle.model_assembly.specs.Source.{Source, object_count}
use Rattle.model_files.specs.FaultTexts.{is_model_limit}
use Rattle.model_files.proofs.OneModelLaws.{same_content}

-- a valid model breaks no rule
broken_none : (a : ModelData) → Valid a → (kind : BreachKind) (o : ℕ) (prop : Option ℕ) → IsFirst a kind o prop → ⊥
broken_none a v kinds.Lower o (Some p) (few, before) = (v.bounds o p).lower few
broken_none a v kinds.Upper o (Some p) ((enough, many), before) = (v.bounds o p).upper many
broken_none a v kinds.ContainmentCycle o (Some p) (none, before) = none
broken_none a v kind o None (same, least, kept) = v.acyclic o least.cycle

pub not_broken : (a : ModelData) (breach : Breach) → Valid a → IsFirstBreach a breach → ⊥
not_broken a breach v first = broken_none a v breach.kind breach.object.0 (option_map (λ p. p.0) breach.prop) first

module _ (s : Source) (m : ModelData) (content : Content s m) (valid : Valid m) where
  not_at : (fault : ModelFault) → IsFirstAt s fault → ⊥
  not_at fault x = content.faultless.at fault x.place x.stands

  not_by : (fault : ModelFault) → IsFirstBy s fault → ⊥
  not_by fault x = content.faultless.by fault x.spot x.stands

  not_invalid : (breach : Breach) (id : List ℕ) → IsInvalid s breach id → ⊥
  not_invalid breach id x =
      let there : Valid x.model = subst Valid (same_content s m x.model content x.content valid.kept x.kept) valid in
      not_broken x.model breach there x.broken

  -- where a tree is a valid model, nothing but a limit is told
  pub only_limits : (fault : ModelFault) → IsFirstFault s fault → is_model_limit fault ≡ true
  only_limits (faults.Limit kind) x = refl
  only_limits (faults.Invalid breach id) x = absurd (not_invalid breach id x)
  only_limits (faults.UnknownClass name) x = absurd (not_at (faults.UnknownClass name) x)
  only_limits (faults.UnknownProperty id prop) x = absurd (not_at (faults.UnknownProperty id prop) x)
  only_limits (faults.WrongValue id prop) x = absurd (not_at (faults.WrongValue id prop) x)
  only_limits (faults.DuplicateId id) x = absurd (not_at (faults.DuplicateId id) x)
  only_limits (faults.Dangling id prop reference) x = absurd (not_by (faults.Dangling id prop reference) x)
  only_limits (faults.TwoContainers id) x = absurd (not_by (faults.TwoContainers id) x)
  only_limits (faults.Mismatch id prop other other_prop) x = absurd (not_by (faults.Mismatch id prop other other_prop) x)

module _ (s : Source) (m : ModelData) (h : IsModel s m) where
  not_limit : (kind : LimitKind) → IsLimit s kind → ⊥
  not_limit limits.Objects x = let few = h.objects in omega (arith, few, x)
  not_limit limits.Depth x =
      let deep : IsModel s x.model = subst (IsModel s) (same_content s m x.model h.content x.content h.valid.kept x.valid.kept) h in
      let l = deep.depth x.object x.depth x.live x.depth_is in
      let far = x.deep in
      omega (arith, l, far)

  -- where it is one within the limits, no fault is told
  pub not_faulty : (fault : ModelFault) → IsFirstFault s fault → ⊥
  not_faulty fault x = by fault (only_limits s m h.content h.valid fault x) x
    where
      by : (f : ModelFault) → is_model_limit f ≡ true → IsFirstFault s f → ⊥
      by (faults.Limit kind) e y = not_limit kind y
      by (faults.Invalid breach id) e y = absurd cc
      by (faults.UnknownClass name) e y = absurd cc
      by (faults.UnknownProperty id prop) e y = absurd cc
      by (faults.WrongValue id prop) e y = absurd cc
      by (faults.DuplicateId id) e y = absurd cc
      by (faults.Dangling id prop reference) e y = absurd cc
      by (faults.TwoContainers id) e y = absurd cc
      by (faults.Mismatch id prop other other_prop) e y = absurd cc

-- a tree with a fault that is no limit has no more objects than a model may have
few_of : (s : Source) (fault : ModelFault) → is_model_limit fault ≡ false → IsFirstFault s fault → object_count s ≤ MAX_OBJECTS
few_of s (faults.Limit kind) e x = absurd cc
few_of s (faults.Invalid breach id) e x = x.fewer
few_of s (faults.UnknownClass name) e x = x.fewer
few_of s (faults.UnknownProperty id prop) e x = x.fewer
few_of s (faults.WrongValue id prop) e x = x.fewer
few_of s (faults.DuplicateId id) e x = x.fewer
few_of s (faults.Dangling id prop reference) e x = x.fewer
few_of s (faults.TwoContainers id) e x = x.fewer
few_of s (faults.Mismatch id prop other other_prop) e x = x.fewer

-- a limit and another fault aren't both told
limit_alone : (s : Source) (kind : LimitKind) (fault : ModelFault) → IsLimit s kind → IsFirstFault s fault → is_model_limit fault ≡ false → ⊥
limit_alone s limits.Objects fault many x e = let few = few_of s fault e x in omega (arith, few, many)
limit_alone s limits.Depth fault deep x e = let f = only_limits s deep.model deep.content deep.valid fault x in true≢false (sym f ∙ e)

apart : (s : Source) (f g : ModelFault) → is_model_limit f ≡ true → is_model_limit g ≡ false → IsFirstFault s f → IsFirstFault s g → ⊥
apart s (faults.Limit kind) g e h x y = limit_alone s kind g x y h
apart s (faults.Invalid breach id) g e h x y = absurd cc
apart s (faults.UnknownClass name) g e h x y = absurd cc
apart s (faults.UnknownProperty id prop) g e h x y = absurd cc
apart s (faults.WrongValue id prop) g e h x y = absurd cc
apart s (faults.DuplicateId id) g e h x y = absurd cc
apart s (faults.Dangling id prop reference) g e h x y = absurd cc
apart s (faults.TwoContainers id) g e h x y = absurd cc
apart s (faults.Mismatch id prop other other_prop) g e h x y = absurd cc

-- tests that don't differ are one
pub one_test : (a b : Bool) → (a ≡ true → b ≡ false → ⊥) → (b ≡ true → a ≡ false → ⊥) → a ≡ b
one_test true true f g = refl
one_test true false f g = absurd (f refl refl)
one_test false true f g = absurd (g refl refl)
one_test false false f g = refl

-- of two faults that are told of a tree both are limits, or none is
pub same_limit : (s : Source) (f g : ModelFault) → IsFirstFault s f → IsFirstFault s g → is_model_limit f ≡ is_model_limit g
same_limit s f g x y = one_test (is_model_limit f) (is_model_limit g) (λ e h. apart s f g e h x y) (λ e h. apart s g f e h y x)
