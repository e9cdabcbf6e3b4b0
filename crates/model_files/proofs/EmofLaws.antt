-- No fault stands in the metamodel EMOF.
use Rattle.std.proofs.Common.{◌≡◌, true, zero, suc, arith, refl, sym, ap, ◌∙◌, subst, List, [], ◌∷◌, ◌++◌, None, rules, Result, Ok, Err}
use Rattle.std.specs.Prelude.{IsOkUnless}
use Rattle.mof_metamodel.specs.declared.desc.MetaDesc.{MetaDesc}
use Rattle.mof_metamodel.specs.declared.fault.MetaError.{MetaError}
use Rattle.mof_metamodel.specs.declared.fault.MetaError.TheVariants as errors
use Rattle.mof_metamodel.specs.declared.fault.MetaFault.{MetaFault}
use Rattle.mof_metamodel.specs.Tables.{IsGrounded}
use Rattle.mof_metamodel.specs.WellMeta.{WellMeta}
use Rattle.mof_metamodel.specs.MetaFaults.{is_within_limits, first_bad_name, first_duplicate, first_unknown, first_bad_bounds, first_bad_opposite, first_two_containers}
use Rattle.mof_metamodel.proofs.LineageLemmas.{acyclic_from_grounded}
use Rattle.mof_metamodel.proofs.WellLemmas.{well_from_searched}
use Rattle.model_files.specs.Emof.{emof}

grounded : IsGrounded emof
grounded zero l = search rules
grounded (suc zero) l = search rules
grounded (suc (suc zero)) l = search rules
grounded (suc (suc (suc zero))) l = search rules
grounded (suc (suc (suc (suc zero)))) l = search rules
grounded (suc (suc (suc (suc (suc zero))))) l = search rules
grounded (suc (suc (suc (suc (suc (suc zero)))))) l = search rules
grounded (suc (suc (suc (suc (suc (suc (suc zero))))))) l = search rules
grounded (suc (suc (suc (suc (suc (suc (suc (suc c)))))))) l = absurd (omega arith)

within : is_within_limits emof ≡ true
within = refl

names : first_bad_name emof ≡ None
names = refl

distinct : first_duplicate emof ≡ None
distinct = refl

known : first_unknown emof ≡ None
known = refl

bounds : first_bad_bounds emof ≡ None
bounds = refl

opposites : first_bad_opposite emof ≡ None
opposites = refl

containers : first_two_containers emof ≡ None
containers = refl

pub emof_is_well : WellMeta emof
emof_is_well =
    well_from_searched emof (record {
      limits = within;
      names = names;
      distinct = distinct;
      known = known;
      acyclic = acyclic_from_grounded emof grounded;
      bounds = bounds;
      opposites = opposites;
      containers = containers;
    })

-- so its metamodel is made unless memory runs out
pub no_fault : {T : Type 0} (desc : MetaDesc) (r : Result T MetaError) (error : MetaError) (fault : MetaFault) → desc ≡ emof
    → (WellMeta desc → IsOkUnless r errors.NoMemory) → r ≡ Err error → error ≡ errors.Fault fault → ⊥
no_fault desc (Ok x) error fault is only e f = cc
no_fault desc (Err other) error fault is only e f = let out : other ≡ errors.NoMemory = only (subst WellMeta (sym is) emof_is_well) in cc

-- items that are put behind a list one after another
two_joined : {X : Type 0} (xs : List X) (a b : X) → (xs ++ a ∷ []) ++ b ∷ [] ≡ xs ++ a ∷ b ∷ []
two_joined [] a b = refl
two_joined (x ∷ xs) a b = ap (λ ys. x ∷ ys) (two_joined xs a b)

three_joined : {X : Type 0} (xs : List X) (a b c : X) → (xs ++ a ∷ b ∷ []) ++ c ∷ [] ≡ xs ++ a ∷ b ∷ c ∷ []
three_joined [] a b c = refl
three_joined (x ∷ xs) a b c = ap (λ ys. x ∷ ys) (three_joined xs a b c)

four_joined : {X : Type 0} (xs : List X) (a b c d : X) → (xs ++ a ∷ b ∷ c ∷ []) ++ d ∷ [] ≡ xs ++ a ∷ b ∷ c ∷ d ∷ []
four_joined [] a b c d = refl
four_joined (x ∷ xs) a b c d = ap (λ ys. x ∷ ys) (four_joined xs a b c d)

pub three_pushed : {X : Type 0} (xs ys zs ws : List X) (a b c : X) → ys ≡ xs ++ a ∷ [] → zs ≡ ys ++ b ∷ [] → ws ≡ zs ++ c ∷ [] → ws ≡ xs ++ a ∷ b ∷ c ∷ []
three_pushed xs ys zs ws a b c e f g =
    g ∙ ap (λ l. l ++ c ∷ []) (f ∙ ap (λ l. l ++ b ∷ []) e ∙ two_joined xs a b) ∙ three_joined xs a b c

pub four_pushed : {X : Type 0} (xs ys zs ws vs : List X) (a b c d : X) → ys ≡ xs ++ a ∷ [] → zs ≡ ys ++ b ∷ [] → ws ≡ zs ++ c ∷ [] → vs ≡ ws ++ d ∷ []
    → vs ≡ xs ++ a ∷ b ∷ c ∷ d ∷ []
four_pushed xs ys zs ws vs a b c d e f g h =
    h ∙ ap (λ l. l ++ d ∷ []) (three_pushed xs ys zs ws a b c e f g) ∙ four_joined xs a b c d
