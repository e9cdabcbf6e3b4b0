-- Which types are classes.
use Rattle.std.proofs.Common.{◌≡◌, ◌≢◌, ℕ, true, false, Option, None, Some, refl, sym, ap, ◌∙◌, true≢false}
use Rattle.std.specs.Prelude.{is_some}
use Rattle.std.proofs.lemmas.Option.{none-some, same_Some}
use Rattle.mof_metamodel.specs.declared.desc.ClassId.{ClassId}
use Rattle.qv_syntax.specs.declared.ty.Ty.{Ty, roll-Ty, out-Ty, map-Ty, fold-roll-Ty, roll-out-Ty}
use Rattle.qv_syntax.specs.declared.ty.Ty.TheOpen as of
use Rattle.qv_syntax.specs.declared.ty.Ty.TheVariants as types
use Rattle.ocl_environments.specs.Environments.{class_step, class_of}
use Rattle.enforcement_rules.specs.TargetTests.{has_class}

abbrev ClassOf : Type 0
ClassOf = Option (ℕ × ClassId)

class_layer : (l : of.Ty-F Ty) (c : ℕ × ClassId) → class_step (map-Ty Ty ClassOf class_of l) ≡ Some c → roll-Ty l ≡ types.Class c.0 c.1
class_layer of.Str c is = absurd (none-some c is)
class_layer of.Int c is = absurd (none-some c is)
class_layer of.Bool c is = absurd (none-some c is)
class_layer (of.Enum m e) c is = absurd (none-some c is)
class_layer (of.Class m d) c is = types.rolls-Class m d ∙ ap (λ (e : ℕ × ClassId). types.Class e.0 e.1) (same_Some (m, d) c is)
class_layer (of.Coll kind inner) c is = absurd (none-some c is)
class_layer of.Null c is = absurd (none-some c is)

-- a type that has a class is that class
pub is_class : (ty : Ty) (c : ℕ × ClassId) → class_of ty ≡ Some c → ty ≡ types.Class c.0 c.1
is_class ty c is =
    sym (roll-out-Ty ty) ∙ class_layer (out-Ty ty) c (sym (fold-roll-Ty ClassOf class_step (out-Ty ty)) ∙ ap class_of (roll-out-Ty ty) ∙ is)

pub class_of_class : (m : ℕ) (c : ClassId) → class_of (types.Class m c) ≡ Some (m, c)
class_of_class m c = ap class_of (sym (types.rolls-Class m c)) ∙ fold-roll-Ty ClassOf class_step (of.Class m c)

pub class_there : (ty : Ty) (m : ℕ) (class : ClassId) → ty ≡ types.Class m class → has_class ty ≡ true
class_there ty m class same = ap (λ (o : ClassOf). is_some o) (ap class_of same ∙ class_of_class m class)

pub there_class : (ty : Ty) → has_class ty ≡ true → (m : ℕ) × (class : ClassId) × (ty ≡ types.Class m class)
there_class ty h = by (class_of ty) refl h
  where
    by : (o : ClassOf) → class_of ty ≡ o → is_some o ≡ true → (m : ℕ) × (class : ClassId) × (ty ≡ types.Class m class)
    by None e g = absurd (true≢false (sym g))
    by (Some c) e g = (c.0, c.1, is_class ty c e)

pub no_class : (ty : Ty) → has_class ty ≡ false → (m : ℕ) (class : ClassId) → ty ≢ types.Class m class
no_class ty h m class same = true≢false (sym (class_there ty m class same) ∙ h)
