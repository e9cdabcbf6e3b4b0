-- The one model of objects from several places, as it is computed and by its definition.
use Rattle.std.proofs.Common.{◌≡◌, ℕ, Bool, true, false, List, [], ◌∷◌, Option, None, Some, Ok, map, if◌then◌else◌, refl, sym, ap, ◌∙◌, subst, ◌⊎◌, inl, inr, eq-eqb}
use Rattle.std.specs.Prelude.{◌==◌}
use Rattle.std.specs.Option.{option_and_then}
use Rattle.std.proofs.lemmas.Bool.{eqb-true}
use Rattle.std.proofs.lemmas.Option.{none-some, same_Some}
use Rattle.qv_syntax.specs.Types.{IsOneModel}
use Rattle.qv_syntax.specs.TypedTrees.{models_of}
use Rattle.ocl_environments.specs.declared.part.TypedPart.{TypedPart}
use Rattle.ocl_environments.specs.Agreement.{joined_models}
use Rattle.ocl_environments.specs.Parts.{with_models, one_model}
use Rattle.ocl_types.specs.TypedContext.{typing_of}
use Rattle.ocl_types.proofs.JudgedLaws.{ok_ok, ok_err}
use Rattle.ocl_types.proofs.ConformanceLaws.{first_in, later_in, in_either}
use Rattle.mof_metamodel.proofs.Facts.{nothing_in}

-- the model of two places is that of each which has one
record Joins (a b m : Option ℕ) : Type 0 where
  one : (x : ℕ) → a ≡ Some x → m ≡ Some x
  other : (x : ℕ) → b ≡ Some x → m ≡ Some x
  comes : (x : ℕ) → m ≡ Some x → (a ≡ Some x) ⊎ (b ≡ Some x)

-- ---- two places

joins_none : (b : Option ℕ) → Joins None b b
joins_none b = record { one = λ x is. absurd (none-some x is); other = λ x is. is; comes = λ x is. inr is }

joins_one : (a : ℕ) → Joins (Some a) None (Some a)
joins_one a = record { one = λ x is. is; other = λ x is. absurd (none-some x is); comes = λ x is. inl is }

joins_same : (a b : ℕ) → a ≡ b → Joins (Some a) (Some b) (Some a)
joins_same a b same = record { one = λ x is. is; other = λ x is. ap Some same ∙ is; comes = λ x is. inl is }

joins : (a b m : Option ℕ) → joined_models a b ≡ Some m → Joins a b m
joins None b m is = subst (Joins None b) (same_Some b m is) (joins_none b)
joins (Some a) None m is = subst (Joins (Some a) None) (same_Some (Some a) m is) (joins_one a)
joins (Some a) (Some b) m is = by (a == b) refl is
  where
    by : (same : Bool) → (a == b) ≡ same → (if same then Some (Some a) else None) ≡ Some m → Joins (Some a) (Some b) m
    by true same is = subst (Joins (Some a) (Some b)) (same_Some (Some a) m is) (joins_same a b (eqb-true a b same))
    by false same is = absurd (none-some m is)

-- where one model is that of both, it is computed
joins_known : (a b m : Option ℕ) → ((x : ℕ) → a ≡ Some x → m ≡ Some x) → ((x : ℕ) → b ≡ Some x → m ≡ Some x) → (j : Option ℕ) × (joined_models a b ≡ Some j)
joins_known None b m one other = (b, refl)
joins_known (Some a) None m one other = (Some a, refl)
joins_known (Some a) (Some b) m one other =
    let same : a ≡ b = same_Some a b (sym (one a refl) ∙ other b refl) in
    (Some a, ap (λ t. if t then Some (Some a) else None) (eq-eqb a b same))

-- ---- several places

alone : (model : Option ℕ) → IsOneModel (model ∷ []) model
alone model = record {
  each = λ x among. elim (in_either model (Some x) [] among) [ inl same ↦ same | inr none ↦ absurd (nothing_in (Some x) none) ];
  comes = λ x is. first_in model (Some x) [] is;
}

alone_is : (model m : Option ℕ) → IsOneModel (model ∷ []) m → model ≡ m
alone_is (Some x) m one = sym (one.each x (first_in (Some x) (Some x) [] refl))
alone_is None None one = refl
alone_is None (Some x) one = elim (in_either None (Some x) [] (one.comes x refl)) [ inl same ↦ same | inr none ↦ absurd (nothing_in (Some x) none) ]

-- one place in front of two, as the model of these
together : (a b j m : Option ℕ) (rest : List (Option ℕ)) → Joins a b j → IsOneModel (j ∷ rest) m → IsOneModel (a ∷ b ∷ rest) m
together a b j m rest join one = record {
  each = λ x among. elim (in_either a (Some x) (b ∷ rest) among) [
    | inl same ↦ one.each x (first_in j (Some x) rest (join.one x same))
    | inr more ↦ elim (in_either b (Some x) rest more) [
      | inl same ↦ one.each x (first_in j (Some x) rest (join.other x same))
      | inr there ↦ one.each x (later_in j (Some x) rest there)
    ]
  ];
  comes = λ x is. elim (in_either j (Some x) rest (one.comes x is)) [
    | inl same ↦ elim (join.comes x same) [
      | inl here ↦ first_in a (Some x) (b ∷ rest) here
      | inr here ↦ later_in a (Some x) (b ∷ rest) (first_in b (Some x) rest here)
    ]
    | inr there ↦ later_in a (Some x) (b ∷ rest) (later_in b (Some x) rest there)
  ];
}

apart : (a b j m : Option ℕ) (rest : List (Option ℕ)) → Joins a b j → IsOneModel (a ∷ b ∷ rest) m → IsOneModel (j ∷ rest) m
apart a b j m rest join one = record {
  each = λ x among. elim (in_either j (Some x) rest among) [
    | inl same ↦ elim (join.comes x same) [
      | inl here ↦ one.each x (first_in a (Some x) (b ∷ rest) here)
      | inr here ↦ one.each x (later_in a (Some x) (b ∷ rest) (first_in b (Some x) rest here))
    ]
    | inr there ↦ one.each x (later_in a (Some x) (b ∷ rest) (later_in b (Some x) rest there))
  ];
  comes = λ x is. elim (in_either a (Some x) (b ∷ rest) (one.comes x is)) [
    | inl same ↦ first_in j (Some x) rest (join.one x same)
    | inr more ↦ elim (in_either b (Some x) rest more) [
      | inl same ↦ first_in j (Some x) rest (join.other x same)
      | inr there ↦ later_in j (Some x) rest there
    ]
  ];
}

then_some : {A B : Type 0} (f : A → Option B) (o : Option A) (y : B) → option_and_then f o ≡ Some y → (x : A) × (o ≡ Some x) × (f x ≡ Some y)
then_some f (Some x) y is = (x, refl, is)
then_some f None y is = absurd (none-some y is)

-- what is computed of a model and those of parts is the one model of all
pub with_one : (model : Option ℕ) (ps : List TypedPart) (m : Option ℕ) → with_models model ps ≡ Some m → IsOneModel (model ∷ models_of (map typing_of ps)) m
with_one model [] m is = subst (IsOneModel (model ∷ [])) (same_Some model m is) (alone model)
with_one model (p ∷ ps) m is =
    let o = then_some (λ j. with_models j ps) (joined_models model p.model) m is in
    together model p.model o.0 m (models_of (map typing_of ps)) (joins model p.model o.0 o.1) (with_one o.0 ps m o.2)

-- and where all have one model, it is computed
pub one_with : (model : Option ℕ) (ps : List TypedPart) (m : Option ℕ) → IsOneModel (model ∷ models_of (map typing_of ps)) m → with_models model ps ≡ Some m
one_with model [] m one = ap Some (alone_is model m one)
one_with model (p ∷ ps) m one =
    let rest : List (Option ℕ) = models_of (map typing_of ps) in
    let j = joins_known model p.model m (λ x is. one.each x (first_in model (Some x) (p.model ∷ rest) is)) (λ x is. one.each x (later_in model (Some x) (p.model ∷ rest) (first_in p.model (Some x) rest is))) in
    ap (option_and_then (λ k. with_models k ps)) j.1 ∙ one_with j.0 ps m (apart model p.model j.0 m rest (joins model p.model j.0 j.1) one)

-- ---- two places, and parts without a model in front

pub joined_one : (a b m : Option ℕ) → joined_models a b ≡ Some m → IsOneModel (a ∷ b ∷ []) m
joined_one a b m is = together a b m m [] (joins a b m is) (alone m)

pub one_joined : (a b m : Option ℕ) → IsOneModel (a ∷ b ∷ []) m → joined_models a b ≡ Some m
one_joined a b m one =
    let j = joins_known a b m (λ x is. one.each x (first_in a (Some x) (b ∷ []) is)) (λ x is. one.each x (later_in a (Some x) (b ∷ []) (first_in b (Some x) [] is))) in
    j.1 ∙ ap Some (alone_is j.0 m (apart a b j.0 m [] (joins a b j.0 j.1) one))

pub without_none : (rest : List (Option ℕ)) (m : Option ℕ) → IsOneModel (None ∷ rest) m → IsOneModel rest m
without_none rest m one = record {
  each = λ x among. one.each x (later_in None (Some x) rest among);
  comes = λ x is. elim (in_either None (Some x) rest (one.comes x is)) [ inl same ↦ absurd (none-some x same) | inr there ↦ there ];
}

pub with_none : (rest : List (Option ℕ)) (m : Option ℕ) → IsOneModel rest m → IsOneModel (None ∷ rest) m
with_none rest m one = record {
  each = λ x among. elim (in_either None (Some x) rest among) [ inl same ↦ absurd (none-some x same) | inr there ↦ one.each x there ];
  comes = λ x is. later_in None (Some x) rest (one.comes x is);
}

-- the rule gives a model where there is one
pub one_model_some : (name : List ℕ) (o : Option (Option ℕ)) (m : Option ℕ) → one_model name o ≡ Ok m → o ≡ Some m
one_model_some name (Some model) m is = ap Some (ok_ok (Ok model) model m refl is)
one_model_some name None m is = absurd (ok_err (one_model name None) m _ is refl)
