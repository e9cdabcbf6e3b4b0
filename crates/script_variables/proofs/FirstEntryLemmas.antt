-- Look-ups in lists of names with what they stand for, of which the first of each name counts.
use Rattle.std.proofs.Common.{◌≡◌, ℕ, zero, suc, ◌<◌, List, [], ◌∷◌, ◌++◌, Bool, true, false, cond, refl, sym, ◌∙◌, ap, map, length, get_or, arith, ⊎_elim, true≢false}
use Rattle.std.specs.Prelude.{Option, Some, None, Contains, is_some, slice_get}
use Rattle.std.specs.Option.{option_or}
use Rattle.std.proofs.lemmas.Option.{same_Some, none-some}
use Rattle.std.proofs.lemmas.Bool.{cases_order}
use Rattle.mof_metamodel.specs.Characters.{same_name}
use Rattle.mof_metamodel.specs.NameTables.{NamesWith, value_of, with_value}
use Rattle.script_scopes.specs.Declarations.{IsRepeated}
use Rattle.script_scopes.specs.FirstEntries.{with_first, entries_onto, first_entries}
use Rattle.script_scopes.proofs.NameLemmas.{same_is, is_same}

module _ {X : Type 0} where
  or_none : (o : Option X) → option_or o None ≡ o
  or_none None = refl
  or_none (Some x) = refl

  -- ---- what is found

  pub value_append : (es fs : NamesWith X) (n : List ℕ) → value_of (es ++ fs) n ≡ option_or (value_of es n) (value_of fs n)
  value_append [] fs n = refl
  value_append (e ∷ es) fs n = by (same_name n e.0) (value_append es fs n)
    where
      by : (b : Bool) → value_of (es ++ fs) n ≡ option_or (value_of es n) (value_of fs n) → cond b (Some e.1) (value_of (es ++ fs) n) ≡ option_or (cond b (Some e.1) (value_of es n)) (value_of fs n)
      by true h = refl
      by false h = h

  with_first_value : (es : NamesWith X) (name : List ℕ) (x : X) (n : List ℕ) → value_of (with_first es name x) n ≡ option_or (value_of es n) (cond (same_name n name) (Some x) None)
  with_first_value es name x n = by (is_some (value_of es name)) refl
    where
      there : (o : Option X) → is_some o ≡ true → (p : Option X) → o ≡ option_or o p
      there None h p = absurd (true≢false (sym h))
      there (Some y) h p = refl

      beside : is_some (value_of es name) ≡ true → (b : Bool) → same_name n name ≡ b → value_of es n ≡ option_or (value_of es n) (cond b (Some x) None)
      beside h true e = there (value_of es n) (ap (λ (m : List ℕ). is_some (value_of es m)) (same_is n name e) ∙ h) (Some x)
      beside h false e = sym (or_none (value_of es n))

      by : (b : Bool) → is_some (value_of es name) ≡ b → value_of (cond b es (with_value es name x)) n ≡ option_or (value_of es n) (cond (same_name n name) (Some x) None)
      by true h = beside h (same_name n name) refl
      by false h = value_append es ((name, x) ∷ []) n

  -- more of them count where the name isn't there
  pub onto_value : (es ps : NamesWith X) (n : List ℕ) → value_of (entries_onto es ps) n ≡ option_or (value_of es n) (value_of ps n)
  onto_value es [] n = sym (or_none (value_of es n))
  onto_value es (p ∷ ps) n =
      onto_value (with_first es p.0 p.1) ps n ∙ ap (λ (o : Option X). option_or o (value_of ps n)) (with_first_value es p.0 p.1 n)
      ∙ turned (value_of es n) (same_name n p.0) (value_of ps n)
    where
      turned : (o : Option X) (b : Bool) (q : Option X) → option_or (option_or o (cond b (Some p.1) None)) q ≡ option_or o (cond b (Some p.1) q)
      turned None true q = refl
      turned None false q = refl
      turned (Some y) b q = refl

  pub first_value : (ps : NamesWith X) (n : List ℕ) → value_of (first_entries ps) n ≡ value_of ps n
  first_value ps n = onto_value [] ps n

  -- ---- what is found is there

  pub value_among : (ps : NamesWith X) (n : List ℕ) (x : X) → value_of ps n ≡ Some x → Contains ps (n, x)
  value_among [] n x h = absurd (none-some x h)
  value_among (e ∷ ps) n x h = by (λ g. value_among ps n x g) (same_name n e.0) refl h
    where
      by : (value_of ps n ≡ Some x → Contains ps (n, x)) → (b : Bool) → same_name n e.0 ≡ b → cond b (Some e.1) (value_of ps n) ≡ Some x → Contains (e ∷ ps) (n, x)
      by rest true s g = (0, omega arith, ap (λ (m : List ℕ). (m, e.1)) (sym (same_is n e.0 s)) ∙ ap (λ (y : X). (n, y)) (same_Some e.1 x g))
      by rest false s g = let (k, l, at) = rest g in (suc k, omega arith, at)

  pub none_among : (ps : NamesWith X) (n : List ℕ) (x : X) → value_of ps n ≡ None → ¬ Contains ps (n, x)
  none_among [] n x h (k, l, at) = omega arith
  none_among (e ∷ ps) n x h (k, l, at) = by (λ g c. none_among ps n x g c) (same_name n e.0) refl h k l at
    where
      by : (value_of ps n ≡ None → ¬ Contains ps (n, x)) → (b : Bool) → same_name n e.0 ≡ b → cond b (Some e.1) (value_of ps n) ≡ None → (k : ℕ) → k < length (e ∷ ps) → get_or (e ∷ ps) k (n, x) ≡ (n, x) → ⊥
      by rest true s g k l at = none-some e.1 (sym g)
      by rest false s g zero l at = true≢false (sym (is_same n e.0 (ap (λ (p : List ℕ × X). p.0) (sym at))) ∙ s)
      by rest false s g (suc k) l at = rest g (k, omega arith, at)

  pub among_value : (ps : NamesWith X) (n : List ℕ) (x : X) → Contains ps (n, x) → (y : X) × (value_of ps n ≡ Some y)
  among_value ps n x c = by (value_of ps n) refl
    where
      by : (o : Option X) → value_of ps n ≡ o → (y : X) × (value_of ps n ≡ Some y)
      by None h = absurd (none_among ps n x h c)
      by (Some y) h = (y, h)

  -- ---- names that stand once

  name_at : (ps : NamesWith X) (i : ℕ) (n : List ℕ) (x : X) → i < length ps → get_or ps i (n, x) ≡ (n, x) → slice_get (map (λ e. e.0) ps) i ≡ Some n
  name_at [] i n x l at = absurd (omega arith)
  name_at (e ∷ ps) zero n x l at = ap (λ (p : List ℕ × X). Some p.0) at
  name_at (e ∷ ps) (suc i) n x l at = name_at ps i n x (omega arith) at

  pub one_value : (ps : NamesWith X) (n : List ℕ) (x y : X) → ¬ IsRepeated (map (λ e. e.0) ps) n → Contains ps (n, x) → Contains ps (n, y) → x ≡ y
  one_value ps n x y once (i, l, at) (j, m, is) = ⊎_elim
      (λ same. ap (λ (p : List ℕ × X). p.1) (sym at ∙ default ps i (n, x) (n, y) l ∙ ap (λ k. get_or ps k (n, y)) same ∙ is))
      (λ apart. ⊎_elim
      (λ less. absurd (once (record { first = i; second = j; order = less; one = name_at ps i n x l at; other = name_at ps j n y m is })))
      (λ more. absurd (once (record { first = j; second = i; order = more; one = name_at ps j n y m is; other = name_at ps i n x l at })))
      apart)
      (cases_order i j)
    where
      default : (qs : NamesWith X) (k : ℕ) (d e : List ℕ × X) → k < length qs → get_or qs k d ≡ get_or qs k e
      default [] k d e below = absurd (omega arith)
      default (q ∷ qs) zero d e below = refl
      default (q ∷ qs) (suc k) d e below = default qs k d e (omega arith)

  pub once_value : (ps : NamesWith X) (n : List ℕ) (x : X) → ¬ IsRepeated (map (λ e. e.0) ps) n → Contains ps (n, x) → value_of ps n ≡ Some x
  once_value ps n x once c = let (y, is) = among_value ps n x c in is ∙ ap Some (one_value ps n y x once (value_among ps n y is) c)
