-- Where a program can be enforced, a universal variable for objects of the target is taken by a call in the when clause of its relation.
use Rattle.std.specs.Prelude.{◌≡◌, ◌≢◌, ◌⊎◌, ◌<◌, ℕ, zero, suc, Bool, true, false, ◌==◌, List, [], ◌∷◌, length, Option, None, Some, slice_get, Contains}
use Rattle.std.proofs.Common.{refl, sym, ap, subst, ◌∙◌, inl, inr, arith}
use Rattle.std.proofs.lemmas.Bool.{true≢false, eqb-true, eq-eqb}
use Rattle.mof_metamodel.specs.declared.desc.MetaDesc.{MetaDesc}
use Rattle.qv_syntax.specs.declared.typed.Typed.{Typed}
use Rattle.qv_syntax.specs.declared.program.Program.{Program}
use Rattle.qv_syntax.specs.declared.program.Rel.{Rel}
use Rattle.qv_syntax.specs.declared.program.Var.{Var}
use Rattle.qv_syntax.specs.declared.program.Dom.{Dom}
use Rattle.qv_syntax.specs.declared.program.Conj.{Conj}
use Rattle.qv_syntax.specs.declared.program.Conj.TheVariants as conjuncts
use Rattle.qv_syntax.specs.Relations.{IsUniversal}
use Rattle.qv_syntax.specs.WellFormed.{IsWellFormed}
use Rattle.qvtr_semantics.specs.Bindings.{is_model}
use Rattle.template_match.specs.Sources.{is_of_target}
use Rattle.template_match.proofs.ListLaws.{contains_later}
use Rattle.mof_metamodel.proofs.Facts.{contains_first}
use Rattle.enforcement_rules.specs.TargetParts.{IsTargetVariable}
use Rattle.enforcement_rules.specs.Calls.{IsVariable, IsTaken, HasUnmatchedCall}
use Rattle.enforcement_rules.specs.Rules.{Breaks, IsEnforceable}
use Rattle.source_laws.proofs.RuleLaws.{target_is}
use Rattle.source_laws.proofs.RootLaws.{same_called}
use Rattle.source_laws.proofs.BindingLaws.{found_within}
use Rattle.mof_metamodel.proofs.Facts.{contains_at}
use Rattle.repair_semantics.specs.EntryValues.{variable_alone}
use Rattle.repair_semantics.specs.Entries.{IsUniversalTarget}
use Rattle.reading_laws.proofs.CallValues.{none_some}
use Rattle.std.proofs.lemmas.Option.{same_Some}
use Rattle.reading_laws.proofs.CallFits.{alone_is, alone_there}

-- ---- what can be decided

alone_or_not : (e : Typed) (v : ℕ) → IsVariable e v ⊎ ¬ IsVariable e v
alone_or_not e v = by (variable_alone e) refl
  where
    number_by : (w : ℕ) → variable_alone e ≡ Some w → (b : Bool) → (w == v) ≡ b → IsVariable e v ⊎ ¬ IsVariable e v
    number_by w is true same = inl (e.ty, alone_is e v (is ∙ ap (λ n. Some n) (eqb-true w v same)))
    number_by w is false other =
        inr (λ alone. true≢false (sym (eq-eqb w v (same_Some w v (sym is ∙ alone_there e alone.0 v alone.1))) ∙ other))

    by : (o : Option ℕ) → variable_alone e ≡ o → IsVariable e v ⊎ ¬ IsVariable e v
    by None is = inr (λ alone. none_some v (sym is ∙ alone_there e alone.0 v alone.1))
    by (Some w) is = number_by w is (w == v) refl

target_or_not : (program : Program) (rel : Rel) (v : ℕ) → IsTargetVariable program rel v ⊎ ¬ IsTargetVariable program rel v
target_or_not program rel v = by (slice_get rel.vars v) refl
  where
    model_by : (var : Var) → slice_get rel.vars v ≡ Some var → (b : Bool) → is_model var.model program.target ≡ b → IsTargetVariable program rel v ⊎ ¬ IsTargetVariable program rel v
    model_by var found true is = inl (record { var = var; found = found; target = target_is program.target var.model is })
    model_by var found false other =
        inr (λ t. true≢false (sym (eq-eqb program.target program.target refl) ∙ ap (λ m. is_model m program.target) (sym t.target)
        ∙ ap (λ (x : Var). is_model x.model program.target) (same_Some t.var var (sym t.found ∙ found)) ∙ other))

    by : (o : Option Var) → slice_get rel.vars v ≡ o → IsTargetVariable program rel v ⊎ ¬ IsTargetVariable program rel v
    by None none = inr (λ t. none_some t.var (sym none ∙ t.found))
    by (Some var) found = model_by var found (is_model var.model program.target) refl

-- an argument is given for a domain with this root
record RootAgain (doms : List Dom) (args : List Typed) (r : ℕ) : Type 0 where
  place : ℕ
  dom : Dom
  e : Typed
  of : slice_get doms place ≡ Some dom
  argument : slice_get args place ≡ Some e
  root : dom.root ≡ r

again_or_not : (doms : List Dom) (args : List Typed) (r : ℕ) → RootAgain doms args r ⊎ ¬ RootAgain doms args r
again_or_not [] args r = inr (λ x. none_some x.dom x.of)
again_or_not (d ∷ doms) [] r = inr (λ x. none_some x.e x.argument)
again_or_not (d ∷ doms) (a ∷ args) r = by (d.root == r) refl (again_or_not doms args r)
  where
    at_head : (k : ℕ) (x : Dom) (e : Typed) → slice_get (d ∷ doms) k ≡ Some x → slice_get (a ∷ args) k ≡ Some e → x.root ≡ r → (d.root == r) ≡ false → ¬ RootAgain doms args r → ⊥
    at_head zero x e of arg root other none =
        true≢false (sym (eq-eqb d.root r (ap (λ (z : Dom). z.root) (same_Some d x of) ∙ root)) ∙ other)
    at_head (suc k) x e of arg root other none = none (record { place = k; dom = x; e = e; of = of; argument = arg; root = root })

    by : (b : Bool) → (d.root == r) ≡ b → RootAgain doms args r ⊎ ¬ RootAgain doms args r → RootAgain (d ∷ doms) (a ∷ args) r ⊎ ¬ RootAgain (d ∷ doms) (a ∷ args) r
    by true is rest = inl (record { place = 0; dom = d; e = a; of = refl; argument = refl; root = eqb-true d.root r is })
    by false other (inl x) = inl (record { place = suc x.place; dom = x.dom; e = x.e; of = x.of; argument = x.argument; root = x.root })
    by false other (inr none) = inr (λ x. at_head x.place x.dom x.e x.of x.argument x.root other none)

module _ (program : Program) (called : Rel) (v : ℕ) where
  -- one of the arguments for these domains is the variable alone, for a root that is a variable for objects of the target, and the last one for it
  record TakenAt (doms : List Dom) (args : List Typed) : Type 0 where
    place : ℕ
    dom : Dom
    e : Typed
    of : slice_get doms place ≡ Some dom
    target : IsTargetVariable program called dom.root
    last : (later : ℕ) (other : Dom) (more : Typed) → place < later → slice_get doms later ≡ Some other → slice_get args later ≡ Some more → other.root ≢ dom.root
    argument : slice_get args place ≡ Some e
    alone : IsVariable e v

  later_last : (d : Dom) (a : Typed) (doms : List Dom) (args : List Typed) → ¬ RootAgain doms args d.root → (later : ℕ) (other : Dom) (more : Typed) → 0 < later
      → slice_get (d ∷ doms) later ≡ Some other → slice_get (a ∷ args) later ≡ Some more → other.root ≢ d.root
  later_last d a doms args none zero other more less of argument = absurd (omega (arith, less))
  later_last d a doms args none (suc j) other more less of argument = λ same. none (record { place = j; dom = other; e = more; of = of; argument = argument; root = same })

  shift_last : (d : Dom) (a : Typed) (doms : List Dom) (args : List Typed) (x : TakenAt doms args) → (later : ℕ) (other : Dom) (more : Typed) → suc x.place < later
      → slice_get (d ∷ doms) later ≡ Some other → slice_get (a ∷ args) later ≡ Some more → other.root ≢ x.dom.root
  shift_last d a doms args x zero other more less of argument = absurd (omega (arith, less))
  shift_last d a doms args x (suc j) other more less of argument = x.last j other more (omega (arith, less)) of argument

  taken_at : (doms : List Dom) (args : List Typed) → TakenAt doms args ⊎ ¬ TakenAt doms args
  taken_at [] args = inr (λ x. none_some x.dom x.of)
  taken_at (d ∷ doms) [] = inr (λ x. none_some x.e x.argument)
  taken_at (d ∷ doms) (a ∷ args) = by (taken_at doms args) (target_or_not program called d.root) (alone_or_not a v) (again_or_not doms args d.root)
    where
      behind : (k : ℕ) (x : Dom) (e : Typed) → slice_get (d ∷ doms) k ≡ Some x → IsTargetVariable program called x.root
          → ((later : ℕ) (other : Dom) (more : Typed) → k < later → slice_get (d ∷ doms) later ≡ Some other → slice_get (a ∷ args) later ≡ Some more → other.root ≢ x.root)
          → slice_get (a ∷ args) k ≡ Some e → IsVariable e v → (TakenAt doms args → ⊥)
          → (IsTargetVariable program called d.root → IsVariable a v → (RootAgain doms args d.root → ⊥) → ⊥) → ⊥
      behind zero x e of target last argument alone none head =
          let same : d ≡ x = same_Some d x of in
          head (subst (λ (z : Dom). IsTargetVariable program called z.root) (sym same) target) (subst (λ z. IsVariable z v) (sym (same_Some a e argument)) alone)
          (λ again. last (suc again.place) again.dom again.e (omega arith) again.of again.argument (again.root ∙ ap (λ (z : Dom). z.root) same))
      behind (suc k) x e of target last argument alone none head =
          none (record {
            place = k;
            dom = x;
            e = e;
            of = of;
            target = target;
            last = λ later other more less at there. last (suc later) other more (omega (arith, less)) at there;
            argument = argument;
            alone = alone;
          })

      refused : ¬ TakenAt doms args → (IsTargetVariable program called d.root → IsVariable a v → (RootAgain doms args d.root → ⊥) → ⊥) → ¬ TakenAt (d ∷ doms) (a ∷ args)
      refused none head x = behind x.place x.dom x.e x.of x.target x.last x.argument x.alone none head

      by : TakenAt doms args ⊎ ¬ TakenAt doms args → IsTargetVariable program called d.root ⊎ ¬ IsTargetVariable program called d.root → IsVariable a v ⊎ ¬ IsVariable a v
          → RootAgain doms args d.root ⊎ ¬ RootAgain doms args d.root → TakenAt (d ∷ doms) (a ∷ args) ⊎ ¬ TakenAt (d ∷ doms) (a ∷ args)
      by (inl x) target alone again = inl (record {
        place = suc x.place;
        dom = x.dom;
        e = x.e;
        of = x.of;
        target = x.target;
        last = shift_last d a doms args x;
        argument = x.argument;
        alone = x.alone;
      })
      by (inr none) (inr other) alone again = inr (refused none (λ t al ag. other t))
      by (inr none) (inl target) (inr other) again = inr (refused none (λ t al ag. other al))
      by (inr none) (inl target) (inl alone) (inl again) = inr (refused none (λ t al ag. ag again))
      by (inr none) (inl target) (inl alone) (inr last) =
          inl (record { place = 0; dom = d; e = a; of = refl; target = target; last = later_last d a doms args last; argument = refl; alone = alone })

module _ (program : Program) (v : ℕ) where
  abbrev Outcome : List Conj → List Conj → Type 0
  Outcome clause cs = IsTaken program clause v ⊎ ((n : ℕ) (args : List Typed) (called : Rel) → Contains cs (conjuncts.Call n args) → slice_get program.rels n ≡ Some called
      → TakenAt program called v called.domains args → ⊥)

  conjunct_by : (clause cs : List Conj) (n : ℕ) (args : List Typed) → Contains clause (conjuncts.Call n args) → Outcome clause cs → (o : Option Rel) → slice_get program.rels n ≡ o
      → Outcome clause (conjuncts.Call n args ∷ cs)
  conjunct_by clause cs n args there (inl t) o at = inl t
  conjunct_by clause cs n args there (inr none) None at = inr (λ k more called within found x. first k more called within found x)
    where
      first : (k : ℕ) (more : List Typed) (called : Rel) → Contains (conjuncts.Call n args ∷ cs) (conjuncts.Call k more) → slice_get program.rels k ≡ Some called
          → TakenAt program called v called.domains more → ⊥
      first k more called (zero, less, is) found x = none_some called (sym at ∙ ap (slice_get program.rels) (number_is is) ∙ found)
        where
          number_is : conjuncts.Call n args ≡ conjuncts.Call k more → n ≡ k
          number_is h = cc
      first k more called (suc j, less, is) found x = none k more called (j, omega (arith, less), is) found x
  conjunct_by clause cs n args there (inr none) (Some called) at = by (taken_at program called v called.domains args)
    where
      first : ¬ TakenAt program called v called.domains args → (k : ℕ) (more : List Typed) (other : Rel) → Contains (conjuncts.Call n args ∷ cs) (conjuncts.Call k more)
          → slice_get program.rels k ≡ Some other → TakenAt program other v other.domains more → ⊥
      first refused k more other (zero, less, is) found x =
          refused (subst (λ r. TakenAt program r v r.domains args) (same_called other called (sym found ∙ sym (ap (slice_get program.rels) (number_is is)) ∙ at))
          (subst (λ es. TakenAt program other v other.domains es) (sym (args_are is)) x))
        where
          number_is : conjuncts.Call n args ≡ conjuncts.Call k more → n ≡ k
          number_is h = cc

          args_are : conjuncts.Call n args ≡ conjuncts.Call k more → args ≡ more
          args_are h = cc
      first refused k more other (suc j, less, is) found x = none k more other (j, omega (arith, less), is) found x

      by : TakenAt program called v called.domains args ⊎ ¬ TakenAt program called v called.domains args → Outcome clause (conjuncts.Call n args ∷ cs)
      by (inl x) = inl (record {
        called = called;
        dom = x.dom;
        e = x.e;
        argument = record { number = n; args = args; call = there; found = at; place = x.place; of = x.of; target = x.target; last = x.last; argument = x.argument };
        alone = x.alone;
      })
      by (inr refused) = inr (first refused)

  other_by : (clause cs : List Conj) (c : Conj) → ((n : ℕ) (args : List Typed) → c ≡ conjuncts.Call n args → ⊥) → Outcome clause cs → Outcome clause (c ∷ cs)
  other_by clause cs c other (inl t) = inl t
  other_by clause cs c other (inr none) = inr (λ n args called within found x. first n args called within found x)
    where
      first : (n : ℕ) (args : List Typed) (called : Rel) → Contains (c ∷ cs) (conjuncts.Call n args) → slice_get program.rels n ≡ Some called → TakenAt program called v called.domains args → ⊥
      first n args called (zero, less, is) found x = other n args is
      first n args called (suc j, less, is) found x = none n args called (j, omega (arith, less), is) found x

  in_clause : (clause cs : List Conj) → ((c : Conj) → Contains cs c → Contains clause c) → Outcome clause cs
  in_clause clause [] within = inr (λ n args called there found x. nothing n args there)
    where
      nothing : (n : ℕ) (args : List Typed) → Contains [] (conjuncts.Call n args) → ⊥
      nothing n args (k, less, is) = omega (arith, less)
  in_clause clause (conjuncts.Call n args ∷ cs) within =
      conjunct_by clause cs n args (within (conjuncts.Call n args) (contains_first (conjuncts.Call n args) cs)) (in_clause clause cs (λ c w. within c (contains_later c (conjuncts.Call n args) cs w)))
      (slice_get program.rels n) refl
  in_clause clause (conjuncts.Cond e ∷ cs) within = other_by clause cs (conjuncts.Cond e) (λ n args h. not_call n args h) (in_clause clause cs (λ c w. within c (contains_later c (conjuncts.Cond e) cs w)))
    where
      not_call : (n : ℕ) (args : List Typed) → conjuncts.Cond e ≡ conjuncts.Call n args → ⊥
      not_call n args h = cc
  in_clause clause (conjuncts.Equation w e ∷ cs) within =
      other_by clause cs (conjuncts.Equation w e) (λ n args h. not_call n args h) (in_clause clause cs (λ c u. within c (contains_later c (conjuncts.Equation w e) cs u)))
    where
      not_call : (n : ℕ) (args : List Typed) → conjuncts.Equation w e ≡ conjuncts.Call n args → ⊥
      not_call n args h = cc

  taken_or_not : (clause : List Conj) → IsTaken program clause v ⊎ ¬ IsTaken program clause v
  taken_or_not clause = by (in_clause clause clause (λ c there. there))
    where
      by : Outcome clause clause → IsTaken program clause v ⊎ ¬ IsTaken program clause v
      by (inl t) = inl t
      by (inr none) =
          inr (λ t. let a = t.argument in none a.number a.args t.called a.call a.found
          (record { place = a.place; dom = t.dom; e = t.e; of = a.of; target = a.target; last = a.last; argument = a.argument; alone = t.alone }))

module _ (metas : List MetaDesc) (program : Program) (formed : IsWellFormed metas program) (enforceable : IsEnforceable metas program) (place : ℕ) (rel : Rel)
    (found : slice_get program.rels place ≡ Some rel) (towards : rel.in_direction ≡ true) (v : ℕ) (u : IsUniversalTarget program rel v) where
  universal : IsUniversal program rel v
  universal =
      let less : v < length rel.vars = ((formed.numbers.relations rel (contains_at program.rels place rel found)).vars).universal v u.universal in
      let var = found_within rel.vars v less in
      ((formed.relations place rel found).variables.universal v var.0 var.1).0 u.universal

  target : IsTargetVariable program rel v
  target = by (slice_get rel.vars v) refl u.target
    where
      by : (o : Option Var) → slice_get rel.vars v ≡ o → is_of_target program o ≡ true → IsTargetVariable program rel v
      by None at h = absurd (true≢false (sym h))
      by (Some var) at h = record { var = var; found = at; target = target_is program.target var.model h }

  pub universal_taken : IsTaken program rel.whens v
  universal_taken = by (taken_or_not program v rel.whens)
    where
      by : IsTaken program rel.whens v ⊎ ¬ IsTaken program rel.whens v → IsTaken program rel.whens v
      by (inl t) = t
      by (inr none) = absurd (enforceable place 9 (record { rel = rel; found = found; in_direction = towards; breaks = Breaks.e9 refl (HasUnmatchedCall.variable v universal target none) }))
