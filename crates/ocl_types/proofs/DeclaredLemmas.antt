-- A type that is written is one that a variable may have.
use Rattle.std.proofs.Common.{if◌then◌else◌, ◌≡◌, ◌<◌, ℕ, ◌+◌, Bool, true, false, List, [], ◌∷◌, ◌++◌, Option, None, Some, Ok, Err, Result, length, get_or, refl, sym, ◌∙◌, ap, subst, append_assoc, length-append, arith}
use Rattle.std.specs.Prelude.{nat_lt, IsTrue, IfOk}
use Rattle.std.specs.Option.{option_map}
use Rattle.std.proofs.lemmas.Bool.{false≢true, lt-ltb}
use Rattle.std.proofs.lemmas.Bool.Decides.{nat_tests}
use Rattle.std.proofs.lemmas.List.Quantifiers.{position-Some}
use Rattle.mof_metamodel.specs.declared.desc.MetaDesc.{MetaDesc}
use Rattle.mof_metamodel.specs.declared.desc.ClassDesc.{ClassDesc}
use Rattle.mof_metamodel.specs.declared.desc.EnumDesc.{EnumDesc}
use Rattle.mof_metamodel.specs.Metamodels.{same_name, class_count, enum_count, class_number, enum_number, no_class, no_enum}
use Rattle.qv_syntax.specs.declared.ty.Ty.{Ty, Ty-F, map-Ty, out-Ty, fold-Ty, fold-roll-Ty, fold_out-Ty}
use Rattle.qv_syntax.specs.declared.ty.Ty.TheVariants as types
use Rattle.qv_syntax.specs.declared.ty.Ty.TheOpen as of
use Rattle.qv_syntax.specs.declared.type_tree.Kind.{Kind}
use Rattle.qv_syntax.specs.declared.type_tree.TypeTree.{TypeTree, map-TypeTree, fold-roll-TypeTree, ind-TypeTree}
use Rattle.qv_syntax.specs.declared.type_tree.TypeTree.TheOpen as trees
use Rattle.ocl_environments.specs.declared.classifier.Classifier.{Classifier}
use Rattle.ocl_environments.specs.declared.classifier.Classifier.TheVariants.{Class, Enum}
use Rattle.ocl_environments.specs.declared.classifier.Wanted.{Wanted}
use Rattle.ocl_environments.specs.declared.classifier.Wanted.TheVariants.{Types, Classes, Enums}
use Rattle.ocl_environments.specs.declared.fault.TypeFault.{TypeFault}
use Rattle.ocl_environments.specs.declared.fault.TypeError.{TypeError}
use Rattle.mof_metamodel.specs.Giving.{Gives}
use Rattle.ocl_environments.specs.Environments.{Environment, meta_at, no_meta, is_over, is_over_step, single_step, is_single_value, is_flat_layer, is_flat, is_type}
use Rattle.ocl_environments.specs.Naming.{names_of}
use Rattle.ocl_environments.specs.Classifiers.{class_in, enum_in, is_meant, wanted_classes, wanted_enums, classifiers_in, classifiers_from, path_classifiers, classifier_type, only}
use Rattle.ocl_environments.specs.Written.{fault_in, found_type, collection_of, written, written_step}
use Rattle.ocl_environments.specs.Outcomes.{RuleResult, and_then}
use Rattle.ocl_environments.specs.Agreement.{collection_layer}
use Rattle.ocl_types.specs.TypingScopes.{no_collection, element, flat_by, flat, declared_type}
use Rattle.std.proofs.lemmas.Bool.{and_from}

-- ---- classifiers that are found are there

module _ (whole : List MetaDesc) where
  IsHere : Classifier → Type 0
  IsHere c = is_over whole (classifier_type c) ≡ true

  AreHere : List Classifier → Type 0
  AreHere [] = Unit {0}
  AreHere (c ∷ cs) = IsHere c × AreHere cs

  here_append : (cs ds : List Classifier) → AreHere cs → AreHere ds → AreHere (cs ++ ds)
  unfolding AreHere
  here_append [] ds one other = other
  here_append (c ∷ cs) ds one other = (one.0, here_append cs ds one.1 other)

  class_here : (m c : ℕ) → m < length whole → c < class_count (meta_at whole m) → IsHere (Class m (record { 0 = c }))
  unfolding IsHere
  class_here m c inside within =
      ap (is_over whole) (sym (types.rolls-Class m (record { 0 = c }))) ∙ fold-roll-Ty Bool (is_over_step whole) (of.Class m (record { 0 = c }))
      ∙ and_from (nat_lt m (length whole)) (nat_lt c (class_count (meta_at whole m))) (lt-ltb m (length whole) inside) (lt-ltb c (class_count (meta_at whole m)) within)

  enum_here : (m e : ℕ) → m < length whole → e < enum_count (meta_at whole m) → IsHere (Enum m (record { 0 = e }))
  unfolding IsHere
  enum_here m e inside within =
      ap (is_over whole) (sym (types.rolls-Enum m (record { 0 = e }))) ∙ fold-roll-Ty Bool (is_over_step whole) (of.Enum m (record { 0 = e }))
      ∙ and_from (nat_lt m (length whole)) (nat_lt e (enum_count (meta_at whole m))) (lt-ltb m (length whole) inside) (lt-ltb e (enum_count (meta_at whole m)) within)

  module _ (m : ℕ) (meta : MetaDesc) (inside : m < length whole) (is : meta ≡ meta_at whole m) (name : List ℕ) where
    classes_here : (wanted : Wanted) (o : Option ℕ) → ((c : ℕ) → o ≡ Some c → c < class_count (meta_at whole m))
        → AreHere (wanted_classes wanted (option_map (λ c. Class m (record { 0 = c })) o))
    unfolding AreHere
    classes_here Types None within = tt
    classes_here Types (Some c) within = (class_here m c inside (within c refl), tt)
    classes_here Classes None within = tt
    classes_here Classes (Some c) within = (class_here m c inside (within c refl), tt)
    classes_here Enums o within = tt

    enums_here : (wanted : Wanted) (o : Option ℕ) → ((e : ℕ) → o ≡ Some e → e < enum_count (meta_at whole m))
        → AreHere (wanted_enums wanted (option_map (λ e. Enum m (record { 0 = e })) o))
    unfolding AreHere
    enums_here Types None within = tt
    enums_here Types (Some e) within = (enum_here m e inside (within e refl), tt)
    enums_here Enums None within = tt
    enums_here Enums (Some e) within = (enum_here m e inside (within e refl), tt)
    enums_here Classes o within = tt

    in_here : (wanted : Wanted) (names : List (List ℕ)) (qualifier : Option (List ℕ)) → AreHere (classifiers_in wanted names qualifier name m meta)
    unfolding AreHere
    in_here wanted names qualifier = by (is_meant names qualifier m)
      where
        class_within : (c : ℕ) → class_number meta name ≡ Some c → c < class_count (meta_at whole m)
        class_within c found = subst (λ d. c < class_count d) is (position-Some (λ (d : ClassDesc). same_name name d.name) meta.classes c no_class found).0

        enum_within : (e : ℕ) → enum_number meta name ≡ Some e → e < enum_count (meta_at whole m)
        enum_within e found = subst (λ d. e < enum_count d) is (position-Some (λ (d : EnumDesc). same_name name d.name) meta.enums e no_enum found).0

        by : (meant : Bool) → AreHere (if meant then wanted_classes wanted (class_in m meta name) ++ wanted_enums wanted (enum_in m meta name) else [])
        by true = here_append (wanted_classes wanted (class_in m meta name)) (wanted_enums wanted (enum_in m meta name))
            (classes_here wanted (class_number meta name) class_within) (enums_here wanted (enum_number meta name) enum_within)
        by false = tt

  at_seam : (before : List MetaDesc) (meta : MetaDesc) (metas : List MetaDesc) → get_or (before ++ meta ∷ metas) (length before) no_meta ≡ meta
  at_seam [] meta metas = refl
  at_seam (b ∷ before) meta metas = at_seam before meta metas

  from_here : (wanted : Wanted) (before metas : List MetaDesc) (names : List (List ℕ)) (qualifier : Option (List ℕ)) (name : List ℕ) (m : ℕ)
      → before ++ metas ≡ whole → m ≡ length before → AreHere (classifiers_from wanted m metas names qualifier name)
  unfolding AreHere classifiers_from
  from_here wanted before [] names qualifier name m is at = tt
  from_here wanted before (meta ∷ metas) names qualifier name m is at =
      let long = length-append before (meta ∷ metas) in
      let count = ap length is in
      let inside : m < length whole = omega (arith, long, count, at) in
      let here : meta ≡ meta_at whole m = sym (at_seam before meta metas) ∙ ap (λ ms. get_or ms (length before) no_meta) is ∙ ap (λ k. get_or whole k no_meta) (sym at) in
      let more = length-append before (meta ∷ []) in
      here_append (classifiers_in wanted names qualifier name m meta) (classifiers_from wanted (m + 1) metas names qualifier name)
      (in_here m meta inside here name wanted names qualifier)
      (from_here wanted (before ++ meta ∷ []) metas names qualifier name (m + 1) (append_assoc before (meta ∷ []) metas ∙ is) (omega (arith, at, more)))

  path_here : (wanted : Wanted) (names path : List (List ℕ)) → AreHere (path_classifiers wanted whole names path)
  unfolding AreHere path_classifiers
  path_here wanted names [] = tt
  path_here wanted names (c ∷ []) = from_here wanted [] whole names None c 0 refl refl
  path_here wanted names (m ∷ c ∷ []) = from_here wanted [] whole names (Some m) c 0 refl refl
  path_here wanted names (a ∷ b ∷ c ∷ more) = tt

  some_some : {X : Type 0} (x y : X) → Some x ≡ Some y → x ≡ y
  some_some x y h = cc

  only_here : (cs : List Classifier) (c : Classifier) → AreHere cs → only cs ≡ Some c → IsHere c
  unfolding AreHere
  only_here [] c here is = absurd (cc)
  only_here (d ∷ []) c here is = subst IsHere (some_some d c is) here.0
  only_here (d ∷ e ∷ cs) c here is = absurd (cc)

-- ---- types that are written

-- null is no part of the type
abbrev full_step : of.Ty-F Bool → Bool
full_step of.Str = true
full_step of.Int = true
full_step of.Bool = true
full_step (of.Enum m e) = true
full_step (of.Class m c) = true
full_step (of.Coll kind inner) = inner
full_step of.Null = false

abbrev is_full : Ty → Bool
is_full = fold-Ty Bool full_step

record IsSound (metas : List MetaDesc) (ty : Ty) : Type 0 where
  pub over : is_over metas ty ≡ true
  pub full : is_full ty ≡ true

abbrev answered : Ty → Result Ty TypeFault
answered t = Ok t

ok_same : (t ty : Ty) → answered t ≡ Ok ty → t ≡ ty
ok_same t ty h = cc

module _ (env : Environment) where
  classifier_full : (c : Classifier) → is_full (classifier_type c) ≡ true
  classifier_full (Class m c) = ap is_full (sym (types.rolls-Class m c)) ∙ fold-roll-Ty Bool full_step (of.Class m c)
  classifier_full (Enum m e) = ap is_full (sym (types.rolls-Enum m e)) ∙ fold-roll-Ty Bool full_step (of.Enum m e)

  named_sound : (names : List (List ℕ)) (o : Option Classifier) → only (path_classifiers Types env.metas env.names names) ≡ o → (ty : Ty)
      → found_type names (option_map classifier_type o) ≡ Ok ty → IsSound env.metas ty
  unfolding IsHere
  named_sound names None is ty h = absurd (cc)
  named_sound names (Some c) is ty h =
      let same : classifier_type c ≡ ty = ok_same (classifier_type c) ty h in
      subst (IsSound env.metas) same (record { over = only_here env.metas (path_classifiers Types env.metas env.names names) c (path_here env.metas Types env.names names) is; full = classifier_full c })

  abbrev IsWrittenSound : TypeTree → Type 0
  IsWrittenSound tree = (ty : Ty) → written env tree ≡ Ok ty → IsSound env.metas ty

  coll_sound : (kind : Kind) (r : Result Ty TypeFault) → ((t : Ty) → r ≡ Ok t → IsSound env.metas t) → (ty : Ty) → collection_of kind r ≡ Ok ty → IsSound env.metas ty
  coll_sound kind (Ok t) sound ty h =
      let s = sound t refl in
      subst (IsSound env.metas) (ok_same (types.Coll kind t) ty h) (record {
        over = ap (is_over env.metas) (sym (types.rolls-Coll kind t)) ∙ fold-roll-Ty Bool (is_over_step env.metas) (of.Coll kind t) ∙ s.over;
        full = ap is_full (sym (types.rolls-Coll kind t)) ∙ fold-roll-Ty Bool full_step (of.Coll kind t) ∙ s.full;
      })
  coll_sound kind (Err f) sound ty h = absurd (cc)

  abbrev Held : Type 0
  Held = (t : TypeTree) × IsWrittenSound t

  tree_formed : (y : trees.TypeTree-F Held) (ty : Ty) → written_step env (map-TypeTree TypeTree (Result Ty TypeFault) (written env) (map-TypeTree Held TypeTree (λ h. h.0) y)) ≡ Ok ty → IsSound env.metas ty
  tree_formed (trees.Str span) ty h = subst (IsSound env.metas) (ok_same types.Str ty h) (record {
    over = ap (is_over env.metas) (sym types.rolls-Str) ∙ fold-roll-Ty Bool (is_over_step env.metas) of.Str;
    full = ap is_full (sym types.rolls-Str) ∙ fold-roll-Ty Bool full_step of.Str;
  })
  tree_formed (trees.Int span) ty h = subst (IsSound env.metas) (ok_same types.Int ty h) (record {
    over = ap (is_over env.metas) (sym types.rolls-Int) ∙ fold-roll-Ty Bool (is_over_step env.metas) of.Int;
    full = ap is_full (sym types.rolls-Int) ∙ fold-roll-Ty Bool full_step of.Int;
  })
  tree_formed (trees.Bool span) ty h = subst (IsSound env.metas) (ok_same types.Bool ty h) (record {
    over = ap (is_over env.metas) (sym types.rolls-Bool) ∙ fold-roll-Ty Bool (is_over_step env.metas) of.Bool;
    full = ap is_full (sym types.rolls-Bool) ∙ fold-roll-Ty Bool full_step of.Bool;
  })
  tree_formed (trees.Named path) ty h = named_sound (names_of path) (only (path_classifiers Types env.metas env.names (names_of path))) refl ty h
  tree_formed (trees.Coll kind inner span) ty h = coll_sound kind (written env inner.0) inner.1 ty h

  written_sound : (tree : TypeTree) → IsWrittenSound tree
  written_sound = ind-TypeTree IsWrittenSound (λ x y made ty h.
      tree_formed y ty (ap (λ v. written_step env (map-TypeTree TypeTree (Result Ty TypeFault) (written env) v)) made
      ∙ sym (fold-roll-TypeTree (Result Ty TypeFault) (written_step env) x) ∙ h))

  -- ---- none is a collection of collections

  single_by : (inner ty : Ty) (l : of.Ty-F Ty) → out-Ty inner ≡ l → is_full inner ≡ true → (r : Ty) → no_collection env.metas inner (collection_layer l) ≡ Ok r
      → single_step (map-Ty Ty Bool is_single_value l) ≡ true
  single_by inner ty of.Str is full r h = refl
  single_by inner ty of.Int is full r h = refl
  single_by inner ty of.Bool is full r h = refl
  single_by inner ty (of.Enum m e) is full r h = refl
  single_by inner ty (of.Class m c) is full r h = refl
  single_by inner ty (of.Coll kind more) is full r h = absurd (cc)
  single_by inner ty of.Null is full r h = absurd (false≢true (ap (λ l. full_step (map-Ty Ty Bool is_full l)) (sym is) ∙ sym (fold_out-Ty Bool full_step inner) ∙ full))

  then_flat : (t ty : Ty) (r : RuleResult Ty) → and_then r (λ of. Ok t) ≡ Ok ty → (s : Ty) × (r ≡ Ok s) × (t ≡ ty)
  then_flat t ty (Ok s) h = (s, refl, ok_same t ty h)
  then_flat t ty (Err f) h = absurd (cc)

  flat_here : (t : Ty) (l : of.Ty-F Ty) → out-Ty t ≡ l → is_full t ≡ true → (ty : Ty) → flat_by env.metas t (collection_layer l) ≡ Ok ty → (t ≡ ty) × (is_flat_layer l ≡ true)
  flat_here t of.Str is full ty h = (ok_same t ty h, refl)
  flat_here t of.Int is full ty h = (ok_same t ty h, refl)
  flat_here t of.Bool is full ty h = (ok_same t ty h, refl)
  flat_here t (of.Enum m e) is full ty h = (ok_same t ty h, refl)
  flat_here t (of.Class m c) is full ty h = (ok_same t ty h, refl)
  flat_here t (of.Coll kind inner) is full ty h =
      let o = then_flat t ty (element env.metas inner) h in
      let whole : is_full inner ≡ true = ap (λ l. full_step (map-Ty Ty Bool is_full l)) (sym is) ∙ sym (fold_out-Ty Bool full_step t) ∙ full in
      (o.2, fold_out-Ty Bool single_step inner ∙ single_by inner t (out-Ty inner) refl whole o.0 o.1)
  flat_here t of.Null is full ty h = absurd (false≢true (ap (λ l. full_step (map-Ty Ty Bool is_full l)) (sym is) ∙ sym (fold_out-Ty Bool full_step t) ∙ full))

  declared_by : (r : Result Ty TypeFault) → ((t : Ty) → r ≡ Ok t → IsSound env.metas t) → (ty : Ty) → and_then r (flat env.metas) ≡ Ok ty → is_type env.metas ty ≡ true
  declared_by (Ok t) sound ty h =
      let s = sound t refl in
      let o = flat_here t (out-Ty t) refl s.full ty h in
      subst (λ u. is_type env.metas u ≡ true) o.0 (and_from (is_over env.metas t) (is_flat t) s.over o.1)
  declared_by (Err f) sound ty h = absurd (cc)

  pub declared_is_type : (tree : TypeTree) (ty : Ty) → declared_type env tree ≡ Ok ty → IsTrue (is_type env.metas ty)
  declared_is_type tree ty h = declared_by (written env tree) (written_sound tree) ty h

-- what a function answers is such a type
pub variable_typed : (r : Result Ty TypeError) (env : Environment) (tree : TypeTree) → Gives fault_in (λ x. x) r (declared_type env tree) → IfOk r (λ ty. IsTrue (is_type env.metas ty))
variable_typed (Ok ty) env tree given = declared_is_type env tree ty given
variable_typed (Err e) env tree given = tt
