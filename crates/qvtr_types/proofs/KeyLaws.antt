-- Keys that are resolved, and the faults that stand in keys.
use Rattle.std.proofs.Common.{◌≡◌, ◌<◌, ℕ, List, [], ◌∷◌, ◌++◌, ◌+◌, Bool, true, false, ◌||◌, arith, refl, sym, ap, subst, ◌∙◌, length, get_or, take, true≢false}
use Rattle.std.specs.Prelude.{Some, nat_eq, AllPairs}
use Rattle.std.specs.List.{AllZip}
use Rattle.std.proofs.lemmas.Option.{same_Some, slice_get_within, slice_get-get_or, get_or_from_slice_get}
use Rattle.std.proofs.lemmas.Bool.{eqb-true, eq-eqb}
use Rattle.std.proofs.lemmas.List.{take_more, length-take-le, get_or-take}
use Rattle.std.proofs.lemmas.List.Folds.{Any-from_list_any, list_any_at, list_any-append}
use Rattle.std.proofs.lemmas.List.Quantifiers.{all_pairs_push}
use Rattle.mof_metamodel.specs.declared.desc.ClassId.{ClassId}
use Rattle.mof_metamodel.specs.Metamodels.{class_count}
use Rattle.qv_syntax.specs.declared.script.KeyTree.{KeyTree}
use Rattle.qv_syntax.specs.declared.program.Key.{Key}
use Rattle.qv_syntax.specs.Keys.{AreOfTwoClasses}
use Rattle.ocl_environments.specs.declared.fault.TypeFault.{TypeFault}
use Rattle.ocl_environments.specs.Environments.{Environment, no_meta}
use Rattle.ocl_environments.specs.Classifiers.{named_class}
use Rattle.ocl_types.proofs.ClassifierLaws.{class_there}
use Rattle.std.proofs.lemmas.Bool.{and_from}
use Rattle.std.proofs.lemmas.Bool.{and_parts}
use Rattle.script_scopes.specs.Declarations.{key_class}
use Rattle.script_scopes.specs.Keys.{IsKey, StandsInKey, IsSecondKey, AreKeys, StandsInKeys}
use Rattle.qvtr_types.specs.ClassPlaces.{IsClassAt}
use Rattle.qvtr_types.specs.KeySearches.{IsLacking, AreEachKeys, StandsInOneKey, IsSecond, IsSecondFault}
use Rattle.qvtr_types.specs.ClassSets.{one_class, has_key}
use Rattle.qvtr_types.proofs.ZipLemmas.{zip_left, zip_right}

-- a class that is named is one of the metamodels
pub class_at : (env : Environment) (path : List (List ℕ)) (c : ℕ × ClassId) → named_class env path ≡ Some c → IsClassAt env.metas c
class_at env path c is =
    let there = class_there env path c is in
    (slice_get_within env.metas c.0 there.meta there.found, subst (λ d. c.1.0 < class_count d) (sym (get_or_from_slice_get env.metas c.0 there.meta no_meta there.found)) there.within)

-- ---- faults of one key

pub lacking_stands : (env : Environment) (tree : KeyTree) (class : ℕ × ClassId) (f : TypeFault) → key_class env tree ≡ Some class → IsLacking env class tree.props f → StandsInKey env tree f
lacking_stands env tree class f is h = subst (StandsInKey env tree) (sym h.is) (StandsInKey.unknown_property class h.name is h.among h.lacks)

-- ---- two keys of one class

module _ (env : Environment) (trees : List KeyTree) (keys : List Key) (each : AllZip (IsKey env) trees keys) where
  pub second_stands : (f : TypeFault) → IsSecondFault trees keys f → StandsInKeys env trees f
  second_stands f h =
      let (tree, found, is) = zip_left (IsKey env) trees keys h.place h.second.key each h.second.found in
      let (first, found_first, is_first) = zip_left (IsKey env) trees keys h.second.earlier h.second.first each h.second.found_first in
      let same : tree ≡ h.tree = same_Some tree h.tree (sym found ∙ h.found) in
      let one : (h.second.first.meta, h.second.first.class) ≡ (h.second.key.meta, h.second.key.class) = λ i. (h.second.meta i, h.second.class i) in
      subst (StandsInKeys env trees) (sym h.is) (StandsInKeys.second h.tree (record {
        place = h.place;
        earlier = h.second.earlier;
        order = h.second.order;
        first = first;
        class = (h.second.key.meta, h.second.key.class);
        found = h.found;
        found_first = found_first;
        same = subst (λ (t : KeyTree). key_class env t ≡ Some (h.second.key.meta, h.second.key.class)) same is.class;
        same_first = is_first.class ∙ ap Some one;
      }))

  pub none_second : AllPairs AreOfTwoClasses keys → (tree : KeyTree) → ¬ IsSecondKey env trees tree
  none_second apart tree h =
      let (key, found, is) = zip_right (IsKey env) trees keys h.place tree each h.found in
      let (first, found_first, is_first) = zip_right (IsKey env) trees keys h.earlier h.first each h.found_first in
      let one : (first.meta, first.class) ≡ (key.meta, key.class) =
      same_Some (first.meta, first.class) h.class (sym is_first.class ∙ h.same_first) ∙ sym (same_Some (key.meta, key.class) h.class (sym is.class ∙ h.same)) in
      subst (λ (k : Key). AreOfTwoClasses k key) (get_or_from_slice_get keys h.earlier first key found_first)
      (subst (λ (k : Key). AreOfTwoClasses (get_or keys h.earlier key) k) (get_or_from_slice_get keys h.place key key found)
      (apart h.earlier h.place key h.order (slice_get_within keys h.place key found)))
      (ap (λ (c : ℕ × ClassId). c.0) one) (ap (λ (c : ℕ × ClassId). c.1) one)

-- keys that are resolved one by one, of which no two are of one class
pub all_keys : (env : Environment) (trees : List KeyTree) (keys : List Key) → AreEachKeys env trees keys → AllPairs AreOfTwoClasses keys → AreKeys env trees keys
all_keys env trees keys are apart = record { each = are.each; shaped = are.shaped; one = none_second env trees keys are.each apart }

pub one_key_stands : (env : Environment) (trees : List KeyTree) (f : TypeFault) → StandsInOneKey env trees f → StandsInKeys env trees f
one_key_stands env trees f h = StandsInKeys.key h.tree f h.among h.stands

-- ---- classes that were met

same_class : (a b : ℕ × ℕ) → one_class a b ≡ true → (a.0 ≡ b.0) × (a.1 ≡ b.1)
same_class a b is = let two = and_parts (nat_eq a.0 b.0) (nat_eq a.1 b.1) is in (eqb-true a.0 b.0 two.0, eqb-true a.1 b.1 two.1)

is_same_class : (a b : ℕ × ℕ) → a.0 ≡ b.0 → a.1 ≡ b.1 → one_class a b ≡ true
is_same_class a b one other = and_from (nat_eq a.0 b.0) (nat_eq a.1 b.1) (eq-eqb a.0 b.0 one) (eq-eqb a.1 b.1 other)

either_way : (a b : Bool) → (a || b) ≡ (b || (a || false))
either_way true true = refl
either_way true false = refl
either_way false true = refl
either_way false false = refl

module _ (keys : List Key) (i : ℕ) (key : Key) (within : i < length keys) (is : key ≡ get_or keys i key) where
  abbrev class : ℕ × ℕ
  class = (key.meta, key.class.0)

  grown : take (i + 1) keys ≡ take i keys ++ key ∷ []
  grown = take_more keys i key within ∙ ap (λ (k : Key). take i keys ++ k ∷ []) (sym is)

  pub met_more : (old new : ℕ × ℕ → Bool) → ((q : ℕ × ℕ) → old q ≡ has_key (take i keys) q) → ((q : ℕ × ℕ) → new q ≡ (one_class class q || old q)) → (q : ℕ × ℕ) → new q ≡ has_key (take (i + 1) keys) q
  met_more old new before more q =
      more q ∙ ap (λ b. one_class class q || b) (before q) ∙ either_way (one_class class q) (has_key (take i keys) q)
      ∙ sym (ap (λ (ks : List Key). has_key ks q) grown ∙ list_any-append (λ (k : Key). one_class (k.meta, k.class.0) q) (take i keys) (key ∷ []))

  pub second_found : has_key (take i keys) class ≡ true → IsSecond keys i
  second_found there =
      let (k, first, inside, at, same) = Any-from_list_any (λ (x : Key). one_class (x.meta, x.class.0) class) (take i keys) there in
      let before : k < i = omega (arith, inside, length-take-le i keys (omega (arith, within))) in
      let two = same_class (first.meta, first.class.0) class same in
      record {
        earlier = k;
        order = before;
        key = key;
        first = first;
        found = slice_get-get_or keys i key within ∙ ap Some (sym is);
        found_first = slice_get-get_or keys k first (omega (arith, before, within)) ∙ ap Some (sym (get_or-take i keys k first before) ∙ at);
        meta = two.0;
        class = ap (λ (n : ℕ). record { 0 = n }) two.1;
      }

  pub apart_more : has_key (take i keys) class ≡ false → AllPairs AreOfTwoClasses (take i keys) → AllPairs AreOfTwoClasses (take (i + 1) keys)
  apart_more new apart = subst (AllPairs AreOfTwoClasses) (sym grown)
      (all_pairs_push AreOfTwoClasses (take i keys) key apart
      (λ k d inside meta class_is. true≢false (sym (list_any_at (λ (x : Key). one_class (x.meta, x.class.0) class) (take i keys) k d inside
      (is_same_class ((get_or (take i keys) k d).meta, (get_or (take i keys) k d).class.0) class meta (ap (λ (c : ClassId). c.0) class_is))) ∙ new)))
