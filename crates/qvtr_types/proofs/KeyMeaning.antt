-- Keys that are resolved are those of a program (each has properties of its class, each once), and no fault stands in them.
use Rattle.std.proofs.Common.{◌≡◌, ◌≢◌, ◌<◌, ℕ, zero, suc, List, [], ◌∷◌, refl, sym, ap, subst, ◌∙◌, length, get_or, arith}
use Rattle.std.specs.Prelude.{Some, slice_get, Contains, AllPairs}
use Rattle.std.specs.List.{AllZip}
use Rattle.std.specs.Option.{option_map}
use Rattle.std.proofs.lemmas.Option.{same_Some, none-some, slice_get_within, slice_get-get_or, get_or_from_slice_get, slice_get-map}
use Rattle.mof_metamodel.specs.declared.desc.MetaDesc.{MetaDesc}
use Rattle.mof_metamodel.specs.declared.desc.ClassId.{ClassId}
use Rattle.mof_metamodel.specs.declared.desc.PropId.{PropId}
use Rattle.mof_metamodel.specs.Metamodels.{props_of, prop_at}
use Rattle.mof_metamodel.specs.Members.{IsPropNamed}
use Rattle.mof_metamodel.proofs.MetaLaws.{prop_named}
use Rattle.qv_syntax.specs.declared.name.Name.{Name}
use Rattle.qv_syntax.specs.declared.script.KeyTree.{KeyTree}
use Rattle.qv_syntax.specs.declared.program.Key.{Key}
use Rattle.qv_syntax.specs.declared.program.Program.{Program}
use Rattle.qv_syntax.specs.Keys.{AreOfTwoClasses}
use Rattle.qv_syntax.specs.Keys as program
use Rattle.qv_syntax.specs.Types.{IsClassIn}
use Rattle.ocl_environments.specs.declared.fault.TypeFault.{TypeFault}
use Rattle.ocl_environments.specs.Environments.{Environment, meta_at, no_meta}
use Rattle.ocl_environments.specs.Naming.{names_of, texts_of}
use Rattle.ocl_types.proofs.ClassifierLaws.{class_there}
use Rattle.script_scopes.specs.Declarations.{key_property}
use Rattle.script_scopes.specs.Keys.{IsKey, IsShaped, StandsInKey, AreKeys, StandsInKeys}
use Rattle.qvtr_types.specs.KeySearches.{AreEachKeys}
use Rattle.qvtr_types.proofs.ZipLemmas.{zip_left, zip_right}

-- the text of a name stands at its place
text_at : (names : List Name) (i : ℕ) (name : Name) → slice_get names i ≡ Some name → slice_get (texts_of names) i ≡ Some name.text
text_at names i name found = slice_get-map (λ (n : Name). n.text) names i ∙ ap (option_map (λ (n : Name). n.text)) found

-- a text of names is that of a name
name_with : (names : List Name) (text : List ℕ) → Contains (texts_of names) text → (i : ℕ) × (name : Name) × (slice_get names i ≡ Some name) × (name.text ≡ text)
name_with [] text (i, l, at) = absurd (omega arith)
name_with (n ∷ names) text (zero, l, at) = (zero, n, refl, at)
name_with (n ∷ names) text (suc i, l, at) = let (k, name, found, is) = name_with names text (i, omega arith, at) in (suc k, name, found, is)

-- ---- one key

module _ (env : Environment) (tree : KeyTree) (key : Key) (is : IsKey env tree key) where
  abbrev HasNumber : Name → PropId → Type 0
  HasNumber name prop = key_property env (key.meta, key.class) name.text ≡ Some prop.0

  abbrev desc : MetaDesc
  desc = meta_at env.metas key.meta

  class_in : IsClassIn env.metas key.meta key.class
  class_in = class_there env (names_of tree.class) (key.meta, key.class) is.class

  same_meta : desc ≡ class_in.meta
  same_meta = get_or_from_slice_get env.metas key.meta class_in.meta no_meta class_in.found

  named : (name : Name) (p : PropId) → HasNumber name p → IsPropNamed desc key.class.0 name.text p
  named name p found = prop_named desc key.class.0 name.text (Some p) (sym found)

  own : (p : PropId) → Contains key.props p → Contains (props_of class_in.meta key.class.0) p.0
  own p (k, l, at) =
      let (name, found, number) = zip_left HasNumber tree.props key.props k p is.props (slice_get-get_or key.props k p l ∙ ap Some at) in
      subst (λ (d : MetaDesc). Contains (props_of d key.class.0) p.0) same_meta (named name p number).has

  once : IsShaped tree → AllPairs (λ p q. p ≢ q) key.props
  once shaped i j d order within same =
      let l : i < length key.props = omega arith in
      let (one, found, number) = zip_left HasNumber tree.props key.props i (get_or key.props i d) is.props (slice_get-get_or key.props i d l) in
      let (other, found_other, number_other) = zip_left HasNumber tree.props key.props j (get_or key.props j d) is.props (slice_get-get_or key.props j d within) in
      let texts : other.text ≡ one.text =
      sym (named other (get_or key.props j d) number_other).named ∙ ap (λ (p : PropId). (prop_at desc p.0).name) (sym same) ∙ (named one (get_or key.props i d) number).named in
      shaped.once one.text (record {
        first = i;
        second = j;
        order = order;
        one = text_at tree.props i one found;
        other = text_at tree.props j other found_other ∙ ap Some texts;
      })

  some : IsShaped tree → key.props ≢ []
  some shaped none = shaped.some (by tree.props key.props is.props none)
    where
      by : (names : List Name) (props : List PropId) → AllZip HasNumber names props → props ≡ [] → names ≡ []
      by [] props all none = refl
      by (n ∷ names) [] all none = absurd all
      by (n ∷ names) (p ∷ props) all none = absurd (cc)

  pub key_is_meant : IsShaped tree → program.IsKey env.metas key
  key_is_meant shaped = record { class = class_in; some = some shaped; own = own; once = once shaped }

  -- no fault stands in it
  pub no_key_fault : IsShaped tree → (f : TypeFault) → StandsInKey env tree f → ⊥
  no_key_fault shaped _ (StandsInKey.unknown_class none) = none-some (key.meta, key.class) (sym none ∙ is.class)
  no_key_fault shaped _ (StandsInKey.unknown_property class text found among none) =
      let (i, name, at, same) = name_with tree.props text among in
      let (p, found_prop, number) = zip_right HasNumber tree.props key.props i name is.props at in
      none-some p.0 (sym (ap (λ (c : ℕ × ClassId). key_property env c text) (same_Some (key.meta, key.class) class (sym is.class ∙ found)) ∙ none) ∙ ap (key_property env (key.meta, key.class)) (sym same) ∙ number)
  no_key_fault shaped _ (StandsInKey.no_property none) = shaped.some none
  no_key_fault shaped _ (StandsInKey.repeated name twice) = shaped.once name twice

-- ---- all keys

module _ (env : Environment) (trees : List KeyTree) (keys : List Key) (are : AreEachKeys env trees keys) where
  shape : (i : ℕ) (tree : KeyTree) → slice_get trees i ≡ Some tree → IsShaped tree
  shape i tree found = subst IsShaped (get_or_from_slice_get trees i tree tree found) (are.shaped i tree (slice_get_within trees i tree found))

  meant : (key : Key) → Contains keys key → program.IsKey env.metas key
  meant key (k, l, at) =
      let (tree, found, is) = zip_left (IsKey env) trees keys k key are.each (slice_get-get_or keys k key l ∙ ap Some at) in
      key_is_meant env tree key is (shape k tree found)

  pub keys_are_meant : AllPairs AreOfTwoClasses keys → (p : Program) → p.keys ≡ keys → program.AreKeys env.metas p
  keys_are_meant apart p same = record {
    keys = λ key has. meant key (subst (λ (ks : List Key). Contains ks key) same has);
    classes = subst (AllPairs AreOfTwoClasses) (sym same) apart;
  }

  one_faultless : (tree : KeyTree) (f : TypeFault) → Contains trees tree → StandsInKey env tree f → ⊥
  one_faultless tree f (k, l, at) stands =
      let found : slice_get trees k ≡ Some tree = slice_get-get_or trees k tree l ∙ ap Some at in
      let (key, there, is) = zip_right (IsKey env) trees keys k tree are.each found in
      no_key_fault env tree key is (shape k tree found) f stands

-- no fault stands in keys that are resolved
pub no_keys_fault : (env : Environment) (trees : List KeyTree) (keys : List Key) → AreKeys env trees keys → (f : TypeFault) → StandsInKeys env trees f → ⊥
no_keys_fault env trees keys are _ (StandsInKeys.key tree f among stands) = one_faultless env trees keys (record { each = are.each; shaped = are.shaped }) tree f among stands
no_keys_fault env trees keys are _ (StandsInKeys.second tree later) = are.one tree later
