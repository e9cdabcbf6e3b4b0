-- What is demanded of a term that an entry makes: its key values.
use Rattle.std.specs.Prelude.{◌≡◌, ◌≢◌, ℕ, zero, suc, Bool, true, false, ◌==◌, List, [], ◌∷◌, map, Option, None, Some, slice_get, Contains, if◌then◌else◌}
use Rattle.std.specs.Option.{option_map, option_map_or, option_and_then}
use Rattle.std.proofs.Common.{refl, ap, sym, ◌∙◌, subst, arith, true≢false}
use Rattle.std.proofs.lemmas.Option.{none-some, same_Some}
use Rattle.std.proofs.lemmas.Bool.{and_parts, eqb-true}
use Rattle.mof_metamodel.specs.declared.desc.MetaDesc.{MetaDesc}
use Rattle.mof_metamodel.specs.declared.desc.PropId.{PropId}
use Rattle.mof_metamodel.specs.Metamodels.{opposite_of}
use Rattle.object_tables.specs.Models.{ModelData}
use Rattle.qv_syntax.specs.declared.program.Program.{Program}
use Rattle.qv_syntax.specs.declared.program.Rel.{Rel}
use Rattle.qvtr_semantics.specs.Outs.{all_given}
use Rattle.template_match.proofs.ListLaws.{contains_left, contains_right, find_some}
use Rattle.repair_semantics.specs.declared.term.Term.{Term}
use Rattle.repair_semantics.specs.declared.term.TermValue.{TermValue}
use Rattle.repair_semantics.specs.declared.entry.Entry.{Entry}
use Rattle.repair_semantics.specs.declared.demand.Demand.{Demand}
use Rattle.repair_semantics.specs.Terms.{term_in}
use Rattle.repair_semantics.specs.EntryValues.{value_of, term_of, Known}
use Rattle.repair_semantics.specs.TargetItems.{Content, TargetItem, variable_of, target_items, target_metamodel}
use Rattle.repair_semantics.specs.Making.{content_value, first_item, item_around, is_item_at, is_option_of, parent_value, key_value_by, key_value, entry_known}
use Rattle.repair_semantics.specs.Unmet.{is_unmet}
use Rattle.repair_semantics.specs.Demands.{demand_by, item_demand, item_demands, demands_where, entry_demands, demands_from}
use Rattle.repair_laws.specs.DemandedKeys.{IsDemandedAt, AreDemandedAt, IsInDemands}
use Rattle.repair_laws.proofs.DemandLaws.{in_filter_map}

-- ---- the demands of an entry are among all

-- the items of the entry's target demand what they say
abbrev pub Demanded : Program → List ModelData → Rel → Known → List Demand → ℕ → Type 0
Demanded program models rel k demands number = (item : TargetItem) (d : Demand) → Contains (target_items program rel) item → item_demand program models k number item ≡ Some d → Contains demands d

module _ (program : Program) (models : List ModelData) where
  pub of_entry : (es : List Entry) (before : ℕ) (e : Entry) (rel : Rel) → Contains es e → slice_get program.rels e.rel ≡ Some rel → is_unmet program models rel (entry_known program models rel e.values) ≡ false
      → (number : ℕ) × Demanded program models rel (entry_known program models rel e.values) (demands_from program models before es) number
  of_entry [] before e rel (i, below, is) found met = absurd (omega (arith, below))
  of_entry (x ∷ es) before e rel (zero, below, is) found met = (
    before,
    λ item d there at.
        contains_left d (entry_demands program models before x) (demands_from program models (suc before) es)
        (subst (λ (y : Entry). Contains (entry_demands program models before y) d) (sym is)
        (subst (λ o. Contains (option_map_or (λ r. demands_where program models before r (entry_known program models r e.values)) o []) d) (sym found)
        (subst (λ b. Contains (if b then [] else item_demands program models (entry_known program models rel e.values) before (target_items program rel)) d) (sym met)
        (in_filter_map (item_demand program models (entry_known program models rel e.values) before) (target_items program rel) item d there at)))),
  )
  of_entry (x ∷ es) before e rel (suc i, below, is) found met =
      let rest = of_entry es (suc before) e rel (i, omega (arith, below), is) found met in
      (rest.0, λ item d there at. contains_right d (entry_demands program models before x) (demands_from program models (suc before) es) (rest.1 item d there at))

-- ---- key values are demanded

option_is : (o : Option ℕ) (n : ℕ) → is_option_of o n ≡ true → o ≡ Some n
option_is None n h = absurd (true≢false (sym h))
option_is (Some m) n h = ap (λ k. Some k) (eqb-true m n h)

content_is : (c : Content) (v : ℕ) → variable_of c ≡ Some v → c ≡ Content.template v
content_is Content.empty v h = absurd (none-some v h)
content_is (Content.expression e) v h = absurd (none-some v h)
content_is (Content.template w) v h = ap (λ n. Content.template n) (same_Some w v h)

-- an item that gives the template of a variable a key value: one of its own, or that in which it stands
pub data IsGivenBy (rel : Rel) (v : ℕ) (its : List TargetItem) : Type 0 where
  own : (item : TargetItem) → Contains its item → item.owner ≡ v → IsGivenBy rel v its
  around : (item : TargetItem) → Contains its item → item.content ≡ Content.template v → IsGivenBy rel v its

module _ (program : Program) (models : List ModelData) (rel : Rel) (k : Known) (v : ℕ) where
  abbrev its : List TargetItem
  its = target_items program rel

  -- the first item at the property has the value, or there is none, and the object of the template around is the value
  pub data HasKeyValue (p : PropId) (x : TermValue) : Type 0 where
    own : (item : TargetItem) → Contains its item → item.owner ≡ v → item.prop.0 ≡ p.0 → content_value program models k item.content ≡ Some x → HasKeyValue p x
    around : (item : TargetItem) → Contains its item → item.content ≡ Content.template v → opposite_of (target_metamodel program models) item.prop.0 ≡ Some p.0
        → value_of k.values item.owner ≡ Some x → HasKeyValue p x

  pub key_from : (p : PropId) (x : TermValue) → key_value program models its k v p ≡ Some x → HasKeyValue p x
  key_from p x h = by (first_item its v p.0) refl h
    where
      parent : (item : TargetItem) → item_around its v ≡ Some item → (b : Bool) → is_option_of (opposite_of (target_metamodel program models) item.prop.0) p.0 ≡ b
          → (if b then value_of k.values item.owner else None) ≡ Some x → HasKeyValue p x
      parent item found false is e = absurd (none-some x e)
      parent item found true is e =
          let at = find_some (λ (i : TargetItem). is_option_of (variable_of i.content) v) its item found in
          HasKeyValue.around item at.0 (content_is item.content v (option_is (variable_of item.content) v at.1)) (option_is (opposite_of (target_metamodel program models) item.prop.0) p.0 is) e

      above : (o : Option TargetItem) → item_around its v ≡ o → parent_value program models k p.0 o ≡ Some x → HasKeyValue p x
      above None found e = absurd (none-some x e)
      above (Some item) found e = parent item found (is_option_of (opposite_of (target_metamodel program models) item.prop.0) p.0) refl e

      by : (o : Option TargetItem) → first_item its v p.0 ≡ o → key_value_by program models k p.0 o (item_around its v) ≡ Some x → HasKeyValue p x
      by None found e = above (item_around its v) refl e
      by (Some item) found e =
          let at = find_some (is_item_at v p.0) its item found in
          let parts = and_parts (item.owner == v) (item.prop.0 == p.0) at.1 in
          HasKeyValue.own item at.0 (eqb-true item.owner v parts.0) (eqb-true item.prop.0 p.0 parts.1) e

  pub given_by : (p : PropId) (x : TermValue) → HasKeyValue p x → IsGivenBy rel v its
  given_by p x (HasKeyValue.own item there owner prop value) = IsGivenBy.own item there owner
  given_by p x (HasKeyValue.around item there content opposite value) = IsGivenBy.around item there content

  -- the first of the key values
  pub first_given : (props : List PropId) (keys : List TermValue) → all_given (map (key_value program models its k v) props) ≡ Some keys → props ≢ [] → IsGivenBy rel v its
  first_given [] keys h some = absurd (some refl)
  first_given (p ∷ ps) keys h some = by (key_value program models its k v p) refl h
    where
      by : (o : Option TermValue) → key_value program models its k v p ≡ o → all_given (o ∷ map (key_value program models its k v) ps) ≡ Some keys → IsGivenBy rel v its
      by None is e = absurd (none-some keys e)
      by (Some x) is e = given_by p x (key_from p x is)

  module _ (meta : MetaDesc) (meta_is : target_metamodel program models ≡ meta) (demands : List Demand) (number : ℕ) (all : Demanded program models rel k demands number)
      (owners : (item : TargetItem) (x : TermValue) → Contains its item → value_of k.values item.owner ≡ Some x → (u : Term) × (term_in x ≡ Some u))
      (t : Term) (y : TermValue) (at : value_of k.values v ≡ Some y) (is : term_in y ≡ Some t) where
    demand_is : (item : TargetItem) (owner : Term) (x : TermValue) → term_of k.values item.owner ≡ Some owner → content_value program models k item.content ≡ Some x
        → item_demand program models k number item ≡ Some (record { entry = number; owner = owner; prop = item.prop; value = x })
    demand_is item owner x a b =
        ap (λ o. demand_by number item o (content_value program models k item.content)) a ∙ ap (demand_by number item (Some owner)) b

    own_term : term_of k.values v ≡ Some t
    own_term = ap (option_and_then term_in) at ∙ is

    demanded_at : (p : PropId) (x : TermValue) → HasKeyValue p x → IsDemandedAt meta demands t p x
    demanded_at p x (HasKeyValue.own item there owner prop value) =
        IsDemandedAt.own (record { entry = number; owner = t; prop = item.prop; value = x })
        (all item (record { entry = number; owner = t; prop = item.prop; value = x }) there (demand_is item t x (ap (term_of k.values) owner ∙ own_term) value)) refl prop refl
    demanded_at p x (HasKeyValue.around item there content opposite value) =
        let (u, term) = owners item x there value in
        IsDemandedAt.parent (record { entry = number; owner = u; prop = item.prop; value = y })
        (all item (record { entry = number; owner = u; prop = item.prop; value = y }) there
        (demand_is item u y (ap (option_and_then term_in) value ∙ term) (ap (content_value program models k) content ∙ at)))
        is (ap (λ d. opposite_of d item.prop.0) (sym meta_is) ∙ opposite) term

    pub all_demanded : (props : List PropId) (keys : List TermValue) → all_given (map (key_value program models its k v) props) ≡ Some keys → AreDemandedAt meta demands t props keys
    all_demanded [] keys h = subst (AreDemandedAt meta demands t []) (same_Some [] keys h) tt
    all_demanded (p ∷ ps) keys h = by (λ xs. all_demanded ps xs) (key_value program models its k v p) refl h
      where
        more : ((xs : List TermValue) → all_given (map (key_value program models its k v) ps) ≡ Some xs → AreDemandedAt meta demands t ps xs) → (x : TermValue)
            → key_value program models its k v p ≡ Some x → (o : Option (List TermValue)) → all_given (map (key_value program models its k v) ps) ≡ o
            → option_map (λ xs. x ∷ xs) o ≡ Some keys → AreDemandedAt meta demands t (p ∷ ps) keys
        more later x found None given e = absurd (none-some keys e)
        more later x found (Some xs) given e =
            subst (AreDemandedAt meta demands t (p ∷ ps)) (same_Some (x ∷ xs) keys e) (demanded_at p x (key_from p x found), later xs given)

        by : ((xs : List TermValue) → all_given (map (key_value program models its k v) ps) ≡ Some xs → AreDemandedAt meta demands t ps xs) → (o : Option TermValue)
            → key_value program models its k v p ≡ o → all_given (o ∷ map (key_value program models its k v) ps) ≡ Some keys → AreDemandedAt meta demands t (p ∷ ps) keys
        by later None found e = absurd (none-some keys e)
        by later (Some x) found e = more later x found (all_given (map (key_value program models its k v) ps)) refl e

-- a term that is demanded by a key is in a demand
pub in_demands : (meta : MetaDesc) (demands : List Demand) (t : Term) (props : List PropId) (keys : List TermValue) → props ≢ [] → AreDemandedAt meta demands t props keys → IsInDemands demands t
in_demands meta demands t [] keys some are = absurd (some refl)
in_demands meta demands t (p ∷ ps) [] some are = absurd are
in_demands meta demands t (p ∷ ps) (x ∷ xs) some are = by are.0
  where
    by : IsDemandedAt meta demands t p x → IsInDemands demands t
    by (IsDemandedAt.own d there owner prop value) = IsInDemands.owner d there owner
    by (IsDemandedAt.parent d there value opposite owner) = IsInDemands.value d there value
