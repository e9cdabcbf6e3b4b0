-- The values that are known in an entry: those of its binding, data that equations give, and terms by the keys of templates.
use Rattle.std.specs.Prelude.{◌≡◌, ◌<◌, ◌≤◌, ◌⊎◌, ℕ, zero, suc, Bool, true, false, List, [], ◌∷◌, map, length, Option, None, Some, if◌then◌else◌}
use Rattle.std.specs.Option.{option_map, option_and_then, option_or}
use Rattle.std.proofs.Common.{refl, ap, sym, ◌∙◌, arith, inl, inr}
use Rattle.std.proofs.lemmas.Option.{none-some, same_Some}
use Rattle.std.proofs.lemmas.Bool.{cases_lt}
use Rattle.std.proofs.lemmas.List.{get_or_past}
use Rattle.std.proofs.lemmas.List.FromFn.{get_or-map-range_with_len, length-map-range_with_len}
use Rattle.mof_metamodel.specs.declared.desc.PropId.{PropId}
use Rattle.mof_metamodel.specs.Metamodels.{opposite_of}
use Rattle.object_tables.specs.Models.{ModelData}
use Rattle.qv_syntax.specs.declared.program.Program.{Program}
use Rattle.qv_syntax.specs.declared.program.Rel.{Rel}
use Rattle.qv_syntax.specs.declared.typed.Typed.{Typed}
use Rattle.qvtr_semantics.specs.Outs.{all_given}
use Rattle.qvtr_semantics.specs.Expressions.{Scope, variable}
use Rattle.repair_semantics.specs.declared.term.TermValue.{TermValue}
use Rattle.repair_semantics.specs.EntryValues.{TermValues, value_of, TermsExtend, Known, variable_alone, given_out, given_by, given_value}
use Rattle.repair_semantics.specs.TargetItems.{Content, TargetItem, target_items, class_of_variable, target_metamodel, key_of}
use Rattle.repair_semantics.specs.Making.{variables, entry_scope, content_value, first_item, item_around, is_option_of, parent_value, key_value_by, key_value, keyed, term_by, made_term, value_or_datum, values_within, entry_known}

-- ---- lists with a place for each variable

module _ (rel : Rel) (f : ℕ → Option TermValue) where
  pub mapped_at : (v : ℕ) → v < length rel.vars → value_of (map f (variables rel)) v ≡ f v
  mapped_at v within = get_or-map-range_with_len f 0 (length rel.vars) v v None within (omega arith)

  pub mapped_within : (v : ℕ) (x : TermValue) → value_of (map f (variables rel)) v ≡ Some x → v < length rel.vars
  mapped_within v x h = elim (cases_lt v (length rel.vars)) [
    | inl l ↦ l
    | inr le ↦ (
        let many : length (map f (variables rel)) ≡ length rel.vars = length-map-range_with_len f 0 (length rel.vars) in
        let past : length (map f (variables rel)) ≤ v = omega (arith, many, le) in
        absurd (none-some x (sym (get_or_past (map f (variables rel)) v None past) ∙ h))
        )
  ]

  pub mapped_is : (v : ℕ) (x : TermValue) → value_of (map f (variables rel)) v ≡ Some x → f v ≡ Some x
  mapped_is v x h = sym (mapped_at v (mapped_within v x h)) ∙ h

-- ---- more values, the same terms

all_more : (f g : PropId → Option TermValue) → ((p : PropId) (x : TermValue) → f p ≡ Some x → g p ≡ Some x) → (ps : List PropId) (xs : List TermValue)
    → all_given (map f ps) ≡ Some xs → all_given (map g ps) ≡ Some xs
all_more f g more [] xs h = h
all_more f g more (p ∷ ps) xs h = by (f p) refl (λ ys. all_more f g more ps ys) h
  where
    rest : (y : TermValue) → ((ys : List TermValue) → all_given (map f ps) ≡ Some ys → all_given (map g ps) ≡ Some ys) → (o : Option (List TermValue)) → all_given (map f ps) ≡ o
        → option_map (λ ys. y ∷ ys) o ≡ Some xs → option_map (λ ys. y ∷ ys) (all_given (map g ps)) ≡ Some xs
    rest y later None is e = absurd (none-some xs e)
    rest y later (Some ys) is e = ap (option_map (λ zs. y ∷ zs)) (later ys is) ∙ e

    by : (o : Option TermValue) → f p ≡ o → ((ys : List TermValue) → all_given (map f ps) ≡ Some ys → all_given (map g ps) ≡ Some ys) → all_given (o ∷ map f ps) ≡ Some xs
        → all_given (g p ∷ map g ps) ≡ Some xs
    by None is later e = absurd (none-some xs e)
    by (Some y) is later e = ap (λ o. all_given (o ∷ map g ps)) (more p y is) ∙ rest y later (all_given (map f ps)) refl e

-- the term of a variable by the key of its template
pub record IsMadeBy (program : Program) (models : List ModelData) (rel : Rel) (its : List TargetItem) (k : Known) (v : ℕ) (x : TermValue) : Type 0 where
  pub class : ℕ
  pub class_is : class_of_variable rel v ≡ Some class
  pub props : List PropId
  pub key : key_of program class ≡ Some props
  pub keys : List TermValue
  pub given : all_given (map (key_value program models its k v) props) ≡ Some keys
  pub is : keyed class keys ≡ x

module _ (program : Program) (models : List ModelData) (rel : Rel) (its : List TargetItem) where
  made_parts : (k : Known) (v : ℕ) (x : TermValue) → made_term program models rel its k v ≡ Some x → IsMadeBy program models rel its k v x
  made_parts k v x h = by_class (class_of_variable rel v) refl h
    where
      by_keys : (class : ℕ) → class_of_variable rel v ≡ Some class → (props : List PropId) → key_of program class ≡ Some props → (o : Option (List TermValue))
          → all_given (map (key_value program models its k v) props) ≡ o → option_map (keyed class) o ≡ Some x → IsMadeBy program models rel its k v x
      by_keys class class_is props key None given e = absurd (none-some x e)
      by_keys class class_is props key (Some keys) given e = record { class = class; class_is = class_is; props = props; key = key; keys = keys; given = given; is = same_Some (keyed class keys) x e }

      by_key : (class : ℕ) → class_of_variable rel v ≡ Some class → (o : Option (List PropId)) → key_of program class ≡ o
          → option_and_then (λ props. option_map (keyed class) (all_given (map (key_value program models its k v) props))) o ≡ Some x → IsMadeBy program models rel its k v x
      by_key class class_is None key e = absurd (none-some x e)
      by_key class class_is (Some props) key e = by_keys class class_is props key (all_given (map (key_value program models its k v) props)) refl e

      by_class : (o : Option ℕ) → class_of_variable rel v ≡ o → option_and_then (term_by program models its k v) o ≡ Some x → IsMadeBy program models rel its k v x
      by_class None class_is e = absurd (none-some x e)
      by_class (Some class) class_is e = by_key class class_is (key_of program class) refl e

  made_whole : (k : Known) (v : ℕ) (x : TermValue) → IsMadeBy program models rel its k v x → made_term program models rel its k v ≡ Some x
  made_whole k v x m =
      ap (option_and_then (term_by program models its k v)) m.class_is
      ∙ ap (option_and_then (λ props. option_map (keyed m.class) (all_given (map (key_value program models its k v) props)))) m.key
      ∙ ap (option_map (keyed m.class)) m.given ∙ ap (λ y. Some y) m.is

  module _ (scope : Scope) where
    abbrev having : TermValues → Known
    having b = record { values = b; scope = scope }

    module _ (a b : TermValues) (more : TermsExtend a b) where
      given_more : (e : Typed) (x : TermValue) → given_value program models (having a) e ≡ Some x → given_value program models (having b) e ≡ Some x
      given_more e x h = by (variable_alone e) h
        where
          by : (o : Option ℕ) → given_by program models (having a) e o ≡ Some x → given_by program models (having b) e o ≡ Some x
          by None g = g
          by (Some v) g = more v x g

      content_more : (c : Content) (x : TermValue) → content_value program models (having a) c ≡ Some x → content_value program models (having b) c ≡ Some x
      content_more Content.empty x h = h
      content_more (Content.expression e) x h = given_more e x h
      content_more (Content.template v) x h = more v x h

      parent_more : (p : ℕ) (o : Option TargetItem) (x : TermValue) → parent_value program models (having a) p o ≡ Some x → parent_value program models (having b) p o ≡ Some x
      parent_more p None x h = h
      parent_more p (Some item) x h = by (is_option_of (opposite_of (target_metamodel program models) item.prop.0) p) h
        where
          by : (c : Bool) → (if c then value_of a item.owner else None) ≡ Some x → (if c then value_of b item.owner else None) ≡ Some x
          by true g = more item.owner x g
          by false g = g

      key_more : (v : ℕ) (p : PropId) (x : TermValue) → key_value program models its (having a) v p ≡ Some x → key_value program models its (having b) v p ≡ Some x
      key_more v p x h = by (first_item its v p.0) h
        where
          by : (o : Option TargetItem) → key_value_by program models (having a) p.0 o (item_around its v) ≡ Some x → key_value_by program models (having b) p.0 o (item_around its v) ≡ Some x
          by None g = parent_more p.0 (item_around its v) x g
          by (Some item) g = content_more item.content x g

      made_more : (v : ℕ) (x : TermValue) → IsMadeBy program models rel its (having a) v x → IsMadeBy program models rel its (having b) v x
      made_more v x m = record {
        class = m.class;
        class_is = m.class_is;
        props = m.props;
        key = m.key;
        keys = m.keys;
        given = all_more (key_value program models its (having a) v) (key_value program models its (having b) v) (key_more v) m.props m.keys m.given;
        is = m.is;
      }

    -- ---- stages

    module _ (f : ℕ → Option TermValue) where
      abbrev before : TermValues
      before = map f (variables rel)

      abbrev stage : ℕ → TermValues
      stage n = values_within program models rel its scope before n

      abbrev next : ℕ → ℕ → Option TermValue
      next n v = option_or (value_of before v) (made_term program models rel its (having (stage n)) v)

      next_cases : (n v : ℕ) (x : TermValue) → value_of (stage (suc n)) v ≡ Some x
          → (value_of before v ≡ Some x) ⊎ ((value_of before v ≡ None) × IsMadeBy program models rel its (having (stage n)) v x)
      next_cases n v x h = by (value_of before v) refl (mapped_is rel (next n) v x h)
        where
          by : (o : Option TermValue) → value_of before v ≡ o → option_or o (made_term program models rel its (having (stage n)) v) ≡ Some x
              → (value_of before v ≡ Some x) ⊎ ((value_of before v ≡ None) × IsMadeBy program models rel its (having (stage n)) v x)
          by None is e = inr (is, made_parts (having (stage n)) v x e)
          by (Some y) is e = inl (is ∙ e)

      stage_within : (n v : ℕ) (x : TermValue) → value_of (stage n) v ≡ Some x → v < length rel.vars
      stage_within zero v x h = mapped_within rel f v x h
      stage_within (suc n) v x h = mapped_within rel (next n) v x h

      before_stays : (n v : ℕ) (x : TermValue) → value_of before v ≡ Some x → value_of (stage n) v ≡ Some x
      before_stays zero v x h = h
      before_stays (suc n) v x h =
          mapped_at rel (next n) v (mapped_within rel f v x h) ∙ ap (λ o. option_or o (made_term program models rel its (having (stage n)) v)) h

      stage_more : (n : ℕ) → TermsExtend (stage n) (stage (suc n))
      stage_more zero v x h = before_stays 1 v x h
      stage_more (suc n) v x h = by (stage_more n) (next_cases n v x h)
        where
          by : TermsExtend (stage n) (stage (suc n)) → (value_of before v ≡ Some x) ⊎ ((value_of before v ≡ None) × IsMadeBy program models rel its (having (stage n)) v x) → value_of (stage (suc (suc n))) v ≡ Some x
          by more (inl is) = before_stays (suc (suc n)) v x is
          by more (inr (none, made)) =
              mapped_at rel (next (suc n)) v (mapped_within rel (next n) v x h)
              ∙ ap (λ o. option_or o (made_term program models rel its (having (stage (suc n))) v)) none
              ∙ made_whole (having (stage (suc n))) v x (made_more (stage n) (stage (suc n)) more v x made)

      -- a value of a stage is there before, or is made of the values of this stage
      stage_cases : (n v : ℕ) (x : TermValue) → value_of (stage n) v ≡ Some x
          → (value_of before v ≡ Some x) ⊎ ((value_of before v ≡ None) × IsMadeBy program models rel its (having (stage n)) v x)
      stage_cases zero v x h = inl h
      stage_cases (suc n) v x h = by (next_cases n v x h)
        where
          by : (value_of before v ≡ Some x) ⊎ ((value_of before v ≡ None) × IsMadeBy program models rel its (having (stage n)) v x)
              → (value_of before v ≡ Some x) ⊎ ((value_of before v ≡ None) × IsMadeBy program models rel its (having (stage (suc n))) v x)
          by (inl is) = inl is
          by (inr (none, made)) = inr (none, made_more (stage n) (stage (suc n)) (stage_more n) v x made)

-- ---- what is known in an entry

module _ (program : Program) (models : List ModelData) (rel : Rel) (b : TermValues) where
  abbrev k : Known
  k = entry_known program models rel b

  abbrev scope : Scope
  scope = entry_scope program models rel b

  -- a value of the binding, a datum of an equation, or a term that is made
  pub data IsKnownBy (v : ℕ) (x : TermValue) : Type 0 where
    own : value_of b v ≡ Some x → IsKnownBy v x
    equation : value_of b v ≡ None → given_out (variable scope v) ≡ Some x → IsKnownBy v x
    made : value_of b v ≡ None → IsMadeBy program models rel (target_items program rel) k v x → IsKnownBy v x

  pub known_within : (v : ℕ) (x : TermValue) → value_of k.values v ≡ Some x → v < length rel.vars
  known_within v x h = stage_within program models rel (target_items program rel) scope (value_or_datum b scope) (length rel.vars) v x h

  pub known_cases : (v : ℕ) (x : TermValue) → value_of k.values v ≡ Some x → IsKnownBy v x
  known_cases v x h = by (stage_cases program models rel (target_items program rel) scope (value_or_datum b scope) (length rel.vars) v x h)
    where
      given : (o : Option TermValue) → value_of b v ≡ o → option_or o (given_out (variable scope v)) ≡ Some x → IsKnownBy v x
      given None none e = IsKnownBy.equation none e
      given (Some y) is e = IsKnownBy.own (is ∙ e)

      free : (o : Option TermValue) → value_of b v ≡ o → option_or o (given_out (variable scope v)) ≡ None → value_of b v ≡ None
      free None none e = none
      free (Some y) is e = absurd (none-some y (sym e))

      by : (value_of (map (value_or_datum b scope) (variables rel)) v ≡ Some x) ⊎ ((value_of (map (value_or_datum b scope) (variables rel)) v ≡ None) × IsMadeBy program models rel (target_items program rel) k v x) → IsKnownBy v x
      by (inl is) = given (value_of b v) refl (mapped_is rel (value_or_datum b scope) v x is)
      by (inr (none, w)) =
          IsKnownBy.made (free (value_of b v) refl (sym (mapped_at rel (value_or_datum b scope) v (known_within v x h)) ∙ none)) w

  pub own_is_known : (v : ℕ) (x : TermValue) → v < length rel.vars → value_of b v ≡ Some x → value_of k.values v ≡ Some x
  own_is_known v x within h =
      before_stays program models rel (target_items program rel) scope (value_or_datum b scope) (length rel.vars) v x
      (mapped_at rel (value_or_datum b scope) v within ∙ ap (λ o. option_or o (given_out (variable scope v))) h)
