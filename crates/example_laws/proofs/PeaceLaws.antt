-- No two of the example's demands are in conflict: what may stand at a single place is told by the object of the place, its name and that in which it
-- is; and the type of a column by its class and its attribute.
use Rattle.std.proofs.Common.{◌≡◌, ◌/◌, ◌<◌, ◌≤◌, ◌^◌, ℕ, Bool, true, false, List, [], ◌∷◌, refl, sym, ap, ◌∙◌, subst, arith, get_or, drop, true≢false}
use Rattle.std.specs.Prelude.{Contains, ◌==◌, ◌&&◌, not, if◌then◌else◌}
use Rattle.std.specs.List.{AllByRecursion}
use Rattle.std.proofs.lemmas.Fmt.{decimal_injective}
use Rattle.std.proofs.lemmas.Bool.{and_parts, eqb-true}
use Rattle.std.proofs.lemmas.Bool.Decides.{nat_tests}
use Rattle.mof_metamodel.specs.Metamodels.{prop_at}
use Rattle.mof_metamodel.proofs.Facts.{first_true, second_true, contains_at}
use Rattle.object_tables.specs.declared.value.Value.{Value}
use Rattle.object_tables.specs.declared.value.Value.TheVariants as values
use Rattle.qvtr_semantics.specs.declared.datum.Datum.TheVariants.{Obj, Val}
use Rattle.ocl_eval.specs.OrderLaws.{same_decides}
use Rattle.template_match.proofs.ListLaws.{all_at}
use Rattle.repair_semantics.specs.declared.term.Term.{Term, out-Term, out-roll-Term}
use Rattle.repair_semantics.specs.declared.term.TermValue.{TermValue, out-TermValue}
use Rattle.repair_semantics.specs.declared.term.TermValue.TheVariants as of
use Rattle.repair_semantics.specs.declared.term.TermValue.TheOpen as layers
use Rattle.repair_semantics.specs.declared.demand.Demand.{Demand}
use Rattle.repair_semantics.specs.Terms.{same_term}
use Rattle.repair_semantics.specs.Claims.{Held, Spot, Said, Claim, claims_of, is_one, is_single_spot, same_spot, same_said, same_held, are_against}
use Rattle.repair_semantics.specs.Conflicts.{held_in, fact_of, AreAtPeace}
use Rattle.repair_semantics.proofs.TieLaws.{ties_are_one}
use Rattle.repair_laws.proofs.EntryTerms.{out_term, out_datum}
use Rattle.example_models.specs.RdbTable.{rdb_desc}
use Rattle.example_models.specs.declared.limits.TheConstants.{MAX_SOURCE_CLASSES}
use Rattle.example_models.specs.Source.{package_name, class_name, attribute_name, attribute_prim, attribute_count}
use Rattle.example_laws.specs.ExampleEntries.{text_value, schema_term, table_term, column_term}
use Rattle.example_laws.specs.ExampleDemands.{IsExampleDemand}

-- ---- values as they are held, and the keys of terms

pub text_held : (s : List ℕ) → held_in (out-TermValue (text_value s)) ≡ Held.datum (Val 0 (values.Str s))
text_held s = ap held_in (out_datum (Val 0 (values.Str s)))

pub term_held : (t : Term) → held_in (out-TermValue (of.Term t)) ≡ Held.object t
term_held t = ap held_in (out_term t)

abbrev Layer : Type 0
Layer = layers.Term-F TermValue Term

pub schema_layer : (k : ℕ) → out-Term (schema_term k) ≡ record { class = record { 0 = 1 }; keys = text_value (package_name k) ∷ [] }
schema_layer k = out-roll-Term (record { class = record { 0 = 1 }; keys = text_value (package_name k) ∷ [] })

pub table_layer : (i : ℕ) → out-Term (table_term i) ≡ record { class = record { 0 = 2 }; keys = of.Term (schema_term (i / 100)) ∷ text_value (class_name i) ∷ [] }
table_layer i = out-roll-Term (record { class = record { 0 = 2 }; keys = of.Term (schema_term (i / 100)) ∷ text_value (class_name i) ∷ [] })

pub column_layer : (i j : ℕ) → out-Term (column_term i j) ≡ record { class = record { 0 = 3 }; keys = of.Term (table_term i) ∷ text_value (attribute_name j) ∷ [] }
column_layer i j = out-roll-Term (record { class = record { 0 = 3 }; keys = of.Term (table_term i) ∷ text_value (attribute_name j) ∷ [] })

abbrev key_held : Layer → ℕ → Held Term
key_held l place = held_in (out-TermValue (get_or l.keys place (text_value [])))

-- ---- terms told apart

abbrev text_of_value : Value → List ℕ
text_of_value (values.Str s) = s
text_of_value (values.Int i) = []
text_of_value (values.Bool b) = []
text_of_value (values.Lit e l) = []

abbrev text_in : Held Term → List ℕ
text_in (Held.datum (Val m v)) = text_of_value v
text_in (Held.datum (Obj m o)) = []
text_in (Held.object t) = []

abbrev name_in : Term → List ℕ
name_in t = text_in (key_held (out-Term t) 1)

class_named : (i : ℕ) → name_in (table_term i) ≡ class_name i
class_named i = ap (λ (l : Layer). text_in (key_held l 1)) (table_layer i) ∙ ap text_in (text_held (class_name i))

attribute_named : (i j : ℕ) → name_in (column_term i j) ≡ attribute_name j
attribute_named i j = ap (λ (l : Layer). text_in (key_held l 1)) (column_layer i j) ∙ ap text_in (text_held (attribute_name j))

table_held : (i j : ℕ) → key_held (out-Term (column_term i j)) 0 ≡ Held.object (table_term i)
table_held i j = ap (λ (l : Layer). key_held l 0) (column_layer i j) ∙ term_held (table_term i)

same_object : (t u : Term) → Held.object t ≡ Held.object u → t ≡ u
same_object t u h = cc

same_class : (i k : ℕ) → i < 2 ^ 64 → k < 2 ^ 64 → table_term i ≡ table_term k → i ≡ k
same_class i k a b same = decimal_injective i k a b (ap (λ (xs : List ℕ). drop 1 xs) (sym (class_named i) ∙ ap name_in same ∙ class_named k))

same_attribute : (i j k l : ℕ) → j < 2 ^ 64 → l < 2 ^ 64 → column_term i j ≡ column_term k l → j ≡ l
same_attribute i j k l a b same = decimal_injective j l a b (ap (λ (xs : List ℕ). drop 1 xs) (sym (attribute_named i j) ∙ ap name_in same ∙ attribute_named k l))

same_table : (i j k l : ℕ) → column_term i j ≡ column_term k l → table_term i ≡ table_term k
same_table i j k l same = same_object (table_term i) (table_term k) (sym (table_held i j) ∙ ap (λ t. key_held (out-Term t) 0) same ∙ table_held k l)

-- ---- what stands at a single place

abbrev name_place : ℕ → ℕ
name_place class = if class == 1 then 0 else 1

abbrev slot_said : Layer → ℕ → Said Term
slot_said l p = if p == 0 then Said.element (key_held l (name_place l.class.0)) else Said.element (key_held l 0)

abbrev within_said : Held Term → ℕ → Said Term
within_said (Held.object t) p = Said.within t p
within_said (Held.datum d) p = Said.element (Held.datum d)

abbrev container_said : Layer → Said Term
container_said l = within_said (key_held l 0) (if l.class.0 == 2 then 1 else 5)

-- a name, or that in which an object is, by its keys
abbrev key_said : Spot Term → Said Term
key_said (Spot.slot t p) = slot_said (out-Term t) p
key_said (Spot.container t) = container_said (out-Term t)

abbrev is_type_slot : Spot Term → Bool
is_type_slot (Spot.slot t p) = p == 7
is_type_slot (Spot.container t) = false

abbrev claim : Spot Term → Said Term → Claim Term
claim spot said = record { spot = spot; said = said }

abbrev text_said : List ℕ → Said Term
text_said s = Said.element (Held.datum (Val 0 (values.Str s)))

data IsRight (n seed : ℕ) : Claim Term → Type 0 where
  -- by the keys of the place's object
  keyed : (spot : Spot Term) (said : Said Term) → is_type_slot spot ≡ false → said ≡ key_said spot → IsRight n seed (claim spot said)
  -- at a place of many
  many : (t : Term) (p : ℕ) (said : Said Term) → is_one (prop_at rdb_desc p).upper ≡ false → IsRight n seed (claim (Spot.slot t p) said)
  -- the type of a column
  typed : (i j : ℕ) → i < n → j < attribute_count seed i → IsRight n seed (claim (Spot.slot (column_term i j) 7) (text_said (attribute_prim seed i j)))

schema_named_said : (k : ℕ) → text_said (package_name k) ≡ key_said (Spot.slot (schema_term k) 0)
schema_named_said k = sym (ap (λ (l : Layer). slot_said l 0) (schema_layer k) ∙ ap (λ (h : Held Term). Said.element h) (text_held (package_name k)))

table_named_said : (i : ℕ) → text_said (class_name i) ≡ key_said (Spot.slot (table_term i) 0)
table_named_said i = sym (ap (λ (l : Layer). slot_said l 0) (table_layer i) ∙ ap (λ (h : Held Term). Said.element h) (text_held (class_name i)))

column_named_said : (i j : ℕ) → text_said (attribute_name j) ≡ key_said (Spot.slot (column_term i j) 0)
column_named_said i j = sym (ap (λ (l : Layer). slot_said l 0) (column_layer i j) ∙ ap (λ (h : Held Term). Said.element h) (text_held (attribute_name j)))

table_schema_said : (i : ℕ) → Said.element (Held.object (schema_term (i / 100))) ≡ key_said (Spot.slot (table_term i) 2)
table_schema_said i = sym (ap (λ (l : Layer). slot_said l 2) (table_layer i) ∙ ap (λ (h : Held Term). Said.element h) (term_held (schema_term (i / 100))))

column_table_said : (i j : ℕ) → Said.element (Held.object (table_term i)) ≡ key_said (Spot.slot (column_term i j) 6)
column_table_said i j = sym (ap (λ (l : Layer). slot_said l 6) (column_layer i j) ∙ ap (λ (h : Held Term). Said.element h) (term_held (table_term i)))

table_within_said : (i : ℕ) → Said.within (schema_term (i / 100)) 1 ≡ key_said (Spot.container (table_term i))
table_within_said i = sym (ap container_said (table_layer i) ∙ ap (λ (h : Held Term). within_said h 1) (term_held (schema_term (i / 100))))

column_within_said : (i j : ℕ) → Said.within (table_term i) 5 ≡ key_said (Spot.container (column_term i j))
column_within_said i j = sym (ap container_said (column_layer i j) ∙ ap (λ (h : Held Term). within_said h 5) (term_held (table_term i)))

-- ---- what demands claim

module _ (n seed : ℕ) where
  right_by : (owner : Term) (p : ℕ) (value : TermValue) (held : Held Term) → held_in (out-TermValue value) ≡ held
      → AllByRecursion (IsRight n seed) (claims_of rdb_desc (record { owner = owner; prop = p; holds = held }))
      → (c : Claim Term) → Contains (claims_of rdb_desc (record { owner = owner; prop = p; holds = held_in (out-TermValue value) })) c → IsRight n seed c
  right_by owner p value held is all c there =
      all_at (IsRight n seed) (claims_of rdb_desc (record { owner = owner; prop = p; holds = held })) c all
      (subst (λ (h : Held Term). Contains (claims_of rdb_desc (record { owner = owner; prop = p; holds = h })) c) is there)

  right : (d : Demand) → IsExampleDemand n seed d → (c : Claim Term) → Contains (claims_of rdb_desc (fact_of d)) c → IsRight n seed c
  right _ (IsExampleDemand.schema_name entry k below) =
      right_by (schema_term k) 0 (text_value (package_name k)) (Held.datum (Val 0 (values.Str (package_name k)))) (text_held (package_name k))
      (IsRight.keyed (Spot.slot (schema_term k) 0) (text_said (package_name k)) refl (schema_named_said k), tt)
  right _ (IsExampleDemand.table_schema entry i below) =
      right_by (table_term i) 2 (of.Term (schema_term (i / 100))) (Held.object (schema_term (i / 100))) (term_held (schema_term (i / 100))) (
        IsRight.keyed (Spot.slot (table_term i) 2) (Said.element (Held.object (schema_term (i / 100)))) refl (table_schema_said i),
        (
          IsRight.many (schema_term (i / 100)) 1 (Said.element (Held.object (table_term i))) refl,
          (IsRight.keyed (Spot.container (table_term i)) (Said.within (schema_term (i / 100)) 1) refl (table_within_said i), tt),
        ),
      )
  right _ (IsExampleDemand.table_name entry i below) =
      right_by (table_term i) 0 (text_value (class_name i)) (Held.datum (Val 0 (values.Str (class_name i)))) (text_held (class_name i))
      (IsRight.keyed (Spot.slot (table_term i) 0) (text_said (class_name i)) refl (table_named_said i), tt)
  right _ (IsExampleDemand.column_table entry i j below within) =
      right_by (table_term i) 5 (of.Term (column_term i j)) (Held.object (column_term i j)) (term_held (column_term i j)) (
        IsRight.many (table_term i) 5 (Said.element (Held.object (column_term i j))) refl,
        (
          IsRight.keyed (Spot.slot (column_term i j) 6) (Said.element (Held.object (table_term i))) refl (column_table_said i j),
          (IsRight.keyed (Spot.container (column_term i j)) (Said.within (table_term i) 5) refl (column_within_said i j), tt),
        ),
      )
  right _ (IsExampleDemand.column_name entry i j below within) =
      right_by (column_term i j) 0 (text_value (attribute_name j)) (Held.datum (Val 0 (values.Str (attribute_name j)))) (text_held (attribute_name j))
      (IsRight.keyed (Spot.slot (column_term i j) 0) (text_said (attribute_name j)) refl (column_named_said i j), tt)
  right _ (IsExampleDemand.column_type entry i j below within) =
      right_by (column_term i j) 7 (text_value (attribute_prim seed i j)) (Held.datum (Val 0 (values.Str (attribute_prim seed i j)))) (text_held (attribute_prim seed i j))
      (IsRight.typed i j below within, tt)

  -- ---- at one place the same is claimed

  module _ (few : n ≤ MAX_SOURCE_CLASSES) where
    one_type : (i j k l : ℕ) → i < n → j < attribute_count seed i → k < n → l < attribute_count seed k → column_term i j ≡ column_term k l
        → text_said (attribute_prim seed i j) ≡ text_said (attribute_prim seed k l)
    one_type i j k l a b c d same =
        let most : MAX_SOURCE_CLASSES ≡ 50_000 = refl in
        let classes : i ≡ k = same_class i k (omega (arith, a, few, most)) (omega (arith, c, few, most)) (same_table i j k l same) in
        let attributes : j ≡ l = same_attribute i j k l (omega (arith, b)) (omega (arith, d)) same in
        ap (λ x. text_said (attribute_prim seed x j)) classes ∙ ap (λ x. text_said (attribute_prim seed k x)) attributes

    same_owner : (t u : Term) (p q : ℕ) → Spot.slot t p ≡ Spot.slot u q → t ≡ u
    same_owner t u p q h = cc

    one_said : (c d : Claim Term) → IsRight n seed c → IsRight n seed d → c.spot ≡ d.spot → is_single_spot rdb_desc c.spot ≡ true → c.said ≡ d.said
    one_said _ _ (IsRight.many t p x several) other same single = absurd (true≢false (sym single ∙ several))
    one_said _ _ (IsRight.keyed s x a h) (IsRight.keyed r y b g) same single = h ∙ ap key_said same ∙ sym g
    one_said _ _ (IsRight.keyed s x a h) (IsRight.many t p y several) same single = absurd (true≢false (sym single ∙ ap (is_single_spot rdb_desc) same ∙ several))
    one_said _ _ (IsRight.keyed s x a h) (IsRight.typed i j b w) same single = absurd (true≢false (sym (ap is_type_slot same) ∙ a))
    one_said _ _ (IsRight.typed i j b w) (IsRight.keyed r y c g) same single = absurd (true≢false (ap is_type_slot same ∙ c))
    one_said _ _ (IsRight.typed i j b w) (IsRight.many t p y several) same single = absurd (true≢false (sym single ∙ ap (is_single_spot rdb_desc) same ∙ several))
    one_said _ _ (IsRight.typed i j b w) (IsRight.typed k l c u) same single = one_type i j k l b w c u (same_owner (column_term i j) (column_term k l) 7 7 same)

    -- ---- so no two demands are in conflict

    held_itself : (h : Held Term) → same_held same_term h h ≡ true
    held_itself (Held.datum d) = (same_decides d d).1 refl
    held_itself (Held.object t) = (ties_are_one t t).1 refl

    eqb_itself : (p : ℕ) → (p == p) ≡ true
    eqb_itself p = grind (arith, nat_tests)

    said_itself : (s : Said Term) → same_said same_term s s ≡ true
    said_itself (Said.element h) = held_itself h
    said_itself (Said.within t p) = ap (λ b. b && (p == p)) ((ties_are_one t t).1 refl) ∙ eqb_itself p

    spots_one : (s r : Spot Term) → same_spot same_term s r ≡ true → s ≡ r
    spots_one (Spot.slot t p) (Spot.slot u q) h =
        let parts = and_parts (same_term t u) (p == q) h in
        ap (λ x. Spot.slot x p) ((ties_are_one t u).0 parts.0) ∙ ap (λ x. Spot.slot u x) (eqb-true p q parts.1)
    spots_one (Spot.container t) (Spot.container u) h = ap (λ x. Spot.container x) ((ties_are_one t u).0 h)
    spots_one (Spot.slot t p) (Spot.container u) h = absurd (true≢false (sym h))
    spots_one (Spot.container t) (Spot.slot u q) h = absurd (true≢false (sym h))

    not_against : (c d : Claim Term) → IsRight n seed c → IsRight n seed d → are_against rdb_desc same_term c d ≡ true → ⊥
    not_against c d x y against =
        let places = first_true (same_spot same_term c.spot d.spot && is_single_spot rdb_desc c.spot) (not (same_said same_term c.said d.said)) against in
        let other = second_true (same_spot same_term c.spot d.spot && is_single_spot rdb_desc c.spot) (not (same_said same_term c.said d.said)) against in
        let spot = spots_one c.spot d.spot (first_true (same_spot same_term c.spot d.spot) (is_single_spot rdb_desc c.spot) places) in
        let single = second_true (same_spot same_term c.spot d.spot) (is_single_spot rdb_desc c.spot) places in
        let said = one_said c d x y spot single in
        true≢false (sym other ∙ ap (λ z. not (same_said same_term c.said z)) (sym said) ∙ ap not (said_itself c.said))

    -- what two of them say of one single slot is one
    pub one_held : (d e : Demand) → IsExampleDemand n seed d → IsExampleDemand n seed e → (t : Term) (p : ℕ) (h i : Held Term) → is_one (prop_at rdb_desc p).upper ≡ true
        → Contains (claims_of rdb_desc (fact_of d)) (claim (Spot.slot t p) (Said.element h)) → Contains (claims_of rdb_desc (fact_of e)) (claim (Spot.slot t p) (Said.element i)) → h ≡ i
    one_held d e x y t p h i single a b =
        let said : Said.element h ≡ Said.element i =
        one_said (claim (Spot.slot t p) (Said.element h)) (claim (Spot.slot t p) (Said.element i)) (right d x (claim (Spot.slot t p) (Said.element h)) a)
        (right e y (claim (Spot.slot t p) (Said.element i)) b) refl single in
        cc

    pub at_peace : (ds : List Demand) → ((d : Demand) → Contains ds d → IsExampleDemand n seed d) → AreAtPeace rdb_desc ds
    at_peace ds only first second c d conflict =
        not_against c d (right first (only first (contains_at ds conflict.earlier first conflict.first_is)) c conflict.of_first)
        (right second (only second (contains_at ds conflict.later second conflict.second_is)) d conflict.of_second) conflict.against
