-- What stands in a slot of an object of the target, as expressions see it, and as terms hold it.
use Rattle.std.specs.Prelude.{◌≡◌, ℕ, Bool, true, false, ◌&&◌, ◌||◌, ◌==◌, List, [], ◌∷◌, map, Option, None, Some, slice_get, Contains, if◌then◌else◌}
use Rattle.std.specs.List.{list_any}
use Rattle.std.specs.Option.{option_map}
use Rattle.std.proofs.Common.{refl, sym, ap, subst, ◌∙◌}
use Rattle.std.proofs.lemmas.Bool.{and_parts, true≢false, eqb-true, eq-eqb}
use Rattle.mof_metamodel.specs.Metamodels.{props_of, type_of, opposite_of}
use Rattle.object_tables.specs.declared.value.Value.{Value}
use Rattle.object_tables.specs.declared.value.Value.TheVariants as literals
use Rattle.object_tables.specs.Models.{ModelData, class_at, is_class_type, values_at, partners_at}
use Rattle.object_tables.specs.Kept.{Kept}
use Rattle.object_tables.proofs.InheritLemmas.{pair_of_opposites}
use Rattle.qv_syntax.specs.declared.program.Program.{Program}
use Rattle.qvtr_semantics.specs.declared.datum.Datum.{Datum}
use Rattle.qvtr_semantics.specs.declared.datum.Datum.TheVariants.{Obj, Val}
use Rattle.qvtr_semantics.specs.Outs.{and_then}
use Rattle.qvtr_semantics.specs.Data.{same_datum, is_among}
use Rattle.qvtr_semantics.specs.Objects.{is_number_among, object_datum, value_datum, meta_of, data_at, held_at}
use Rattle.qvtr_semantics.specs.Expressions.{setting}
use Rattle.qvtr_semantics.specs.Templates.{has}
use Rattle.template_match.proofs.ListLaws.{any_from, any_at}
use Rattle.source_laws.specs.SourceValues.{IsOfSources}
use Rattle.repair_semantics.specs.declared.term.Term.{Term}
use Rattle.repair_semantics.specs.declared.term.TermValue.{TermValue, out-TermValue}
use Rattle.repair_semantics.specs.declared.term.TermValue.TheOpen as of
use Rattle.repair_semantics.specs.Terms.{datum_part, datum_in}
use Rattle.repair_semantics.specs.TargetItems.{target_meta_number}
use Rattle.repair_semantics.specs.Claims.{Held, same_held}
use Rattle.repair_semantics.specs.Conflicts.{held_in}
use Rattle.repair_semantics.specs.Images.{same_number, holds}
use Rattle.repair_semantics.specs.Candidates.{held_by_number}
use Rattle.reading_laws.specs.Readings.{Numbering, held_as, read_part, read_value}
use Rattle.reading_laws.proofs.MeetingValues.{nothing_some}
use Rattle.std.proofs.lemmas.Option.{same_Some}

any_mapped : {X Y : Type 0} (f : X → Y) (p : Y → Bool) (q : X → Bool) (xs : List X) → ((x : X) → p (f x) ≡ q x) → list_any p (map f xs) ≡ list_any q xs
any_mapped f p q [] h = refl
any_mapped f p q (x ∷ xs) h = ap (λ y. y || list_any p (map f xs)) (h x) ∙ ap (λ y. q x || y) (any_mapped f p q xs h)

never : {X : Type 0} (xs : List X) → list_any (λ (x : X). false) xs ≡ true → ⊥
never [] h = true≢false (sym h)
never (x ∷ xs) h = never xs h

pub no_value : (t k meta : ℕ) (v : Value) → same_datum (object_datum t k) (value_datum meta v) ≡ false
no_value t k meta (literals.Str s) = refl
no_value t k meta (literals.Int i) = refl
no_value t k meta (literals.Bool b) = refl
no_value t k meta (literals.Lit e n) = refl

no_object : (t : ℕ) (d : Datum) (k : ℕ) → IsOfSources t d → same_datum d (object_datum t k) ≡ false
no_object t (Val j v) k apart = refl
no_object t (Obj j o) k apart = by (j == t) refl
  where
    by : (x : Bool) → (j == t) ≡ x → (x && (o.0 == k)) ≡ false
    by true is = absurd (apart (eqb-true j t is))
    by false is = refl

abbrev pub number_in : Datum → ℕ
number_in (Obj j o) = o.0
number_in (Val j v) = 0

module _ (program : Program) (models : List ModelData) (m : ModelData) (at : slice_get models program.target ≡ Some m) where
  -- the datum is among the values or partners of an object of the target at a property
  abbrev pub stands_at : ℕ → ℕ → Datum → Bool
  stands_at n p d = is_among d (data_at (setting program models) program.target m n p)

  pub slot_has : (n p : ℕ) (d : Datum) → has (held_at (setting program models) (object_datum program.target n) p) (Some d) ≡ true → stands_at n p d ≡ true
  slot_has n p d h =
      of_class (class_at m n)
      (subst (λ x. has (and_then x (λ (model : ModelData). and_then (class_at model n) (λ class.
      if is_number_among p (props_of model.meta class) then Some (data_at (setting program models) program.target model n p) else None))) (Some d) ≡ true) at h)
    where
      listed : (x : Bool) → has (if x then Some (data_at (setting program models) program.target m n p) else None) (Some d) ≡ true → stands_at n p d ≡ true
      listed true k = k
      listed false k = absurd (true≢false (sym k))

      of_class : (x : Option ℕ) → has (and_then x (λ class. if is_number_among p (props_of m.meta class) then Some (data_at (setting program models) program.target m n p) else None)) (Some d) ≡ true
          → stands_at n p d ≡ true
      of_class None k = absurd (true≢false (sym k))
      of_class (Some class) k = listed (is_number_among p (props_of m.meta class)) k

  -- an object that holds one of the target is one of the target
  pub holder_is : (d : Datum) (q n : ℕ) → has (held_at (setting program models) d q) (Some (object_datum program.target n)) ≡ true
      → (a : ℕ) × (d ≡ object_datum program.target a) × (stands_at a q (object_datum program.target n) ≡ true)
  holder_is (Val k v) q n h = absurd (true≢false (sym h))
  holder_is (Obj k o) q n h =
      let same : k ≡ program.target = of_model (slice_get models k) h in
      let there : Obj k o ≡ object_datum program.target o.0 = ap (λ j. Obj j o) same in
      (o.0, there, slot_has o.0 q (object_datum program.target n) (subst (λ d. has (held_at (setting program models) d q) (Some (object_datum program.target n)) ≡ true) there h))
    where
      listed : (model : ModelData) (x : Bool)
          → is_among (object_datum program.target n) (if x then map (object_datum k) (partners_at model o.0 q) else map (value_datum (meta_of (setting program models) k)) (values_at model o.0 q)) ≡ true
          → k ≡ program.target
      listed model true e =
          let (j, among, same) = any_from (λ j. (program.target == k) && (n == j)) (partners_at model o.0 q)
          (sym (any_mapped (object_datum k) (same_datum (object_datum program.target n)) (λ j. (program.target == k) && (n == j)) (partners_at model o.0 q) (λ j. refl)) ∙ e) in
          sym (eqb-true program.target k (and_parts (program.target == k) (n == j) same).0)
      listed model false e =
          absurd (never (values_at model o.0 q) (sym (any_mapped (value_datum (meta_of (setting program models) k)) (same_datum (object_datum program.target n)) (λ v. false) (values_at model o.0 q)
          (λ v. no_value program.target n (meta_of (setting program models) k) v)) ∙ e))

      if_listed : (model : ModelData) (x : Bool) → has (if x then Some (data_at (setting program models) k model o.0 q) else None) (Some (object_datum program.target n)) ≡ true → k ≡ program.target
      if_listed model true e = listed model (is_class_type (type_of model.meta q)) e
      if_listed model false e = absurd (true≢false (sym e))

      of_class : (model : ModelData) (x : Option ℕ)
          → has (and_then x (λ class. if is_number_among q (props_of model.meta class) then Some (data_at (setting program models) k model o.0 q) else None)) (Some (object_datum program.target n)) ≡ true
          → k ≡ program.target
      of_class model None e = absurd (true≢false (sym e))
      of_class model (Some class) e = if_listed model (is_number_among q (props_of model.meta class)) e

      of_model : (x : Option ModelData)
          → has (and_then x (λ (model : ModelData). and_then (class_at model o.0) (λ class.
          if is_number_among q (props_of model.meta class) then Some (data_at (setting program models) k model o.0 q) else None))) (Some (object_datum program.target n)) ≡ true
          → k ≡ program.target
      of_model None e = absurd (true≢false (sym e))
      of_model (Some model) e = of_class model (class_at model o.0) e

  holds_datum : (n p : ℕ) (d : Datum) → IsOfSources program.target d → stands_at n p d ≡ true → holds program m n p (Held.datum d) ≡ true
  holds_datum n p d apart h = by (is_class_type (type_of m.meta p)) h
    where
      by : (x : Bool) → is_among d (if x then map (object_datum program.target) (partners_at m n p) else map (value_datum (meta_of (setting program models) program.target)) (values_at m n p)) ≡ true
          → list_any (same_held same_number (Held.datum d)) (if x then map (λ b. Held.object b) (partners_at m n p) else map (λ v. Held.datum (value_datum (target_meta_number program) v)) (values_at m n p)) ≡ true
      by true k =
          absurd (never (partners_at m n p) (sym (any_mapped (object_datum program.target) (same_datum d) (λ j. false) (partners_at m n p) (λ j. no_object program.target d j apart)) ∙ k))
      by false k =
          any_mapped (λ v. Held.datum (value_datum (target_meta_number program) v)) (same_held same_number (Held.datum d)) (λ v. same_datum d (value_datum (target_meta_number program) v)) (values_at m n p) (λ v. refl)
          ∙ sym (any_mapped (value_datum (target_meta_number program)) (same_datum d) (λ v. same_datum d (value_datum (target_meta_number program) v)) (values_at m n p) (λ v. refl))
          ∙ k

  -- an object of the target that stands in a slot is a partner
  object_slot : (n p k : ℕ) → stands_at n p (object_datum program.target k) ≡ true → (is_class_type (type_of m.meta p) ≡ true) × Contains (partners_at m n p) k
  object_slot n p k h = by (is_class_type (type_of m.meta p)) refl h
    where
      by : (x : Bool) → is_class_type (type_of m.meta p) ≡ x
          → is_among (object_datum program.target k) (if x then map (object_datum program.target) (partners_at m n p) else map (value_datum (meta_of (setting program models) program.target)) (values_at m n p)) ≡ true
          → (is_class_type (type_of m.meta p) ≡ true) × Contains (partners_at m n p) k
      by true is e =
          let (j, among, same) = any_from (λ j. k == j) (partners_at m n p)
          (sym (any_mapped (object_datum program.target) (same_datum (object_datum program.target k)) (λ j. k == j) (partners_at m n p)
          (λ j. ap (λ x. x && (k == j)) (eq-eqb program.target program.target refl))) ∙ e) in
          (is, subst (λ i. Contains (partners_at m n p) i) (sym (eqb-true k j same)) among)
      by false is e =
          absurd (never (values_at m n p) (sym (any_mapped (value_datum (meta_of (setting program models) program.target)) (same_datum (object_datum program.target k)) (λ v. false) (values_at m n p)
          (λ v. no_value program.target k (meta_of (setting program models) program.target) v)) ∙ e))

  holds_object : (n p k : ℕ) → is_class_type (type_of m.meta p) ≡ true → Contains (partners_at m n p) k → holds program m n p (Held.object k) ≡ true
  holds_object n p k is among =
      ap (λ x. list_any (same_held same_number (Held.object k)) (if x then map (λ b. Held.object b) (partners_at m n p) else map (λ v. Held.datum (value_datum (target_meta_number program) v)) (values_at m n p))) is
      ∙ any_mapped (λ b. Held.object b) (same_held same_number (Held.object k)) (λ b. k == b) (partners_at m n p) (λ b. refl)
      ∙ any_at (λ b. k == b) (partners_at m n p) k (eq-eqb k k refl) among

  -- a value is held as it is read
  pub record IsHeldAt (number : Numbering) (n p : ℕ) (x : TermValue) : Type 0 where
    pub held : Held ℕ
    pub held_is : held_as number x ≡ Some held
    pub holds : holds program m n p held ≡ true

  read_object : (number : Numbering) (t : Term) (d : Datum) (o : Option ℕ) → number t ≡ o → option_map (λ n. object_datum program.target n) o ≡ Some d
      → (k : ℕ) × (number t ≡ Some k) × (d ≡ object_datum program.target k)
  read_object number t d None is h = absurd (nothing_some d h)
  read_object number t d (Some k) is h = (k, is, sym (same_Some (object_datum program.target k) d h))

  pub read_held : (number : Numbering) (n p : ℕ) (x : TermValue) (d : Datum) → read_value program number x ≡ Some d → ((e : Datum) → datum_in x ≡ Some e → IsOfSources program.target e)
      → stands_at n p d ≡ true → IsHeldAt number n p x
  read_held number n p x d read apart stands = by (out-TermValue x) refl
    where
      by : (y : of.TermValue-F TermValue Term) → out-TermValue x ≡ y → IsHeldAt number n p x
      by (of.Val e) is = record {
        held = Held.datum e;
        held_is = ap (λ z. held_by_number number (held_in z)) is;
        holds = holds_datum n p e (apart e (ap datum_part is)) (subst (λ z. stands_at n p z ≡ true) (sym (same_Some e d (sym (ap (read_part program number) is) ∙ read))) stands);
      }
      by (of.Term t) is =
          let (k, has_number, same) = read_object number t d (number t) refl (sym (ap (read_part program number) is) ∙ read) in
          let (class, linked) = object_slot n p k (subst (λ z. stands_at n p z ≡ true) same stands) in
          record {
            held = Held.object k;
            held_is = ap (λ z. held_by_number number (held_in z)) is ∙ ap (option_map (λ j. Held.object j)) has_number;
            holds = holds_object n p k class linked;
          }

  -- where an object stands in a slot of another one, this stands in its slot at the opposite
  pub opposite_stands : Kept m → (number : Numbering) (a q n p : ℕ) (x : TermValue) → opposite_of m.meta q ≡ Some p → stands_at a q (object_datum program.target n) ≡ true
      → read_value program number x ≡ Some (object_datum program.target a) → ((e : Datum) → datum_in x ≡ Some e → IsOfSources program.target e) → IsHeldAt number n p x
  opposite_stands kept number a q n p x opposite stands read apart = by (out-TermValue x) refl
    where
      linked : Contains (partners_at m n p) a
      linked = (kept.opposites q p a n opposite).0 (object_slot a q n stands).1

      class : is_class_type (type_of m.meta p) ≡ true
      class = (pair_of_opposites m.meta q p kept.well opposite).far_class

      by : (y : of.TermValue-F TermValue Term) → out-TermValue x ≡ y → IsHeldAt number n p x
      by (of.Val e) is =
          let same : e ≡ object_datum program.target a = same_Some e (object_datum program.target a) (sym (ap (read_part program number) is) ∙ read) in
          absurd (subst (IsOfSources program.target) same (apart e (ap datum_part is)) refl)
      by (of.Term t) is =
          let (k, has_number, same) = read_object number t (object_datum program.target a) (number t) refl (sym (ap (read_part program number) is) ∙ read) in
          record {
            held = Held.object k;
            held_is = ap (λ z. held_by_number number (held_in z)) is ∙ ap (option_map (λ j. Held.object j)) has_number;
            holds = holds_object n p k class (subst (λ i. Contains (partners_at m n p) i) (ap number_in same) linked);
          }
