-- What an object holds at a property stands in the slot that expressions see.
use Rattle.std.specs.Prelude.{◌≡◌, ◌≤◌, ◌||◌, ◌==◌, ℕ, Bool, true, false, List, [], ◌∷◌, map, length, Option, None, Some, slice_get, if◌then◌else◌}
use Rattle.std.specs.List.{list_any}
use Rattle.std.specs.Option.{option_map}
use Rattle.std.proofs.Common.{refl, sym, ap, subst, ◌∙◌, arith, eq-eqb, inl, inr}
use Rattle.std.proofs.lemmas.Bool.{true≢false, cases_lt}
use Rattle.std.proofs.lemmas.List.{get_or_past}
use Rattle.mof_metamodel.specs.Metamodels.{props_of, type_of}
use Rattle.object_tables.specs.Objects.{Object, Slot}
use Rattle.object_tables.specs.Models.{ModelData, object_at, class_at, values_at, partners_at, is_class_type, no_slot, slot_in, index_of}
use Rattle.object_tables.specs.Kept.{Kept}
use Rattle.object_tables.proofs.ModelLemmas.{index-found}
use Rattle.qv_syntax.specs.declared.program.Program.{Program}
use Rattle.qvtr_semantics.specs.declared.datum.Datum.{Datum}
use Rattle.qvtr_semantics.specs.Data.{same_datum, is_among}
use Rattle.qvtr_semantics.specs.Outs.{and_then}
use Rattle.qvtr_semantics.specs.Objects.{Setting, meta_of, object_datum, value_datum, is_number_among, data_at, held_at}
use Rattle.qvtr_semantics.specs.Expressions.{setting}
use Rattle.qvtr_semantics.specs.Templates.{has}
use Rattle.repair_semantics.specs.declared.term.TermValue.{TermValue}
use Rattle.repair_semantics.specs.declared.term.TermValue.TheVariants as values
use Rattle.repair_semantics.specs.declared.term.Term.{Term}
use Rattle.repair_semantics.specs.TargetItems.{target_meta_number}
use Rattle.repair_semantics.specs.Claims.{Held, same_held}
use Rattle.repair_semantics.specs.Images.{same_number, held_in, holds}
use Rattle.template_match.proofs.ListLaws.{any_at}
use Rattle.reading_laws.specs.Readings.{Numbering, held_as, read_value}
use Rattle.reading_laws.proofs.MeetingValues.{KindOf, kind_of, nothing_some, datum_read, datum_held, term_held, term_number_by}
use Rattle.std.proofs.lemmas.Option.{same_Some}
use Rattle.std.proofs.lemmas.Bool.{and_from}

module _ (program : Program) where
  -- what a slot holds as a datum
  abbrev pub held_datum : Held ℕ → Datum
  held_datum (Held.datum d) = d
  held_datum (Held.object n) = object_datum program.target n

  same_seen : (h i : Held ℕ) → same_held same_number h i ≡ true → same_datum (held_datum h) (held_datum i) ≡ true
  same_seen (Held.datum d) (Held.datum e) is = is
  same_seen (Held.object m) (Held.object n) is = and_from (program.target == program.target) (m == n) (eq-eqb program.target program.target refl) is
  same_seen (Held.datum d) (Held.object n) is = absurd (true≢false (sym is))
  same_seen (Held.object m) (Held.datum e) is = absurd (true≢false (sym is))

  or_true : (a b : Bool) → b ≡ true → (a || b) ≡ true
  or_true true b h = refl
  or_true false b h = h

  seen_among : (h : Held ℕ) (hs : List (Held ℕ)) → list_any (same_held same_number h) hs ≡ true → is_among (held_datum h) (map held_datum hs) ≡ true
  seen_among h [] is = absurd (true≢false (sym is))
  seen_among h (i ∷ hs) is = by (seen_among h hs) (same_held same_number h i) refl is
    where
      by : (list_any (same_held same_number h) hs ≡ true → is_among (held_datum h) (map held_datum hs) ≡ true) → (b : Bool) → same_held same_number h i ≡ b → (b || list_any (same_held same_number h) hs) ≡ true
          → (same_datum (held_datum h) (held_datum i) || is_among (held_datum h) (map held_datum hs)) ≡ true
      by rest true same any = ap (λ b. b || is_among (held_datum h) (map held_datum hs)) (same_seen h i same)
      by rest false same any = or_true (same_datum (held_datum h) (held_datum i)) (is_among (held_datum h) (map held_datum hs)) (rest any)

  mapped_twice : {X : Type 0} (f : X → Held ℕ) (xs : List X) → map held_datum (map f xs) ≡ map (λ x. held_datum (f x)) xs
  mapped_twice f [] = refl
  mapped_twice f (x ∷ xs) = ap (λ ys. held_datum (f x) ∷ ys) (mapped_twice f xs)

  module _ (models : List ModelData) (m : ModelData) (there : slice_get models program.target ≡ Some m) (kept : Kept m) where
    abbrev s : Setting
    s = setting program models

    seen_as : (o p : ℕ) (b : Bool)
        → map held_datum (if b then map (λ n. Held.object n) (partners_at m o p) else map (λ v. Held.datum (value_datum (target_meta_number program) v)) (values_at m o p))
        ≡ (if b then map (object_datum program.target) (partners_at m o p) else map (value_datum (meta_of s program.target)) (values_at m o p))
    seen_as o p true = mapped_twice (λ n. Held.object n) (partners_at m o p)
    seen_as o p false = mapped_twice (λ v. Held.datum (value_datum (target_meta_number program) v)) (values_at m o p)

    -- an object holds something at a property of its class alone
    holds_nothing : (o p : ℕ) (h : Held ℕ) (b : Bool) → partners_at m o p ≡ [] → values_at m o p ≡ []
        → list_any (same_held same_number h) (if b then map (λ n. Held.object n) (partners_at m o p) else map (λ v. Held.datum (value_datum (target_meta_number program) v)) (values_at m o p)) ≡ false
    holds_nothing o p h true none empty = ap (λ ns. list_any (same_held same_number h) (map (λ n. Held.object n) ns)) none
    holds_nothing o p h false none empty = ap (λ vs. list_any (same_held same_number h) (map (λ v. Held.datum (value_datum (target_meta_number program) v)) vs)) empty

    property_of : (o p class : ℕ) (h : Held ℕ) → class_at m o ≡ Some class → holds program m o p h ≡ true → is_number_among p (props_of m.meta class) ≡ true
    property_of o p class h at is = by (object_at m o) refl at
      where
        by : (x : Option Object) → object_at m o ≡ x → option_map (λ (ob : Object). ob.class) x ≡ Some class → is_number_among p (props_of m.meta class) ≡ true
        by None here class_is = absurd (nothing_some class class_is)
        by (Some object) here class_is = subst (λ c. is_number_among p (props_of m.meta c) ≡ true) (same_Some object.class class class_is) (elim (cases_lt (index_of props p) (length props)) [
          | inl below ↦ any_at (λ k. k == p) props p (eq-eqb p p refl) (index_of props p, below, index-found props p p below)
          | inr past ↦ absurd (true≢false (sym is ∙ holds_nothing o p h (is_class_type (type_of m.meta p)) (ap (λ (t : Slot). t.partners) (empty past)) (ap (λ (t : Slot). t.values) (empty past))))
        ])
          where
            props : List ℕ
            props = props_of m.meta object.class

            empty : length props ≤ index_of props p → slot_in m.meta p (object_at m o) ≡ no_slot
            empty past =
                let long : length object.slots ≡ length props = (kept.objects o object here).slots in
                ap (slot_in m.meta p) here ∙ get_or_past object.slots (index_of props p) no_slot (omega (arith, long, past))

    -- so it stands in the slot
    pub held_stands : (o p class : ℕ) (h : Held ℕ) → class_at m o ≡ Some class → holds program m o p h ≡ true → has (held_at s (object_datum program.target o) p) (Some (held_datum h)) ≡ true
    held_stands o p class h at is =
        ap (λ x. has x (Some (held_datum h))) slot
        ∙ ap (is_among (held_datum h)) (sym (seen_as o p (is_class_type (type_of m.meta p)))) ∙ seen_among h (held_in program m o p) is
      where
        slot : held_at s (object_datum program.target o) p ≡ Some (data_at s program.target m o p)
        slot =
            ap (λ x. and_then x (λ (model : ModelData). and_then (class_at model o) (λ c. if is_number_among p (props_of model.meta c) then Some (data_at s program.target model o p) else None))) there
            ∙ ap (λ x. and_then x (λ c. if is_number_among p (props_of m.meta c) then Some (data_at s program.target m o p) else None)) at
            ∙ ap (λ (b : Bool). if b then Some (data_at s program.target m o p) else None) (property_of o p class h at is)

  -- a value that is held is seen as it is read
  pub held_read : (number : Numbering) (x : TermValue) (h : Held ℕ) (d : Datum) → held_as number x ≡ Some h → read_value program number x ≡ Some d → held_datum h ≡ d
  held_read number x h d held read = by (kind_of x)
    where
      object_by : (t : Term) (n : ℕ) → number t ≡ Some n → x ≡ values.Term t → d ≡ object_datum program.target n → held_datum h ≡ d
      object_by t n num is same =
          ap held_datum (same_Some h (Held.object n) (sym held ∙ ap (held_as number) is ∙ term_held number t ∙ ap (option_map (λ k. Held.object k)) num)) ∙ sym same

      by : KindOf x → held_datum h ≡ d
      by (KindOf.datum e is) =
          ap held_datum (same_Some h (Held.datum e) (sym held ∙ ap (held_as number) is ∙ datum_held number e)) ∙ same_Some e d (sym (datum_read program number e) ∙ ap (read_value program number) (sym is) ∙ read)
      by (KindOf.term t is) = let (n, num, same) = term_number_by program number t d (ap (read_value program number) (sym is) ∙ read) in object_by t n num is same
