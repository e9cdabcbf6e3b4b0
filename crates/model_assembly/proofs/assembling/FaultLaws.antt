-- What is found among entries and namings is the first of the faults that references have in the source.
use Rattle.std.proofs.Common.{◌≡◌, ◌↔◌, ℕ, ◌<◌, ◌≤◌, ◌⊎◌, Bool, true, false, List, length, refl, sym, ◌∙◌, ap, arith, subst, Option, Some, None, inl, inr, true≢false}
use Rattle.std.specs.Cmp.{both_ways}
use Rattle.std.specs.Prelude.{not, slice_get}
use Rattle.std.proofs.lemmas.Bool.{not-true, cond-true, cond-false, cases_lt}
use Rattle.mof_metamodel.specs.declared.desc.MetaDesc.{MetaDesc}
use Rattle.mof_metamodel.specs.declared.desc.ClassId.{ClassId}
use Rattle.mof_metamodel.specs.declared.desc.PropType.{PropType}
use Rattle.mof_metamodel.specs.declared.desc.PropType.TheVariants as types
use Rattle.object_tables.specs.declared.limit.TheConstants.{MAX_OBJECTS}
use Rattle.mof_metamodel.specs.Metamodels.{class_count, type_of, Conforms, conforms_within}
use Rattle.mof_metamodel.proofs.ReachLemmas.{steps_sound, steps_complete}
use Rattle.object_tables.specs.Models.{ConformsTo}
use Rattle.model_assembly.specs.declared.fault.ModelFault.{ModelFault}
use Rattle.model_assembly.specs.declared.fault.ModelFault.TheVariants as faults
use Rattle.model_assembly.specs.declared.filed.Filed.{Filed}
use Rattle.model_assembly.specs.declared.assembly.entry.Entry.{Entry}
use Rattle.model_assembly.specs.AssemblyEntries.{class_in, entry_at, written_text}
use Rattle.model_assembly.specs.AssemblyFirsts.{conforms_to, is_unfit, is_astray, is_dangling}
use Rattle.model_assembly.specs.Faults.{Spot, IsBefore, StandsAt, StandsBy, IsNamed, IsDangling}
use Rattle.model_assembly.specs.FirstFault.{rank, IsFirstBy}
use Rattle.model_assembly.specs.Filed.{IsFiled}
use Rattle.model_assembly.specs.Profile.{prop_name}
use Rattle.model_assembly.specs.References.{Target}
use Rattle.model_assembly.specs.Source.{Source, object_count, id_of, target_number}
use Rattle.model_assembly.proofs.assembling.ListLaws.{get_within, get_is, get_some}
use Rattle.std.proofs.lemmas.Option.{same_Some}
use Rattle.std.proofs.lemmas.Option.{none-some}
use Rattle.model_assembly.proofs.assembling.SpotLaws.{class_known, class_counted, spot_at, AreEntries, IsSpotOf, spot_of_entry, IsEntryOf, entry_of_spot, no_earlier}

-- ---- dangling references

pub conforms_same : (meta : MetaDesc) (c d : ℕ) → c < class_count meta → (b : Bool) → ((b ≡ true) ↔ Conforms meta c d) → b ≡ conforms_within meta (class_count meta) c d
conforms_same meta c d l b h =
    both_ways b (conforms_within meta (class_count meta) c d) (λ e. steps_complete meta c d l (h.0 e)) (λ e. h.1 (steps_sound meta (class_count meta) c d e))

pub conforms_sound : (meta : MetaDesc) (class : ℕ) (type : Option PropType) → conforms_to meta class type ≡ true → ConformsTo meta class type
conforms_sound meta class (Some (types.Class c)) e = steps_sound meta (class_count meta) class c.0 e
conforms_sound meta class (Some types.Str) e = absurd (true≢false (sym e))
conforms_sound meta class (Some types.Int) e = absurd (true≢false (sym e))
conforms_sound meta class (Some types.Bool) e = absurd (true≢false (sym e))
conforms_sound meta class (Some (types.Enum f)) e = absurd (true≢false (sym e))
conforms_sound meta class None e = absurd (true≢false (sym e))

conforms_complete : (meta : MetaDesc) (class : ℕ) (type : Option PropType) → class < class_count meta → ConformsTo meta class type → conforms_to meta class type ≡ true
conforms_complete meta class (Some (types.Class c)) l h = steps_complete meta class c.0 l h
conforms_complete meta class (Some types.Str) l h = absurd h
conforms_complete meta class (Some types.Int) l h = absurd h
conforms_complete meta class (Some types.Bool) l h = absurd h
conforms_complete meta class (Some (types.Enum f)) l h = absurd h
conforms_complete meta class None l h = absurd h

-- the target of an entry that dangles is no object of the type
astray_nothing : (s : Source) (f : Filed) → IsFiled s f → ((o : ℕ) → o < length f.classes → (class_in f.classes o).0 < class_count s.meta) → (p : ℕ) (target : Target) (t : Option ℕ)
    → target_number s target ≡ t → is_astray s.meta f.classes p t ≡ true → (b : ℕ) → IsNamed s p target b → ⊥
astray_nothing s f h known p target None e a b n = none-some b (sym e ∙ n.number)
astray_nothing s f h known p target (Some c) e a b n = true≢false (sym fits ∙ not-true _ misfit)
  where
    same : c ≡ b
    same = same_Some c b (sym e ∙ n.number)

    inside : b < length f.classes
    inside = class_counted s f h b n.class n.class_is

    here : slice_get f.classes c ≡ Some (class_in f.classes b)
    here = ap (slice_get f.classes) same ∙ get_some f.classes b (record { 0 = 0 }) inside

    misfit : not (conforms_to s.meta (class_in f.classes b).0 (type_of s.meta p)) ≡ true
    misfit = sym (ap (is_unfit s.meta p) here) ∙ a

    class : n.class ≡ (class_in f.classes b).0
    class = same_Some n.class (class_in f.classes b).0 (sym n.class_is ∙ class_known s f h b inside)

    fits : conforms_to s.meta (class_in f.classes b).0 (type_of s.meta p) ≡ true
    fits = conforms_complete s.meta (class_in f.classes b).0 (type_of s.meta p) (known b inside) (subst (λ k. ConformsTo s.meta k (type_of s.meta p)) class n.conforms)

-- and one that doesn't is
pub fit_named : (s : Source) (f : Filed) → IsFiled s f → (p : ℕ) (target : Target) (t : Option ℕ) → target_number s target ≡ t → is_astray s.meta f.classes p t ≡ false → (b : ℕ) × IsNamed s p target b
fit_named s f h p target None e a = absurd (true≢false a)
fit_named s f h p target (Some b) e a = (b, by (slice_get f.classes b) refl a)
  where
    by : (o : Option ClassId) → slice_get f.classes b ≡ o → is_unfit s.meta p o ≡ false → IsNamed s p target b
    by None g u = absurd (true≢false u)
    by (Some class) g u =
        let l = get_within f.classes b class g in
        let same : class_in f.classes b ≡ class = get_is f.classes b class (record { 0 = 0 }) g in
        record {
          number = e;
          class = class.0;
          class_is = class_known s f h b l ∙ ap (λ (c : ClassId). Some c.0) same;
          conforms = conforms_sound s.meta class.0 (type_of s.meta p) (Rattle.std.proofs.lemmas.Bool.not-false _ u);
        }

-- where something dangles there is an entry that does
pub dangling_entry : (s : Source) (f : Filed) (es : List Entry) → AreEntries s f es → (spot : Spot) (id prop reference : List ℕ) → IsDangling s spot id prop reference
    → (j : ℕ) × (j < length es) × (spot_at es j ≡ spot) × (is_dangling s.meta f.classes (entry_at es j) ≡ true)
dangling_entry s f es a spot id prop reference d = (j, k.within, k.spot_is, by (is_dangling s.meta f.classes (entry_at es j)) refl)
  where
    found : (j : ℕ) × IsEntryOf s f es spot d.p d.target j
    found = entry_of_spot s f es a spot d.p d.target d.written

    j : ℕ
    j = found.0

    k : IsEntryOf s f es spot d.p d.target j
    k = found.1

    number : target_number s d.target ≡ (entry_at es j).target
    number = ap (λ (t : Option ℕ × List ℕ). t.0) k.told

    by : (b : Bool) → is_dangling s.meta f.classes (entry_at es j) ≡ b → is_dangling s.meta f.classes (entry_at es j) ≡ true
    by true e = e
    by false e =
        let n = fit_named s f a.filed (entry_at es j).property.0 d.target (entry_at es j).target number e in
        absurd (d.nothing n.0 (subst (λ p. IsNamed s p d.target n.0) k.property n.1))

-- no reference dangles
pub none_dangles : (s : Source) (f : Filed) (es : List Entry) → AreEntries s f es → ((j : ℕ) → j < length es → is_dangling s.meta f.classes (entry_at es j) ≡ false)
    → (spot : Spot) (id prop reference : List ℕ) → IsDangling s spot id prop reference → ⊥
none_dangles s f es a fit spot id prop reference d =
    let k = dangling_entry s f es a spot id prop reference d in
    true≢false (sym k.3 ∙ fit k.0 k.1)

-- the first entry that dangles is the first fault
pub dangling_first : (s : Source) (f : Filed) (es : List Entry) → AreEntries s f es → ((o : ℕ) → o < length f.classes → (class_in f.classes o).0 < class_count s.meta) → object_count s ≤ MAX_OBJECTS
    → ((other : ModelFault) (place : ℕ) → StandsAt s other place → ⊥) → (i : ℕ) → i < length es → is_dangling s.meta f.classes (entry_at es i) ≡ true
    → ((j : ℕ) → j < i → is_dangling s.meta f.classes (entry_at es j) ≡ false) → (id prop reference : List ℕ) → id ≡ id_of s (entry_at es i).object → prop ≡ prop_name s.meta (entry_at es i).property.0
    → reference ≡ written_text f.references (entry_at es i).written → IsFirstBy s (faults.Dangling id prop reference)
dangling_first s f es a known few none i l e before id prop reference id_is prop_is reference_is =
    record { fewer = few; none_at = none; spot = spot_at es i; stands = stands; least = least; first = first }
  where
    at : (target : Target) × IsSpotOf s f es i (entry_at es i).property.0 target
    at = spot_of_entry s f es a i l

    stands : IsDangling s (spot_at es i) id prop reference
    stands = record {
      p = (entry_at es i).property.0;
      target = at.0;
      written = at.1.written;
      nothing = astray_nothing s f a.filed known (entry_at es i).property.0 at.0 (entry_at es i).target (ap (λ (t : Option ℕ × List ℕ). t.0) at.1.told) e;
      id_is = id_is;
      prop_is = prop_is;
      reference_is = reference_is ∙ sym (ap (λ (t : Option ℕ × List ℕ). t.1) at.1.told);
    }

    least : (other : ModelFault) (elsewhere : Spot) → StandsBy s other elsewhere → 6 ≤ rank other
    least (faults.Dangling x y z) spot h = omega arith
    least (faults.TwoContainers x) spot h = omega arith
    least (faults.Mismatch x y z w) spot h = omega arith
    least (faults.UnknownClass x) spot h = absurd h
    least (faults.UnknownProperty x y) spot h = absurd h
    least (faults.WrongValue x y) spot h = absurd h
    least (faults.DuplicateId x) spot h = absurd h
    least (faults.Invalid x y) spot h = absurd h
    least (faults.Limit x) spot h = absurd h

    later : (x y z : List ℕ) (earlier : Spot) → IsDangling s earlier x y z → IsBefore earlier (spot_at es i) → ⊥
    later x y z earlier d b = by (cases_lt k.0 i)
      where
        k : (j : ℕ) × (j < length es) × (spot_at es j ≡ earlier) × (is_dangling s.meta f.classes (entry_at es j) ≡ true)
        k = dangling_entry s f es a earlier x y z d

        by : (k.0 < i) ⊎ (i ≤ k.0) → ⊥
        by (inl q) = true≢false (sym k.3 ∙ before k.0 q)
        by (inr q) = no_earlier s f es a i k.0 q k.1 (subst (λ z. IsBefore z (spot_at es i)) (sym k.2) b)

    first : (other : ModelFault) (earlier : Spot) → StandsBy s other earlier → rank other ≡ 6 → IsBefore earlier (spot_at es i) → ⊥
    first (faults.Dangling x y z) spot h r b = later x y z spot h b
    first (faults.TwoContainers x) spot h r b = absurd (omega (arith, r))
    first (faults.Mismatch x y z w) spot h r b = absurd (omega (arith, r))
    first (faults.UnknownClass x) spot h r b = absurd h
    first (faults.UnknownProperty x y) spot h r b = absurd h
    first (faults.WrongValue x y) spot h r b = absurd h
    first (faults.DuplicateId x) spot h r b = absurd h
    first (faults.Invalid x y) spot h r b = absurd h
    first (faults.Limit x) spot h r b = absurd h
