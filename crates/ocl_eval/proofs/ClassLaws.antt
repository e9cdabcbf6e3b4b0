-- Classes of objects and what they conform to.
use Rattle.std.proofs.Common.{◌≡◌, ℕ, ◌+◌, Bool, true, false, cond, List, [], ◌∷◌, ◌++◌, append-nil, map, Option, Some, None, sym, ◌∙◌, ap, refl}
use Rattle.std.specs.Prelude.{◌↔◌, IsTrue, is_some}
use Rattle.std.specs.Option.{option_map}
use Rattle.std.specs.List.{filter, range_with_len}
use Rattle.std.proofs.lemmas.List.{map-append}
use Rattle.mof_metamodel.proofs.WalkLemmas.{filter_step}
use Rattle.std.proofs.lemmas.Bool.{true≢false}
use Rattle.object_tables.specs.Objects.{Object}
use Rattle.object_tables.specs.Models.{ModelData, IsLive, object_at, class_at}
use Rattle.qvtr_semantics.specs.declared.datum.Datum.{Datum}
use Rattle.qvtr_semantics.specs.Objects.{object_datum, is_kind_of, conforms_if, conforms_at}
pub use Rattle.key_index.proofs.KindLaws.{among_from, among_to}

-- an object that isn't live has no class
pub gone_class : (m : ModelData) (o : ℕ) (r : Bool) → (IsTrue r ↔ IsLive m o) → r ≡ false → class_at m o ≡ None
gone_class m o r same is = by (object_at m o) refl
  where
    by : (ob : Option Object) → object_at m o ≡ ob → class_at m o ≡ None
    by None e = ap (λ (x : Option Object). option_map (λ ob. ob.class) x) e
    by (Some ob) e = absurd (true≢false (sym (same.1 (ap is_some e)) ∙ is))

pub gone : (m : ModelData) (class o : ℕ) (r : Bool) → (IsTrue r ↔ IsLive m o) → r ≡ false → false ≡ conforms_at m class o
gone m class o r same is = sym (ap (conforms_if m.meta class) (gone_class m o r same is))

pub live : (m : ModelData) (class o c : ℕ) (b : Bool) → class_at m o ≡ Some c → b ≡ is_kind_of m.meta c class → b ≡ conforms_at m class o
live m class o c b is same = same ∙ sym (ap (conforms_if m.meta class) is)

-- ---- extents

more : (m : ModelData) (class number o : ℕ) (b : Bool) → conforms_at m class o ≡ b
    → map (object_datum number) (filter (conforms_at m class) (range_with_len 0 (o + 1)))
    ≡ map (object_datum number) (filter (conforms_at m class) (range_with_len 0 o)) ++ map (object_datum number) (cond b (o ∷ []) [])
more m class number o b is =
    ap (map (object_datum number)) (filter_step (conforms_at m class) o ∙ ap (λ x. filter (conforms_at m class) (range_with_len 0 o) ++ cond x (o ∷ []) []) is)
    ∙ map-append (object_datum number) (filter (conforms_at m class) (range_with_len 0 o)) (cond b (o ∷ []) [])

pub one_more : (m : ModelData) (class number o : ℕ) (r : Bool) (objects after : List Datum) → objects ≡ map (object_datum number) (filter (conforms_at m class) (range_with_len 0 o))
    → r ≡ conforms_at m class o → r ≡ true → after ≡ objects ++ object_datum number o ∷ [] → after ≡ map (object_datum number) (filter (conforms_at m class) (range_with_len 0 (o + 1)))
one_more m class number o r objects after so_far is held put = put ∙ ap (λ ds. ds ++ object_datum number o ∷ []) so_far ∙ sym (more m class number o true (sym is ∙ held))

pub none_more : (m : ModelData) (class number o : ℕ) (r : Bool) (objects after : List Datum) → objects ≡ map (object_datum number) (filter (conforms_at m class) (range_with_len 0 o))
    → r ≡ conforms_at m class o → r ≡ false → after ≡ objects → after ≡ map (object_datum number) (filter (conforms_at m class) (range_with_len 0 (o + 1)))
none_more m class number o r objects after so_far is wrong same =
    same ∙ so_far ∙ sym (append-nil (map (object_datum number) (filter (conforms_at m class) (range_with_len 0 o)))) ∙ sym (more m class number o false (sym is ∙ wrong))
