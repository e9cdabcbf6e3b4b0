-- Seeds: an object for the root of a domain of the source. That root is a universal variable, and its value in a binding that meets the
-- source is one of the objects, so each binding begins with a seed.
use Rattle.std.specs.Prelude.{◌≡◌, ◌≢◌, ◌⊎◌, ℕ, zero, suc, Bool, true, false, not, List, [], ◌∷◌, map, length, Option, None, Some, is_some, slice_get, slice_set, slice_index_or, Contains, if◌then◌else◌}
use Rattle.std.proofs.Common.{refl, sym, ap, subst, ◌∙◌, arith, inl, inr}
use Rattle.std.proofs.lemmas.Bool.{true≢false, eq-eqb}
use Rattle.std.proofs.lemmas.Option.{same_Some}
use Rattle.std.proofs.lemmas.List.{length-set, length-replicate}
use Rattle.mof_metamodel.specs.declared.desc.ClassId.{ClassId}
use Rattle.object_tables.specs.Models.{ModelData}
use Rattle.qv_syntax.specs.declared.program.Program.{Program}
use Rattle.qv_syntax.specs.declared.program.Rel.{Rel}
use Rattle.qv_syntax.specs.declared.program.Var.{Var}
use Rattle.qv_syntax.specs.declared.program.Dom.{Dom}
use Rattle.qv_syntax.specs.Relations.{IsUniversal, OccursInTemplates}
use Rattle.qvtr_semantics.specs.declared.datum.Datum.{Datum}
use Rattle.qvtr_semantics.specs.declared.datum.Datum.TheVariants.{Obj, Val}
use Rattle.qvtr_semantics.specs.Expressions.{setting}
use Rattle.qvtr_semantics.specs.Templates.{Values, value_at}
use Rattle.qvtr_semantics.specs.Bindings.{Extends, Source, is_datum_for}
use Rattle.qvtr_semantics.specs.Calls.{free}
use Rattle.template_match.specs.declared.side.Side.TheVariants as sides
use Rattle.template_match.specs.Search.{extent_for, objects_in, objects_of}
use Rattle.template_match.proofs.ListLaws.{contains_later}
use Rattle.template_match.proofs.SideLaws.{meets_parts, Valued, valued, extended, no_extent}
use Rattle.mof_metamodel.proofs.Facts.{contains_first, contains_map, only_one}
use Rattle.relation_calls.specs.Askable.{IsFormed}
use Rattle.relation_calls.specs.Seeds.{is_of_source, first_root, AreSeeds}
use Rattle.relation_calls.proofs.FreedLaws.{nothing_free}

-- ---- lists

-- what stands in a list after a change
put_from : {X : Type 0} (xs : List (Option X)) (w v : ℕ) (e d : X) → slice_index_or (slice_set xs w (Some e)) v None ≡ Some d → (slice_index_or xs v None ≡ Some d) ⊎ ((w ≡ v) × (e ≡ d))
put_from [] w v e d h = inl h
put_from (x ∷ xs) zero zero e d h = inr (refl, same_Some e d h)
put_from (x ∷ xs) zero (suc v) e d h = inl h
put_from (x ∷ xs) (suc w) zero e d h = inl h
put_from (x ∷ xs) (suc w) (suc v) e d h = elim (put_from xs w v e d h) [
  | inl before ↦ inl before
  | inr now ↦ inr (ap suc now.0, now.1)
]

from_map : {X Y : Type 0} (h : X → Y) (xs : List X) (y : Y) → Contains (map h xs) y → (x : X) × Contains xs x × (h x ≡ y)
from_map h [] y (k, within, is) = absurd (omega (arith, within))
from_map h (x ∷ xs) y (zero, within, is) = (x, contains_first x xs, is)
from_map h (x ∷ xs) y (suc k, within, is) = let (z, has, same) = from_map h xs y (k, omega (arith, within), is) in (z, contains_later z x xs has, same)

-- ---- bindings that meet the source with the roots of a seed

module _ (program : Program) (models : List ModelData) (rel : Rel) (f b : Values) where
  pub seed_source : Extends f b → Source program models rel (free rel) b → Source program models rel f b
  seed_source more source =
      record {
        places = source.places;
        extends = more;
        no_others = λ v d at. elim (source.no_others v d at) [
          | inl has ↦ inl has
          | inr never ↦ absurd (nothing_free (length rel.vars) v d never)
        ];
        meets = source.meets;
      }

  pub free_source : ((v : ℕ) (d : Datum) → value_at f v ≡ Some d → Contains rel.universal v) → Source program models rel f b → Source program models rel (free rel) b
  free_source universal source =
      record {
        places = source.places;
        extends = λ v d at. absurd (nothing_free (length rel.vars) v d at);
        no_others = λ v d at. elim (source.no_others v d at) [
          | inl has ↦ inl has
          | inr own ↦ inl (universal v d own)
        ];
        meets = source.meets;
      }

-- ---- the first domain of the source

module _ (program : Program) where
  other_model : (o : Option ℕ) → is_of_source program o ≡ true → o ≢ Some program.target
  other_model None h e = absurd (true≢false (sym h))
  other_model (Some m) h e = true≢false (sym h ∙ ap not (eq-eqb m program.target (same_Some m program.target e)))

  -- the root is that of a domain of another model
  record IsFirst (domains : List Dom) (root : ℕ) : Type 0 where
    dom : Dom
    has : Contains domains dom
    source : dom.model ≢ Some program.target
    is : dom.root ≡ root

  first_is : (domains : List Dom) (root : ℕ) → first_root program domains ≡ Some root → IsFirst domains root
  first_is [] root e = absurd (cc)
  first_is (dom ∷ domains) root e = by (first_is domains root) (is_of_source program dom.model) refl e
    where
      by : (first_root program domains ≡ Some root → IsFirst domains root) → (t : Bool) → is_of_source program dom.model ≡ t → (if t then Some dom.root else first_root program domains) ≡ Some root
          → IsFirst (dom ∷ domains) root
      by later true h is = record { dom = dom; has = contains_first dom domains; source = other_model dom.model h; is = same_Some dom.root root is }
      by later false h is =
          let l = later is in
          record { dom = l.dom; has = contains_later l.dom dom domains l.has; source = l.source; is = l.is }

-- ---- its objects

there_is : (o : Option Var) (x : ℕ × ClassId) → extent_for o ≡ Some x → (var : Var) × (o ≡ Some var)
there_is None x e = absurd (cc)
there_is (Some var) x e = (var, refl)

-- the value of a variable for objects is one of them
one_of : (program : Program) (models : List ModelData) (rel : Rel) (b : Values) (v : ℕ) (x : ℕ × ClassId) → extent_for (slice_get rel.vars v) ≡ Some x
    → (val : Valued program models rel b v) (d : Datum) → val.value ≡ d → Contains (objects_of models (Some x)) d
one_of program models rel b v x is val (Obj m o) e =
    let y = extended program models val.var m o (subst (λ d. is_datum_for (setting program models) val.var d ≡ true) e val.fits) in
    subst (λ q. Contains (objects_of models q) (Obj m o)) (sym y.is ∙ ap extent_for (sym val.found) ∙ is) y.within
one_of program models rel b v x is val (Val m w) e =
    absurd (no_extent program models val.var m w (subst (λ d. is_datum_for (setting program models) val.var d ≡ true) e val.fits)
    (ap is_some (ap extent_for (sym val.found) ∙ is)))

module _ (program : Program) (models : List ModelData) (formed : IsFormed program) (number : ℕ) (rel : Rel) (found : slice_get program.rels number ≡ Some rel)
    (root model : ℕ) (class : ClassId) (first : first_root program rel.domains ≡ Some root) (extent : extent_for (slice_get rel.vars root) ≡ Some (model, class))
    (seeds : List Values) (are : seeds ≡ map (λ (d : Datum). slice_set (free rel) root (Some d)) (objects_in model class (slice_get models model)))
  where
    universal_root : Contains rel.universal root
    universal_root =
        let l = first_is program rel.domains root first in
        let (var, there) = there_is (slice_get rel.vars root) (model, class) extent in
        ((formed.1.relations number rel found).variables.universal root var there).1
        (IsUniversal.domain l.dom (record { is = l.has; source = l.source }) (OccursInTemplates.root l.is))

    of_seed : (f : Values) → Contains seeds f → (d : Datum) × (slice_set (free rel) root (Some d) ≡ f)
    of_seed f c =
        let (d, has, same) = from_map (λ (e : Datum). slice_set (free rel) root (Some e)) (objects_in model class (slice_get models model)) f (subst (λ fs. Contains fs f) are c) in
        (d, same)

    pub object_seeds : AreSeeds program models rel seeds
    object_seeds =
        record {
          places = λ f c.
              let (d, same) = of_seed f c in
              subst (λ x. length x ≡ length rel.vars) same (length-set (free rel) root (Some d) ∙ length-replicate (length rel.vars) None);
          universal = λ f v d c at.
              let (e, same) = of_seed f c in
              elim (put_from (free rel) root v e d (subst (λ x. value_at x v ≡ Some d) (sym same) at)) [
                | inl never ↦ absurd (nothing_free (length rel.vars) v d never)
                | inr here ↦ subst (Contains rel.universal) here.0 universal_root
              ];
          all = λ b source.
              let val = valued program models rel rel.universal b root (meets_parts sides.Source rel.universal program models rel b source.meets).have universal_root in
              let among = one_of program models rel b root (model, class) extent val val.value refl in (
                slice_set (free rel) root (Some val.value),
                subst (λ fs. Contains fs (slice_set (free rel) root (Some val.value))) (sym are)
                    (contains_map (λ (e : Datum). slice_set (free rel) root (Some e)) (objects_in model class (slice_get models model)) val.value among),
                λ v d at. elim (put_from (free rel) root v val.value d at) [
                  | inl never ↦ absurd (nothing_free (length rel.vars) v d never)
                  | inr here ↦ subst (λ w. value_at b w ≡ Some d) here.0 (val.at ∙ ap (λ x. Some x) here.1)
                ],
              );
        }

-- ---- no values

pub free_seeds : (program : Program) (models : List ModelData) (rel : Rel) (seeds : List Values) → seeds ≡ free rel ∷ [] → AreSeeds program models rel seeds
free_seeds program models rel seeds is =
    let nothing : (f : Values) (v : ℕ) (d : Datum) → Contains seeds f → value_at f v ≡ Some d → ⊥ = λ f v d c at.
    nothing_free (length rel.vars) v d (subst (λ x. value_at x v ≡ Some d) (sym (only_one (free rel) f (subst (λ xs. Contains xs f) is c))) at) in
    record {
      places = λ f c. ap length (sym (only_one (free rel) f (subst (λ xs. Contains xs f) is c))) ∙ length-replicate (length rel.vars) None;
      universal = λ f v d c at. absurd (nothing f v d c at);
      all = λ b source. (free rel, subst (λ xs. Contains xs (free rel)) (sym is) (contains_first (free rel) []), λ v d at. absurd (nothing_free (length rel.vars) v d at));
    }
