-- Twins: data of two lists of models that relations can't tell apart, as an object of the target and the object with its number in a target that is
-- the same.
use Rattle.std.specs.Prelude.{◌≡◌, ◌⊎◌, ℕ, List, [], ◌∷◌, Option, None, Some}
use Rattle.std.specs.List.{AllZip}
use Rattle.std.proofs.Common.{refl, sym, ◌∙◌, subst, inl, inr}
use Rattle.object_tables.specs.declared.value.ObjId.{ObjId}
use Rattle.object_tables.specs.Models.{ModelData}
use Rattle.qv_syntax.specs.declared.program.Program.{Program}
use Rattle.qvtr_semantics.specs.declared.datum.Datum.{Datum}
use Rattle.qvtr_semantics.specs.declared.datum.Datum.TheVariants.{Obj}
use Rattle.qvtr_semantics.specs.Data.{same_datum}
use Rattle.qvtr_semantics.specs.Objects.{ObjectClass, class_of, held_at}
use Rattle.qvtr_semantics.specs.Expressions.{setting}
use Rattle.ocl_eval.specs.OrderLaws.{same_decides}
use Rattle.source_laws.specs.Agreement.{AgreeBut}
use Rattle.source_laws.specs.SourceValues.{IsOfSources}
use Rattle.source_laws.proofs.BindingLaws.{opposite}

-- what is said of two data
abbrev pub Pairing : Type 1
Pairing = Datum → Datum → Type 0

-- the same from the other side
abbrev pub turned_round : Pairing → Pairing
turned_round R e d = R d e

-- two data that are twins, or none
abbrev pub OneTwin : Pairing → Option Datum → Option Datum → Type 0
OneTwin R None None = Unit {0}
OneTwin R None (Some e) = ⊥
OneTwin R (Some d) None = ⊥
OneTwin R (Some d) (Some e) = R d e

-- two lists of twins, or none
abbrev pub AllTwins : Pairing → Option (List Datum) → Option (List Datum) → Type 0
AllTwins R None None = Unit {0}
AllTwins R None (Some es) = ⊥
AllTwins R (Some ds) None = ⊥
AllTwins R (Some ds) (Some es) = AllZip R ds es

-- two objects of the target
pub record AreTargets (t : ℕ) (d e : Datum) : Type 0 where
  pub here : ObjId
  pub there : ObjId
  pub here_is : d ≡ Obj t here
  pub there_is : e ≡ Obj t there

-- Twins are one datum of the sources, or objects of the two targets; of one class, with twins in each slot; as different as their twins. Each datum
-- of the sources is its own twin, and each live object of a target has one.
pub record IsTwinning (program : Program) (ms ns : List ModelData) (R : Pairing) : Type 0 where
  pub agree : AgreeBut program.target ms ns
  pub kinds : (d e : Datum) → R d e → (IsOfSources program.target d × (d ≡ e)) ⊎ AreTargets program.target d e
  pub sources : (d : Datum) → IsOfSources program.target d → R d d
  pub classes : (d e : Datum) → R d e → class_of (setting program ms) d ≡ class_of (setting program ns) e
  pub held : (d e : Datum) (p : ℕ) → R d e → AllTwins R (held_at (setting program ms) d p) (held_at (setting program ns) e p)
  pub one : (a b d e : Datum) → R a d → R b e → same_datum a b ≡ same_datum d e
  pub total : (o : ObjId) (c : ObjectClass) → class_of (setting program ms) (Obj program.target o) ≡ Some c → (e : Datum) × R (Obj program.target o) e
  pub onto : (o : ObjId) (c : ObjectClass) → class_of (setting program ns) (Obj program.target o) ≡ Some c → (d : Datum) × R d (Obj program.target o)

-- ---- from the other side

pub turned_one : (R : Pairing) (o p : Option Datum) → OneTwin R o p → OneTwin (turned_round R) p o
turned_one R None None h = tt
turned_one R None (Some e) h = absurd h
turned_one R (Some d) None h = absurd h
turned_one R (Some d) (Some e) h = h

turned_list : (R : Pairing) (ds es : List Datum) → AllZip R ds es → AllZip (turned_round R) es ds
turned_list R [] [] h = tt
turned_list R [] (e ∷ es) h = absurd h
turned_list R (d ∷ ds) [] h = absurd h
turned_list R (d ∷ ds) (e ∷ es) h = (h.0, turned_list R ds es h.1)

turned_all : (R : Pairing) (s u : Option (List Datum)) → AllTwins R s u → AllTwins (turned_round R) u s
turned_all R None None h = tt
turned_all R None (Some es) h = absurd h
turned_all R (Some ds) None h = absurd h
turned_all R (Some ds) (Some es) h = turned_list R ds es h

module _ (program : Program) (ms ns : List ModelData) (R : Pairing) (i : IsTwinning program ms ns R) where
  turned_kind : (d e : Datum) → (IsOfSources program.target d × (d ≡ e)) ⊎ AreTargets program.target d e
      → (IsOfSources program.target e × (e ≡ d)) ⊎ AreTargets program.target e d
  turned_kind d e (inl (apart, same)) = inl (subst (IsOfSources program.target) same apart, sym same)
  turned_kind d e (inr both) = inr (record { here = both.there; there = both.here; here_is = both.there_is; there_is = both.here_is })

  pub turned : IsTwinning program ns ms (turned_round R)
  turned = record {
    agree = opposite program.target ms ns i.agree;
    kinds = λ e d r. turned_kind d e (i.kinds d e r);
    sources = i.sources;
    classes = λ e d r. sym (i.classes d e r);
    held = λ e d p r. turned_all R (held_at (setting program ms) d p) (held_at (setting program ns) e p) (i.held d e p r);
    one = λ a b d e r s. sym (i.one d e a b r s);
    total = i.onto;
    onto = i.total;
  }

  -- ---- twins are told

  -- a datum has one twin
  pub twin_once : (d e f : Datum) → R d e → R d f → e ≡ f
  twin_once d e f r s = (same_decides e f).0 (sym (i.one d d e f r s) ∙ (same_decides d d).1 refl)

  -- that of a datum of the sources is this one
  pub source_twin : (d e : Datum) → R d e → IsOfSources program.target d → d ≡ e
  source_twin d e r apart = by (i.kinds d e r)
    where
      by : (IsOfSources program.target d × (d ≡ e)) ⊎ AreTargets program.target d e → d ≡ e
      by (inl both) = both.1
      by (inr targets) = let never = subst (IsOfSources program.target) targets.here_is apart in absurd (never refl)
