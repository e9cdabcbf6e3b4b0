-- Bindings with twins at the same variables.
use Rattle.std.specs.Prelude.{◌≡◌, ℕ, zero, suc, List, [], ◌∷◌, length, Option, None, Some, slice_set}
use Rattle.std.specs.List.{AllZip}
use Rattle.std.proofs.Common.{refl, sym, ap, ◌∙◌, subst, arith}
use Rattle.std.proofs.lemmas.List.{length-set}
use Rattle.object_tables.specs.Models.{ModelData}
use Rattle.qv_syntax.specs.declared.program.Program.{Program}
use Rattle.qv_syntax.specs.declared.program.Rel.{Rel}
use Rattle.qv_syntax.specs.declared.program.Dom.{Dom}
use Rattle.qvtr_semantics.specs.declared.datum.Datum.{Datum}
use Rattle.qvtr_semantics.specs.Templates.{Values, value_at}
use Rattle.qvtr_semantics.specs.Calls.{free, with_roots}
use Rattle.template_match.proofs.ValueLaws.{some_datum, same_values}
use Rattle.source_laws.specs.SourceValues.{IsOfSources}
use Rattle.source_laws.specs.SourceRelations.{AgreeOnSources, IsApart}
use Rattle.source_laws.proofs.RootLaws.{none_free}
use Rattle.same_targets.proofs.Twins.{Pairing, turned_round, OneTwin, IsTwinning, turned_one, twin_once, source_twin}

-- at each variable both have twins, or neither has a value
pub record AreTwins (R : Pairing) (b c : Values) : Type 0 where
  pub places : length b ≡ length c
  pub each : (v : ℕ) → OneTwin R (value_at b v) (value_at c v)

pub turned_twins : (R : Pairing) (b c : Values) → AreTwins R b c → AreTwins (turned_round R) c b
turned_twins R b c twins = record { places = sym twins.places; each = λ v. turned_one R (value_at b v) (value_at c v) (twins.each v) }

twin_of : (R : Pairing) (o p : Option Datum) (d : Datum) → OneTwin R o p → o ≡ Some d → (e : Datum) × (p ≡ Some e) × R d e
twin_of R None p d h is = absurd (cc)
twin_of R (Some x) None d h is = absurd h
twin_of R (Some x) (Some e) d h is = (e, refl, subst (λ y. R y e) (some_datum x d is) h)

-- the twin of a value
pub twin_there : (R : Pairing) (b c : Values) → AreTwins R b c → (v : ℕ) (d : Datum) → value_at b v ≡ Some d → (e : Datum) × (value_at c v ≡ Some e) × R d e
twin_there R b c twins v d at = twin_of R (value_at b v) (value_at c v) d (twins.each v) at

-- of which a value is the twin
pub twin_back : (R : Pairing) (b c : Values) → AreTwins R b c → (v : ℕ) (e : Datum) → value_at c v ≡ Some e → (d : Datum) × (value_at b v ≡ Some d) × R d e
twin_back R b c twins v e at = twin_there (turned_round R) c b (turned_twins R b c twins) v e at

one_more : (R : Pairing) (x : Option Datum) (b : Values) → (o : Option Datum) × OneTwin R x o → (c : Values) × AreTwins R b c → (c : Values) × AreTwins R (x ∷ b) c
one_more R x b first rest = (first.0 ∷ rest.0, record { places = ap suc rest.1.places; each = each })
  where
    each : (v : ℕ) → OneTwin R (value_at (x ∷ b) v) (value_at (first.0 ∷ rest.0) v)
    each zero = first.1
    each (suc v) = rest.1.each v

-- a binding with a twin chosen for each value
chosen : (R : Pairing) (b : Values) → ((v : ℕ) → (o : Option Datum) × OneTwin R (value_at b v) o) → (c : Values) × AreTwins R b c
chosen R [] f = ([], record { places = refl; each = λ v. tt })
chosen R (x ∷ b) f = one_more R x b (f zero) (chosen R b (λ v. f (suc v)))

choice : (R : Pairing) (o : Option Datum) → ((d : Datum) → o ≡ Some d → (e : Datum) × R d e) → (p : Option Datum) × OneTwin R o p
choice R None has = (None, tt)
choice R (Some d) has = let e = has d refl in (Some e.0, e.1)

-- where each value has a twin there is one with these
pub twin_binding : (R : Pairing) (b : Values) → ((v : ℕ) (d : Datum) → value_at b v ≡ Some d → (e : Datum) × R d e) → (c : Values) × AreTwins R b c
twin_binding R b has = chosen R b (λ v. choice R (value_at b v) (λ d at. has v d at))

-- ---- roots

put_twins : (R : Pairing) (x y : Values) (r v : ℕ) (d e : Datum) → length x ≡ length y → OneTwin R (value_at x v) (value_at y v) → R d e
    → OneTwin R (value_at (slice_set x r (Some d)) v) (value_at (slice_set y r (Some e)) v)
put_twins R [] [] r v d e long same own = same
put_twins R [] (q ∷ y) r v d e long same own = absurd (omega (arith, long))
put_twins R (p ∷ x) [] r v d e long same own = absurd (omega (arith, long))
put_twins R (p ∷ x) (q ∷ y) zero zero d e long same own = own
put_twins R (p ∷ x) (q ∷ y) zero (suc v) d e long same own = same
put_twins R (p ∷ x) (q ∷ y) (suc r) zero d e long same own = same
put_twins R (p ∷ x) (q ∷ y) (suc r) (suc v) d e long same own = let short : length x ≡ length y = omega (arith, long) in put_twins R x y r v d e short same own

-- with twins for roots they are twins
pub roots_twins : (R : Pairing) (x y : Values) (doms : List Dom) (ds es : List Datum) → AreTwins R x y → AllZip R ds es
    → AreTwins R (with_roots x doms ds) (with_roots y doms es)
roots_twins R x y [] ds es twins all = twins
roots_twins R x y (dom ∷ doms) [] [] twins all = twins
roots_twins R x y (dom ∷ doms) [] (e ∷ es) twins all = absurd all
roots_twins R x y (dom ∷ doms) (d ∷ ds) [] twins all = absurd all
roots_twins R x y (dom ∷ doms) (d ∷ ds) (e ∷ es) twins all =
    roots_twins R (slice_set x dom.root (Some d)) (slice_set y dom.root (Some e)) doms ds es (record {
      places = length-set x dom.root (Some d) ∙ twins.places ∙ sym (length-set y dom.root (Some e));
      each = λ v. put_twins R x y dom.root v d e twins.places (twins.each v) all.0;
    }) all.1

pub free_twins : (R : Pairing) (rel : Rel) → AreTwins R (free rel) (free rel)
free_twins R rel = record { places = refl; each = λ v. subst (λ o. OneTwin R o o) (sym (none_free (length rel.vars) v)) tt }

-- no variable has an object of the target
pub free_apart : (program : Program) (rel : Rel) → IsApart program rel (free rel)
free_apart program rel v d outside at = absurd (never d (sym (none_free (length rel.vars) v) ∙ at))
  where
    never : (x : Datum) → ◌≡◌ {A = Option Datum} None (Some x) → ⊥
    never x h = cc

-- ---- variables of the sources

module _ (program : Program) (ms ns : List ModelData) (R : Pairing) (i : IsTwinning program ms ns R) (rel : Rel) (b c : Values) (apart : IsApart program rel b)
    (twins : AreTwins R b c)
  where
    same_at : (o p : Option Datum) → ((d : Datum) → o ≡ Some d → IsOfSources program.target d) → OneTwin R o p → o ≡ p
    same_at None None own h = refl
    same_at None (Some e) own h = absurd h
    same_at (Some d) None own h = absurd h
    same_at (Some d) (Some e) own h = ap (λ (x : Datum). Some x) (source_twin program ms ns R i d e h (own d refl))

    -- have the same values in both
    pub twins_agree : AgreeOnSources program rel b c
    twins_agree = record { places = twins.places; same = λ v outside. same_at (value_at b v) (value_at c v) (λ d at. apart v d outside at) (twins.each v) }

    pub apart_there : IsApart program rel c
    apart_there v d outside at = apart v d outside (twins_agree.same v outside ∙ at)

-- a binding has one twin
pub binding_once : (program : Program) (ms ns : List ModelData) (R : Pairing) → IsTwinning program ms ns R → (b c d : Values) → AreTwins R b c → AreTwins R b d → c ≡ d
binding_once program ms ns R i b c d one other =
    same_values c d (sym one.places ∙ other.places) (λ v. by (value_at b v) (value_at c v) (value_at d v) (one.each v) (other.each v))
  where
    by : (o p q : Option Datum) → OneTwin R o p → OneTwin R o q → p ≡ q
    by None None None h k = refl
    by None None (Some z) h k = absurd k
    by None (Some y) q h k = absurd h
    by (Some x) None q h k = absurd h
    by (Some x) (Some y) None h k = absurd k
    by (Some x) (Some y) (Some z) h k = ap (λ (w : Datum). Some w) (twin_once program ms ns R i x y z h k)
