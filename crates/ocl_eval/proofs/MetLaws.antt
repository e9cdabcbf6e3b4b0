-- Data as the keys of a set: what a search finds is among them, and one more key is one more of the data.
use Rattle.std.proofs.Common.{◌≡◌, Bool, true, false, cond, List, [], ◌∷◌, refl, sym, ◌∙◌, ap}
use Rattle.std.specs.Prelude.{◌||◌, not}
use Rattle.std.specs.List.{list_any, list_all, filter}
use Rattle.std.specs.BTreeMap.{is_at}
use Rattle.qvtr_semantics.specs.declared.datum.Datum.{Datum}
use Rattle.qvtr_semantics.specs.Data.{same_datum, is_among, new_ones}
use Rattle.ocl_eval.specs.Order.{datum_order}
use Rattle.ocl_eval.specs.OrderLaws.{ties_where_same, same_swapped}

pub found_among : (d : Datum) (ds : List Datum) → list_any (is_at (datum_order d)) ds ≡ is_among d ds
found_among d ds = λ i. list_any (λ e. sym (ties_where_same d e) i) ds

put_or_there : (a b c : Bool) → a ≡ b → cond a true c ≡ b || c
put_or_there true b c e = ap (λ x. x || c) e
put_or_there false b c e = ap (λ x. x || c) e

-- the keys after a search for q among them, where d was put
pub met_with : (d q : Datum) (ds es : List Datum) → list_any (is_at (datum_order q)) es ≡ cond (is_at (datum_order d) q) true (list_any (is_at (datum_order q)) ds)
    → is_among q es ≡ same_datum q d || is_among q ds
met_with d q ds es h =
    sym (found_among q es) ∙ h ∙ put_or_there (is_at (datum_order d) q) (same_datum q d) (list_any (is_at (datum_order q)) ds) (sym (ties_where_same d q) ∙ same_swapped d q)
    ∙ ap (λ b. same_datum q d || b) (found_among q ds)

-- ---- tests by the keys are tests by the data

pub all_as_met : (keys es ds : List Datum) → ((e : Datum) → is_among e keys ≡ is_among e es) → list_all (λ d. is_among d keys) ds ≡ list_all (λ d. is_among d es) ds
all_as_met keys es ds h = λ i. list_all (λ d. h d i) ds

pub none_as_met : (keys es ds : List Datum) → ((e : Datum) → is_among e keys ≡ is_among e es) → list_all (λ d. not (is_among d keys)) ds ≡ list_all (λ d. not (is_among d es)) ds
none_as_met keys es ds h = λ i. list_all (λ d. not (h d i)) ds

pub common_as_met : (keys es ds : List Datum) → ((e : Datum) → is_among e keys ≡ is_among e es) → filter (λ d. is_among d keys) ds ≡ filter (λ d. is_among d es) ds
common_as_met keys es ds h = λ i. filter (λ d. h d i) ds

-- ---- what is new depends on who was met alone

joined_alike : (d e : Datum) (met keys : List Datum) → is_among e keys ≡ is_among e met → is_among e (d ∷ keys) ≡ is_among e (d ∷ met)
joined_alike d e met keys h = ap (λ b. same_datum e d || b) h

pub new_by_members : (met keys ds : List Datum) → ((e : Datum) → is_among e keys ≡ is_among e met) → new_ones keys ds ≡ new_ones met ds
new_by_members met keys [] h = refl
new_by_members met keys (d ∷ ds) h =
    (λ i. cond (h d i) (new_by_members met keys ds h i) (d ∷ new_by_members (d ∷ met) (d ∷ keys) ds (λ e. joined_alike d e met keys (h e)) i))
