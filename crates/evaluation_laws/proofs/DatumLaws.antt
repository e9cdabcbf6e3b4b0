-- Data that are the same are one, and what stands among data of a type is of the type.
use Rattle.std.proofs.Common.{◌≡◌, ◌==◌, ◌||◌, ℕ, Bool, true, false, List, [], ◌∷◌, refl, sym, ap, ◌∙◌, subst}
use Rattle.std.specs.Prelude.{All, nat_eq}
use Rattle.std.specs.Bool.{beq}
use Rattle.std.specs.Cmp.Lexicographic.{pointwise}
use Rattle.std.proofs.lemmas.Bool.{and_parts, false≢true, eqb-true}
use Rattle.std.proofs.lemmas.Bool.Decides.{Decides-int_eq}
use Rattle.std.proofs.lemmas.List.Elements.{All-head, All-tail}
use Rattle.mof_metamodel.specs.declared.desc.EnumId.{EnumId}
use Rattle.object_tables.specs.declared.value.ObjId.{ObjId}
use Rattle.object_tables.specs.declared.value.Value.{Value}
use Rattle.object_tables.specs.declared.value.Value.TheVariants as values
use Rattle.qvtr_semantics.specs.declared.datum.Datum.{Datum}
use Rattle.qvtr_semantics.specs.declared.datum.Datum.TheVariants.{Obj, Val}
use Rattle.qvtr_semantics.specs.Data.{same_value, same_datum, is_among}

same_text : (s t : List ℕ) → pointwise nat_eq s t ≡ true → s ≡ t
same_text [] [] is = refl
same_text [] (d ∷ t) is = absurd (false≢true is)
same_text (c ∷ s) [] is = absurd (false≢true is)
same_text (c ∷ s) (d ∷ t) is =
    let parts = and_parts (nat_eq c d) (pointwise nat_eq s t) is in
    ap (λ x. x ∷ s) (eqb-true c d parts.0) ∙ ap (λ xs. d ∷ xs) (same_text s t parts.1)

same_bool : (b c : Bool) → beq b c ≡ true → b ≡ c
same_bool true true is = refl
same_bool false false is = refl
same_bool true false is = absurd (false≢true is)
same_bool false true is = absurd (false≢true is)

same_id : (e f : EnumId) → (e.0 == f.0) ≡ true → e ≡ f
same_id e f is = ap (λ (x : ℕ). let id : EnumId = record { 0 = x } in id) (eqb-true e.0 f.0 is)

same_object : (o p : ObjId) → (o.0 == p.0) ≡ true → o ≡ p
same_object o p is = ap (λ (x : ℕ). let id : ObjId = record { 0 = x } in id) (eqb-true o.0 p.0 is)

value_same : (v w : Value) → same_value v w ≡ true → v ≡ w
value_same (values.Str s) (values.Str t) is = ap (λ x. values.Str x) (same_text s t is)
value_same (values.Int i) (values.Int j) is = ap (λ x. values.Int x) ((Decides-int_eq i j).0 is)
value_same (values.Bool b) (values.Bool c) is = ap (λ x. values.Bool x) (same_bool b c is)
value_same (values.Lit e n) (values.Lit f k) is =
    let parts = and_parts (e.0 == f.0) (n == k) is in
    ap (λ x. values.Lit x n) (same_id e f parts.0) ∙ ap (λ x. values.Lit f x) (eqb-true n k parts.1)
value_same v w is = absurd (false≢true is)

pub datum_same : (d e : Datum) → same_datum d e ≡ true → d ≡ e
datum_same (Obj m o) (Obj n p) is =
    let parts = and_parts (m == n) (o.0 == p.0) is in
    ap (λ x. Obj x o) (eqb-true m n parts.0) ∙ ap (λ x. Obj n x) (same_object o p parts.1)
datum_same (Val m v) (Val n w) is =
    let parts = and_parts (m == n) (same_value v w) is in
    ap (λ x. Val x v) (eqb-true m n parts.0) ∙ ap (λ x. Val n x) (value_same v w parts.1)
datum_same d e is = absurd (false≢true is)

among_by : (P : Datum → Type 0) (d e : Datum) (es : List Datum) (b : Bool) → same_datum d e ≡ b → P e → (is_among d es ≡ true → P d) → (b || is_among d es) ≡ true → P d
among_by P d e es true same here later is = subst P (sym (datum_same d e same)) here
among_by P d e es false same here later is = later is

-- a datum that stands in a list is as all of the list
pub among_all : (P : Datum → Type 0) (d : Datum) (ds : List Datum) → All P ds → is_among d ds ≡ true → P d
among_all P d [] all is = absurd (false≢true is)
among_all P d (e ∷ es) all is = among_by P d e es (same_datum d e) refl (All-head P e es all) (among_all P d es (All-tail P e es all)) is
