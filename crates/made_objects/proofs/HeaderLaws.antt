-- Objects without what their slots hold: what is kept of them where links are taken out, objects deleted and others added.
use Rattle.std.specs.Prelude.{◌≡◌, ◌≢◌, ◌<◌, ◌≤◌, ◌+◌, ◌==◌, ◌||◌, nat_lt, ℕ, Bool, true, false, not, List, map, length, Option, None, Some, if◌then◌else◌}
use Rattle.std.specs.Option.{option_map}
use Rattle.std.proofs.Common.{refl, ap, sym, ◌∙◌, arith, inl, inr, eq-eqb}
use Rattle.std.proofs.Math.ListN.{get_or-map}
use Rattle.std.proofs.lemmas.Bool.{cases_lt, cases_eq, ne_eqb, lt-ltb}
use Rattle.std.proofs.lemmas.Bool.Decides.{nat_tests}
use Rattle.std.proofs.lemmas.List.{get_or_past, length-map}
use Rattle.object_tables.specs.Objects.{Object}
use Rattle.object_tables.specs.Models.{ModelData, object_at, class_at, id_at, HasId, object_without, deleted}
use Rattle.object_tables.proofs.KeptObjects.{object-deleted, linked-deleted}
use Rattle.object_tables.proofs.ListLemmas.{length-update_at}
use Rattle.model_filling.specs.Unlinked.{object_without_links, without_links, HasNoLinks}
use Rattle.model_filling.proofs.UnlinkLaws.{none_linked}
use Rattle.made_objects.specs.Headers.{Header, header, header_at, KeepsWhere, is_spared, is_left_from}

-- ---- headers

class_of_header : (x : Option Object) → option_map (λ ob. ob.class) x ≡ option_map (λ (h : Header). h.class) (header x)
class_of_header None = refl
class_of_header (Some ob) = refl

id_of_header : (x : Option Object) → option_map (λ ob. ob.id) x ≡ option_map (λ (h : Header). h.id) (header x)
id_of_header None = refl
id_of_header (Some ob) = refl

pub class_by_header : (m n : ModelData) (o : ℕ) → header_at m o ≡ header_at n o → class_at m o ≡ class_at n o
class_by_header m n o same = class_of_header (object_at m o) ∙ ap (option_map (λ (h : Header). h.class)) same ∙ sym (class_of_header (object_at n o))

pub id_by_header : (m n : ModelData) (o : ℕ) → header_at m o ≡ header_at n o → id_at m o ≡ id_at n o
id_by_header m n o same = id_of_header (object_at m o) ∙ ap (option_map (λ (h : Header). h.id)) same ∙ sym (id_of_header (object_at n o))

-- past the end there is none
pub no_header : (m : ModelData) (o : ℕ) → length m.objects ≤ o → header_at m o ≡ None
no_header m o past = ap header (get_or_past m.objects o None past)

-- ---- models that keep some objects

-- what holds of a number where another test agrees
pub keeps_as : (m made : ModelData) (p q : ℕ → Bool) → ((o : ℕ) → o < length m.objects → p o ≡ q o) → KeepsWhere m p made → KeepsWhere m q made
keeps_as m made p q same k = record {
  meta = k.meta;
  count = k.count;
  headers = λ o. k.headers o ∙ agree o;
  bare = k.bare;
}
  where
    none : (b : Bool) (h : Option Header) → h ≡ None → (if b then h else None) ≡ None
    none true h is = is
    none false h is = refl

    agree : (o : ℕ) → (if p o then header_at m o else None) ≡ (if q o then header_at m o else None)
    agree o = elim (cases_lt o (length m.objects)) [
      | inl within ↦ ap (λ b. if b then header_at m o else None) (same o within)
      | inr past ↦ none (p o) (header_at m o) (no_header m o past) ∙ sym (none (q o) (header_at m o) (no_header m o past))
    ]

-- of what is kept again a part
pub keeps_through : (m made new : ModelData) (p q r : ℕ → Bool) → ((o : ℕ) → o < length m.objects → (if q o then p o else false) ≡ r o)
    → KeepsWhere m p made → KeepsWhere made q new → KeepsWhere m r new
keeps_through m made new p q r both first second = keeps_as m new (λ o. if q o then p o else false) r both (record {
  meta = second.meta ∙ first.meta;
  count = second.count ∙ first.count;
  headers = λ o. second.headers o ∙ ap (λ h. if q o then h else None) (first.headers o) ∙ nested (q o) (p o) (header_at m o);
  bare = second.bare;
})
  where
    nested : (a b : Bool) (h : Option Header) → (if a then (if b then h else None) else None) ≡ (if (if a then b else false) then h else None)
    nested true b h = refl
    nested false b h = refl

-- ---- links taken out

unlinked_header : (x : Option Object) → header (object_without_links x) ≡ header x
unlinked_header None = refl
unlinked_header (Some ob) = refl

pub keeps_all : (m : ModelData) (first : ℕ) (stays : ℕ → Bool) → first ≡ 0 → KeepsWhere m (is_left_from first stays) (without_links m)
keeps_all m first stays start = keeps_as m (without_links m) (λ o. true) (is_left_from first stays)
    (λ o l. sym (ap (λ b. not b || stays o) (not_less o)))
    (record {
      meta = refl;
      count = length-map m.objects object_without_links;
      headers = λ o. ap header (get_or-map object_without_links m.objects o None) ∙ unlinked_header (object_at m o);
      bare = none_linked m;
    })
  where
    not_less : (o : ℕ) → nat_lt o first ≡ false
    not_less o = ap (nat_lt o) start ∙ grind (arith, nat_tests)

-- ---- an object deleted

header_without : (o : ℕ) (x : Option Object) → header (object_without o x) ≡ header x
header_without o None = refl
header_without o (Some ob) = refl

pub keeps_others : (m : ModelData) (o : ℕ) → HasNoLinks m → KeepsWhere m (is_spared o false) (deleted m o)
keeps_others m o bare = record {
  meta = refl;
  count = length-update_at (map (object_without o) m.objects) o (λ _. None) ∙ length-map m.objects (object_without o);
  headers = λ i. elim (object-deleted m o i) [
    | inl (same, gone) ↦ ap header gone ∙ sym (ap (λ b. if not b || false then header_at m i else None) (eq-eqb i o same))
    | inr (other, there) ↦ ap header there ∙ header_without o (object_at m i)
        ∙ sym (ap (λ b. if not b || false then header_at m i else None) (ne_eqb i o other))
  ];
  bare = λ p a b h. bare p a b (linked-deleted m o p a b h).2;
}

-- an object that stays, or that is gone
pub keeps_each : (m : ModelData) (o : ℕ) → HasNoLinks m → KeepsWhere m (is_spared o true) m
keeps_each m o bare = record {
  meta = refl;
  count = refl;
  headers = λ i. ap (λ b. if b then header_at m i else None) (sym (either (not (i == o))));
  bare = bare;
}
  where
    either : (b : Bool) → (b || true) ≡ true
    either true = refl
    either false = refl

pub keeps_gone : (m : ModelData) (o : ℕ) → HasNoLinks m → object_at m o ≡ None → KeepsWhere m (is_spared o false) m
keeps_gone m o bare gone = record {
  meta = refl;
  count = refl;
  headers = λ i. elim (cases_eq i o) [
    | inl same ↦ (ap header (ap (object_at m) same ∙ gone)) ∙ sym (ap (λ b. if not b || false then header_at m i else None) (eq-eqb i o same))
    | inr other ↦ sym (ap (λ b. if not b || false then header_at m i else None) (ne_eqb i o other))
  ];
  bare = bare;
}

-- ---- all objects in turn

-- the next one is spared or not
pub keeps_next : (m made new : ModelData) (o : ℕ) (stays : Bool) (staying : ℕ → Bool) → staying o ≡ stays
    → KeepsWhere m (is_left_from o staying) made → KeepsWhere made (is_spared o stays) new → KeepsWhere m (is_left_from (o + 1) staying) new
keeps_next m made new o stays staying is first second =
    keeps_through m made new (is_left_from o staying) (is_spared o stays) (is_left_from (o + 1) staying) (λ k l. step k) first second
  where
    to_false : (b : Bool) → (if b then b else false) ≡ b
    to_false true = refl
    to_false false = refl

    same_flag : (b : Bool) → (if false || b then true else false) ≡ (false || b)
    same_flag true = refl
    same_flag false = refl

    step : (k : ℕ) → (if is_spared o stays k then is_left_from o staying k else false) ≡ is_left_from (o + 1) staying k
    step k = elim (cases_eq k o) [
      | inl same ↦ (
          let here : (k == o) ≡ true = eq-eqb k o same in
          let left : nat_lt k o ≡ false = grind (arith, nat_tests, same) in
          let next : nat_lt k (o + 1) ≡ true = lt-ltb k (o + 1) (omega (arith, same)) in
          ap (λ b. if not b || stays then is_left_from o staying k else false) here
          ∙ ap (λ b. if false || stays then not b || staying k else false) left
          ∙ same_flag stays
          ∙ sym (ap staying same ∙ is)
          ∙ sym (ap (λ b. not b || staying k) next))
      | inr other ↦ (
          let there : (k == o) ≡ false = ne_eqb k o other in
          ap (λ b. if not b || stays then is_left_from o staying k else false) there
          ∙ ap (λ b. not b || staying k) (next_test k other))
    ]
      where
        next_test : (k : ℕ) → k ≢ o → nat_lt k o ≡ nat_lt k (o + 1)
        next_test k other = elim (cases_lt k o) [
          | inl less ↦ lt-ltb k o less ∙ sym (lt-ltb k (o + 1) (omega (arith, less)))
          | inr more ↦ (
              let a : nat_lt k o ≡ false = grind (arith, nat_tests, more) in
              let b : nat_lt k (o + 1) ≡ false = grind (arith, nat_tests, more, other) in
              a ∙ sym b)
        ]

pub keeps_staying : (m made : ModelData) (end : ℕ) (staying : ℕ → Bool) → end ≡ length m.objects → KeepsWhere m (is_left_from end staying) made
    → KeepsWhere m staying made
keeps_staying m made end staying is k =
    keeps_as m made (is_left_from end staying) staying
    (λ o within. ap (λ b. not b || staying o) (lt-ltb o end (omega (arith, within, is)))) k

-- identifiers are those of the model before
pub ids_kept : (m made : ModelData) (p : ℕ → Bool) → KeepsWhere m p made → (o : ℕ) (id : List ℕ) → id_at made o ≡ Some id → HasId m id
ids_kept m made p k o id h = by (p o) refl
  where
    named : option_map (λ (x : Header). x.id) (header_at made o) ≡ Some id
    named = sym (id_of_header (object_at made o)) ∙ h

    by : (b : Bool) → p o ≡ b → HasId m id
    by true is =
        let same : header_at made o ≡ header_at m o = k.headers o ∙ ap (λ b. if b then header_at m o else None) is in
        (o, id_of_header (object_at m o) ∙ ap (option_map (λ (x : Header). x.id)) (sym same) ∙ named)
    by false is = absurd (
        let none : header_at made o ≡ None = k.headers o ∙ ap (λ b. if b then header_at m o else None) is in
        let z : None ≡ Some id = sym (ap (option_map (λ (x : Header). x.id)) none) ∙ named in
        cc)
