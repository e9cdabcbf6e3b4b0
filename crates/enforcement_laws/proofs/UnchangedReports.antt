-- A report tells no change exactly where the model that enforcement makes is the target.
use Rattle.std.specs.Prelude.{◌≡◌, ◌⊎◌, ◌<◌, ◌≤◌, ◌+◌, ℕ, Bool, true, false, ◌&&◌, not, cond, nat_eq, List, [], ◌∷◌, length, Option, None, Some, is_some, is_none, Contains}
use Rattle.std.specs.List.{filter}
use Rattle.std.specs.Cmp.Lexicographic.{pointwise, pointwise_decides, bytes_decides}
use Rattle.std.proofs.Common.{refl, ap, sym, ◌∙◌, subst, arith, inl, inr, true≢false}
use Rattle.std.proofs.lemmas.Bool.{and_parts, and_from, and_right, not-false}
use Rattle.std.proofs.lemmas.List.FromFn.{get_or-range_with_len, length-range_with_len}
use Rattle.mof_metamodel.specs.Metamodels.{props_of}
use Rattle.mof_metamodel.proofs.Facts.{nothing_in}
use Rattle.object_tables.specs.declared.value.Value.{Value}
use Rattle.object_tables.specs.Objects.{Object}
use Rattle.object_tables.specs.Models.{ModelData, object_at, class_at, values_at, partners_at, IsLive}
use Rattle.object_tables.specs.Validity.{Valid, IsPropertyOf}
use Rattle.object_tables.proofs.ContainmentLemmas.{live-below}
use Rattle.object_tables.proofs.ModelLemmas.{live_from_class}
use Rattle.qv_syntax.specs.declared.program.Program.{Program}
use Rattle.qvtr_semantics.specs.declared.datum.Datum.TheVariants.{Val}
use Rattle.qvtr_semantics.specs.Data.{same_value}
use Rattle.ocl_eval.specs.OrderLaws.{same_decides}
use Rattle.template_match.proofs.ListLaws.{list_all_at}
use Rattle.repair_semantics.specs.declared.demand.Demand.{Demand}
use Rattle.repair_semantics.specs.declared.report.Report.{Report}
use Rattle.repair_semantics.specs.Candidates.{candidate}
use Rattle.repair_semantics.specs.Reports.{numbers, same_slot, same_slots, is_updated, is_removed, IsReport}
use Rattle.candidate_laws.proofs.Lists.{here_or_later, all_pass}
use Rattle.enforce_mode.specs.Made.{IsSound}
use Rattle.enforcement_laws.proofs.FreshObjects.{few_fresh, none_fresh}
use Rattle.enforcement_laws.proofs.EqualParts.{old_where_none, equal_parts}

-- ---- counts

none_pass : (test : ℕ → Bool) (ks : List ℕ) → ((k : ℕ) → test k ≡ false) → length (filter test ks) ≡ 0
none_pass test [] never = refl
none_pass test (k ∷ ks) never = ap (λ b. length (cond b (k ∷ filter test ks) (filter test ks))) (never k) ∙ none_pass test ks never

none_counted : (test : ℕ → Bool) (ks : List ℕ) (n : ℕ) → length (filter test ks) ≡ 0 → Contains ks n → test n ≡ false
none_counted test [] n none has = absurd (nothing_in n has)
none_counted test (k ∷ ks) n none has = by (λ fewer later. none_counted test ks n fewer later) (test k) refl none (here_or_later k n ks has)
  where
    by : (length (filter test ks) ≡ 0 → Contains ks n → test n ≡ false)
        → (b : Bool) → test k ≡ b → length (cond b (k ∷ filter test ks) (filter test ks)) ≡ 0 → (k ≡ n) ⊎ Contains ks n → test n ≡ false
    by rest true is none place = absurd (omega (arith, none))
    by rest false is none (inl here) = ap test (sym here) ∙ is
    by rest false is none (inr later) = rest none later

in_numbers : (m : ModelData) (o : ℕ) → o < length m.objects → Contains (numbers m) o
in_numbers m o within =
    let none : 0 + o ≡ o = omega arith in
    (o, subst (λ l. o < l) (sym (length-range_with_len 0 (length m.objects))) within, get_or-range_with_len 0 (length m.objects) o o within ∙ none)

-- ---- slots

one_value : (v w : Value) → Val 0 v ≡ Val 0 w → v ≡ w
one_value v w same = cc

value_decides : (v w : Value) → (same_value v w ≡ true → v ≡ w) × (v ≡ w → same_value v w ≡ true)
value_decides v w =
    let decides = same_decides (Val 0 v) (Val 0 w) in
    (λ same. one_value v w (decides.0 same), λ same. decides.1 (ap (λ x. Val 0 x) same))

values_decide : (vs ws : List Value) → (pointwise same_value vs ws ≡ true → vs ≡ ws) × (vs ≡ ws → pointwise same_value vs ws ≡ true)
values_decide = pointwise_decides value_decides

slots_itself : (m : ModelData) (o : ℕ) (x : Option ℕ) → same_slots m m o x ≡ true
slots_itself m o None = refl
slots_itself m o (Some class) = all_pass (same_slot m m o) (props_of m.meta class) (λ p has. and_from (pointwise same_value (values_at m o p) (values_at m o p))
    (pointwise nat_eq (partners_at m o p) (partners_at m o p)) ((values_decide (values_at m o p) (values_at m o p)).1 refl)
    ((bytes_decides (partners_at m o p) (partners_at m o p)).1 refl))

never_updated : (m : ModelData) (o : ℕ) → is_updated m m o ≡ false
never_updated m o = and_right (is_some (object_at m o)) (not (same_slots m m o (class_at m o))) (ap not (slots_itself m o (class_at m o)))

never_removed : (m : ModelData) (o : ℕ) → is_removed m m o ≡ false
never_removed m o = by (object_at m o)
  where
    by : (x : Option Object) → (is_some x && is_none x) ≡ false
    by None = refl
    by (Some ob) = refl

-- an object that isn't removed is there
still_there : (x y : Option Object) → (is_some x && is_none y) ≡ false → is_some x ≡ true → is_some y ≡ true
still_there x (Some ob) kept live = refl
still_there x None kept live = absurd (true≢false (sym (and_from (is_some x) true live refl) ∙ kept))

-- ---- reports

module _ (program : Program) (m : ModelData) (demands : List Demand) (report : Report) (is : IsReport program m demands report) (room : length m.objects ≤ 3_999_000_000) where
  abbrev made : ModelData
  made = candidate program m demands

  pub equal_is_unchanged : made ≡ m → report.unchanged ≡ true
  equal_is_unchanged same =
      let created : report.created ≡ 0 = is.created ∙ none_fresh program m demands same room in
      let updated : report.updated ≡ 0 =
      is.updated ∙ ap (λ (n : ModelData). length (filter (is_updated m n) (numbers m))) same ∙ none_pass (is_updated m m) (numbers m) (never_updated m) in
      let deleted : report.deleted ≡ 0 =
      is.deleted ∙ ap (λ (n : ModelData). length (filter (is_removed m n) (numbers m))) same ∙ none_pass (is_removed m m) (numbers m) (never_removed m) in
      is.unchanged.1 (created, updated, deleted)

  module _ (valid : Valid m) (sound : IsSound made) (unchanged : report.unchanged ≡ true) where
    created : report.created ≡ 0
    created = (is.unchanged.0 unchanged).0

    updated : report.updated ≡ 0
    updated = (is.unchanged.0 unchanged).1

    deleted : report.deleted ≡ 0
    deleted = (is.unchanged.0 unchanged).2

    -- no object goes
    stay : (o : ℕ) → IsLive m o → IsLive made o
    stay o live =
        still_there (object_at m o) (object_at made o)
        (none_counted (is_removed m made) (numbers m) o (sym is.deleted ∙ deleted) (in_numbers m o (live-below m o live))) live

    -- no slot changes
    slot_stays : (o p : ℕ) → IsPropertyOf m o p → same_slot m made o p ≡ true
    slot_stays o p property =
        let live : IsLive m o = live_from_class m o property.class property.class_is in
        let never : is_updated m made o ≡ false =
        none_counted (is_updated m made) (numbers m) o (sym is.updated ∙ updated) (in_numbers m o (live-below m o live)) in
        let same : same_slots m made o (class_at m o) ≡ true =
        not-false (same_slots m made o (class_at m o)) (sym (ap (λ b. b && not (same_slots m made o (class_at m o))) (stay o live)) ∙ never) in
        list_all_at (same_slot m made o) (props_of m.meta property.class) p (sym (ap (same_slots m made o) property.class_is) ∙ same) property.has

    parts : (o p : ℕ) → IsPropertyOf m o p → (values_at m o p ≡ values_at made o p) × (partners_at m o p ≡ partners_at made o p)
    parts o p property =
        let both = and_parts (pointwise same_value (values_at m o p) (values_at made o p)) (pointwise nat_eq (partners_at m o p) (partners_at made o p))
        (slot_stays o p property) in
        ((values_decide (values_at m o p) (values_at made o p)).0 both.0, (bytes_decides (partners_at m o p) (partners_at made o p)).0 both.1)

    pub unchanged_is_equal : made ≡ m
    unchanged_is_equal =
        let few = few_fresh program m demands sound.few room in
        equal_parts program m demands few (old_where_none program m demands few (sym is.created ∙ created)) stay valid.kept sound.valid.kept
        (λ o p a. sym (parts o p (record { class = a.class; class_is = a.class_is; has = a.has })).0)
        (λ o p r. sym (parts o p (record { class = r.class; class_is = r.class_is; has = r.has })).1)
