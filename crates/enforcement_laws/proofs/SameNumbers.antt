-- Where the model that enforcement makes is the same as the target, its objects have the target's numbers, by their identifiers: it is the target.
use Rattle.std.specs.Prelude.{◌≡◌, ◌≤◌, ◌+◌, ◌^◌, ℕ, true, List, [], ◌∷◌, map, length, Option, None, Some, is_some, Contains}
use Rattle.std.specs.Option.{option_map}
use Rattle.std.proofs.Common.{refl, ap, sym, ◌∙◌, subst, arith, get_or, true≢false}
use Rattle.std.proofs.lemmas.List.Elements.{Contains-get_or}
use Rattle.mof_metamodel.proofs.Facts.{contains_first}
use Rattle.object_tables.specs.Objects.{Object}
use Rattle.object_tables.specs.Models.{ModelData, object_at, id_at, values_at, partners_at, IsLive, IsAttributeOf, IsReferenceOf}
use Rattle.object_tables.specs.Sameness.{IsSame}
use Rattle.object_tables.specs.Validity.{Valid}
use Rattle.object_tables.proofs.KeptLemmas.{sound_of, linked_partner}
use Rattle.object_tables.proofs.ModelLemmas.{live_from_class}
use Rattle.qv_syntax.specs.declared.program.Program.{Program}
use Rattle.template_match.proofs.ListLaws.{contains_later}
use Rattle.repair_semantics.specs.declared.demand.Demand.{Demand}
use Rattle.repair_semantics.specs.Demands.{demanded_terms}
use Rattle.repair_semantics.specs.CandidateObjects.{is_used, fresh_terms, unused_ids}
use Rattle.repair_semantics.specs.Candidates.{candidate}
use Rattle.candidate_laws.proofs.FreshIds.{fresh_id_of}
use Rattle.candidate_laws.proofs.IdentifierLaws.{used}
use Rattle.candidate_laws.proofs.Made.{IsOld, Origin, origin}
use Rattle.enforce_mode.specs.Made.{IsSound}
use Rattle.enforcement_laws.proofs.FreshObjects.{few_fresh}
use Rattle.enforcement_laws.proofs.EqualParts.{fresh, live, claims, enough, AreOld, equal_parts}

map_fixed : (f : ℕ → ℕ) (ks : List ℕ) → ((k : ℕ) → Contains ks k → f k ≡ k) → map f ks ≡ ks
map_fixed f [] fixed = refl
map_fixed f (k ∷ ks) fixed = ap (λ n. n ∷ map f ks) (fixed k (contains_first k ks)) ∙ ap (λ ns. k ∷ ns) (map_fixed f ks (λ n has. fixed n (contains_later n k ks has)))

an_object : (x : Option Object) → is_some x ≡ true → (ob : Object) × (x ≡ Some ob)
an_object None live = absurd (true≢false (sym live))
an_object (Some ob) live = (ob, refl)

module _ (program : Program) (m : ModelData) (demands : List Demand) (valid : Valid m) (sound : IsSound (candidate program m demands))
    (few : length (fresh_terms program m (demanded_terms demands)) + length m.objects ≤ 2 ^ 64) (same : IsSame m (candidate program m demands))
  where
    abbrev made : ModelData
    made = candidate program m demands

    abbrev IsOf : ℕ → Object → Type 0
    IsOf o ob = IsOld program m (live program m demands few) (claims program m demands few) o ob

    -- an identifier of an object that is made is one of the target's
    id_before : (o : ℕ) (ob : Object) → object_at made o ≡ Some ob → id_at m (same.origin o) ≡ Some ob.id
    id_before o ob is =
        let there : IsLive made o = ap (λ (x : Option Object). is_some x) is in
        sym (same.identifiers (same.origin o) (same.bijection.covered o there)) ∙ ap (id_at made) (same.bijection.there o there)
        ∙ ap (option_map (λ (x : Object). x.id)) is

    -- so no object is fresh
    all_old : AreOld program m demands few
    all_old o ob is = by (origin program m (live program m demands few) (claims program m demands few) (fresh program m demands few) (enough program m demands few) o ob is)
      where
        by : Origin program m (live program m demands few) (claims program m demands few) (fresh program m demands few) (enough program m demands few) o ob → IsOf o ob
        by (Origin.old old) = old
        by (Origin.new new) =
            let ids : List (List ℕ) = unused_ids m (length (fresh program m demands few)) in
            let many = enough program m demands few in
            let place = new.within in
            let id = fresh_id_of m (length (fresh program m demands few)) few (get_or ids new.place [])
            (Contains-get_or ids new.place [] (omega (arith, many, place))) in
            absurd (true≢false (sym (used m (same.origin o) ob.id (id_before o ob is)) ∙ ap (is_used m) new.id ∙ id.unused))

    -- and each has its number
    fixed : (o : ℕ) → IsLive m o → same.image o ≡ o
    fixed o there =
        let (was, was_is) = an_object (object_at m o) there in
        let (now, now_is) = an_object (object_at made (same.image o)) (same.bijection.live o there) in
        let old = all_old (same.image o) now now_is in
        let first : id_at m o ≡ Some was.id = ap (option_map (λ (x : Object). x.id)) was_is in
        let second : id_at m (same.image o) ≡ Some was.id =
        ap (option_map (λ (x : Object). x.id)) old.was_is ∙ ap (λ (i : List ℕ). Some i) (sym old.id) ∙ sym (ap (option_map (λ (x : Object). x.id)) now_is)
        ∙ same.identifiers o there ∙ first in
        valid.kept.identifiers (same.image o) o was.id second first

    stay : (o : ℕ) → IsLive m o → IsLive made o
    stay o there = subst (IsLive made) (fixed o there) (same.bijection.live o there)

    values : (o p : ℕ) → IsAttributeOf m o p → values_at made o p ≡ values_at m o p
    values o p a = ap (λ k. values_at made k p) (sym (fixed o (live_from_class m o a.class a.class_is))) ∙ same.values o p a

    partners : (o p : ℕ) → IsReferenceOf m o p → partners_at made o p ≡ partners_at m o p
    partners o p r =
        ap (λ k. partners_at made k p) (sym (fixed o (live_from_class m o r.class r.class_is))) ∙ same.partners o p r
        ∙ map_fixed same.image (partners_at m o p)
        (λ b has. let w = linked_partner m p o b (sound_of m valid.kept) has in fixed b (live_from_class m b w.class w.class_is))

    pub same_by_numbers : made ≡ m
    same_by_numbers = equal_parts program m demands few all_old stay valid.kept sound.valid.kept values partners

pub same_is_equal : (program : Program) (m : ModelData) (demands : List Demand) → Valid m → length m.objects ≤ 3_999_000_000 → IsSound (candidate program m demands)
    → IsSame m (candidate program m demands) → candidate program m demands ≡ m
same_is_equal program m demands valid room sound same = same_by_numbers program m demands valid sound (few_fresh program m demands sound.few room) same
