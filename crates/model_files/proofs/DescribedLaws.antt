-- A description is a metamodel, or has a first fault; a file of a metamodel describes one, or an error is told of it.
use Rattle.std.proofs.Common.{◌≡◌, ◌≢◌, ℕ, zero, suc, ◌+◌, ◌<◌, Bool, true, false, List, [], ◌∷◌, length, refl, sym, ap, ◌∙◌, subst, arith, Option, None, Some, inl, inr}
use Rattle.std.specs.List.{list_any}
use Rattle.std.proofs.lemmas.Bool.{cases_lt, true≢false}
use Rattle.mof_metamodel.specs.declared.desc.MetaDesc.{MetaDesc}
use Rattle.mof_metamodel.specs.declared.fault.MetaFault.{MetaFault}
use Rattle.mof_metamodel.specs.declared.fault.MetaKind.{MetaKind}
use Rattle.mof_metamodel.specs.declared.fault.MetaKind.TheVariants as kinds
use Rattle.mof_metamodel.specs.MetaFaults.{IsAcyclic, IsFirstFault, IsFirstCircular, PassesLimits, PassesNames, PassesDuplicates, PassesTypes, PassesCycles, PassesBounds, PassesOpposites, is_within_limits, first_bad_name, first_duplicate, first_unknown, first_bad_bounds, first_bad_opposite, first_two_containers}
use Rattle.mof_metamodel.specs.Metamodels.{class_count, class_at, supers_of, conforms_within, IsCircular}
use Rattle.mof_metamodel.specs.WellMeta.{WellMeta}
use Rattle.mof_metamodel.proofs.LineageLemmas.{Has-from_Contains, supers_within}
use Rattle.mof_metamodel.proofs.ReachLemmas.{steps_sound, steps_complete}
use Rattle.mof_metamodel.proofs.WellLemmas.{well_from_searched}
use Rattle.object_tables.specs.Models.{ModelData}
use Rattle.model_assembly.specs.declared.fault.Externs.TheVariants as externs
use Rattle.model_assembly.proofs.WritingParts.{one_of}
use Rattle.model_files.specs.declared.fault.FileError.{FileError}
use Rattle.model_files.specs.declared.fault.FileError.TheVariants as errors
use Rattle.model_files.specs.Described.{description_of, top_packages}
use Rattle.model_files.specs.Emof.{emof}
use Rattle.model_files.specs.FileForm.{form_of}
use Rattle.model_files.specs.Files.{EmofSpells, IsTold, MetaSpells, IsMetaFileError}
use Rattle.model_files.proofs.AnsweredLaws as models
use Rattle.model_files.proofs.EmofLaws.{emof_is_well}
use Rattle.model_files.proofs.JsonFiledLaws.{there_any}
use Rattle.model_files.proofs.ReadingLaws.{of_emof}

module _ (desc : MetaDesc) where
  -- ---- circles of superclasses

  data OnCircle (c : ℕ) : Type 0 where
    on : IsCircular desc c → OnCircle c
    off : (IsCircular desc c → ⊥) → OnCircle c

  abbrev leads : ℕ → ℕ → Bool
  leads c e = conforms_within desc (class_count desc) e c

  circle : (c : ℕ) → OnCircle c
  circle c = by (list_any (leads c) (supers_of desc c)) refl
    where
      by : (b : Bool) → list_any (leads c) (supers_of desc c) ≡ b → OnCircle c
      by true e =
          let (x, there, h) = one_of (leads c) (supers_of desc c) e in
          let way = steps_sound desc (class_count desc) x c h in
          on (x, way.0, there, way.1)
      by false e =
          off (λ (x, path, there, is). true≢false
          (sym (there_any (leads c) (supers_of desc c) x there (steps_complete desc x c (supers_within desc c x (Has-from_Contains (supers_of desc c) x there)) (path, is))) ∙ e))

  data Circles : Type 0 where
    first : (name : List ℕ) → IsFirstCircular desc name → Circles
    none : IsAcyclic desc → Circles

  -- from a class on
  circles_from : (room c : ℕ) → room + c ≡ class_count desc → ((a : ℕ) → a < c → IsCircular desc a → ⊥) → Circles
  circles_from zero c n before = none (λ a l h. before a (omega (arith, l, n)) h)
  circles_from (suc room) c n before = by (circle c) (circles_from room (suc c) (omega (arith, n)))
    where
      more : (IsCircular desc c → ⊥) → (a : ℕ) → a < suc c → IsCircular desc a → ⊥
      more here a l = elim (cases_lt a c) [
        | inl earlier ↦ before a earlier
        | inr late ↦ (let same : c ≡ a = omega (arith, l, late) in subst (λ (x : ℕ). IsCircular desc x → ⊥) same here)
      ]

      by : OnCircle c → (((a : ℕ) → a < suc c → IsCircular desc a → ⊥) → Circles) → Circles
      by (on h) next = first (class_at desc c).name (record { class = c; within = omega (arith, n); circular = h; first = before; named = refl })
      by (off h) next = next (more h)

  -- ---- the first fault

  pub data Decided : Type 0 where
    well : WellMeta desc → Decided
    faulty : (kind : MetaKind) (name : List ℕ) → IsFirstFault desc kind name → Decided

  of_containers : PassesOpposites desc → (o : Option (List ℕ)) → first_two_containers desc ≡ o → Decided
  of_containers h (Some name) e = faulty kinds.TwoContainers name (h, e)
  of_containers h None e =
      well (well_from_searched desc (record {
        limits = h.0.0.0.0.0.0;
        names = h.0.0.0.0.0.1;
        distinct = h.0.0.0.0.1;
        known = h.0.0.0.1;
        acyclic = h.0.0.1;
        bounds = h.0.1;
        opposites = h.1;
        containers = e;
      }))

  of_opposites : PassesBounds desc → (o : Option (List ℕ)) → first_bad_opposite desc ≡ o → Decided
  of_opposites h (Some name) e = faulty kinds.BadOpposite name (h, e)
  of_opposites h None e = of_containers (h, e) (first_two_containers desc) refl

  of_bounds : PassesCycles desc → (o : Option (List ℕ)) → first_bad_bounds desc ≡ o → Decided
  of_bounds h (Some name) e = faulty kinds.BadBounds name (h, e)
  of_bounds h None e = of_opposites (h, e) (first_bad_opposite desc) refl

  of_circles : PassesTypes desc → Circles → Decided
  of_circles h (first name c) = faulty kinds.SuperCycle name (h, c)
  of_circles h (none acyclic) = of_bounds (h, acyclic) (first_bad_bounds desc) refl

  of_types : PassesDuplicates desc → (o : Option (List ℕ)) → first_unknown desc ≡ o → Decided
  of_types h (Some name) e = faulty kinds.UnknownType name (h, e)
  of_types h None e = of_circles (h, e) (circles_from (class_count desc) 0 (omega arith) (λ a l. absurd (omega (arith, l))))

  of_duplicates : PassesNames desc → (o : Option (List ℕ)) → first_duplicate desc ≡ o → Decided
  of_duplicates h (Some name) e = faulty kinds.DuplicateName name (h, e)
  of_duplicates h None e = of_types (h, e) (first_unknown desc) refl

  of_names : PassesLimits desc → (o : Option (List ℕ)) → first_bad_name desc ≡ o → Decided
  of_names h (Some name) e = faulty kinds.BadName name (h, e)
  of_names h None e = of_duplicates (h, e) (first_duplicate desc) refl

  pub decided : Decided
  decided = by (is_within_limits desc) refl
    where
      by : (b : Bool) → is_within_limits desc ≡ b → Decided
      by true e = of_names e (first_bad_name desc) refl
      by false e = faulty kinds.Limit [] (e, refl)

-- ---- files of metamodels

pub data Answered (bytes : List ℕ) : Type 0 where
  describes : (desc : MetaDesc) → MetaSpells bytes desc → Answered bytes
  refused : (e : FileError) → IsTold e → IsMetaFileError bytes e → Answered bytes

of_model : (bytes : List ℕ) (m : ModelData) → EmofSpells bytes m → Answered bytes
of_model bytes m spelled = by (top_packages m) refl
  where
    of_package : (root : ℕ) → top_packages m ≡ root ∷ [] → Decided (description_of m root) → Answered bytes
    of_package root e (well w) =
        describes (description_of m root) (record { model = m; spelled = spelled; describes = record { root = root; only = e; description = refl; well = w } })
    of_package root e (faulty kind name h) =
        refused (errors.Meta (record { kind = kind; name = name })) (λ same. cc) (record { model = m; spelled = spelled; why = (root, e, h) })

    several : (n : ℕ) → n ≡ length (top_packages m) → (n ≡ 1 → ⊥) → Answered bytes
    several n e differs = refused (errors.NoPackage n) (λ same. cc) (record { model = m; spelled = spelled; why = (e, differs) })

    by : (roots : List ℕ) → top_packages m ≡ roots → Answered bytes
    by [] e = several 0 (sym (ap (λ (xs : List ℕ). length xs) e)) (λ same. omega (arith, same))
    by (root ∷ []) e = of_package root e (decided (description_of m root))
    by (root ∷ other ∷ more) e =
        let long : length (top_packages m) ≡ suc (suc (length more)) = ap (λ (xs : List ℕ). length xs) e in
        several (length (top_packages m)) refl (λ same. omega (arith, same, long))

-- a file describes a metamodel, or an error is told of it
pub answered : (bytes : List ℕ) → Answered bytes
answered bytes = by (models.answered emof emof_is_well externs.Primitives bytes (form_of bytes))
  where
    by : models.Answered emof externs.Primitives bytes (form_of bytes) → Answered bytes
    by (models.spells m h) = of_model bytes m h
    by (models.refused e told h) = refused e told (of_emof bytes e h)
