-- No fault stands in the two metamodels.
use Rattle.std.proofs.Common.{◌≡◌, zero, suc, arith, refl, rules, None, true, Result, Ok, Err}
use Rattle.std.specs.Prelude.{IsOkUnless}
use Rattle.mof_metamodel.specs.declared.desc.MetaDesc.{MetaDesc}
use Rattle.mof_metamodel.specs.declared.fault.MetaError.{MetaError}
use Rattle.mof_metamodel.specs.declared.fault.MetaError.TheVariants as errors
use Rattle.mof_metamodel.specs.declared.fault.MetaFault.{MetaFault}
use Rattle.mof_metamodel.specs.Tables.{IsGrounded}
use Rattle.mof_metamodel.specs.WellMeta.{WellMeta}
use Rattle.mof_metamodel.specs.MetaFaults.{is_within_limits, first_bad_name, first_duplicate, first_unknown, first_bad_bounds, first_bad_opposite, first_two_containers}
use Rattle.mof_metamodel.proofs.LineageLemmas.{acyclic_from_grounded}
use Rattle.mof_metamodel.proofs.WellLemmas.{well_from_searched}
use Rattle.example_models.specs.ClsTable.{cls_desc}
use Rattle.example_models.specs.RdbTable.{rdb_desc}

-- so a metamodel is made unless memory runs out
pub no_fault : {T : Type 0} (desc : MetaDesc) (r : Result T MetaError) (error : MetaError) (fault : MetaFault) → WellMeta desc
    → (WellMeta desc → IsOkUnless r errors.NoMemory) → r ≡ Err error → error ≡ errors.Fault fault → ⊥
no_fault desc (Ok x) error fault well only e f = cc
no_fault desc (Err other) error fault well only e f = let out : other ≡ errors.NoMemory = only well in cc

-- ---- Cls

cls_grounded : IsGrounded cls_desc
cls_grounded zero l = search rules
cls_grounded (suc zero) l = search rules
cls_grounded (suc (suc zero)) l = search rules
cls_grounded (suc (suc (suc zero))) l = search rules
cls_grounded (suc (suc (suc (suc c)))) l = absurd (omega arith)

cls_within : is_within_limits cls_desc ≡ true
cls_within = refl

cls_names : first_bad_name cls_desc ≡ None
cls_names = refl

cls_distinct : first_duplicate cls_desc ≡ None
cls_distinct = refl

cls_known : first_unknown cls_desc ≡ None
cls_known = refl

cls_bounds : first_bad_bounds cls_desc ≡ None
cls_bounds = refl

cls_opposites : first_bad_opposite cls_desc ≡ None
cls_opposites = refl

cls_containers : first_two_containers cls_desc ≡ None
cls_containers = refl

pub cls_is_well : WellMeta cls_desc
cls_is_well =
    well_from_searched cls_desc (record {
      limits = cls_within;
      names = cls_names;
      distinct = cls_distinct;
      known = cls_known;
      acyclic = acyclic_from_grounded cls_desc cls_grounded;
      bounds = cls_bounds;
      opposites = cls_opposites;
      containers = cls_containers;
    })

-- ---- Rdb

rdb_grounded : IsGrounded rdb_desc
rdb_grounded zero l = search rules
rdb_grounded (suc zero) l = search rules
rdb_grounded (suc (suc zero)) l = search rules
rdb_grounded (suc (suc (suc zero))) l = search rules
rdb_grounded (suc (suc (suc (suc zero)))) l = search rules
rdb_grounded (suc (suc (suc (suc (suc zero))))) l = search rules
rdb_grounded (suc (suc (suc (suc (suc (suc zero)))))) l = search rules
rdb_grounded (suc (suc (suc (suc (suc (suc (suc c))))))) l = absurd (omega arith)

rdb_within : is_within_limits rdb_desc ≡ true
rdb_within = refl

rdb_names : first_bad_name rdb_desc ≡ None
rdb_names = refl

rdb_distinct : first_duplicate rdb_desc ≡ None
rdb_distinct = refl

rdb_known : first_unknown rdb_desc ≡ None
rdb_known = refl

rdb_bounds : first_bad_bounds rdb_desc ≡ None
rdb_bounds = refl

rdb_opposites : first_bad_opposite rdb_desc ≡ None
rdb_opposites = refl

rdb_containers : first_two_containers rdb_desc ≡ None
rdb_containers = refl

pub rdb_is_well : WellMeta rdb_desc
rdb_is_well =
    well_from_searched rdb_desc (record {
      limits = rdb_within;
      names = rdb_names;
      distinct = rdb_distinct;
      known = rdb_known;
      acyclic = acyclic_from_grounded rdb_desc rdb_grounded;
      bounds = rdb_bounds;
      opposites = rdb_opposites;
      containers = rdb_containers;
    })
