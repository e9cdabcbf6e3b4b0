use Rattle.std.proofs.Common.{Option, get_or, sym, subst, arith}
use Rattle.std.specs.Prelude.{IfSome}
use Rattle.object_tables.specs.Models.{ModelData}
use Rattle.key_index.specs.Indexes.{IndexData, IsIndexOf}
use Rattle.ocl_eval.proofs.IndexLaws.{zip_long, zip_get, zip_beside}
use Rattle.ocl_eval.proofs.models.build_all.Goals as goal

IsBeside : ModelData → Option IndexData → Type 0
IsBeside m index = IfSome index (IsIndexOf m)

pub bounds-indexes-number : goal.bounds-indexes-number
unfolding IsBeside
bounds-indexes-number c =
    let long = zip_long IsBeside c.args.models.now c.loop-number.indexes c.loop-number.invariant in
    let test = c.loop-number-test.true in
    omega (arith, long, test)

pub build_missing-requires : goal.build_missing-requires
unfolding IsBeside
build_missing-requires c =
    let models = c.args.models.now in
    let indexes = c.loop-number.indexes in
    let n = c.loop-number.number in
    let model = c.index-models-number.result in
    let index = c.index-indexes-number.result in
    let test = c.loop-number-test.true in
    subst (λ m. IsBeside m (get_or indexes n index)) (sym c.index-models-number.is)
    (zip_get IsBeside models indexes n model index c.loop-number.invariant (omega (arith, test)))

pub returns-in_err-build_missing : goal.returns-in_err-build_missing
unfolding IsBeside
returns-in_err-build_missing c =
    let model = c.index-models-number.result in
    let index = c.build_missing.new.index in
    zip_beside IsBeside c.args.models.now c.loop-number.indexes c.loop-number.number model index c.loop-number.invariant
    (subst (λ m. IsBeside m index) c.index-models-number.is c.build_missing.ensures)

pub loop-number-preserved : goal.loop-number-preserved
unfolding IsBeside
loop-number-preserved c =
    let model = c.index-models-number.result in
    let index = c.build_missing.new.index in
    zip_beside IsBeside c.args.models.now c.loop-number.indexes c.loop-number.number model index c.loop-number.invariant
    (subst (λ m. IsBeside m index) c.index-models-number.is c.build_missing.ensures)
