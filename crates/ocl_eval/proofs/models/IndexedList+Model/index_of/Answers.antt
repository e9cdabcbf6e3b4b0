use Rattle.std.proofs.Common.{◌≡◌, Some, length, refl, sym, subst}
use Rattle.std.specs.Prelude.{IfSome, slice_get}
use Rattle.std.proofs.lemmas.Bool.{ltb-true}
use Rattle.std.proofs.lemmas.Option.{slice_get_read}
use Rattle.object_tables.specs.Models.{ModelData}
use Rattle.key_index.specs.Indexes.{IsIndexOf}
use Rattle.ocl_eval.proofs.IndexLaws.{zip_at, if_copied}
use Rattle.ocl_eval.proofs.models.IndexedList+Model.index_of.Goals as goal

pub returns-in-Some : goal.returns-in-Some
returns-in-Some c =
    let items = c.self.inside.items.items in
    let indexes = c.self.inside.indexes.items in
    let n = c.args.number in
    let index = c.in-Some.index.now in
    let looked = c.in-Some.ensures.lookup in
    let read = slice_get_read c.deref.result.now (length c.deref.result.now) n index refl (ltb-true n (length c.deref.result.now) (sym looked.0)) looked.1 in
    let at : slice_get indexes n ≡ Some index = subst (λ xs. slice_get xs n ≡ Some index) c.deref.ensures.value read in
    if_copied (λ i. (m : ModelData) → slice_get c.args.self.now n ≡ Some m → IsIndexOf m i) c.as_ref.result c.in-Some.index.now c.as_ref.ensures.value
    (λ i is m here.
    zip_at (λ m index. IfSome index (IsIndexOf m)) items indexes n m (Some i) c.self.invariant
    (subst (λ xs. slice_get xs n ≡ Some m) (sym c.self.view_is) here)
    (subst (λ o. slice_get indexes n ≡ Some o) is at))
