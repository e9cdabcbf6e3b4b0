use Rattle.std.proofs.Common.{◌≡◌, None, Some, length, slice_set, refl, ap, subst, arith}
use Rattle.std.specs.Prelude.{IfSome, slice_get}
use Rattle.std.proofs.lemmas.Option.{slice_get_read}
use Rattle.key_index.specs.Indexes.{IsIndexOf}
use Rattle.ocl_eval.proofs.IndexLaws.{zip_long, zip_set}
use Rattle.ocl_eval.proofs.models.IndexedList.get_mut.Goals as goal

pub index_mut-requires : goal.index_mut-requires
index_mut-requires g c =
    let long = zip_long (λ m index. IfSome index (IsIndexOf (g.T.Modelled.model m))) c.self.inside.items.items c.self.inside.indexes.items c.self.invariant in
    let same = ap length c.self.view_is in
    omega (arith, long, same, c.requires)

pub invariant_of-self-lent : goal.invariant_of-self-lent
invariant_of-self-lent g c = λ w.
    zip_set (λ m index. IfSome index (IsIndexOf (g.T.Modelled.model m))) c.self.inside.items.items c.self.inside.indexes.items c.args.number w None
    c.self.invariant
    tt

pub returns : goal.returns
returns g c =
    let items = c.self.inside.items.items in
    let n = c.args.number in
    let same = ap length c.self.view_is in
    let within = c.requires in
    let at = slice_get_read items (length items) n c.index_mut-2.result.now refl (omega (arith, same, within)) c.index_mut-2.ensures.value in (
      (refl, λ w. ap (λ xs. slice_set xs n w) c.self.view_is),
      record { writes_back = tt; item = subst (λ xs. slice_get xs n ≡ Some c.index_mut-2.result.now) c.self.view_is at },
    )
