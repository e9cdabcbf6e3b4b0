use Rattle.std.proofs.Common.{◌≡◌, ℕ, List, sym, subst, rules}
use Rattle.std.specs.Prelude.{Option, None, Some}
use Rattle.std.proofs.lemmas.Result.{err_from_is_err_and}
use Rattle.mof_metamodel.specs.declared.desc.MetaDesc.{MetaDesc}
use Rattle.mof_metamodel.specs.declared.fault.MetaError.{MetaError}
use Rattle.mof_metamodel.specs.declared.fault.MetaKind.TheVariants as kinds
use Rattle.mof_metamodel.specs.MetaFaults.{PassesNames, IsRefusal, IsFaultOf, first_duplicate}
use Rattle.mof_metamodel.proofs.meta.check_order.Goals as goal

-- a refusal for the first name that stands twice is for the first fault
repeat_refused : (desc : MetaDesc) (o : Option (List ℕ)) (e : MetaError) → PassesNames desc → IsFaultOf kinds.DuplicateName o e → o ≡ first_duplicate desc → IsRefusal desc e
repeat_refused desc None e p f q = absurd f
repeat_refused desc (Some name) e p f q = let P : MetaError → Type 0 = λ x. IsRefusal desc x in subst P (sym f) (p, sym q)

pub returns-in_err-refuse-clause-fault : goal.returns-in_err-refuse-clause-fault
returns-in_err-refuse-clause-fault c =
    let p = err_from_is_err_and c.from_residual-in_err-refuse.result c.from_residual-in_err-refuse.ensures.1 in
    rw (p.1, p.2) (repeat_refused c.args.ordered.now _ _ c.requires c.in_err-refuse.ensures (search rules))
