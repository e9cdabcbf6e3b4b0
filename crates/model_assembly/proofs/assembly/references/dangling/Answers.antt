use Rattle.std.proofs.Common.{◌≡◌, true, false, take, refl, subst}
use Rattle.std.specs.Prelude.{All, HoldsAt}
use Rattle.model_assembly.specs.AssemblyEntries.{entry_at, no_entry}
use Rattle.model_assembly.specs.AssemblyFirsts.{is_dangling}
use Rattle.model_assembly.proofs.assembling.ToldLaws.{props_known, dangling_told}
use Rattle.model_assembly.proofs.assembly.references.dangling.Goals as goal

pub first_dangling-requires-clause-within : goal.first_dangling-requires-clause-within
first_dangling-requires-clause-within c = props_known c.args.meta.now c.args.filed.now c.args.entries.now c.requires.sound c.requires.order

pub dangling_of-requires : goal.dangling_of-requires
dangling_of-requires c = props_known c.args.meta.now c.args.filed.now c.args.entries.now c.requires.sound c.requires.order c.in-Some.i no_entry c.in-Some.ensures.0

pub returns-in_ok-dangling_of-in-Some : goal.returns-in_ok-dangling_of-in-Some
returns-in_ok-dangling_of-in-Some c =
    let es = c.args.entries.now in
    let meta = c.args.meta.now in
    let i = c.in-Some.i in
    dangling_told meta c.args.filed.now es i c.in_ok-dangling_of-in-Some.field-0 (entry_at es i) c.requires.sound c.requires.order c.in-Some.ensures.0
    (subst (λ cs. HoldsAt (λ e. is_dangling meta cs e ≡ true) es i) c.as_slice.ensures c.in-Some.ensures.1)
    (subst (λ cs. All (λ e. is_dangling meta cs e ≡ false) (take i es)) c.as_slice.ensures c.in-Some.ensures.2)
    refl c.in_ok-dangling_of-in-Some.ensures
