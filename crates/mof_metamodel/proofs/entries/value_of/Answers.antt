use Rattle.std.proofs.Common.{get_or, rules}
use Rattle.std.proofs.lemmas.List.{get_or_default}
use Rattle.std.proofs.lemmas.List.Sorted.{answers_always}
use Rattle.mof_metamodel.specs.declared.entries.Entry.{Entry}
use Rattle.mof_metamodel.specs.Tables.{entry}
use Rattle.mof_metamodel.proofs.EntryLemmas.{entry_found, entry_absent}
use Rattle.mof_metamodel.proofs.entries.value_of.Goals as goal

pub returns-in-Ok : goal.returns-in-Ok
returns-in-Ok c =
    let e : Entry = get_or c.args.entries.now c.in-Ok.place (entry 0 0) in
    entry_found c.args.entries.now c.args.class c.in-Ok.place e c.in-Ok.ensures.bound (c.in-Ok.ensures.position (λ x. x.class) (answers_always _ _ _ (λ f a r g called. search rules)))
    (get_or_default c.args.entries.now c.in-Ok.place (entry 0 0) e c.in-Ok.ensures.bound)

pub returns-in-Err : goal.returns-in-Err
returns-in-Err c = entry_absent c.args.entries.now c.args.class c.in-Err.field-0 c.requires (c.in-Err.ensures.position (λ x. x.class) (answers_always _ _ _ (λ f a r g called. search rules)))
