use Rattle.std.specs.Prelude.{Option}
use Rattle.std.proofs.Common.{List, ◌++◌, ◌∷◌, [], ◌<◌, length, take, sym, ap, subst, ◌∙◌, arith}
use Rattle.std.proofs.lemmas.List.{take_all, take_more}
use Rattle.entry_bindings.specs.declared.matching.Match.{Match}
use Rattle.entry_finding.specs.declared.numbered_entry.NumberedEntry.{NumberedEntry}
use Rattle.entry_tops.specs.EntryNames.{HasMore, HasNamesOf}
use Rattle.entry_tops.proofs.NameLaws.{names_more}
use Rattle.entry_tops.proofs.names.add_names.Goals as goal

pub loop-e-preserved : goal.loop-e-preserved
loop-e-preserved c =
    let doms = c.args.domains.now in
    let es = c.args.entries.now in
    let i = c.loop-e.e-index in
    let e = c.e-item.result in
    let below : i < length es = omega (arith, c.loop-e-test.true) in
    let next = take_more es i e below ∙ ap (λ (x : NumberedEntry). take i es ++ x ∷ []) (sym c.e-item.is) in
    let more = subst (λ (m : Option Match). HasMore c.loop-e.matches m c.add_one.new.matches) c.in_ok-more.ensures c.in_ok-add_one.ensures in
    subst (λ (xs : List NumberedEntry). HasNamesOf doms xs c.args.matches.now c.add_one.new.matches) (sym next)
    (names_more doms (take i es) e c.args.matches.now c.loop-e.matches c.add_one.new.matches c.loop-e.invariant more)

pub returns : goal.returns
returns c =
    subst (λ (xs : List NumberedEntry). HasNamesOf c.args.domains.now xs c.args.matches.now c.loop-e.matches)
    (take_all c.loop-e.e-index c.args.entries.now (omega (arith, c.loop-e-test.false))) c.loop-e.invariant
