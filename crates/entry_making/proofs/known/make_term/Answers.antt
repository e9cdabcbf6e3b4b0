use Rattle.std.proofs.Common.{None, ap, ◌∙◌}
use Rattle.std.specs.Prelude.{is_some}
use Rattle.std.proofs.lemmas.List.{get_or_default}
use Rattle.entry_making.proofs.KnownLaws.{put_value, set_within, all_within_grown}
use Rattle.entry_making.proofs.known.make_term.Goals as goal

pub returns-in_ok-value-clause-values : goal.returns-in_ok-value-clause-values
returns-in_ok-value-clause-values c =
    let missing = ap is_some (get_or_default c.args.values.now c.args.keyed.now.variable None c.index-values-keyed.result c.requires.place) ∙ c.if-is_none.ensures in
    put_value c.args.world.now.program.now c.args.world.now.models.now c.args.table.now c.args.values.now c.args.scope.now c.args.keyed.now c.term_given.new.table c.in_ok-value.value
    c.in_ok-value.ensures.grown c.requires.within missing c.in_ok-value.ensures.value

pub returns-in_ok-value-clause-within : goal.returns-in_ok-value-clause-within
returns-in_ok-value-clause-within c =
    set_within c.term_given.new.table c.args.values.now c.args.keyed.now.variable c.in_ok-value.value c.in_ok-value.ensures.within
    (all_within_grown c.args.table.now c.term_given.new.table c.args.values.now c.in_ok-value.ensures.grown c.requires.within)
