use Rattle.std.specs.Prelude.{is_none, not}
use Rattle.std.proofs.Common.{◌<◌, length, map, sym, ap, ◌∙◌, arith}
use Rattle.std.specs.Option.{option_map}
use Rattle.std.proofs.lemmas.List.{get_or_default}
use Rattle.entry_making.specs.Equations.{shown_equation, with_conjunct}
use Rattle.entry_making.proofs.TableLaws.{put_there, is_nothing}
use Rattle.entry_making.proofs.equations.put_equation.Goals as goal

pub returns-then-is_none : goal.returns-then-is_none
returns-then-is_none c =
    let below : c.in-Equation.variable < length c.args.table.now = omega (arith, c.if-place-table.true) in
    put_there c.args.table.now _ below (is_nothing c.args.table.now c.in-Equation.variable c.index-table-place.result below c.index-table-place.is (ap is_none c.index-table-place.is ∙ ap not c.if-is_none.ensures))
    ∙ sym (ap (with_conjunct (map (option_map shown_equation) c.args.table.now)) c.in-Equation.is)
