use Rattle.std.proofs.Common.{◌≡◌, List, map, ap, ◌∙◌}
use Rattle.std.specs.Prelude.{Option}
use Rattle.repair_semantics.specs.TargetItems.{target_items}
use Rattle.repair_semantics.specs.Demands.{item_demands}
use Rattle.term_table.specs.declared.numbered.NumberedValue.{NumberedValue}
use Rattle.entry_making.specs.declared.numbered_known.NumberedKnown.{NumberedKnown}
use Rattle.entry_making.specs.Numbered.{known_of}
use Rattle.entry_making.specs.DemandNumbers.{demand_of}
use Rattle.entry_finding.specs.declared.numbered_entry.NumberedEntry.{NumberedEntry}
use Rattle.entry_finding.specs.Found.{entry_in}
use Rattle.entry_finding.specs.Made.{numbered_entry}
use Rattle.entry_finding.proofs.MadeLaws.{entry_shown}
use Rattle.entry_finding.proofs.making.met_entry.Goals as goal

pub returns : goal.returns
returns c =
    let task = c.args.task.now in
    let rel = task.recipe.now.rel.now in
    let known = c.args.known.now in
    let b = c.args.b.now in
    let demands = c.in_ok-demands.demands in
    let one : c.where_calls.new.known ≡ known = c.in_ok-calls.ensures.kept in
    let two : c.demands_made.new.known ≡ c.where_calls.new.known = c.in_ok-demands.ensures.kept in
    let all : c.as_slice.result.now ≡ known.values = c.as_slice.ensures ∙ ap (λ (k : NumberedKnown). k.values) (two ∙ one) in
    let is : c.in_ok-entry.entry ≡ numbered_entry task.rel task.called b known.values demands
    = c.in_ok-entry.ensures ∙ ap (λ (vs : List (Option NumberedValue)). numbered_entry task.rel task.called b vs demands) all in
    λ terms. record {
      entry = ap (entry_in terms) is ∙ entry_shown terms task.rel rel task.called b known demands c.requires.places;
      calls = c.in_ok-calls.ensures.calls terms;
      demands = λ n.
          ap (λ (e : NumberedEntry). map (demand_of terms n) e.demands) is ∙ c.in_ok-demands.ensures.demands terms n
          ∙ ap (λ (k : NumberedKnown). item_demands task.program.now task.models.now (known_of terms k) n (target_items task.program.now rel)) one;
    }
