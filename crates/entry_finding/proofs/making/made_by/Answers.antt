use Rattle.std.proofs.Common.{◌≡◌, List, [], ap, sym, subst, ◌∙◌}
use Rattle.std.specs.Prelude.{Option}
use Rattle.term_table.specs.declared.numbered.NumberedValue.{NumberedValue}
use Rattle.term_table.specs.TermTables.{values_in}
use Rattle.entry_making.specs.declared.numbered_known.NumberedKnown.{NumberedKnown}
use Rattle.entry_making.specs.Numbered.{known_of}
use Rattle.entry_finding.specs.declared.numbered_entry.NumberedEntry.{NumberedEntry}
use Rattle.entry_finding.specs.Found.{entry_in}
use Rattle.entry_finding.specs.Made.{numbered_entry, IsMadeBy}
use Rattle.entry_finding.proofs.MadeLaws.{entry_shown}
use Rattle.entry_finding.proofs.making.made_by.Goals as goal

pub returns-in_ok-entry-in-Some : goal.returns-in_ok-entry-in-Some
returns-in_ok-entry-in-Some c =
    let task = c.args.task.now in
    let rel = task.recipe.now.rel.now in
    let known = c.args.known.now in
    let b = c.args.b.now in
    let kept : c.unmet_place.new.known ≡ known = c.in_ok-place.ensures.kept in
    let all : c.as_slice.result.now ≡ known.values = c.as_slice.ensures ∙ ap (λ (k : NumberedKnown). k.values) kept in
    let is : c.in_ok-entry-in-Some.entry ≡ numbered_entry task.rel task.called b known.values []
    = c.in_ok-entry-in-Some.ensures ∙ ap (λ (vs : List (Option NumberedValue)). numbered_entry task.rel task.called b vs []) all in
    λ terms. record {
      entry = ap (entry_in terms) is ∙ entry_shown terms task.rel rel task.called b known [] c.requires.places;
      place = sym (c.in_ok-place.ensures.place terms) ∙ c.in-Some.is;
      demands = ap (λ (e : NumberedEntry). e.demands) is;
    }

pub returns-in_ok-met-in-None : goal.returns-in_ok-met-in-None
returns-in_ok-met-in-None c =
    let task = c.args.task.now in
    let kept : c.unmet_place.new.known ≡ c.args.known.now = c.in_ok-place.ensures.kept in
    λ terms. (
      sym (c.in_ok-place.ensures.place terms) ∙ c.in-None.is,
      subst (λ (k : NumberedKnown). IsMadeBy task.program.now task.models.now task.rel task.recipe.now.rel.now task.called (values_in terms c.args.b.now) (known_of terms k) terms c.in_ok-met-in-None.met) kept
          (c.in_ok-met-in-None.ensures terms),
    )
