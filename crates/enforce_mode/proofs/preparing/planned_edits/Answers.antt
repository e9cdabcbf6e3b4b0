use Rattle.std.proofs.Common.{◌∙◌, ap, sym, subst}
use Rattle.object_tables.specs.Models.{ModelData}
use Rattle.enforce_mode.specs.Plans.{plan_demands}
use Rattle.enforce_mode.specs.Reports.{HasClassesOf, updated_count, deleted_count}
use Rattle.enforce_mode.proofs.MadeLaws.{classes_kept, fresh_count}
use Rattle.enforce_mode.proofs.preparing.planned_edits.Goals as goal

pub report-report-requires : goal.report-report-requires
report-report-requires c =
    let p = c.args.plan.now in
    subst (HasClassesOf p.target.now) (sym c.in_ok-made.ensures.made) (classes_kept p.program.now p.target.now (plan_demands p))

pub returns-clause-report : goal.returns-clause-report
returns-clause-report c =
    let p = c.args.plan.now in
    record {
      created = c.report-report.ensures.created ∙ c.len.ensures
          ∙ fresh_count p.program.now p.target.now p.numbered.table.now p.numbered.list.now p.numbered.terms.now p.numbers.now.objects.items
          p.numbers.now.images p.numbers.now.fresh c.requires.placed c.requires.numbered;
      updated = c.report-report.ensures.updated ∙ ap (λ (n : ModelData). updated_count p.target.now n) c.in_ok-made.ensures.made;
      deleted = c.report-report.ensures.deleted ∙ ap (λ (n : ModelData). deleted_count p.target.now n) c.in_ok-made.ensures.made;
      unchanged = c.report-report.ensures.unchanged;
    }
