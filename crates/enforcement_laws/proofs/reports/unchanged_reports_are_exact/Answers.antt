use Rattle.enforcement_laws.proofs.UnchangedReports.{equal_is_unchanged, unchanged_is_equal}
use Rattle.enforcement_laws.proofs.reports.unchanged_reports_are_exact.Goals as goal

pub returns : goal.returns
returns c = λ program m demands report valid room sound is.
    (unchanged_is_equal program m demands report is room valid sound, equal_is_unchanged program m demands report is room)
