use Rattle.std.proofs.Common.{◌∙◌, sym, ap, Err}
use Rattle.ql_lex.proofs.Laws.{whole_form-ok, whole_form-cut, whole_form-fault, whole_form-fault_cut}
use Rattle.ql_lex.proofs.PlaceLaws.{place_cut, place_fault, place_fault_cut}
use Rattle.ql_lex.proofs.reading.read_front.Goals as goal

pub returns-in-Ok-read_whole-clause-value : goal.returns-in-Ok-read_whole-clause-value
returns-in-Ok-read_whole-clause-value c =
    (whole_form-ok c.args.bytes.now c.in-Ok.piece (sym c.in-Ok.ensures.value) c.in-Ok-read_whole.ensures.value.1, c.in-Ok-read_whole.ensures.value.0)

pub returns-in-Err-read_whole-clause-value : goal.returns-in-Err-read_whole-clause-value
returns-in-Err-read_whole-clause-value c =
    whole_form-cut c.args.bytes.now c.in-Ok.piece (sym c.in-Ok.ensures.value) c.in-Err-read_whole.ensures.value.0
    ∙ ap (λ f. Err f) (sym c.in-Err-read_whole.ensures.value.1)

pub returns-in-Ok-read_whole-2-clause-value : goal.returns-in-Ok-read_whole-2-clause-value
returns-in-Ok-read_whole-2-clause-value c =
    whole_form-fault c.args.bytes.now c.in-Err.fault (sym c.in-Err.ensures.value) c.in-Ok-read_whole-2.ensures.value.1

pub returns-in-Err-read_whole-2-clause-value : goal.returns-in-Err-read_whole-2-clause-value
returns-in-Err-read_whole-2-clause-value c =
    whole_form-fault_cut c.args.bytes.now c.in-Err.fault (sym c.in-Err.ensures.value) c.in-Err-read_whole-2.ensures.value.0
    ∙ ap (λ f. Err f) (sym c.in-Err-read_whole-2.ensures.value.1)

pub returns-in-Err-read_whole-clause-place : goal.returns-in-Err-read_whole-clause-place
returns-in-Err-read_whole-clause-place c =
    place_cut c.args.bytes.now c.in-Ok.piece c.in-Err-read_whole.bad (sym c.in-Ok.ensures.value) c.requires c.in-Ok.ensures.within.1
    c.in-Err-read_whole.ensures.value.0 c.in-Err-read_whole.ensures.value.1

pub returns-in-Ok-read_whole-2-clause-place : goal.returns-in-Ok-read_whole-2-clause-place
returns-in-Ok-read_whole-2-clause-place c = place_fault c.args.bytes.now c.in-Err.fault (sym c.in-Err.ensures.value) c.requires

pub returns-in-Err-read_whole-2-clause-place : goal.returns-in-Err-read_whole-2-clause-place
returns-in-Err-read_whole-2-clause-place c =
    place_fault_cut c.args.bytes.now c.in-Err.fault c.in-Err-read_whole-2.bad (sym c.in-Err.ensures.value) c.requires c.in-Err.ensures.before
    c.in-Err-read_whole-2.ensures.value.0 c.in-Err-read_whole-2.ensures.value.1
