use Rattle.std.proofs.Common.{◌≡◌, List, length, refl, sym, subst}
use Rattle.std.specs.Prelude.{Some, slice_get}
use Rattle.std.proofs.lemmas.Option.{slice_get_read}
use Rattle.std.proofs.lemmas.Bool.{ltb-true}
use Rattle.qv_syntax.specs.declared.program.Rel.{Rel}
use Rattle.relation_calls.proofs.JoinLaws.{join_sound}
use Rattle.relation_calls.proofs.joins.join_with.Goals as goal

pub returns-in_ok-variables-in-Some : goal.returns-in_ok-variables-in-Some
returns-in_ok-variables-in-Some c = λ clause among.
    let v = c.args.visit.now in
    let called = c.in-Some.called.now in
    let rels = c.as_slice.result.now in
    let found = subst (λ (rs : List Rel). slice_get rs c.args.number ≡ Some called) c.as_slice.ensures
    (slice_get_read rels (length rels) c.args.number called refl (ltb-true c.args.number (length rels) (sym c.in-Some.ensures.lookup.0)) c.in-Some.ensures.lookup.1) in
    join_sound v.program.now v.models.now c.args.number called found c.args.args.now (record { table = c.args.table; variables = c.in_ok-variables-in-Some.variables }) c.requires.matches
    c.in_ok-variables-in-Some.ensures clause among
