use Rattle.std.proofs.Common.{sym, subst}
use Rattle.qvtr_semantics.specs.Calls.{RelationCall}
use Rattle.relation_calls.specs.Memos.{IsMatching}
use Rattle.relation_calls.proofs.asking.is_match_kept.Goals as goal

pub returns-in_err-keep_match-clause-told : goal.returns-in_err-keep_match-clause-told
returns-in_err-keep_match-clause-told c =
    let p = c.args.program.now in
    let m = c.args.models.now in
    c.in_err-keep_match.ensures.told p m c.in_ok-one.ensures.told
    (subst (λ (d : RelationCall). IsMatching p m d c.in_ok-one.one) (sym c.requires.key) (record { value = c.in_ok-one.ensures.value; clean = c.in_ok-one.ensures.clean }))

pub returns-clause-told : goal.returns-clause-told
returns-clause-told c =
    let p = c.args.program.now in
    let m = c.args.models.now in
    c.in_ok-keep_match.ensures.told p m c.in_ok-one.ensures.told
    (subst (λ (d : RelationCall). IsMatching p m d c.in_ok-one.one) (sym c.requires.key) (record { value = c.in_ok-one.ensures.value; clean = c.in_ok-one.ensures.clean }))
