use Rattle.std.proofs.Common.{ap, sym, ◌∙◌, ◌≡◌, ◌<◌, ◌+◌, length, take, subst, arith}
use Rattle.std.proofs.lemmas.List.{length_push}
use Rattle.mof_metamodel.specs.Characters.{is_identifier_text}
use Rattle.object_tables.specs.Models.{IsAddable}
use Rattle.repair_semantics.specs.declared.term.Term.{Term, out-Term}
use Rattle.candidate_laws.specs.Placing.{IsConcrete}
use Rattle.candidate_laws.proofs.FreshIds.{fresh_id_text}
use Rattle.made_objects.specs.Making.{terms_at}
use Rattle.made_objects.specs.Headers.{unused_below}
use Rattle.made_objects.proofs.UnusedLaws.{enough_below, not_later}
use Rattle.made_objects.proofs.MadeLaws.{addable, long_terms, one_more_made, all_made}
use Rattle.made_objects.proofs.objects.add_fresh.Goals as goal

pub add_object-requires-clause-identifier : goal.add_object-requires-clause-identifier
add_object-requires-clause-identifier c =
    let found = c.in_ok-found.ensures in
    let room = c.requires.room in
    ap is_identifier_text found.id
    ∙ fresh_id_text found.place (omega (arith, found.within, c.loop-term.invariant.next, room.few, room.room, c.loop-term-test.true))

pub add_object-requires-clause-addable : goal.add_object-requires-clause-addable
add_object-requires-clause-addable c =
    let m = c.args.target.now in
    let i = c.loop-term.term-index in
    let next = c.loop-term.next in
    let fresh = c.args.fresh.now in
    let table = c.args.table.now in
    let found = c.in_ok-found.ensures in
    let class = c.at.result.now.class.0 in
    let id = c.in_ok-found.found.id in
    let within : i < length fresh = omega (arith, c.loop-term-test.true) in
    let many : length (terms_at table (take i fresh)) ≡ i = long_terms table fresh i within in
    let concrete : IsConcrete m.meta class =
    subst (λ (t : Term). IsConcrete m.meta (out-Term t).class.0) (sym c.at.ensures.term) (c.requires.concrete i 0 within) in
    subst (λ made. IsAddable made class id) (sym c.loop-term.invariant.made)
    (addable m c.args.made.now (length fresh) (terms_at table (take i fresh)) (unused_below m next) class id c.requires.room
    (omega (arith, many, within)) (c.loop-term.invariant.found ∙ sym many) concrete found.unused
    (λ x there same. not_later m next found.place x found.from_there
    (omega (arith, found.within, c.loop-term.invariant.next, c.requires.room.few, c.requires.room.room, within)) there (same ∙ found.id)))

pub loop-term-preserved : goal.loop-term-preserved
loop-term-preserved c =
    let m = c.args.target.now in
    let i = c.loop-term.term-index in
    let next = c.loop-term.next in
    let fresh = c.args.fresh.now in
    let table = c.args.table.now in
    let one = c.in_ok-found.found in
    let found = c.in_ok-found.ensures in
    let within : i < length fresh = omega (arith, c.loop-term-test.true) in
    let many : length (unused_below m one.next) ≡ i + 1 =
    ap (λ ids. length ids) found.ids ∙ length_push (unused_below m next) one.id ∙ ap (λ n. n + 1) c.loop-term.invariant.found in
    let room = c.requires.room in
    let enough = enough_below m one.next (omega (arith, found.next, found.within, c.loop-term.invariant.next, room.few, room.room, within)) in
    record {
      made = one_more_made m c.args.made.now c.loop-term.made c.add_object.new.made table fresh i next one c.at.result.now.class.0 within
          c.loop-term.invariant.found c.loop-term.invariant.made found (ap (λ (t : Term). (out-Term t).class.0) c.at.ensures.term)
          c.in_ok-add_object.ensures;
      found = many;
      next = omega (arith, enough, many);
    }

pub returns : goal.returns
returns c =
    let m = c.args.target.now in
    let whole : length c.args.fresh.now ≡ c.loop-term.term-index = omega arith in
    all_made m c.args.made.now c.loop-term.made c.args.table.now c.args.fresh.now c.loop-term.term-index c.loop-term.next whole
    c.loop-term.invariant.found (omega (arith, whole, c.loop-term.invariant.next, c.requires.room.few, c.requires.room.room))
    c.loop-term.invariant.made
