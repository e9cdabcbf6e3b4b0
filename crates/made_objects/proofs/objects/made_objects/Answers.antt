use Rattle.std.proofs.Common.{sym, ◌≡◌, length, subst, arith}
use Rattle.std.proofs.lemmas.List.{length-map}
use Rattle.repair_semantics.specs.CandidateObjects.{unused_ids}
use Rattle.term_table.specs.TermTables.{term_at}
use Rattle.model_filling.specs.Unlinked.{HasNoLinks}
use Rattle.model_filling.specs.Counterparts.{HasObjectsOf}
use Rattle.made_objects.specs.Making.{terms_at, is_staying, made_of}
use Rattle.made_objects.proofs.HeaderLaws.{ids_kept}
use Rattle.made_objects.proofs.MadeLaws.{no_links_new, made_has_objects, made_count}
use Rattle.made_objects.proofs.objects.made_objects.Goals as goal

pub add_fresh-requires-clause-room : goal.add_fresh-requires-clause-room
add_fresh-requires-clause-room c =
    let m = c.args.target.now in
    let kept = c.in_ok-made.ensures in
    record {
      meta = kept.meta;
      numbers = kept.count;
      identifiers = ids_kept m c.in_ok-made.made (is_staying c.args.staying.now) kept;
      few = omega (arith, c.if-len-fresh.false, c.len.ensures);
      room = c.requires.room;
    }

pub returns-then-len-fresh-clause-many : goal.returns-then-len-fresh-clause-many
returns-then-len-fresh-clause-many c program claims =
    let m = c.args.target.now in
    let ts = terms_at c.args.table.now c.args.fresh.now in
    let many : length ts ≡ length c.args.fresh.now = length-map c.args.fresh.now (term_at c.args.table.now) in
    let all = made_count program m (is_staying c.args.staying.now) claims c.in_ok-made.made ts c.in_ok-made.ensures
    (omega (arith, many, c.requires.few, c.requires.room)) in
    omega (arith, all, many, c.if-len-fresh.true, c.len.ensures)

pub returns-clause-objects : goal.returns-clause-objects
returns-clause-objects c program claims =
    let m = c.args.target.now in
    let made = c.in_ok-made.made in
    let ts = terms_at c.args.table.now c.args.fresh.now in
    subst (λ new. HasObjectsOf new (made_of program m c.args.staying.now claims c.args.table.now c.args.fresh.now)) (sym c.in_ok-add_fresh.ensures)
    (made_has_objects program m (is_staying c.args.staying.now) claims made ts c.in_ok-made.ensures)

pub returns-clause-bare : goal.returns-clause-bare
returns-clause-bare c =
    let ts = terms_at c.args.table.now c.args.fresh.now in
    subst HasNoLinks (sym c.in_ok-add_fresh.ensures)
    (no_links_new c.in_ok-made.made ts (unused_ids c.args.target.now (length ts)) c.in_ok-made.ensures.bare)

pub returns-clause-few : goal.returns-clause-few
returns-clause-few c program claims =
    let m = c.args.target.now in
    let ts = terms_at c.args.table.now c.args.fresh.now in
    let many : length ts ≡ length c.args.fresh.now = length-map c.args.fresh.now (term_at c.args.table.now) in
    let all = made_count program m (is_staying c.args.staying.now) claims c.in_ok-made.made ts c.in_ok-made.ensures
    (omega (arith, many, c.requires.few, c.requires.room)) in
    omega (arith, all, many, c.if-len-fresh.false, c.len.ensures)
