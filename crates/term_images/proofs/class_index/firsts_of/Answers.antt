-- The table has the first of the objects so far, and of one more.
use Rattle.std.specs.Prelude.{◌≡◌, ◌+◌, ◌++◌, ◌∷◌, ℕ, List, [], None, take}
use Rattle.std.specs.BTreeMap.{BTreeMap}
use Rattle.std.proofs.Common.{sym, subst, arith, get_or}
use Rattle.std.proofs.lemmas.List.{map_more}
use Rattle.object_tables.specs.declared.value.ObjId.{ObjId}
use Rattle.term_table.specs.declared.numbered.NumberedTerm.{NumberedTerm}
use Rattle.term_images.specs.KeyReadings.{HasKeyValues}
use Rattle.term_images.specs.ClassIndexes.{number_of, numbers_of, HasFirsts}
use Rattle.term_images.proofs.IndexLaws.{first_more, first_same}
use Rattle.term_images.proofs.class_index.firsts_of.Goals.{in-Some+in_ok-put_first, in_default}
use Rattle.term_images.proofs.class_index.firsts_of.Goals as goal

pub loop-object-preserved : goal.loop-object-preserved
loop-object-preserved c =
    let program = c.args.target.now.program.now in
    let m = c.args.target.now.model.now in
    let class = c.args.class.0 in
    let ps = c.args.props.now in
    let place = c.loop-object.object-index in
    let o : ObjId = get_or c.args.objects.now place (record { 0 = 0 }) in
    let os : List ℕ = numbers_of (take place c.args.objects.now) in
    let more : numbers_of (take (place + 1) c.args.objects.now) ≡ os ++ number_of o ∷ []
    = map_more number_of c.args.objects.now place (record { 0 = 0 }) (omega arith) in
    let Has : BTreeMap NumberedTerm ObjId → Type 0 = HasFirsts program m class ps (os ++ number_of o ∷ []) in
    let has : Has c.match-branch-2.firsts = elim c.match-branch-2.branch [
      | in-Some+in_ok-put_first w ↦ subst Has (sym w.firsts-is)
          (first_more program m class ps c.loop-object.firsts w.put_first.new.firsts os o w.in-Some.keys c.loop-object.invariant
          (subst (HasKeyValues program m (number_of o) ps) w.in-Some.is c.in_ok-keys.ensures) w.in_ok-put_first.ensures)
      | in_default w ↦ subst Has (sym w.firsts-is)
          (let none : c.in_ok-keys.field-0 ≡ None = cc in
          first_same program m class ps c.loop-object.firsts os o c.loop-object.invariant
          (subst (HasKeyValues program m (number_of o) ps) none c.in_ok-keys.ensures))
    ] in
    subst (λ (ns : List ℕ). HasFirsts program m class ps ns c.match-branch-2.firsts) (sym more) has
