use Rattle.std.proofs.Common.{refl, ap, sym, ◌∙◌, ◌≡◌, subst}
use Rattle.model_filling.specs.Unlinked.{without_links}
use Rattle.made_objects.specs.Making.{is_staying}
use Rattle.made_objects.specs.Headers.{KeepsWhere, is_left_from}
use Rattle.made_objects.proofs.HeaderLaws.{keeps_all, keeps_next}
use Rattle.made_objects.proofs.objects.staying_objects.Goals as goal

pub loop-o-init : goal.loop-o-init
loop-o-init c =
    let m = c.args.target.now in
    let stays = is_staying c.args.staying.now in
    let same : c.unlink_all.new.model ≡ without_links m = c.unlink_all.ensures ∙ ap without_links c.in_ok-made.ensures.equal in
    let kept : KeepsWhere m (is_left_from 0 stays) c.unlink_all.new.model =
    subst (KeepsWhere m (is_left_from 0 stays)) (sym same) (keeps_all m 0 stays refl) in
    record { kept = kept; end = c.end-o-end.ensures.number ∙ kept.count }

pub loop-o-preserved : goal.loop-o-preserved
loop-o-preserved c =
    let m = c.args.target.now in
    let stays = is_staying c.args.staying.now in
    record {
      kept = keeps_next m c.loop-o.made c.delete_unless.new.made c.loop-o.o (stays c.loop-o.o) stays refl c.loop-o.invariant.kept
          c.delete_unless.ensures;
      end = c.loop-o.invariant.end;
    }
