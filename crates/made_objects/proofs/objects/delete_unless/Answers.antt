use Rattle.std.proofs.Common.{sym, subst, rules, ◌≡◌, false}
use Rattle.made_objects.specs.Headers.{KeepsWhere, is_spared}
use Rattle.made_objects.proofs.HeaderLaws.{keeps_others}
use Rattle.made_objects.proofs.objects.delete_unless.Goals as goal

pub returns-then-is_live : goal.returns-then-is_live
returns-then-is_live c =
    let m = c.args.made.now in
    let o = c.args.o.0 in
    let goes : c.args.stays ≡ false = search rules in
    subst (λ b. KeepsWhere m (is_spared o b) c.delete.new.self) (sym goes)
    (subst (KeepsWhere m (is_spared o false)) (sym c.delete.ensures) (keeps_others m o c.requires))
