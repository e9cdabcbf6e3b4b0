use Rattle.std.proofs.Common.{◌≡◌, map, nat_eq}
use Rattle.std.specs.Cmp.Lexicographic.{pointwise}
use Rattle.object_tables.specs.declared.value.ObjId.{ObjId}
use Rattle.enforce_mode.proofs.reporting.are_same_partners.Given as goal

abbrev pub invariant-loop-partner : goal.invariant-loop-partner
invariant-loop-partner l =
    pointwise nat_eq (map (λ (o : ObjId). o.0) l.partner-iterator) (map (λ (o : ObjId). o.0) l.others)
    ≡ pointwise nat_eq (map (λ (o : ObjId). o.0) l.initial.partner-iterator) (map (λ (o : ObjId). o.0) l.initial.others)
