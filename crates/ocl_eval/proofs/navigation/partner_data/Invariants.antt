use Rattle.std.proofs.Common.{◌≡◌, ◌++◌, map}
use Rattle.qvtr_semantics.specs.declared.datum.Datum.TheVariants.{Obj}
use Rattle.ocl_eval.proofs.navigation.partner_data.Given as goal

abbrev pub invariant-loop-partner : goal.invariant-loop-partner
invariant-loop-partner l = l.found ++ map (λ p. Obj l.number p) l.partner-iterator ≡ map (λ p. Obj l.number p) l.initial.partner-iterator
