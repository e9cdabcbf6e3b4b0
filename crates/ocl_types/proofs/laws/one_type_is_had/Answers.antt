use Rattle.ocl_types.proofs.TypingDecides.{one_type}
use Rattle.ocl_types.proofs.laws.one_type_is_had.Goals as goal

pub returns : goal.returns
returns c = λ e p q one other. one_type c.args.env.now c.in_order.ensures e p q one other
