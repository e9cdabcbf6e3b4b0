use Rattle.std.proofs.Common.{◌≡◌, ◌∙◌, Bool, true, List, Ok, ap, sym}
use Rattle.mof_metamodel.specs.declared.desc.MetaDesc.{MetaDesc}
use Rattle.qv_syntax.specs.declared.ty.Ty.{Ty}
use Rattle.ocl_environments.specs.declared.part.TypedPart.{TypedPart}
use Rattle.ocl_environments.specs.declared.variable.Variable.{Variable}
use Rattle.ocl_environments.specs.Agreement.{fits}
use Rattle.ocl_environments.specs.Lets.{let_variable}
use Rattle.ocl_environments.specs.Outcomes.{asking, wrong_type}
use Rattle.ocl_environments.proofs.lets.let_variable.Goals as goal

-- the variable, where the value's type conforms
bound : (metas : List MetaDesc) (ty : Ty) (value : TypedPart) (b : Bool) → b ≡ fits metas value.ty ty → b ≡ true
    → let_variable metas ty value ≡ Ok (record { ty = ty; model = value.model })
unfolding let_variable
bound metas ty value b test is =
    ap (λ (t : Bool). asking {X = Variable} t (wrong_type metas ty value.ty) (Ok (record { ty = ty; model = value.model }))) (sym test ∙ is)

pub returns : goal.returns
returns c = bound c.args.metas.now c.args.ty c.args.value.now c.fits.result c.fits.ensures.test c.if-not-fits.false
