use Rattle.std.proofs.Common.{sym}
use Rattle.ocl_eval.specs.Worlds.{setting_of}
use Rattle.ocl_eval.proofs.NavigationLaws.{nothing_held}
use Rattle.ocl_eval.proofs.navigation.held_by.Goals as goal

pub returns-else-has_attribute : goal.returns-else-has_attribute
returns-else-has_attribute c =
    nothing_held (setting_of c.args.world.now) c.args.number c.args.object.0 c.args.prop.0 c.in-Some.model.now c.has_reference.result c.has_attribute.result
    (sym c.in-Some.ensures) c.has_reference.ensures c.if-has_reference.false c.has_attribute.ensures c.if-has_attribute.false
