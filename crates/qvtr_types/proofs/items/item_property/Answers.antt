use Rattle.std.proofs.Common.{sym, ap}
use Rattle.ocl_environments.specs.declared.fault.TypeFault.TheVariants.{UnknownName}
use Rattle.script_scopes.specs.BorrowedPieces.{shown_property}
use Rattle.qvtr_types.proofs.TemplateLaws.{class_at, item_property_is}
use Rattle.qvtr_types.proofs.items.item_property.Goals as goal

pub property-requires : goal.property-requires
property-requires c = class_at c.args.scope.now (shown_property c.args.at) c.args.class c.requires

pub returns-in-Some-clause-is : goal.returns-in-Some-clause-is
returns-in-Some-clause-is c =
    item_property_is c.args.scope.now (shown_property c.args.at) c.args.class c.requires c.in-Some.found.0 c.in-Some.found.1 (sym c.in-Some.ensures.number) c.in-Some.ensures.typed

pub returns-in_ok-text-in-None-clause-fault : goal.returns-in_ok-text-in-None-clause-fault
returns-in_ok-text-in-None-clause-fault c =
    record { class = c.args.class; is_class = c.requires; lacks = sym c.in-None.ensures.number; is = ap UnknownName c.in_ok-text-in-None.ensures }
